pub mod RowView
