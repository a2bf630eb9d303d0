pub mod PairLaws
pub mod CauseLaws
pub mod RowParts
pub mod Squares
pub mod SquareRows
pub mod WalkStates
pub mod EntryLaws
