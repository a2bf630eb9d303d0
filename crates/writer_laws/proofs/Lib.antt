pub mod PutLaws
pub mod SizeLaws
pub mod ColumnTests
pub mod SoundTests
pub mod WriteLaws
pub mod BytesLaws
pub mod RoundTrips
