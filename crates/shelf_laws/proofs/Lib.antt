pub mod Moves
pub mod PartLaws
pub mod FitParts
pub mod SlotLaws
pub mod NameLaws
pub mod EntryLaws
