pub mod RowLists
pub mod SlotSteps
pub mod StandingRows
