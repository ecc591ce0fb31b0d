pub mod FieldOctets
pub mod KindDraws
pub mod Left
pub mod Pushing
pub mod RecordDraws
pub mod SlotDraws
pub mod Spelled
