pub mod FilterCommand
pub mod Laid
