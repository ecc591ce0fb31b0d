pub mod ConvertCommand
pub mod Making
pub mod OfCode
pub mod Standing
