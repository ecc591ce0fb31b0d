pub mod Compiling
pub mod ExtentSteps
pub mod Growing
pub mod NodeOctets
pub mod NodeRowLists
pub mod BareKinds
pub mod Tables
