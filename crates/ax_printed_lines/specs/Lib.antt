pub mod Builds
pub mod Digits
pub mod Laid
pub mod Printed
pub mod Runs
