pub mod ByPlaces
pub mod Fronts
pub mod InputExamples
pub mod Judged
pub mod WorkedExamples
