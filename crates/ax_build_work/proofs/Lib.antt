pub mod Built
pub mod Once
pub mod PrintedLines
