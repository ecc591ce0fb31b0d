mod MadeBlocks
mod MemberPresence
mod OpaqueTokens
mod Widths
pub mod AbsentItems
pub mod BlockVerdicts
pub mod BlocksRead
pub mod BuiltThere
pub mod CanonSums
pub mod CanonWritten
pub mod Converting
pub mod ExpansionExamples
pub mod ExpansionsRead
pub mod ExpressionsRead
pub mod FilesThere
pub mod FilteredBlocks
pub mod FiltersRead
pub mod FixedRead
pub mod GrammarSteps
pub mod HexRead
pub mod JudgedContents
pub mod KeyCounts
pub mod KeyFates
pub mod KindsRead
pub mod LineAnswersThere
pub mod LinedThere
pub mod LoadsTaken
pub mod NumbersRead
pub mod OneAnswer
pub mod PathPlaces
pub mod PathValues
pub mod PathsRead
pub mod PlacedNames
pub mod Readers
pub mod SomeAnswer
pub mod StreamThere
pub mod TokensRead
pub mod TrialThere
pub mod WordsRead
pub mod WorkedLines
pub mod WorkedScales
pub mod WorkedValues
