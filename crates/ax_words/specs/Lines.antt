-- What the matches of a subcommand answer.
use Rattle.std.specs.Prelude.{◌≡◌, ◌<◌, List, suc, length, codes, IfSome, MatchResult, Result, Ok, Err}
use Rattle.std.specs.List.{AllByRecursion}
use Rattle.clap.specs.Walk.{Row, Text, all_of}
use Rattle.ax_words.specs.Arguments.{Arguments, AreInBounds, TakesCount, shape_of_arguments, words_after}
use Rattle.ax_words.specs.Found.{found}
use Rattle.ax_words.specs.Verbs.{Said, of_verb, alone, said, shape_of}
use Rattle.ax_words.specs.Words.{IsPlain}
use Rattle.ax_words.specs.declared.error.WordsError.{WordsError}
use Rattle.ax_words.specs.declared.error.WordsError.TheVariants as ErrorOf
use Rattle.ax_words.specs.declared.line.Line.{Line}
use Rattle.ax_words.specs.declared.line.Verb.{Verb}
use Rattle.ax_words.specs.declared.shape.Shape.{Shape}

-- the words that may stand after a verb of this shape: as many as it takes, none that begins with `-`
pub record AreTaken (shape : Shape) (words : List Text) : Type 0 where
  pub counted : TakesCount shape (length words)
  pub plain : AllByRecursion IsPlain words
  pub few : suc (length words) < 4294967296

-- the words after a verb say these arguments
pub record Says (words : List Text) (arguments : Arguments) : Type 0 where
  pub words_are : words ≡ words_after arguments
  pub in_bounds : AreInBounds arguments

-- the arguments are what the words say; Usage comes where they say none of this shape
abbrev pub JudgesArguments : Shape → List Text → Result Arguments WordsError → Type 0
JudgesArguments shape words (Ok arguments) = Says words arguments
JudgesArguments shape words (Err ErrorOf.Usage) = (arguments : Arguments) → shape_of_arguments arguments ≡ shape → Says words arguments → ⊥
JudgesArguments shape words (Err ErrorOf.OutOfMemory) = Unit {0}

-- the result judges the words of this shape for which clap finds these rows
abbrev pub AnswersRows : Shape → List Row → Result Arguments WordsError → Type 0
AnswersRows shape rows result = (words : List Text) → AreTaken shape words → rows ≡ found shape words → JudgesArguments shape words result

-- the same of a result with parts of the arguments
abbrev pub Gives : {T : Type 0} → Shape → (T → Arguments) → List Row → Result T WordsError → Type 0
Gives shape arguments rows result = MatchResult result (λ parts. AnswersRows shape rows (Ok (arguments parts))) (λ e. AnswersRows shape rows (Err e))

-- what is said has this verb, and its arguments answer the rows
abbrev pub IsOfVerb : Verb → List Row → Said → Type 0
IsOfVerb verb rows (of_verb other arguments) = (other ≡ verb) × AnswersRows (shape_of verb) rows (Ok arguments)
IsOfVerb verb rows (alone word) = ⊥

-- the line of a verb for which clap finds these rows
abbrev pub IsLineOf : Verb → List Row → Result Line WordsError → Type 0
IsLineOf verb rows result = MatchResult result (λ line. IsOfVerb verb rows (said line)) (λ e. AnswersRows (shape_of verb) rows (Err e))

-- fewer than 2^32 words stand under SPEC
abbrev pub HasFewFiles : List Row → Type 0
HasFewFiles rows = IfSome (all_of (codes "SPEC") rows) (λ files. length files < 4294967296)
