-- What clap finds of the words after a verb, by their shape.
use Rattle.std.specs.Prelude.{◌≡◌, ◌⊎◌, List, [], ◌∷◌, Option, Some, None, codes, take, drop}
use Rattle.clap.specs.Values.{reading_of}
use Rattle.clap.specs.Walk.{Row, Text, all_of, first_of, rows_of}
use Rattle.clap.specs.Words.{found_of}
use Rattle.clap.specs.declared.builder.value_parser.ValueParser.TheVariants as parser
use Rattle.clap.specs.declared.parser.matches.ArgMatches.{ArgMatches}
use Rattle.clap.specs.declared.parser.matches.ValueSource.TheVariants.{CommandLine}
use Rattle.ax_words.specs.declared.error.WordsError.{WordsError}
use Rattle.ax_words.specs.declared.error.WordsError.TheVariants.{OutOfMemory}
use Rattle.ax_words.specs.declared.shape.Shape.{Shape}
use Rattle.ax_words.specs.declared.shape.Shape.TheVariants.{OneFile, Catalogue, Expression, Editions, Expansion, Numbers}

-- the row of words that were given
abbrev pub given : Text → List Text → Row
given id values = record { id = id; values = values; count = None; source = Some CommandLine; reading = reading_of parser.String }

-- the first word under one name, and those after it under another
abbrev pub given_two : Text → Text → List Text → List Row
given_two first second words = given first (take 1 words) ∷ given second (drop 1 words) ∷ []

abbrev pub found : Shape → List Text → List Row
found OneFile words = given (codes "SPEC") words ∷ []
found Catalogue words = given (codes "SPEC") words ∷ []
found Expression words = given_two (codes "EXPR") (codes "SPEC") words
found Editions words = given_two (codes "OLD") (codes "NEW") words
found Expansion words = given_two (codes "SPEC") (codes "EXPANSION") words
found Numbers words = given (codes "SPEC") (take 1 words) ∷ given_two (codes "SEED") (codes "COUNT") (drop 1 words)

-- the first word that was found under that name
abbrev pub word_under : Text → ArgMatches → Option Text
word_under id matches = first_of id (rows_of (found_of matches))

-- the words that were found for SPEC
abbrev pub spec_words : ArgMatches → Option (List Text)
spec_words matches = all_of (codes "SPEC") (rows_of (found_of matches))

-- none were, or memory ran out
abbrev pub LacksSpecs : ArgMatches → WordsError → Type 0
LacksSpecs matches e = (e ≡ OutOfMemory) ⊎ (spec_words matches ≡ None)
