-- The first words of commands, and what each line says (this project's own rules): a row for each command in each of the tables.
use Rattle.std.specs.Prelude.{ℕ, List, [], ◌∷◌, codes, find, Option}
use Rattle.std.specs.Str.{bytes_eq}
use Rattle.ax_words.specs.Arguments.{Arguments, one_file, catalogue, expression, editions, expansion, numbers, TakesCount}
use Rattle.ax_words.specs.declared.line.Line.{Line}
use Rattle.ax_words.specs.declared.line.Line.TheVariants as LineOf
use Rattle.ax_words.specs.declared.line.Verb.{Verb}
use Rattle.ax_words.specs.declared.line.Verb.TheVariants.{Check, Canon, Show, Text, Build, Filter, Migrate, Trial, Salvage, Expand, Convert}
use Rattle.ax_words.specs.declared.shape.Shape.{Shape}
use Rattle.ax_words.specs.declared.shape.Shape.TheVariants.{OneFile, Catalogue, Expression, Editions, Expansion, Numbers}

abbrev pub verbs : List Verb
verbs = Check ∷ Canon ∷ Show ∷ Text ∷ Build ∷ Filter ∷ Migrate ∷ Trial ∷ Salvage ∷ Expand ∷ Convert ∷ []

-- the word that names each, and the shape of the words after it
abbrev pub usage_of : Verb → List ℕ × Shape
usage_of Check = (codes "check", OneFile)
usage_of Canon = (codes "canon", Catalogue)
usage_of Show = (codes "show", Catalogue)
usage_of Text = (codes "text", Catalogue)
usage_of Build = (codes "build", Catalogue)
usage_of Filter = (codes "filter", Expression)
usage_of Migrate = (codes "migrate", Editions)
usage_of Trial = (codes "trial", Numbers)
usage_of Salvage = (codes "salvage", Catalogue)
usage_of Expand = (codes "expand", Expansion)
usage_of Convert = (codes "convert", Editions)

abbrev pub name_of : Verb → List ℕ
name_of verb = (usage_of verb).0

abbrev pub shape_of : Verb → Shape
shape_of verb = (usage_of verb).1

-- what the words of a line say: a verb with its arguments, or a word that stands alone
pub data Said : Type 0 where
  of_verb : Verb → Arguments → Said
  alone : List ℕ → Said

abbrev pub said : Line → Said
said (LineOf.Check file) = of_verb Check (one_file file)
said (LineOf.Canon files) = of_verb Canon (catalogue files)
said (LineOf.Show files) = of_verb Show (catalogue files)
said (LineOf.Text files) = of_verb Text (catalogue files)
said (LineOf.Build files) = of_verb Build (catalogue files)
said (LineOf.Filter expr files) = of_verb Filter (expression expr files)
said (LineOf.Migrate old new) = of_verb Migrate (editions old new)
said (LineOf.Trial file seed count) = of_verb Trial (numbers file seed count)
said (LineOf.Salvage files) = of_verb Salvage (catalogue files)
said (LineOf.Expand spec other) = of_verb Expand (expansion spec other)
said (LineOf.Convert old new) = of_verb Convert (editions old new)
said LineOf.Help = alone (codes "--help")
said LineOf.Version = alone (codes "--version")

-- the first verb that the word names
unfoldable pub verb_named : List ℕ → Option Verb
verb_named word = find (λ verb. bytes_eq (name_of verb) word) verbs

-- how many words may stand after it
abbrev pub TakesWords : Verb → ℕ → Type 0
TakesWords verb count = TakesCount (shape_of verb) count
