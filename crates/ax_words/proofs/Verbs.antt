-- What each command's own names and literals compute to: a row for each command in each of the tables.
use Rattle.std.proofs.Common.{◌≡◌, ◌⊎◌, Some, refl, codes, inl, inr}
use Rattle.ax_words.specs.Arguments.{shape_of_arguments}
use Rattle.ax_words.specs.Verbs.{name_of, shape_of, verb_named, Said, of_verb, alone, said}
use Rattle.ax_words.specs.Words.{IsPlain}
use Rattle.ax_words.specs.declared.line.Line.{Line}
use Rattle.ax_words.specs.declared.line.Line.TheVariants as LineOf
use Rattle.ax_words.specs.declared.line.Verb.{Verb}
use Rattle.ax_words.specs.declared.line.Verb.TheVariants.{Check, Canon, Show, Text, Build, Filter, Migrate, Trial, Salvage, Expand, Convert}

-- what the name of a verb computes to
pub record IsVerb (v : Verb) : Type 0 where
  pub named : verb_named (name_of v) ≡ Some v  -- no other verb has the name
  pub plain : IsPlain (name_of v)

pub verb_row : (v : Verb) → IsVerb v
unfolding verb_named
verb_row Check = record { named = refl; plain = refl }
verb_row Canon = record { named = refl; plain = refl }
verb_row Show = record { named = refl; plain = refl }
verb_row Text = record { named = refl; plain = refl }
verb_row Build = record { named = refl; plain = refl }
verb_row Filter = record { named = refl; plain = refl }
verb_row Migrate = record { named = refl; plain = refl }
verb_row Trial = record { named = refl; plain = refl }
verb_row Salvage = record { named = refl; plain = refl }
verb_row Expand = record { named = refl; plain = refl }
verb_row Convert = record { named = refl; plain = refl }

-- the arguments have the shape of the verb, and a word that stands alone is one of these two
abbrev pub IsShaped : Said → Type 0
IsShaped (of_verb v a) = shape_of v ≡ shape_of_arguments a
IsShaped (alone w) = (w ≡ codes "--help") ⊎ (w ≡ codes "--version")

pub said_shape : (line : Line) → IsShaped (said line)
said_shape (LineOf.Check file) = refl
said_shape (LineOf.Canon files) = refl
said_shape (LineOf.Show files) = refl
said_shape (LineOf.Text files) = refl
said_shape (LineOf.Build files) = refl
said_shape (LineOf.Filter expr files) = refl
said_shape (LineOf.Migrate old new) = refl
said_shape (LineOf.Trial file seed count) = refl
said_shape (LineOf.Salvage files) = refl
said_shape (LineOf.Expand spec other) = refl
said_shape (LineOf.Convert old new) = refl
said_shape LineOf.Help = inl refl
said_shape LineOf.Version = inr refl

-- lines that say the same are the same
pub same_line : (a b : Line) → said a ≡ said b → a ≡ b
same_line (LineOf.Check f) (LineOf.Check g) e = cc
same_line (LineOf.Canon f) (LineOf.Canon g) e = cc
same_line (LineOf.Show f) (LineOf.Show g) e = cc
same_line (LineOf.Text f) (LineOf.Text g) e = cc
same_line (LineOf.Build f) (LineOf.Build g) e = cc
same_line (LineOf.Filter d f) (LineOf.Filter h g) e = cc
same_line (LineOf.Migrate c d) (LineOf.Migrate f g) e = cc
same_line (LineOf.Trial f n m) (LineOf.Trial g k l) e = cc
same_line (LineOf.Salvage f) (LineOf.Salvage g) e = cc
same_line (LineOf.Expand c d) (LineOf.Expand f g) e = cc
same_line (LineOf.Convert c d) (LineOf.Convert f g) e = cc
same_line LineOf.Help LineOf.Help e = refl
same_line LineOf.Version LineOf.Version e = refl
same_line a b e = cc
