-- Tokens spell a specification, or one of them is the first bad one.
use Rattle.std.proofs.Common.{◌≡◌, ℕ, ◌-◌, ◌⊎◌, inl, inr, List, length, Ok, Err, refl}
use Rattle.ax_format.specs.Specification.{SpecTree}
use Rattle.ax_grammar.proofs.BadTokens.{names_bad, read_spells}
use Rattle.ax_grammar.specs.Answers.{texts_of, SpellsSpec, NamesBadToken}
use Rattle.ax_grammar.specs.Parsing.{Parsed}
use Rattle.ax_grammar.specs.Rules.{whole_at}
use Rattle.ax_tokens.specs.PlainToken.{PlainToken}

pub spec_or_bad : (tokens : List PlainToken) → ((spec : SpecTree) × SpellsSpec tokens spec) ⊎ ((token : ℕ) × NamesBadToken tokens token)
spec_or_bad tokens = by (whole_at (texts_of tokens)) refl
  where
    by : (read : Parsed SpecTree) → whole_at (texts_of tokens) ≡ read → ((spec : SpecTree) × SpellsSpec tokens spec) ⊎ ((token : ℕ) × NamesBadToken tokens token)
    by (Ok x) e = inl (x.0, read_spells tokens x.0 x.1 e)
    by (Err after) e = inr (length tokens - length after, names_bad tokens after e)
