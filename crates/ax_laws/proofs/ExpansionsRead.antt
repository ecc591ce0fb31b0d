-- Tokens spell an expansion, or one of them is the first bad one.
use Rattle.std.proofs.Common.{◌≡◌, ℕ, ◌-◌, ◌⊎◌, inl, inr, List, length, Ok, Err, refl}
use Rattle.ax_expand.proofs.FileTokens.{names_bad, read_spells}
use Rattle.ax_expand.specs.Expansion.{ExpansionTree}
use Rattle.ax_expand.specs.Files.{SpellsExpansion, NamesBadExpansionToken}
use Rattle.ax_expand.specs.Rules.{whole_at}
use Rattle.ax_grammar.specs.Answers.{texts_of}
use Rattle.ax_grammar.specs.Parsing.{Parsed}
use Rattle.ax_tokens.specs.PlainToken.{PlainToken}

pub expansion_or_bad : (tokens : List PlainToken) → ((x : ExpansionTree) × SpellsExpansion tokens x) ⊎ ((token : ℕ) × NamesBadExpansionToken tokens token)
expansion_or_bad tokens = by (whole_at (texts_of tokens)) refl
  where
    by : (read : Parsed ExpansionTree) → whole_at (texts_of tokens) ≡ read → ((x : ExpansionTree) × SpellsExpansion tokens x) ⊎ ((token : ℕ) × NamesBadExpansionToken tokens token)
    by (Ok x) e = inl (x.0, read_spells tokens x.0 x.1 e)
    by (Err after) e = inr (length tokens - length after, names_bad tokens after e)
