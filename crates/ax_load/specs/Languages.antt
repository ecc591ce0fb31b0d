-- The kinds of files that are loaded.
use Rattle.std.specs.Prelude.{◌≡◌, ℕ, List}
use Rattle.ax_expand.specs.Expansion.{ExpansionTree, expansion_flaws}
use Rattle.ax_expand.specs.Files.{SpellsExpansion, NamesBadExpansionToken}
use Rattle.ax_grammar.specs.Answers.{SpellsSpec, NamesBadToken}
use Rattle.ax_format.specs.Flaws.{flaws_of}
use Rattle.ax_format.specs.Specification.{SpecTree}
use Rattle.ax_format.specs.declared.flaw.Flaw.{Flaw}
use Rattle.ax_tokens.specs.PlainToken.{PlainToken}

-- which tokens spell which tree, which token is the first bad one, and the flaws of a tree
pub record Language (T : Type 0) : Type 1 where
  pub Spells : List PlainToken → T → Type 0
  pub NamesBad : List PlainToken → ℕ → Type 0
  pub flaws : T → List Flaw

-- category files
abbrev pub category_files : Language SpecTree
category_files = record { Spells = SpellsSpec; NamesBad = NamesBadToken; flaws = flaws_of }

-- expansion files
abbrev pub expansion_files : Language ExpansionTree
expansion_files = record { Spells = SpellsExpansion; NamesBad = NamesBadExpansionToken; flaws = expansion_flaws }
