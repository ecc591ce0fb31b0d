-- What tokens spell, and where the reader of a specification stops: at the first bad token.
use Rattle.std.proofs.Common.{◌≡◌, ℕ, ◌-◌, ◌≤◌, List, [], length, Err}
use Rattle.ax_format.specs.Specification.{SpecTree}
use Rattle.ax_tokens.specs.PlainToken.{PlainToken}
use Rattle.ax_tokens.specs.FirstBad.{FirstBad}
use Rattle.ax_tokens.proofs.Bad.{first_bad_once}
use Rattle.ax_grammar.specs.Spelling.{spelled}
use Rattle.ax_grammar.specs.InRange.{InRange}
use Rattle.ax_grammar.specs.Answers.{texts_of, SpellsSpec, IsSpec, NamesBadToken}
use Rattle.ax_grammar.specs.Parsing.{Texts, Parsed}
use Rattle.ax_grammar.specs.Rules.{spec_at, whole_at}
use Rattle.ax_grammar.proofs.Complete.{spec_read}
use Rattle.ax_grammar.proofs.Languages as Language
use Rattle.ax_grammar.proofs.Languages.{Reads}
use Rattle.ax_grammar.proofs.Recursion.{reads}
use Rattle.ax_grammar.proofs.Sound.{spec_found}
use Rattle.ax_grammar.proofs.SteadyRules.{spec_steady}

abbrev stops : Texts → Parsed SpecTree
stops rest = Err rest

spec_reads : Reads spec_at InRange spelled
spec_reads = record { complete = spec_read; sound = spec_found; steady = spec_steady }

pub whole_read : (spec : SpecTree) → InRange spec → whole_at (spelled spec) ≡ reads spec []
unfolding whole_at
whole_read = Language.all_read SpecTree spec_at InRange spelled spec_reads

-- the count of the texts that are left is that of the code
pub names_bad : (tokens : List PlainToken) (after : Texts) → whole_at (texts_of tokens) ≡ stops after → FirstBad IsSpec (texts_of tokens) (length tokens - length after)
unfolding whole_at
names_bad = Language.names_bad SpecTree spec_at InRange spelled spec_reads

pub stops_within : (tokens : List PlainToken) (after : Texts) → whole_at (texts_of tokens) ≡ stops after → length after ≤ length tokens
unfolding whole_at
stops_within = Language.stops_within SpecTree spec_at InRange spelled spec_reads

-- the texts of a tree in range are read, so nothing that stops the reader spells one
pub stops_none : (tokens : List PlainToken) (after : Texts) → whole_at (texts_of tokens) ≡ stops after → (spec : SpecTree) → SpellsSpec tokens spec → ⊥
unfolding whole_at
stops_none tokens after e spec s = Language.stops_none SpecTree spec_at InRange spelled spec_reads (texts_of tokens) after spec e s.in_range s.texts

-- what is read is spelled by the tokens, and by nothing else
pub read_spells : (tokens : List PlainToken) (spec : SpecTree) (rest : Texts) → whole_at (texts_of tokens) ≡ reads spec rest → SpellsSpec tokens spec
unfolding whole_at
read_spells tokens spec rest e = let w = Language.all_found SpecTree spec_at InRange spelled spec_reads (texts_of tokens) rest spec e in record { in_range = w.0; texts = w.1 }

pub read_is : (tokens : List PlainToken) (spec other : SpecTree) (rest : Texts) → whole_at (texts_of tokens) ≡ reads spec rest → SpellsSpec tokens other → spec ≡ other
unfolding whole_at
read_is tokens spec other rest e s = Language.read_is SpecTree spec_at InRange spelled spec_reads (texts_of tokens) rest spec other e s.in_range s.texts

-- tokens have one bad token
pub bad_token_once : (tokens : List PlainToken) (token other : ℕ) → NamesBadToken tokens token → NamesBadToken tokens other → token ≡ other
bad_token_once tokens token other h k = first_bad_once IsSpec (texts_of tokens) token other h k

-- and spell nothing
pub bad_spells_none : (tokens : List PlainToken) (token : ℕ) (spec : SpecTree) → NamesBadToken tokens token → SpellsSpec tokens spec → ⊥
bad_spells_none tokens token spec bad s = bad.no_member (spec, s.in_range, s.texts)
