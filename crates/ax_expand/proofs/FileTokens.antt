-- What tokens spell as an expansion, and where its reader stops: at the first bad token.
use Rattle.std.proofs.Common.{ℕ, ◌≡◌, ◌-◌, ◌≤◌, List, [], length, Err}
use Rattle.ax_grammar.proofs.Languages as Language
use Rattle.ax_grammar.proofs.Recursion.{reads}
use Rattle.ax_grammar.specs.Answers.{texts_of}
use Rattle.ax_grammar.specs.Parsing.{Texts, Parsed}
use Rattle.ax_tokens.proofs.Bad.{first_bad_once}
use Rattle.ax_tokens.specs.PlainToken.{PlainToken}
use Rattle.ax_expand.proofs.FileRules.{expansion_reads}
use Rattle.ax_expand.specs.Expansion.{ExpansionTree}
use Rattle.ax_expand.specs.Files.{expansion_texts, ExpansionInRange, SpellsExpansion, IsExpansion, NamesBadExpansionToken}
use Rattle.ax_expand.specs.Rules.{expansion_at, whole_at}

abbrev stops : Texts → Parsed ExpansionTree
stops rest = Err rest

-- the count of the texts that are left is that of the code
pub names_bad : (tokens : List PlainToken) (after : Texts) → whole_at (texts_of tokens) ≡ stops after → NamesBadExpansionToken tokens (length tokens - length after)
unfolding whole_at
names_bad = Language.names_bad ExpansionTree expansion_at ExpansionInRange expansion_texts expansion_reads

pub stops_within : (tokens : List PlainToken) (after : Texts) → whole_at (texts_of tokens) ≡ stops after → length after ≤ length tokens
unfolding whole_at
stops_within = Language.stops_within ExpansionTree expansion_at ExpansionInRange expansion_texts expansion_reads

-- the texts of a tree in range are read, so nothing that stops the reader spells one
pub stops_none : (tokens : List PlainToken) (after : Texts) → whole_at (texts_of tokens) ≡ stops after → (x : ExpansionTree) → SpellsExpansion tokens x → ⊥
unfolding whole_at
stops_none tokens after e x s = Language.stops_none ExpansionTree expansion_at ExpansionInRange expansion_texts expansion_reads (texts_of tokens) after x e s.in_range s.texts

-- what is read is spelled by the tokens, and by nothing else
pub read_spells : (tokens : List PlainToken) (x : ExpansionTree) (rest : Texts) → whole_at (texts_of tokens) ≡ reads x rest → SpellsExpansion tokens x
unfolding whole_at
read_spells tokens x rest e = let w = Language.all_found ExpansionTree expansion_at ExpansionInRange expansion_texts expansion_reads (texts_of tokens) rest x e in record { in_range = w.0; texts = w.1 }

pub read_is : (tokens : List PlainToken) (x y : ExpansionTree) (rest : Texts) → whole_at (texts_of tokens) ≡ reads x rest → SpellsExpansion tokens y → x ≡ y
unfolding whole_at
read_is tokens x y rest e s = Language.read_is ExpansionTree expansion_at ExpansionInRange expansion_texts expansion_reads (texts_of tokens) rest x y e s.in_range s.texts

-- tokens have one bad token
pub bad_expansion_once : (tokens : List PlainToken) (token other : ℕ) → NamesBadExpansionToken tokens token → NamesBadExpansionToken tokens other → token ≡ other
bad_expansion_once tokens token other h k = first_bad_once IsExpansion (texts_of tokens) token other h k

-- and spell nothing
pub bad_spells_none : (tokens : List PlainToken) (token : ℕ) (x : ExpansionTree) → NamesBadExpansionToken tokens token → SpellsExpansion tokens x → ⊥
bad_spells_none tokens token x bad s = bad.no_member (x, s.in_range, s.texts)

pub spelled_once : (x y : ExpansionTree) → ExpansionInRange x → ExpansionInRange y → expansion_texts x ≡ expansion_texts y → x ≡ y
spelled_once x y h k e =
    Language.read_is ExpansionTree expansion_at ExpansionInRange expansion_texts expansion_reads (expansion_texts x) [] x y (Language.all_read ExpansionTree expansion_at ExpansionInRange expansion_texts expansion_reads x h) k e
