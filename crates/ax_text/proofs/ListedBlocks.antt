-- The ways out of the functions that list blocks.
use Rattle.std.proofs.Common.{◌≡◌, ℕ, List, [], ◌∷◌, ◌++◌, length, codes, decimal, refl, sym, ◌∙◌, ap, append-nil}
use Rattle.ax_format.specs.CanonicalOctets.{canon_length}
use Rattle.ax_format.specs.Lengths.{capped}
use Rattle.ax_format.specs.Plain.{records_tree, block_tree}
use Rattle.ax_format.specs.Specification.{SpecTree}
use Rattle.ax_format.specs.declared.record.Block.{Block}
use Rattle.ax_format.specs.declared.record.Block.TheVariants as BlockOf
use Rattle.ax_format.specs.declared.record.Record.{Record}
use Rattle.ax_text_form.specs.Printing.{as_lines, Puts}
use Rattle.ax_text_form.specs.ShowText.{records_lines, block_front, OpaqueShown, ShowText}
use Rattle.ax_text_form.specs.ValueText.{Texts, one_onto}
use Rattle.ax_text_form.proofs.Printed.{both_put}

-- lines that were put, with none after them
whole_put : (onto : Texts → Texts) (old new : List ℕ) → Puts as_lines onto old new → new ≡ old ++ as_lines (onto [])
whole_put onto old new p = sym (append-nil new) ∙ p.put []

record_count : (rs : List Record) → length (records_tree rs) ≡ length rs
record_count [] = refl
record_count (r ∷ rs) = ap (λ n. ℕ.suc n) (record_count rs)

pub read_listed : (spec : SpecTree) (block : Block) (n category octets count : ℕ) (rs : List Record) (a b c : List ℕ) → block ≡ BlockOf.Read category rs → octets ≡ capped (canon_length spec (block_tree block)) → count ≡ length rs
    → Puts as_lines (one_onto (block_front n category octets ++ codes " records " ++ decimal count)) a b → Puts as_lines (records_lines spec 0 (records_tree rs)) b c → c ≡ a ++ ShowText spec (block_tree block) n
read_listed spec block n category octets count rs a b c is same counted p q =
    whole_put (λ rest. (block_front n category octets ++ codes " records " ++ decimal count) ∷ records_lines spec 0 (records_tree rs) rest) a c
    (both_put (one_onto (block_front n category octets ++ codes " records " ++ decimal count)) (records_lines spec 0 (records_tree rs)) a b c p q)
    ∙ (λ i. a ++ as_lines ((block_front n category ((same ∙ ap (λ block. capped (canon_length spec (block_tree block))) is) i) ++ codes " records " ++ decimal ((counted ∙ sym (record_count rs)) i)) ∷ records_lines spec 0 (records_tree rs) []))
    ∙ ap (λ block. a ++ ShowText spec (block_tree block) n) (sym is)

pub opaque_listed : (spec : SpecTree) (block : Block) (n category : ℕ) (content a b : List ℕ) → block ≡ BlockOf.Opaque category content → b ≡ a ++ OpaqueShown n category content → b ≡ a ++ ShowText spec (block_tree block) n
opaque_listed spec block n category content a b is e = e ∙ ap (λ block. a ++ ShowText spec (block_tree block) n) (sym is)

pub ruleset block_ways = (read_listed, opaque_listed)
