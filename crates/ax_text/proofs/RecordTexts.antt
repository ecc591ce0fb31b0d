-- The texts of records, one after the other.
use Rattle.std.proofs.Common.{◌≡◌, ℕ, ◌+◌, ◌<◌, ◌≤◌, List, [], ◌∷◌, ◌++◌, length, drop, get_or, codes, refl, sym, ◌∙◌, ap, subst, append_assoc}
use Rattle.std.proofs.lemmas.List.{drop_all}
use Rattle.std.specs.List.{AllByRecursion}
use Rattle.ax_format.specs.Bodies.{RecordShape}
use Rattle.ax_format.specs.Plain.{record_tree, records_tree}
use Rattle.ax_format.specs.Shape.{EntriesShape}
use Rattle.ax_format.specs.Specification.{SpecTree, record_slots}
use Rattle.ax_format.specs.Tree.{EntriesTree}
use Rattle.ax_format.specs.declared.record.Record.{Record}
use Rattle.ax_text_form.specs.BlockText.{RecordLine, record_onto, records_onto}
use Rattle.ax_text_form.specs.Printing.{after_spaces, Puts}
use Rattle.ax_text_form.specs.ValueText.{Texts, opening, closing, one_onto, entries_onto}
use Rattle.ax_text_form.proofs.Onto.{entries_more}
use Rattle.ax_text_form.proofs.Printed.{Leaves, leaves_all, leaves_fewer, leaves_none, from_place, joined}

pub record_entries : (spec : SpecTree) (es : EntriesTree) → RecordShape spec es → EntriesShape 1 (record_slots spec) es
record_entries spec es h = h.shape

-- ---- one record

spaces_more : (x y : Texts) → after_spaces (x ++ y) ≡ after_spaces x ++ after_spaces y
spaces_more [] y = refl
spaces_more (text ∷ x) y = ap (λ t. 0x20 ∷ (text ++ t)) (spaces_more x y) ∙ ap (λ t. 0x20 ∷ t) (sym (append_assoc text (after_spaces x) (after_spaces y)))

-- the text of a record that is put as one stands for its tokens
pub record_put : (spec : SpecTree) (es : EntriesTree) (old new text : List ℕ) → text ≡ RecordLine spec es → Puts after_spaces (one_onto text) old new → Puts after_spaces (record_onto spec es) old new
record_put spec es old new text e p = record { put = λ rest. p.put rest ∙ ap (λ t. old ++ t) (same rest) }
  where
    tail : Texts
    tail = opening ∷ entries_onto 1 (record_slots spec) es (closing ∷ [])

    whole : after_spaces (record_onto spec es []) ≡ 0x20 ∷ text
    whole = ap (λ t. 0x20 ∷ t) (sym (e ∙ joined (codes "record") tail))

    more : (rest : Texts) → record_onto spec es [] ++ rest ≡ record_onto spec es rest
    more rest = ap (λ t. codes "record" ∷ opening ∷ t) (entries_more 1 (record_slots spec) es (closing ∷ []) rest)

    same : (rest : Texts) → 0x20 ∷ (text ++ after_spaces rest) ≡ after_spaces (record_onto spec es rest)
    same rest = ap (λ t. t ++ after_spaces rest) (sym whole) ∙ sym (spaces_more (record_onto spec es []) rest) ∙ ap after_spaces (more rest)

pub ruleset record_ways = record_put

-- ---- records

pub record RecordsLeft (spec : SpecTree) (whole : Texts → Texts) (old now : List ℕ) (rs : List Record) : Type 0 where
  pub shape : AllByRecursion (RecordShape spec) (records_tree rs)
  pub left : Leaves after_spaces whole (records_onto spec (records_tree rs)) old now

pub records_first : (spec : SpecTree) (rs : List Record) (out : List ℕ) → AllByRecursion (RecordShape spec) (records_tree rs) → RecordsLeft spec (records_onto spec (records_tree rs)) out out rs
records_first spec rs out h = record { shape = h; left = leaves_all (records_onto spec (records_tree rs)) out }

record_here : (spec : SpecTree) (whole : Texts → Texts) (old now : List ℕ) (all : List Record) (i : ℕ) (r : Record) → RecordsLeft spec whole old now (drop i all) → i < length all → r ≡ get_or all i r → RecordsLeft spec whole old now (r ∷ drop (i + 1) all)
record_here spec whole old now all i r h lt e = subst (λ rs. RecordsLeft spec whole old now rs) (from_place all i r lt e) h

pub record_shape : (spec : SpecTree) (whole : Texts → Texts) (old now : List ℕ) (all : List Record) (i : ℕ) (r : Record) → RecordsLeft spec whole old now (drop i all) → i < length all → r ≡ get_or all i r → RecordShape spec (record_tree r)
record_shape spec whole old now all i r h lt e = (record_here spec whole old now all i r h lt e).shape.0

pub record_next : (spec : SpecTree) (whole : Texts → Texts) (old now new : List ℕ) (all : List Record) (i : ℕ) (r : Record) → RecordsLeft spec whole old now (drop i all) → i < length all → r ≡ get_or all i r
    → Puts after_spaces (record_onto spec (record_tree r)) now new → RecordsLeft spec whole old new (drop (i + 1) all)
record_next spec whole old now new all i r h lt e p =
    let t = record_here spec whole old now all i r h lt e in
    let later = drop (i + 1) all in record {
      shape = t.shape.1;
      left = leaves_fewer whole (records_onto spec (records_tree (r ∷ later))) (record_onto spec (record_tree r)) (records_onto spec (records_tree later)) old now new t.left (λ rest. refl) p;
    }

pub records_ended : (spec : SpecTree) (whole : Texts → Texts) (old now : List ℕ) (all : List Record) (i : ℕ) → RecordsLeft spec whole old now (drop i all) → length all ≤ i → Puts after_spaces whole old now
records_ended spec whole old now all i h past = leaves_none whole (records_onto spec (records_tree (drop i all))) old now h.left (λ rest. ap (λ rs. records_onto spec (records_tree rs) rest) (drop_all i all past))

pub ruleset records_ways = (records_first, record_shape, record_next, records_ended)
