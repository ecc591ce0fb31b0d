-- Records that are built.
use Rattle.std.proofs.Common.{◌≡◌, ℕ, ◌<◌, List, [], ◌∷◌, ◌++◌, length, refl, sym, ap, arith}
use Rattle.std.specs.List.{AllByRecursion}
use Rattle.ax_printed_lines.specs.Laid.{Leaves, Fills}
use Rattle.ax_printed_lines.specs.declared.laid.LaidBits.{LaidBits}
use Rattle.ax_text_form.proofs.Onto.{entries_more}
use Rattle.ax_fspec.specs.Fields.{least_field}
use Rattle.ax_format.proofs.Bounds.{record_bounds}
use Rattle.ax_format.specs.Bodies.{RecordShape, CanonRecord, CanonBody}
use Rattle.ax_format.specs.Canonical.{entries_canon}
use Rattle.ax_format.specs.Flaws.{NoFlaw}
use Rattle.ax_format.specs.Shape.{EntriesShape}
use Rattle.ax_format.specs.Specification.{SpecTree, record_slots}
use Rattle.ax_format.specs.Tree.{EntriesTree}
use Rattle.ax_text_form.proofs.WordTokens.{record_is_word}
use Rattle.ax_text_form.specs.BlockText.{record_onto, records_onto}
use Rattle.ax_text_form.specs.ValueText.{Texts, opening, closing, entries_onto}
use Rattle.std.specs.Prelude.{codes}
use Rattle.ax_printed_lines.specs.Printed.{Place, Goes, IsBuilt, IsOneWord, AreSlots, HasMarks, AreRecords}
use Rattle.ax_printed_lines.proofs.Building.{built_after, Partly, partly_first, partly_more, partly_done}
use Rattle.ax_printed_lines.proofs.Going.{goes_both, one_word}
use Rattle.ax_printed_lines.proofs.KindsBuilt.{compound_whole}

-- ---- a record

pub record_areas : (spec : SpecTree) → NoFlaw spec → AreSlots (record_slots spec)
record_areas spec none = record_bounds spec none

abbrev pub RecordIsBuilt : SpecTree → Place → Place → LaidBits → LaidBits → Type 0
RecordIsBuilt spec old new before after = IsBuilt (RecordShape spec) (λ es. record_onto spec es []) (CanonRecord spec) old new before after

pub record_whole : (spec : SpecTree) (marks : List ℕ) (n room : ℕ) (old mid inner new : Place) (before first last after : LaidBits) → (IsOneWord (codes "record") → Goes old mid (codes "record" ∷ [])) → Goes mid inner (opening ∷ []) → Leaves before first n room
    → IsBuilt (HasMarks (record_slots spec) marks) (λ es. entries_onto 1 (record_slots spec) es (closing ∷ [])) (entries_canon 1 (record_slots spec)) inner new first last → Fills last after n room (least_field marks) → RecordIsBuilt spec old new before after
record_whole spec marks n room old mid inner new before first last after g o l b f =
    let ss = record_slots spec in
    let front = goes_both old mid inner (codes "record" ∷ []) (opening ∷ []) (g (one_word (codes "record") record_is_word)) o in
    built_after (EntriesShape 1 ss) (λ es. entries_onto 1 ss es (closing ∷ [])) (CanonRecord spec) (RecordShape spec) (λ es. record_onto spec es []) (CanonRecord spec) (codes "record" ∷ opening ∷ []) old inner new before after front
    (compound_whole ss marks n room inner new before first last after l b f) (λ es h. (es, record { shape = h }, refl, refl))

-- ---- records

abbrev SomeRecords : SpecTree → List EntriesTree → Type 0
SomeRecords spec rs = (0 < length rs) × AllByRecursion (RecordShape spec) rs

abbrev pub RecordsLeft : SpecTree → Place → Place → LaidBits → LaidBits → Type 0
RecordsLeft spec old now before after = Partly (SomeRecords spec) (λ rs. records_onto spec rs []) (CanonBody spec) (SomeRecords spec) (λ rs. records_onto spec rs []) (CanonBody spec) old now before after

pub records_first : (spec : SpecTree) (old : Place) (out : LaidBits) → RecordsLeft spec old old out out
records_first spec old out = partly_first (SomeRecords spec) (λ rs. records_onto spec rs []) (CanonBody spec) old out

record_more : (spec : SpecTree) (es : EntriesTree) (x y : Texts) → record_onto spec es x ++ y ≡ record_onto spec es (x ++ y)
record_more spec es x y = ap (λ t. codes "record" ∷ opening ∷ t) (entries_more 1 (record_slots spec) es (closing ∷ x) y)

pub records_next : (spec : SpecTree) (old now new : Place) (before mid after : LaidBits) → RecordsLeft spec old now before mid → RecordIsBuilt spec now new mid after → RecordsLeft spec old new before after
records_next spec old now new before mid after l b =
    partly_more (SomeRecords spec) (λ rs. records_onto spec rs []) (CanonBody spec) (SomeRecords spec) (λ rs. records_onto spec rs []) (CanonBody spec) (RecordShape spec) (λ es. record_onto spec es []) (CanonRecord spec)
    (SomeRecords spec) (λ rs. records_onto spec rs []) (CanonBody spec) old now new before mid after l b
    (λ es rs h k. (es ∷ rs, (omega arith, (h, k.1)), sym (record_more spec es [] (records_onto spec rs [])), refl))

pub records_last : (spec : SpecTree) (old now new : Place) (before mid after : LaidBits) → RecordsLeft spec old now before mid → RecordIsBuilt spec now new mid after → AreRecords spec old new before after
records_last spec old now new before mid after l b =
    partly_done (SomeRecords spec) (λ rs. records_onto spec rs []) (CanonBody spec) (SomeRecords spec) (λ rs. records_onto spec rs []) (CanonBody spec) old now new before mid after l
    (built_after (RecordShape spec) (λ es. record_onto spec es []) (CanonRecord spec) (SomeRecords spec) (λ rs. records_onto spec rs []) (CanonBody spec) [] now now new mid after (record { left = refl; keeps = λ rest k. k }) b
    (λ es h. (es ∷ [], (omega arith, (h, tt)), refl, nothing (CanonRecord spec es))))
  where
    nothing : (xs : List ℕ) → xs ++ [] ≡ xs
    nothing [] = refl
    nothing (x ∷ xs) = ap (λ t. x ∷ t) (nothing xs)
