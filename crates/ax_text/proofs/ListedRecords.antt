-- The ways out of the functions that list records.
use Rattle.std.proofs.Common.{◌≡◌, ℕ, ◌+◌, ◌<◌, ◌≤◌, List, ◌∷◌, ◌++◌, length, drop, get_or, codes, decimal, Some, None, refl, sym, ◌∙◌, ap, subst}
use Rattle.std.proofs.lemmas.List.{drop_all}
use Rattle.std.specs.List.{AllByRecursion}
use Rattle.std.specs.Option.{option_map}
use Rattle.ax_format.specs.Bodies.{RecordShape}
use Rattle.ax_format.specs.Lookup.{item_of_frn}
use Rattle.ax_format.specs.Paths.{three_digits, at}
use Rattle.ax_format.specs.Plain.{item_tree, kind_tree, spec_tree, record_tree, records_tree}
use Rattle.ax_format.specs.Shape.{Shape}
use Rattle.ax_format.specs.Specification.{SpecTree, slot_of_item, record_slots}
use Rattle.ax_format.specs.Tree.{ValueTree, EntriesTree}
use Rattle.ax_format.specs.declared.record.Record.{Record}
use Rattle.ax_format.specs.declared.spec.Item.{Item}
use Rattle.ax_format.specs.declared.spec.Spec.{Spec}
use Rattle.ax_text_form.specs.Listable.{SlotListable, KindListable}
use Rattle.ax_text_form.specs.Printing.{as_lines, Puts}
use Rattle.ax_text_form.specs.ShowText.{kind_lines, entries_lines, record_lines, records_lines}
use Rattle.ax_text_form.specs.Slots.{slot_numbered, SlotShape, slot_lines}
use Rattle.ax_text_form.specs.ValueText.{Texts, one_onto}
use Rattle.ax_text_form.proofs.Printed.{none_put, both_put, Leaves, leaves_all, leaves_fewer, leaves_none, from_place}
use Rattle.ax_text_form.proofs.RecordWays.{slot_of_frn, found}
use Rattle.ax_text.proofs.RecordTexts.{record_entries}

-- ---- records

-- records that are left; the first of them has the number i
pub record RecordsLeft (spec : SpecTree) (whole : Texts → Texts) (old now : List ℕ) (i : ℕ) (rs : List Record) : Type 0 where
  pub shape : AllByRecursion (RecordShape spec) (records_tree rs)
  pub left : Leaves as_lines whole (records_lines spec i (records_tree rs)) old now

pub records_first : (spec : SpecTree) (rs : List Record) (out : List ℕ) → AllByRecursion (RecordShape spec) (records_tree rs) → RecordsLeft spec (records_lines spec 0 (records_tree rs)) out out 0 rs
records_first spec rs out h = record { shape = h; left = leaves_all (records_lines spec 0 (records_tree rs)) out }

module _ (spec : SpecTree) (whole : Texts → Texts) (old now : List ℕ) (i : ℕ) (all : List Record) where
  record_here : (r : Record) → RecordsLeft spec whole old now i (drop i all) → i < length all → r ≡ get_or all i r → RecordsLeft spec whole old now i (r ∷ drop (i + 1) all)
  record_here r h lt e = subst (λ rs. RecordsLeft spec whole old now i rs) (from_place all i r lt e) h

  pub record_shape : (r : Record) → RecordsLeft spec whole old now i (drop i all) → i < length all → r ≡ get_or all i r → RecordShape spec (record_tree r)
  record_shape r h lt e = (record_here r h lt e).shape.0

  pub record_next : (r : Record) (n : ℕ) (new : List ℕ) → RecordsLeft spec whole old now i (drop i all) → i < length all → r ≡ get_or all i r → n ≡ i → Puts as_lines (record_lines spec n (record_tree r)) now new → RecordsLeft spec whole old new (i + 1) (drop (i + 1) all)
  record_next r n new h lt e same p =
      let t = record_here r h lt e in
      let later = drop (i + 1) all in record {
        shape = t.shape.1;
        left = leaves_fewer whole (records_lines spec i (records_tree (r ∷ later))) (record_lines spec i (record_tree r)) (records_lines spec (i + 1) (records_tree later)) old now new t.left (λ rest. refl)
            (subst (λ n. Puts as_lines (record_lines spec n (record_tree r)) now new) same p);
      }

  pub records_ended : RecordsLeft spec whole old now i (drop i all) → length all ≤ i → Puts as_lines whole old now
  records_ended h past = leaves_none whole (records_lines spec i (records_tree (drop i all))) old now h.left (λ rest. ap (λ rs. records_lines spec i (records_tree rs) rest) (drop_all i all past))

pub ruleset records_ways = (records_first, record_shape, record_next, records_ended)

pub record_put : (spec : SpecTree) (n : ℕ) (es : EntriesTree) (a b c path : List ℕ) → path ≡ three_digits spec.category → Puts as_lines (one_onto (codes "record " ++ decimal n)) a b → Puts as_lines (entries_lines path 1 (record_slots spec) es) b c → Puts as_lines (record_lines spec n es) a c
record_put spec n es a b c path e p q =
    both_put (one_onto (codes "record " ++ decimal n)) (entries_lines (three_digits spec.category) 1 (record_slots spec) es) a b c p (subst (λ path. Puts as_lines (entries_lines path 1 (record_slots spec) es) b c) e q)

pub ruleset record_ways = (record_put, record_entries)

-- ---- items by field reference number

pub item_listable : (spec : Spec) (frn : ℕ) (item : Item) → Some item ≡ item_of_frn frn spec.uap spec.items → SlotListable (slot_numbered (record_slots (spec_tree spec)) frn) → KindListable (kind_tree item.kind)
item_listable spec frn item e h = subst SlotListable (found spec frn item e) h

pub item_shape : (spec : Spec) (frn : ℕ) (item : Item) (v : ValueTree) → Some item ≡ item_of_frn frn spec.uap spec.items → SlotShape (slot_numbered (record_slots (spec_tree spec)) frn) v → Shape (kind_tree item.kind) v
item_shape spec frn item v e h = subst (λ s. SlotShape s v) (found spec frn item e) h

pub item_put : (spec : Spec) (frn : ℕ) (item : Item) (v : ValueTree) (path inner a b : List ℕ) → Some item ≡ item_of_frn frn spec.uap spec.items → inner ≡ at path item.name → Puts as_lines (kind_lines (kind_tree item.kind) inner v) a b
    → Puts as_lines (slot_lines path (slot_numbered (record_slots (spec_tree spec)) frn) v) a b
item_put spec frn item v path inner a b e is p =
    subst (λ s. Puts as_lines (slot_lines path s v) a b) (sym (found spec frn item e)) (subst (λ inner. Puts as_lines (kind_lines (kind_tree item.kind) inner v) a b) is p)

pub no_item : (spec : Spec) (frn : ℕ) (v : ValueTree) (path out : List ℕ) → None ≡ item_of_frn frn spec.uap spec.items → Puts as_lines (slot_lines path (slot_numbered (record_slots (spec_tree spec)) frn) v) out out
no_item spec frn v path out e = subst (λ s. Puts as_lines (slot_lines path s v) out out) (sym (slot_of_frn spec frn ∙ ap (λ o. slot_of_item (option_map item_tree o)) (sym e))) (none_put out)

pub ruleset item_ways = (item_listable, item_shape, item_put, no_item)
