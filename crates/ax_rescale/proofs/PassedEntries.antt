-- Entries by mappings, one at a time.
use Rattle.std.proofs.Common.{◌≡◌, ℕ, ◌+◌, ◌<◌, ◌≤◌, List, ◌++◌, length, map, drop, get_or, Option, Some, None, option_and_then, refl, sym, ◌∙◌, ap, append_assoc, append-nil, subst}
use Rattle.std.proofs.lemmas.List.{drop_all}
use Rattle.ax_format.proofs.Namings.{from_place}
use Rattle.ax_format.specs.Plain.{entry_tree, entries_tree}
use Rattle.ax_format.specs.Tree.{ValueTree, EntriesTree, no_entries, entry_and, entries_of}
use Rattle.ax_format.specs.declared.value.Entry.{Entry}
use Rattle.ax_relation.specs.Moved.{entry_where}
use Rattle.ax_format.specs.At.{slot_value}
use Rattle.ax_relation.specs.Passing.{entry_list, list_of}
use Rattle.ax_rescale.specs.Mappings.{MappingTree, mapping_from, MappingsTree, mapping_and, value_where, passed_by, mapping_entries}
use Rattle.ax_rescale.specs.PlainMappings.{mapping_tree, mappings_tree}
use Rattle.ax_rescale.specs.Ready.{MappingReady, MappingsReady}
use Rattle.ax_rescale.specs.declared.mappings.SlotMapping.{SlotMapping}

list_back : (es : EntriesTree) → entries_of (list_of es) ≡ es
list_back no_entries = refl
list_back (entry_and t v es) = ap (entry_and t v) (list_back es)

pub passed_end : (i : ℕ) (mappings : List SlotMapping) (made : List Entry) (es : EntriesTree) → length mappings ≤ i
    → map entry_tree made ++ list_of (passed_by (mappings_tree (drop i mappings)) es) ≡ list_of (passed_by (mappings_tree mappings) es) → entries_tree made ≡ passed_by (mappings_tree mappings) es
passed_end i mappings made es past h =
    ap entries_of (sym (append-nil (map entry_tree made)) ∙ ap (λ l. map entry_tree made ++ l) (sym (ap (λ x. list_of (passed_by (mappings_tree x) es)) (drop_all i mappings past))) ∙ h)
    ∙ list_back (passed_by (mappings_tree mappings) es)

first_ready : (w : MappingTree) (ws : MappingsTree) (es : EntriesTree) → MappingsReady (mapping_and w ws) es → MappingReady w es
first_ready (mapping_from s t p c below) ws es h = h.0

later_ready : (w : MappingTree) (ws : MappingsTree) (es : EntriesTree) → MappingsReady (mapping_and w ws) es → MappingsReady ws es
later_ready (mapping_from s t p c below) ws es h = h.1

module _ (i : ℕ) (mappings : List SlotMapping) (w : SlotMapping) (es : EntriesTree) (within : i < length mappings) (is : w ≡ get_or mappings i w) (h : MappingsReady (mappings_tree (drop i mappings)) es) where
  opened : MappingsReady (mapping_and (mapping_tree w) (mappings_tree (drop (i + 1) mappings))) es
  opened = subst (λ ws. MappingsReady ws es) (ap mappings_tree (from_place mappings i w within is)) h

  pub mapping_ready : MappingReady (mapping_tree w) es
  mapping_ready = first_ready (mapping_tree w) (mappings_tree (drop (i + 1) mappings)) es opened

  pub mappings_ready : MappingsReady (mappings_tree (drop (i + 1) mappings)) es
  mappings_ready = later_ready (mapping_tree w) (mappings_tree (drop (i + 1) mappings)) es opened

-- ---- what a mapping makes comes first

first_passed : (w : MappingTree) (ws : MappingsTree) (es : EntriesTree) → list_of (passed_by (mapping_and w ws) es) ≡ mapping_entries w es ++ list_of (passed_by ws es)
first_passed (mapping_from s t p c below) ws es = by (option_and_then (value_where p c (passed_by below)) (slot_value s es))
  where
    by : (o : Option ValueTree) → list_of (entry_where t o (passed_by ws es)) ≡ entry_list t o ++ list_of (passed_by ws es)
    by None = refl
    by (Some v) = refl

pub passed_step : (i : ℕ) (mappings : List SlotMapping) (w : SlotMapping) (es : EntriesTree) (made new all : List (ℕ × ValueTree)) → i < length mappings → w ≡ get_or mappings i w → new ≡ made ++ mapping_entries (mapping_tree w) es
    → made ++ list_of (passed_by (mappings_tree (drop i mappings)) es) ≡ all → new ++ list_of (passed_by (mappings_tree (drop (i + 1) mappings)) es) ≡ all
passed_step i mappings w es made new all within is e h =
    let later = list_of (passed_by (mappings_tree (drop (i + 1) mappings)) es) in
    ap (λ l. l ++ later) e ∙ append_assoc made (mapping_entries (mapping_tree w) es) later
    ∙ ap (λ l. made ++ l) (sym (ap (λ ws. list_of (passed_by ws es)) (ap mappings_tree (from_place mappings i w within is)) ∙ first_passed (mapping_tree w) (mappings_tree (drop (i + 1) mappings)) es)) ∙ h

pub ruleset entries = (passed_end, mapping_ready)
