-- What comes by the mappings of two editions is the converted record.
use Rattle.std.proofs.Common.{◌≡◌, ℕ, ◌+◌, Bool, true, false, cond, List, [], ◌∷◌, ◌++◌, Option, Some, None, option_and_then, refl, ◌∙◌, ap}
use Rattle.ax_relation.proofs.MovedShape.{slot_shape}
use Rattle.ax_relation.specs.Moved.{entry_where}
use Rattle.ax_format.specs.At.{slot_value}
use Rattle.ax_format.specs.Bodies.{RecordShape}
use Rattle.ax_format.specs.Naming.{slot_named}
use Rattle.ax_format.specs.Same.{common_parts}
use Rattle.ax_format.specs.Shape.{Shape, EntriesShape}
use Rattle.ax_format.specs.Shared.{is_shared_kind}
use Rattle.ax_format.specs.Specification.{SpecTree, record_slots}
use Rattle.ax_format.specs.Tree.{KindTree, fixed, extended, counted, by_fx, explicit, compound, element, group, SlotsTree, no_slots, slot_and, spare_slot, subitem, ValueTree, part_values, marked, EntriesTree}
use Rattle.ax_relation.specs.Below.{slot_below}
use Rattle.ax_relation.specs.Passing.{value_by}
use Rattle.ax_rescale.proofs.ConversionNamed.{source_value}
use Rattle.ax_rescale.specs.Alike.{is_alike}
use Rattle.ax_rescale.specs.ConvertedRecord.{passes, passing_entries, converted_record}
use Rattle.ax_rescale.specs.ConvertedValue.{converted_value}
use Rattle.ax_rescale.specs.Mappings.{mapping_from, mappings_from, no_mappings, mapping_where, mappings_below, mappings_of, record_mappings, value_where, passed_by}

abbrev rule_of : SlotsTree → List ℕ → Option (ℕ × KindTree)
rule_of ss = λ name. slot_below name (compound ss)

module _ (t : ℕ) (name : List ℕ) (l : KindTree) (ts ss : SlotsTree) (es : EntriesTree) (h : EntriesShape 1 ss es)
    (below : (k : KindTree) (v : ValueTree) → is_shared_kind k l ≡ true → Shape k v → value_by (common_parts k l) (passed_by (mappings_from (mappings_below l k))) v ≡ passes l k v)
    (later : passed_by (mappings_from (mappings_of (t + 1) ts (rule_of ss))) es ≡ passing_entries (t + 1) ts ss es) where
  shared_value : (s : ℕ × KindTree) (c : Bool) (o : Option ValueTree) → slot_named 1 name ss ≡ Some s → slot_value s.0 es ≡ o → is_shared_kind s.1 l ≡ true
      → option_and_then (value_where None (common_parts s.1 l) (passed_by (mappings_from (mappings_below l s.1)))) o ≡ option_and_then (λ v. cond true (Some (passes l s.1 v)) (cond c (converted_value s.1 l v) None)) o
  shared_value s c None found at shared = refl
  shared_value s c (Some v) found at shared = ap Some (below s.1 v shared (slot_shape 1 name ss es s.0 s.1 v found h at))

  abbrev never_value : ValueTree → Option ValueTree
  never_value v = None

  nothing : (o : Option ValueTree) → None ≡ option_and_then never_value o
  nothing None = refl
  nothing (Some v) = refl

  by_kinds : (s : ℕ × KindTree) (b c : Bool) → slot_named 1 name ss ≡ Some s → is_shared_kind s.1 l ≡ b
      → passed_by (mappings_from (cond b (mapping_from s.0 t None (common_parts s.1 l) (mappings_from (mappings_below l s.1)) ∷ []) (cond c (mapping_from s.0 t (Some (record { old = s.1; new = l })) 0 no_mappings ∷ []) []) ++ mappings_of (t + 1) ts (rule_of ss))) es
      ≡ entry_where t (option_and_then (λ v. cond b (Some (passes l s.1 v)) (cond c (converted_value s.1 l v) None)) (slot_value s.0 es)) (passing_entries (t + 1) ts ss es)
  by_kinds s true c found shared = λ i. entry_where t (shared_value s c (slot_value s.0 es) found refl shared i) (later i)
  by_kinds s false true found shared = ap (entry_where t (option_and_then (converted_value s.1 l) (slot_value s.0 es))) later
  by_kinds s false false found shared = later ∙ (λ i. entry_where t (nothing (slot_value s.0 es) i) (passing_entries (t + 1) ts ss es))

  one_slot : (o : Option (ℕ × KindTree)) → slot_named 1 name ss ≡ o
      → passed_by (mappings_from (mapping_where t l o (mappings_below l) ++ mappings_of (t + 1) ts (rule_of ss))) es ≡ entry_where t (option_and_then (source_value l es) o) (passing_entries (t + 1) ts ss es)
  one_slot None found = later
  one_slot (Some s) found = by_kinds s (is_shared_kind s.1 l) (is_alike s.1 l) found refl

mutual
  value_passes : (l k : KindTree) (v : ValueTree) → is_shared_kind k l ≡ true → Shape k v → value_by (common_parts k l) (passed_by (mappings_from (mappings_below l k))) v ≡ passes l k v
  value_passes (compound ts) (compound ss) (marked es) e h = ap marked (entries_pass 1 ts ss es h)
  value_passes (fixed g) (fixed (element w c)) (marked es) e h = absurd h
  value_passes (fixed g) (fixed (group ms)) (marked es) e h = absurd h
  value_passes (extended last qs) (extended other ps) (marked es) e h = absurd h
  value_passes (counted size l) (counted other k) (marked es) e h = absurd h
  value_passes (by_fx g) (by_fx f) (marked es) e h = absurd h
  value_passes explicit explicit (marked es) e h = absurd h
  value_passes _ _ (marked es) e h = cc
  value_passes (extended last qs) (extended other ps) (part_values ls) e h = refl
  value_passes (fixed g) (fixed (element w c)) (part_values ls) e h = absurd h
  value_passes (fixed g) (fixed (group ms)) (part_values ls) e h = absurd h
  value_passes (counted size l) (counted other k) (part_values ls) e h = absurd h
  value_passes (by_fx g) (by_fx f) (part_values ls) e h = absurd h
  value_passes explicit explicit (part_values ls) e h = absurd h
  value_passes (compound ts) (compound ss) (part_values ls) e h = absurd h
  value_passes _ _ (part_values ls) e h = cc
  value_passes _ _ _ e h = refl

  entries_pass : (t : ℕ) (ts ss : SlotsTree) (es : EntriesTree) → EntriesShape 1 ss es → passed_by (mappings_from (mappings_of t ts (rule_of ss))) es ≡ passing_entries t ts ss es
  entries_pass t no_slots ss es h = refl
  entries_pass t (slot_and spare_slot ts) ss es h = entries_pass (t + 1) ts ss es h
  entries_pass t (slot_and (subitem name l) ts) ss es h = one_slot t name l ts ss es h (λ k v. value_passes l k v) (entries_pass (t + 1) ts ss es h) (slot_named 1 name ss) refl

pub record_passes : (old new : SpecTree) (es : EntriesTree) → RecordShape old es → passed_by (mappings_from (record_mappings old new)) es ≡ converted_record old new es
record_passes old new es h = entries_pass 1 (record_slots new) (record_slots old) es h.shape
