-- Records of the old edition have at the slots of mappings what their conversion asks for.
use Rattle.std.proofs.Common.{◌≡◌, ℕ, ◌+◌, Bool, true, false, cond, bytes_eq, List, [], ◌∷◌, ◌++◌, map, Option, Some, None, refl, subst}
use Rattle.std.specs.List.{AllByRecursion}
use Rattle.std.specs.Prelude.{IfSome}
use Rattle.ax_relation.proofs.Lookups.{found_is}
use Rattle.ax_relation.proofs.MovedShape.{slot_shape}
use Rattle.ax_format.specs.At.{slot_value}
use Rattle.ax_format.specs.Bodies.{RecordShape}
use Rattle.ax_format.specs.Flaws.{NoFlaw}
use Rattle.ax_format.specs.Naming.{found_or, slot_named}
use Rattle.ax_format.specs.Shape.{Shape, EntriesShape}
use Rattle.ax_format.specs.Same.{common_parts}
use Rattle.ax_format.specs.Shared.{is_shared_kind}
use Rattle.ax_format.specs.Specification.{ItemTree, SpecTree, first_named, slot_of_item, uap_slot, record_slots}
use Rattle.ax_format.specs.Tree.{KindTree, fixed, extended, counted, by_fx, explicit, compound, SlotsTree, no_slots, slots_of, slot_and, spare_slot, subitem, ValueTree, number, member_values, part_values, occurrences, content_octets, marked, EntriesTree}
use Rattle.ax_format.specs.declared.spec.UapSlot.{UapSlot}
use Rattle.ax_format.specs.declared.spec.UapSlot.TheVariants as Uap
use Rattle.ax_relation.specs.Below.{slot_below}
use Rattle.ax_rescale.proofs.ScaledKinds.{without_flaw_scaled}
use Rattle.ax_rescale.specs.Alike.{is_alike}
use Rattle.ax_rescale.specs.Mappings.{MappingTree, mapping_from, mappings_from, no_mappings, mapping_where, mappings_below, mappings_of, record_mappings}
use Rattle.ax_rescale.specs.Ready.{PairReady, EntriesReady, ReadyWhere, MappingsReady}
use Rattle.ax_rescale.specs.Scales.{Scaled, SlotScaled, SlotsScaled}

-- ---- the slots of a specification without flaw have scales

found_scaled : (name : List ℕ) (items : List ItemTree) → AllByRecursion (λ (item : ItemTree). Scaled item.kind) items → SlotScaled (slot_of_item (first_named name items))
found_scaled name [] h = tt
found_scaled name (item ∷ items) h = by (bytes_eq item.name name) (found_scaled name items h.1)
  where
    by : (b : Bool) → SlotScaled (slot_of_item (first_named name items)) → SlotScaled (slot_of_item (cond b (Some item) (first_named name items)))
    by true later = h.0
    by false later = later

uap_scaled : (items : List ItemTree) (uap : List UapSlot) → AllByRecursion (λ (item : ItemTree). Scaled item.kind) items → SlotsScaled (slots_of (map (uap_slot items) uap))
uap_scaled items [] h = tt
uap_scaled items (Uap.Spare ∷ uap) h = (tt, uap_scaled items uap h)
uap_scaled items (Uap.Item name ∷ uap) h = (found_scaled name items h, uap_scaled items uap h)

record_scaled : (spec : SpecTree) → NoFlaw spec → SlotsScaled (record_slots spec)
record_scaled spec h = uap_scaled spec.items spec.uap (without_flaw_scaled spec h)

named_scaled : (n : ℕ) (name : List ℕ) (ss : SlotsTree) (s : ℕ × KindTree) → slot_named n name ss ≡ Some s → SlotsScaled ss → Scaled s.1
named_scaled n name no_slots s e h = cc
named_scaled n name (slot_and spare_slot ss) s e h = named_scaled (n + 1) name ss s e h.1
named_scaled n name (slot_and (subitem own k) ss) s e h = by (bytes_eq own name) e (λ f. named_scaled (n + 1) name ss s f h.1)
  where
    by : (b : Bool) → found_or (cond b (Some k) None) n (slot_named (n + 1) name ss) ≡ Some s → (slot_named (n + 1) name ss ≡ Some s → Scaled s.1) → Scaled s.1
    by true e later = let f = found_is (n, k) s e in subst Scaled f.1 h.0
    by false e later = later e

-- ---- mappings one after another

both_ready : (xs ys : List MappingTree) (es : EntriesTree) → MappingsReady (mappings_from xs) es → MappingsReady (mappings_from ys) es → MappingsReady (mappings_from (xs ++ ys)) es
both_ready [] ys es a b = b
both_ready (mapping_from s t p c below ∷ xs) ys es a b = (a.0, both_ready xs ys es a.1 b)

if_some : (P : ValueTree → Type 0) (o : Option ValueTree) → ((v : ValueTree) → o ≡ Some v → P v) → IfSome o P
if_some P None h = tt
if_some P (Some v) h = h v refl

nothing_below : (v : ValueTree) → EntriesReady (MappingsReady (mappings_from [])) v
nothing_below (marked es) = tt
nothing_below (number n) = tt
nothing_below (member_values vs) = tt
nothing_below (part_values ls) = tt
nothing_below (occurrences vs) = tt
nothing_below (content_octets bs) = tt

abbrev rule_of : SlotsTree → List ℕ → Option (ℕ × KindTree)
rule_of ss = λ name. slot_below name (compound ss)

-- a mapping from the slot that is found
module _ (name : List ℕ) (t : ℕ) (l : KindTree) (ss : SlotsTree) (es : EntriesTree) (old_scaled : SlotsScaled ss) (new_scaled : Scaled l) (shape : EntriesShape 1 ss es)
    (below : (k : KindTree) (v : ValueTree) → is_shared_kind k l ≡ true → Scaled k → Scaled l → Shape k v → EntriesReady (MappingsReady (mappings_from (mappings_below l k))) v) where
  between_ready : (s : ℕ × KindTree) (b c : Bool) → slot_named 1 name ss ≡ Some s → is_shared_kind s.1 l ≡ b → is_alike s.1 l ≡ c
      → MappingsReady (mappings_from (cond b (mapping_from s.0 t None (common_parts s.1 l) (mappings_from (mappings_below l s.1)) ∷ []) (cond c (mapping_from s.0 t (Some (record { old = s.1; new = l })) 0 no_mappings ∷ []) []))) es
  between_ready s true c found shared alike = (
    if_some (ReadyWhere None (MappingsReady (mappings_from (mappings_below l s.1)))) (slot_value s.0 es)
        (λ v at. below s.1 v shared (named_scaled 1 name ss s found old_scaled) new_scaled (slot_shape 1 name ss es s.0 s.1 v found shape at)),
    tt,
  )
  between_ready s false true found shared alike = (
    if_some (PairReady (record { old = s.1; new = l })) (slot_value s.0 es)
        (λ v at. record { old_scaled = named_scaled 1 name ss s found old_scaled; new_scaled = new_scaled; shape = slot_shape 1 name ss es s.0 s.1 v found shape at }),
    tt,
  )
  between_ready s false false found shared alike = tt

  where_ready : (o : Option (ℕ × KindTree)) → slot_named 1 name ss ≡ o → MappingsReady (mappings_from (mapping_where t l o (mappings_below l))) es
  where_ready None found = tt
  where_ready (Some s) found = between_ready s (is_shared_kind s.1 l) (is_alike s.1 l) found refl refl

mutual
  below_ready : (l k : KindTree) (v : ValueTree) → is_shared_kind k l ≡ true → Scaled k → Scaled l → Shape k v → EntriesReady (MappingsReady (mappings_from (mappings_below l k))) v
  below_ready (compound ts) (compound ss) (marked es) e a b h = slots_ready 1 ts ss es a b h
  below_ready (compound ts) (compound ss) (number n) e a b h = tt
  below_ready (compound ts) (compound ss) (member_values vs) e a b h = tt
  below_ready (compound ts) (compound ss) (part_values ls) e a b h = tt
  below_ready (compound ts) (compound ss) (occurrences vs) e a b h = tt
  below_ready (compound ts) (compound ss) (content_octets bs) e a b h = tt
  below_ready (compound ts) (fixed f) v e a b h = cc
  below_ready (compound ts) (extended last ps) v e a b h = cc
  below_ready (compound ts) (counted size k) v e a b h = cc
  below_ready (compound ts) (by_fx f) v e a b h = cc
  below_ready (compound ts) explicit v e a b h = cc
  below_ready (fixed g) k v e a b h = nothing_below v
  below_ready (extended last qs) k v e a b h = nothing_below v
  below_ready (counted size l) k v e a b h = nothing_below v
  below_ready (by_fx g) k v e a b h = nothing_below v
  below_ready explicit k v e a b h = nothing_below v

  slots_ready : (t : ℕ) (ts ss : SlotsTree) (es : EntriesTree) → SlotsScaled ss → SlotsScaled ts → EntriesShape 1 ss es → MappingsReady (mappings_from (mappings_of t ts (rule_of ss))) es
  slots_ready t no_slots ss es a b h = tt
  slots_ready t (slot_and spare_slot ts) ss es a b h = slots_ready (t + 1) ts ss es a b.1 h
  slots_ready t (slot_and (subitem name l) ts) ss es a b h =
      both_ready (mapping_where t l (slot_named 1 name ss) (mappings_below l)) (mappings_of (t + 1) ts (rule_of ss)) es
      (where_ready name t l ss es a b.0 h (λ k v. below_ready l k v) (slot_named 1 name ss) refl) (slots_ready (t + 1) ts ss es a b.1 h)

pub record_ready : (old new : SpecTree) (es : EntriesTree) → NoFlaw old → NoFlaw new → RecordShape old es → MappingsReady (mappings_from (record_mappings old new)) es
record_ready old new es a b h = slots_ready 1 (record_slots new) (record_slots old) es (record_scaled old a) (record_scaled new b) h.shape
