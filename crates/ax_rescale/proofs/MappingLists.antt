-- The mappings to the new slots, one slot at a time.
use Rattle.std.proofs.Common.{◌≡◌, ℕ, ◌+◌, ◌<◌, ◌≤◌, true, false, cond, List, [], ◌∷◌, ◌++◌, length, map, drop, get_or, Option, Some, None, option_map, refl, sym, ◌∙◌, ap, append_assoc, append-nil, Result, Ok, Err}
use Rattle.std.proofs.lemmas.List.{drop_all, map-append}
use Rattle.std.specs.Borrow.{Bor}
use Rattle.std.specs.Prelude.{OnOk}
use Rattle.std.specs.declared.alloc.AllocError.{AllocError}
use Rattle.ax_edition.specs.Index.{found, FindsBelow}
use Rattle.ax_relation.specs.Below.{slot_below}
use Rattle.ax_edition.specs.SlotItems.{item_slot, items_tree}
use Rattle.ax_edition.specs.declared.index.Index.{Index}
use Rattle.ax_rescale.specs.Alike.{is_alike}
use Rattle.ax_rescale.specs.PlainMappings.{pair_tree, mapping_step, mapping_tree}
use Rattle.ax_rescale.specs.Mappings.{MappingTree, mapping_from, mappings_from, no_mappings, mapping_between, mapping_where, mappings_below, mappings_of, slot_mappings}
use Rattle.ax_rescale.specs.declared.mappings.AlikePair.{AlikePair}
use Rattle.ax_rescale.specs.declared.mappings.SlotMapping.{SlotMapping, roll-SlotMapping, fold-roll-SlotMapping}
use Rattle.ax_format.proofs.Namings.{from_place}
use Rattle.ax_format.specs.Plain.{slot_tree, slots_tree}
use Rattle.ax_format.specs.Same.{common_parts}
use Rattle.ax_format.specs.Shared.{is_shared_kind}
use Rattle.ax_format.specs.Tree.{KindTree, fixed, extended, counted, by_fx, explicit, compound, SlotTree, SlotsTree, slots_of, slot_and, spare_slot, subitem}
use Rattle.ax_format.specs.declared.kind.Slot.{Slot}
use Rattle.ax_format.specs.declared.spec.Item.{Item}

-- ---- one mapping

pub mapping_is : (s t : ℕ) (p : Option AlikePair) (c : ℕ) (below : List SlotMapping) → mapping_tree (roll-SlotMapping (record { old = s; new = t; alike = p; parts = c; below = below })) ≡ mapping_from s t (option_map pair_tree p) c (mappings_from (map mapping_tree below))
mapping_is s t p c below = fold-roll-SlotMapping MappingTree mapping_step (record { old = s; new = t; alike = p; parts = c; below = below })

pub when_ok : (r : Result (Unit {0}) AllocError) (P Q : Type 0) → (P → Q) → OnOk r P → OnOk r Q
when_ok (Ok u) P Q f h = f h
when_ok (Err e) P Q f h = tt

module _ (t : ℕ) (l : KindTree) (o : Option (ℕ × KindTree)) (mappings : List SlotMapping) where
  -- what stands between two slots is what is found
  from_found : (s : ℕ) (k : KindTree) (put : List MappingTree) → o ≡ Some (s, k) → put ≡ mapping_between s t k l (mappings_below l k) → map mapping_tree mappings ++ put ≡ map mapping_tree mappings ++ mapping_where t l o (mappings_below l)
  from_found s k put found is = ap (λ x. map mapping_tree mappings ++ x) (is ∙ ap (λ q. mapping_where t l q (mappings_below l)) (sym found))

  put_one : (made : List SlotMapping) (w : SlotMapping) → made ≡ mappings ++ w ∷ [] → map mapping_tree made ≡ map mapping_tree mappings ++ mapping_tree w ∷ []
  put_one made w e = ap (map mapping_tree) e ∙ map-append mapping_tree mappings (w ∷ [])

  pub shared_put : (s c : ℕ) (k : KindTree) (made below : List SlotMapping) (w : SlotMapping) → o ≡ Some (s, k) → is_shared_kind k l ≡ true → c ≡ common_parts k l → map mapping_tree below ≡ mappings_below l k
      → mapping_tree w ≡ mapping_from s t None c (mappings_from (map mapping_tree below)) → made ≡ mappings ++ w ∷ [] → map mapping_tree made ≡ map mapping_tree mappings ++ mapping_where t l o (mappings_below l)
  shared_put s c k made below w found shared parts b whole e =
      put_one made w e ∙ from_found s k (mapping_tree w ∷ []) found
      (ap (λ x. x ∷ []) (whole ∙ (λ i. mapping_from s t None (parts i) (mappings_from (b i))))
      ∙ ap (λ x. cond x (mapping_from s t None (common_parts k l) (mappings_from (mappings_below l k)) ∷ []) (cond (is_alike k l) (mapping_from s t (Some (record { old = k; new = l })) 0 no_mappings ∷ []) [])) (sym shared))

  pub alike_put : (s : ℕ) (k : KindTree) (made : List SlotMapping) (w : SlotMapping) → o ≡ Some (s, k) → is_shared_kind k l ≡ false → is_alike k l ≡ true
      → mapping_tree w ≡ mapping_from s t (Some (record { old = k; new = l })) 0 no_mappings → made ≡ mappings ++ w ∷ [] → map mapping_tree made ≡ map mapping_tree mappings ++ mapping_where t l o (mappings_below l)
  alike_put s k made w found shared alike whole e =
      put_one made w e ∙ from_found s k (mapping_tree w ∷ []) found
      (ap (λ x. x ∷ []) whole
      ∙ ap (λ x. cond x (mapping_from s t (Some (record { old = k; new = l })) 0 no_mappings ∷ []) []) (sym alike)
      ∙ ap (λ x. cond x (mapping_from s t None (common_parts k l) (mappings_from (mappings_below l k)) ∷ []) (cond (is_alike k l) (mapping_from s t (Some (record { old = k; new = l })) 0 no_mappings ∷ []) [])) (sym shared))

  pub none_found : o ≡ None → map mapping_tree mappings ≡ map mapping_tree mappings ++ mapping_where t l o (mappings_below l)
  none_found found = sym (append-nil (map mapping_tree mappings)) ∙ ap (λ q. map mapping_tree mappings ++ mapping_where t l q (mappings_below l)) (sym found)

  pub none_passes : (s : ℕ) (k : KindTree) → o ≡ Some (s, k) → is_shared_kind k l ≡ false → is_alike k l ≡ false → map mapping_tree mappings ≡ map mapping_tree mappings ++ mapping_where t l o (mappings_below l)
  none_passes s k found shared alike =
      sym (append-nil (map mapping_tree mappings)) ∙ from_found s k [] found
      (ap (λ x. cond x (mapping_from s t (Some (record { old = k; new = l })) 0 no_mappings ∷ []) []) (sym alike)
      ∙ ap (λ x. cond x (mapping_from s t None (common_parts k l) (mappings_from (mappings_below l k)) ∷ []) (cond (is_alike k l) (mapping_from s t (Some (record { old = k; new = l })) 0 no_mappings ∷ []) [])) (sym shared))

pub ruleset puts = (shared_put, alike_put, none_found, none_passes)

-- ---- kinds

pub compound_mappings : (l k : KindTree) (ts : SlotsTree) (index : Index) (made : List MappingTree) → l ≡ compound ts → FindsBelow (Some k) index → made ≡ mappings_of 1 ts (found index) → made ≡ mappings_below l k
compound_mappings l k ts index made is h m =
    let rules : found index ≡ (λ name. slot_below name k) = λ i name. h.finds name i in m ∙ ap (mappings_of 1 ts) rules ∙ ap (λ x. mappings_below x k) (sym is)

pub leaf_mappings : (l k : KindTree) → ((ts : SlotsTree) → l ≡ compound ts → ⊥) → [] ≡ mappings_below l k
leaf_mappings (compound ts) k not = absurd (not ts refl)
leaf_mappings (fixed f) k not = refl
leaf_mappings (extended last ps) k not = refl
leaf_mappings (counted size l) k not = refl
leaf_mappings (by_fx f) k not = refl
leaf_mappings explicit k not = refl

pub ruleset kinds = (compound_mappings, leaf_mappings)

-- ---- slots, and items as slots

first_mappings : (t : ℕ) (s : SlotTree) (ts : SlotsTree) (rule : List ℕ → Option (ℕ × KindTree)) → mappings_of t (slot_and s ts) rule ≡ slot_mappings t s rule ++ mappings_of (t + 1) ts rule
first_mappings t spare_slot ts rule = refl
first_mappings t (subitem name l) ts rule = refl

module _ {A : Type 0} (tree : A → SlotTree) (i n : ℕ) (ts : List A) (rule : List ℕ → Option (ℕ × KindTree)) where
  step : (s : A) (made new all : List MappingTree) → new ≡ made ++ slot_mappings (n + 1) (tree s) rule → made ++ mappings_of (n + 1) (slots_of (map tree (drop i ts))) rule ≡ all
      → i < length ts → s ≡ get_or ts i s → new ++ mappings_of (n + 1 + 1) (slots_of (map tree (drop (i + 1) ts))) rule ≡ all
  step s made new all e h within is =
      let later = mappings_of (n + 1 + 1) (slots_of (map tree (drop (i + 1) ts))) rule in
      ap (λ l. l ++ later) e ∙ append_assoc made (slot_mappings (n + 1) (tree s) rule) later
      ∙ ap (λ l. made ++ l) (sym (ap (λ x. mappings_of (n + 1) (slots_of (map tree x)) rule) (from_place ts i s within is) ∙ first_mappings (n + 1) (tree s) (slots_of (map tree (drop (i + 1) ts))) rule)) ∙ h

  end : (made all : List MappingTree) → made ++ mappings_of (n + 1) (slots_of (map tree (drop i ts))) rule ≡ all → length ts ≤ i → made ≡ all
  end made all h past = sym (append-nil made) ∙ ap (λ l. made ++ l) (sym (ap (λ x. mappings_of (n + 1) (slots_of (map tree x)) rule) (drop_all i ts past))) ∙ h

pub slots_step : (i n : ℕ) (ts : List Slot) (rule : List ℕ → Option (ℕ × KindTree)) (s : Slot) (made new all : List MappingTree) → new ≡ made ++ slot_mappings (n + 1) (slot_tree s) rule
    → made ++ mappings_of (n + 1) (slots_tree (drop i ts)) rule ≡ all → i < length ts → s ≡ get_or ts i s
    → new ++ mappings_of (n + 1 + 1) (slots_tree (drop (i + 1) ts)) rule ≡ all
slots_step i n ts rule = step slot_tree i n ts rule

pub slots_end : (i n : ℕ) (ts : List Slot) (rule : List ℕ → Option (ℕ × KindTree)) (made all : List MappingTree) → made ++ mappings_of (n + 1) (slots_tree (drop i ts)) rule ≡ all → length ts ≤ i → made ≡ all
slots_end i n ts rule = end slot_tree i n ts rule

pub ruleset slots = (slots_step, slots_end)

pub items_step : (i n : ℕ) (ts : List (Option (Bor Item))) (rule : List ℕ → Option (ℕ × KindTree)) (s : Option (Bor Item)) (made new all : List MappingTree) → new ≡ made ++ slot_mappings (n + 1) (item_slot s) rule
    → made ++ mappings_of (n + 1) (items_tree (drop i ts)) rule ≡ all → i < length ts → s ≡ get_or ts i s
    → new ++ mappings_of (n + 1 + 1) (items_tree (drop (i + 1) ts)) rule ≡ all
items_step i n ts rule = step item_slot i n ts rule

pub items_end : (i n : ℕ) (ts : List (Option (Bor Item))) (rule : List ℕ → Option (ℕ × KindTree)) (made all : List MappingTree) → made ++ mappings_of (n + 1) (items_tree (drop i ts)) rule ≡ all → length ts ≤ i → made ≡ all
items_end i n ts rule = end item_slot i n ts rule

pub ruleset items = (items_step, items_end)
