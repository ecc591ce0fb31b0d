-- The paths below a kind, one slot at a time.
use Rattle.std.proofs.Common.{◌≡◌, ℕ, ◌+◌, ◌<◌, ◌≤◌, List, [], ◌∷◌, ◌++◌, length, map, drop, get_or, Option, Some, None, option_and_then, refl, sym, ◌∙◌, ap, arith, append_assoc, append-nil, drop-drop, length-drop}
use Rattle.std.proofs.lemmas.List.{drop_all}
use Rattle.std.specs.Borrow.{Bor}
use Rattle.ax_edition.specs.Relating.{target_below, lead, LeadsBelow, parts_with, related_here, related_part, related_parts, related_kind, related_slots, related_slot}
use Rattle.ax_edition.specs.SlotItems.{item_slot, items_tree}
use Rattle.ax_edition.specs.declared.level.Level.{Level}
use Rattle.ax_relation.specs.declared.relation.RelationPath.{RelationPath}
use Rattle.ax_format.proofs.Namings.{from_place}
use Rattle.ax_format.specs.Plain.{part_tree, slot_tree, slots_tree}
use Rattle.ax_format.specs.Tree.{MembersTree, KindTree, fixed, extended, counted, by_fx, explicit, compound, SlotTree, SlotsTree, slots_of, slot_and, spare_slot, subitem}
use Rattle.ax_format.specs.declared.kind.LastPart.{LastPart}
use Rattle.ax_format.specs.declared.kind.Slot.{Slot}
use Rattle.ax_format.specs.declared.kind.Part.{Part}
use Rattle.ax_format.specs.declared.spec.Item.{Item}

pub slots_below : (text numbers : List ℕ) (ss : SlotsTree) (target : Option (List ℕ × KindTree)) (level : Level) (before made : List RelationPath) → LeadsBelow target level → made ≡ before ++ related_slots text numbers 1 ss (lead level)
    → made ≡ before ++ related_slots text numbers 1 ss (λ name. option_and_then (target_below name) target)
slots_below text numbers ss target level before made h m =
    let rules : lead level ≡ (λ name. option_and_then (target_below name) target) = λ i name. h.leads name i in m ∙ (λ i. before ++ related_slots text numbers 1 ss (rules i))

pub compound_paths : (text numbers : List ℕ) (k : KindTree) (ss : SlotsTree) (target : Option (List ℕ × KindTree)) (path : RelationPath) (before pushed made : List RelationPath)
    → k ≡ compound ss → path ≡ related_here text numbers None k target → pushed ≡ before ++ path ∷ []
    → made ≡ pushed ++ related_slots text numbers 1 ss (λ name. option_and_then (target_below name) target) → made ≡ before ++ related_kind text numbers k target
compound_paths text numbers k ss target path before pushed made is here p m =
    let later = related_slots text numbers 1 ss (λ name. option_and_then (target_below name) target) in
    m ∙ ap (λ l. l ++ later) p ∙ append_assoc before (path ∷ []) later ∙ (λ i. before ++ here i ∷ later)
    ∙ (λ i. before ++ related_here text numbers None (is i) target ∷ later)
    ∙ ap (λ x. before ++ related_kind text numbers x target) (sym is)

pub extended_paths : (text numbers : List ℕ) (k : KindTree) (last : LastPart) (ps : List MembersTree) (target : Option (List ℕ × KindTree)) (path : RelationPath) (before pushed made : List RelationPath)
    → k ≡ extended last ps → path ≡ related_here text numbers None k target → pushed ≡ before ++ path ∷ []
    → made ≡ pushed ++ related_parts text numbers 0 ps (parts_with k target) target → made ≡ before ++ related_kind text numbers k target
extended_paths text numbers k last ps target path before pushed made is here p m =
    let later = related_parts text numbers 0 ps (parts_with k target) target in
    m ∙ ap (λ l. l ++ later) p ∙ append_assoc before (path ∷ []) later ∙ (λ i. before ++ here i ∷ later)
    ∙ (λ i. before ++ related_here text numbers None (is i) target ∷ related_parts text numbers 0 ps (parts_with (is i) target) target)
    ∙ ap (λ x. before ++ related_kind text numbers x target) (sym is)

pub leaf_path : (text numbers : List ℕ) (k : KindTree) (target : Option (List ℕ × KindTree)) (path : RelationPath) (before made : List RelationPath)
    → ((ss : SlotsTree) → k ≡ compound ss → ⊥) → ((last : LastPart) (ps : List MembersTree) → k ≡ extended last ps → ⊥) → path ≡ related_here text numbers None k target → made ≡ before ++ path ∷ []
    → made ≡ before ++ related_kind text numbers k target
leaf_path text numbers k target path before made not none here m = m ∙ (λ i. before ++ here i ∷ []) ∙ ap (λ l. before ++ l) (single k not none)
  where
    single : (k : KindTree) → ((ss : SlotsTree) → k ≡ compound ss → ⊥) → ((last : LastPart) (ps : List MembersTree) → k ≡ extended last ps → ⊥) → related_here text numbers None k target ∷ [] ≡ related_kind text numbers k target
    single (compound ss) not none = absurd (not ss refl)
    single (extended last ps) not none = absurd (none last ps refl)
    single (fixed f) not none = refl
    single (counted size k) not none = refl
    single (by_fx f) not none = refl
    single explicit not none = refl

pub ruleset kinds = (compound_paths, extended_paths, leaf_path)

-- ---- parts

module _ (text numbers : List ℕ) (shared : ℕ) (target : Option (List ℕ × KindTree)) (i n : ℕ) (ps : List Part) where
  pub parts_step : (path : RelationPath) (paths new all : List RelationPath) → path ≡ related_part text numbers n shared target → new ≡ paths ++ path ∷ []
      → paths ++ related_parts text numbers n (map part_tree (drop i ps)) shared target ≡ all → i < length ps → new ++ related_parts text numbers (n + 1) (map part_tree (drop (i + 1) ps)) shared target ≡ all
  parts_step path paths new all here e h within =
      let later = related_parts text numbers (n + 1) (map part_tree (drop (i + 1) ps)) shared target in
      ap (λ l. l ++ later) e ∙ append_assoc paths (path ∷ []) later ∙ (λ j. paths ++ here j ∷ later)
      ∙ ap (λ l. paths ++ l) (sym (one (drop i ps) refl)) ∙ h
    where
      next : drop (i + 1) ps ≡ drop 1 (drop i ps)
      next = sym (drop-drop 1 i ps)

      one : (qs : List Part) → drop i ps ≡ qs → related_parts text numbers n (map part_tree (drop i ps)) shared target
          ≡ related_part text numbers n shared target ∷ related_parts text numbers (n + 1) (map part_tree (drop (i + 1) ps)) shared target
      one [] e = absurd (let l = ap length e in omega (arith, length-drop i ps, l, within))
      one (q ∷ qs) e =
          ap (λ x. related_parts text numbers n (map part_tree x) shared target) e
          ∙ ap (λ x. related_part text numbers n shared target ∷ related_parts text numbers (n + 1) (map part_tree x) shared target) (sym (next ∙ ap (drop 1) e))

  pub parts_end : (paths all : List RelationPath) → paths ++ related_parts text numbers n (map part_tree (drop i ps)) shared target ≡ all → length ps ≤ i → paths ≡ all
  parts_end paths all h past = sym (append-nil paths) ∙ ap (λ l. paths ++ l) (sym (ap (λ x. related_parts text numbers n (map part_tree x) shared target) (drop_all i ps past))) ∙ h

pub ruleset parts = (parts_step, parts_end)

-- ---- slots, and items as slots

first_paths : (text numbers : List ℕ) (n : ℕ) (s : SlotTree) (ss : SlotsTree) (rule : List ℕ → Option (List ℕ × KindTree))
    → related_slots text numbers n (slot_and s ss) rule ≡ related_slot text numbers n s rule ++ related_slots text numbers (n + 1) ss rule
first_paths text numbers n spare_slot ss rule = refl
first_paths text numbers n (subitem name k) ss rule = refl

module _ {A : Type 0} (tree : A → SlotTree) (text numbers : List ℕ) (rule : List ℕ → Option (List ℕ × KindTree)) (i n : ℕ) (ss : List A) where
  step : (s : A) (paths new all : List RelationPath) → new ≡ paths ++ related_slot text numbers (n + 1) (tree s) rule
      → paths ++ related_slots text numbers (n + 1) (slots_of (map tree (drop i ss))) rule ≡ all → i < length ss → s ≡ get_or ss i s → new ++ related_slots text numbers (n + 1 + 1) (slots_of (map tree (drop (i + 1) ss))) rule ≡ all
  step s paths new all e h within is =
      let later = related_slots text numbers (n + 1 + 1) (slots_of (map tree (drop (i + 1) ss))) rule in
      ap (λ l. l ++ later) e ∙ append_assoc paths (related_slot text numbers (n + 1) (tree s) rule) later
      ∙ ap (λ l. paths ++ l) (sym (ap (λ x. related_slots text numbers (n + 1) (slots_of (map tree x)) rule) (from_place ss i s within is) ∙ first_paths text numbers (n + 1) (tree s) (slots_of (map tree (drop (i + 1) ss))) rule)) ∙ h

  end : (paths all : List RelationPath) → paths ++ related_slots text numbers (n + 1) (slots_of (map tree (drop i ss))) rule ≡ all → length ss ≤ i → paths ≡ all
  end paths all h past = sym (append-nil paths) ∙ ap (λ l. paths ++ l) (sym (ap (λ x. related_slots text numbers (n + 1) (slots_of (map tree x)) rule) (drop_all i ss past))) ∙ h

pub slots_step : (text numbers : List ℕ) (rule : List ℕ → Option (List ℕ × KindTree)) (i n : ℕ) (ss : List Slot) (s : Slot) (paths new all : List RelationPath) → new ≡ paths ++ related_slot text numbers (n + 1) (slot_tree s) rule
    → paths ++ related_slots text numbers (n + 1) (slots_tree (drop i ss)) rule ≡ all → i < length ss → s ≡ get_or ss i s
    → new ++ related_slots text numbers (n + 1 + 1) (slots_tree (drop (i + 1) ss)) rule ≡ all
slots_step text numbers rule i n ss = step slot_tree text numbers rule i n ss

pub slots_end : (text numbers : List ℕ) (rule : List ℕ → Option (List ℕ × KindTree)) (i n : ℕ) (ss : List Slot) (paths all : List RelationPath) → paths ++ related_slots text numbers (n + 1) (slots_tree (drop i ss)) rule ≡ all
    → length ss ≤ i → paths ≡ all
slots_end text numbers rule i n ss = end slot_tree text numbers rule i n ss

pub ruleset slots = (slots_step, slots_end)

pub items_step : (text : List ℕ) (rule : List ℕ → Option (List ℕ × KindTree)) (i n : ℕ) (ss : List (Option (Bor Item))) (s : Option (Bor Item)) (paths new all : List RelationPath) → new ≡ paths ++ related_slot text [] (n + 1) (item_slot s) rule
    → paths ++ related_slots text [] (n + 1) (items_tree (drop i ss)) rule ≡ all → i < length ss → s ≡ get_or ss i s
    → new ++ related_slots text [] (n + 1 + 1) (items_tree (drop (i + 1) ss)) rule ≡ all
items_step text rule i n ss = step item_slot text [] rule i n ss

pub items_end : (text : List ℕ) (rule : List ℕ → Option (List ℕ × KindTree)) (i n : ℕ) (ss : List (Option (Bor Item))) (paths all : List RelationPath) → paths ++ related_slots text [] (n + 1) (items_tree (drop i ss)) rule ≡ all
    → length ss ≤ i → paths ≡ all
items_end text rule i n ss = end item_slot text [] rule i n ss

pub ruleset items = (items_step, items_end)
