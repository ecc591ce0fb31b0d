-- What a relation holds.
use Rattle.std.proofs.Common.{◌≡◌, ℕ, List, [], Option, Some, option_map, option_and_then, ◌∙◌, ap, subst}
use Rattle.ax_edition.proofs.Pairs.{whole_known}
use Rattle.ax_edition.proofs.Readable.{walk_is_relation}
use Rattle.ax_edition.specs.Index.{found, Finds}
use Rattle.ax_edition.specs.Known.{kind_found, known_slots}
use Rattle.ax_relation.specs.Known.{Knows, IsKnown}
use Rattle.ax_relation.specs.Moves.{MoveTree, moves_of, record_moves}
use Rattle.ax_edition.specs.Relating.{target_below, lead, LeadsBelow, related_slots}
use Rattle.ax_relation.specs.Paths.{relation_paths}
use Rattle.ax_edition.specs.declared.index.Index.{Index}
use Rattle.ax_relation.specs.declared.known.Known.{Known}
use Rattle.ax_edition.specs.declared.level.Level.{Level}
use Rattle.ax_relation.specs.declared.relation.RelationPath.{RelationPath}
use Rattle.ax_relation.proofs.DistinctNames.{record_distinct}
use Rattle.ax_format.specs.OfCode.{HasNoFlaw}
use Rattle.ax_format.specs.Naming.{slot_named}
use Rattle.ax_format.specs.Paths.{three_digits}
use Rattle.ax_format.specs.Plain.{spec_tree}
use Rattle.ax_format.specs.Specification.{record_slots}
use Rattle.ax_format.specs.Tree.{KindTree, SlotsTree, compound}
use Rattle.ax_format.specs.declared.spec.Spec.{Spec}

-- ---- what is found by the new items, or the old ones

pub paths_by_rule : (text digits : List ℕ) (os ns : SlotsTree) (level : Level) (paths : List RelationPath) → text ≡ digits → LeadsBelow (Some ([], compound ns)) level → paths ≡ related_slots text [] 1 os (lead level)
    → paths ≡ related_slots digits [] 1 os (λ name. option_and_then (target_below name) (Some ([], compound ns)))
paths_by_rule text digits os ns level paths t l p =
    let rules : lead level ≡ (λ name. option_and_then (target_below name) (Some ([], compound ns))) = λ i name. l.leads name i in p ∙ (λ i. related_slots (t i) [] 1 os (rules i))

pub known_by_rule : (os ns : SlotsTree) (index : Index) (known : Known) → Finds 1 ns index → Knows (known_slots [] os (kind_found index)) known → Knows (known_slots [] os (λ name. option_map (λ s. s.1) (slot_named 1 name ns))) known
known_by_rule os ns index known f k =
    let rules : kind_found index ≡ (λ name. option_map (λ s. s.1) (slot_named 1 name ns)) = λ i name. ap (option_map (λ s. s.1)) (f.finds name) i in
    let P : (List ℕ → Option KindTree) → Type 0 = λ rule. Knows (known_slots [] os rule) known in subst P rules k

pub moves_by_rule : (os ns : SlotsTree) (index : Index) (moves : List MoveTree) → Finds 1 os index → moves ≡ moves_of 1 ns (found index) → moves ≡ moves_of 1 ns (λ name. slot_named 1 name os)
moves_by_rule os ns index moves f m =
    let rules : found index ≡ (λ name. slot_named 1 name os) = λ i name. f.finds name i in m ∙ ap (moves_of 1 ns) rules

-- ---- whole editions

module _ (old new : Spec) (os ns : SlotsTree) (o : os ≡ record_slots (spec_tree old)) (n : ns ≡ record_slots (spec_tree new)) where
  pub paths_are : (paths : List RelationPath) → HasNoFlaw old → paths ≡ related_slots (three_digits old.category) [] 1 os (λ name. option_and_then (target_below name) (Some ([], compound ns)))
      → paths ≡ relation_paths (spec_tree old) (spec_tree new)
  paths_are paths h p =
      p ∙ (λ i. related_slots (three_digits old.category) [] 1 (o i) (λ name. option_and_then (target_below name) (Some ([], compound (n i))))) ∙ walk_is_relation (spec_tree old) (spec_tree new) (record_distinct (spec_tree old) h)

  pub known_are : (known : Known) → HasNoFlaw old → Knows (known_slots [] os (λ name. option_map (λ s. s.1) (slot_named 1 name ns))) known → IsKnown (spec_tree old) (spec_tree new) known
  known_are known h k = whole_known old new os (λ name. option_map (λ s. s.1) (slot_named 1 name ns)) known h o (λ name. ap (option_map (λ s. s.1)) (ap (slot_named 1 name) n)) k

  pub moves_are : (moves : List MoveTree) → moves ≡ moves_of 1 ns (λ name. slot_named 1 name os) → moves ≡ record_moves (spec_tree old) (spec_tree new)
  moves_are moves m = m ∙ (λ i. moves_of 1 (n i) (λ name. slot_named 1 name (o i)))
