-- The relation of two editions as it is made, path by path of the old edition. What stands at a path of the new edition is
-- the slot numbers on the way to it, and its kind.
use Rattle.std.specs.Prelude.{◌≡◌, ℕ, ◌+◌, nat_lt, if◌then◌else◌, List, [], ◌∷◌, ◌++◌, Option, Some, None, option_map, option_and_then}
use Rattle.ax_edition.specs.Index.{found, slot_of}
use Rattle.ax_relation.specs.Below.{slot_below}
use Rattle.ax_edition.specs.declared.index.NamedSlot.{NamedSlot}
use Rattle.ax_edition.specs.declared.relating.Keys.{Keys}
use Rattle.ax_edition.specs.declared.level.Level.{Level}
use Rattle.ax_edition.specs.declared.level.Target.{Target}
use Rattle.ax_edition.specs.declared.way.Way.{Way}
use Rattle.ax_relation.specs.declared.relation.RelationPath.{RelationPath}
use Rattle.ax_format.specs.Paths.{at, three_digits}
use Rattle.ax_format.specs.Named.{with_part}
use Rattle.ax_format.specs.Placed.{place_from}
use Rattle.ax_format.specs.Plain.{kind_tree}
use Rattle.ax_format.specs.Same.{common_parts}
use Rattle.ax_format.specs.Shared.{is_shared_at}
use Rattle.ax_format.specs.Tree.{MembersTree, KindTree, extended, compound, SlotTree, SlotsTree, no_slots, slot_and, spare_slot, subitem}
use Rattle.ax_format.specs.declared.place.Place.{Place}

-- ---- the new edition

abbrev pub target_tree : Target → List ℕ × KindTree
target_tree t = (t.numbers, kind_tree t.kind.now)

abbrev pub target_there : Option Target → Option (List ℕ × KindTree)
target_there t = option_map target_tree t

-- after these slot numbers
abbrev pub after : List ℕ → ℕ × KindTree → List ℕ × KindTree
after numbers s = (numbers ++ s.0 ∷ [], s.1)

abbrev pub target_below : List ℕ → List ℕ × KindTree → Option (List ℕ × KindTree)
target_below name t = option_map (after t.0) (slot_below name t.1)

-- what there is at a name below a target, if there is one
abbrev pub below_target : Option (List ℕ × KindTree) → List ℕ → Option (List ℕ × KindTree)
below_target target name = option_and_then (target_below name) target

-- what a level has at a name
abbrev pub lead : Level → List ℕ → Option (List ℕ × KindTree)
lead level name = option_map (after level.numbers) (found level.index name)

pub record LeadsBelow (target : Option (List ℕ × KindTree)) (level : Level) : Type 0 where
  pub leads : (name : List ℕ) → lead level name ≡ below_target target name

-- ---- the old edition

-- of a kind itself, or of the part of that number
abbrev pub shared_place : Option ℕ → KindTree → Option (List ℕ × KindTree) → Option Place
shared_place part k None = None
shared_place part k (Some t) = if is_shared_at part k t.1 then Some (place_from t.0) else None

abbrev pub related_here : List ℕ → List ℕ → Option ℕ → KindTree → Option (List ℕ × KindTree) → RelationPath
related_here text numbers part k new = record { text = with_part text part; part = part; old = place_from numbers; new = shared_place part k new }

-- how many first parts a kind has in common with what stands there
abbrev pub parts_with : KindTree → Option (List ℕ × KindTree) → ℕ
parts_with k None = 0
parts_with k (Some t) = common_parts k t.1

-- of the part of that number, where so many first ones are shared
abbrev pub part_place : ℕ → ℕ → Option (List ℕ × KindTree) → Option Place
part_place shared i None = None
part_place shared i (Some t) = if nat_lt i shared then Some (place_from t.0) else None

abbrev pub related_part : List ℕ → List ℕ → ℕ → ℕ → Option (List ℕ × KindTree) → RelationPath
related_part text numbers i shared new = record { text = with_part text (Some i); part = Some i; old = place_from numbers; new = part_place shared i new }

-- of parts of which the first has the number n
abbrev pub related_parts : List ℕ → List ℕ → ℕ → List MembersTree → ℕ → Option (List ℕ × KindTree) → List RelationPath
related_parts text numbers n [] shared new = []
related_parts text numbers n (p ∷ ps) shared new = related_part text numbers n shared new ∷ related_parts text numbers (n + 1) ps shared new

abbrev mutual
  pub related_kind : List ℕ → List ℕ → KindTree → Option (List ℕ × KindTree) → List RelationPath
  related_kind text numbers (extended last ps) new = related_here text numbers None (extended last ps) new ∷ related_parts text numbers 0 ps (parts_with (extended last ps) new) new
  related_kind text numbers (compound ss) new = related_here text numbers None (compound ss) new ∷ related_slots text numbers 1 ss (below_target new)
  related_kind text numbers k new = related_here text numbers None k new ∷ []

  -- the first of these slots has the number s; the rule says what the new edition has at a name
  pub related_slots : List ℕ → List ℕ → ℕ → SlotsTree → (List ℕ → Option (List ℕ × KindTree)) → List RelationPath
  related_slots text numbers s no_slots rule = []
  related_slots text numbers s (slot_and spare_slot ss) rule = related_slots text numbers (s + 1) ss rule
  related_slots text numbers s (slot_and (subitem name k) ss) rule = related_kind (at text name) (numbers ++ s ∷ []) k (rule name) ++ related_slots text numbers (s + 1) ss rule

abbrev pub related_slot : List ℕ → List ℕ → ℕ → SlotTree → (List ℕ → Option (List ℕ × KindTree)) → List RelationPath
related_slot text numbers s spare_slot rule = []
related_slot text numbers s (subitem name k) rule = related_kind (at text name) (numbers ++ s ∷ []) k (rule name)

-- the keys of the slots of a record of that category, where a record of the new edition has the second ones
abbrev pub related_between : ℕ → SlotsTree → SlotsTree → List RelationPath
related_between category old new = related_slots (three_digits category) [] 1 old (below_target (Some ([], compound new)))

-- ---- on the way to a path of the old edition

-- the keys of a kind that stands there
abbrev pub keys_of_kind : Way → KindTree → Option (List ℕ × KindTree) → List RelationPath
keys_of_kind way k new = related_kind way.text way.numbers k new

-- those of its parts, where so many first ones are shared
abbrev pub keys_of_parts : Way → List MembersTree → ℕ → Option (List ℕ × KindTree) → List RelationPath
keys_of_parts way ps shared new = related_parts way.text way.numbers 0 ps shared new

-- those of its slots
abbrev pub keys_of_slots : Way → SlotsTree → (List ℕ → Option (List ℕ × KindTree)) → List RelationPath
keys_of_slots way ss rule = related_slots way.text way.numbers 1 ss rule

-- those of its slot of the number n
abbrev pub keys_of_slot : Way → ℕ → SlotTree → (List ℕ → Option (List ℕ × KindTree)) → List RelationPath
keys_of_slot way n s rule = related_slot way.text way.numbers n s rule

-- those of its slot of that name and kind
abbrev pub keys_of_named : Way → NamedSlot → KindTree → (List ℕ → Option (List ℕ × KindTree)) → List RelationPath
keys_of_named way slot k rule = keys_of_slot way slot.number (slot_of slot k) rule

-- ---- the keys that were come to

-- the second ones are the first and, behind them, these
abbrev pub AddsPaths : Keys → Keys → List RelationPath → Type 0
AddsPaths keys added paths = added.paths ≡ keys.paths ++ paths
