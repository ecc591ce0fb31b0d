-- The canonical octets of a migrated value, of the old value as it stands: by the moves from the old slots to the new ones,
-- without the migrated value itself.
use Rattle.std.specs.Prelude.{ℕ, ◌-◌, nat_lt, if◌then◌else◌, List, [], ◌++◌, set, Option, Some, None}
use Rattle.ax_relation.specs.Moves.{MoveTree, move_from, MovesTree, no_moves, move_and}
use Rattle.ax_relation.specs.Moved.{first_lists}
use Rattle.ax_fspec.specs.Fields.{least_field}
use Rattle.ax_fspec.specs.Marks.{no_marks}
use Rattle.ax_format.specs.At.{slot_value}
use Rattle.ax_format.specs.Canonical.{canon}
use Rattle.ax_format.specs.Lengths.{kind_after}
use Rattle.ax_format.specs.Tree.{KindTree, compound, SlotsTree, ValueTree, part_values, marked, EntriesTree}

-- ---- presence fields

-- the set with that slot, if it is one from 1 to 126
abbrev pub with_slot : ℕ → List ℕ → List ℕ
with_slot t marks = if nat_lt 0 t then (if nat_lt t 127 then set marks (t - 1) 1 else marks) else marks

abbrev pub with_slot_where : Option ValueTree → ℕ → List ℕ → List ℕ
with_slot_where None t marks = marks
with_slot_where (Some v) t marks = with_slot t marks

-- the set with the new slots of the entries that move
abbrev pub marks_by : MovesTree → EntriesTree → List ℕ → List ℕ
marks_by no_moves es marks = marks
marks_by (move_and (move_from s t c below) ms) es marks = marks_by ms es (with_slot_where (slot_value s es) t marks)

-- the least presence field of them
abbrev pub field_by : MovesTree → EntriesTree → List ℕ
field_by ms es = least_field (marks_by ms es no_marks)

-- ---- values

abbrev pub spelled_where : Option KindTree → Option ValueTree → (KindTree → ValueTree → List ℕ) → List ℕ
spelled_where (Some k) (Some v) rule = rule k v
spelled_where _ _ rule = []

-- a compound's entries by the rule, after a field; another value canonically
abbrev pub compound_canon : (EntriesTree → List ℕ) → (SlotsTree → EntriesTree → List ℕ) → KindTree → ValueTree → List ℕ
compound_canon field rule (compound ss) (marked es) = field es ++ rule ss es
compound_canon field rule (compound ss) _ = []
compound_canon field rule k v = canon k v

-- of an extended value the first c parts; another value whole
abbrev pub first_parts : ℕ → ValueTree → ValueTree
first_parts c (part_values ls) = part_values (first_lists c ls)
first_parts c v = v

-- the entries that move, in the order of the moves, each of the kind of its old slot
abbrev pub entries_canon_by : MovesTree → SlotsTree → EntriesTree → List ℕ
entries_canon_by no_moves ss es = []
entries_canon_by (move_and (move_from s t c below) ms) ss es =
    spelled_where (kind_after (s - 1) ss) (slot_value s es) (λ k v. compound_canon (field_by below) (entries_canon_by below) k (first_parts c v)) ++ entries_canon_by ms ss es

-- a value of an old kind as it moves, an extended one whole
abbrev pub canon_by : MovesTree → KindTree → ValueTree → List ℕ
canon_by ms k v = compound_canon (field_by ms) (entries_canon_by ms) k v

-- the same, of an extended one the first c parts
abbrev pub value_canon_by : ℕ → MovesTree → KindTree → ValueTree → List ℕ
value_canon_by c ms k v = canon_by ms k (first_parts c v)

-- a whole record or compound as it moves: its least presence field, and the entries that move
abbrev pub whole_canon_by : MovesTree → SlotsTree → EntriesTree → List ℕ
whole_canon_by ms ss es = field_by ms es ++ entries_canon_by ms ss es

-- the entry that a move makes, if there is one
abbrev pub move_canon : MoveTree → SlotsTree → EntriesTree → List ℕ
move_canon (move_from s t c below) ss es = spelled_where (kind_after (s - 1) ss) (slot_value s es) (value_canon_by c below)

abbrev pub move_marks : MoveTree → EntriesTree → List ℕ → List ℕ
move_marks (move_from s t c below) es marks = with_slot_where (slot_value s es) t marks
