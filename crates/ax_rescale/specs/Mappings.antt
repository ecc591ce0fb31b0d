-- From which old slot each new one gets its value, and how, in the new edition's order.
use Rattle.std.specs.Prelude.{ℕ, ◌+◌, if◌then◌else◌, List, [], ◌∷◌, ◌++◌, Option, Some, None, option_and_then}
use Rattle.ax_relation.specs.Moved.{entry_where}
use Rattle.ax_format.specs.At.{slot_value}
use Rattle.ax_format.specs.Same.{common_parts}
use Rattle.ax_format.specs.Shared.{is_shared_kind}
use Rattle.ax_format.specs.Specification.{SpecTree, record_kind}
use Rattle.ax_format.specs.Tree.{KindTree, compound, SlotTree, SlotsTree, no_slots, slot_and, spare_slot, subitem, ValueTree, EntriesTree, no_entries}
use Rattle.ax_relation.specs.Below.{slot_below}
use Rattle.ax_relation.specs.Passing.{value_by, entry_list}
use Rattle.ax_rescale.specs.Alike.{is_alike}
use Rattle.ax_rescale.specs.Conversion.{KindPair}
use Rattle.ax_rescale.specs.ConvertedValue.{converted_value}

mutual
  -- the old slot, the new one, their kinds where values are converted, how many first parts pass of an extended item, and what
  -- passes below in a compound
  pub data MappingTree : Type 0 where
    mapping_from : ℕ → ℕ → Option KindPair → ℕ → MappingsTree → MappingTree

  pub data MappingsTree : Type 0 where
    no_mappings : MappingsTree
    mapping_and : MappingTree → MappingsTree → MappingsTree

abbrev pub mappings_from : List MappingTree → MappingsTree
mappings_from [] = no_mappings
mappings_from (w ∷ ws) = mapping_and w (mappings_from ws)

-- ---- of two editions

-- from an old slot of the kind k to a new one of the kind l
abbrev pub mapping_between : ℕ → ℕ → KindTree → KindTree → List MappingTree → List MappingTree
mapping_between s t k l below =
    if is_shared_kind k l then mapping_from s t None (common_parts k l) (mappings_from below) ∷ [] else (if is_alike k l then mapping_from s t (Some (record { old = k; new = l })) 0 no_mappings ∷ [] else [])

-- to the new slot t of a kind, from the old slot found for it
abbrev pub mapping_where : ℕ → KindTree → Option (ℕ × KindTree) → (KindTree → List MappingTree) → List MappingTree
mapping_where t l None below = []
mapping_where t l (Some s) below = mapping_between s.0 t s.1 l (below s.1)

abbrev mutual
  -- from an old kind, the second one, to a new one
  pub mappings_below : KindTree → KindTree → List MappingTree
  mappings_below (compound ts) k = mappings_of 1 ts (λ name. slot_below name k)
  mappings_below _ k = []

  -- the first of the new slots has the number t; the rule says which old slot has a name
  pub mappings_of : ℕ → SlotsTree → (List ℕ → Option (ℕ × KindTree)) → List MappingTree
  mappings_of t no_slots rule = []
  mappings_of t (slot_and spare_slot ts) rule = mappings_of (t + 1) ts rule
  mappings_of t (slot_and (subitem name l) ts) rule = mapping_where t l (rule name) (mappings_below l) ++ mappings_of (t + 1) ts rule

-- to one new slot
abbrev pub slot_mappings : ℕ → SlotTree → (List ℕ → Option (ℕ × KindTree)) → List MappingTree
slot_mappings t spare_slot rule = []
slot_mappings t (subitem name l) rule = mapping_where t l (rule name) (mappings_below l)

-- from a record of the old edition to one of the new
abbrev pub record_mappings : SpecTree → SpecTree → List MappingTree
record_mappings old new = mappings_below (record_kind new) (record_kind old)

-- ---- of values

-- the value of the new kind of a pair to which one of the old kind is converted, if there is one
abbrev pub pair_converted : KindPair → ValueTree → Option ValueTree
pair_converted pair v = converted_value pair.old pair.new v

-- the converted value, if there is one; else what passes of the value
abbrev pub value_where : Option KindPair → ℕ → (EntriesTree → EntriesTree) → ValueTree → Option ValueTree
value_where None c rule v = Some (value_by c rule v)
value_where (Some pair) c rule v = pair_converted pair v

abbrev pub passed_by : MappingsTree → EntriesTree → EntriesTree
passed_by no_mappings es = no_entries
passed_by (mapping_and (mapping_from s t p c below) ws) es = entry_where t (option_and_then (value_where p c (passed_by below)) (slot_value s es)) (passed_by ws es)

abbrev pub mapping_value : MappingTree → ValueTree → Option ValueTree
mapping_value (mapping_from s t p c below) v = value_where p c (passed_by below) v

-- the entry that a mapping makes, if there is one
abbrev pub mapping_entries : MappingTree → EntriesTree → List (ℕ × ValueTree)
mapping_entries (mapping_from s t p c below) es = entry_list t (option_and_then (value_where p c (passed_by below)) (slot_value s es))
