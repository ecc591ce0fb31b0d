-- Named paths and keys, and the entries that a record has at its keys (this project's own paths). A path is its names, from
-- an item of the user application profile (UAP) downwards; a record is read as a compound whose slots are the UAP's.
use Rattle.std.specs.Prelude.{ℕ, zero, suc, ◌+◌, List, [], ◌∷◌, ◌++◌, map, flat_map, codes, decimal, Option, Some, None, option_and_then}
use Rattle.ax_format.specs.At.{slot_value}
use Rattle.ax_format.specs.Naming.{slot_named}
use Rattle.ax_format.specs.Paths.{at, path_text}
use Rattle.ax_format.specs.Same.{emptied_members, emptied}
use Rattle.ax_format.specs.Specification.{SpecTree, record_slots, record_kind}
use Rattle.ax_format.specs.Tree.{MembersTree, KindTree, extended, compound, SlotsTree, no_slots, slot_and, spare_slot, subitem, ValueTree, part_values, marked, ValuesTree, ListsTree, no_lists, list_and, EntriesTree}

-- ---- the named paths of a specification

abbrev mutual
  -- from a kind downwards, itself first, then those of its subitems in slot order
  pub paths_of : KindTree → List (List (List ℕ))
  paths_of (compound ss) = [] ∷ slot_paths ss
  paths_of _ = [] ∷ []

  pub slot_paths : SlotsTree → List (List (List ℕ))
  slot_paths no_slots = []
  slot_paths (slot_and spare_slot ss) = slot_paths ss
  slot_paths (slot_and (subitem name k) ss) = map (λ path. name ∷ path) (paths_of k) ++ slot_paths ss

-- by ascending field reference number (FRN), a compound before its subitems
abbrev pub named_paths : SpecTree → List (List (List ℕ))
named_paths spec = slot_paths (record_slots spec)

-- the kind to which the names lead downwards from a kind
abbrev pub kind_at : List (List ℕ) → KindTree → Option KindTree
kind_at [] k = Some k
kind_at (name ∷ names) (compound ss) = option_and_then (λ s. kind_at names s.1) (slot_named 1 name ss)
kind_at (name ∷ names) _ = None

-- ---- its keys

-- a named path, or that of an extended item with the number of a part, from 0
pub record Key : Type 0 where
  pub names : List (List ℕ)
  pub part : Option ℕ

-- of parts of which the first has the number n
abbrev pub part_keys : List (List ℕ) → ℕ → List MembersTree → List Key
part_keys names n [] = []
part_keys names n (p ∷ ps) = record { names = names; part = Some n } ∷ part_keys names (n + 1) ps

-- of a named path of a kind: itself and, of an extended item, its parts in order
abbrev pub keys_at : List (List ℕ) → Option KindTree → List Key
keys_at names (Some (extended last ps)) = record { names = names; part = None } ∷ part_keys names 0 ps
keys_at names _ = record { names = names; part = None } ∷ []

-- in the order of the named paths, an extended item before its parts
abbrev pub named_keys : SpecTree → List Key
named_keys spec = flat_map (λ names. keys_at names (kind_at names (record_kind spec))) (named_paths spec)

-- ---- their texts

abbrev pub with_part : List ℕ → Option ℕ → List ℕ
with_part text None = text
with_part text (Some i) = at text (codes "part" ++ decimal i)

abbrev pub key_text : ℕ → Key → List ℕ
key_text category key = with_part (path_text category key.names) key.part

-- ---- the entries of a record

-- the mark of a compound; that of an extended item; a part with its members, tables emptied, and its values; or a leaf with
-- its kind, tables emptied, and its value
pub data NamedEntry : Type 0 where
  compound_mark : NamedEntry
  parts_mark : NamedEntry
  part_leaf : MembersTree → ValuesTree → NamedEntry
  leaf : KindTree → ValueTree → NamedEntry

abbrev pub own_entry : KindTree → ValueTree → NamedEntry
own_entry (compound ss) v = compound_mark
own_entry (extended last ps) v = parts_mark
own_entry k v = leaf (emptied k) v

-- the part after i others, if it is present
abbrev pub part_entry : ℕ → List MembersTree → ListsTree → Option NamedEntry
part_entry i [] ls = None
part_entry i (p ∷ ps) no_lists = None
part_entry zero (p ∷ ps) (list_and vs ls) = Some (part_leaf (emptied_members p) vs)
part_entry (suc i) (p ∷ ps) (list_and vs ls) = part_entry i ps ls

-- of a value itself, or of the part of that number
abbrev pub entry_of : Option ℕ → KindTree → ValueTree → Option NamedEntry
entry_of None k v = Some (own_entry k v)
entry_of (Some i) (extended last ps) (part_values ls) = part_entry i ps ls
entry_of (Some i) _ _ = None

-- the entry to which the names lead downwards from a value of a kind
abbrev pub entry_at : Option ℕ → List (List ℕ) → KindTree → ValueTree → Option NamedEntry
entry_at part [] k v = entry_of part k v
entry_at part (name ∷ names) (compound ss) (marked es) = option_and_then (λ s. option_and_then (entry_at part names s.1) (slot_value s.0 es)) (slot_named 1 name ss)
entry_at part (name ∷ names) _ _ = None

-- the record itself has no path
abbrev pub entry_named : SpecTree → EntriesTree → Option ℕ → List (List ℕ) → Option NamedEntry
entry_named spec es part [] = None
entry_named spec es part (name ∷ names) = entry_at part (name ∷ names) (record_kind spec) (marked es)

-- the map of a record from its keys that are present to their entries
abbrev pub Named : SpecTree → EntriesTree → Key → Option NamedEntry
Named spec es key = entry_named spec es key.part key.names
