-- What an index of slots finds by name.
use Rattle.std.specs.Prelude.{◌≡◌, ℕ, zero, suc, List, slice_get, Option, None, option_map, option_and_then}
use Rattle.std.specs.Borrow.{Bor}
use Rattle.ax_edition.specs.Numbers.{numbered}
use Rattle.ax_edition.specs.declared.index.Index.{Index}
use Rattle.ax_edition.specs.declared.index.NamedSlot.{NamedSlot}
use Rattle.ax_format.specs.Naming.{slot_named}
use Rattle.ax_format.specs.Plain.{kind_tree}
use Rattle.ax_format.specs.Tree.{KindTree, SlotTree, SlotsTree, subitem}
use Rattle.ax_format.specs.declared.kind.Kind.{Kind}
use Rattle.ax_relation.specs.Below.{slot_below}

abbrev pub seen_kind : Option (Bor Kind) → Option KindTree
seen_kind kind = option_map (λ k. kind_tree k.now) kind

-- the kind of a number, which counts from 1
abbrev pub kind_numbered : List (Option (Bor Kind)) → ℕ → Option KindTree
kind_numbered kinds zero = None
kind_numbered kinds (suc i) = option_and_then seen_kind (slice_get kinds i)

-- the slot under a name, by its number and its kind
abbrev pub found : Index → List ℕ → Option (ℕ × KindTree)
found index name = option_and_then (λ n. option_map (λ k. (n, k)) (kind_numbered index.kinds n)) (numbered index.numbers name)

abbrev pub slot_found : ℕ × Bor Kind → ℕ × KindTree
slot_found s = (s.0, kind_tree s.1.now)

-- the first slot of each name, where the first of these slots has the number n
pub record Finds (n : ℕ) (ss : SlotsTree) (index : Index) : Type 0 where
  pub finds : (name : List ℕ) → found index name ≡ slot_named n name ss

pub record FindsBelow (kind : Option KindTree) (index : Index) : Type 0 where
  pub finds : (name : List ℕ) → found index name ≡ option_and_then (slot_below name) kind

-- a slot of that name and kind
abbrev pub slot_of : NamedSlot → KindTree → SlotTree
slot_of slot k = subitem slot.name.now k
