-- What is added to a table.
use Rattle.std.specs.Prelude.{◌≡◌, ℕ, ◌≤◌, ◌<◌, List, ◌++◌, length, map}
use Rattle.ax_format.specs.Tree.{KindTree, fixed, SlotTree}
use Rattle.ax_codec.specs.Meaning.{Meaning, a_fixed, a_kind, meanings, linked, linked_slot}
use Rattle.ax_codec.specs.Table.{IsTable, LinksWithin, SlotLinksWithin}
use Rattle.ax_codec.specs.declared.node.Node.{Node}

-- a table that goes on after another
pub record GoesOn (old new : List Node) : Type 0 where
  pub table : IsTable new
  pub more : List Node
  pub grown : new ≡ old ++ more

-- the table goes on, and the link leads to a node of that meaning
pub record IsMade (old new : List Node) (link : ℕ) (m : Meaning) : Type 0 where
  pub grows : GoesOn old new
  pub some : 0 < link
  pub within : link ≤ length new
  pub means : linked (meanings new) link ≡ m

-- the meaning of a kind's node
abbrev pub of_kind : KindTree → Meaning
of_kind (fixed f) = a_fixed f
of_kind k = a_kind k

-- the table goes on, and the links lead to nodes of these meanings
pub record AreMade {A : Type 0} (see : List Meaning → ℕ → A) (old new : List Node) (links : List ℕ) (made : List A) : Type 0 where
  pub grows : GoesOn old new
  pub within : LinksWithin (length new) links
  pub means : map (see (meanings new)) links ≡ made

-- a slot's link
pub record SlotIsMade (old new : List Node) (link : ℕ) (slot : SlotTree) : Type 0 where
  pub grows : GoesOn old new
  pub within : link ≤ length new
  pub means : linked_slot (meanings new) link ≡ slot

pub record SlotsAreMade (old new : List Node) (links : List ℕ) (slots : List SlotTree) : Type 0 where
  pub grows : GoesOn old new
  pub within : SlotLinksWithin (length new) links
  pub means : map (linked_slot (meanings new)) links ≡ slots
