-- What a row says of what is read.
use Rattle.std.specs.Prelude.{◌≡◌, ℕ, ◌+◌, ◌-◌, ◌*◌, ◌/◌, ◌%◌, ◌<◌, ◌≤◌, Bool, List, [], ◌∷◌, ◌++◌, length, drop, get_or}
use Rattle.ax_bits.specs.Bits.{bits}
use Rattle.ax_fspec.specs.Fields.{MarksSlots}
use Rattle.ax_fspec.specs.Marks.{seven}
use Rattle.ax_format.specs.InBounds.{SlotsInBounds}
use Rattle.ax_format.specs.Reader.{Read, entries_read}
use Rattle.ax_format.specs.Tree.{EntriesTree, SlotsTree, slots_of}
use Rattle.ax_fspec.specs.Reading.{entries_at}
use Rattle.ax_rows.specs.Rows.{HaveRow}
use Rattle.ax_codec.specs.Meaning.{meanings, linked_slots}
use Rattle.ax_codec.specs.Table.{SlotLinksWithin}
use Rattle.ax_codec.specs.declared.codec.Codec.{Codec}
use Rattle.ax_codec.specs.declared.node.Node.{Node}
use Rattle.ax_walk.specs.Walking.{Leads, Walks, along}

-- what is read of the marked slots from octet `at` of a body on, where the first slot has the number s
unfoldable pub slots_read : ℕ → SlotsTree → List ℕ → List ℕ → ℕ → Read EntriesTree
slots_read s ss marks body at = entries_read s ss marks (bits (drop at body))

abbrev pub tree_of : List Node → List ℕ → SlotsTree
tree_of nodes links = slots_of (linked_slots (meanings nodes) links)

-- links of slots that lead to nodes whose kinds are in bounds
pub record AreSlots (nodes : List Node) (links : List ℕ) : Type 0 where
  pub within : SlotLinksWithin (length nodes) links
  pub bounds : SlotsInBounds (tree_of nodes links)

-- what is read of the slots `later`, of which the first has the number t, from octet `here` on, decides what is read of the slots
-- `links`, of which the first has the number s, from octet `at` on
pub record SlotsLead (nodes : List Node) (body : List ℕ) (s : ℕ) (links marks : List ℕ) (at t : ℕ) (later later_marks : List ℕ) (here : ℕ) (least : Bool) : Type 0 where
  pub leads : Leads (along (tree_of nodes later) later_marks) (slots_read t (tree_of nodes later) later_marks body here) (along (tree_of nodes links) marks) (slots_read s (tree_of nodes links) marks body at) body at here least

-- ---- presence fields

-- the octets from `at` on, so many, are those of a presence field: each has FX but the last
pub record IsField (body : List ℕ) (at count : ℕ) : Type 0 where
  pub some : 0 < count
  pub within : at + count ≤ length body
  pub goes_on : (j : ℕ) → j + 1 < count → get_or body (at + j) 0 % 2 ≡ 1
  pub ends : get_or body (at + (count - 1)) 0 % 2 ≡ 0

-- the marks of presence octets
abbrev pub marks_of : List ℕ → List ℕ
marks_of [] = []
marks_of (x ∷ xs) = seven (x / 2) ++ marks_of xs

-- the slots from those of presence octet i on
abbrev pub slots_at : ℕ → List ℕ → List ℕ
slots_at i links = drop (7 * i) links

-- behind a presence field from octet `at` on, the items of the slots that it marks are read up to octet `end`
pub record WalksItems (codec : Codec) (body : List ℕ) (at end : ℕ) (least : Bool) : Type 0 where
  pub walks : (here : ℕ) (marks : List ℕ) → MarksSlots codec.mask body at here marks → Walks (along (tree_of codec.nodes codec.slots) marks) (entries_at (tree_of codec.nodes codec.slots) marks body here) body here end least

-- each of so many presence octets has a row
pub record HaveRows (octets links body : List ℕ) (at count : ℕ) : Type 0 where
  pub each : (j : ℕ) → j < count → HaveRow octets (slots_at j links) (seven (get_or body (at + j) 0 / 2))
