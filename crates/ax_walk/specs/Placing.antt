-- Where the values of marked slots stand in a body.
use Rattle.std.specs.Prelude.{◌≡◌, ℕ, ◌-◌, ◌<◌, ◌≤◌, Bool, false, IsTrue, List, length, take, drop, get_or, Option, Some, None, IfSome, option_map}
use Rattle.std.specs.Coded.{Coded-set, coded_ℕ, coded_list}
use Rattle.ax_bits.specs.Bits.{bits}
use Rattle.ax_fspec.specs.Marks.{IsMarked}
use Rattle.ax_fspec.specs.declared.mask.SlotMask.{SlotMask}
use Rattle.ax_format.specs.At.{slot_value}
use Rattle.ax_format.specs.Canonical.{canon}
use Rattle.ax_format.specs.InBounds.{InBounds}
use Rattle.ax_format.specs.Tree.{ValueTree, marked, EntriesTree, slots_of}
use Rattle.ax_fspec.specs.Reading.{Gets, kind_read, entries_at}
use Rattle.ax_codec.specs.Meaning.{meanings, linked_slots}
use Rattle.ax_codec.specs.Table.{SlotLinksWithin, kind_at, record_kind_at}
use Rattle.ax_codec.specs.declared.codec.Codec.{Codec}
use Rattle.ax_codec.specs.declared.node.Node.{Node}
use Rattle.ax_codec.specs.declared.node.Node.TheVariants as Of
use Rattle.ax_walk.specs.InPlace.{FollowsEntries}
use Rattle.ax_walk.specs.Shown.{item_kind, item_value}
use Rattle.ax_walk.specs.Values.{IsOne, value_read, value_in, entries_in}
use Rattle.ax_walk.specs.declared.item.ItemView.{ItemView}
use Rattle.ax_walk.specs.declared.places.PlacedSlots.{PlacedSlots}
use Rattle.ax_walk.specs.declared.places.Places.{Places}
use Rattle.ax_walk.specs.declared.places.Window.{Window}

-- ---- one value

-- where the flag says so, the item's octets are the canonical spelling of its value
abbrev pub IsLeastItem : ItemView → Bool → Type 0
IsLeastItem item least = IsTrue least → canon (item_kind item) (item_value item) ≡ bits item.body.now

pub IsLeastItem-prop : (item : ItemView) (least : Bool) → IsProp (IsLeastItem item least)
IsLeastItem-prop item least a b = λ i. λ said. Coded-set (coded_list coded_ℕ) (canon (item_kind item) (item_value item)) (bits item.body.now) (a said) (b said) i

abbrev pub window_octets : Window → List ℕ → List ℕ
window_octets w body = take (w.end - w.start) (drop w.start body)

abbrev pub no_window : Window
no_window = record { start = 0; end = 0; least = false }

-- the window holds one value of the slot's kind; where it says so, canonically spelled
pub record HoldsValue (nodes : List Node) (links : List ℕ) (body : List ℕ) (slot : ℕ) (w : Window) : Type 0 where
  pub small : slot < 127
  pub known : slot - 1 < length links
  pub link : 0 < get_or links (slot - 1) 0
  pub bounds : InBounds (kind_at nodes (get_or links (slot - 1) 0))
  pub forwards : w.start ≤ w.end
  pub within : w.end ≤ length body
  pub one : IsOne (kind_at nodes (get_or links (slot - 1) 0)) (window_octets w body)
  pub least : IsTrue w.least → canon (kind_at nodes (get_or links (slot - 1) 0)) (value_in (kind_at nodes (get_or links (slot - 1) 0)) (window_octets w body)) ≡ bits (window_octets w body)

abbrev pub window_value : List Node → List ℕ → List ℕ → ℕ → Window → ValueTree
window_value nodes links body slot w = value_in (kind_at nodes (get_or links (slot - 1) 0)) (window_octets w body)

-- ---- all of them

-- each marked slot's window holds the value of its entry, and the other slots have no entry
pub record ArePlaced (nodes : List Node) (links marks : List ℕ) (body : List ℕ) (entries : EntriesTree) (windows : List Window) : Type 0 where
  pub there : (slot : ℕ) → IsMarked marks slot → HoldsValue nodes links body slot (get_or windows slot no_window)
  pub values : (slot : ℕ) → IsMarked marks slot → slot_value slot entries ≡ Some (window_value nodes links body slot (get_or windows slot no_window))
  pub others : (slot : ℕ) → (IsMarked marks slot → ⊥) → slot_value slot entries ≡ None

-- entries are read from octet `at` up to octet `end`, and stand there
pub record PlacesEntries (nodes : List Node) (links marks body : List ℕ) (at : ℕ) (windows : List Window) (end : ℕ) : Type 0 where
  pub entries : EntriesTree
  pub read : Gets (entries_at (slots_of (linked_slots (meanings nodes) links)) marks body at) body at end entries
  pub placed : ArePlaced nodes links marks body entries windows

-- a value of these slots is read from octet `at` up to octet `end`, and its entries stand there
pub record PlacesKind (nodes : List Node) (links body : List ℕ) (at : ℕ) (places : Places) (end : ℕ) : Type 0 where
  pub entries : EntriesTree
  pub read : Gets (kind_read (record_kind_at nodes links) body at) body at end (marked entries)
  pub placed : ArePlaced nodes links places.marked body entries places.windows

-- the subitems of a compound stand in its octets where the places say
abbrev pub PlacesCompound : ItemView → Places → Type 0
PlacesCompound item places =
    (mask : SlotMask) (links : List ℕ) → get_or item.codec.now.nodes (item.link - 1) Of.Explicit ≡ Of.Compound mask links → PlacesKind item.codec.now.nodes links item.body.now 0 places (length item.body.now)

-- ---- one slot

-- the item, or none, is that of the slot among the marked ones, of which the first stands at octet `at`: wherever these are all
-- read, it has the value of the slot, and stands right behind the items before
pub record IsMarkedItem (codec : Codec) (marks body : List ℕ) (at slot : ℕ) (found : Option ItemView) : Type 0 where
  pub value : (end : ℕ) (es : EntriesTree) → Gets (entries_at (slots_of (linked_slots (meanings codec.nodes) codec.slots)) marks body at) body at end es → option_map item_value found ≡ slot_value slot es
  pub window : (end : ℕ) (es : EntriesTree) → Gets (entries_at (slots_of (linked_slots (meanings codec.nodes) codec.slots)) marks body at) body at end es → IfSome found (λ item. FollowsEntries codec.nodes codec.slots slot es body at item.body.now)

-- ---- a record or a compound

-- the entries of a value of these slots that is read from octet `at` on
abbrev pub entries_there : List Node → List ℕ → List ℕ → ℕ → EntriesTree
entries_there nodes links body at = entries_in (value_read (kind_read (record_kind_at nodes links) body at))

abbrev pub placed_entries : PlacedSlots → EntriesTree
placed_entries p = entries_there p.codec.now.nodes p.slots.now p.body.now p.at

-- the places are those of its entries
pub record IsPlaced (p : PlacedSlots) : Type 0 where
  pub links : SlotLinksWithin (length p.codec.now.nodes) p.slots.now
  pub placed : ArePlaced p.codec.now.nodes p.slots.now p.places.now.marked p.body.now (placed_entries p) p.places.now.windows
