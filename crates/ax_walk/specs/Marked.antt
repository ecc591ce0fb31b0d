-- What a walk over marked slots meets, from its start on.
use Rattle.std.specs.Prelude.{◌≡◌, ℕ, ◌+◌, ◌-◌, ◌*◌, Bool, false, true, List, ◌++◌, take, drop, get_or, Option, IfSome, option_map}
use Rattle.ax_fspec.specs.Marks.{seven}
use Rattle.ax_fspec.specs.Reading.{FailsAt, entries_at}
use Rattle.ax_format.specs.At.{slot_value}
use Rattle.ax_format.specs.Presence.{NoneUndefined}
use Rattle.ax_format.specs.Reader.{Read}
use Rattle.ax_format.specs.Tree.{EntriesTree, KindTree, ValueTree, counted, defined_slots}
use Rattle.ax_format.specs.Widths.{counter_octets}
use Rattle.ax_format.specs.declared.fault.BodyFault.{BodyFault}
use Rattle.ax_format.specs.declared.kind.Counter.{Counter}
use Rattle.ax_rows.specs.Rows.{AreRows}
use Rattle.ax_rows.specs.declared.slot_rows.Rows.{Rows}
use Rattle.ax_codec.specs.NodeRows.{node_slots}
use Rattle.ax_codec.specs.Table.{kind_at, record_kind_at}
use Rattle.ax_codec.specs.declared.codec.Codec.{Codec}
use Rattle.ax_codec.specs.declared.node.Node.{Node}
use Rattle.ax_codec.specs.declared.node.Node.TheVariants as Of
use Rattle.ax_walk.specs.InPlace.{FollowsEntries}
use Rattle.ax_walk.specs.Left.{Occurrence}
use Rattle.ax_walk.specs.Placing.{PlacesEntries, window_value}
use Rattle.ax_walk.specs.Rows.{HaveRows, SlotsLead, marks_of, slots_at, tree_of}
use Rattle.ax_walk.specs.Shown.{AreOccurrences, item_value, occurrences_in}
use Rattle.ax_walk.specs.Values.{IsGot, entries_found, value_in}
use Rattle.ax_walk.specs.Walking.{Walks, along, fx_kind}
use Rattle.ax_walk.specs.declared.item.ItemView.{ItemView}
use Rattle.ax_walk.specs.declared.places.PlacedSlots.{PlacedSlots}
use Rattle.ax_walk.specs.declared.places.Places.{Places}
use Rattle.ax_walk.specs.declared.places.Window.{Window}
use Rattle.ax_walk.specs.declared.start.Field.{Field}
use Rattle.ax_walk.specs.declared.start.Start.{Start}
use Rattle.ax_walk.specs.declared.table.LinkedSlots.{LinkedSlots}
use Rattle.ax_walk.specs.declared.table.Table.{Table}

-- the kind of the values of these slots
abbrev pub slots_kind : LinkedSlots → KindTree
slots_kind slots = record_kind_at slots.table.nodes.now slots.links.now

-- ---- entries

-- no slot is marked that is spare or past the last
abbrev pub MarksDefined : List Node → List ℕ → List ℕ → Type 0
MarksDefined nodes links marks = NoneUndefined (defined_slots (tree_of nodes links)) marks

-- the entries of the marked slots, of which the first begins there
abbrev pub entries_from : List Node → List ℕ → List ℕ → Start → Read EntriesTree
entries_from nodes links marks start = entries_at (tree_of nodes links) marks start.body.now start.at

-- they are read up to octet `end`
abbrev pub WalksMarked : List Node → List ℕ → List ℕ → Start → ℕ → Bool → Type 0
WalksMarked nodes links marks start end least = Walks (along (tree_of nodes links) marks) (entries_from nodes links marks start) start.body.now start.at end least

-- they aren't read
abbrev pub FailsMarked : List Node → List ℕ → List ℕ → Start → BodyFault → Type 0
FailsMarked nodes links marks start fault = FailsAt (entries_from nodes links marks start) start.at fault

-- these octets stand right after the entries before that of the slot
abbrev pub FollowsFound : List Node → List ℕ → List ℕ → Start → ℕ → List ℕ → Type 0
FollowsFound nodes links marks start slot octets = FollowsEntries nodes links slot (entries_found (entries_from nodes links marks start)) start.body.now start.at octets

-- wherever they are all read, the item has the value of the slot, or there is none where the slot isn't marked
abbrev pub HasFoundValue : List Node → List ℕ → List ℕ → Start → ℕ → Option ItemView → Type 0
HasFoundValue nodes links marks start slot found =
    IsGot (entries_from nodes links marks start) → option_map item_value found ≡ slot_value slot (entries_found (entries_from nodes links marks start))

-- and it stands right after the entries before
abbrev pub StandsFound : List Node → List ℕ → List ℕ → Start → ℕ → Option ItemView → Type 0
StandsFound nodes links marks start slot found = IsGot (entries_from nodes links marks start) → IfSome found (λ item. FollowsFound nodes links marks start slot item.body.now)

-- they are read up to octet `end`, and stand where the places say
abbrev pub PlacesMarked : LinkedSlots → Start → Places → ℕ → Type 0
PlacesMarked slots start places end = PlacesEntries slots.table.nodes.now slots.links.now places.marked start.body.now start.at places.windows end

-- the value of a slot in a window of the body
abbrev pub placed_value : PlacedSlots → ℕ → Window → ValueTree
placed_value p slot w = window_value p.codec.now.nodes p.slots.now p.body.now slot w

-- ---- rows

-- the links of the slots of a compound that the link leads to
abbrev pub slots_under : List Node → ℕ → List ℕ
slots_under nodes link = node_slots (get_or nodes (link - 1) Of.Explicit)

-- rows of the slots of the node that the link leads to
abbrev pub AreRowsAt : Table → ℕ → Rows → Type 0
AreRowsAt table link rows = AreRows table.octets.now (slots_under table.nodes.now link) rows.start.now rows.steps.now

-- each octet of the presence field has a row
abbrev pub FieldHasRows : LinkedSlots → Field → Type 0
FieldHasRows slots field = HaveRows slots.table.octets.now slots.links.now field.start.body.now field.start.at field.octets

-- behind the values of the slots that a presence octet marks stand those of the slots after them
abbrev pub RowLeads : LinkedSlots → ℕ → ℕ → Start → ℕ → Bool → Type 0
RowLeads slots index marks start end least =
    (s : ℕ) (more : List ℕ) → SlotsLead slots.table.nodes.now start.body.now s (slots_at index slots.links.now) (seven marks ++ more) start.at (s + 7) (drop 7 (slots_at index slots.links.now)) more end least

-- behind those of the slots that a presence field marks stand those of the slots after them
abbrev pub RowsLead : LinkedSlots → Field → ℕ → Bool → Type 0
RowsLead slots field end least =
    (more : List ℕ) → SlotsLead slots.table.nodes.now field.start.body.now 1 slots.links.now (marks_of (take field.octets (drop field.start.at field.start.body.now)) ++ more) (field.start.at + field.octets) (7 * field.octets + 1) (slots_at field.octets slots.links.now) more end least

-- ---- occurrences

-- views of the occurrences of a counted or wide item, which stand after its counter
abbrev pub AreCounted : Codec → Counter → ℕ → List ℕ → List Occurrence → Type 0
AreCounted codec size inner octets shown = AreOccurrences codec inner false (drop (counter_octets size) octets) (occurrences_in (value_in (counted size (kind_at codec.nodes inner)) octets)) shown

-- views of those of an item by FX
abbrev pub AreByFx : Codec → ℕ → List ℕ → List Occurrence → Type 0
AreByFx codec inner octets shown = AreOccurrences codec inner true octets (occurrences_in (value_in (fx_kind codec.nodes inner) octets)) shown
