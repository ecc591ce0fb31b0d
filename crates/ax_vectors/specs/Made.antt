-- What is made under a kind, over a specification, and as data blocks: the bits of a spelling, and the octets of blocks.
use Rattle.std.specs.Prelude.{ℕ, zero, suc, ◌+◌, ◌-◌, ◌*◌, ◌/◌, ◌%◌, ◌^◌, ◌==◌, nat_lt, Bool, true, false, if◌then◌else◌, List, [], ◌∷◌, ◌++◌, length, map, Option, Some, None}
use Rattle.std.specs.Option.{option_map}
use Rattle.ax_bits.specs.Bits.{word}
use Rattle.ax_format.specs.Blocks.{SpellsBlock, read_block}
use Rattle.ax_format.specs.CanonicalOctets.{octets_of, framed}
use Rattle.ax_format.specs.Lengths.{kind_of_slot}
use Rattle.ax_format.specs.Plain.{item_tree, slot_tree}
use Rattle.ax_format.specs.Presence.{octets_needed, first_mark, later_marks, marks_upto, marks_after, least_presence}
use Rattle.ax_format.specs.Sizes.{longest_block}
use Rattle.ax_format.specs.Specification.{SpecTree, record_kind, uap_slot}
use Rattle.ax_format.specs.Widths.{counter_width, fx_width}
use Rattle.ax_format.specs.declared.kind.Counter.{Counter}
use Rattle.ax_format.specs.declared.kind.LastPart.{LastPart}
use Rattle.ax_format.specs.declared.kind.Slot.{Slot}
use Rattle.ax_format.specs.declared.spec.Spec.{Spec}
use Rattle.ax_format.specs.declared.spec.UapSlot.{UapSlot}
use Rattle.ax_format.specs.Tree.{FixedTree, element, group, MemberTree, MembersTree, no_members, member_and, named, spare, KindTree, fixed, extended, counted, by_fx, explicit, compound, SlotsTree, no_slots, slot_and, spare_slot, subitem, defined_slots, EntriesTree}
use Rattle.ax_vectors.specs.Draws.{drawn, next_state}
use Rattle.ax_vectors.specs.Making.{Maker, just, both, times, by_draw}

-- ---- fixed kinds

-- so many draws joined after a number, the first one most significant; and the state after them
abbrev pub joined : ℕ → ℕ → ℕ → ℕ × ℕ
joined zero number state = (number, state)
joined (suc n) number state = joined n (number * 2 ^ 32 + drawn state) (next_state state)

-- the draws that a width needs: its thirty-second part, rounded up
abbrev pub draws_needed : ℕ → ℕ
draws_needed w = (w + 31) / 32

-- an element or a spare: its draws joined, modulo 2^w
abbrev pub number_made : ℕ → Maker
number_made w state = (word w ((joined (draws_needed w) 0 state).0 % 2 ^ w), (joined (draws_needed w) 0 state).1)

abbrev mutual
  pub fixed_made : FixedTree → Maker
  fixed_made (element w c) = number_made w
  fixed_made (group ms) = members_made ms

  pub member_made : MemberTree → Maker
  member_made (named name f) = fixed_made f
  member_made (spare w) = number_made w

  -- the members in order
  pub members_made : MembersTree → Maker
  members_made no_members = just []
  members_made (member_and m ms) = both (member_made m) (members_made ms)

-- ---- extended, by FX, explicit

-- the end of a unit, where so many follow it: 1 before another one, and 0 in the FX bits that the last one has
abbrev pub fx_before : ℕ → ℕ → List ℕ
fx_before fx zero = word fx 0
fx_before fx (suc n) = 1 ∷ []

-- so many of the parts, each with its FX bit, but for the last of all where that has none
abbrev pub parts_made : LastPart → ℕ → List MembersTree → Maker
parts_made last zero ps = just []
parts_made last (suc n) [] = just []
parts_made last (suc n) (p ∷ ps) = both (members_made p) (both (just (fx_before (fx_width last (length ps)) n)) (parts_made last n ps))

-- so many occurrences, each with its FX bit
abbrev pub run_made : ℕ → FixedTree → Maker
run_made zero f = just []
run_made (suc n) f = both (fixed_made f) (both (just (fx_before 1 n)) (run_made n f))

abbrev pub octet_made : Maker
octet_made = by_draw (λ d. just (word 8 (d % 256)))

-- so many octets of content, with their length, itself included, in front
abbrev pub content_made : ℕ → Maker
content_made n = both (just (word 8 (1 + n))) (times n octet_made)

-- ---- presence fields

-- the mark of a slot: of a defined one whether a draw is odd, of a spare one 0 without a draw
abbrev pub mark_made : Bool → Maker
mark_made true = by_draw (λ d. just (d % 2 ∷ []))
mark_made false = just (0 ∷ [])

-- a mark for each slot, by whether it is defined
abbrev pub marks_made : List Bool → Maker
marks_made [] = just []
marks_made (defined ∷ slots) = both (mark_made defined) (marks_made slots)

-- the octets of the least presence field with these marks
abbrev pub least_octets : List ℕ → ℕ
least_octets marks = length (least_presence (octets_needed (length marks)) marks) / 8

-- the presence field of so many octets with these marks, and zeros after them
abbrev pub field_of : ℕ → List ℕ → List ℕ
field_of zero marks = []
field_of (suc n) marks = marks_upto 7 marks ++ (fx_before 1 n ++ field_of n (marks_after 7 marks))

-- how many octets a field may have beyond the least one
abbrev pub octets_spare : List ℕ → ℕ
octets_spare marks = octets_needed (length marks) - least_octets marks

-- the least field; where there is room for redundant octets, a draw gives their number
abbrev pub field_made : List ℕ → Maker
field_made marks = if nat_lt 0 (octets_spare marks) then by_draw (λ d. just (field_of (least_octets marks + d % (octets_spare marks + 1)) marks)) else just (field_of (least_octets marks) marks)

-- ---- what a field marks; a slot is given by the maker of its value, where it isn't spare

-- a value where the slot is marked
abbrev pub value_where : Bool → Option Maker → Maker
value_where true (Some one) = one
value_where true None = just []
value_where false slot = just []

-- the values of the marked slots in order
abbrev pub values_made : List (Option Maker) → List ℕ → Maker
values_made [] marks = just []
values_made (slot ∷ slots) marks = both (value_where (first_mark marks == 1) slot) (values_made slots (later_marks marks))

-- with these marks
abbrev pub marked_made : List (Option Maker) → List ℕ → Maker
marked_made slots marks = both (field_made marks) (values_made slots marks)

-- the marks are drawn first; the field and the values follow
abbrev pub slots_made : List Bool → List (Option Maker) → Maker
slots_made defined slots state = marked_made slots (marks_made defined state).0 (marks_made defined state).1

-- ---- kinds, where so many counted or wide kinds enclose them

-- so many occurrences, with their count in front
abbrev pub counted_made : Counter → ℕ → Maker → Maker
counted_made size n one = both (just (word (counter_width size) n)) (times n one)

abbrev mutual
  pub kind_made : ℕ → KindTree → Maker
  kind_made around (fixed f) = fixed_made f
  kind_made around (extended last ps) = by_draw (λ d. parts_made last (1 + d % length ps) ps)
  kind_made around (counted size k) = if nat_lt around 2 then by_draw (λ d. counted_made size (d % 3) (kind_made (around + 1) k)) else just (word (counter_width size) 0)
  kind_made around (by_fx f) = by_draw (λ d. run_made (1 + d % 3) f)
  kind_made around explicit = by_draw (λ d. content_made (d % 5))
  kind_made around (compound ss) = slots_made (defined_slots ss) (makers around ss)

  -- how the value of each slot is made
  pub makers : ℕ → SlotsTree → List (Option Maker)
  makers around no_slots = []
  makers around (slot_and spare_slot ss) = None ∷ makers around ss
  makers around (slot_and (subitem name k) ss) = Some (kind_made around k) ∷ makers around ss

-- ---- records and blocks

-- the spelling of one record
abbrev pub record_made : SpecTree → Maker
record_made spec = kind_made 0 (record_kind spec)

-- the spellings of one to four records
abbrev pub records_made : SpecTree → Maker
records_made spec = by_draw (λ d. times (1 + d % 4) (record_made spec))

-- the octets of the block with that body; where it would have more than 65,535, of the block of one record without items
abbrev pub block_of : ℕ → List ℕ → List ℕ
block_of category body = if nat_lt longest_block (3 + length body) then framed category (0 ∷ []) else framed category body

-- the octets of one block
abbrev pub block_made : SpecTree → Maker
block_made spec state = (block_of spec.category (octets_of (records_made spec state).0), (records_made spec state).1)

-- the octets of so many blocks from one seed
abbrev pub Made : SpecTree → ℕ → ℕ → List ℕ
Made spec seed count = (times count (block_made spec) seed).0

-- the octets are a data block of the specification's category, and spell records of it
pub record IsSpelledBlock (spec : SpecTree) (octets : List ℕ) : Type 0 where
  pub records : List EntriesTree
  pub spelled : SpellsBlock (spec ∷ []) (read_block spec.category records) octets

-- of a slot of a compound, where it is marked and not spare
abbrev pub subitem_made : Bool → ℕ → Slot → Maker
subitem_made is_marked around slot = value_where is_marked (option_map (kind_made around) (kind_of_slot (slot_tree slot)))

-- of a slot of the UAP, where it is marked and an item's
abbrev pub item_made : Bool → Spec → UapSlot → Maker
item_made is_marked spec slot = value_where is_marked (option_map (kind_made 0) (kind_of_slot (uap_slot (map item_tree spec.items) slot)))
