-- What the nodes of a table mean: the kinds that they stand for, with names and contents set aside.
use Rattle.std.specs.Prelude.{ℕ, zero, suc, List, [], ◌∷◌, ◌++◌, map, get_or}
use Rattle.ax_format.specs.Tree.{FixedTree, element, group, MembersTree, no_members, MemberTree, named, members_of, KindTree, fixed, extended, counted, by_fx, explicit, compound, no_slots, SlotTree, spare_slot, subitem, slots_of}
use Rattle.ax_format.specs.declared.content.Content.TheVariants.{Raw}
use Rattle.ax_codec.specs.declared.node.Node.{Node}
use Rattle.ax_codec.specs.declared.node.Node.TheVariants as Of

-- a fixed kind, the members of a part, or another kind
pub data Meaning : Type 0 where
  a_fixed : FixedTree → Meaning
  a_part : MembersTree → Meaning
  a_kind : KindTree → Meaning

-- what a link that leads to no node is taken for
abbrev pub nothing : Meaning
nothing = a_part no_members

abbrev pub fixed_of : Meaning → FixedTree
fixed_of (a_fixed f) = f
fixed_of (a_part ms) = group no_members
fixed_of (a_kind k) = group no_members

abbrev pub part_of : Meaning → MembersTree
part_of (a_fixed f) = no_members
part_of (a_part ms) = ms
part_of (a_kind k) = no_members

abbrev pub kind_of : Meaning → KindTree
kind_of (a_fixed f) = fixed f
kind_of (a_part ms) = compound no_slots
kind_of (a_kind k) = k

-- what the link leads to, where the nodes mean these
abbrev pub linked : List Meaning → ℕ → Meaning
linked ms zero = nothing
linked ms (suc i) = get_or ms i nothing

abbrev pub linked_member : List Meaning → ℕ → MemberTree
linked_member ms link = named [] (fixed_of (linked ms link))

abbrev pub linked_part : List Meaning → ℕ → MembersTree
linked_part ms link = part_of (linked ms link)

-- a spare slot has the link 0
abbrev pub linked_slot : List Meaning → ℕ → SlotTree
linked_slot ms zero = spare_slot
linked_slot ms (suc i) = subitem [] (kind_of (get_or ms i nothing))

abbrev pub linked_members : List Meaning → List ℕ → MembersTree
linked_members ms links = members_of (map (linked_member ms) links)

abbrev pub linked_parts : List Meaning → List ℕ → List MembersTree
linked_parts ms links = map (linked_part ms) links

abbrev pub linked_slots : List Meaning → List ℕ → List SlotTree
linked_slots ms links = map (linked_slot ms) links

-- what a node means after nodes that mean these
abbrev pub meaning : List Meaning → Node → Meaning
meaning ms (Of.Element w) = a_fixed (element w Raw)
meaning ms (Of.Group w links) = a_fixed (group (linked_members ms links))
meaning ms (Of.Part w links) = a_part (linked_members ms links)
meaning ms (Of.Extended last links) = a_kind (extended last (linked_parts ms links))
meaning ms (Of.Counted size link) = a_kind (counted size (kind_of (linked ms link)))
meaning ms (Of.ByFx link) = a_kind (by_fx (fixed_of (linked ms link)))
meaning ms Of.Explicit = a_kind explicit
meaning ms (Of.Compound mask links) = a_kind (compound (slots_of (linked_slots ms links)))

-- one node after the other
abbrev pub meanings_after : List Meaning → List Node → List Meaning
meanings_after ms [] = ms
meanings_after ms (n ∷ ns) = meanings_after (ms ++ meaning ms n ∷ []) ns

unfoldable pub meanings : List Node → List Meaning
meanings ns = meanings_after [] ns

-- the bits that a node says a fixed kind or a part has
abbrev pub fixed_bits : Node → ℕ
fixed_bits (Of.Element w) = w
fixed_bits (Of.Group w links) = w
fixed_bits _ = 0

abbrev pub part_bits : Node → ℕ
part_bits (Of.Part w links) = w
part_bits _ = 0
