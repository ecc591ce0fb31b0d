-- Facts about tables and bounds that have one proof at most.
use Rattle.std.specs.Prelude.{◌≡◌, ℕ, ◌+◌, ◌%◌, ◌<◌, ◌≤◌, List, [], ◌∷◌, ◌++◌, length}
use Rattle.std.specs.Coded.{×_prop, Unit-prop, le_prop, Coded-set, coded_ℕ, coded_bool, coded_list}
use Rattle.std.specs.List.{AllByRecursion-prop}
use Rattle.ax_format.specs.InBounds.{FixedInBounds, MembersInBounds, PartInBounds, PartsInBounds, InBounds, SlotsInBounds}
use Rattle.ax_format.specs.Tree.{FixedTree, element, group, MembersTree, no_members, member_and, named, spare, KindTree, fixed, extended, counted, by_fx, explicit, compound, SlotsTree, no_slots, slot_and, spare_slot, subitem, SlotTree}
use Rattle.ax_format.specs.Widths.{width, members_width, fx_width}
use Rattle.ax_format.specs.declared.kind.LastPart.{LastPart}
use Rattle.ax_fspec.specs.declared.mask.SlotMask.{SlotMask}
use Rattle.ax_codec.specs.Meaning.{Meaning, meaning, meanings, linked_slots}
use Rattle.ax_codec.specs.Table.{LinksWithin, SlotLinksWithin, IsNode, AreNodes, IsTable, record_kind_at, IsRecordTable}
use Rattle.ax_codec.specs.declared.node.Node.{Node}
use Rattle.ax_codec.specs.declared.node.Node.TheVariants as Of
use Rattle.ax_fspec.specs.Reading.{IsMaskOf}

pub links_prop : (n : ℕ) (links : List ℕ) → IsProp (LinksWithin n links)
links_prop n links = AllByRecursion-prop (λ link. (0 < link) × (link ≤ n)) (λ link. ×_prop le_prop le_prop) links

slot_links_prop : (n : ℕ) (links : List ℕ) → IsProp (SlotLinksWithin n links)
slot_links_prop n links = AllByRecursion-prop (λ link. link ≤ n) (λ link. le_prop) links

mask_prop : (slots : List SlotTree) (mask : SlotMask) → IsProp (IsMaskOf slots mask)
mask_prop slots mask a b = λ i. record {
  count = Coded-set coded_ℕ _ _ a.count b.count i;
  defined = Coded-set (coded_list coded_bool) _ _ a.defined b.defined i;
}

width_prop : (w v : ℕ) → IsProp (w ≡ v)
width_prop w v = Coded-set coded_ℕ w v

node_prop : (n : ℕ) (ms : List Meaning) (one : Node) → IsProp (IsNode n ms one)
node_prop n ms (Of.Element w) = Unit-prop
node_prop n ms (Of.Group w links) = ×_prop (links_prop n links) (width_prop _ _)
node_prop n ms (Of.Part w links) = ×_prop (links_prop n links) (width_prop _ _)
node_prop n ms (Of.Extended last links) = links_prop n links
node_prop n ms (Of.Counted size link) = ×_prop le_prop le_prop
node_prop n ms (Of.ByFx link) = ×_prop le_prop le_prop
node_prop n ms Of.Explicit = Unit-prop
node_prop n ms (Of.Compound mask links) = ×_prop (slot_links_prop n links) (mask_prop _ _)

nodes_prop : (ms : List Meaning) (ns : List Node) → IsProp (AreNodes ms ns)
nodes_prop ms [] = Unit-prop
nodes_prop ms (n ∷ ns) = ×_prop (node_prop (length ms) ms n) (nodes_prop (ms ++ meaning ms n ∷ []) ns)

pub IsTable-prop : (ns : List Node) → IsProp (IsTable ns)
IsTable-prop ns a b = λ i. record { nodes = nodes_prop [] ns a.nodes b.nodes i }

-- ---- bounds

two_prop : {A B : Type 0} → IsProp A → IsProp B → IsProp (A × B)
two_prop p q = ×_prop p q

three_prop : {A B C : Type 0} → IsProp A → IsProp B → IsProp C → IsProp (A × B × C)
three_prop p q r a b = λ i. (p a.0 b.0 i, q a.1 b.1 i, r a.2 b.2 i)

mutual
  fixed_bounds_prop : (f : FixedTree) → IsProp (FixedInBounds f)
  fixed_bounds_prop (element w c) = ×_prop le_prop le_prop
  fixed_bounds_prop (group ms) = members_bounds_prop ms

  members_bounds_prop : (ms : MembersTree) → IsProp (MembersInBounds ms)
  members_bounds_prop no_members = Unit-prop
  members_bounds_prop (member_and (named name f) ms) = ×_prop (fixed_bounds_prop f) (members_bounds_prop ms)
  members_bounds_prop (member_and (spare w) ms) = ×_prop (×_prop le_prop le_prop) (members_bounds_prop ms)

part_bounds_prop : (fx : ℕ) (p : MembersTree) → IsProp (PartInBounds fx p)
part_bounds_prop fx p a b = λ i. (width_prop ((members_width p + fx) % 8) 0 a.0 b.0 i, le_prop a.1 b.1 i, members_bounds_prop p a.2 b.2 i, le_prop a.3 b.3 i)

pub parts_bounds_prop : (last : LastPart) (ps : List MembersTree) → IsProp (PartsInBounds last ps)
parts_bounds_prop last [] = Unit-prop
parts_bounds_prop last (p ∷ ps) = ×_prop (part_bounds_prop (fx_width last (length ps)) p) (parts_bounds_prop last ps)

mutual
  pub bounds_prop : (k : KindTree) → IsProp (InBounds k)
  bounds_prop (fixed f) = three_prop (width_prop (width f % 8) 0) le_prop (fixed_bounds_prop f)
  bounds_prop (extended last ps) = ×_prop le_prop (parts_bounds_prop last ps)
  bounds_prop (counted size k) = bounds_prop k
  bounds_prop (by_fx f) = three_prop (width_prop ((width f + 1) % 8) 0) le_prop (fixed_bounds_prop f)
  bounds_prop explicit = Unit-prop
  bounds_prop (compound ss) = three_prop le_prop le_prop (slots_bounds_prop ss)

  slots_bounds_prop : (ss : SlotsTree) → IsProp (SlotsInBounds ss)
  slots_bounds_prop no_slots = Unit-prop
  slots_bounds_prop (slot_and spare_slot ss) = slots_bounds_prop ss
  slots_bounds_prop (slot_and (subitem name k) ss) = ×_prop (bounds_prop k) (slots_bounds_prop ss)

pub IsRecordTable-prop : (nodes : List Node) (links : List ℕ) (mask : SlotMask) → IsProp (IsRecordTable nodes links mask)
IsRecordTable-prop nodes links mask a b = λ i. record {
  within = slot_links_prop (length nodes) links a.within b.within i;
  mask = mask_prop (linked_slots (meanings nodes) links) mask a.mask b.mask i;
  bounds = bounds_prop (record_kind_at nodes links) a.bounds b.bounds i;
}
