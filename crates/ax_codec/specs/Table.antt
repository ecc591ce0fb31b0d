-- Which nodes are a table, and what its links lead to.
use Rattle.std.specs.Prelude.{◌≡◌, ℕ, ◌<◌, ◌≤◌, List, [], ◌∷◌, ◌++◌, length}
use Rattle.std.specs.List.{AllByRecursion}
use Rattle.ax_fspec.specs.declared.mask.SlotMask.{SlotMask}
use Rattle.ax_format.specs.InBounds.{InBounds}
use Rattle.ax_format.specs.Tree.{KindTree, compound, slots_of}
use Rattle.ax_format.specs.Widths.{members_width}
use Rattle.ax_codec.specs.Meaning.{Meaning, meaning, meanings, linked, kind_of, linked_members, linked_slots}
use Rattle.ax_codec.specs.declared.node.Node.{Node}
use Rattle.ax_codec.specs.declared.node.Node.TheVariants as Of
use Rattle.ax_fspec.specs.Reading.{IsMaskOf}

-- each link leads to one of the first n nodes
abbrev pub LinksWithin : ℕ → List ℕ → Type 0
LinksWithin n links = AllByRecursion (λ link. (0 < link) × (link ≤ n)) links

-- the same, or is that of a spare slot
abbrev pub SlotLinksWithin : ℕ → List ℕ → Type 0
SlotLinksWithin n links = AllByRecursion (λ link. link ≤ n) links

-- a node whose links lead to the first n nodes, and whose width and mask are right, where the nodes mean these
abbrev pub IsNode : ℕ → List Meaning → Node → Type 0
IsNode n ms (Of.Element w) = Unit {0}
IsNode n ms (Of.Group w links) = LinksWithin n links × (members_width (linked_members ms links) ≡ w)
IsNode n ms (Of.Part w links) = LinksWithin n links × (members_width (linked_members ms links) ≡ w)
IsNode n ms (Of.Extended last links) = LinksWithin n links
IsNode n ms (Of.Counted size link) = (0 < link) × (link ≤ n)
IsNode n ms (Of.ByFx link) = (0 < link) × (link ≤ n)
IsNode n ms Of.Explicit = Unit {0}
IsNode n ms (Of.Compound mask links) = SlotLinksWithin n links × IsMaskOf (linked_slots ms links) mask

abbrev pub AreNodes : List Meaning → List Node → Type 0
AreNodes ms [] = Unit {0}
AreNodes ms (n ∷ ns) = IsNode (length ms) ms n × AreNodes (ms ++ meaning ms n ∷ []) ns

-- each link of a node leads to a node before it
pub record IsTable (ns : List Node) : Type 0 where
  pub nodes : AreNodes [] ns

-- the kind that a link stands for
unfoldable pub kind_at : List Node → ℕ → KindTree
kind_at nodes link = kind_of (linked (meanings nodes) link)

-- the kind of records with these links
unfoldable pub record_kind_at : List Node → List ℕ → KindTree
record_kind_at nodes links = compound (slots_of (linked_slots (meanings nodes) links))

-- the slots of records, which lead to nodes of the table; their kind keeps the bounds
pub record IsRecordTable (nodes : List Node) (links : List ℕ) (m : SlotMask) : Type 0 where
  pub within : SlotLinksWithin (length nodes) links
  pub mask : IsMaskOf (linked_slots (meanings nodes) links) m
  pub bounds : InBounds (record_kind_at nodes links)
