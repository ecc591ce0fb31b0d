-- How far values of a kind reach, by their octets alone.
use Rattle.std.specs.Prelude.{◌≡◌, ℕ, zero, suc, ◌/◌, ◌%◌, ◌==◌, ◌<◌, if◌then◌else◌, List, [], ◌∷◌, length, get_or}
use Rattle.ax_format.specs.Tree.{MembersTree, KindTree, fixed, extended, counted, by_fx, explicit, compound}
use Rattle.ax_format.specs.Widths.{width, members_width, fx_width}
use Rattle.ax_format.specs.declared.kind.Counter.{Counter}
use Rattle.ax_format.specs.declared.kind.Counter.TheVariants.{One, Two}
use Rattle.ax_format.specs.declared.kind.LastPart.{LastPart}
use Rattle.ax_codec.specs.Table.{kind_at}
use Rattle.ax_codec.specs.declared.extent.Extent.{Extent}
use Rattle.ax_codec.specs.declared.extent.Extent.TheVariants.{OctetParts, Occurrences, ByNode}
use Rattle.ax_codec.specs.declared.node.Node.{Node}

-- how many of these parts, from the first on, have seven bits and an FX bit
abbrev pub leading_octets : LastPart → List MembersTree → ℕ
leading_octets last [] = 0
leading_octets last (p ∷ ps) = if members_width p == 7 then (if fx_width last (length ps) == 1 then suc (leading_octets last ps) else 0) else 0

abbrev pub parts_extent : ℕ → Extent
parts_extent zero = ByNode
parts_extent (suc n) = OctetParts (suc n)

-- the whole octets of so many bits; else 0
abbrev pub whole_octets : ℕ → ℕ
whole_octets w = if w % 8 == 0 then w / 8 else 0

abbrev pub octets_extent : ℕ → Extent
octets_extent zero = ByNode
octets_extent (suc n) = Occurrences (suc n)

-- of occurrences of that kind after a counter of one octet
abbrev pub occurrences_extent : KindTree → Extent
occurrences_extent (fixed f) = octets_extent (whole_octets (width f))
occurrences_extent (extended last ps) = ByNode
occurrences_extent (counted size k) = ByNode
occurrences_extent (by_fx f) = ByNode
occurrences_extent explicit = ByNode
occurrences_extent (compound ss) = ByNode

abbrev pub counted_extent : Counter → KindTree → Extent
counted_extent One k = occurrences_extent k
counted_extent Two k = ByNode

abbrev pub kind_extent : KindTree → Extent
kind_extent (fixed f) = ByNode
kind_extent (extended last ps) = parts_extent (leading_octets last ps)
kind_extent (counted size k) = counted_extent size k
kind_extent (by_fx f) = ByNode
kind_extent explicit = ByNode
kind_extent (compound ss) = ByNode

-- the extents of the first nodes, as many as there are
pub record AreExtents (nodes : List Node) (extents : List Extent) : Type 0 where
  pub each : (i : ℕ) → i < length extents → get_or extents i ByNode ≡ kind_extent (kind_at nodes (suc i))
