-- Octets of values that stand one after the other.
use Rattle.std.specs.Prelude.{◌≡◌, ℕ, zero, suc, ◌+◌, ◌/◌, ◌<◌, ◌≤◌, Bool, true, false, List, [], ◌∷◌, length, take, drop}
use Rattle.std.specs.Coded.{Coded-set, coded_ℕ, coded_list, le_prop, Unit-prop}
use Rattle.ax_bits.specs.Bits.{bits}
use Rattle.ax_format.specs.InBounds.{PartsInBounds}
use Rattle.ax_format.specs.Reader.{Read, got, failed, read}
use Rattle.ax_format.specs.Sizes.{longest_body}
use Rattle.ax_format.specs.Tree.{MembersTree, KindTree, fixed, extended, counted, by_fx, explicit, compound, ValueTree}
use Rattle.ax_format.specs.Widths.{width, members_width, fx_width}
use Rattle.ax_format.specs.declared.kind.LastPart.{LastPart}
use Rattle.ax_codec.specs.Facts.{links_prop, parts_bounds_prop}
use Rattle.ax_codec.specs.Meaning.{meanings, linked_parts}
use Rattle.ax_codec.specs.Table.{LinksWithin, kind_at}
use Rattle.ax_codec.specs.declared.codec.Codec.{Codec}
use Rattle.ax_codec.specs.declared.node.Node.{Node}
use Rattle.ax_walk.specs.Values.{IsItemOf, IsItemOf-prop, ItemInBounds, ItemInBounds-prop}

abbrev pub octets_taken : Read ValueTree → ℕ
octets_taken (got v n y) = n / 8
octets_taken (failed p c) = 0

-- how many octets the first value of the kind has; an occurrence by FX has its FX bit too
abbrev pub first_size : Bool → KindTree → List ℕ → ℕ
first_size false k xs = octets_taken (read k (bits xs))
first_size true (fixed f) xs = (width f + 1) / 8
first_size true (extended last ps) xs = 0
first_size true (counted size k) xs = 0
first_size true (by_fx f) xs = 0
first_size true explicit xs = 0
first_size true (compound ss) xs = 0

-- the octets of the first n values of the kind
abbrev pub pieces : Bool → KindTree → ℕ → List ℕ → List (List ℕ)
pieces fx k zero xs = []
pieces fx k (suc n) xs = take (first_size fx k xs) xs ∷ pieces fx k n (drop (first_size fx k xs) xs)

-- the octets are those of n values of the kind
abbrev pub ArePieces : Bool → KindTree → ℕ → List ℕ → Type 0
ArePieces fx k zero xs = xs ≡ []
ArePieces fx k (suc n) xs = (first_size fx k xs ≤ length xs) × IsItemOf fx k (take (first_size fx k xs) xs) × ArePieces fx k n (drop (first_size fx k xs) xs)

pub ArePieces-prop : (fx : Bool) (k : KindTree) (n : ℕ) (xs : List ℕ) → IsProp (ArePieces fx k n xs)
ArePieces-prop fx k zero xs = Coded-set (coded_list coded_ℕ) xs []
ArePieces-prop fx k (suc n) xs = λ a b. λ i. (le_prop a.0 b.0 i, IsItemOf-prop fx k (take (first_size fx k xs) xs) a.1 b.1 i, ArePieces-prop fx k n (drop (first_size fx k xs) xs) a.2 b.2 i)

-- ---- parts

-- the first octets by each size, as long as octets are left
abbrev pub part_pieces : List ℕ → List ℕ → List (List ℕ)
part_pieces [] xs = []
part_pieces (n ∷ sizes) [] = []
part_pieces (n ∷ sizes) (x ∷ xs) = take n (x ∷ xs) ∷ part_pieces sizes (drop n (x ∷ xs))

-- the octets end where one of them does
abbrev pub ArePartPieces : List ℕ → List ℕ → Type 0
ArePartPieces [] xs = xs ≡ []
ArePartPieces (n ∷ sizes) [] = Unit {0}
ArePartPieces (n ∷ sizes) (x ∷ xs) = (0 < n) × (n ≤ length (x ∷ xs)) × ArePartPieces sizes (drop n (x ∷ xs))

pub ArePartPieces-prop : (sizes xs : List ℕ) → IsProp (ArePartPieces sizes xs)
ArePartPieces-prop [] xs = Coded-set (coded_list coded_ℕ) xs []
ArePartPieces-prop (n ∷ sizes) [] = Unit-prop
ArePartPieces-prop (n ∷ sizes) (x ∷ xs) = λ a b. λ i. (le_prop a.0 b.0 i, le_prop a.1 b.1 i, ArePartPieces-prop sizes (drop n (x ∷ xs)) a.2 b.2 i)

-- a part's octets, with its FX bits
abbrev pub part_size : ℕ → MembersTree → ℕ
part_size fx p = (members_width p + fx) / 8

abbrev pub part_sizes : LastPart → List MembersTree → List ℕ
part_sizes last [] = []
part_sizes last (p ∷ ps) = part_size (fx_width last (length ps)) p ∷ part_sizes last ps

-- octets of the parts that these links lead to, from one of them on
pub record ArePartsLeft (nodes : List Node) (last : LastPart) (links octets : List ℕ) : Type 0 where
  pub links_within : LinksWithin (length nodes) links
  pub bounds : PartsInBounds last (linked_parts (meanings nodes) links)
  pub pieces_are : ArePartPieces (part_sizes last (linked_parts (meanings nodes) links)) octets
  pub few : length octets ≤ longest_body

pub ArePartsLeft-prop : (nodes : List Node) (last : LastPart) (links octets : List ℕ) → IsProp (ArePartsLeft nodes last links octets)
ArePartsLeft-prop nodes last links octets a b = λ i. record {
  links_within = links_prop (length nodes) links a.links_within b.links_within i;
  bounds = parts_bounds_prop last (linked_parts (meanings nodes) links) a.bounds b.bounds i;
  pieces_are = ArePartPieces-prop (part_sizes last (linked_parts (meanings nodes) links)) octets a.pieces_are b.pieces_are i;
  few = le_prop a.few b.few i;
}

-- ---- occurrences

-- octets of that many occurrences of the kind that the link leads to
pub record AreOccurrencesLeft (codec : Codec) (link : ℕ) (fx : Bool) (count : ℕ) (octets : List ℕ) : Type 0 where
  pub some : 0 < link
  pub within : link ≤ length codec.nodes
  pub bounds : ItemInBounds fx (kind_at codec.nodes link)
  pub pieces_are : ArePieces fx (kind_at codec.nodes link) count octets
  pub count_few : count < 65536
  pub few : length octets ≤ longest_body

pub AreOccurrencesLeft-prop : (codec : Codec) (link : ℕ) (fx : Bool) (count : ℕ) (octets : List ℕ) → IsProp (AreOccurrencesLeft codec link fx count octets)
AreOccurrencesLeft-prop codec link fx count octets a b = λ i. record {
  some = le_prop a.some b.some i;
  within = le_prop a.within b.within i;
  bounds = ItemInBounds-prop fx (kind_at codec.nodes link) a.bounds b.bounds i;
  pieces_are = ArePieces-prop fx (kind_at codec.nodes link) count octets a.pieces_are b.pieces_are i;
  count_few = le_prop a.count_few b.count_few i;
  few = le_prop a.few b.few i;
}
