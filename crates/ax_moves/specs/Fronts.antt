-- The first parts of an extended item, by octets.
use Rattle.std.specs.Prelude.{◌≡◌, ℕ, zero, suc, ◌+◌, ◌/◌, ◌<◌, ◌≤◌, ◌⊎◌, List, [], ◌∷◌, length, take, Option, Some, None}
use Rattle.ax_bits.specs.Bits.{bits}
use Rattle.ax_format.specs.Tree.{MembersTree}
use Rattle.ax_format.specs.Widths.{members_width}
use Rattle.ax_codec.specs.Meaning.{meanings, linked_parts}
use Rattle.ax_codec.specs.declared.node.Node.{Node}

-- the octets of the first c parts, each with its FX bit
abbrev pub front_octets : ℕ → List MembersTree → ℕ
front_octets zero ps = 0
front_octets (suc c) [] = 0
front_octets (suc c) (p ∷ ps) = (members_width p + 1) / 8 + front_octets c ps

-- n octets are those of the first c of more parts, and of so many octets others are left
pub record IsFront (nodes : List Node) (links : List ℕ) (c octets n : ℕ) : Type 0 where
  pub more : c < length links
  pub counted : n ≡ front_octets c (linked_parts (meanings nodes) links)
  pub others : n < octets

-- how many of so many octets are those of the first c parts; None where others than these can't be there
abbrev pub FrontIs : List Node → List ℕ → ℕ → ℕ → Option ℕ → Type 0
FrontIs nodes links c octets None = (length links ≤ c) ⊎ (octets ≤ front_octets c (linked_parts (meanings nodes) links))
FrontIs nodes links c octets (Some n) = IsFront nodes links c octets n

-- the bits with the last one 0
abbrev pub cleared : List ℕ → List ℕ
cleared [] = []
cleared (x ∷ []) = 0 ∷ []
cleared (x ∷ y ∷ b) = x ∷ cleared (y ∷ b)

-- all octets, or the first ones with the last bit of them cleared
abbrev pub kept_bits : Option ℕ → List ℕ → List ℕ
kept_bits None octets = bits octets
kept_bits (Some n) octets = cleared (bits (take n octets))
