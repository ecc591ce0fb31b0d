-- Presence fields by the places of their bits.
use Rattle.std.specs.Prelude.{◌≡◌, ℕ, ◌+◌, ◌*◌, ◌<◌, ◌≤◌, ◌↔◌, ◌⊎◌, List, length, get_or}
use Rattle.ax_bits.specs.Bits.{AreBits}
use Rattle.ax_format.specs.Tree.{EntriesTree, no_entries, entry_and}

-- f has 1 to k octets; for j up to 6 bit j of octet i is mark 7 i + j, and bit 7 is 1 exactly where another octet follows
pub record IsByPlaces (k : ℕ) (marks f : List ℕ) : Type 0 where
  pub octets : ℕ
  pub some : 1 ≤ octets
  pub few : octets ≤ k
  pub long : length f ≡ 8 * octets
  pub marked : length marks ≡ 7 * octets
  pub bit : AreBits f
  pub places : (i j : ℕ) → i < octets → j < 7 → get_or f (8 * i + j) 0 ≡ get_or marks (7 * i + j) 0
  pub fx : (i : ℕ) → i < octets → get_or f (8 * i + 7) 0 ≡ 1 ↔ i + 1 < octets

-- f has as many octets as its last mark needs, or one
pub record HasNoRedundantOctet (marks f : List ℕ) : Type 0 where
  pub octets : ℕ
  pub long : length f ≡ 8 * octets
  pub needed : (octets ≡ 1) ⊎ ((t : ℕ) × (7 * octets ≤ t + 7) × (get_or marks t 0 ≡ 1))

-- some entry is of that slot
abbrev pub HasEntry : ℕ → EntriesTree → Type 0
HasEntry t no_entries = ⊥
HasEntry t (entry_and s v es) = (t ≡ s) ⊎ HasEntry t es
