-- Presence fields (FSPEC and compound primary subfields): in each octet seven marks, one for each slot, and the FX bit.
use Rattle.std.specs.Prelude.{◌≡◌, ℕ, zero, suc, ◌+◌, ◌/◌, ◌⊎◌, Bool, true, false, if◌then◌else◌, List, [], ◌∷◌, ◌++◌, length}
use Rattle.ax_bits.specs.Bits.{AreBits}

-- the octets that n slots need: a seventh of n, rounded up
abbrev pub octets_needed : ℕ → ℕ
octets_needed n = (n + 6) / 7

-- b is a presence field of 1 to k octets; its marks are its bits in order without the FX bits, so that mark 7 i + j,
-- for slot 7 i + j + 1, is bit j of octet i; FX is 1 exactly where another octet follows
abbrev pub Presence : ℕ → List ℕ → List ℕ → Type 0
Presence zero marks b = ⊥
Presence (suc k) marks b =
    (seven : List ℕ) × (length seven ≡ 7) × AreBits seven
    × (((marks ≡ seven) × (b ≡ seven ++ 0 ∷ [])) ⊎ ((more : List ℕ) × (y : List ℕ) × (marks ≡ seven ++ more) × (b ≡ seven ++ 1 ∷ y) × Presence k more y))

-- ---- marks: past the last, no slot is marked

abbrev pub first_mark : List ℕ → ℕ
first_mark [] = 0
first_mark (m ∷ ms) = m

abbrev pub later_marks : List ℕ → List ℕ
later_marks [] = []
later_marks (m ∷ ms) = ms

abbrev pub none_marked : List ℕ → Bool
none_marked [] = true
none_marked (zero ∷ ms) = none_marked ms
none_marked (suc m ∷ ms) = false

abbrev pub marks_after : ℕ → List ℕ → List ℕ
marks_after zero ms = ms
marks_after (suc n) ms = marks_after n (later_marks ms)

abbrev pub marks_upto : ℕ → List ℕ → List ℕ
marks_upto zero ms = []
marks_upto (suc n) ms = first_mark ms ∷ marks_upto n (later_marks ms)

-- the least presence field with these marks, of at most k octets: an octet follows only where a later slot is marked
abbrev pub least_presence : ℕ → List ℕ → List ℕ
least_presence zero ms = []
least_presence (suc k) ms = if none_marked (marks_after 7 ms) then marks_upto 7 ms ++ 0 ∷ [] else marks_upto 7 ms ++ 1 ∷ least_presence k (marks_after 7 ms)

-- ---- undefined slots: spare, or past the last (this project's own rule: only a defined slot may be marked)

-- the first of the slots is defined
abbrev pub IsDefined : List Bool → Type 0
IsDefined [] = ⊥
IsDefined (true ∷ ds) = Unit {0}
IsDefined (false ∷ ds) = ⊥

abbrev pub later_slots : List Bool → List Bool
later_slots [] = []
later_slots (d ∷ ds) = ds

-- the slots after those that the marks stand for
abbrev pub slots_past : List ℕ → List Bool → List Bool
slots_past [] ds = ds
slots_past (m ∷ ms) ds = slots_past ms (later_slots ds)

-- each marked slot is defined
abbrev pub NoneUndefined : List Bool → List ℕ → Type 0
NoneUndefined ds [] = Unit {0}
NoneUndefined ds (m ∷ ms) = ((m ≡ 1) → IsDefined ds) × NoneUndefined (later_slots ds) ms

-- the first marked slot that isn't defined is that of mark j
abbrev pub FirstUndefined : List Bool → List ℕ → ℕ → Type 0
FirstUndefined ds [] j = ⊥
FirstUndefined ds (m ∷ ms) zero = (m ≡ 1) × (IsDefined ds → ⊥)
FirstUndefined ds (m ∷ ms) (suc j) = ((m ≡ 1) → IsDefined ds) × FirstUndefined (later_slots ds) ms j
