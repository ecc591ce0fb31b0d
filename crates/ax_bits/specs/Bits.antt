-- Bits, the most significant first. A bit is 0 or 1, an octet is a number below 256.
use Rattle.std.specs.Prelude.{ℕ, zero, suc, ◌+◌, ◌-◌, ◌*◌, ◌/◌, ◌%◌, ◌^◌, ◌<◌, List, [], ◌∷◌, length, flat_map, nat_lt, ℤ, pos, ◌-ℤ◌, if◌then◌else◌}
use Rattle.std.specs.List.{AllByRecursion}

-- the w bits that spell n, which is meant to be below 2^w
abbrev pub word : ℕ → ℕ → List ℕ
word zero n = []
word (suc w) n = ((n / 2 ^ w) % 2) ∷ word w n

-- the bits of octets (the standard's order of bits)
abbrev pub bits : List ℕ → List ℕ
bits octets = flat_map (λ x. word 8 x) octets

-- the number that bits spell
abbrev pub number_of : List ℕ → ℕ
number_of [] = 0
number_of (b ∷ bs) = b * 2 ^ length bs + number_of bs

-- what w bits that spell n, below 2^w, mean in two's complement (this project's own rule)
abbrev pub signed : ℕ → ℕ → ℤ
signed w n = if nat_lt n (2 ^ (w - 1)) then pos n else (pos n -ℤ pos (2 ^ w))

-- each number of the list is a bit
abbrev pub AreBits : List ℕ → Type 0
AreBits = AllByRecursion (λ x. x < 2)

-- each number of the list is an octet
abbrev pub AreOctets : List ℕ → Type 0
AreOctets = AllByRecursion (λ x. x < 256)
