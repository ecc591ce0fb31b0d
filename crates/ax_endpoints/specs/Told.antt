-- What is told of a source or a sink, and the count of faults.
use Rattle.std.specs.Prelude.{◌≡◌, ℕ, ◌+◌, ◌-◌, min, ◌<◌, ◌^◌, ◌⊎◌, List, [], ◌++◌, Option, Some, None}

-- the octets left, with these in front
abbrev pub with_front : List ℕ → Option (List ℕ) → Option (List ℕ)
with_front front None = None
with_front front (Some rest) = Some (front ++ rest)

-- the octets held, with these at the end
abbrev pub with_end : Option (List ℕ) → List ℕ → Option (List ℕ)
with_end None end = None
with_end (Some held) end = Some (held ++ end)

-- nothing is left, where it is told
abbrev pub IsAtEnd : Option (List ℕ) → Type 0
IsAtEnd None = Unit {0}
IsAtEnd (Some rest) = rest ≡ []

-- the count of faults rose, or stands at the last number that it can hold
abbrev pub Rose : ℕ → ℕ → Type 0
Rose before after = (before < after) ⊎ (after ≡ 2 ^ 64 - 1)

-- the count after one more fault, in a u64
abbrev pub one_more : ℕ → ℕ
one_more count = min (count + 1) (2 ^ 64 - 1)

-- the number of octets taken after so many more, in a u64
abbrev pub number_after : ℕ → ℕ → ℕ
number_after taken count = min (taken + count) (2 ^ 64 - 1)
