-- What the array of a name's octets gives back.
use Rattle.std.specs.Prelude.{◌≡◌, ℕ, ◌≤◌, ◌-◌, List, ◌++◌, length, take, drop, replicate}
use Rattle.std.proofs.Common.{arith, length-take-le, take-append-drop}

pub counted : (n : ℕ) (octets : List ℕ) → n ≤ 16 → length octets ≡ 16 → length (take n octets) ≡ n
counted n octets within whole = let h : n ≤ length octets = omega arith in length-take-le n octets h

pub restored : (n : ℕ) (octets : List ℕ) → n ≤ 16 → length octets ≡ 16 → drop n octets ≡ replicate (16 - n) 0
    → take n octets ++ replicate (16 - length (take n octets)) 0 ≡ octets
restored n octets within whole zeros = rw (counted n octets within whole, ← zeros) (take-append-drop n octets)
