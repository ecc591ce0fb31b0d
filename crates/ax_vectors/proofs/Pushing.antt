-- Bits that are put after others.
use Rattle.std.proofs.Common.{◌≡◌, ℕ, ◌+◌, ◌-◌, ◌*◌, ◌%◌, ◌<◌, ◌≤◌, List, [], ◌++◌, length, take, drop, sym, ◌∙◌, ap, arith, append_assoc, append-nil, length-append, length-drop, length-take-le}
use Rattle.std.proofs.Math.Seq.{take-add}
use Rattle.std.proofs.lemmas.List.{take_all, take-take, take-append-le, drop-drop, drop_all}
use Rattle.ax_bits.proofs.Pieces.{take-bits, drop-bits}
use Rattle.ax_bits.proofs.Words.{bits-append, length-bits, length-word}
use Rattle.ax_bits.specs.Bits.{word, bits}
use borrow.Rule.Slice.PartMut.{put_mid, mid_of}

-- a part of the octets, from one on, was written
pub put_there : (old part : List ℕ) (from at w v k : ℕ) → from ≤ length old → length old ≤ from + k
    → bits part ≡ take at (bits (mid_of from k old)) ++ (word w v ++ drop (at + w) (bits (mid_of from k old)))
    → bits (put_mid from k old part) ≡ take (8 * from + at) (bits old) ++ (word w v ++ drop (8 * from + at + w) (bits old))
put_there old part from at w v k le all e =
    let m = drop from old in
    let size : length m ≤ k = omega (arith, length-drop from old) in
    let whole : take k m ≡ m = take_all k m size in
    let none : drop k m ≡ [] = drop_all k m size in
    let b : bits m ≡ drop (8 * from) (bits old) = sym (drop-bits from old) in
    let all_bits = bits old in
    let written : bits part ≡ take at (drop (8 * from) all_bits) ++ (word w v ++ drop (at + w) (drop (8 * from) all_bits)) =
    e ∙ ap (λ y. take at (bits y) ++ (word w v ++ drop (at + w) (bits y))) whole ∙ ap (λ y. take at y ++ (word w v ++ drop (at + w) y)) b in
    let following : drop (at + w) (drop (8 * from) all_bits) ≡ drop (8 * from + at + w) all_bits = drop-drop (at + w) (8 * from) all_bits ∙ ap (λ n. drop n all_bits) (omega arith) in
    let front : take (8 * from) all_bits ++ take at (drop (8 * from) all_bits) ≡ take (8 * from + at) all_bits = sym (take-add (8 * from) at all_bits) in
    ap (λ y. bits (take from old ++ (part ++ y))) none
    ∙ ap (λ y. bits (take from old ++ y)) (append-nil part)
    ∙ bits-append (take from old) part
    ∙ ap (λ y. y ++ bits part) (sym (take-bits from old))
    ∙ ap (λ y. take (8 * from) all_bits ++ y) written
    ∙ ap (λ y. take (8 * from) all_bits ++ (take at (drop (8 * from) all_bits) ++ (word w v ++ y))) following
    ∙ sym (append_assoc (take (8 * from) all_bits) (take at (drop (8 * from) all_bits)) (word w v ++ drop (8 * from + at + w) all_bits))
    ∙ ap (λ y. y ++ (word w v ++ drop (8 * from + at + w) all_bits)) front

-- the bits that count, where octets were put after the old ones and then w bits written after the old bits
pub pushed : (old grown new : List ℕ) (count from at w v more : ℕ) → take (length old) grown ≡ old → length grown ≡ length old + more
    → count ≤ 8 * length old → 8 * from + at ≡ count
    → bits new ≡ take (8 * from + at) (bits grown) ++ (word w v ++ drop (8 * from + at + w) (bits grown))
    → take (count + w) (bits new) ≡ take count (bits old) ++ word w v
pushed old grown new count from at w v more front size le is e =
    let rest = drop (8 * from + at + w) (bits grown) in
    let kept : take (8 * from + at) (bits grown) ≡ take count (bits old) =
    ap (λ n. take n (bits grown)) is ∙ sym (take-take count (8 * length old) (bits grown) le) ∙ ap (take count) (take-bits (length old) grown ∙ ap bits front) in
    let there : bits new ≡ (take count (bits old) ++ word w v) ++ rest =
    e ∙ ap (λ y. y ++ (word w v ++ rest)) kept ∙ sym (append_assoc (take count (bits old)) (word w v) rest) in
    let counted : length (take count (bits old)) ≡ count = length-take-le count (bits old) (omega (arith, length-bits old)) in
    let long : length (take count (bits old) ++ word w v) ≡ count + w = length-append (take count (bits old)) (word w v) ∙ omega (arith, counted, length-word w v) in
    ap (take (count + w)) there ∙ ap (λ n. take n ((take count (bits old) ++ word w v) ++ rest)) (sym long)
    ∙ take-append-le (length (take count (bits old) ++ word w v)) (take count (bits old) ++ word w v) rest (omega arith)
    ∙ take_all (length (take count (bits old) ++ word w v)) (take count (bits old) ++ word w v) (omega arith)

-- a string of whole octets has no free bits
pub none_free : (octets : List ℕ) (free : ℕ) (string : List ℕ) → (free < 8) × (free ≤ 8 * length octets)
    → take (8 * length octets - free) (bits octets) ≡ string → length string % 8 ≡ 0 → bits octets ≡ string
none_free octets free string i is whole =
    let counted : length (take (8 * length octets - free) (bits octets)) ≡ 8 * length octets - free = length-take-le (8 * length octets - free) (bits octets) (omega (arith, length-bits octets)) in
    let size : length string ≡ 8 * length octets - free = ap length (sym is) ∙ counted in
    let none : free ≡ 0 = omega (arith, i, size, whole) in
    sym (take_all (8 * length octets - free) (bits octets) (omega (arith, length-bits octets, none))) ∙ is
