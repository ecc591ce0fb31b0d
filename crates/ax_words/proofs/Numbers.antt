-- Numbers in decimal.
use Rattle.std.proofs.Common.{◌≡◌, ℕ, ◌^◌, ◌<◌, ◌≤◌, List, Ok, Err, sym, ◌∙◌, ap, arith}
use Rattle.std.specs.Prelude.{decimal, Result}
use Rattle.std.specs.Str.Parse.{ParsesUnsigned}
use Rattle.std.proofs.lemmas.Fmt.{decimal_injective, parse-decimal}

pub no_parse : {E : Type 0} (word : List ℕ) (e : E) (r : Result ℕ E) → r ≡ Err e → ParsesUnsigned 64 10 word r → (n : ℕ) → n < 2 ^ 64 → word ≡ decimal n → ⊥
no_parse word e r is p n lt h = let ok : r ≡ Ok n = parse-decimal 64 n word r lt lt h p in absurd cc

pub other_text : {E : Type 0} (word : List ℕ) (m : ℕ) (r : Result ℕ E) → r ≡ Ok m → ParsesUnsigned 64 10 word r → (word ≡ decimal m → ⊥) → (n : ℕ) → n < 2 ^ 64 → word ≡ decimal n → ⊥
other_text word m r is p differs n lt h =
    let ok : r ≡ Ok n = parse-decimal 64 n word r lt lt h p in
    let equal : m ≡ n = cc in differs (h ∙ ap decimal (sym equal))

pub too_many : (word : List ℕ) (m : ℕ) → m < 2 ^ 64 → word ≡ decimal m → 1000000 < m → (n : ℕ) → n ≤ 1000000 → word ≡ decimal n → ⊥
too_many word m lt e above n le h =
    let small : n < 2 ^ 64 = omega (arith, le) in
    let same : m ≡ n = decimal_injective m n lt small (sym e ∙ h) in omega (arith, above, le, same)

pub none_at_all : (word : List ℕ) → ((n : ℕ) → n < 2 ^ 64 → word ≡ decimal n → ⊥) → (n : ℕ) → n ≤ 1000000 → word ≡ decimal n → ⊥
none_at_all word none n le h = none n (omega (arith, le)) h

pub ruleset numbers = (too_many, none_at_all)
