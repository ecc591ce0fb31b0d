-- Octets of names, of categories and of parts are octets of texts.
use Rattle.std.proofs.Common.{◌≡◌, ℕ, ◌^◌, ◌<◌, Bool, true, false, ◌&&◌, List, [], ◌∷◌, ◌++◌, codes, decimal, refl, arith}
use Rattle.std.proofs.lemmas.Bool.Decides.{nat_tests}
use Rattle.std.proofs.lemmas.Fmt.{decimal_is_IsNumeral}
use Rattle.std.proofs.lemmas.Str.Parse.{digit_from_value}
use Rattle.std.specs.List.{AllByRecursion, list_all}
use Rattle.std.specs.Str.Parse.{AllDigits}
use Rattle.ax_format.specs.Characters.{IsName, is_name_octet, IsTextOctet}
use Rattle.ax_format.specs.Paths.{three_digits}

both : (a b : Bool) → a && b ≡ true → (a ≡ true) × (b ≡ true)
both true b e = (refl, e)
both false b e = absurd (cc)

name_octet : (x : ℕ) → is_name_octet x ≡ true → IsTextOctet x
name_octet x e = (grind (arith, nat_tests), grind (arith, nat_tests), grind (arith, nat_tests))

all_name_octets : (xs : List ℕ) → list_all is_name_octet xs ≡ true → AllByRecursion IsTextOctet xs
all_name_octets [] e = tt
all_name_octets (x ∷ xs) e = let s = both (is_name_octet x) (list_all is_name_octet xs) e in (name_octet x s.0, all_name_octets xs s.1)

pub name_printable : (octets : List ℕ) → IsName octets → AllByRecursion IsTextOctet octets
name_printable octets h = all_name_octets octets h.2

pub digits_printable : (n : ℕ) → n < 256 → AllByRecursion IsTextOctet (three_digits n)
digits_printable n h = ((omega arith, omega arith, omega arith), ((omega arith, omega arith, omega arith), ((omega arith, omega arith, omega arith), tt)))

decimal_digits : (ds : List ℕ) → AllDigits 10 ds → AllByRecursion IsTextOctet ds
decimal_digits [] d = tt
decimal_digits (c ∷ cs) d = ((omega (arith, digit_from_value c d.0), omega (arith, digit_from_value c d.0), omega (arith, digit_from_value c d.0)), decimal_digits cs d.1)

pub part_printable : (n : ℕ) → n < 4294967296 → AllByRecursion IsTextOctet (codes "part" ++ decimal n)
part_printable n h =
    let low : n < 2 ^ 64 = omega arith in
    let own = decimal_digits (decimal n) (decimal_is_IsNumeral n low).0.1 in
    ((omega arith, omega arith, omega arith), ((omega arith, omega arith, omega arith), ((omega arith, omega arith, omega arith), ((omega arith, omega arith, omega arith), own))))
