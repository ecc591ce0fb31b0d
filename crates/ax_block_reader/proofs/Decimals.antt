-- Numbers in decimal.
use Rattle.std.proofs.Common.{◌≡◌, ℕ, ◌^◌, ◌<◌, ◌≤◌, List, [], ◌∷◌, drop, Ok, Err, refl, sym, ◌∙◌, ap, subst, arith, lit<}
use Rattle.std.specs.Prelude.{decimal, Result}
use Rattle.std.specs.Str.{IsUtf8}
use Rattle.std.specs.Str.Parse.{ParsesUnsigned}
use Rattle.std.proofs.lemmas.Fmt.{IsAscii-decimal_wide, parse-decimal_wide}
use Rattle.std.proofs.lemmas.Str.{IsUtf8-from_ascii}
use Rattle.std.proofs.Math.Nat.{pow-le-pow_right}
use Rattle.std.proofs.lemmas.Nat.{pow_pos}
use Rattle.ax_tokens.specs.Stopping.{Texts, StopsAt, One}
use Rattle.ax_tokens.proofs.Stops.{one_stops}
use Rattle.ax_tokens.proofs.Words.{not_first, none_first}
use Rattle.ax_block_reader.specs.Languages.{IsNumberText}
use Rattle.ax_text_form.proofs.Unique.{same_decimal}

pub wide : (n : ℕ) → n < 2 ^ 128 → n < 10 ^ 64
wide n lt = omega (arith, lt)

pub no_utf8 : (text : List ℕ) → (IsUtf8 text → ⊥) → (n : ℕ) → n < 2 ^ 128 → text ≡ decimal n → ⊥
no_utf8 text h n lt e = h (subst IsUtf8 (sym e) (IsUtf8-from_ascii (decimal n) (IsAscii-decimal_wide n (wide n lt))))

pub no_parse : {E : Type 0} (text written : List ℕ) (e : E) (r : Result ℕ E) → written ≡ text → r ≡ Err e → ParsesUnsigned 128 10 written r → (n : ℕ) → n < 2 ^ 128 → text ≡ decimal n → ⊥
no_parse text written e r same is p n lt h = let ok : r ≡ Ok n = parse-decimal_wide 128 n written r lt (wide n lt) (same ∙ h) p in absurd cc

pub other_text : {E : Type 0} (text written : List ℕ) (m : ℕ) (r : Result ℕ E) → written ≡ text → r ≡ Ok m → ParsesUnsigned 128 10 written r → (text ≡ decimal m → ⊥) → (n : ℕ) → n < 2 ^ 128 → text ≡ decimal n → ⊥
other_text text written m r same is p differs n lt h =
    let ok : r ≡ Ok n = parse-decimal_wide 128 n written r lt (wide n lt) (same ∙ h) p in
    let equal : m ≡ n = cc in differs (h ∙ ap decimal (sym equal))

pub ruleset numbers = no_utf8

-- ---- a token

positive : (w : ℕ) → 0 < 2 ^ w
positive w = pow_pos w

refused_by : (w : ℕ) (texts : Texts) (text : List ℕ) → texts ≡ text ∷ drop 1 texts → (IsNumberText w text → ⊥) → StopsAt (One (IsNumberText w)) texts texts
refused_by w texts text e n = one_stops (IsNumberText w) (decimal 0) (0, positive w, refl) texts (not_first (IsNumberText w) texts text e n)

more_bits : (w n : ℕ) → w ≤ 128 → n < 2 ^ w → n < 2 ^ 128
more_bits w n le lt = let p : 2 ^ w ≤ 2 ^ 128 = pow-le-pow_right (lit< tt) le in omega (arith, p, lt)

pub no_number : (w : ℕ) (texts : Texts) (text : List ℕ) → w ≤ 128 → texts ≡ text ∷ drop 1 texts → ((n : ℕ) → n < 2 ^ 128 → text ≡ decimal n → ⊥) → StopsAt (One (IsNumberText w)) texts texts
no_number w texts text le e h = refused_by w texts text e (λ p. h p.0 (more_bits w p.0 le p.1) p.2)

pub too_great : (w n : ℕ) (texts : Texts) (text : List ℕ) → w ≤ 128 → n < 2 ^ 128 → texts ≡ text ∷ drop 1 texts → text ≡ decimal n → (n < 2 ^ w → ⊥) → StopsAt (One (IsNumberText w)) texts texts
too_great w n texts text le lt e h above =
    refused_by w texts text e (λ p. let same : n ≡ p.0 = same_decimal n p.0 (wide n lt) (wide p.0 (more_bits w p.0 le p.1)) (sym h ∙ p.2) in above (subst (λ m. m < 2 ^ w) (sym same) p.1))

pub number_ends : (w : ℕ) (texts : Texts) → texts ≡ [] → StopsAt (One (IsNumberText w)) texts texts
number_ends w texts e = one_stops (IsNumberText w) (decimal 0) (0, positive w, refl) texts (none_first (IsNumberText w) texts e)

pub number_there : (w n : ℕ) → n < 2 ^ w → One (IsNumberText w) (decimal n ∷ [])
number_there w n lt = (decimal n, refl, (n, lt, refl))

pub number_split : (texts : Texts) (text : List ℕ) (n : ℕ) → texts ≡ text ∷ drop 1 texts → text ≡ decimal n → texts ≡ decimal n ∷ drop 1 texts
number_split texts text n e h = e ∙ ap (λ t. t ∷ drop 1 texts) h

pub ruleset reading = (no_number, too_great, number_ends, number_there, number_split)
