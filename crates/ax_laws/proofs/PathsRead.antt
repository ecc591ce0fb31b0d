-- A text is a category and names joined by slashes, or it isn't.
use Rattle.std.proofs.Common.{◌≡◌, ℕ, ◌+◌, ◌*◌, ◌-◌, ◌<◌, ◌≤◌, ◌==◌, ◌⊎◌, inl, inr, Bool, true, false, cond, List, [], ◌∷◌, ◌++◌, length, refl, sym, ◌∙◌, ap, subst, arith}
use Rattle.std.specs.List.{AllByRecursion, list_all}
use Rattle.std.proofs.lemmas.Bool.{cases_lt, eqb-true, and_parts}
use Rattle.std.proofs.lemmas.Bool.Decides.{nat_tests}
use Rattle.ax_format.proofs.CategoryDigits.{no_hundreds, no_tens, no_ones, above, category}
use Rattle.ax_format.specs.Characters.{IsName, is_name_octet}
use Rattle.ax_format.specs.Paths.{joined, three_digits, IsPathOf, onto, pieces}
use Rattle.ax_laws.proofs.Readers.{IsOrNot}

-- ---- names

name_or_not : (text : List ℕ) → IsOrNot (IsName text)
name_or_not text = by (cases_lt 0 (length text)) (cases_lt 16 (length text)) (list_all is_name_octet text) refl
  where
    by : (0 < length text) ⊎ (length text ≤ 0) → (16 < length text) ⊎ (length text ≤ 16) → (b : Bool) → list_all is_name_octet text ≡ b → IsOrNot (IsName text)
    by (inl some) (inr few) true e = inl (omega arith, few, e)
    by (inr none) few b e = inr (λ h. omega (arith, h.0))
    by some (inl many) b e = inr (λ h. omega (arith, h.1))
    by some few false e = inr (λ h. absurd (let f : true ≡ false = sym h.2 ∙ e in cc))

names_or_not : (texts : List (List ℕ)) → IsOrNot (AllByRecursion IsName texts)
names_or_not [] = inl tt
names_or_not (text ∷ texts) = by (name_or_not text) (names_or_not texts)
  where
    by : IsOrNot (IsName text) → IsOrNot (AllByRecursion IsName texts) → IsOrNot (IsName text × AllByRecursion IsName texts)
    by (inl p) (inl all) = inl (p, all)
    by (inl p) (inr n) = inr (λ h. n h.1)
    by (inr n) all = inr (λ h. n h.0)

-- ---- pieces

other_piece : (x : ℕ) (t : List ℕ) → (x == 47) ≡ false → pieces (x ∷ t) ≡ onto (x ∷ []) (pieces t)
other_piece x t e = rw e refl

no_slash : (x : ℕ) → is_name_octet x ≡ true → (x == 47) ≡ false
no_slash x e = grind (arith, nat_tests)

alone : (name : List ℕ) → list_all is_name_octet name ≡ true → pieces name ≡ name ∷ []
alone [] e = refl
alone (x ∷ name) e = let s = and_parts _ _ e in other_piece x name (no_slash x s.0) ∙ ap (onto (x ∷ [])) (alone name s.1)

in_front : (name t : List ℕ) → list_all is_name_octet name ≡ true → pieces (name ++ 47 ∷ t) ≡ name ∷ pieces t
in_front [] t e = refl
in_front (x ∷ name) t e = let s = and_parts _ _ e in other_piece x (name ++ 47 ∷ t) (no_slash x s.0) ∙ ap (onto (x ∷ [])) (in_front name t s.1)

pieces_joined : (names : List (List ℕ)) → 0 < length names → AllByRecursion IsName names → pieces (joined names) ≡ names
pieces_joined [] some all = absurd (omega arith)
pieces_joined (n ∷ []) some all = alone n all.0.2
pieces_joined (n ∷ m ∷ names) some all = in_front n (joined (m ∷ names)) all.0.2 ∙ ap (λ ps. n ∷ ps) (pieces_joined (m ∷ names) (omega arith) all.1)

some_onto : (x : ℕ) (ps : List (List ℕ)) → 0 < length (onto (x ∷ []) ps)
some_onto x [] = omega arith
some_onto x (p ∷ ps) = omega arith

some_pieces : (t : List ℕ) → 0 < length (pieces t)
some_pieces [] = omega arith
some_pieces (x ∷ t) = by (x == 47)
  where
    by : (b : Bool) → 0 < length (cond b ([] ∷ pieces t) (onto (x ∷ []) (pieces t)))
    by true = omega arith
    by false = some_onto x (pieces t)

joined_slash : (n : List ℕ) (ps : List (List ℕ)) → 0 < length ps → joined (n ∷ ps) ≡ n ++ 47 ∷ joined ps
joined_slash n [] some = absurd (omega arith)
joined_slash n (p ∷ ps) some = refl

joined_onto : (x : ℕ) (ps : List (List ℕ)) → joined (onto (x ∷ []) ps) ≡ x ∷ joined ps
joined_onto x [] = refl
joined_onto x (p ∷ []) = refl
joined_onto x (p ∷ q ∷ ps) = refl

joined_by : (x : ℕ) (t : List ℕ) (b : Bool) → (x == 47) ≡ b → joined (pieces t) ≡ t → joined (cond b ([] ∷ pieces t) (onto (x ∷ []) (pieces t))) ≡ x ∷ t
joined_by x t true e ih = joined_slash [] (pieces t) (some_pieces t) ∙ (λ i. sym (eqb-true x 47 e) i ∷ ih i)
joined_by x t false e ih = joined_onto x (pieces t) ∙ ap (λ y. x ∷ y) ih

joined_pieces : (t : List ℕ) → joined (pieces t) ≡ t
joined_pieces [] = refl
joined_pieces (x ∷ t) = joined_by x t (x == 47) refl (joined_pieces t)

abbrev pub HasNames : List ℕ → Type 0
HasNames text = (names : List (List ℕ)) × IsPathOf text names

pub names_in_or_not : (text : List ℕ) → IsOrNot (HasNames text)
names_in_or_not text = by (names_or_not (pieces text))
  where
    by : IsOrNot (AllByRecursion IsName (pieces text)) → IsOrNot (HasNames text)
    by (inl all) = inl (pieces text, record { some = some_pieces text; named = all; spelled = joined_pieces text })
    by (inr n) = inr (λ h. n (subst (AllByRecursion IsName) (sym (sym (ap pieces h.1.spelled) ∙ pieces_joined h.0 h.1.some h.1.named)) h.1.named))

-- ---- a category

abbrev pub HasCategory : List ℕ → Type 0
HasCategory text = (n : ℕ) × (n < 256) × (text ≡ three_digits n)

abbrev Digit : ℕ → Type 0
Digit x = ((d : ℕ) × (x ≡ 48 + d) × (d < 10)) ⊎ ((x < 48) ⊎ (57 < x))

digit : (x : ℕ) → Digit x
digit x = by (cases_lt x 48) (cases_lt 57 x)
  where
    by : (x < 48) ⊎ (48 ≤ x) → (57 < x) ⊎ (x ≤ 57) → Digit x
    by (inl lt) o = inr (inl lt)
    by (inr le) (inl gt) = inr (inr gt)
    by (inr le) (inr few) = inl (x - 48, omega arith, omega arith)

pub category_or_not : (a b c : ℕ) → IsOrNot (HasCategory (a ∷ b ∷ c ∷ []))
category_or_not a b c = by (digit a) (digit b) (digit c)
  where
    by_size : (x y z : ℕ) → a ≡ 48 + x → b ≡ 48 + y → c ≡ 48 + z → y < 10 → z < 10 → (255 < 100 * x + 10 * y + z) ⊎ (100 * x + 10 * y + z ≤ 255) → IsOrNot (HasCategory (a ∷ b ∷ c ∷ []))
    by_size x y z p q r s t (inl large) = inr (λ h. above a b c x y z p q r s t large h.0 h.1 h.2)
    by_size x y z p q r s t (inr small) = inl (100 * x + 10 * y + z, omega arith, category a b c x y z p q r s t)

    by : Digit a → Digit b → Digit c → IsOrNot (HasCategory (a ∷ b ∷ c ∷ []))
    by (inl (x, p, l)) (inl (y, q, s)) (inl (z, r, t)) = by_size x y z p q r s t (cases_lt 255 (100 * x + 10 * y + z))
    by (inr n) q r = inr (λ h. no_hundreds a b c n h.0 h.1 h.2)
    by p (inr n) r = inr (λ h. no_tens a b c n h.0 h.1 h.2)
    by p q (inr n) = inr (λ h. no_ones a b c n h.0 h.1 h.2)
