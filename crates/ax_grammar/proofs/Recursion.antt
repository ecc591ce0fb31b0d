-- A reader that calls itself is a fixed point of its step, where each call of itself stands after a text more.
use Rattle.std.proofs.Common.{◌≡◌, ℕ, zero, suc, ◌<◌, ◌≤◌, Bool, true, false, cond, length, Result, Ok, Err, refl, ◌∙◌, ap, arith}
use Rattle.ax_grammar.specs.Parsing.{Texts, Parsed, ◌>>=◌, within, recursive}

-- two readers give the same for fewer than k texts
abbrev pub Agree : {A : Type 0} → ℕ → (Texts → Parsed A) → (Texts → Parsed A) → Type 0
Agree k p q = (texts : Texts) → length texts < k → p texts ≡ q texts

-- what is left is less
abbrev pub Shrinks : {A : Type 0} → (Texts → Parsed A) → Type 0
Shrinks {A} p = (texts : Texts) (a : A) (rest : Texts) → p texts ≡ Ok (a, rest) → length rest < length texts

-- a step calls itself after a text more
pub record IsGuarded {A : Type 0} (step : (Texts → Parsed A) → Texts → Parsed A) : Type 0 where
  pub agrees : (k : ℕ) (p q : Texts → Parsed A) → Shrinks p → Shrinks q → Agree k p q → Agree (suc k) (step p) (step q)
  pub shrinks : (p : Texts → Parsed A) → Shrinks p → Shrinks (step p)

-- ---- what follows a reader

-- the value of a step that did not stop
pub bind_ok : {A B : Type 0} (r : Result A Texts) (f : A → Result B Texts) (y : B) → (r >>= f) ≡ Ok y → (x : A) × (r ≡ Ok x) × (f x ≡ Ok y)
bind_ok (Ok x) f y e = (x, refl, e)
bind_ok (Err d) f y e = absurd cc

pub same_following : {A B : Type 0} (r : Result A Texts) (f g : A → Result B Texts) → ((a : A) → r ≡ Ok a → f a ≡ g a) → (r >>= f) ≡ (r >>= g)
same_following (Ok x) f g h = h x refl
same_following (Err d) f g h = refl

abbrev pub reads : {A : Type 0} → A → Texts → Parsed A
reads a rest = Ok (a, rest)

pairs : {A : Type 0} (x y : A) (r s : Texts) → reads x r ≡ reads y s → ◌≡◌ {A = A × Texts} (x, r) (y, s)
pairs x y r s e = cc

pub rest_is : {A : Type 0} (x y : A) (r s : Texts) → reads x r ≡ reads y s → r ≡ s
rest_is {A = A} x y r s e = ap (λ (p : A × Texts). p.1) (pairs x y r s e)

pub value_is : {A : Type 0} (x y : A) (r s : Texts) → reads x r ≡ reads y s → x ≡ y
value_is {A = A} x y r s e = ap (λ (p : A × Texts). p.0) (pairs x y r s e)

pub same_choice : {A : Type 0} (b : Bool) (x y z : A) → (b ≡ false → y ≡ z) → cond b x y ≡ cond b x z
same_choice true x y z h = refl
same_choice false x y z h = h refl

-- ---- fixed points

within_shrinks : {A : Type 0} (step : (Texts → Parsed A) → Texts → Parsed A) → IsGuarded step → (n : ℕ) → Shrinks (within step n)
unfolding within
within_shrinks step g zero texts a rest e = absurd cc
within_shrinks step g (suc n) texts a rest e = g.shrinks (within step n) (within_shrinks step g n) texts a rest e

within_same : {A : Type 0} (step : (Texts → Parsed A) → Texts → Parsed A) → IsGuarded step → (k n m : ℕ) → k ≤ n → k ≤ m → Agree k (within step n) (within step m)
unfolding within
within_same step g zero n m le le' texts lt = absurd (omega arith)
within_same step g (suc k) zero m le le' texts lt = absurd (omega arith)
within_same step g (suc k) (suc n) zero le le' texts lt = absurd (omega arith)
within_same step g (suc k) (suc n) (suc m) le le' texts lt =
    g.agrees k (within step n) (within step m) (within_shrinks step g n) (within_shrinks step g m) (within_same step g k n m (omega arith) (omega arith)) texts lt

pub recursive_shrinks : {A : Type 0} (step : (Texts → Parsed A) → Texts → Parsed A) → IsGuarded step → Shrinks (recursive step)
unfolding recursive
recursive_shrinks step g texts a rest e = within_shrinks step g (suc (length texts)) texts a rest e

-- as many calls as there are texts are enough
enough : {A : Type 0} (step : (Texts → Parsed A) → Texts → Parsed A) → IsGuarded step → (n : ℕ) → Agree n (within step n) (recursive step)
unfolding recursive
enough step g n texts lt = within_same step g (suc (length texts)) n (suc (length texts)) (omega arith) (omega arith) texts (omega arith)

first : {A : Type 0} (step : (Texts → Parsed A) → Texts → Parsed A) (texts : Texts) → recursive step texts ≡ step (within step (length texts)) texts
unfolding recursive within
first step texts = refl

pub recursive_is : {A : Type 0} (step : (Texts → Parsed A) → Texts → Parsed A) → IsGuarded step → (texts : Texts) → recursive step texts ≡ step (recursive step) texts
recursive_is step g texts =
    first step texts
    ∙ g.agrees (length texts) (within step (length texts)) (recursive step) (within_shrinks step g (length texts)) (recursive_shrinks step g) (enough step g (length texts)) texts (omega arith)
