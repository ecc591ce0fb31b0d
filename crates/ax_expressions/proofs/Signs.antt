-- Numbers with a sign, of any width.
use Rattle.std.proofs.Common.{◌≡◌, ℕ, zero, suc, ◌^◌, ◌-◌, ◌<◌, ◌≤◌, Bool, true, false, cond, refl, sym, ◌∙◌, ap, arith, ℤ, pos, negsuc, ◌-ℤ◌, lit<, IsTrue, ◌↔◌, if◌then◌else◌}
use Rattle.std.specs.Prelude.{nat_lt}
use Rattle.std.proofs.lemmas.Bool.{lt-ltb, le-ltb, ltb-true, ltb-false, both_ways}
use Rattle.std.proofs.Math.Nat.{pow-le-pow_right}
use Rattle.ax_bits.specs.Bits.{signed}
use Rattle.ax_expressions.specs.Meaning.{compares}
use Rattle.ax_expressions.specs.declared.expr.Op.{Op}

low : (w n : ℕ) → n < 2 ^ (w - 1) → signed w n ≡ pos n
low w n lt = ap (λ b. if b then pos n else (pos n -ℤ pos (2 ^ w))) (lt-ltb n (2 ^ (w - 1)) lt)

less : (a b : ℕ) → b ≤ a → pos a -ℤ pos b ≡ pos (a - b)
less a zero le = ap pos (omega arith)
less a (suc b) le = ap (λ t. cond t (negsuc (suc b - suc a)) (pos (a - suc b))) (le-ltb a (suc b) le)

high : (w n : ℕ) → 2 ^ (w - 1) ≤ n → 2 ^ w ≤ n → signed w n ≡ pos (n - 2 ^ w)
high w n half le = ap (λ b. if b then pos n else (pos n -ℤ pos (2 ^ w))) (le-ltb n (2 ^ (w - 1)) half) ∙ less n (2 ^ w) le

-- no value has half as many bits
pub wide : (op : Op) (w n : ℕ) (other : ℤ) (b : Bool) → 128 < w → n < 2 ^ 128 → b ≡ compares op (pos n) other → b ≡ compares op (signed w n) other
wide op w n other b gt lt e =
    let more : 2 ^ 128 ≤ 2 ^ (w - 1) = pow-le-pow_right (lit< tt) {i = 128} (omega (arith, gt)) in
    e ∙ ap (λ z. compares op z other) (sym (low w n (omega (arith, lt, more))))

no_width : (n : ℕ) → signed 0 n ≡ pos (n - 1)
no_width zero = refl
no_width (suc n) = high 0 (suc n) (omega arith) (omega arith)

pub empty : (op : Op) (w n m : ℕ) (other : ℤ) (b : Bool) → w ≡ 0 → m ≡ n - 1 → b ≡ compares op (pos m) other → b ≡ compares op (signed w n) other
empty op w n m other b is less e = e ∙ ap (λ k. compares op (pos k) other) less ∙ ap (λ z. compares op z other) (sym (no_width n)) ∙ ap (λ v. compares op (signed v n) other) (sym is)

-- more bits than the element has
pub above : (op : Op) (w n m : ℕ) (other : ℤ) (b : Bool) → 2 ^ w ≤ n → m ≡ n - 2 ^ w → b ≡ compares op (pos m) other → b ≡ compares op (signed w n) other
above op w n m other b le less e =
    let half : 2 ^ (w - 1) ≤ 2 ^ w = pow-le-pow_right (lit< tt) {i = w - 1} {j = w} (omega arith) in
    e ∙ ap (λ k. compares op (pos k) other) less ∙ ap (λ z. compares op z other) (sym (high w n (omega (arith, half, le)) le))

pub all_within : (w n : ℕ) → 128 ≤ w → n < 2 ^ 128 → n < 2 ^ w
all_within w n le lt = let more : 2 ^ 128 ≤ 2 ^ w = pow-le-pow_right (lit< tt) {i = 128} le in omega (arith, lt, more)

pub not_within : (n k : ℕ) (b : Bool) → b ≡ false → IsTrue b ↔ n < k → k ≤ n
not_within n k b e same = by_test (nat_lt n k) refl
  where
    by_test : (t : Bool) → nat_lt n k ≡ t → k ≤ n
    by_test true h = absurd (both_ways b e (same.1 (ltb-true n k h)))
    by_test false h = ltb-false n k h

pub ruleset signs = (wide, empty, above)
