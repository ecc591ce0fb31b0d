-- The longest front of octets that pass a test.
use Rattle.std.proofs.Common.{◌≡◌, ℕ, suc, ◌+◌, ◌≤◌, Bool, true, false, ◌&&◌, cond, List, [], ◌∷◌, ◌++◌, length, take, drop, refl, ◌∙◌, ap, arith}
use Rattle.std.specs.List.{prefix_len, list_all}

-- the first octet, where there is one, fails the test
abbrev pub Stops : (ℕ → Bool) → List ℕ → Type 0
Stops p [] = Unit {0}
Stops p (x ∷ xs) = p x ≡ false

pub one_more : (n : ℕ) → 1 + n ≡ suc n
one_more n = omega arith

front_case : (b : Bool) (p : ℕ → Bool) (x : ℕ) (xs : List ℕ) → p x ≡ b → list_all p (take (prefix_len p xs) xs) ≡ true → list_all p (take (cond b (1 + prefix_len p xs) 0) (x ∷ xs)) ≡ true
front_case true p x xs e ih = rw (one_more (prefix_len p xs), e) ih
front_case false p x xs e ih = refl

-- each octet of the front passes
pub prefix_passes : (p : ℕ → Bool) (xs : List ℕ) → list_all p (take (prefix_len p xs) xs) ≡ true
prefix_passes p [] = refl
prefix_passes p (x ∷ xs) = front_case (p x) p x xs refl (prefix_passes p xs)

stop_case : (b : Bool) (p : ℕ → Bool) (x : ℕ) (xs : List ℕ) → p x ≡ b → Stops p (drop (prefix_len p xs) xs) → Stops p (drop (cond b (1 + prefix_len p xs) 0) (x ∷ xs))
stop_case true p x xs e ih = rw (one_more (prefix_len p xs)) ih
stop_case false p x xs e ih = e

-- the octet after the front fails
pub prefix_stops : (p : ℕ → Bool) (xs : List ℕ) → Stops p (drop (prefix_len p xs) xs)
prefix_stops p [] = tt
prefix_stops p (x ∷ xs) = stop_case (p x) p x xs refl (prefix_stops p xs)

inside_case : (b : Bool) (p : ℕ → Bool) (x : ℕ) (xs : List ℕ) → prefix_len p xs ≤ length xs → cond b (1 + prefix_len p xs) 0 ≤ length (x ∷ xs)
inside_case true p x xs ih = omega arith
inside_case false p x xs ih = omega arith

pub prefix_inside : (p : ℕ → Bool) (xs : List ℕ) → prefix_len p xs ≤ length xs
prefix_inside p [] = omega arith
prefix_inside p (x ∷ xs) = inside_case (p x) p x xs (prefix_inside p xs)

pub and_first : (a b : Bool) → (a && b) ≡ true → a ≡ true
and_first true b h = refl
and_first false b h = h

pub and_second : (a b : Bool) → (a && b) ≡ true → b ≡ true
and_second true b h = h
and_second false b h = cc

stop_at : (p : ℕ → Bool) (rest : List ℕ) → Stops p rest → prefix_len p rest ≡ 0
stop_at p [] h = refl
stop_at p (x ∷ rest) h = ap (λ b. cond b (1 + prefix_len p rest) 0) h

-- octets that pass, before one that fails, are the longest front
pub prefix_is : (p : ℕ → Bool) (xs rest : List ℕ) → list_all p xs ≡ true → Stops p rest → prefix_len p (xs ++ rest) ≡ length xs
prefix_is p [] rest all h = stop_at p rest h
prefix_is p (x ∷ xs) rest all h =
    let first : p x ≡ true = and_first (p x) (list_all p xs) all in
    let ih : prefix_len p (xs ++ rest) ≡ length xs = prefix_is p xs rest (and_second (p x) (list_all p xs) all) h in
    ap (λ b. cond b (1 + prefix_len p (xs ++ rest)) 0) first ∙ omega arith
