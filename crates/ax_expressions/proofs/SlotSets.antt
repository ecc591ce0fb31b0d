-- Sets of slots, and whether two of them have a slot in common.
use Rattle.std.proofs.Common.{◌≡◌, ℕ, zero, suc, ◌+◌, ◌-◌, ◌==◌, ◌<◌, ◌≤◌, ◌↔◌, Bool, true, false, ◌&&◌, cond, nat_lt, IsTrue, List, [], ◌∷◌, length, get_or, set, min, refl, sym, ◌∙◌, ap, arith}
use Rattle.std.proofs.lemmas.Bool.{lt-ltb, ltb-true, le-ltb, eq-eqb, eqb-true}
use Rattle.std.proofs.lemmas.List.{length-set}
use Rattle.ax_fspec.specs.Marks.{IsMarked, common_marks, no_marks, slots_from, slots_of}
use Rattle.ax_expressions.specs.Plans.{is_slot, is_some_slot, meets, only_slot}

-- ---- one slot

told : (marks : List ℕ) (s : ℕ) (e : Bool) → (get_or marks (s - 1) 0 == 1) ≡ e → s < 127 → (IsMarked marks s → ⊥) → is_slot marks s ≡ false
told marks s true is few none = by (nat_lt 0 s) refl
  where
    by : (z : Bool) → nat_lt 0 s ≡ z → is_slot marks s ≡ false
    by true some = absurd (none (ltb-true 0 s some, eqb-true (get_or marks (s - 1) 0) 1 is))
    by false less = ap (λ b. b && (nat_lt s 127 && (get_or marks (s - 1) 0 == 1))) less
told marks s false is few none = by (nat_lt 0 s) refl
  where
    by : (z : Bool) → nat_lt 0 s ≡ z → is_slot marks s ≡ false
    by true some = ap (λ b. b && (nat_lt s 127 && (get_or marks (s - 1) 0 == 1))) some ∙ ap (λ b. b && (get_or marks (s - 1) 0 == 1)) (lt-ltb s 127 few) ∙ is
    by false less = ap (λ b. b && (nat_lt s 127 && (get_or marks (s - 1) 0 == 1))) less

pub unmarked_slot : (marks : List ℕ) (s : ℕ) → s < 127 → (IsMarked marks s → ⊥) → is_slot marks s ≡ false
unmarked_slot marks s few none = told marks s (get_or marks (s - 1) 0 == 1) refl few none

pub marked_slot : (marks : List ℕ) (s : ℕ) → s < 127 → IsMarked marks s → is_slot marks s ≡ true
marked_slot marks s few m =
    ap (λ b. b && (nat_lt s 127 && (get_or marks (s - 1) 0 == 1))) (lt-ltb 0 s m.0) ∙ ap (λ b. b && (get_or marks (s - 1) 0 == 1)) (lt-ltb s 127 few) ∙ eq-eqb (get_or marks (s - 1) 0) 1 m.1

pub slot_told : (marks : List ℕ) (s : ℕ) (b : Bool) → s < 127 → (IsTrue b ↔ IsMarked marks s) → b ≡ is_slot marks s
slot_told marks s true few h = sym (marked_slot marks s few (h.0 refl))
slot_told marks s false few h = sym (unmarked_slot marks s few (λ m. (let e : false ≡ true = h.1 m in cc)))

pub slot_large : (marks : List ℕ) (s : ℕ) → 127 ≤ s → false ≡ is_slot marks s
slot_large marks s large =
    sym (ap (λ b. b && (nat_lt s 127 && (get_or marks (s - 1) 0 == 1))) (lt-ltb 0 s (omega arith)) ∙ ap (λ b. b && (get_or marks (s - 1) 0 == 1)) (le-ltb s 127 large))

pub ruleset slots = (slot_told, slot_large)

-- ---- slots in both

abbrev meets_from : ℕ → List ℕ → List ℕ → Bool
meets_from n a m = is_some_slot (slots_from n (common_marks a m))

parts_none : (n x : ℕ) (xs : List ℕ) → is_some_slot (slots_from n (x ∷ xs)) ≡ false → (x ≡ 0) × (is_some_slot (slots_from (n + 1) xs) ≡ false)
parts_none n zero xs e = (refl, e)
parts_none n (suc x) xs e = cc

none_of_parts : (n x : ℕ) (xs : List ℕ) → x ≡ 0 → is_some_slot (slots_from (n + 1) xs) ≡ false → is_some_slot (slots_from n (x ∷ xs)) ≡ false
none_of_parts n zero xs z e = e
none_of_parts n (suc x) xs z e = absurd (omega arith)

-- a set with one slot more
fewer : (n i : ℕ) (a m : List ℕ) → meets_from n (set a i 1) m ≡ false → meets_from n a m ≡ false
fewer n i [] m e = refl
fewer n zero (x ∷ a) [] e = refl
fewer n (suc i) (x ∷ a) [] e = refl
fewer n zero (x ∷ a) (y ∷ m) e =
    let p = parts_none n (min 1 y) (common_marks a m) e in none_of_parts n (min x y) (common_marks a m) (let z = p.0 in omega (arith, z)) p.1
fewer n (suc i) (x ∷ a) (y ∷ m) e =
    let p = parts_none n (min x y) (common_marks (set a i 1) m) e in none_of_parts n (min x y) (common_marks a m) p.0 (fewer (n + 1) i a m p.1)

-- a slot that goes from one set to another
moved : (n i : ℕ) (a l m : List ℕ) → i < length a → meets_from n (set a i 1) m ≡ false → meets_from n (set l i 0) m ≡ false → meets_from n l m ≡ false
moved n i a [] m within e f = refl
moved n i a (x ∷ l) [] within e f = refl
moved n i [] (x ∷ l) (y ∷ m) within e f = absurd (omega arith)
moved n zero (z ∷ a) (x ∷ l) (y ∷ m) within e f =
    let p = parts_none n (min 1 y) (common_marks a m) e in
    let q = parts_none n (min 0 y) (common_marks l m) f in none_of_parts n (min x y) (common_marks l m) (let z = p.0 in omega (arith, z)) q.1
moved n (suc i) (z ∷ a) (x ∷ l) (y ∷ m) within e f =
    let p = parts_none n (min z y) (common_marks (set a i 1) m) e in
    let q = parts_none n (min x y) (common_marks (set l i 0) m) f in none_of_parts n (min x y) (common_marks l m) q.0 (moved (n + 1) i a l m (omega arith) p.1 q.1)

-- a slot of a set that meets no other
alone : (n i : ℕ) (a m : List ℕ) → i < length a → meets_from n (set a i 1) m ≡ false → get_or m i 0 ≡ 0
alone n i a [] within e = refl
alone n i [] (y ∷ m) within e = absurd (omega arith)
alone n zero (z ∷ a) (y ∷ m) within e = let p = parts_none n (min 1 y) (common_marks a m) e in (let z = p.0 in omega (arith, z))
alone n (suc i) (z ∷ a) (y ∷ m) within e = let p = parts_none n (min z y) (common_marks (set a i 1) m) e in alone (n + 1) i a m (omega arith) p.1

none_from : (n : ℕ) (a m : List ℕ) → slots_from n a ≡ [] → meets_from n a m ≡ false
none_from n [] m e = refl
none_from n (x ∷ a) [] e = refl
none_from n (zero ∷ a) (y ∷ m) e = none_of_parts n (min 0 y) (common_marks a m) (omega arith) (none_from (n + 1) a m e)
none_from n (suc x ∷ a) (y ∷ m) e = cc

pub none_meets : (a m : List ℕ) → slots_of a ≡ [] → meets a m ≡ false
none_meets a m e = none_from 1 a m e

-- ---- what the first slot tells

pub some_met : (a m both rest : List ℕ) (s : ℕ) → both ≡ common_marks a m → slots_of both ≡ s ∷ rest → true ≡ meets a m
some_met a m both rest s is e = sym (ap (λ x. is_some_slot (slots_of x)) (sym is) ∙ ap is_some_slot e)

pub none_met : (a m both : List ℕ) → both ≡ common_marks a m → slots_of both ≡ [] → false ≡ meets a m
none_met a m both is e = sym (ap (λ x. is_some_slot (slots_of x)) (sym is) ∙ ap is_some_slot e)

pub ruleset meetings = (some_met, none_met, none_meets)

-- ---- sets that grow

-- what meets neither of two sets, while slots go from the one to the other
abbrev pub Gathered : List ℕ → List ℕ → List ℕ → List ℕ → Type 0
Gathered old more asked left = (length asked ≡ 126) × ((marks : List ℕ) → meets asked marks ≡ false → meets left marks ≡ false → (meets old marks ≡ false) × (meets more marks ≡ false))

pub gathered_next : (old more asked left asked' left' : List ℕ) (s : ℕ) → 1 ≤ s → s ≤ 126 → asked' ≡ set asked (s - 1) 1 → left' ≡ set left (s - 1) 0 → Gathered old more asked left → Gathered old more asked' left'
gathered_next old more asked left asked' left' s some few is put h = (
  ap length is ∙ length-set asked (s - 1) 1 ∙ h.0,
  λ marks e f. (
      let e' = sym (ap (λ x. meets x marks) is) ∙ e in
      let f' = sym (ap (λ x. meets x marks) put) ∙ f in
      h.1 marks (fewer 1 (s - 1) asked marks e') (moved 1 (s - 1) asked left marks (omega (arith, h.0, some, few)) e' f')),
)

pub gathered_all : (old more asked left : List ℕ) → slots_of left ≡ [] → Gathered old more asked left → (marks : List ℕ) → meets asked marks ≡ false → (meets old marks ≡ false) × (meets more marks ≡ false)
gathered_all old more asked left none h marks e = h.1 marks e (none_meets left marks none)

-- ---- the set of one slot

pub size_none : length no_marks ≡ 126
unfolding no_marks
size_none = refl

pub only_this : (s : ℕ) (marks : List ℕ) → meets (only_slot s) marks ≡ false → is_slot marks s ≡ false
only_this s marks e = by (nat_lt 0 s) (nat_lt s 127) refl refl
  where
    by : (z f : Bool) → nat_lt 0 s ≡ z → nat_lt s 127 ≡ f → is_slot marks s ≡ false
    by false f less few = ap (λ b. b && (nat_lt s 127 && (get_or marks (s - 1) 0 == 1))) less
    by true false some large = ap (λ b. b && (nat_lt s 127 && (get_or marks (s - 1) 0 == 1))) some ∙ ap (λ b. b && (get_or marks (s - 1) 0 == 1)) large
    by true true some few =
        let is : only_slot s ≡ set no_marks (s - 1) 1 = ap (λ b. cond b (cond (nat_lt s 127) (set no_marks (s - 1) 1) no_marks) no_marks) some ∙ ap (λ b. cond b (set no_marks (s - 1) 1) no_marks) few in
        let unset : get_or marks (s - 1) 0 ≡ 0
        = alone 1 (s - 1) no_marks marks (let a = ltb-true 0 s some in let b = ltb-true s 127 few in omega (arith, a, b, size_none)) (sym (ap (λ x. meets x marks) is) ∙ e) in
        ap (λ b. b && (nat_lt s 127 && (get_or marks (s - 1) 0 == 1))) some ∙ ap (λ b. b && (get_or marks (s - 1) 0 == 1)) few ∙ ap (λ n. n == 1) unset
