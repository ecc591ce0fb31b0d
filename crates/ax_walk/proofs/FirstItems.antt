-- The item of the first slot that a presence field marks.
use Rattle.std.proofs.Common.{◌≡◌, ℕ, zero, suc, ◌+◌, ◌-◌, ◌/◌, ◌^◌, ◌<◌, ◌≤◌, ◌==◌, IsTrue, List, [], ◌∷◌, length, get_or, bit_and, refl, sym, ◌∙◌, ap, arith, subst}
use Rattle.std.proofs.Math.Nat.{div-div-eq-div-mul, div-eq_of_lt, pow-suc}
use Rattle.std.proofs.lemmas.Bool.{eqb-true}
use Rattle.std.proofs.lemmas.Nat.{pow-add}
use Rattle.ax_fspec.specs.Marks.{seven}
use Rattle.ax_format.specs.InBounds.{InBounds}
use Rattle.ax_format.specs.Presence.{octets_needed}
use Rattle.ax_codec.specs.Meaning.{meanings, linked_slots}
use Rattle.ax_codec.specs.Table.{record_kind_at}
use Rattle.ax_codec.specs.declared.node.Node.{Node}
use Rattle.ax_walk.proofs.Compounds.{slots_bounds}
use Rattle.ax_walk.proofs.EarlyItems.{cleared, early, early_at, early_bit, early_marks, early_next}
use Rattle.ax_walk.proofs.Found.{Left, left_first}
use Rattle.ax_walk.proofs.MarkedSteps.{NextMarked}
use Rattle.ax_walk.proofs.Placed.{Passed, passed_first}
use Rattle.ax_walk.specs.Rows.{IsField}
use Rattle.ax_walk.specs.Values.{IsOne}

-- ---- the bits of the first presence octet

pub first_some : (x s : ℕ) → x < 256 → IsTrue (x / 2 ^ (8 - s) == 1) → 1 ≤ s
first_some x zero few h = let one : x / 256 ≡ 1 = eqb-true (x / 256) 1 h in omega (arith, one)
first_some x (suc s) few h = omega arith

pub first_set : (x s : ℕ) → x < 256 → s ≤ 7 → IsTrue (x / 2 ^ (8 - s) == 1) → get_or (seven (x / 2)) (s - 1) 0 ≡ 1
first_set x s small few h = sym (early_bit x s (first_some x s small h) few) ∙ ap (λ n. bit_and n 1) (eqb-true (x / 2 ^ (8 - s)) 1 h)

power : (n : ℕ) → 1 < 2 ^ (n + 1)
power zero = omega arith
power (suc n) =
    let on : suc (n + 1) ≡ suc n + 1 = omega arith in
    let twice : 1 < 2 ^ suc (n + 1) = omega (arith, power n, pow-suc 2 (n + 1)) in
    subst (λ k. 1 < 2 ^ k) on twice

half : (n : ℕ) → 1 / 2 ^ (n + 1) ≡ 0
half n = div-eq_of_lt (power n)

pub first_unset : (x s : ℕ) → s ≤ 7 → IsTrue (x / 2 ^ (8 - s) == 1) → (i : ℕ) → i + 1 < s → get_or (seven (x / 2)) i 0 ≡ 0
first_unset x s few h i lt =
    let r = s - (i + 1) - 1 in
    let up : 8 - (i + 1) ≡ (8 - s) + (r + 1) = omega arith in
    let shifted : x / 2 ^ (8 - (i + 1)) ≡ x / 2 ^ (8 - s) / 2 ^ (r + 1) = ap (λ k. x / 2 ^ k) up ∙ ap (λ k. x / k) (pow-add 2 (8 - s) (r + 1)) ∙ sym (div-div-eq-div-mul x (2 ^ (8 - s)) (2 ^ (r + 1))) in
    let none : x / 2 ^ (8 - (i + 1)) ≡ 0 = shifted ∙ ap (λ k. k / 2 ^ (r + 1)) (eqb-true (x / 2 ^ (8 - s)) 1 h) ∙ half r in
    let place : i + 1 - 1 ≡ i = omega arith in
    ap (λ k. get_or (seven (x / 2)) k 0) (sym place) ∙ sym (early_bit x (i + 1) (omega arith) (omega arith)) ∙ ap (λ n. bit_and n 1) none

-- ---- the marks before it

cleared_none : (n : ℕ) (ms : List ℕ) → ((i : ℕ) → i < n → get_or ms i 0 ≡ 0) → ms ≡ cleared n ms
cleared_none zero ms none = refl
cleared_none (suc n) [] none = refl
cleared_none (suc n) (m ∷ ms) none = λ i. none 0 (omega arith) i ∷ cleared_none n ms (λ j lt. none (suc j) (omega arith)) i

pub record FirstItem (nodes : List Node) (links body : List ℕ) (at slot : ℕ) : Type 0 where
  pub left : Left (linked_slots (meanings nodes) links) (early_marks body at) (cleared (slot - 1) (early_marks body at)) body at at slot
  pub passed : Passed nodes links (early_marks body at) (cleared (slot - 1) (early_marks body at)) body at at slot
  pub next : NextMarked nodes links (cleared (slot - 1) (early_marks body at)) (cleared slot (early_marks body at)) slot

pub first_item : (nodes : List Node) (links body : List ℕ) (at slot : ℕ) → InBounds (record_kind_at nodes links) → IsOne (record_kind_at nodes links) body → IsField body 0 at → at ≤ octets_needed (length links)
    → 1 ≤ slot → slot ≤ 7 → get_or (seven (get_or body 0 0 / 2)) (slot - 1) 0 ≡ 1 → ((i : ℕ) → i + 1 < slot → get_or (seven (get_or body 0 0 / 2)) i 0 ≡ 0) → FirstItem nodes links body at slot
first_item nodes links body at slot bounds one f few some early-slot set none =
    let marks = early_marks body at in
    let e = early nodes links body at bounds one f few in
    let mark : (i : ℕ) → i < 7 → get_or marks i 0 ≡ get_or (seven (get_or body 0 0 / 2)) i 0 = λ i lt. early_at body at i f.some (let w = f.within in omega arith) lt in
    let same : marks ≡ cleared (slot - 1) marks = cleared_none (slot - 1) marks (λ i lt. mark i (omega arith) ∙ none i (omega arith)) in
    let left = subst (λ ms. Left (linked_slots (meanings nodes) links) marks ms body at at slot) same (left_first (linked_slots (meanings nodes) links) marks body at slot e.clear e.are_bits e.within e.some) in record {
      left = left;
      passed = subst (λ ms. Passed nodes links marks ms body at at slot) same (passed_first nodes links marks body at slot);
      next = early_next nodes links marks body slot some at at slot (slots_bounds nodes links bounds) left (mark (slot - 1) (omega arith) ∙ set);
    }
