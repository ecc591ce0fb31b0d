-- Rows that stand among the steps already.
use Rattle.std.proofs.Common.{◌≡◌, ℕ, zero, suc, ◌+◌, ◌<◌, ◌≤◌, List, [], ◌∷◌, ◌++◌, length, drop, take, get_or, refl, sym, ◌∙◌, ap, arith, subst, length-append, length-drop}
use lib.Seq.{drop-cons, get_or-drop}
use Rattle.ax_rows.specs.Rows.{row_of, no_step, no_row, HaveRow, Stands, StandsBefore, IsRowIfAny, AddsOnce}
use Rattle.ax_rows.specs.declared.step.Step.{Step}
use Rattle.ax_rows.proofs.RowLists.{get_front, stands_more}

past_the_end : (steps : List Step) (n : ℕ) → length steps ≤ n → drop n steps ≡ []
past_the_end [] zero le = refl
past_the_end [] (suc n) le = refl
past_the_end (x ∷ xs) zero le = absurd (omega arith)
past_the_end (x ∷ xs) (suc n) le = past_the_end xs n (omega arith)

-- no step is left to compare
pub none_left : (steps : List Step) (place n : ℕ) → length steps ≤ n → Stands steps place (drop n steps)
none_left steps place n le = subst (Stands steps place) (sym (past_the_end steps n le)) tt

-- the step before is the same
pub one_before : (steps : List Step) (place n : ℕ) → place < length steps → n < length steps → get_or steps place no_step ≡ get_or steps n no_step → Stands steps (suc place) (drop (suc n) steps) → Stands steps place (drop n steps)
one_before steps place n there lt same h = subst (Stands steps place) (sym (drop-cons steps n no_step lt)) (there, same, h)

stands_at : (steps : List Step) (place : ℕ) (row : List Step) (k : ℕ) → k < length row → Stands steps place row → get_or steps (place + k) no_step ≡ get_or row k no_step
stands_at steps place [] k lt h = absurd (omega arith)
stands_at steps place (one ∷ row) zero lt h = ap (λ n. get_or steps n no_step) (omega arith) ∙ h.1
stands_at steps place (one ∷ row) (suc k) lt h = ap (λ n. get_or steps n no_step) (omega arith) ∙ stands_at steps (suc place) row k (omega arith) h.2

-- where they stand before themselves, each step is the same
pub same_at : (steps : List Step) (place first k : ℕ) → first + k < length steps → StandsBefore steps place first → get_or steps (place + k) no_step ≡ get_or steps (first + k) no_step
same_at steps place first k lt h = stands_at steps place (drop first steps) k (omega (arith, length-drop first steps)) h.stands ∙ get_or-drop first steps k no_step

-- ---- cut off again

stands_within : (old more row : List Step) (place : ℕ) → place + length row ≤ length old → Stands (old ++ more) place row → Stands old place row
stands_within old more [] place le h = tt
stands_within old more (one ∷ row) place le h = (omega (arith), sym (get_front old more place (omega arith)) ∙ h.1, stands_within old more row (suc place) (omega arith) h.2)

-- the last steps are those after the old ones
last_steps : (old row : List Step) → drop (length old) (old ++ row) ≡ row
last_steps [] row = refl
last_steps (x ∷ xs) row = last_steps xs row

pub old_steps : (old row : List Step) → take (length old) (old ++ row) ≡ old
old_steps [] row = refl
old_steps (x ∷ xs) row = ap (λ ys. x ∷ ys) (old_steps xs row)

-- a row that stands before itself stands among the old steps
pub stood : (old row : List Step) (place : ℕ) → StandsBefore (old ++ row) place (length old) → Stands old place row
stood old row place h = stands_within old row row place (omega (arith, h.before, length-append old row)) (subst (Stands (old ++ row) place) (last_steps old row) h.stands)

-- and the other way
pub stands_before_itself : (old row : List Step) (place : ℕ) → place + length row ≤ length old → Stands old place row → StandsBefore (old ++ row) place (length old)
stands_before_itself old row place le h = record {
  before = omega (arith, le, length-append old row);
  stands = subst (Stands (old ++ row) place) (sym (last_steps old row)) (stands_more old row place row h);
}

-- the row of slots that stood there already, where what was appended was cut off again
pub row_stood : (octets links marks : List ℕ) (old new cut : List Step) (first place : ℕ) → HaveRow octets links marks → new ≡ old ++ row_of octets links marks 0 → first ≡ length old → first < no_row → StandsBefore new place first → cut ≡ take first new → IsRowIfAny octets links marks cut place
row_stood octets links marks old new cut first place has e f lt h is = record {
  some = λ _. record { has = has; stands = subst (λ xs. Stands xs place row) (sym cut_is) (stood old row place before) };
  none = λ z. absurd (omega (arith, h.before));
}
  where
    row : List Step
    row = row_of octets links marks 0

    before : StandsBefore (old ++ row) place (length old)
    before = subst (λ n. StandsBefore (old ++ row) place n) f (subst (λ xs. StandsBefore xs place first) e h)

    cut_is : cut ≡ old
    cut_is = is ∙ ap (λ n. take n new) f ∙ ap (λ xs. take (length old) xs) e ∙ old_steps old row

pub row_added : (from : ℕ) (old new row : List Step) (first : ℕ) → new ≡ old ++ row → first ≡ length old → ((place : ℕ) → from ≤ place → place < first → StandsBefore new place first → ⊥) → AddsOnce from old new
row_added from old new row first e f none = record {
  row = row;
  grown = e;
  once = λ lt place after le h. none place after (omega (arith, le, lt, f)) (subst (λ n. StandsBefore new place n) (sym f) (subst (λ xs. StandsBefore xs place (length old)) (sym e) (stands_before_itself old row place le h)));
}
