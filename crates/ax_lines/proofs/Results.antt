-- The answers to lines, one line after another.
use Rattle.std.proofs.Common.{◌≡◌, ℕ, suc, ◌+◌, List, [], ◌∷◌, ◌++◌, length, sum_by, sym, ◌∙◌, ap, subst, arith, append_assoc, append-nil}
use Rattle.std.proofs.lemmas.List.Concat.{flat_map-append}
use Rattle.std.proofs.lemmas.List.Sums.{sum_by-append, sum_by-cons}
use Rattle.std.specs.List.{AllByRecursion}
use Rattle.ax_lines.specs.Commands.{LineCommand, LineAnswer, octets_in, results_in, IsAnswered, output_of, results_of, AreAnswersFrom, AreAnswered}
use Rattle.ax_lines.specs.Runs.{with_feeds}

later_number : (n k : ℕ) → n + 1 + k ≡ n + suc k
later_number n k = omega arith

from_none : (n : ℕ) → n ≡ 0 + n
from_none n = omega arith

none_more : (n : ℕ) → n ≡ n + 0
none_more n = omega arith

pub output_snoc : {F : Type 0} (answers : List (LineAnswer F)) (a : LineAnswer F) → output_of (answers ++ a ∷ []) ≡ output_of answers ++ octets_in a
output_snoc answers a = flat_map-append octets_in answers (a ∷ []) ∙ ap (λ x. output_of answers ++ x) (append-nil (octets_in a))

pub results_snoc : {F : Type 0} (answers : List (LineAnswer F)) (a : LineAnswer F) → results_of (answers ++ a ∷ []) ≡ results_of answers + results_in a
results_snoc answers a =
    let both : results_of (answers ++ a ∷ []) ≡ results_of answers + sum_by results_in (a ∷ []) = sum_by-append results_in answers (a ∷ []) in
    let one : sum_by results_in (a ∷ []) ≡ results_in a + 0 = sum_by-cons results_in a [] in
    omega arith

module _ {F : Type 0} (c : LineCommand F) where
  each_snoc : (n : ℕ) (lines : List (List ℕ)) (answers : List (LineAnswer F)) (l : List ℕ) (a : LineAnswer F) → AreAnswersFrom c n lines answers → c (n + length lines) l a → AreAnswersFrom c n (lines ++ l ∷ []) (answers ++ a ∷ [])
  each_snoc n [] [] l a h g = (subst (λ m. c m l a) (sym (none_more n)) g, tt)
  each_snoc n [] (x ∷ answers) l a h g = absurd h
  each_snoc n (x ∷ lines) [] l a h g = absurd h
  each_snoc n (x ∷ lines) (y ∷ answers) l a h g = (h.0, each_snoc (n + 1) lines answers l a h.1 (subst (λ m. c m l a) (sym (later_number n (length lines))) g))

  none_snoc : (answers : List (LineAnswer F)) (a : LineAnswer F) → AllByRecursion IsAnswered answers → IsAnswered a → AllByRecursion IsAnswered (answers ++ a ∷ [])
  none_snoc [] a h g = (g, tt)
  none_snoc (x ∷ answers) a h g = (h.0, none_snoc answers a h.1 g)

  pub answered_snoc : (lines : List (List ℕ)) (answers : List (LineAnswer F)) (l : List ℕ) (a : LineAnswer F) → AreAnswered c lines answers → c (length lines) l a → IsAnswered a → AreAnswered c (lines ++ l ∷ []) (answers ++ a ∷ [])
  answered_snoc lines answers l a h g is = record { each = each_snoc 0 lines answers l a h.each (subst (λ m. c m l a) (from_none (length lines)) g); none_refused = none_snoc answers a h.none_refused is }

pub length_snoc : (lines : List (List ℕ)) (l : List ℕ) → length (lines ++ l ∷ []) ≡ length lines + 1
length_snoc [] l = omega arith
length_snoc (x ∷ lines) l = let e = length_snoc lines l in omega arith

pub feeds_snoc : (input : List ℕ) (lines : List (List ℕ)) (one rest after : List ℕ) → input ≡ with_feeds lines ++ rest → rest ≡ one ++ (10 ∷ after) → input ≡ with_feeds (lines ++ one ∷ []) ++ after
feeds_snoc input lines one rest after is split =
    let fed : List ℕ → List ℕ = λ l. l ++ 10 ∷ [] in
    let more : with_feeds (lines ++ one ∷ []) ≡ with_feeds lines ++ (one ++ 10 ∷ []) = flat_map-append fed lines (one ∷ []) ∙ ap (λ x. with_feeds lines ++ x) (append-nil (one ++ 10 ∷ [])) in
    is ∙ ap (λ x. with_feeds lines ++ x) (split ∙ sym (append_assoc one (10 ∷ []) after)) ∙ sym (append_assoc (with_feeds lines) (one ++ 10 ∷ []) after) ∙ ap (λ x. x ++ after) (sym more)
