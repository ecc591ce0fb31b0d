-- Each input has an answer by a line command that has one for each line.
use Rattle.std.proofs.Common.{◌≡◌, ℕ, ◌+◌, ◌⊎◌, inl, inr, List, [], ◌∷◌, ◌++◌, length, refl, ap, subst, arith}
use Rattle.std.specs.List.{AllByRecursion}
use Rattle.ax_lines.specs.Commands.{LineCommand, LineAnswer, gives, nothing, refused, IsAnswered, results_of, AreAnswersFrom}
use Rattle.ax_lines.specs.Ending.{lines_end}
use Rattle.ax_lines.specs.Lined.{LinedEnd, line, IsNextLine, Lined}
use Rattle.ax_lines.specs.Runs.{BeginsWith, LinesAnswer}
use Rattle.ax_lines.specs.declared.end.LinesEnd.{LinesEnd}
use Rattle.ax_lines.specs.declared.end.LinesEnd.TheVariants.{Refused}
use Rattle.ax_laws.proofs.LinedThere.{lined_there}

module _ {F : Type 0} (c : LineCommand F) where
  -- each of the lines has a result, or one is the first that is refused
  record AllAnswered (n : ℕ) (lines : List (List ℕ)) : Type 0 where
    answers : List (LineAnswer F)
    each : AreAnswersFrom c n lines answers
    none_refused : AllByRecursion IsAnswered answers

  record FirstRefused (n : ℕ) (lines : List (List ℕ)) : Type 0 where
    before : List (List ℕ)
    one : List ℕ
    after : List (List ℕ)
    split : lines ≡ before ++ one ∷ after
    answered : AllAnswered n before
    fault : F
    answer : c (n + length before) one (refused fault)

  and_answered : (n : ℕ) (one : List ℕ) (lines : List (List ℕ)) (a : LineAnswer F) → c n one a → IsAnswered a → AllAnswered (n + 1) lines → AllAnswered n (one ∷ lines)
  and_answered n one lines a h is more = record { answers = a ∷ more.answers; each = (h, more.each); none_refused = (is, more.none_refused) }

  and_more : (n : ℕ) (one : List ℕ) (lines : List (List ℕ)) (a : LineAnswer F) → c n one a → IsAnswered a → AllAnswered (n + 1) lines ⊎ FirstRefused (n + 1) lines → AllAnswered n (one ∷ lines) ⊎ FirstRefused n (one ∷ lines)
  and_more n one lines a h is (inl more) = inl (and_answered n one lines a h is more)
  and_more n one lines a h is (inr f) = inr (record {
    before = one ∷ f.before;
    one = f.one;
    after = f.after;
    split = ap (λ x. one ∷ x) f.split;
    answered = and_answered n one f.before a h is f.answered;
    fault = f.fault;
    answer = (let same : n + 1 + length f.before ≡ n + length (one ∷ f.before) = omega arith in subst (λ k. c k f.one (refused f.fault)) same f.answer);
  })

  by_answer : (n : ℕ) (one : List ℕ) (lines : List (List ℕ)) (a : LineAnswer F) → c n one a → AllAnswered (n + 1) lines ⊎ FirstRefused (n + 1) lines → AllAnswered n (one ∷ lines) ⊎ FirstRefused n (one ∷ lines)
  by_answer n one lines (gives octets) h more = and_more n one lines (gives octets) h tt more
  by_answer n one lines nothing h more = and_more n one lines nothing h tt more
  by_answer n one lines (refused fault) h more = inr (record {
    before = [];
    one = one;
    after = lines;
    split = refl;
    answered = record { answers = []; each = tt; none_refused = tt };
    fault = fault;
    answer = (let same : n ≡ n + 0 = omega arith in subst (λ k. c k one (refused fault)) same h);
  })

  module _ (total : (number : ℕ) (octets : List ℕ) → (a : LineAnswer F) × c number octets a) where
    first_refused : (n : ℕ) (lines : List (List ℕ)) → AllAnswered n lines ⊎ FirstRefused n lines
    first_refused n [] = inl (record { answers = []; each = tt; none_refused = tt })
    first_refused n (one ∷ lines) = let t = total n one in by_answer n one lines t.0 t.1 (first_refused (n + 1) lines)

-- a line, after those before it
record AtLine (line_limit limit before : ℕ) (octets : List ℕ) (lines : List (List ℕ)) (one : List ℕ) : Type 0 where
  past : ℕ
  rest : List ℕ
  begins : BeginsWith line_limit limit before octets lines past rest
  after : List ℕ
  next : IsNextLine line_limit limit past rest (line one after)

at_line : (line_limit limit before : ℕ) (octets : List ℕ) (lines : List (List ℕ)) (one : List ℕ) (later : List (List ℕ)) (e : LinedEnd) → Lined line_limit limit before octets (lines ++ one ∷ later) e → AtLine line_limit limit before octets lines one
at_line line_limit limit before octets [] one later e (after, taken, next, count, more) = record { past = before; rest = octets; begins = (refl, refl); after = after; next = next }
at_line line_limit limit before octets (first ∷ lines) one later e (after, taken, next, count, more) =
    let t = at_line line_limit limit (before + taken) after lines one later e more in
    record { past = t.past; rest = t.rest; begins = (after, taken, next, count, t.begins); after = t.after; next = t.next }

abbrev pub LinesThere : {F : Type 0} → LineCommand F → ℕ → ℕ → List ℕ → Type 0
LinesThere {F} c line_limit limit input = (lines : List (List ℕ)) × (answers : List (LineAnswer F)) × (end : LinesEnd F) × LinesAnswer c line_limit limit input lines answers end

module _ {F : Type 0} (c : LineCommand F) (line_limit limit : ℕ) (input : List ℕ) where
  by_lines : (lines : List (List ℕ)) (e : LinedEnd) → Lined line_limit limit 0 input lines e → AllAnswered c 0 lines ⊎ FirstRefused c 0 lines → LinesThere c line_limit limit input
  by_lines lines e h (inl all) =
      (lines, all.answers, lines_end (results_of all.answers) (length lines) e, inl (record { end = e; lined = h; answered = record { each = all.each; none_refused = all.none_refused }; is = refl }))
  by_lines lines e h (inr f) =
      let t = at_line line_limit limit 0 input f.before f.one f.after e (subst (λ x. Lined line_limit limit 0 input x e) f.split h) in (
        f.before,
        f.answered.answers,
        Refused (length f.before) f.fault,
        inr (record {
          past = t.past;
          rest = t.rest;
          front = record { begins = t.begins; answered = record { each = f.answered.each; none_refused = f.answered.none_refused } };
          one = f.one;
          after = t.after;
          next = t.next;
          fault = f.fault;
          answer = (let same : 0 + length f.before ≡ length f.before = omega arith in subst (λ k. c k f.one (refused f.fault)) same f.answer);
          is = refl;
        }),
      )

  pub lines_there : ((number : ℕ) (octets : List ℕ) → (a : LineAnswer F) × c number octets a) → LinesThere c line_limit limit input
  lines_there total = let t = lined_there line_limit limit input in by_lines t.0 t.1 t.2 (first_refused c total 0 t.0)
