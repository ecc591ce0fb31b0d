-- An input has one answer by a line command.
use Rattle.std.proofs.Common.{◌≡◌, ℕ, suc, ◌+◌, ◌-◌, ◌≤◌, ◌⊎◌, inl, inr, List, [], ◌∷◌, length, refl, sym, ◌∙◌, ap, subst, arith}
use Rattle.ax_lines.proofs.LinedOnce.{next_once, line_within, lined_once}
use Rattle.ax_lines.specs.Lined.{LinedEnd, all_lines, NextLine, line, end, IsNextLine, Lined}
use Rattle.ax_lines.proofs.Begins.{lined_begins}
use Rattle.std.specs.List.{AllByRecursion}
use Rattle.ax_lines.specs.Commands.{LineCommand, LineAnswer, refused, IsAnswered, HasOneAnswer, output_of, results_of, AreAnswersFrom, AreAnswered}
use Rattle.ax_lines.specs.Completing.{IsDoneWith, Completes}
use Rattle.ax_lines.specs.Ending.{lines_end}
use Rattle.ax_lines.specs.Runs as RunOf
use Rattle.ax_lines.specs.Runs.{BeginsWith, EndsWithInput, EndsAtLine, LinesAnswer, ToldRun, IsCaused, LinesRun}
use Rattle.ax_lines.specs.declared.end.LinesEnd.{LinesEnd}
use Rattle.ax_lines.specs.declared.end.LinesEnd.TheVariants as EndOf
use Rattle.ax_endpoints.specs.Changes.{SourceChange, SinkChange}
use Rattle.ax_endpoints.specs.Told.{with_end, Rose}

later_number : (n k : ℕ) → n + 1 + k ≡ n + suc k
later_number n k = omega arith

none_more : (n : ℕ) → n ≡ n + 0
none_more n = omega arith

not_refused : {F : Type 0} (a : LineAnswer F) (fault : F) → a ≡ refused fault → IsAnswered a → ⊥
not_refused a fault is h = subst IsAnswered is h

module _ {F : Type 0} (c : LineCommand F) (once_only : HasOneAnswer c) (line_limit limit : ℕ) where
  -- what comes next at a place within the limit
  once : (before : ℕ) (octets : List ℕ) (part other : NextLine) → before ≤ limit → IsNextLine line_limit limit before octets part → IsNextLine line_limit limit before octets other → part ≡ other
  once before octets part other le h k = next_once line_limit limit before (limit - before) (omega arith) octets part other h k

  -- the line of that number at this place, if there is one, isn't answered
  abbrev pub HasNoMore : ℕ → ℕ → List ℕ → Type 0
  HasNoMore number past rest = (one after : List ℕ) (a : LineAnswer F) → IsNextLine line_limit limit past rest (line one after) → c number one a → IsAnswered a → ⊥

  no_more_at_end : (number past : ℕ) (rest : List ℕ) (e : LinedEnd) → past ≤ limit → IsNextLine line_limit limit past rest (end e) → HasNoMore number past rest
  no_more_at_end number past rest e le h one after a k is answered = absurd (let s : line one after ≡ end e = once past rest (line one after) (end e) le k h in cc)

  same_line : (one other after later : List ℕ) → line one after ≡ line other later → (one ≡ other) × (after ≡ later)
  same_line one other after later s = let a : one ≡ other = cc in let b : after ≡ later = cc in (a, b)

  no_more_at_refused : (number past : ℕ) (rest one after : List ℕ) (fault : F) → past ≤ limit → IsNextLine line_limit limit past rest (line one after) → c number one (refused fault) → HasNoMore number past rest
  no_more_at_refused number past rest one after fault le h is other later a k other_is answered =
      let s : line other later ≡ line one after = once past rest (line other later) (line one after) le k h in
      not_refused a fault (once_only number one a (refused fault) (subst (λ l. c number l a) (same_line other one later after s).0 other_is) is) answered

  -- where both go on as long as lines are answered, both are the same
  pub record IsSame (lines others : List (List ℕ)) (answers replies : List (LineAnswer F)) (past before : ℕ) (rest following : List ℕ) : Type 0 where
    pub lines_are : others ≡ lines
    pub answers_are : replies ≡ answers
    pub past_is : before ≡ past
    pub rest_is : following ≡ rest

  pub begins_within : (before : ℕ) (octets : List ℕ) (lines : List (List ℕ)) (past : ℕ) (rest : List ℕ) → before ≤ limit → BeginsWith line_limit limit before octets lines past rest → past ≤ limit
  begins_within before octets [] past rest le (at, same) = omega arith
  begins_within before octets (one ∷ lines) past rest le (after, taken, next, count, more) =
      begins_within (before + taken) after lines past rest (line_within line_limit limit before octets one after taken count next) more

  pub same_lines : (number before : ℕ) (octets : List ℕ) (lines others : List (List ℕ)) (answers replies : List (LineAnswer F)) (past past' : ℕ) (rest rest' : List ℕ) → before ≤ limit → BeginsWith line_limit limit before octets lines past rest → BeginsWith line_limit limit before octets others past' rest'
      → AreAnswersFrom c number lines answers → AllByRecursion IsAnswered answers → AreAnswersFrom c number others replies → AllByRecursion IsAnswered replies → HasNoMore (number + length lines) past rest → HasNoMore (number + length others) past' rest' → IsSame lines others answers replies past past' rest rest'
  same_lines number before octets [] others (a ∷ answers) replies past past' rest rest' le b b' e r e' r' none none' = absurd e
  same_lines number before octets lines [] answers (a' ∷ replies) past past' rest rest' le b b' e r e' r' none none' = absurd e'
  same_lines number before octets (one ∷ lines) others [] replies past past' rest rest' le b b' e r e' r' none none' = absurd e
  same_lines number before octets lines (other ∷ others) answers [] past past' rest rest' le b b' e r e' r' none none' = absurd e'
  same_lines number before octets [] [] [] [] past past' rest rest' le (at, same) (at', same') e r e' r' none none' = record { lines_are = refl; answers_are = refl; past_is = sym at' ∙ at; rest_is = sym same' ∙ same }
  same_lines number before octets [] (other ∷ others) [] (a' ∷ replies) past past' rest rest' le (at, same) (after, taken, next, count, more) e r e' r' none none' =
      absurd (none other after a' (subst (λ m. IsNextLine line_limit limit m rest (line other after)) at (subst (λ l. IsNextLine line_limit limit before l (line other after)) same next)) (subst (λ m. c m other a') (none_more number) e'.0) r'.0)
  same_lines number before octets (one ∷ lines) [] (a ∷ answers) [] past past' rest rest' le (after, taken, next, count, more) (at, same) e r e' r' none none' =
      absurd (none' one after a (subst (λ m. IsNextLine line_limit limit m rest' (line one after)) at (subst (λ l. IsNextLine line_limit limit before l (line one after)) same next)) (subst (λ m. c m one a) (none_more number) e.0) r.0)
  same_lines number before octets (one ∷ lines) (other ∷ others) (a ∷ answers) (a' ∷ replies) past past' rest rest' le (after, taken, next, count, more) (later, took, next', count', more') e r e' r' none none' =
      let s : line one after ≡ line other later = once before octets (line one after) (line other later) le next next' in
      let same = same_line one other after later s in
      let sizes : length after ≡ length later = ap length same.1 in
      let n : took ≡ taken = omega arith in
      let others_begin : BeginsWith line_limit limit (before + taken) after others past' rest'
      = subst (λ m. BeginsWith line_limit limit (before + m) after others past' rest') n (subst (λ l. BeginsWith line_limit limit (before + took) l others past' rest') (sym same.1) more') in
      let first : a' ≡ a = once_only number one a' a (subst (λ l. c number l a') (sym same.0) e'.0) e.0 in
      let t = same_lines (number + 1) (before + taken) after lines others answers replies past past' rest rest' (line_within line_limit limit before octets one after taken count next) more others_begin e.1 r.1 e'.1 r'.1
      (subst (λ m. HasNoMore m past rest) (sym (later_number number (length lines))) none) (subst (λ m. HasNoMore m past' rest') (sym (later_number number (length others))) none') in
      record { lines_are = (λ i. sym same.0 i ∷ t.lines_are i); answers_are = (λ i. first i ∷ t.answers_are i); past_is = t.past_is; rest_is = t.rest_is }

  -- ---- answers

  zero_before : (n : ℕ) → n ≡ 0 + n
  zero_before n = omega arith

  -- how an answer goes on after its lines
  record Stop (input : List ℕ) (lines : List (List ℕ)) (answers : List (LineAnswer F)) : Type 0 where
    pub past : ℕ
    pub rest : List ℕ
    pub begins : BeginsWith line_limit limit 0 input lines past rest
    pub answered : AreAnswered c lines answers
    pub none : HasNoMore (0 + length lines) past rest
    pub within : past ≤ limit

  stop_of_input : (input : List ℕ) (lines : List (List ℕ)) (answers : List (LineAnswer F)) (e : LinesEnd F) → EndsWithInput c line_limit limit input lines answers e → Stop input lines answers
  stop_of_input input lines answers e h =
      let b = lined_begins line_limit limit 0 input lines h.end h.lined in
      let within : b.past ≤ limit = begins_within 0 input lines b.past b.rest (omega arith) b.begins in
      record { past = b.past; rest = b.rest; begins = b.begins; answered = h.answered; none = no_more_at_end (0 + length lines) b.past b.rest h.end within b.ends; within = within }

  stop_at_line : (input : List ℕ) (lines : List (List ℕ)) (answers : List (LineAnswer F)) (e : LinesEnd F) → EndsAtLine c line_limit limit input lines answers e → Stop input lines answers
  stop_at_line input lines answers e h =
      let within : h.past ≤ limit = begins_within 0 input lines h.past h.rest (omega arith) h.front.begins in
      record {
        past = h.past;
        rest = h.rest;
        begins = h.front.begins;
        answered = h.front.answered;
        none = no_more_at_refused (0 + length lines) h.past h.rest h.one h.after h.fault within h.next (subst (λ n. c n h.one (refused h.fault)) (zero_before (length lines)) h.answer);
        within = within;
      }

  same_stop : (input : List ℕ) (lines others : List (List ℕ)) (answers replies : List (LineAnswer F)) (s : Stop input lines answers) (t : Stop input others replies) → IsSame lines others answers replies s.past t.past s.rest t.rest
  same_stop input lines others answers replies s t =
      same_lines 0 0 input lines others answers replies s.past t.past s.rest t.rest (omega arith) s.begins t.begins s.answered.each s.answered.none_refused t.answered.each t.answered.none_refused s.none t.none

  -- an end and a line don't come next at one place
  end_or_line : (past past' : ℕ) (rest rest' one after : List ℕ) (e : LinedEnd) → past ≤ limit → past' ≡ past → rest' ≡ rest → IsNextLine line_limit limit past rest (end e) → IsNextLine line_limit limit past' rest' (line one after) → ⊥
  end_or_line past past' rest rest' one after e le at same h k =
      let k' : IsNextLine line_limit limit past rest (line one after) = subst (λ m. IsNextLine line_limit limit m rest (line one after)) at (subst (λ l. IsNextLine line_limit limit past' l (line one after)) same k) in
      let s : end e ≡ line one after = once past rest (end e) (line one after) le h k' in
      absurd (cc)

  input_or_line : {Z : Type 0} (input : List ℕ) (lines others : List (List ℕ)) (answers replies : List (LineAnswer F)) (e d : LinesEnd F) → EndsWithInput c line_limit limit input lines answers e → EndsAtLine c line_limit limit input others replies d → Z
  unfolding stop_of_input stop_at_line
  input_or_line input lines others answers replies e d h k =
      let b = lined_begins line_limit limit 0 input lines h.end h.lined in
      let within : b.past ≤ limit = begins_within 0 input lines b.past b.rest (omega arith) b.begins in
      let same : IsSame lines others answers replies b.past k.past b.rest k.rest = same_stop input lines others answers replies (stop_of_input input lines answers e h) (stop_at_line input others replies d k) in
      absurd (end_or_line b.past k.past b.rest k.rest k.one k.after h.end within same.past_is same.rest_is b.ends k.next)

  same_fault : (fault other : F) → refused fault ≡ refused other → fault ≡ other
  same_fault fault other e = cc

  abbrev SameAnswer : List (List ℕ) → List (List ℕ) → List (LineAnswer F) → List (LineAnswer F) → LinesEnd F → LinesEnd F → Type 0
  SameAnswer lines others answers replies e d = (lines ≡ others) × (answers ≡ replies) × (e ≡ d)

  same_ends : (results results' lines lines' : ℕ) (e d : LinedEnd) → results ≡ results' → lines ≡ lines' → e ≡ d → lines_end {F = F} results lines e ≡ lines_end results' lines' d
  same_ends results results' lines lines' e d a b f = ap (λ n. lines_end n lines e) a ∙ ap (λ n. lines_end results' n e) b ∙ ap (λ x. lines_end results' lines' x) f

  inputs_once : (input : List ℕ) (lines others : List (List ℕ)) (answers replies : List (LineAnswer F)) (e d : LinesEnd F) → EndsWithInput c line_limit limit input lines answers e → EndsWithInput c line_limit limit input others replies d → SameAnswer lines others answers replies e d
  unfolding stop_of_input
  inputs_once input lines others answers replies e d h k =
      let ends : (lines ≡ others) × (h.end ≡ k.end) = lined_once line_limit limit 0 input lines others h.end k.end (omega arith) h.lined k.lined in
      let s = stop_of_input input lines answers e h in
      let t = stop_of_input input others replies d k in
      let same : IsSame lines others answers replies s.past t.past s.rest t.rest = same_stop input lines others answers replies s t in (
        ends.0,
        sym same.answers_are,
        h.is ∙ same_ends (results_of answers) (results_of replies) (length lines) (length others) h.end k.end (ap results_of (sym same.answers_are)) (ap length ends.0) ends.1 ∙ sym k.is,
      )

  lines_once : (input : List ℕ) (lines others : List (List ℕ)) (answers replies : List (LineAnswer F)) (e d : LinesEnd F) → EndsAtLine c line_limit limit input lines answers e → EndsAtLine c line_limit limit input others replies d → SameAnswer lines others answers replies e d
  unfolding stop_at_line
  lines_once input lines others answers replies e d h k =
      let within : h.past ≤ limit = begins_within 0 input lines h.past h.rest (omega arith) h.front.begins in
      let same : IsSame lines others answers replies h.past k.past h.rest k.rest = same_stop input lines others answers replies (stop_at_line input lines answers e h) (stop_at_line input others replies d k) in
      let k' : IsNextLine line_limit limit h.past h.rest (line k.one k.after)
      = subst (λ m. IsNextLine line_limit limit m h.rest (line k.one k.after)) same.past_is (subst (λ l. IsNextLine line_limit limit k.past l (line k.one k.after)) same.rest_is k.next) in
      let s : line h.one h.after ≡ line k.one k.after = once h.past h.rest (line h.one h.after) (line k.one k.after) within h.next k' in
      let one = (same_line h.one k.one h.after k.after s).0 in
      let other : c (length lines) h.one (refused k.fault) = subst (λ l. c (length lines) l (refused k.fault)) (sym one) (subst (λ l. c (length l) k.one (refused k.fault)) same.lines_are k.answer) in
      let faults : h.fault ≡ k.fault = same_fault h.fault k.fault (once_only (length lines) h.one (refused h.fault) (refused k.fault) h.answer other) in (
        sym same.lines_are,
        sym same.answers_are,
        h.is ∙ ap (λ l. EndOf.Refused (length l) h.fault) (sym same.lines_are) ∙ ap (λ f. EndOf.Refused (length others) f) faults ∙ sym k.is,
      )

  pub answers_once : (input : List ℕ) (lines others : List (List ℕ)) (answers replies : List (LineAnswer F)) (e d : LinesEnd F) → LinesAnswer c line_limit limit input lines answers e → LinesAnswer c line_limit limit input others replies d → (lines ≡ others) × (answers ≡ replies) × (e ≡ d)
  answers_once input lines others answers replies e d (inl h) (inl k) = inputs_once input lines others answers replies e d h k
  answers_once input lines others answers replies e d (inl h) (inr k) = input_or_line input lines others answers replies e d h k
  answers_once input lines others answers replies e d (inr h) (inl k) = input_or_line input others lines replies answers d e k h
  answers_once input lines others answers replies e d (inr h) (inr k) = lines_once input lines others answers replies e d h k

  -- ---- where nothing stands in the way

  module _ (input : List ℕ) (lines : List (List ℕ)) (answers : List (LineAnswer F)) (lined : Lined line_limit limit 0 input lines all_lines) (answered : AreAnswered c lines answers) (i : SourceChange) (o : SinkChange) (e : LinesEnd F) (caused : IsCaused limit i o e)
      (source : Rose i.faults i.faults' → ⊥) (out : Rose o.faults o.faults' → ⊥) where
    told_completes : ToldRun c line_limit limit input i.left' o e → (e ≡ EndOf.OutOfMemory) ⊎ IsDoneWith answers o e
    told_completes (inl a) =
        let whole : LinesAnswer c line_limit limit input lines answers (EndOf.Done (results_of answers)) = inl (record { end = all_lines; lined = lined; answered = answered; is = refl }) in
        let same : SameAnswer a.lines lines a.answers answers e (EndOf.Done (results_of answers)) = answers_once input a.lines lines a.answers answers e (EndOf.Done (results_of answers)) a.ends whole in
        inr (record { done = same.2; out = a.out ∙ ap (λ l. with_end o.held (output_of l)) same.1 })
    told_completes (inr (RunOf.reading is s)) = absurd (source (subst (IsCaused limit i o) is caused))
    told_completes (inr (RunOf.writing is s)) = absurd (out (subst (IsCaused limit i o) is caused))
    told_completes (inr (RunOf.for_memory is s)) = inl is

pub lines_complete : {F : Type 0} (c : LineCommand F) (line_limit limit m n : ℕ) (i : SourceChange) (o : SinkChange) (e : LinesEnd F) → m ≡ line_limit → n ≡ limit → LinesRun c m n i o e → Completes c line_limit limit i o e
lines_complete c line_limit limit m n i o e line_is is run' once_only input lines answers left lined answered source out =
    let run : LinesRun c line_limit limit i o e = subst (λ k. LinesRun c line_limit k i o e) is (subst (λ k. LinesRun c k n i o e) line_is run') in
    told_completes c once_only line_limit limit input lines answers lined answered i o e run.caused source out (run.told input left)
