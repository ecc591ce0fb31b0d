-- What an input has at its front once lines of it were taken: one line more, or where the run over it ends.
use Rattle.std.proofs.Common.{◌≡◌, ℕ, suc, ◌+◌, ◌-◌, ◌<◌, ◌≤◌, List, [], ◌∷◌, ◌++◌, Option, Some, None, length, refl, sym, ◌∙◌, ap, subst, arith, append_assoc, length-append, inl, inr}
use Rattle.ax_lines.specs.Lined.{LinedEnd, end, IsNextLine, IsJustNextLine}
use Rattle.ax_lines.specs.Reader.{ReaderState, IsOpen, OnTold, ShowsLine, read_ahead, ahead, IsToldLine, GivesLine, FindsEnd, StopsInLine}
use Rattle.ax_lines.specs.declared.reader.EndedLines.{EndedLines}
use Rattle.ax_lines.specs.declared.reader.EndedLines.TheVariants.{EndOfInput}
use Rattle.ax_lines.proofs.Begins.{begins_snoc, begins_end, left_of_ahead, IsPartOf, part_of_taken, left_of_part, none_left}
use Rattle.ax_lines.proofs.Results.{output_snoc, results_snoc, feeds_snoc, answered_snoc, length_snoc}
use Rattle.ax_endpoints.proofs.Gains.{both, gains_both, gains_on, gains_part}
use Rattle.ax_lines.specs.Commands.{LineCommand, LineAnswer, gives, refused, octets_in, results_in, output_of, results_of}
use Rattle.ax_lines.specs.Ending.{lines_end}
use Rattle.ax_lines.specs.Runs as RunOf
use Rattle.ax_lines.specs.Runs.{BeginsWith, AnswersLines, IsLeftOf, IsLeftAfter, with_feeds, LinesStop, ToldRun, IsCaused, IsLicensed, CountsOnly, LinesRun}
use Rattle.ax_lines.specs.Standing.{StandsAfter}
use Rattle.ax_lines.specs.Taking.{IsWritten, EndsAt, refusing, writing, for_memory}
use Rattle.ax_lines.specs.declared.end.LinesEnd.{LinesEnd}
use Rattle.ax_lines.specs.declared.end.LinesEnd.TheVariants as EndOf
use Rattle.ax_endpoints.specs.Changes.{SourceChange, SinkChange, Gains}
use Rattle.ax_endpoints.specs.Told.{with_front, with_end, IsAtEnd}

-- the input began with lines that are answered, whose results were written; `following` are the octets that aren't given yet.
-- Where the reader goes on each line has its line feed
pub record SoFar {F : Type 0} (c : LineCommand F) (line_limit limit : ℕ) (input : List ℕ) (following : Option (List ℕ)) (ended : Option EndedLines) (o : SinkChange) (given number count : ℕ) : Type 0 where
  pub lines : List (List ℕ)
  pub answers : List (LineAnswer F)
  pub rest : List ℕ
  pub following_is : following ≡ Some rest
  pub front : AnswersLines c line_limit limit input lines answers given rest
  pub out : Gains o (output_of answers)
  pub numbered : number ≡ length lines
  pub counted : count ≡ results_of answers
  pub fed : ended ≡ None → input ≡ with_feeds lines ++ rest

-- no line so far
pub nothing_so_far : {F : Type 0} (c : LineCommand F) (line_limit limit : ℕ) (input held : List ℕ) (left : Option (List ℕ)) (ended : Option EndedLines) (o : SinkChange) (given : ℕ) → held ≡ [] → left ≡ Some input → given ≡ 0 → Gains o [] → SoFar c line_limit limit input (ahead held left) ended o given 0 0
nothing_so_far c line_limit limit input held left ended o given none l z out = record {
  lines = [];
  answers = [];
  rest = input;
  following_is = ap (λ h. with_front h left) none ∙ ap (with_front []) l;
  front = record { begins = (sym z, refl); answered = record { each = tt; none_refused = tt } };
  out = out;
  numbered = refl;
  counted = refl;
  fed = λ open_. refl;
}

-- memory was wanting before the first line
pub no_memory : {F : Type 0} (c : LineCommand F) (line_limit limit : ℕ) (input : List ℕ) (left : Option (List ℕ)) (o : SinkChange) → left ≡ Some input → Gains o [] → ToldRun c line_limit limit input left o EndOf.OutOfMemory
no_memory c line_limit limit input left o l out = inr (RunOf.for_memory refl (record {
  lines = [];
  answers = [];
  past = 0;
  rest = input;
  front = record { begins = (refl, refl); answered = record { each = tt; none_refused = tt } };
  next = RunOf.nothing_taken refl l;
  out = out;
}))

told_at : (P : List ℕ → Type 0) (t : Option (List ℕ)) (x : List ℕ) → t ≡ Some x → OnTold t P → P x
told_at P t x e h = subst (λ l. OnTold l P) e h

-- a line takes an octet at least
pub shown_longer : (line_limit limit given : ℕ) (octets one after : List ℕ) (left : Option (List ℕ)) (ended : Option EndedLines) → ShowsLine line_limit limit given octets left one after ended → length after < length octets
shown_longer line_limit limit given octets one after left ended (inl (h, open_)) = let e : length octets ≡ length one + suc (length after) = ap length h.split ∙ length-append one (10 ∷ after) in omega arith
shown_longer line_limit limit given octets one after left ended (inr (h, at_end, is)) =
    let e : length octets ≡ length one = ap length h.split in let f : length after ≡ 0 = ap length h.none_following in let g : 0 < length one = h.some in omega arith

-- a line after which the reader goes on has its line feed
shown_fed : (line_limit limit given : ℕ) (octets one after : List ℕ) (left : Option (List ℕ)) (ended : Option EndedLines) → ended ≡ None → ShowsLine line_limit limit given octets left one after ended → octets ≡ one ++ (10 ∷ after)
shown_fed line_limit limit given octets one after left ended none (inl (h, open_)) = h.split
shown_fed line_limit limit given octets one after left ended none (inr (h, at_end, is)) = absurd (let e : ◌≡◌ {A = Option EndedLines} None (Some EndOfInput) = sym none ∙ is in cc)

-- a line with its line feed leaves the reader open
fed_open : (line_limit limit given : ℕ) (octets rest later one after held : List ℕ) (left : Option (List ℕ)) (ended : Option EndedLines) → rest ≡ octets ++ later → left ≡ Some later → rest ≡ one ++ (10 ∷ after)
    → ShowsLine line_limit limit given octets left one held ended → ended ≡ None
fed_open line_limit limit given octets rest later one after held left ended split is fed (inl (h, open_)) = open_
fed_open line_limit limit given octets rest later one after held left ended split is fed (inr (h, at_end, e)) =
    let none : later ≡ [] = subst IsAtEnd is at_end in
    let a : length rest ≡ length octets + length later = ap length split ∙ length-append octets later in
    let b : length rest ≡ length one + suc (length after) = ap length fed ∙ length-append one (10 ∷ after) in
    let d : length octets ≡ length one = ap length h.split in
    let n : length later ≡ 0 = ap length none in
    absurd (omega arith)

-- ---- what stands at the front, and an answer of the reader

module _ {F : Type 0} (c : LineCommand F) (line_limit limit : ℕ) (input : List ℕ) (o : SinkChange) (reader : ReaderState) (number count : ℕ) (line_limit_is : reader.line_limit ≡ line_limit) (limit_is : reader.limit ≡ limit) (j : SourceChange)
    (s : SoFar c line_limit limit input (ahead reader.buffered j.left) reader.ended o reader.given number count) where
  -- ---- the lines end

  module _ (e : LinedEnd) (f : FindsEnd reader.line_limit reader.limit reader.given reader.buffered j e) where
    ends_told : IsNextLine line_limit limit reader.given s.rest (end e)
    ends_told =
        let next : IsNextLine reader.line_limit reader.limit reader.given s.rest (end e)
        = (told_at (λ before. IsJustNextLine reader.line_limit reader.limit reader.given before (end e)) (ahead reader.buffered j.left) s.rest s.following_is f.told).is in
        subst (λ m. IsNextLine line_limit m reader.given s.rest (end e)) limit_is (subst (λ m. IsNextLine m reader.limit reader.given s.rest (end e)) line_limit_is next)

    near : length (reader.buffered ++ f.taken) ≤ line_limit + read_ahead
    near = let a : length (reader.buffered ++ f.taken) ≤ reader.line_limit + read_ahead = f.room in let b : reader.line_limit ≡ line_limit = line_limit_is in omega arith

    left_told : IsLeftOf (line_limit + read_ahead) s.rest j.left'
    left_told = left_of_part (line_limit + read_ahead) s.rest (reader.buffered ++ f.taken) j.left' near (part_of_taken reader.buffered f.taken s.rest j.left j.left' s.following_is f.took.gives)

    pub ended : (result : LinesEnd F) → result ≡ lines_end count number e → ((n : ℕ) → result ≡ EndOf.Done n → IsAtEnd j.left') → ToldRun c line_limit limit input j.left' o result
    ended result is at_end =
        inl (record {
          lines = s.lines;
          answers = s.answers;
          ends = inl (record {
            end = e;
            lined = begins_end line_limit limit 0 input s.lines reader.given s.rest e s.front.begins ends_told;
            answered = s.front.answered;
            is = is ∙ ap (λ n. lines_end n number e) s.counted ∙ ap (λ n. lines_end (results_of s.answers) n e) s.numbered;
          });
          out = s.out;
          read = λ n done. none_left (line_limit + read_ahead) s.rest j.left' left_told (at_end n done);
          left = record { past = reader.given; rest = s.rest; begins = s.front.begins; left = left_told };
        })

  -- a read failed
  pub reading_told : IsOpen reader → StopsInLine reader.line_limit reader.limit reader.given reader.buffered j → ToldRun c line_limit limit input j.left' o EndOf.ReadFault
  reading_told opened f =
      let part : IsPartOf s.rest (reader.buffered ++ f.taken) j.left' = part_of_taken reader.buffered f.taken s.rest j.left j.left' s.following_is f.took.gives in
      let front : AnswersLines c line_limit limit input s.lines s.answers reader.given ((reader.buffered ++ f.taken) ++ part.after) = subst (AnswersLines c line_limit limit input s.lines s.answers reader.given) part.split s.front in
      inr (RunOf.reading refl (record {
        lines = s.lines;
        answers = s.answers;
        past = reader.given;
        part = reader.buffered ++ f.taken;
        rest = part.after;
        front = front;
        fed = s.fed opened ∙ ap (λ x. with_feeds s.lines ++ x) part.split;
        plain = f.plain;
        short = (let a : length (reader.buffered ++ f.taken) ≤ reader.line_limit = f.short in let b : reader.line_limit ≡ line_limit = line_limit_is in omega arith);
        within = (let a : reader.given + length (reader.buffered ++ f.taken) ≤ reader.limit = f.within in let b : reader.limit ≡ limit = limit_is in omega arith);
        left = part.left_is;
        out = s.out;
      }))

  -- ---- a line is given

  module _ (given' : ℕ) (held' : List ℕ) (ended' : Option EndedLines) (one : List ℕ) (g : GivesLine reader.line_limit reader.limit reader.given reader.buffered j given' held' ended' one) where
    -- it comes next, and what is after it is told
    told_line : IsToldLine line_limit limit reader.given s.rest (ahead held' j.left') one
    told_line =
        let next : IsToldLine reader.line_limit reader.limit reader.given s.rest (ahead held' j.left') one
        = told_at (λ before. IsToldLine reader.line_limit reader.limit reader.given before (ahead held' j.left') one) (ahead reader.buffered j.left) s.rest s.following_is g.told in
        subst (λ m. IsToldLine line_limit m reader.given s.rest (ahead held' j.left') one) limit_is (subst (λ m. IsToldLine m reader.limit reader.given s.rest (ahead held' j.left') one) line_limit_is next)

    pub fewer : length held' < length (reader.buffered ++ g.taken)
    fewer = shown_longer reader.line_limit reader.limit reader.given (reader.buffered ++ g.taken) one held' j.left' ended' g.shows

    left_following : IsLeftOf (line_limit + read_ahead) told_line.after j.left'
    left_following =
        let few : length held' < length (reader.buffered ++ g.taken) = fewer in
        let room : length (reader.buffered ++ g.taken) ≤ reader.line_limit + read_ahead = g.room in
        let b : reader.line_limit ≡ line_limit = line_limit_is in
        left_of_ahead (line_limit + read_ahead) held' told_line.after j.left' (omega arith) told_line.following_is

    -- all that was taken past the lines before it
    part_taken : IsPartOf s.rest (reader.buffered ++ g.taken) j.left'
    part_taken = part_of_taken reader.buffered g.taken s.rest j.left j.left' s.following_is g.took.gives

    left_before : IsLeftAfter line_limit limit input s.lines j.left'
    left_before =
        let room : length (reader.buffered ++ g.taken) ≤ reader.line_limit + read_ahead = g.room in
        let b : reader.line_limit ≡ line_limit = line_limit_is in
        record {
          past = reader.given;
          rest = s.rest;
          begins = s.front.begins;
          left = left_of_part (line_limit + read_ahead) s.rest (reader.buffered ++ g.taken) j.left' (omega arith) part_taken;
        }

    pub longer : reader.given < given'
    longer =
        let more : length held' < length (reader.buffered ++ g.taken) = fewer in
        let counts : given' + length held' ≡ reader.given + length (reader.buffered ++ g.taken) = g.counts in
        omega arith

    -- what is after it
    following_held : told_line.after ≡ held' ++ part_taken.after
    following_held =
        let e : ◌≡◌ {A = Option (List ℕ)} (Some (held' ++ part_taken.after)) (Some told_line.after) = sym (ap (with_front held') part_taken.left_is) ∙ told_line.following_is in
        cc

    -- its line feed, where the reader goes on after it
    feed_following : ended' ≡ None → s.rest ≡ one ++ (10 ∷ told_line.after)
    feed_following open_ =
        let front : reader.buffered ++ g.taken ≡ one ++ (10 ∷ held') = shown_fed reader.line_limit reader.limit reader.given (reader.buffered ++ g.taken) one held' j.left' ended' open_ g.shows in
        part_taken.split ∙ ap (λ x. x ++ part_taken.after) front ∙ append_assoc one (10 ∷ held') part_taken.after ∙ ap (λ x. one ++ (10 ∷ x)) (sym following_held)

    -- where the reader stands then
    pub stands_after : (reader' : ReaderState) → reader'.buffered ≡ held' → reader'.ended ≡ ended' → StandsAfter line_limit limit input j.left' reader' number
    stands_after reader' held ended_is =
        record {
          lines = s.lines;
          past = reader.given;
          rest = s.rest;
          begins = s.front.begins;
          numbered = s.numbered;
          one = one;
          after = told_line.after;
          next = told_line.just.is;
          held = ap (λ h. ahead h j.left') held ∙ told_line.following_is;
          open_ = λ h. ended_is ∙ fed_open reader.line_limit reader.limit reader.given (reader.buffered ++ g.taken) s.rest part_taken.after one told_line.after held' j.left' ended' part_taken.split part_taken.left_is h.split g.shows;
        }

    -- so many octets it takes
    taken_by : length s.rest ≡ (given' - reader.given) + length told_line.after
    taken_by =
        let part : IsPartOf s.rest (reader.buffered ++ g.taken) j.left' = part_taken in
        let all : length s.rest ≡ length (reader.buffered ++ g.taken) + length part.after = ap length part.split ∙ length-append (reader.buffered ++ g.taken) part.after in
        let following : told_line.after ≡ held' ++ part.after = following_held in
        let rest : length told_line.after ≡ length held' + length part.after = ap length following ∙ length-append held' part.after in
        let counts : given' + length held' ≡ reader.given + length (reader.buffered ++ g.taken) = g.counts in
        let more : reader.given < given' = longer in
        omega arith

    module _ (k : SinkChange) (writes : k.held ≡ o.held') where
      -- the run ends at it
      pub stops_told : (e : LinesEnd F) → EndsAt c number one k e → ToldRun c line_limit limit input j.left' (both o k) e
      stops_told e (refusing fault is answer kept quiet) =
          inl (record {
            lines = s.lines;
            answers = s.answers;
            ends = inr (record {
              past = reader.given;
              rest = s.rest;
              front = s.front;
              one = one;
              after = told_line.after;
              next = told_line.just.is;
              fault = fault;
              answer = subst (λ n. c n one (refused fault)) s.numbered answer;
              is = is ∙ ap (λ n. EndOf.Refused n fault) s.numbered;
            });
            out = gains_on o k (output_of s.answers) writes s.out kept;
            read = λ n done. absurd (let x : EndOf.Refused number fault ≡ EndOf.Done n = sym is ∙ done in cc);
            left = left_before;
          })
      stops_told e (writing laid is answer part once) =
          inr (RunOf.writing is (record {
            lines = s.lines;
            answers = s.answers;
            past = reader.given;
            rest = s.rest;
            front = s.front;
            one = one;
            after = told_line.after;
            next = told_line.just.is;
            laid = laid;
            answer = subst (λ n. c n one (gives laid)) s.numbered answer;
            left = left_following;
            out = gains_part o k (output_of s.answers) laid writes s.out part;
          }))
      stops_told e (for_memory is kept quiet) =
          inr (RunOf.for_memory is (record {
            lines = s.lines;
            answers = s.answers;
            past = reader.given;
            rest = s.rest;
            front = s.front;
            next = RunOf.one_taken one told_line.after told_line.just.is left_following;
            out = gains_on o k (output_of s.answers) writes s.out kept;
          }))

      -- its result was written
      pub line_more : (results : ℕ) → IsOpen reader → IsWritten c number one k results → SoFar c line_limit limit input (ahead held' j.left') ended' (both o k) given' (number + 1) (count + results)
      line_more results opened w =
          let more : reader.given < given' = longer in
          let past : reader.given + (given' - reader.given) ≡ given' = omega arith in
          let begins : BeginsWith line_limit limit 0 input (s.lines ++ (one ∷ [])) (reader.given + (given' - reader.given)) told_line.after
          = begins_snoc line_limit limit 0 input s.lines reader.given s.rest one told_line.after (given' - reader.given) s.front.begins told_line.just.is taken_by in
          let results_now : results_of (s.answers ++ (w.answer ∷ [])) ≡ results_of s.answers + results_in w.answer = results_snoc s.answers w.answer in
          let size : length (s.lines ++ (one ∷ [])) ≡ length s.lines + 1 = length_snoc s.lines one in
          let numbered : number ≡ length s.lines = s.numbered in
          let counted_so : count ≡ results_of s.answers = s.counted in
          let counted_now : results ≡ results_in w.answer = w.counted in
          record {
            lines = s.lines ++ (one ∷ []);
            answers = s.answers ++ (w.answer ∷ []);
            rest = told_line.after;
            following_is = told_line.following_is;
            front = record {
              begins = subst (λ n. BeginsWith line_limit limit 0 input (s.lines ++ (one ∷ [])) n told_line.after) past begins;
              answered = answered_snoc c s.lines s.answers one w.answer s.front.answered (subst (λ n. c n one w.answer) s.numbered w.is) w.answered;
            };
            out = gains_both o k (output_of s.answers) (octets_in w.answer) writes s.out w.gained ∙ ap (with_end o.held) (sym (output_snoc s.answers w.answer));
            numbered = omega arith;
            counted = omega arith;
            fed = λ open_. feeds_snoc input s.lines one s.rest told_line.after (s.fed opened) (feed_following open_);
          }
