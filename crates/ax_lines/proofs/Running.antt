-- What holds after each line of an input, and where the run over it stops.
use Rattle.std.proofs.Common.{Err, IfSome, List, None, Ok, Option, Result, Some, [], ap, arith, inl, inr, length, length-append, refl, subst, sym, ℕ, ◌++◌, ◌+◌, ◌-◌, ◌<◌, ◌∙◌, ◌≡◌, ◌≤◌, ◌⊎◌}
use Rattle.std.specs.Borrow.{Bor}
use Rattle.ax_lines.specs.Lined.{LinedEnd, all_lines, end, input_too_long, line_too_long}
use Rattle.ax_lines.specs.Reader.{FindsEnd, GivesLine, IsAfter, IsOpen, OnEnd, OnReadFault, OnTooLong, ReaderState, ShowsLine, StopsInLine, UnlessReadFault, ahead, ended_by, line_read}
use Rattle.ax_lines.proofs.LinedOnce.{next_once}
use Rattle.ax_lines.specs.declared.reader.EndedLines.{EndedLines}
use Rattle.ax_lines.specs.declared.reader.EndedLines.TheVariants.{EndOfInput, Refused as RefusedBy}
use Rattle.ax_lines.specs.declared.line_error.LineError.{LineError}
use Rattle.ax_lines.specs.declared.line_error.LineError.TheVariants.{InputTooLong, LineTooLong, ReadFault}
use Rattle.ax_endpoints.proofs.Gains.{both, gains_none}
use Rattle.ax_lines.specs.Commands.{KeepsTo, LineAnswer, LineCommand, gives, nothing, refused, results_in}
use Rattle.ax_lines.specs.Ending.{error_end, lines_end}
use Rattle.ax_lines.specs.Runs.{CountsOnly, IsCaused, IsLicensed, LinesRun, RunsOverTaken, ToldRun}
use Rattle.ax_lines.specs.Standing.{StandsAfter}
use Rattle.ax_lines.specs.Taking.{EndsAt, IsWritten, for_memory, refusing, writing}
use Rattle.ax_lines.specs.declared.end.LinesEnd.{LinesEnd}
use Rattle.ax_lines.specs.declared.end.LinesEnd.TheVariants as EndOf
use Rattle.ax_endpoints.proofs.Ends.{Rose-later}
use Rattle.ax_endpoints.specs.Changes.{SinkChange, SourceChange, source_change}
use Rattle.ax_endpoints.specs.declared.sources.Source as SourceOf
use Rattle.ax_endpoints.specs.Told.{IsAtEnd, Rose}
use Rattle.ax_lines.proofs.FrontLines.{SoFar, ended, line_more, no_memory, nothing_so_far, reading_told, shown_longer, stands_after, stops_told}
use Rattle.ax_lines.proofs.TakenLines.{TakenSoFar, done_over, failed_over, nothing_taken, refused_over, stopped_over, taken_more, took_nothing}

-- the reader gave the last line: the source has ended, and it holds nothing
pub record HasEnded (reader : ReaderState) (left : Option (List ℕ)) : Type 0 where
  pub ended : reader.ended ≡ Some EndOfInput
  pub none_held : reader.buffered ≡ []
  pub at_end : IsAtEnd left

-- the invariant of the loop
pub record Running {F : Type 0} (c : LineCommand F) (line_limit limit : ℕ) (i : SourceChange) (o : SinkChange) (now : LineCommand F) (reader : ReaderState) (number count : ℕ) (Sound : Type 0) : Type 0 where
  pub same : KeepsTo c now
  pub sound : Sound
  pub line_limit_is : reader.line_limit ≡ line_limit
  pub limit_is : reader.limit ≡ limit
  pub going : IsOpen reader ⊎ HasEnded reader i.left'
  pub within : reader.given ≤ limit
  pub few : number ≤ reader.given
  pub fewer : count ≤ number
  pub took : i.taken' ≡ i.taken + (reader.given + length reader.buffered)
  pub source_later : i.faults ≤ i.faults'
  pub out_later : o.faults ≤ o.faults'
  pub source_quiet : i.faults' ≡ i.faults
  pub out_quiet : o.faults' ≡ o.faults
  pub told : (input : List ℕ) → i.left ≡ Some input → SoFar c line_limit limit input (ahead reader.buffered i.left') reader.ended o reader.given number count
  pub taken : TakenSoFar c line_limit limit i reader.buffered reader.ended o reader.given number count

-- a read, and one more after it
abbrev pub read_on : SourceChange → SourceChange → SourceChange
read_on i j = record { left = i.left; left' = j.left'; taken = i.taken; taken' = j.taken'; faults = i.faults; faults' = j.faults' }

pub record Joins (i j : SourceChange) : Type 0 where
  pub left : j.left ≡ i.left'
  pub taken : j.taken ≡ i.taken'
  pub faults : j.faults ≡ i.faults'

-- how the reader goes on after a line
shown_going : (line_limit limit given : ℕ) (octets one after : List ℕ) (left : Option (List ℕ)) (ended : Option EndedLines) (reader : ReaderState) → reader.ended ≡ ended → reader.buffered ≡ after → ShowsLine line_limit limit given octets left one after ended
    → IsOpen reader ⊎ HasEnded reader left
shown_going line_limit limit given octets one after left ended reader is held (inl (h, open_)) = inl (is ∙ open_)
shown_going line_limit limit given octets one after left ended reader is held (inr (h, at_end, e)) = inr (record { ended = is ∙ e; none_held = held ∙ h.none_following; at_end = at_end })

results_at_most : {F : Type 0} (a : LineAnswer F) → results_in a ≤ 1
results_at_most (gives octets) = omega arith
results_at_most nothing = omega arith
results_at_most (refused fault) = omega arith

at_most : {F : Type 0} (a : LineAnswer F) (results : ℕ) → results ≡ results_in a → results ≤ 1
at_most a results is = let e : results_in a ≤ 1 = results_at_most a in omega arith

-- ---- a command that another keeps to

ends_of_kept : {F : Type 0} (c now : LineCommand F) (number : ℕ) (one : List ℕ) (s : SinkChange) (e : LinesEnd F) → KeepsTo c now → EndsAt now number one s e → EndsAt c number one s e
ends_of_kept c now number one s e kept (refusing fault is answer k quiet) = refusing fault is (kept number one (refused fault) answer) k quiet
ends_of_kept c now number one s e kept (writing laid is answer part once) = writing laid is (kept number one (gives laid) answer) part once
ends_of_kept c now number one s e kept (for_memory is k quiet) = for_memory is k quiet

written_of_kept : {F : Type 0} (c now : LineCommand F) (number : ℕ) (one : List ℕ) (s : SinkChange) (results : ℕ) → KeepsTo c now → IsWritten now number one s results → IsWritten c number one s results
written_of_kept c now number one s results kept w = record { answer = w.answer; is = kept number one w.answer w.is; answered = w.answered; gained = w.gained; counted = w.counted; quiet = w.quiet }

-- ---- the beginning

pub running_begins : {F : Type 0} (c : LineCommand F) (left held : Option (List ℕ)) (taken faults fails : ℕ) (reader : ReaderState) (Sound : Type 0) → Sound
    → reader ≡ record { line_limit = reader.line_limit; limit = reader.limit; given = 0; buffered = []; ended = None }
    → Running c reader.line_limit reader.limit (record { left = left; left' = left; taken = taken; taken' = taken; faults = faults; faults' = faults }) (record { held = held; held' = held; faults = fails; faults' = fails }) c reader 0 0 Sound
running_begins c left held taken faults fails reader Sound sound e =
    let z : reader.given ≡ 0 = ap (λ x. x.given) e in
    let none : reader.buffered ≡ [] = ap (λ x. x.buffered) e in
    let size : length reader.buffered ≡ 0 = ap length none in
    record {
      same = λ n octets a h. h;
      sound = sound;
      line_limit_is = refl;
      limit_is = refl;
      going = inl (ap (λ x. x.ended) e);
      within = omega arith;
      few = omega arith;
      fewer = omega arith;
      took = omega arith;
      source_later = omega arith;
      out_later = omega arith;
      source_quiet = refl;
      out_quiet = refl;
      told = λ input l. nothing_so_far c reader.line_limit reader.limit input reader.buffered left reader.ended _ reader.given none l z (gains_none held fails fails);
      taken = nothing_taken c reader.line_limit reader.limit left taken faults reader.buffered reader.ended _ reader.given none z (gains_none held fails fails);
    }

module _ {F : Type 0} (c : LineCommand F) (line_limit limit : ℕ) (i : SourceChange) (o : SinkChange) (now : LineCommand F) (reader : ReaderState) (number count : ℕ) (Sound : Type 0) (run : Running c line_limit limit i o now reader number count Sound)
    (j : SourceChange) (joins : Joins i j) (never_falls : j.faults ≤ j.faults') where
  still_later : i.faults ≤ j.faults'
  still_later = let a : i.faults ≤ i.faults' = run.source_later in let b : j.faults ≡ i.faults' = joins.faults in omega arith

  -- the lines given before
  front : (input : List ℕ) → i.left ≡ Some input → SoFar c line_limit limit input (ahead reader.buffered j.left) reader.ended o reader.given number count
  front input l = subst (λ h. SoFar c line_limit limit input (ahead reader.buffered h) reader.ended o reader.given number count) (sym joins.left) (run.told input l)

  within : reader.given ≤ reader.limit
  within = let a : reader.given ≤ limit = run.within in let b : reader.limit ≡ limit = run.limit_is in omega arith

  -- ---- the lines end

  ended_told : (e : LinedEnd) → FindsEnd reader.line_limit reader.limit reader.given reader.buffered j e → (result : LinesEnd F) → result ≡ lines_end count number e → ((n : ℕ) → result ≡ EndOf.Done n → IsAtEnd j.left') → (input : List ℕ) → i.left ≡ Some input → ToldRun c line_limit limit input j.left' o result
  ended_told e f result is at_end input l = ended c line_limit limit input o reader number count run.line_limit_is run.limit_is j (front input l) e f result is at_end

  ended_taken : IsOpen reader → (e : LinedEnd) → FindsEnd reader.line_limit reader.limit reader.given reader.buffered j e → (result : LinesEnd F) → result ≡ lines_end count number e → RunsOverTaken c line_limit limit (read_on i j) o result
  ended_taken opened e f result is = refused_over c line_limit limit i o reader number count run.line_limit_is run.limit_is within run.taken j joins.left joins.taken opened e f result is

  pub run_done : j.faults' ≡ j.faults → FindsEnd reader.line_limit reader.limit reader.given reader.buffered j all_lines → LinesRun c line_limit limit (read_on i j) o (EndOf.Done count)
  run_done quiet f = record {
    told = ended_told all_lines f (EndOf.Done count) refl (λ n done. f.shows.1);
    over_taken = done_over c line_limit limit i o reader number count run.line_limit_is run.limit_is within run.taken j joins.left joins.taken f;
    caused = tt;
    licensed = tt;
    counts = (quiet ∙ joins.faults ∙ run.source_quiet, run.out_quiet);
    source_later = still_later;
    out_later = run.out_later;
  }

  -- the reader's refusal
  pub run_refused : (error : LineError) → IsOpen reader → OnEnd {A = List ℕ} (Err error) (FindsEnd reader.line_limit reader.limit reader.given reader.buffered j) → OnReadFault {A = List ℕ} (Err error) (StopsInLine reader.line_limit reader.limit reader.given reader.buffered j)
      → OnTooLong {A = List ℕ} (Err error) (reader.limit + j.taken < reader.given + length reader.buffered + j.taken') → OnReadFault {A = List ℕ} (Err error) (Rose j.faults j.faults') → j.faults' ≤ j.faults + 1
      → UnlessReadFault {A = Option (List ℕ)} (Err error) (j.faults' ≡ j.faults) → LinesRun c line_limit limit (read_on i j) o (error_end number error)
  run_refused InputTooLong opened f stops past rose once quiet = record {
    told = ended_told input_too_long f EndOf.InputTooLong refl (λ n done. absurd (cc));
    over_taken = ended_taken opened input_too_long f EndOf.InputTooLong refl;
    caused = (let a : i.taken' ≡ i.taken + (reader.given + length reader.buffered) = run.took in let b : j.taken ≡ i.taken' = joins.taken in let d : reader.limit ≡ limit = run.limit_is in omega arith);
    licensed = tt;
    counts = (quiet ∙ joins.faults ∙ run.source_quiet, run.out_quiet);
    source_later = still_later;
    out_later = run.out_later;
  }
  run_refused LineTooLong opened f stops past rose once quiet = record {
    told = ended_told line_too_long f (EndOf.LineTooLong number) refl (λ n done. absurd (cc));
    over_taken = ended_taken opened line_too_long f (EndOf.LineTooLong number) refl;
    caused = tt;
    licensed = tt;
    counts = (quiet ∙ joins.faults ∙ run.source_quiet, run.out_quiet);
    source_later = still_later;
    out_later = run.out_later;
  }
  run_refused ReadFault opened f stops past rose once quiet = record {
    told = λ input l. reading_told c line_limit limit input o reader number count run.line_limit_is run.limit_is j (front input l) opened stops;
    over_taken = failed_over c line_limit limit i o reader number count run.line_limit_is run.limit_is within run.taken j joins.left joins.taken opened stops;
    caused = Rose-later run.source_later (subst (λ n. Rose n j.faults') joins.faults rose);
    licensed = tt;
    counts = (omega (arith, once, joins.faults, run.source_quiet), run.out_quiet);
    source_later = still_later;
    out_later = run.out_later;
  }

  -- ---- a line is given

  module _ (given' : ℕ) (held' : List ℕ) (ended' : Option EndedLines) (one : List ℕ) (g : GivesLine reader.line_limit reader.limit reader.given reader.buffered j given' held' ended' one) where
    -- where the reader stands then
    pub stands_told : (reader' : ReaderState) → reader'.buffered ≡ held' → reader'.ended ≡ ended' → (input : List ℕ) → i.left ≡ Some input → StandsAfter line_limit limit input j.left' reader' number
    stands_told reader' held ended_is input l = stands_after c line_limit limit input o reader number count run.line_limit_is run.limit_is j (front input l) given' held' ended' one g reader' held ended_is

    gives_more : reader.given < given'
    gives_more =
        let more : length held' < length (reader.buffered ++ g.taken) = shown_longer reader.line_limit reader.limit reader.given (reader.buffered ++ g.taken) one held' j.left' ended' g.shows in
        let counts : given' + length held' ≡ reader.given + length (reader.buffered ++ g.taken) = g.counts in
        omega arith

    module _ (s : SinkChange) (writes : s.held ≡ o.held') (counted : s.faults ≡ o.faults') (later : s.faults ≤ s.faults') where
      out_still_later : o.faults ≤ s.faults'
      out_still_later = let a : o.faults ≤ o.faults' = run.out_later in omega arith

      stop_caused : (e : LinesEnd F) → EndsAt c number one s e → IsCaused limit (read_on i j) (both o s) e
      stop_caused e (refusing fault is answer kept quiet) = subst (IsCaused limit (read_on i j) (both o s)) (sym is) tt
      stop_caused e (writing laid is answer part once) = subst (IsCaused limit (read_on i j) (both o s)) (sym is) (Rose-later run.out_later (subst (λ n. Rose n s.faults') counted part.rose))
      stop_caused e (for_memory is kept quiet) = subst (IsCaused limit (read_on i j) (both o s)) (sym is) tt

      stop_licensed : (e : LinesEnd F) → EndsAt c number one s e → IsLicensed c e
      stop_licensed e (refusing fault is answer kept quiet) = subst (IsLicensed c) (sym is) (record { octets = one; answer = answer })
      stop_licensed e (writing laid is answer part once) = subst (IsLicensed c) (sym is) tt
      stop_licensed e (for_memory is kept quiet) = subst (IsLicensed c) (sym is) tt

      stop_counts : (e : LinesEnd F) → j.faults' ≡ j.faults → EndsAt c number one s e → CountsOnly (read_on i j) (both o s) e
      stop_counts e still (refusing fault is answer kept quiet) = subst (CountsOnly (read_on i j) (both o s)) (sym is) (still ∙ joins.faults ∙ run.source_quiet, quiet ∙ counted ∙ run.out_quiet)
      stop_counts e still (writing laid is answer part once) = subst (CountsOnly (read_on i j) (both o s)) (sym is) (still ∙ joins.faults ∙ run.source_quiet, omega (arith, once, counted, run.out_quiet))
      stop_counts e still (for_memory is kept quiet) = subst (CountsOnly (read_on i j) (both o s)) (sym is) (still ∙ joins.faults ∙ run.source_quiet, quiet ∙ counted ∙ run.out_quiet)

      pub run_stopped : (e : LinesEnd F) → IsOpen reader → j.faults' ≡ j.faults → EndsAt now number one s e → LinesRun c line_limit limit (read_on i j) (both o s) e
      run_stopped e opened still h =
          let k : EndsAt c number one s e = ends_of_kept c now number one s e run.same h in record {
            told = λ input l. stops_told c line_limit limit input o reader number count run.line_limit_is run.limit_is j (front input l) given' held' ended' one g s writes e k;
            over_taken = stopped_over c line_limit limit i o reader number count run.line_limit_is run.limit_is within run.taken j joins.left joins.taken opened given' held' ended' one g s writes e k;
            caused = stop_caused e k;
            licensed = stop_licensed e k;
            counts = stop_counts e still k;
            source_later = still_later;
            out_later = out_still_later;
          }

      pub run_on : (now' : LineCommand F) (reader' : ReaderState) (results : ℕ) (Still : Type 0) → Still → IsOpen reader → j.faults' ≡ j.faults → IsWritten now number one s results → KeepsTo now now' → reader'.line_limit ≡ reader.line_limit → reader'.limit ≡ reader.limit → reader'.given ≡ given' → reader'.buffered ≡ held'
          → reader'.given ≤ reader'.limit → reader'.ended ≡ ended' → Running c line_limit limit (read_on i j) (both o s) now' reader' (number + 1) (count + results) Still
      run_on now' reader' results Still sound' opened still w kept same_line same given_is held_is fits ended_is =
          let w' : IsWritten c number one s results = written_of_kept c now number one s results run.same w in
          let more : reader.given < given' = gives_more in
          let few : number ≤ reader.given = run.few in
          let fewer : count ≤ number = run.fewer in
          let a : i.taken' ≡ i.taken + (reader.given + length reader.buffered) = run.took in
          let b : j.taken ≡ i.taken' = joins.taken in
          let q : j.taken' ≡ j.taken + length g.taken = g.took.number in
          let all : length (reader.buffered ++ g.taken) ≡ length reader.buffered + length g.taken = length-append reader.buffered g.taken in
          let counts : given' + length held' ≡ reader.given + length (reader.buffered ++ g.taken) = g.counts in
          let held_size : length reader'.buffered ≡ length held' = ap length held_is in
          let lim : reader.limit ≡ limit = run.limit_is in
          let one_at_most : results ≤ 1 = at_most w'.answer results w'.counted in
          record {
            same = λ n octets a h. run.same n octets a (kept n octets a h);
            sound = sound';
            line_limit_is = same_line ∙ run.line_limit_is;
            limit_is = same ∙ run.limit_is;
            going = shown_going reader.line_limit reader.limit reader.given (reader.buffered ++ g.taken) one held' j.left' ended' reader' ended_is held_is g.shows;
            within = omega arith;
            few = omega arith;
            fewer = omega arith;
            took = omega arith;
            source_later = still_later;
            out_later = out_still_later;
            source_quiet = still ∙ joins.faults ∙ run.source_quiet;
            out_quiet = w.quiet ∙ counted ∙ run.out_quiet;
            told = λ input l.
                (let P : ℕ → Type 0 = λ n. SoFar c line_limit limit input (ahead reader'.buffered j.left') reader'.ended (both o s) n (number + 1) (count + results) in
                let Q : List ℕ → Type 0 = λ h. SoFar c line_limit limit input (ahead h j.left') reader'.ended (both o s) given' (number + 1) (count + results) in
                let E : Option EndedLines → Type 0 = λ x. SoFar c line_limit limit input (ahead held' j.left') x (both o s) given' (number + 1) (count + results) in
                subst P (sym given_is) (subst Q (sym held_is) (subst E (sym ended_is) (line_more c line_limit limit input o reader number count run.line_limit_is run.limit_is j (front input l) given' held' ended' one g s writes results opened w'))));
            taken =
                (let P : ℕ → Type 0 = λ n. TakenSoFar c line_limit limit (read_on i j) reader'.buffered reader'.ended (both o s) n (number + 1) (count + results) in
                let Q : List ℕ → Type 0 = λ h. TakenSoFar c line_limit limit (read_on i j) h reader'.ended (both o s) given' (number + 1) (count + results) in
                let E : Option EndedLines → Type 0 = λ x. TakenSoFar c line_limit limit (read_on i j) held' x (both o s) given' (number + 1) (count + results) in
                subst P (sym given_is) (subst Q (sym held_is) (subst E (sym ended_is) (taken_more c line_limit limit i o reader number count run.line_limit_is run.limit_is within run.taken j joins.left joins.taken opened given' held' ended' one g s writes results w'))));
          }

-- ---- answers of the reader

pub gives_end : (result : Result (Option (Bor (List ℕ))) LineError) (P : LinedEnd → Type 0) → result ≡ Ok None → OnEnd result P → P all_lines
gives_end result P e h = subst (λ r. OnEnd r P) e h

pub unfailed : (result : Result (Option (Bor (List ℕ))) LineError) (answer : Option (Bor (List ℕ))) (P : Type 0) → result ≡ Ok answer → UnlessReadFault result P → P
unfailed result answer P e h = subst (λ r. UnlessReadFault r P) e h

-- a reader that gave the last line answers None and nothing else
none_again : (Q : Type 0) (reader : ReaderState) (left : Option (List ℕ)) (result : Result (Option (Bor (List ℕ))) LineError) → HasEnded reader left → IfSome reader.ended (λ ended. (ended_by result ≡ Some ended) × Q) → (ended_by result ≡ Some EndOfInput) × Q
none_again Q reader left result h again = subst (λ x. IfSome x (λ ended. (ended_by result ≡ Some ended) × Q)) h.ended again

pub line_opens : (Q : Type 0) (reader : ReaderState) (left : Option (List ℕ)) (result : Result (Option (Bor (List ℕ))) LineError) (one : Bor (List ℕ)) → result ≡ Ok (Some one) → IsOpen reader ⊎ HasEnded reader left
    → IfSome reader.ended (λ ended. (ended_by result ≡ Some ended) × Q) → IsOpen reader
line_opens Q reader left result one e (inl h) again = h
line_opens Q reader left result one e (inr h) again = absurd (let x : ◌≡◌ {A = Option EndedLines} None (Some EndOfInput) = sym (ap ended_by e) ∙ (none_again Q reader left result h again).0 in cc)

pub refusal_opens : (Q : Type 0) (reader : ReaderState) (left : Option (List ℕ)) (result : Result (Option (Bor (List ℕ))) LineError) (error : LineError) → result ≡ Err error → IsOpen reader ⊎ HasEnded reader left
    → IfSome reader.ended (λ ended. (ended_by result ≡ Some ended) × Q) → IsOpen reader
refusal_opens Q reader left result error e (inl h) again = h
refusal_opens Q reader left result error e (inr h) again = absurd (let x : ◌≡◌ {A = Option EndedLines} (Some (RefusedBy error)) (Some EndOfInput) = sym (ap ended_by e) ∙ (none_again Q reader left result h again).0 in cc)

-- the source has ended, and nothing is held
end_stands : (line_limit limit given taken faults faults' : ℕ) (left : Option (List ℕ)) → given ≤ limit → IsAtEnd left → FindsEnd line_limit limit given [] (record { left = left; left' = left; taken = taken; taken' = taken; faults = faults; faults' = faults' }) all_lines
end_stands line_limit limit given taken faults faults' None le at_end = record { taken = []; took = record { gives = refl; number = omega arith }; room = omega arith; shows = (refl, tt); told = tt }
end_stands line_limit limit given taken faults faults' (Some rest) le at_end = record {
  taken = [];
  took = record { gives = refl; number = omega arith };
  room = omega arith;
  shows = (refl, at_end);
  told = record { is = at_end; just = λ other h. next_once line_limit limit given (limit - given) (omega arith) rest other (end all_lines) h at_end };
}

-- None: the lines end, or had ended
pub ends_now : {S : Type 0} (ghosts : SourceOf.Ghosts S) (reader : ReaderState) (before after : S) (result : Result (Option (Bor (List ℕ))) LineError) → reader.given ≤ reader.limit → result ≡ Ok None → IsOpen reader ⊎ HasEnded reader (ghosts.left before)
    → IfSome reader.ended (λ ended. (ended_by result ≡ Some ended) × (after ≡ before)) → (IsOpen reader → OnEnd result (FindsEnd reader.line_limit reader.limit reader.given reader.buffered (source_change ghosts before after)))
    → FindsEnd reader.line_limit reader.limit reader.given reader.buffered (source_change ghosts before after) all_lines
ends_now ghosts reader before after result le e (inl h) again found = gives_end result (FindsEnd reader.line_limit reader.limit reader.given reader.buffered (source_change ghosts before after)) e (found h)
ends_now {S} ghosts reader before after result le e (inr h) again found =
    let same : after ≡ before = (none_again (after ≡ before) reader (ghosts.left before) result h again).1 in
    let P : S → Type 0 = λ x. FindsEnd reader.line_limit reader.limit reader.given reader.buffered (source_change ghosts before x) all_lines in
    let Q : List ℕ → Type 0 = λ b. FindsEnd reader.line_limit reader.limit reader.given b (source_change ghosts before before) all_lines in
    subst P (sym same) (subst Q (sym h.none_held) (end_stands reader.line_limit reader.limit reader.given (ghosts.taken before) (ghosts.faults before) (ghosts.faults before) (ghosts.left before) le h.at_end))

-- no refusal of the reader is that of a line
pub never_refused : {F : Type 0} (count at : ℕ) (fault : F) (error : LineError) → error_end {F = F} count error ≡ EndOf.Refused at fault → ⊥
never_refused count at fault InputTooLong e = absurd (cc)
never_refused count at fault LineTooLong e = absurd (cc)
never_refused count at fault ReadFault e = absurd (cc)

-- the line that is refused is the one that the run ends at
pub refused_there : {F : Type 0} (c : LineCommand F) (number at : ℕ) (fault : F) (one : List ℕ) (s : SinkChange) (e : LinesEnd F) → EndsAt c number one s e → e ≡ EndOf.Refused at fault → number ≡ at
refused_there c number at fault one s e (refusing other is answer kept quiet) same = let x : EndOf.Refused number other ≡ EndOf.Refused at fault = sym is ∙ same in cc
refused_there {F} c number at fault one s e (writing laid is answer part once) same = absurd (let x : ◌≡◌ {A = LinesEnd F} EndOf.WriteFault (EndOf.Refused at fault) = sym is ∙ same in cc)
refused_there {F} c number at fault one s e (for_memory is kept quiet) same = absurd (let x : ◌≡◌ {A = LinesEnd F} EndOf.OutOfMemory (EndOf.Refused at fault) = sym is ∙ same in cc)

pub after_line : (old new : ReaderState) (j : SourceChange) (result : Result (Option (Bor (List ℕ))) LineError) (one : Bor (List ℕ)) → result ≡ Ok (Some one) → IsAfter old j (line_read result) new → IsAfter old j (Ok (Some one.now)) new
after_line old new j result one e a = subst (λ r. IsAfter old j (line_read r) new) e a

-- ---- no memory for the reader

pub memory_first : {F : Type 0} (c : LineCommand F) (line_limit limit : ℕ) (left held : Option (List ℕ)) (taken faults fails : ℕ)
    → LinesRun c line_limit limit (record { left = left; left' = left; taken = taken; taken' = taken; faults = faults; faults' = faults }) (record { held = held; held' = held; faults = fails; faults' = fails }) EndOf.OutOfMemory
memory_first c line_limit limit left held taken faults fails = record {
  told = λ input l. no_memory c line_limit limit input left _ l (gains_none held fails fails);
  over_taken = record { octets = []; took = took_nothing left taken faults; run = no_memory c line_limit limit [] (Some []) _ refl (gains_none held fails fails) };
  caused = tt;
  licensed = tt;
  counts = (refl, refl);
  source_later = omega arith;
  out_later = omega arith;
}
