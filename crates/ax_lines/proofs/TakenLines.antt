-- The octets that were taken, as an input of their own: lines at its front, and where the run over it ends.
use Rattle.std.proofs.Common.{List, None, Option, Some, [], ap, append-nil, append_assoc, arith, inl, inr, length, length-append, refl, subst, sym, ℕ, ◌++◌, ◌+◌, ◌∙◌, ◌∷◌, ◌≡◌, ◌≤◌}
use Rattle.ax_lines.specs.Lined.{IsJustNextLine, LinedEnd, all_lines, end, input_too_long, line, line_too_long}
use Rattle.ax_lines.specs.Reader.{FindsEnd, GivesLine, IsOpen, ReaderState, Shows, ShowsLine, StopsInLine, ahead}
use Rattle.ax_lines.specs.declared.reader.EndedLines.{EndedLines}
use Rattle.ax_endpoints.proofs.Gains.{both}
use Rattle.ax_lines.specs.Commands.{LineCommand}
use Rattle.ax_lines.specs.Ending.{lines_end}
use Rattle.ax_lines.specs.Runs.{RunsOverTaken, ToldRun}
use Rattle.ax_lines.specs.Taking.{EndsAt, IsWritten}
use Rattle.ax_lines.specs.declared.end.LinesEnd.{LinesEnd}
use Rattle.ax_lines.specs.declared.end.LinesEnd.TheVariants as EndOf
use Rattle.ax_endpoints.proofs.Ends.{with_front-append}
use Rattle.ax_endpoints.specs.Changes.{Gains, SinkChange, SourceChange}
use Rattle.ax_endpoints.specs.Told.{with_front}
use Rattle.ax_lines.proofs.NextLines.{just_next}
use Rattle.ax_lines.specs.Holding.{Took}
use Rattle.ax_lines.proofs.FrontLines.{SoFar, ended, line_more, nothing_so_far, reading_told, stops_told}

-- these octets may come after those that were taken: any, unless the source had ended
abbrev pub MayCome : Option EndedLines → List ℕ → Type 0
MayCome None after = Unit {0}
MayCome (Some e) after = after ≡ []

-- the octets that were taken, with any that may come after them, begin with lines whose results were written, whether the source
-- tells them or not
pub record TakenSoFar {F : Type 0} (c : LineCommand F) (line_limit limit : ℕ) (i : SourceChange) (held : List ℕ) (ended : Option EndedLines) (o : SinkChange) (given number count : ℕ) : Type 0 where
  pub octets : List ℕ
  pub took : Took i octets
  pub so_far : (after : List ℕ) → MayCome ended after → SoFar c line_limit limit (octets ++ after) (ahead held (Some after)) ended o given number count

may_none : (e : Option EndedLines) (after : List ℕ) → after ≡ [] → MayCome e after
may_none None after none = tt
may_none (Some e) after none = none

may_open : (e : Option EndedLines) (after : List ℕ) → e ≡ None → MayCome e after
may_open e after opened = subst (λ x. MayCome x after) (sym opened) tt

-- none was taken
pub took_nothing : (left : Option (List ℕ)) (taken faults : ℕ) → Took (record { left = left; left' = left; taken = taken; taken' = taken; faults = faults; faults' = faults }) []
took_nothing None taken faults = record { gives = refl; number = omega arith }
took_nothing (Some rest) taken faults = record { gives = refl; number = omega arith }

pub nothing_taken : {F : Type 0} (c : LineCommand F) (line_limit limit : ℕ) (left : Option (List ℕ)) (taken faults : ℕ) (held : List ℕ) (ended : Option EndedLines) (o : SinkChange) (given : ℕ) → held ≡ [] → given ≡ 0 → Gains o []
    → TakenSoFar c line_limit limit (record { left = left; left' = left; taken = taken; taken' = taken; faults = faults; faults' = faults }) held ended o given 0 0
nothing_taken c line_limit limit left taken faults held ended o given none z out = record {
  octets = [];
  took = took_nothing left taken faults;
  so_far = λ after may. nothing_so_far c line_limit limit after held (Some after) ended o given none refl z out;
}

-- ---- an answer of the reader, where what was taken and these octets after it are all that was left

abbrev pub alone : SourceChange → List ℕ → List ℕ → SourceChange
alone j taken after = record { left = Some (taken ++ after); left' = Some after; taken = j.taken; taken' = j.taken'; faults = j.faults; faults' = j.faults' }

took_alone : (j : SourceChange) (taken after : List ℕ) → Took j taken → Took (alone j taken after) taken
took_alone j taken after t = record { gives = refl; number = t.number }

end_shown : (line_limit limit given : ℕ) (octets : List ℕ) (left : Option (List ℕ)) (e : LinedEnd) → Shows line_limit limit given octets left (end e) → Shows line_limit limit given octets (Some []) (end e)
end_shown line_limit limit given octets left all_lines h = (h.0, refl)
end_shown line_limit limit given octets left input_too_long h = h
end_shown line_limit limit given octets left line_too_long h = h

end_alone : (line_limit limit given : ℕ) (held : List ℕ) (j : SourceChange) (e : LinedEnd) → given ≤ limit → (f : FindsEnd line_limit limit given held j e) → FindsEnd line_limit limit given held (alone j f.taken []) e
end_alone line_limit limit given held j e le f =
    let shows : Shows line_limit limit given (held ++ f.taken) (Some []) (end e) = end_shown line_limit limit given (held ++ f.taken) j.left' e f.shows in
    record {
      taken = f.taken;
      took = took_alone j f.taken [] f.took;
      room = f.room;
      shows = shows;
      told = subst (λ x. IsJustNextLine line_limit limit given x (end e)) (append_assoc held f.taken []) (just_next line_limit limit given (held ++ f.taken) [] (Some []) (end e) le refl shows);
    }

stop_alone : (line_limit limit given : ℕ) (held : List ℕ) (j : SourceChange) (f : StopsInLine line_limit limit given held j) → StopsInLine line_limit limit given held (alone j f.taken [])
stop_alone line_limit limit given held j f = record { taken = f.taken; took = took_alone j f.taken [] f.took; plain = f.plain; short = f.short; within = f.within }

line_shown : (line_limit limit given : ℕ) (octets one held' after : List ℕ) (left : Option (List ℕ)) (ended' : Option EndedLines) → MayCome ended' after → ShowsLine line_limit limit given octets left one held' ended' → ShowsLine line_limit limit given octets (Some after) one held' ended'
line_shown line_limit limit given octets one held' after left ended' may (inl h) = inl h
line_shown line_limit limit given octets one held' after left ended' may (inr (h, at_end, is)) = inr (h, subst (λ x. MayCome x after) is may, is)

any_line : (line_limit limit given : ℕ) (octets one held' : List ℕ) (left : Option (List ℕ)) (ended' : Option EndedLines) → ShowsLine line_limit limit given octets left one held' ended' → Shows line_limit limit given octets left (line one held')
any_line line_limit limit given octets one held' left ended' (inl h) = inl h.0
any_line line_limit limit given octets one held' left ended' (inr (h, at_end, is)) = inr (h, at_end)

line_alone : (line_limit limit given : ℕ) (held : List ℕ) (j : SourceChange) (given' : ℕ) (held' : List ℕ) (ended' : Option EndedLines) (one after : List ℕ) → given ≤ limit → MayCome ended' after → (g : GivesLine line_limit limit given held j given' held' ended' one)
    → GivesLine line_limit limit given held (alone j g.taken after) given' held' ended' one
line_alone line_limit limit given held j given' held' ended' one after le may g =
    let shows : ShowsLine line_limit limit given (held ++ g.taken) (Some after) one held' ended' = line_shown line_limit limit given (held ++ g.taken) one held' after j.left' ended' may g.shows in
    record {
      taken = g.taken;
      took = took_alone j g.taken after g.took;
      room = g.room;
      shows = shows;
      counts = g.counts;
      told = record {
        after = held' ++ after;
        following_is = refl;
        just = subst (λ x. IsJustNextLine line_limit limit given x (line one (held' ++ after))) (append_assoc held g.taken after)
            (just_next line_limit limit given (held ++ g.taken) after (Some after) (line one held') le refl (any_line line_limit limit given (held ++ g.taken) one held' (Some after) ended' shows));
      };
    }

-- ---- the lines before, and an answer of the reader

module _ {F : Type 0} (c : LineCommand F) (line_limit limit : ℕ) (i : SourceChange) (o : SinkChange) (reader : ReaderState) (number count : ℕ) (line_limit_is : reader.line_limit ≡ line_limit) (limit_is : reader.limit ≡ limit) (within : reader.given ≤ reader.limit)
    (s : TakenSoFar c line_limit limit i reader.buffered reader.ended o reader.given number count) (j : SourceChange) (left_is : j.left ≡ i.left') (taken_is : j.taken ≡ i.taken') where
  abbrev pub onward : SourceChange
  onward = record { left = i.left; left' = j.left'; taken = i.taken; taken' = j.taken'; faults = i.faults; faults' = j.faults' }

  all_taken : (taken : List ℕ) → Took j taken → Took onward (s.octets ++ taken)
  all_taken taken t =
      let size : length (s.octets ++ taken) ≡ length s.octets + length taken = length-append s.octets taken in
      let before : i.taken' ≡ i.taken + length s.octets = s.took.number in
      let now : j.taken' ≡ j.taken + length taken = t.number in
      record { gives = s.took.gives ∙ ap (with_front s.octets) (sym left_is ∙ t.gives) ∙ with_front-append j.left' s.octets taken; number = omega arith }

  over : (taken : List ℕ) (k : SinkChange) (e : LinesEnd F) → Took j taken → ToldRun c line_limit limit (s.octets ++ (taken ++ [])) (Some []) k e → RunsOverTaken c line_limit limit onward k e
  over taken k e t run = record {
    octets = s.octets ++ taken;
    took = all_taken taken t;
    run = subst (λ x. ToldRun c line_limit limit (s.octets ++ x) (Some []) k e) (append-nil taken) run;
  }

  -- the lines end
  pub ended_over : (e : LinedEnd) (f : FindsEnd reader.line_limit reader.limit reader.given reader.buffered j e) → MayCome reader.ended (f.taken ++ []) → (result : LinesEnd F) → result ≡ lines_end count number e → RunsOverTaken c line_limit limit onward o result
  ended_over e f may result is = over f.taken o result f.took
      (ended c line_limit limit (s.octets ++ (f.taken ++ [])) o reader number count line_limit_is limit_is (alone j f.taken []) (s.so_far (f.taken ++ []) may) e
      (end_alone reader.line_limit reader.limit reader.given reader.buffered j e within f) result is (λ n done. refl))

  pub done_over : FindsEnd reader.line_limit reader.limit reader.given reader.buffered j all_lines → RunsOverTaken c line_limit limit onward o (EndOf.Done count)
  done_over f =
      let size : length (reader.buffered ++ f.taken) ≡ length reader.buffered + length f.taken = length-append reader.buffered f.taken in
      let none : length (reader.buffered ++ f.taken) ≡ 0 = ap length f.shows.0 in
      ended_over all_lines f (may_none reader.ended (f.taken ++ []) (append-nil f.taken ∙ no_octet f.taken (omega arith))) (EndOf.Done count) refl
    where
      no_octet : (xs : List ℕ) → length xs ≡ 0 → xs ≡ []
      no_octet [] e = refl
      no_octet (x ∷ xs) e = absurd (omega (arith, e))

  module _ (opened : IsOpen reader) where
    pub refused_over : (e : LinedEnd) → FindsEnd reader.line_limit reader.limit reader.given reader.buffered j e → (result : LinesEnd F) → result ≡ lines_end count number e → RunsOverTaken c line_limit limit onward o result
    refused_over e f result is = ended_over e f (may_open reader.ended (f.taken ++ []) opened) result is

    -- a read failed
    pub failed_over : StopsInLine reader.line_limit reader.limit reader.given reader.buffered j → RunsOverTaken c line_limit limit onward o EndOf.ReadFault
    failed_over f = over f.taken o EndOf.ReadFault f.took
        (reading_told c line_limit limit (s.octets ++ (f.taken ++ [])) o reader number count line_limit_is limit_is (alone j f.taken []) (s.so_far (f.taken ++ []) (may_open reader.ended (f.taken ++ []) opened)) opened
        (stop_alone reader.line_limit reader.limit reader.given reader.buffered j f))

    module _ (given' : ℕ) (held' : List ℕ) (ended' : Option EndedLines) (one : List ℕ) (g : GivesLine reader.line_limit reader.limit reader.given reader.buffered j given' held' ended' one) (k : SinkChange) (writes : k.held ≡ o.held') where
      -- the run ends at the line
      pub stopped_over : (e : LinesEnd F) → EndsAt c number one k e → RunsOverTaken c line_limit limit onward (both o k) e
      stopped_over e h = over g.taken (both o k) e g.took
          (stops_told c line_limit limit (s.octets ++ (g.taken ++ [])) o reader number count line_limit_is limit_is (alone j g.taken []) (s.so_far (g.taken ++ []) (may_open reader.ended (g.taken ++ []) opened)) given' held' ended' one
          (line_alone reader.line_limit reader.limit reader.given reader.buffered j given' held' ended' one [] within (may_none ended' [] refl) g) k writes e h)

      -- the line's result was written
      pub taken_more : (results : ℕ) → IsWritten c number one k results → TakenSoFar c line_limit limit onward held' ended' (both o k) given' (number + 1) (count + results)
      taken_more results w = record {
        octets = s.octets ++ g.taken;
        took = all_taken g.taken g.took;
        so_far = λ after may. subst (λ x. SoFar c line_limit limit x (ahead held' (Some after)) ended' (both o k) given' (number + 1) (count + results)) (sym (append_assoc s.octets g.taken after))
            (line_more c line_limit limit (s.octets ++ (g.taken ++ after)) o reader number count line_limit_is limit_is (alone j g.taken after) (s.so_far (g.taken ++ after) (may_open reader.ended (g.taken ++ after) opened)) given' held' ended' one
            (line_alone reader.line_limit reader.limit reader.given reader.buffered j given' held' ended' one after within may g) k writes results opened w);
      }
