-- What the octets buffered show, and what comes next in the input.
use Rattle.std.proofs.Common.{◌≡◌, ℕ, zero, suc, ◌+◌, ◌-◌, ◌<◌, ◌≤◌, inl, inr, List, [], ◌∷◌, ◌++◌, Option, Some, None, length, take, drop, slice_range, min, refl, sym, ◌∙◌, ap, subst, arith, append_assoc, append-nil, length-append, length-take-le, length-drop, Result, Ok, Err, IfSome}
use Rattle.std.proofs.lemmas.Bool.{eq-eqb, ne_eqb}
use Rattle.std.proofs.lemmas.List.{drop-take}
use Rattle.ax_lines.specs.Feeds.{IsFirstFeed}
use Rattle.ax_lines.specs.Holding.{HoldsLine, HoldsPart}
use Rattle.ax_lines.specs.Judging.{CutsLine, Judges}
use Rattle.ax_lines.specs.Lined.{LinedEnd, all_lines, input_too_long, line_too_long, NextLine, line, end, IsNextLine, IsJustNextLine, PassesLimit}
use Rattle.ax_lines.specs.Reader.{OnTold, OnEnd, OnReadFault, OnTooLong, Shows, ShowsLine, ended_if, ended_after, read_ahead, ahead, IsToldLine, FindsEnd, StopsInLine}
use Rattle.ax_lines.specs.Window.{HoldsNext}
use Rattle.ax_lines.specs.declared.judging.Cut.{Cut}
use Rattle.ax_lines.specs.declared.line_error.LineError.{LineError}
use Rattle.ax_lines.specs.declared.line_error.LineError.TheVariants.{InputTooLong, LineTooLong, ReadFault}
use Rattle.ax_lines.specs.declared.next_line.BufferedLine.{BufferedLine}
use Rattle.ax_lines.specs.declared.reading.Buffered.{Buffered}
use Rattle.ax_lines.proofs.Judged.{JudgesAll}
use Rattle.ax_lines.proofs.LinedOnce.{next_once}
use Rattle.ax_endpoints.specs.Changes.{SourceChange}
use Rattle.ax_endpoints.specs.Told.{with_front, IsAtEnd}

-- ---- what octets show comes next, whatever comes after them

abbrev pub with_after : NextLine → List ℕ → NextLine
with_after (line octets after) rest = line octets (after ++ rest)
with_after (end e) rest = end e

none_left : (left : Option (List ℕ)) (rest : List ℕ) → IsAtEnd left → left ≡ Some rest → rest ≡ []
none_left left rest h e = subst IsAtEnd e h

shown_next : (line_limit limit given : ℕ) (octets rest : List ℕ) (left : Option (List ℕ)) (part : NextLine) → left ≡ Some rest → Shows line_limit limit given octets left part → IsNextLine line_limit limit given (octets ++ rest) (with_after part rest)
shown_next line_limit limit given octets rest left (line one after) is (inl h) =
    inl (record { split = ap (λ l. l ++ rest) h.split ∙ append_assoc one (10 ∷ after) rest; plain = h.plain; short = h.short; within = h.within })
shown_next line_limit limit given octets rest left (line one after) is (inr (h, at_end)) =
    let none : rest ≡ [] = none_left left rest at_end is in
    inr (record {
      split = ap (λ l. octets ++ l) none ∙ append-nil octets ∙ h.split;
      none_following = ap (λ l. l ++ rest) h.none_following ∙ none;
      some = h.some;
      plain = h.plain;
      short = h.short;
      within = h.within;
    })
shown_next line_limit limit given octets rest left (end all_lines) is h = ap (λ l. l ++ rest) h.0 ∙ none_left left rest h.1 is
shown_next line_limit limit given octets rest left (end input_too_long) is h = record {
  front = h.front;
  octet = h.octet;
  following = h.following ++ rest;
  split = ap (λ l. l ++ rest) h.split ∙ append_assoc h.front (h.octet ∷ h.following) rest;
  plain = h.plain;
  short = h.short;
  count = h.count;
}
shown_next line_limit limit given octets rest left (end line_too_long) is h = record {
  front = h.front;
  octet = h.octet;
  following = h.following ++ rest;
  split = ap (λ l. l ++ rest) h.split ∙ append_assoc h.front (h.octet ∷ h.following) rest;
  plain = h.plain;
  one_more = h.one_more;
  count = h.count;
  within = h.within;
}

pub just_next : (line_limit limit given : ℕ) (octets rest : List ℕ) (left : Option (List ℕ)) (part : NextLine) → given ≤ limit → left ≡ Some rest → Shows line_limit limit given octets left part → IsJustNextLine line_limit limit given (octets ++ rest) (with_after part rest)
just_next line_limit limit given octets rest left part le is h =
    let next : IsNextLine line_limit limit given (octets ++ rest) (with_after part rest) = shown_next line_limit limit given octets rest left part is h in record {
      is = next;
      just = λ other o. next_once line_limit limit given (limit - given) (omega arith) (octets ++ rest) other (with_after part rest) o next;
    }

-- what holds of all octets that aren't given yet, where they are told
on_told : (P : List ℕ → Type 0) (before octets : List ℕ) (left left' : Option (List ℕ)) → left ≡ with_front octets left' → ((rest : List ℕ) → left' ≡ Some rest → P ((before ++ octets) ++ rest)) → OnTold (ahead before left) P
on_told P before octets left None gives f = subst (λ l. OnTold (with_front before l) P) (sym gives) tt
on_told P before octets left (Some rest) gives f = subst (λ l. OnTold (with_front before l) P) (sym gives) (subst P (append_assoc before octets rest) (f rest refl))

-- ---- parts of a buffer

take_fewer : (xs : List ℕ) (n m : ℕ) → n ≤ m → take n (take m xs) ≡ take n xs
take_fewer xs zero m le = refl
take_fewer [] (suc n) zero le = absurd (omega arith)
take_fewer (x ∷ xs) (suc n) zero le = absurd (omega arith)
take_fewer [] (suc n) (suc m) le = refl
take_fewer (x ∷ xs) (suc n) (suc m) le = ap (λ l. x ∷ l) (take_fewer xs n m (omega arith))

drop_more : (xs : List ℕ) (n m k : ℕ) → k ≡ n + m → drop m (drop n xs) ≡ drop k xs
drop_more xs zero m k is = ap (λ j. drop j xs) (let e : m ≡ k = omega arith in e)
drop_more [] (suc n) m zero is = absurd (omega arith)
drop_more (x ∷ xs) (suc n) m zero is = absurd (omega arith)
drop_more [] (suc n) zero (suc k) is = refl
drop_more [] (suc n) (suc m) (suc k) is = refl
drop_more (x ∷ xs) (suc n) m (suc k) is = drop_more xs n m k (omega arith)

pub size_of_range : (buffer : List ℕ) (start stop : ℕ) → start ≤ stop → stop ≤ length buffer → length (slice_range buffer start stop) ≡ stop - start
size_of_range buffer start stop order inside =
    let d : length (drop start buffer) ≡ length buffer - start = length-drop start buffer in length-take-le (stop - start) (drop start buffer) (omega arith)

front_of_range : (buffer : List ℕ) (start stop n : ℕ) → n ≤ stop - start → take n (slice_range buffer start stop) ≡ slice_range buffer start (start + n)
front_of_range buffer start stop n le =
    take_fewer (drop start buffer) n (stop - start) le ∙ ap (λ k. take k (drop start buffer)) (let e : n ≡ start + n - start = omega arith in e)

back_of_range : (buffer : List ℕ) (start stop n : ℕ) → n ≤ stop - start → drop n (slice_range buffer start stop) ≡ slice_range buffer (start + n) stop
back_of_range buffer start stop n le =
    ap (λ k. drop n (take k (drop start buffer))) (let e : stop - start ≡ n + (stop - (start + n)) = omega arith in e) ∙ drop-take n (stop - (start + n)) (drop start buffer)
    ∙ ap (take (stop - (start + n))) (drop_more buffer start n (start + n) refl)

-- ---- a line and its line feed, or the last one

-- the line feed is an octet of what is before the octets after it
shows_line : (line_limit limit given : ℕ) (octets one after : List ℕ) (left : Option (List ℕ)) (start size whole : ℕ) → length one ≡ size → length octets ≡ whole + length after → Shows line_limit limit given octets left (line one after)
    → ShowsLine line_limit limit given octets left one after (ended_after (start + size) (start + whole))
shows_line line_limit limit given octets one after left start size whole is count (inl h) =
    let all : length octets ≡ length one + suc (length after) = ap length h.split ∙ length-append one (10 ∷ after) in
    let other : start + whole ≡ start + size → ⊥ = λ e. absurd (let f : start + whole ≡ start + size = e in omega arith) in
    inl (h, ap ended_if (ne_eqb (start + whole) (start + size) other))
shows_line line_limit limit given octets one after left start size whole is count (inr (h, at_end)) =
    let all : length octets ≡ length one = ap length h.split in
    let none : length after ≡ 0 = ap length h.none_following in
    let same : start + whole ≡ start + size = omega arith in
    inr (h, at_end, ap ended_if (eq-eqb (start + whole) (start + size) same))

-- ---- what is buffered for a line is judged

-- a line and its line feed are within the limit of the input
line_within : (line_limit limit given : ℕ) (octets one after : List ℕ) (left : Option (List ℕ)) (n : ℕ) → length octets ≡ n + length after → Shows line_limit limit given octets left (line one after) → given + n ≤ limit
line_within line_limit limit given octets one after left n size (inl h) =
    let all : length octets ≡ length one + suc (length after) = ap length h.split ∙ length-append one (10 ∷ after) in
    let within : given + length one < limit = h.within in
    omega arith
line_within line_limit limit given octets one after left n size (inr (h, at_end)) =
    let all : length octets ≡ length one = ap length h.split in
    let within : given + length one ≤ limit = h.within in
    omega arith

module _ (line_limit limit given : ℕ) (le : given ≤ limit) (i : SourceChange) (before buffer : List ℕ) (most : ℕ) (buffered : Buffered) (enough : most ≡ min (limit - given) line_limit + 1) (capacity : length buffer ≤ line_limit + read_ahead) (h : HoldsLine i before buffer most buffered) where
  size : length (before ++ h.octets) ≡ buffered.end - buffered.start
  size = ap length (sym h.stands) ∙ size_of_range buffer buffered.start buffered.end h.window h.within

  room : length (before ++ h.octets) ≤ line_limit + read_ahead
  room = let s = size in let w : buffered.end ≤ length buffer = h.within in omega arith

  abbrev pub JudgesBuffered : Result (Option Cut) LineError → Type 0
  JudgesBuffered result = JudgesAll line_limit (limit - given) buffered.feed (buffered.end - buffered.start) result

  shown : (result : Result (Option Cut) LineError) → JudgesBuffered result → Judges line_limit limit given (before ++ h.octets) i.left' result
  shown result j = j limit given (before ++ h.octets) i.left' (omega arith) size h.feed (λ none fewer. h.whole none (let s = size in omega arith))

  finds : (e : LinedEnd) → Shows line_limit limit given (before ++ h.octets) i.left' (end e) → FindsEnd line_limit limit given before i e
  finds e s = record {
    taken = h.octets;
    took = h.took;
    room = room;
    shows = s;
    told = on_told (λ rest. IsJustNextLine line_limit limit given rest (end e)) before h.octets i.left i.left' h.took.gives (λ rest is. just_next line_limit limit given (before ++ h.octets) rest i.left' (end e) le is s);
  }

  -- a line
  pub line_buffered : (cut : Cut) → JudgesBuffered (Ok (Some cut)) → HoldsNext line_limit limit given before i buffer (record { start = buffered.start; stop = buffered.start + cut.line; next = buffered.start + cut.whole; end = buffered.end })
  line_buffered cut j =
      let c : CutsLine line_limit limit given (before ++ h.octets) i.left' cut = shown (Ok (Some cut)) j in
      let s = size in
      let order : cut.line ≤ cut.whole = c.order in let inside : cut.whole ≤ length (before ++ h.octets) = c.within in
      let window : buffered.start ≤ buffered.end = h.window in
      let front : take cut.line (before ++ h.octets) ≡ slice_range buffer buffered.start (buffered.start + cut.line)
      = ap (take cut.line) (sym h.stands) ∙ front_of_range buffer buffered.start buffered.end cut.line (omega arith) in
      let back : drop cut.whole (before ++ h.octets) ≡ slice_range buffer (buffered.start + cut.whole) buffered.end
      = ap (drop cut.whole) (sym h.stands) ∙ back_of_range buffer buffered.start buffered.end cut.whole (omega arith) in
      let shows : Shows line_limit limit given (before ++ h.octets) i.left' (line (slice_range buffer buffered.start (buffered.start + cut.line)) (slice_range buffer (buffered.start + cut.whole) buffered.end))
      = subst (λ l. Shows line_limit limit given (before ++ h.octets) i.left' (line l (slice_range buffer (buffered.start + cut.whole) buffered.end))) front
      (subst (λ l. Shows line_limit limit given (before ++ h.octets) i.left' (line (take cut.line (before ++ h.octets)) l)) back c.shows) in
      let rest_size : length (slice_range buffer (buffered.start + cut.whole) buffered.end) ≡ buffered.end - (buffered.start + cut.whole) = size_of_range buffer (buffered.start + cut.whole) buffered.end (omega arith) h.within in
      let dropped : length (drop cut.whole (before ++ h.octets)) ≡ length (before ++ h.octets) - cut.whole = length-drop cut.whole (before ++ h.octets) in
      record {
        line_order = omega arith;
        feed_order = omega arith;
        order = omega arith;
        inside = h.within;
        within = line_within line_limit limit given (before ++ h.octets) (take cut.line (before ++ h.octets)) (drop cut.whole (before ++ h.octets)) i.left' (buffered.start + cut.whole - buffered.start) (omega arith) c.shows;
        gives = record {
          taken = h.octets;
          took = h.took;
          room = room;
          shows = shows_line line_limit limit given (before ++ h.octets) (slice_range buffer buffered.start (buffered.start + cut.line)) (slice_range buffer (buffered.start + cut.whole) buffered.end) i.left' buffered.start cut.line cut.whole
              (let e : length (slice_range buffer buffered.start (buffered.start + cut.line)) ≡ buffered.start + cut.line - buffered.start = size_of_range buffer buffered.start (buffered.start + cut.line) (omega arith) (omega arith) in omega arith) (omega arith) shows;
          counts = omega arith;
          told = on_told (λ rest. IsToldLine line_limit limit given rest (ahead (slice_range buffer (buffered.start + cut.whole) buffered.end) i.left') (slice_range buffer buffered.start (buffered.start + cut.line))) before h.octets i.left i.left' h.took.gives (λ rest is. record {
            after = slice_range buffer (buffered.start + cut.whole) buffered.end ++ rest;
            following_is = ap (with_front (slice_range buffer (buffered.start + cut.whole) buffered.end)) is;
            just = just_next line_limit limit given (before ++ h.octets) rest i.left' (line (slice_range buffer buffered.start (buffered.start + cut.line)) (slice_range buffer (buffered.start + cut.whole) buffered.end)) le is shows;
          });
        };
      }

  -- no octet
  pub none_buffered : JudgesBuffered (Ok None) → FindsEnd line_limit limit given before i all_lines
  none_buffered j = finds all_lines (shown (Ok None) j)

  -- a limit is passed
  pub refusal_buffered : (e : LineError) → JudgesBuffered (Err e) → OnEnd {A = BufferedLine} (Err e) (FindsEnd line_limit limit given before i)
  refusal_buffered InputTooLong j = finds input_too_long (shown (Err InputTooLong) j)
  refusal_buffered LineTooLong j = finds line_too_long (shown (Err LineTooLong) j)
  refusal_buffered ReadFault j = tt

  pub limit_buffered : (e : LineError) → JudgesBuffered (Err e) → OnTooLong {A = BufferedLine} (Err e) (limit + i.taken < given + length before + i.taken')
  limit_buffered InputTooLong j =
      let p : PassesLimit line_limit limit given (before ++ h.octets) = shown (Err InputTooLong) j in
      let all : length (before ++ h.octets) ≡ length p.front + suc (length p.following) = ap length p.split ∙ length-append p.front (p.octet ∷ p.following) in
      let both : length (before ++ h.octets) ≡ length before + length h.octets = length-append before h.octets in
      let number : i.taken' ≡ i.taken + length h.octets = h.took.number in
      let count : given + length p.front ≡ limit = p.count in
      omega arith
  limit_buffered LineTooLong j = tt
  limit_buffered ReadFault j = tt

  pub no_fault_buffered : (P : Type 0) (e : LineError) → JudgesBuffered (Err e) → OnReadFault {A = BufferedLine} (Err e) P
  no_fault_buffered P InputTooLong j = tt
  no_fault_buffered P LineTooLong j = tt
  no_fault_buffered P ReadFault j = absurd (shown (Err ReadFault) j)

-- a read failed
pub part_buffered : (line_limit limit given : ℕ) (i : SourceChange) (before : List ℕ) (most : ℕ) → given ≤ limit → most ≡ min (limit - given) line_limit + 1 → HoldsPart i before most → StopsInLine line_limit limit given before i
part_buffered line_limit limit given i before most le enough h =
    let fewer : length (before ++ h.octets) < most = h.fewer in
    record { taken = h.octets; took = h.took; plain = h.plain; short = omega arith; within = omega arith }

found : (octets : List ℕ) (feed : Option ℕ) (n : ℕ) → length octets ≡ n → IsFirstFeed octets feed → IfSome feed (λ at. at < n)
found octets None n size h = tt
found octets (Some at) n size h =
    let all : length octets ≡ length h.front + suc (length h.following) = ap length h.split ∙ length-append h.front (10 ∷ h.following) in
    let place : length h.front ≡ at = h.place in
    omega arith

-- the feed found is among the octets buffered
pub feed_inside : (i : SourceChange) (before buffer : List ℕ) (most : ℕ) (buffered : Buffered) → HoldsLine i before buffer most buffered → IfSome buffered.feed (λ at. at < buffered.end - buffered.start)
feed_inside i before buffer most buffered h =
    found (before ++ h.octets) buffered.feed (buffered.end - buffered.start) (ap length (sym h.stands) ∙ size_of_range buffer buffered.start buffered.end h.window h.within) h.feed

pub ruleset next_lines = (line_buffered, none_buffered, refusal_buffered, limit_buffered, no_fault_buffered, part_buffered, feed_inside)
