-- What is out after a write of all that was held back.
use Rattle.std.proofs.Common.{◌≡◌, ◌≢◌, ℕ, ◌+◌, ◌<◌, ◌≤◌, List, [], ◌∷◌, ◌++◌, Option, Some, None, length, take, drop, refl, sym, ◌∙◌, ap, subst, inl, inr, append_assoc, append-nil, arith}
use Rattle.std.specs.Prelude.{Result, Ok, Err, IfOk, OnOk, OnErr, IsSome, is_some, false, ◌-◌, ◌^◌}
use Rattle.std.specs.Io.KnownBytes.{Appends}
use Rattle.std.proofs.lemmas.List.{take-append-drop, length-drop, length-take}
use Rattle.std.proofs.lemmas.Bool.{cases_lt}
use Rattle.std.proofs.Math.Seq.{take-add, take-length}
use Rattle.ax_tied_streams.specs.Histories.Piece.{to_output, to_report}
use Rattle.ax_tied_streams.specs.Histories.{Piece, octets_of, lines_of, last_lines}
use Rattle.ax_tied_streams.specs.Streams.{Streams}
use Rattle.ax_tied_streams.specs.Orders.{GoesOn, after_octets, after_lines, after_nothing, IsHeldBack, HasRest, HasGot, EndsAs, HasEnded, TellsEnding, number_lost, LacksLines, IsInOrder}
use Rattle.ax_tied_streams.specs.Held.{HoldsLines, KeepsStop, PutsHeld, emptied, put_of}
use Rattle.ax_tied_streams.specs.Puts.{StopsAtOctets, StopsAtLines, StopsAt, HasPut, AddsOctets}
use Rattle.ax_tied_streams.specs.declared.puts.Failed.{Failed}
use Rattle.ax_tied_streams.specs.declared.puts.Failed.TheVariants.{Output, Report, Both}
use Rattle.ax_tied_streams.specs.declared.puts.Stop.{Stop}
use Rattle.ax_tied_streams.specs.declared.streams.Ending.{Ending}
use Rattle.ax_tied_streams.specs.declared.streams.Ending.TheVariants.{LineLost, OwnLineLost}
use Rattle.ax_tied_streams.proofs.Steps.{appends_both}
use Rattle.ax_tied_streams.proofs.Moments.{nil_or_not, none_or_some, got_octets, got_first_lines, got_more_lines, got_dropped, moment_now, moment_at, rest_at}

abbrev stop_of : Failed → ℕ → Stop
stop_of failed lost = record { failed = failed; lost = lost }

-- a list in front of a part and the rest of another
two_parts : (xs ys : List ℕ) (n : ℕ) → xs ++ ys ≡ (xs ++ take n ys) ++ drop n ys
two_parts xs ys n = ap (λ l. xs ++ l) (sym (take-append-drop n ys)) ∙ sym (append_assoc xs (take n ys) (drop n ys))

-- the first of a list up to m, in two parts
first_parts : (ys : List ℕ) (n m : ℕ) → n ≤ m → take m ys ≡ take n ys ++ take (m - n) (drop n ys)
first_parts ys n m le = let e : m ≡ n + (m - n) = omega arith in ap (λ k. take k ys) e ∙ take-add n (m - n) ys

counted : (ys : List ℕ) (n m : ℕ) → m + n ≡ length ys → m < 2 ^ 128 → m ≡ number_lost (drop n ys)
counted ys n m e fits = omega (arith, length-drop n ys)

pub got_whole : (o r : Option (List ℕ)) (h : List Piece) (s s' : Streams) → s.failed ≡ None → HasGot o r h s → HasPut None (put_of s s') → s'.failed ≡ None → HasGot o r h (emptied s')
got_whole o r h s s' sound g (put_octets, put_lines) sound' =
    let k : IsHeldBack h g.octets g.lines s = rest_at s.failed None h _ _ s sound g.rest in
    record {
      octets = octets_of h;
      lines = lines_of h;
      octets_out = subst (λ l. Appends o s'.output l) (sym k.all_octets) (appends_both o s.output s'.output g.octets s.octets g.octets_out put_octets);
      lines_out = subst (λ l. Appends r s'.report l) (sym k.all_lines) (appends_both r s.report s'.report g.lines s.lines g.lines_out put_lines);
      order = record {
        octets_left = [];
        lines_by_then = lines_of h;
        lines_since = [];
        moment = moment_now h _ _ (sym (append-nil (octets_of h))) refl;
        lines_out = sym (append-nil (lines_of h));
      };
      rest = rest_at None s'.failed h _ _ (emptied s') (sym sound') (record {
        all_octets = sym (append-nil (octets_of h));
        all_lines = sym (append-nil (lines_of h));
        before_within = omega arith;
        before = λ some. absurd (some refl);
        leading_within = omega arith;
        leading = moment_now h _ _ refl (sym (append-nil (lines_of h)));
        behind = λ some. absurd (some refl);
      });
    }

pub got_to_octets : (o r : Option (List ℕ)) (h : List Piece) (s s' : Streams) (lost : ℕ) → s.failed ≡ None → HasGot o r h s → StopsAtOctets (put_of s s') lost → KeepsStop (Some (stop_of Output lost)) s' → HasGot o r h (emptied s')
got_to_octets o r h s s' lost sound g put stop =
    let k : IsHeldBack h g.octets g.lines s = rest_at s.failed None h _ _ s sound g.rest in
    let all : octets_of h ≡ (g.octets ++ take put.count s.octets) ++ drop put.count s.octets = k.all_octets ∙ two_parts g.octets s.octets put.count in
    record {
      octets = g.octets ++ take put.count s.octets;
      lines = g.lines ++ take s.leading s.lines;
      octets_out = appends_both o s.output s'.output g.octets _ g.octets_out put.octets;
      lines_out = appends_both r s.report s'.report g.lines _ g.lines_out put.lines;
      order = record {
        octets_left = drop put.count s.octets;
        lines_by_then = g.lines ++ take s.leading s.lines;
        lines_since = [];
        moment = moment_at h _ _ _ _ all refl k.leading;
        lines_out = sym (append-nil _);
      };
      rest = rest_at (Some Output) s'.failed h _ _ (emptied s') (sym stop.0) (
        drop s.leading s.lines,
        record {
          octets_lost = drop put.count s.octets;
          all_octets = all;
          some = omega (arith, length-drop put.count s.octets, put.within);
          all_lines = k.all_lines ∙ two_parts g.lines s.lines s.leading;
          moment = k.leading;
        },
        stop.1 ∙ counted s.lines s.leading lost put.rest stop.2,
      );
    }

-- the lines fail behind the octets
got_behind : (o r : Option (List ℕ)) (h : List Piece) (s s' : Streams) (lost count : ℕ) → s.failed ≡ None → HasGot o r h s → KeepsStop (Some (stop_of Report lost)) s'
    → StopsAtLines (put_of s s') lost count → s.leading ≤ count → Appends s.output s'.output s.octets → HasGot o r h (emptied s')
got_behind o r h s s' lost count sound g stop put le put_octets =
    let k : IsHeldBack h g.octets g.lines s = rest_at s.failed None h _ _ s sound g.rest in
    record {
      octets = octets_of h;
      lines = g.lines ++ take count s.lines;
      octets_out = subst (λ l. Appends o s'.output l) (sym k.all_octets) (appends_both o s.output s'.output g.octets s.octets g.octets_out put_octets);
      lines_out = appends_both r s.report s'.report g.lines _ g.lines_out put.lines;
      order = record {
        octets_left = [];
        lines_by_then = g.lines ++ take s.leading s.lines;
        lines_since = take (count - s.leading) (drop s.leading s.lines);
        moment = moment_at h _ _ _ _ (sym (append-nil (octets_of h))) refl k.leading;
        lines_out = ap (λ l. g.lines ++ l) (first_parts s.lines s.leading count le) ∙ sym (append_assoc g.lines _ _);
      };
      rest = rest_at (Some Report) s'.failed h _ _ (emptied s') (sym stop.0) (
        drop count s.lines,
        record {
          octets_lost = [];
          all_octets = sym (append-nil (octets_of h));
          some = omega (arith, length-drop count s.lines, put.within);
          all_lines = k.all_lines ∙ two_parts g.lines s.lines count;
          behind = inl refl;
        },
        stop.1 ∙ counted s.lines count lost put.rest stop.2,
        (lines_of h, moment_now h _ _ refl refl),
      );
    }

some_lines : (xs : List ℕ) (n : ℕ) → n < length xs → xs ≢ []
some_lines [] n h = absurd (omega (arith, h))
some_lines (x ∷ xs) n h = λ e. cc

-- the lines fail in front of the last octets
lacks_in_front : (h : List Piece) (octets lines : List ℕ) (s s' : Streams) (lost count written : ℕ) → IsHeldBack h octets lines s → StopsAtLines (put_of s s') lost count → count < s.leading
    → LacksLines h (octets ++ take written s.octets) (lines ++ take count s.lines) (drop count s.lines)
lacks_in_front h octets lines s s' lost count written k put lt =
    let behind : last_lines h ≡ drop s.leading s.lines = k.behind (λ e. absurd (omega (arith, e, lt))) in
    record {
      octets_lost = drop written s.octets;
      all_octets = k.all_octets ∙ two_parts octets s.octets written;
      some = omega (arith, length-drop count s.lines, put.within);
      all_lines = k.all_lines ∙ two_parts lines s.lines count;
      behind = inr (omega (arith, ap length behind, length-drop count s.lines, length-drop s.leading s.lines, lt, put.within, k.leading_within));
    }

order_in_front : (h : List Piece) (octets lines : List ℕ) (s s' : Streams) (lost count written : ℕ) → IsHeldBack h octets lines s → StopsAtLines (put_of s s') lost count → written ≤ s.before
    → IsInOrder h (octets ++ take written s.octets) (lines ++ take count s.lines)
order_in_front h octets lines s s' lost count written k put le = record {
  octets_left = take (s.before - written) (drop written s.octets);
  lines_by_then = lines;
  lines_since = take count s.lines;
  moment = moment_at h _ _ _ _ (ap (λ l. octets ++ l) (first_parts s.octets written s.before le) ∙ sym (append_assoc octets _ _)) refl (k.before (some_lines s.lines count put.within));
  lines_out = refl;
}

got_in_front : (o r : Option (List ℕ)) (h : List Piece) (s s' : Streams) (lost count : ℕ) → s.failed ≡ None → HasGot o r h s → KeepsStop (Some (stop_of Report lost)) s'
    → StopsAtLines (put_of s s') lost count → count < s.leading → Appends s.output s'.output (take s.before s.octets) → HasGot o r h (emptied s')
got_in_front o r h s s' lost count sound g stop put lt put_octets =
    let k : IsHeldBack h g.octets g.lines s = rest_at s.failed None h _ _ s sound g.rest in
    record {
      octets = g.octets ++ take s.before s.octets;
      lines = g.lines ++ take count s.lines;
      octets_out = appends_both o s.output s'.output g.octets _ g.octets_out put_octets;
      lines_out = appends_both r s.report s'.report g.lines _ g.lines_out put.lines;
      order = order_in_front h g.octets g.lines s s' lost count s.before k put (omega arith);
      rest = rest_at (Some Report) s'.failed h _ _ (emptied s') (sym stop.0) (
        drop count s.lines,
        lacks_in_front h g.octets g.lines s s' lost count s.before k put lt,
        stop.1 ∙ counted s.lines count lost put.rest stop.2,
        (g.lines, k.before (some_lines s.lines count put.within)),
      );
    }

got_both : (o r : Option (List ℕ)) (h : List Piece) (s s' : Streams) (lost count written : ℕ) → s.failed ≡ None → HasGot o r h s → KeepsStop (Some (stop_of Both lost)) s'
    → StopsAtLines (put_of s s') lost count → count < s.leading → written < s.before → Appends s.output s'.output (take written s.octets) → HasGot o r h (emptied s')
got_both o r h s s' lost count written sound g stop put lt fewer put_octets =
    let k : IsHeldBack h g.octets g.lines s = rest_at s.failed None h _ _ s sound g.rest in
    record {
      octets = g.octets ++ take written s.octets;
      lines = g.lines ++ take count s.lines;
      octets_out = appends_both o s.output s'.output g.octets _ g.octets_out put_octets;
      lines_out = appends_both r s.report s'.report g.lines _ g.lines_out put.lines;
      order = order_in_front h g.octets g.lines s s' lost count written k put (omega (arith, fewer));
      rest = rest_at (Some Both) s'.failed h _ _ (emptied s') (sym stop.0)
          (drop count s.lines, lacks_in_front h g.octets g.lines s s' lost count written k put lt, stop.1 ∙ counted s.lines count lost put.rest stop.2);
    }

got_to_lines : (o r : Option (List ℕ)) (h : List Piece) (s s' : Streams) (lost count : ℕ) → s.failed ≡ None → HasGot o r h s → StopsAtLines (put_of s s') lost count → AddsOctets (put_of s s') count
    → KeepsStop (Some (stop_of Report lost)) s' → HasGot o r h (emptied s')
got_to_lines o r h s s' lost count sound g put octets stop = elim octets [
  | inl p ↦ got_behind o r h s s' lost count sound g stop put p.0 p.1
  | inr p ↦ got_in_front o r h s s' lost count sound g stop put p.0 p.1
]

pub got_stopped : (o r : Option (List ℕ)) (h : List Piece) (s s' : Streams) (failed : Failed) (lost : ℕ) → s.failed ≡ None → HasGot o r h s → StopsAt failed lost (put_of s s') → KeepsStop (Some (stop_of failed lost)) s' → HasGot o r h (emptied s')
got_stopped o r h s s' Output lost sound g put stop = got_to_octets o r h s s' lost sound g put stop
got_stopped o r h s s' Report lost sound g put stop = got_to_lines o r h s s' lost put.0 sound g put.1 put.2 stop
got_stopped o r h s s' Both lost sound g (count, put, (lt, (written, fewer, octets))) stop = got_both o r h s s' lost count written sound g stop put lt fewer octets

pub none_of : (f : Option Failed) → is_some f ≡ false → f ≡ None
none_of None e = refl
none_of (Some f) e = cc

-- ---- nothing is written

got_put : (stop : Option Stop) (o r : Option (List ℕ)) (h : List Piece) (s s' : Streams) → s.failed ≡ None → HasGot o r h s → HasPut stop (put_of s s') → KeepsStop stop s' → HasGot o r h (emptied s')
got_put None o r h s s' sound g put kept = got_whole o r h s s' sound g put kept
got_put (Some stop) o r h s s' sound g put kept = got_stopped o r h s s' stop.failed stop.lost sound g put kept

pub goes_on_put : (s s' t : Streams) → s.failed ≡ None → PutsHeld s s' → t ≡ emptied s' → GoesOn after_nothing s t
goes_on_put s s' t sound p e o r h g = subst (λ x. HasGot o r h x) (sym e) (got_put p.stop o r h s s' sound g p.put p.kept)

-- ---- nothing is written

got_emptied : (f : Option Failed) (h : List Piece) (octets lines : List ℕ) (s : Streams) → IsSome f → HasRest f h octets lines s → HasRest f h octets lines (emptied s)
got_emptied None h octets lines s some k = cc
got_emptied (Some Output) h octets lines s some k = k
got_emptied (Some Report) h octets lines s some k = k
got_emptied (Some Both) h octets lines s some k = k

pub goes_on_still : (s t : Streams) → IsSome s.failed → t ≡ emptied s → GoesOn after_nothing s t
goes_on_still s t some e o r h g = subst (λ x. HasGot o r h x) (sym e) (record {
  octets = g.octets;
  lines = g.lines;
  octets_out = g.octets_out;
  lines_out = g.lines_out;
  order = g.order;
  rest = got_emptied s.failed h g.octets g.lines s some g.rest;
})

rest_asked : (f : Option Failed) (h : List Piece) (octets lines : List ℕ) (s : Streams) (input : Option (List ℕ)) → HasRest f h octets lines s → HasRest f h octets lines (record s { input = input })
rest_asked None h octets lines s input k = record {
  all_octets = k.all_octets;
  all_lines = k.all_lines;
  before_within = k.before_within;
  before = k.before;
  leading_within = k.leading_within;
  leading = k.leading;
  behind = k.behind;
}
rest_asked (Some Output) h octets lines s input k = k
rest_asked (Some Report) h octets lines s input k = k
rest_asked (Some Both) h octets lines s input k = k

-- the input was asked
pub got_asked : (o r : Option (List ℕ)) (h : List Piece) (input input' output report : Option (List ℕ)) (octets lines : List ℕ) (before leading lost : ℕ) (failed : Option Failed)
    → HasGot o r h (record { input = input; output = output; report = report; octets = octets; lines = lines; before = before; leading = leading; lost = lost; failed = failed })
    → HasGot o r h (record { input = input'; output = output; report = report; octets = octets; lines = lines; before = before; leading = leading; lost = lost; failed = failed })
got_asked o r h input input' output report octets lines before leading lost failed g = record {
  octets = g.octets;
  lines = g.lines;
  octets_out = g.octets_out;
  lines_out = g.lines_out;
  order = g.order;
  rest = rest_asked failed h g.octets g.lines _ input' g.rest;
}

-- ---- what is taken

pub taken_whole : {E : Type 0} (result : Result ℕ E) (piece : List ℕ) → IfOk result (λ n. n ≡ length piece) → IfOk result (λ n. take n piece ≡ piece)
taken_whole (Ok n) piece e = ap (λ k. take k piece) e ∙ take-length piece
taken_whole (Err x) piece e = tt

pub front_taken : (piece : List ℕ) (m n : ℕ) → m ≤ length piece → n ≡ length (take m piece) → take n piece ≡ take m piece
front_taken piece m n le e = let at : n ≡ m = omega (arith, length-take m piece) in ap (λ k. take k piece) at

pub taken_front : {E : Type 0} (result : Result ℕ E) (piece : List ℕ) (m : ℕ) → m ≤ length piece → IfOk result (λ n. n ≡ length (take m piece)) → IfOk result (λ n. take n piece ≡ take m piece)
taken_front (Ok n) piece m le e = front_taken piece m n le e
taken_front (Err x) piece m le e = tt

pub goes_on_octets : {E : Type 0} (result : Result ℕ E) (s s' : Streams) (piece text : List ℕ) → IfOk result (λ n. take n piece ≡ text) → OnOk result (s.failed ≡ None)
    → OnOk result (s' ≡ record s { octets = s.octets ++ text; leading = length s.lines }) → OnErr result (s' ≡ s) → GoesOn (after_octets piece result) s s'
goes_on_octets (Ok n) s s' piece text taken sound e none o r h g =
    subst (λ x. HasGot o r (to_output (take n piece) ∷ h) x) (sym e) (subst (λ l. HasGot o r (to_output l ∷ h) (record s { octets = s.octets ++ text; leading = length s.lines })) (sym taken) (got_octets o r h s text sound g))
goes_on_octets (Err x) s s' piece text taken sound e none o r h g = subst (λ x. HasGot o r h x) (sym none) g

lines_held : (o r : Option (List ℕ)) (h : List Piece) (s s' : Streams) (text : List ℕ) → HoldsLines s s' text → HasGot o r h s → HasGot o r (to_report text ∷ h) s'
lines_held o r h s s' text k g = elim (none_or_some s.failed) [
  | inl sound ↦ elim (nil_or_not s.lines) [
    | inl none ↦ subst (λ x. HasGot o r (to_report text ∷ h) x) (sym (k.first sound none)) (got_first_lines o r h s text sound none g)
    | inr some ↦ subst (λ x. HasGot o r (to_report text ∷ h) x) (sym (k.more sound some)) (got_more_lines o r h s text sound some g)
  ]
  | inr some ↦ subst (λ x. HasGot o r (to_report text ∷ h) x) (sym (k.dropped some)) (got_dropped o r h s text some g)
]

pub goes_on_lines : (n : ℕ) (s s' : Streams) (piece text : List ℕ) → take n piece ≡ text → HoldsLines s s' text → GoesOn (after_lines piece n) s s'
goes_on_lines n s s' piece text taken k o r h g = subst (λ l. HasGot o r (to_report l ∷ h) s') (sym taken) (lines_held o r h s s' text k g)

pub goes_on_then : (next : List Piece → List Piece) (s t u : Streams) → GoesOn after_nothing s t → GoesOn next t u → GoesOn next s u
goes_on_then next s t u first second o r h g = second o r h (first o r h g)

-- ---- the end

line_lost : (h : List Piece) (octets lines lost : List ℕ) (n own : ℕ) (ending : Ending) → own < 2 ^ 64 → LacksLines h octets lines lost → n ≡ number_lost lost
    → (own < n → ending ≡ LineLost) → (n ≤ own → ending ≡ OwnLineLost) → EndsAs ending h octets lines own
line_lost h octets lines lost n own ending fits k number before_own of_own = elim (cases_lt own n) [
  | inl lt ↦ subst (λ e. EndsAs e h octets lines own) (sym (before_own lt)) (lost, k, omega (arith, number, lt))
  | inr le ↦ subst (λ e. EndsAs e h octets lines own) (sym (of_own le)) (
    lost,
    k,
    omega (arith, number, le, fits),
    λ last.
        elim k.behind [
          | inl whole ↦ whole
          | inr fewer ↦ absurd (omega (arith, number, le, fits, last, fewer))
        ],
  )
]

ends : (f : Option Failed) (h : List Piece) (octets lines : List ℕ) (s : Streams) (own : ℕ) (ending : Ending) → s.octets ≡ [] → s.lines ≡ [] → own < 2 ^ 64
    → HasRest f h octets lines s → TellsEnding f s.lost own ending → EndsAs ending h octets lines own
ends None h octets lines s own ending no_octets no_lines fits k t = subst (λ e. EndsAs e h octets lines own) (sym t)
    (sym (k.all_octets ∙ ap (λ l. octets ++ l) no_octets ∙ append-nil octets), sym (k.all_lines ∙ ap (λ l. lines ++ l) no_lines ∙ append-nil lines))
ends (Some Output) h octets lines s own ending no_octets no_lines fits (lost, k, n) t = subst (λ e. EndsAs e h octets lines own) (sym t) (lost, k)
ends (Some Report) h octets lines s own ending no_octets no_lines fits (lost, k, n, whole) t = line_lost h octets lines lost s.lost own ending fits k n t.0 t.1
ends (Some Both) h octets lines s own ending no_octets no_lines fits (lost, k, n) t = line_lost h octets lines lost s.lost own ending fits k n t.0 t.1

pub got_ended : (o r : Option (List ℕ)) (h : List Piece) (s : Streams) (own : ℕ) (ending : Ending) → s.octets ≡ [] → s.lines ≡ [] → own < 2 ^ 64
    → TellsEnding s.failed s.lost own ending → HasGot o r h s → HasEnded o r s.output s.report h own ending
got_ended o r h s own ending no_octets no_lines fits t g = record {
  octets = g.octets;
  lines = g.lines;
  octets_out = g.octets_out;
  lines_out = g.lines_out;
  order = g.order;
  rest = ends s.failed h g.octets g.lines s own ending no_octets no_lines fits g.rest t;
}
