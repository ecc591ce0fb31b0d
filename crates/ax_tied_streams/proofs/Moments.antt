-- The history goes on from call to call.
use Rattle.std.proofs.Common.{◌≡◌, ◌≢◌, ℕ, ◌+◌, ◌<◌, ◌≤◌, ◌⊎◌, List, [], ◌∷◌, ◌++◌, Option, Some, None, length, take, refl, sym, ◌∙◌, ap, subst, inl, inr, append_assoc, append-nil, length-append, arith}
use Rattle.std.specs.Prelude.{IsSome, ◌-◌, ◌^◌, min}
use Rattle.std.proofs.lemmas.List.{take-append-le, drop-append-le}
use Rattle.std.proofs.Math.Seq.{take-length, drop-length}
use Rattle.ax_tied_streams.specs.Histories.{Piece, octets_of, lines_of, last_lines, HasMoment}
use Rattle.ax_tied_streams.specs.Histories.Piece.{to_output, to_report}
use Rattle.ax_tied_streams.specs.Streams.{Streams}
use Rattle.ax_tied_streams.specs.Orders.{IsInOrder, IsHeldBack, HasRest, HasGot, LacksLines, number_lost}
use Rattle.ax_tied_streams.specs.declared.puts.Failed.{Failed}
use Rattle.ax_tied_streams.specs.declared.puts.Failed.TheVariants.{Output, Report, Both}

pub nil_or_not : (xs : List ℕ) → (xs ≡ []) ⊎ (xs ≢ [])
nil_or_not [] = inl refl
nil_or_not (x ∷ xs) = inr (λ e. cc)

pub none_or_some : (f : Option Failed) → (f ≡ None) ⊎ IsSome f
none_or_some None = inl refl
none_or_some (Some f) = inr refl

pub moment_later : (p : Piece) (h : List Piece) (octets lines : List ℕ) → HasMoment h octets lines → HasMoment (p ∷ h) octets lines
moment_later p h octets lines m = record {
  later = p ∷ m.later;
  earlier = m.earlier;
  parts = ap (λ l. p ∷ l) m.parts;
  octets_given = m.octets_given;
  lines_given = m.lines_given;
}

pub moment_now : (h : List Piece) (octets lines : List ℕ) → octets_of h ≡ octets → lines_of h ≡ lines → HasMoment h octets lines
moment_now h octets lines o l = record { later = []; earlier = h; parts = refl; octets_given = o; lines_given = l }

pub moment_at : (h : List Piece) (octets octets' lines lines' : List ℕ) → octets ≡ octets' → lines ≡ lines' → HasMoment h octets lines → HasMoment h octets' lines'
moment_at h octets octets' lines lines' o l m = record {
  later = m.later;
  earlier = m.earlier;
  parts = m.parts;
  octets_given = m.octets_given ∙ o;
  lines_given = m.lines_given ∙ l;
}

pub order_later : (p : Piece) (h : List Piece) (octets lines : List ℕ) → IsInOrder h octets lines → IsInOrder (p ∷ h) octets lines
order_later p h octets lines i = record {
  octets_left = i.octets_left;
  lines_by_then = i.lines_by_then;
  lines_since = i.lines_since;
  moment = moment_later p h _ _ i.moment;
  lines_out = i.lines_out;
}

-- ---- octets or lines are held back

held_octets : (h : List Piece) (octets lines text : List ℕ) (s : Streams) → IsHeldBack h octets lines s
    → IsHeldBack (to_output text ∷ h) octets lines (record s { octets = s.octets ++ text; leading = length s.lines })
held_octets h octets lines text s k =
    let front : take s.before (s.octets ++ text) ≡ take s.before s.octets = take-append-le s.before s.octets text k.before_within in
    record {
      all_octets = ap (λ l. l ++ text) k.all_octets ∙ append_assoc octets s.octets text;
      all_lines = k.all_lines;
      before_within = omega (arith, k.before_within, length-append s.octets text);
      before = λ some. moment_later _ h _ _ (moment_at h _ _ _ _ (ap (λ l. octets ++ l) (sym front)) refl (k.before some));
      leading_within = omega arith;
      leading = moment_now _ _ _ refl (k.all_lines ∙ ap (λ l. lines ++ l) (sym (take-length s.lines)));
      behind = λ some. sym (drop-length s.lines);
    }

held_lines : (h : List Piece) (octets lines text : List ℕ) (before : ℕ) (s : Streams) → IsHeldBack h octets lines s
    → (before ≤ length s.octets) → HasMoment h (octets ++ take before s.octets) lines
    → IsHeldBack (to_report text ∷ h) octets lines (record s { lines = s.lines ++ text; before = before })
held_lines h octets lines text before s k within moment =
    let front : take s.leading (s.lines ++ text) ≡ take s.leading s.lines = take-append-le s.leading s.lines text k.leading_within in
    record {
      all_octets = k.all_octets;
      all_lines = ap (λ l. l ++ text) k.all_lines ∙ append_assoc lines s.lines text;
      before_within = within;
      before = λ some. moment_later _ h _ _ moment;
      leading_within = omega (arith, k.leading_within, length-append s.lines text);
      leading = moment_later _ h _ _ (moment_at h _ _ _ _ refl (ap (λ l. lines ++ l) (sym front)) k.leading);
      behind = λ some. ap (λ l. l ++ text) (k.behind some) ∙ sym (drop-append-le s.leading s.lines text k.leading_within);
    }

pub rest_at : (f f' : Option Failed) (h : List Piece) (octets lines : List ℕ) (s : Streams) → f ≡ f' → HasRest f h octets lines s → HasRest f' h octets lines s
rest_at f f' h octets lines s e r = subst (λ x. HasRest x h octets lines s) e r

pub got_octets : (o r : Option (List ℕ)) (h : List Piece) (s : Streams) (text : List ℕ) → s.failed ≡ None → HasGot o r h s
    → HasGot o r (to_output text ∷ h) (record s { octets = s.octets ++ text; leading = length s.lines })
got_octets o r h s text sound g = record {
  octets = g.octets;
  lines = g.lines;
  octets_out = g.octets_out;
  lines_out = g.lines_out;
  order = order_later _ h _ _ g.order;
  rest = rest_at None s.failed _ _ _ _ (sym sound) (held_octets h g.octets g.lines text s (rest_at s.failed None h _ _ s sound g.rest));
}

pub got_first_lines : (o r : Option (List ℕ)) (h : List Piece) (s : Streams) (text : List ℕ) → s.failed ≡ None → s.lines ≡ [] → HasGot o r h s
    → HasGot o r (to_report text ∷ h) (record s { lines = s.lines ++ text; before = length s.octets })
got_first_lines o r h s text sound none g =
    let k : IsHeldBack h g.octets g.lines s = rest_at s.failed None h _ _ s sound g.rest in
    let moment : HasMoment h (g.octets ++ take (length s.octets) s.octets) g.lines =
    moment_now h _ _ (k.all_octets ∙ ap (λ l. g.octets ++ l) (sym (take-length s.octets))) (k.all_lines ∙ ap (λ l. g.lines ++ l) none ∙ append-nil g.lines) in
    record {
      octets = g.octets;
      lines = g.lines;
      octets_out = g.octets_out;
      lines_out = g.lines_out;
      order = order_later _ h _ _ g.order;
      rest = rest_at None s.failed _ _ _ _ (sym sound) (held_lines h g.octets g.lines text _ s k (omega arith) moment);
    }

pub got_more_lines : (o r : Option (List ℕ)) (h : List Piece) (s : Streams) (text : List ℕ) → s.failed ≡ None → s.lines ≢ [] → HasGot o r h s
    → HasGot o r (to_report text ∷ h) (record s { lines = s.lines ++ text })
got_more_lines o r h s text sound some g =
    let k : IsHeldBack h g.octets g.lines s = rest_at s.failed None h _ _ s sound g.rest in
    record {
      octets = g.octets;
      lines = g.lines;
      octets_out = g.octets_out;
      lines_out = g.lines_out;
      order = order_later _ h _ _ g.order;
      rest = rest_at None s.failed _ _ _ _ (sym sound) (held_lines h g.octets g.lines text _ s k k.before_within (k.before some));
    }

-- ---- after a failure

number_more : (n m : ℕ) → min (min n (2 ^ 128 - 1) + m) (2 ^ 128 - 1) ≡ min (n + m) (2 ^ 128 - 1)
number_more n m = omega arith

more_counted : (lost text : List ℕ) (n : ℕ) → n ≡ number_lost lost → min (n + length text) (2 ^ 128 - 1) ≡ number_lost (lost ++ text)
more_counted lost text n number = ap (λ k. min (k + length text) (2 ^ 128 - 1)) number ∙ number_more (length lost) (length text) ∙ ap (λ k. min k (2 ^ 128 - 1)) (sym (length-append lost text))

lacks_more : (h : List Piece) (octets lines lost text : List ℕ) → LacksLines h octets lines lost → LacksLines (to_report text ∷ h) octets lines (lost ++ text)
lacks_more h octets lines lost text k = record {
  octets_lost = k.octets_lost;
  all_octets = k.all_octets;
  some = omega (arith, k.some, length-append lost text);
  all_lines = ap (λ l. l ++ text) k.all_lines ∙ append_assoc lines lost text;
  behind = elim k.behind as (λ _. (octets ≡ octets_of h) ⊎ (length (last_lines h ++ text) < length (lost ++ text))) [
    | inl whole ↦ inl whole
    | inr fewer ↦ inr (omega (arith, fewer, length-append lost text, length-append (last_lines h) text))
  ];
}

more_lost : (f : Failed) (h : List Piece) (octets lines text : List ℕ) (s : Streams) → HasRest (Some f) h octets lines s
    → HasRest (Some f) (to_report text ∷ h) octets lines (record s { lost = min (s.lost + length text) (2 ^ 128 - 1) })
more_lost Output h octets lines text s (lost, k, number) = (
  lost ++ text,
  record {
    octets_lost = k.octets_lost;
    all_octets = k.all_octets;
    some = k.some;
    all_lines = ap (λ l. l ++ text) k.all_lines ∙ append_assoc lines lost text;
    moment = moment_later _ h _ _ k.moment;
  },
  more_counted lost text s.lost number,
)
more_lost Report h octets lines text s (lost, k, number, (by_then, moment)) =
    (lost ++ text, lacks_more h octets lines lost text k, more_counted lost text s.lost number, (by_then, moment_later _ h _ _ moment))
more_lost Both h octets lines text s (lost, k, number) = (lost ++ text, lacks_more h octets lines lost text k, more_counted lost text s.lost number)

rest_dropped : (f : Option Failed) (h : List Piece) (octets lines text : List ℕ) (s : Streams) → IsSome f → HasRest f h octets lines s
    → HasRest f (to_report text ∷ h) octets lines (record s { lost = min (s.lost + length text) (2 ^ 128 - 1) })
rest_dropped None h octets lines text s some k = cc
rest_dropped (Some f) h octets lines text s some k = more_lost f h octets lines text s k

pub got_dropped : (o r : Option (List ℕ)) (h : List Piece) (s : Streams) (text : List ℕ) → IsSome s.failed → HasGot o r h s
    → HasGot o r (to_report text ∷ h) (record s { lost = min (s.lost + length text) (2 ^ 128 - 1) })
got_dropped o r h s text some g = record {
  octets = g.octets;
  lines = g.lines;
  octets_out = g.octets_out;
  lines_out = g.lines_out;
  order = order_later _ h _ _ g.order;
  rest = rest_dropped s.failed h g.octets g.lines text s some g.rest;
}
