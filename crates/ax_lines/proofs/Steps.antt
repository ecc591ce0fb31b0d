-- Octets taken, step by step.
use Rattle.std.proofs.Common.{◌≡◌, ℕ, ◌+◌, ◌-◌, ◌<◌, ◌≤◌, List, [], ◌∷◌, ◌++◌, Option, Some, None, length, take, drop, slice_range, sym, ◌∙◌, ap, subst, arith, append_assoc, append-nil, length-take-le, length-append}
use Rattle.std.proofs.lemmas.List.{take-append-le, take-take, take_at}
use Rattle.std.proofs.Math.Seq.{take-append-add, drop-append_seam}
use Rattle.ax_endpoints.proofs.Ends.{with_front-append, with_front-nil}
use Rattle.ax_endpoints.specs.Changes.{SourceChange}
use Rattle.ax_endpoints.specs.Told.{with_front, IsAtEnd}
use borrow.Rule.Slice.PartMut.{put_mid, post_of, same_len_mid}
use Rattle.ax_lines.specs.Feeds.{IsPlain, IsFeedAt}
use Rattle.ax_lines.specs.Holding.{Took, HoldsLine}

-- ---- lists without a line feed, and one after them

pub plain-append : (xs ys : List ℕ) → IsPlain xs → IsPlain ys → IsPlain (xs ++ ys)
plain-append [] ys p q = q
plain-append (x ∷ xs) ys p q = (p.0, plain-append xs ys p.1 q)

pub plain_on : (before octets more : List ℕ) → IsPlain (before ++ octets) → IsPlain more → IsPlain (before ++ (octets ++ more))
plain_on before octets more p q = subst IsPlain (append_assoc before octets more) (plain-append (before ++ octets) more p q)

feed_after : (xs ys : List ℕ) (at : ℕ) → IsPlain xs → IsFeedAt ys at → IsFeedAt (xs ++ ys) (length xs + at)
feed_after xs ys at p h = record {
  front = xs ++ h.front;
  following = h.following;
  split = ap (λ l. xs ++ l) h.split ∙ sym (append_assoc xs h.front (10 ∷ h.following));
  plain = plain-append xs h.front p h.plain;
  place = length-append xs h.front ∙ ap (λ n. length xs + n) h.place;
}

pub feed_on : (before octets more : List ℕ) (filled at : ℕ) → length (before ++ octets) ≡ filled → IsPlain (before ++ octets) → IsFeedAt more at → IsFeedAt (before ++ (octets ++ more)) (filled + at)
feed_on before octets more filled at size p h =
    subst (λ l. IsFeedAt l (filled + at)) (append_assoc before octets more) (subst (λ n. IsFeedAt ((before ++ octets) ++ more) (n + at)) size (feed_after (before ++ octets) more at p h))

-- ---- what was taken stands in the buffer

-- after those buffered before, these octets were taken, and both stand at the front of the buffer
pub record Stands (i : SourceChange) (before buffer : List ℕ) (filled : ℕ) : Type 0 where
  pub octets : List ℕ
  pub took : Took i octets
  pub within : filled ≤ length buffer
  pub stands : take filled buffer ≡ before ++ octets

-- and no line feed is among them
pub record StandsPlain (i : SourceChange) (before buffer : List ℕ) (filled : ℕ) : Type 0 where
  pub all : Stands i before buffer filled
  pub plain : IsPlain (before ++ all.octets)

abbrev pub change : Option (List ℕ) → Option (List ℕ) → ℕ → ℕ → ℕ → ℕ → SourceChange
change left left' taken taken' faults faults' = record { left = left; left' = left'; taken = taken; taken' = taken'; faults = faults; faults' = faults' }

pub took_none : (left : Option (List ℕ)) (taken faults faults' : ℕ) → Took (change left left taken taken faults faults') []
took_none left taken faults faults' = record { gives = sym (with_front-nil left); number = omega arith }

pub starts_plain : (left : Option (List ℕ)) (taken faults : ℕ) (buffer : List ℕ) (buffered : ℕ) → buffered ≤ length buffer → IsPlain (take buffered buffer) → StandsPlain (change left left taken taken faults faults) (take buffered buffer) buffer buffered
starts_plain left taken faults buffer buffered le plain = record {
  all = record { octets = []; took = took_none left taken faults faults; within = le; stands = sym (append-nil (take buffered buffer)) };
  plain = subst IsPlain (sym (append-nil (take buffered buffer))) plain;
}

pub stands_size : (i : SourceChange) (before buffer : List ℕ) (filled : ℕ) (s : Stands i before buffer filled) → length (before ++ s.octets) ≡ filled
stands_size i before buffer filled s = ap length (sym s.stands) ∙ length-take-le filled buffer s.within

-- the part that a read has filled, from its place
pub part_read : (buffer part : List ℕ) (at k n : ℕ) → at ≤ length buffer → n ≤ length part → take (at + n - at) (drop at (put_mid at k buffer part)) ≡ take n part
part_read buffer part at k n le room =
    let size : length (take at buffer) ≡ at = length-take-le at buffer le in
    let count : at + n - at ≡ n = omega arith in
    let following : drop at (put_mid at k buffer part) ≡ part ++ post_of at k buffer
    = ap (λ m. drop m (put_mid at k buffer part)) (sym size) ∙ drop-append_seam (take at buffer) (part ++ post_of at k buffer) in
    ap (λ m. take m (drop at (put_mid at k buffer part))) count ∙ ap (take n) following ∙ take-append-le n part (post_of at k buffer) room

-- there is room for it
pub still_within : (buffer part : List ℕ) (at k n : ℕ) → at ≤ length buffer → n ≤ length part → at + n ≤ length (put_mid at k buffer part)
still_within buffer part at k n le room =
    rw (length-append, length-append) (let e : length (take at buffer) ≡ at = length-take-le at buffer le in omega arith)

-- a part is as long as before, and the octets that stand there are all of the buffer's
pub all_put : (buffer items part : List ℕ) (len at k : ℕ) → length buffer ≡ len → length part ≡ length (take k (drop at buffer)) → take len (put_mid at k buffer part ++ drop (length (put_mid at k buffer part)) items) ≡ put_mid at k buffer part
all_put buffer items part len at k size same =
    take_at (put_mid at k buffer part) (drop (length (put_mid at k buffer part)) items) len (same_len_mid at k buffer part same ∙ size)

-- the first octets of a list that begins with k others
take-past : (xs ys : List ℕ) (k n : ℕ) → length xs ≡ k → take (k + n) (xs ++ ys) ≡ xs ++ take n ys
take-past xs ys k n e = rw (← e) (take-append-add xs ys n)

-- n more octets came into the buffer
pub reads_on : (left mid left' : Option (List ℕ)) (taken between taken' faults later later' : ℕ) (before buffer part : List ℕ) (filled k n : ℕ) → Stands (change left mid taken between faults later) before buffer filled → n ≤ length part
    → mid ≡ with_front (take n part) left' → taken' ≡ between + n → Stands (change left left' taken taken' faults later') before (put_mid filled k buffer part) (filled + n)
reads_on left mid left' taken between taken' faults later later' before buffer part filled k n s room gives number =
    let size : length (take n part) ≡ n = length-take-le n part room in
    let number' : between ≡ taken + length s.octets = s.took.number in
    let joined : length (s.octets ++ take n part) ≡ length s.octets + length (take n part) = length-append s.octets (take n part) in
    record {
      octets = s.octets ++ take n part;
      took = record { gives = s.took.gives ∙ ap (with_front s.octets) gives ∙ with_front-append left' s.octets (take n part); number = omega arith };
      within = still_within buffer part filled k n s.within room;
      stands = take-past (take filled buffer) (part ++ post_of filled k buffer) filled n (length-take-le filled buffer s.within) ∙ ap (λ l. take filled buffer ++ l) (take-append-le n part (post_of filled k buffer) room)
          ∙ ap (λ l. l ++ take n part) s.stands ∙ append_assoc before s.octets (take n part);
    }

module _ (left mid left' : Option (List ℕ)) (taken counted taken' faults later later' : ℕ) (before buffer part : List ℕ) (filled k n : ℕ) (s : StandsPlain (change left mid taken counted faults later) before buffer filled) (room : n ≤ length part)
    (gives : mid ≡ with_front (take n part) left') (number : taken' ≡ counted + n) where
  now : Stands (change left left' taken taken' faults later') before (put_mid filled k buffer part) (filled + n)
  now = reads_on left mid left' taken counted taken' faults later later' before buffer part filled k n s.all room gives number

  -- without a line feed
  pub reads_plain : IsPlain (take (filled + n - filled) (drop filled (put_mid filled k buffer part))) → StandsPlain (change left left' taken taken' faults later') before (put_mid filled k buffer part) (filled + n)
  unfolding now reads_on
  reads_plain p = record { all = now; plain = plain_on before s.all.octets (take n part) s.plain (subst IsPlain (part_read buffer part filled k n s.all.within room) p) }

  -- with one
  pub holds_feed : (most at : ℕ) → IsFeedAt (take (filled + n - filled) (drop filled (put_mid filled k buffer part))) at
      → HoldsLine (change left left' taken taken' faults later') before (put_mid filled k buffer part) most (record { start = 0; end = filled + n; feed = Some (filled + at) })
  unfolding now reads_on
  holds_feed most at h = record {
    octets = now.octets;
    took = now.took;
    window = omega arith;
    within = now.within;
    stands = ap (λ m. take m (put_mid filled k buffer part)) (let e : filled + n - 0 ≡ filled + n = omega arith in e) ∙ now.stands;
    feed = feed_on before s.all.octets (take n part) filled at (stands_size (change left mid taken counted faults later) before buffer filled s.all) s.plain (subst (λ l. IsFeedAt l at) (part_read buffer part filled k n s.all.within room) h);
    whole = λ e. absurd (cc);
  }

-- more octets come after those of the buffer
stands_longer : (i : SourceChange) (before buffer more : List ℕ) (filled : ℕ) → take (length buffer) more ≡ buffer → length buffer ≤ length more → Stands i before buffer filled → Stands i before more filled
stands_longer i before buffer more filled front longer s = record {
  octets = s.octets;
  took = s.took;
  within = omega (arith, s.within, longer);
  stands = sym (take-take filled (length buffer) more s.within) ∙ ap (take filled) front ∙ s.stands;
}

pub plain_longer : (i : SourceChange) (before buffer more : List ℕ) (filled : ℕ) → take (length buffer) more ≡ buffer → length buffer ≤ length more → StandsPlain i before buffer filled → StandsPlain i before more filled
unfolding stands_longer
plain_longer i before buffer more filled front longer s = record { all = stands_longer i before buffer more filled front longer s.all; plain = s.plain }

-- no line feed is among those that stand there
pub holds_plain : (i : SourceChange) (before buffer : List ℕ) (filled most : ℕ) → StandsPlain i before buffer filled → (filled < most → IsAtEnd i.left') → HoldsLine i before buffer most (record { start = 0; end = filled; feed = None })
holds_plain i before buffer filled most s ended =
    let size : length (before ++ s.all.octets) ≡ filled = stands_size i before buffer filled s.all in
    record {
      octets = s.all.octets;
      took = s.all.took;
      window = omega arith;
      within = s.all.within;
      stands = ap (λ m. take m buffer) (let e : filled - 0 ≡ filled = omega arith in e) ∙ s.all.stands;
      feed = s.plain;
      whole = λ e fewer. ended (omega arith);
    }

-- a line feed is among those buffered before
pub holds_before : (left : Option (List ℕ)) (taken faults : ℕ) (buffer : List ℕ) (start end most at : ℕ) → start ≤ end → end ≤ length buffer → IsFeedAt (slice_range buffer start end) at
    → HoldsLine (change left left taken taken faults faults) (slice_range buffer start end) buffer most (record { start = start; end = end; feed = Some at })
holds_before left taken faults buffer start end most at window within h = record {
  octets = [];
  took = took_none left taken faults faults;
  window = window;
  within = within;
  stands = sym (append-nil (slice_range buffer start end));
  feed = subst (λ l. IsFeedAt l at) (sym (append-nil (slice_range buffer start end))) h;
  whole = λ e. absurd (cc);
}

pub ruleset steps = (starts_plain, holds_plain)
