-- Each list of octets is framed in one way: block after block, and then one end.
use Rattle.std.proofs.Common.{◌≡◌, ℕ, zero, suc, ◌+◌, ◌<◌, ◌≤◌, List, [], ◌∷◌, ◌++◌, length, drop, refl, sym, ◌∙◌, ap, arith, subst, append_assoc, length-append}
use Rattle.std.proofs.Math.Seq.{drop-append_seam}
use Rattle.ax_bits.specs.Bits.{AreOctets}
use Rattle.ax_format.proofs.Framings.{len_of_front, some_next, one_next}
use Rattle.ax_format.specs.Framing.{RawTree, AreRaws, FramingEnd, whole, FramingEnds, BeginsWithBlock, NextPart, block, end, IsNext, Framed}
use Rattle.ax_format.specs.Streams.{HasOneEnd}

-- the octets, after `before` others, are these blocks one after another, and then that end
abbrev Frames : ℕ → ℕ → List ℕ → List RawTree → FramingEnd → Type 0
Frames limit before octets [] e = FramingEnds limit before octets e
Frames limit before octets (raw ∷ raws) e = (h : BeginsWithBlock limit before octets raw) × Frames limit (before + length h.front) h.after raws e

-- ---- one way

-- what is after a block that begins the octets
same_after : (limit before : ℕ) (octets : List ℕ) (raw other : RawTree) (h : BeginsWithBlock limit before octets raw) (g : BeginsWithBlock limit before octets other)
    → (length h.front ≡ length g.front) × (h.after ≡ g.after)
same_after limit before octets raw other h g =
    let p = len_of_front raw.category raw.body h.front h.after octets h.framed h.split in
    let q = len_of_front other.category other.body g.front g.after octets g.framed g.split in
    let n : length h.front ≡ length g.front = sym p.0 ∙ q.0 in
    (n, sym (drop-append_seam h.front h.after) ∙ ap (drop (length h.front)) (sym h.split ∙ g.split) ∙ ap (λ k. drop k (g.front ++ g.after)) n ∙ drop-append_seam g.front g.after)

frames_once : (limit before : ℕ) (octets : List ℕ) (raws others : List RawTree) (e d : FramingEnd) → before ≤ limit → Frames limit before octets raws e → Frames limit before octets others d → (raws ≡ others) × (e ≡ d)
frames_once limit before octets [] [] e d le h g = (refl, (let s : end d ≡ end e = one_next limit before octets (end e) (end d) le h g in cc))
frames_once limit before octets [] (other ∷ others) e d le h g = absurd (let s : block other ≡ end e = one_next limit before octets (end e) (block other) le h g.0 in cc)
frames_once limit before octets (raw ∷ raws) [] e d le h g = absurd (let s : end d ≡ block raw = one_next limit before octets (block raw) (end d) le h.0 g in cc)
frames_once limit before octets (raw ∷ raws) (other ∷ others) e d le h g =
    let s : block other ≡ block raw = one_next limit before octets (block raw) (block other) le h.0 g.0 in
    let head : raw ≡ other = cc in
    let after = same_after limit before octets raw other h.0 g.0 in
    let rest : Frames limit (before + length h.0.front) h.0.after others d
    = subst (λ l. Frames limit (before + length h.0.front) l others d) (sym after.1) (subst (λ k. Frames limit (before + k) g.0.after others d) (sym after.0) g.1) in
    let more = frames_once limit (before + length h.0.front) h.0.after raws others e d h.0.within h.1 rest in
    ((λ i. head i ∷ more.0 i), more.1)

-- ---- some way

following : (xs ys : List ℕ) → AreOctets (xs ++ ys) → AreOctets ys
following [] ys h = h
following (x ∷ xs) ys h = following xs ys h.1

-- what comes next, and what comes after it
with_next : (limit before : ℕ) (octets : List ℕ) (part : NextPart) → AreOctets octets → IsNext limit before octets part
    → ((between : ℕ) (later : List ℕ) → length later < length octets → AreOctets later → (raws : List RawTree) × (e : FramingEnd) × Frames limit between later raws e)
    → (raws : List RawTree) × (e : FramingEnd) × Frames limit before octets raws e
with_next limit before octets (end e) all h more = ([], e, h)
with_next limit before octets (block raw) all h more =
    let p = len_of_front raw.category raw.body h.front h.after octets h.framed h.split in
    let rest = more (before + length h.front) h.after (omega (arith, p)) (following h.front h.after (subst AreOctets h.split all)) in
    (raw ∷ rest.0, rest.1, (h, rest.2))

-- n is at least the count of the octets
some_frames : (n limit before : ℕ) (octets : List ℕ) → length octets ≤ n → AreOctets octets → (raws : List RawTree) × (e : FramingEnd) × Frames limit before octets raws e
some_frames zero limit before [] le all = ([], whole, refl)
some_frames zero limit before (x ∷ octets) le all = absurd (omega (arith, le))
some_frames (suc n) limit before octets le all =
    let next = some_next limit before octets all in
    with_next limit before octets next.0 all next.1 (λ between later fewer rest. some_frames n limit between later (omega (arith, le, fewer)) rest)

-- ---- framed block after block, or all at once

one_by_one : (limit before : ℕ) (octets front rest : List ℕ) (raws : List RawTree) (e : FramingEnd) → octets ≡ front ++ rest → AreRaws raws front → before + length front ≤ limit → FramingEnds limit (before + length front) rest e
    → Frames limit before octets raws e
one_by_one limit before octets front rest [] e split raws within h =
    let none : octets ≡ rest = split ∙ ap (λ l. l ++ rest) raws in
    let same : before + length front ≡ before = ap (λ l. before + length l) raws ∙ omega arith in
    subst (λ l. FramingEnds limit before l e) (sym none) (subst (λ k. FramingEnds limit k rest e) same h)
one_by_one limit before octets front rest (raw ∷ raws) e split (x, y, both, framed, some, more) within h =
    let count : length front ≡ length x + length y = ap length both ∙ length-append x y in
    let total : before + length front ≡ before + length x + length y = omega arith in (
      record { front = x; after = y ++ rest; split = split ∙ ap (λ l. l ++ rest) both ∙ append_assoc x y rest; framed = framed; some = some; within = omega arith },
      one_by_one limit (before + length x) (y ++ rest) y rest raws e refl more (omega arith) (subst (λ k. FramingEnds limit k rest e) total h),
    )

record AtOnce (limit before : ℕ) (octets : List ℕ) (raws : List RawTree) (e : FramingEnd) : Type 0 where
  front : List ℕ
  rest : List ℕ
  split : octets ≡ front ++ rest
  blocks : AreRaws raws front
  within : before + length front ≤ limit
  ends : FramingEnds limit (before + length front) rest e

at_once : (limit before : ℕ) (octets : List ℕ) (raws : List RawTree) (e : FramingEnd) → before ≤ limit → Frames limit before octets raws e → AtOnce limit before octets raws e
at_once limit before octets [] e le h =
    let same : before ≡ before + 0 = omega arith in
    record { front = []; rest = octets; split = refl; blocks = refl; within = omega arith; ends = subst (λ k. FramingEnds limit k octets e) same h }
at_once limit before octets (raw ∷ raws) e le (h, more) =
    let t = at_once limit (before + length h.front) h.after raws e h.within more in
    let count : length (h.front ++ t.front) ≡ length h.front + length t.front = length-append h.front t.front in
    let within : before + length h.front + length t.front ≤ limit = t.within in
    let total : before + length h.front + length t.front ≡ before + length (h.front ++ t.front) = omega arith in
    record {
      front = h.front ++ t.front;
      rest = t.rest;
      split = h.split ∙ ap (λ l. h.front ++ l) t.split ∙ sym (append_assoc h.front t.front t.rest);
      blocks = (h.front, t.front, refl, h.framed, h.some, t.blocks);
      within = omega arith;
      ends = subst (λ k. FramingEnds limit k t.rest e) total t.ends;
    }

-- ---- whole inputs

from_start : (octets : List ℕ) (limit : ℕ) (raws : List RawTree) (e : FramingEnd) → Framed octets limit raws e → Frames limit 0 octets raws e
from_start octets limit raws e h =
    let none : length h.front ≡ 0 + length h.front = omega arith in
    let within : length h.front ≤ limit = h.within in
    one_by_one limit 0 octets h.front h.rest raws e h.split h.blocks (omega arith) (subst (λ k. FramingEnds limit k h.rest e) none h.ends)

pub framed_once : (octets : List ℕ) (limit : ℕ) (raws others : List RawTree) (e d : FramingEnd) → Framed octets limit raws e → Framed octets limit others d → (raws ≡ others) × (e ≡ d)
framed_once octets limit raws others e d h g = frames_once limit 0 octets raws others e d (omega arith) (from_start octets limit raws e h) (from_start octets limit others d g)

pub some_framed : (octets : List ℕ) (limit : ℕ) → AreOctets octets → (raws : List RawTree) × (e : FramingEnd) × Framed octets limit raws e
some_framed octets limit all =
    let t = some_frames (length octets) limit 0 octets (omega arith) all in
    let h = at_once limit 0 octets t.0 t.1 (omega arith) t.2 in
    let none : 0 + length h.front ≡ length h.front = omega arith in
    let within : 0 + length h.front ≤ limit = h.within in
    (t.0, t.1, record { front = h.front; rest = h.rest; split = h.split; blocks = h.blocks; within = omega arith; ends = subst (λ k. FramingEnds limit k h.rest t.1) none h.ends })

pub one_framed : (octets : List ℕ) (limit : ℕ) → AreOctets octets → HasOneEnd (Framed octets limit)
one_framed octets limit all = record { some = some_framed octets limit all; one = λ raws others e d h g. framed_once octets limit raws others e d h g }

-- ---- some whole blocks, and octets after them

raws_append : (raws others : List RawTree) (front octets : List ℕ) → AreRaws raws front → AreRaws others octets → AreRaws (raws ++ others) (front ++ octets)
raws_append [] others front octets h g = subst (AreRaws others) (ap (λ l. l ++ octets) (sym h)) g
raws_append (raw ∷ raws) others front octets (x, y, split, framed, some, more) g =
    (x, y ++ octets, ap (λ l. l ++ octets) split ∙ append_assoc x y octets, framed, some, raws_append raws others y octets more g)

pub some_framed_after : (front rest : List ℕ) (limit : ℕ) (raws : List RawTree) → AreRaws raws front → length front ≤ limit → AreOctets rest
    → (after : List RawTree) × (e : FramingEnd) × Framed (front ++ rest) limit (raws ++ after) e
some_framed_after front rest limit raws h le all =
    let t = some_frames (length rest) limit (length front) rest (omega arith) all in
    let g = at_once limit (length front) rest t.0 t.1 le t.2 in
    let count : length front + length g.front ≡ length (front ++ g.front) = sym (length-append front g.front) in
    let within : length front + length g.front ≤ limit = g.within in (
      t.0,
      t.1,
      record {
        front = front ++ g.front;
        rest = g.rest;
        split = ap (λ l. front ++ l) g.split ∙ sym (append_assoc front g.front g.rest);
        blocks = raws_append raws t.0 front g.front h g.blocks;
        within = omega arith;
        ends = subst (λ k. FramingEnds limit k g.rest t.1) count g.ends;
      },
    )
