-- Octets that are moved up, and room that is filled.
use Rattle.std.proofs.Common.{◌≡◌, ℕ, ◌+◌, ◌-◌, ◌*◌, ◌≤◌, List, [], ◌++◌, length, take, drop, refl, sym, ◌∙◌, ap, subst, arith, append_assoc, append-nil, length-append, length-drop, length-take-le, take-add}
use Rattle.std.proofs.lemmas.List.{take_at, drop_at, take-take, take-append-le, drop-append-le, drop-take, drop-drop}
use Rattle.std.proofs.Math.Seq.{take-append-add}
use Rattle.ax_bits.specs.Bits.{bits}
use Rattle.ax_bits.proofs.Pieces.{take-bits, drop-bits}
use Rattle.ax_bits.proofs.Words.{bits-append, length-bits}
use Rattle.ax_printed_lines.specs.Laid.{laid, Lays, Leaves, Fills}
use Rattle.ax_printed_lines.specs.declared.laid.LaidBits.{LaidBits}

-- ---- octets that are moved up

-- of the octets from `from` on, those before `read` are copied to `to` and those after it, where they end at `stop`
pub record MovedSoFar (old now : List ℕ) (from to read stop : ℕ) : Type 0 where
  pub gap : read + to ≡ stop + from
  pub begun : to ≤ stop
  pub size : length now ≡ length old
  pub moved : take stop now ≡ take stop (take to old ++ drop from old)
  pub rest : drop read now ≡ drop read old

pub moved_first : (old : List ℕ) (from to : ℕ) → to ≤ from → from ≤ length old → MovedSoFar old old from to from to
moved_first old from to le within =
    let size = length-take-le to old (omega (arith, le, within)) in record {
      gap = omega arith;
      begun = omega arith;
      size = refl;
      moved = sym (take_at (take to old) (drop from old) to size);
      rest = refl;
    }

-- what stands in the whole after a place in it
whole_after : (old : List ℕ) (from to count : ℕ) → to ≤ length old → drop (to + count) (take to old ++ drop from old) ≡ drop (from + count) old
whole_after old from to count within =
    sym (drop-drop count to (take to old ++ drop from old)) ∙ ap (drop count) (drop_at (take to old) (drop from old) to (length-take-le to old within)) ∙ drop-drop count from old

-- from a later place on, lists that are the same from an earlier one on are the same
same_later : (xs ys : List ℕ) (i j : ℕ) → i ≤ j → drop i xs ≡ drop i ys → drop j xs ≡ drop j ys
same_later xs ys i j le e =
    let on : i + (j - i) ≡ j = omega (arith, le) in
    subst (λ k. drop k xs ≡ drop k ys) on (sym (drop-drop (j - i) i xs) ∙ ap (drop (j - i)) e ∙ drop-drop (j - i) i ys)

pub moved_next : (old now new : List ℕ) (from to read stop count : ℕ) → to ≤ from → to ≤ length old → MovedSoFar old now from to read stop → length new ≡ length now → take (stop + count) new ≡ take stop now ++ take count (drop read now) → drop (stop + count) new ≡ drop (stop + count) now
    → MovedSoFar old new from to (read + count) (stop + count)
moved_next old now new from to read stop count le within m size copied rest =
    let all = take to old ++ drop from old in
    let done = stop - to in
    let stops : to + done ≡ stop = omega (arith, m.begun) in
    let reads : from + done ≡ read = omega (arith, m.begun, m.gap) in
    let following : drop stop all ≡ drop read old = ap (λ k. drop k all) (sym stops) ∙ whole_after old from to done within ∙ ap (λ k. drop k old) reads in
    record {
      gap = omega (arith, m.gap);
      begun = omega (arith, m.begun);
      size = size ∙ m.size;
      moved = copied ∙ (λ i. m.moved i ++ take count ((m.rest ∙ sym following) i)) ∙ sym (take-add stop count all);
      rest = same_later new now (stop + count) (read + count) (omega (arith, le, m.gap)) rest ∙ same_later now old read (read + count) (omega arith) m.rest;
    }

pub moved_whole : (old now : List ℕ) (from to read stop end count : ℕ) → to ≤ length old → MovedSoFar old now from to read stop → end ≡ to + count → end ≤ stop → take end now ≡ take to old ++ take count (drop from old)
moved_whole old now from to read stop end count within m is le =
    let all = take to old ++ drop from old in
    let size = length-take-le to old within in
    sym (take-take end stop now le) ∙ ap (take end) m.moved ∙ take-take end stop all le ∙ ap (λ k. take k all) (is ∙ ap (λ k. k + count) (sym size)) ∙ take-append-add (take to old) (drop from old) count

-- ---- room that is filled

pub room_filled : (all mid new octets held : List ℕ) (at room count end : ℕ) → at + room ≤ count → count ≤ length all → length octets ≤ room → mid ≡ take at all ++ (octets ++ drop (at + length octets) all)
    → take end new ≡ take (at + length octets) mid ++ take (count - (at + room)) (drop (at + room) mid)
    → bits (take end new) ++ held ≡ take (8 * at) (bits (take count all) ++ held) ++ (bits octets ++ drop (8 * at + 8 * room) (bits (take count all) ++ held))
room_filled all mid new octets held at room count end inside within fits replaced moved =
    let behind = at + room in
    let few = count - behind in
    let stop = at + length octets in
    let front = take at all in
    let back = take few (drop behind all) in
    let size : length (front ++ octets) ≡ stop = length-append front octets ∙ ap (λ k. k + length octets) (length-take-le at all (omega (arith, inside, within))) in
    let mid_is : mid ≡ (front ++ octets) ++ drop stop all = replaced ∙ sym (append_assoc front octets (drop stop all)) in
    let head : take stop mid ≡ front ++ octets = ap (take stop) mid_is ∙ take_at (front ++ octets) (drop stop all) stop size in
    let same : drop stop mid ≡ drop stop all = ap (drop stop) mid_is ∙ drop_at (front ++ octets) (drop stop all) stop size in
    let tail : drop behind mid ≡ drop behind all = same_later mid all stop behind (omega (arith, fits)) same in
    let whole : take end new ≡ (front ++ octets) ++ back = moved ∙ (λ i. head i ++ take few (tail i)) in
    let left : bits (take end new) ++ held ≡ bits front ++ (bits octets ++ (bits back ++ held)) =
    ap (λ w. bits w ++ held) whole ∙ ap (λ w. w ++ held) (bits-append (front ++ octets) back ∙ ap (λ w. w ++ bits back) (bits-append front octets))
    ∙ append_assoc (bits front ++ bits octets) (bits back) held ∙ append_assoc (bits front) (bits octets) (bits back ++ held) in
    let kept = take count all in
    let long : length (bits kept) ≡ 8 * count = length-bits kept ∙ ap (λ k. 8 * k) (length-take-le count all within) in
    let first : take (8 * at) (bits kept ++ held) ≡ bits front = take-append-le (8 * at) (bits kept) held (omega (arith, long, inside)) ∙ take-bits at kept ∙ ap bits (take-take at count all (omega (arith, inside))) in
    let place : 8 * at + 8 * room ≡ 8 * behind = omega arith in
    let sum : count ≡ behind + few = omega (arith, inside) in
    let last : drop (8 * at + 8 * room) (bits kept ++ held) ≡ bits back ++ held =
    ap (λ k. drop k (bits kept ++ held)) place ∙ drop-append-le (8 * behind) (bits kept) held (omega (arith, long, inside)) ∙ ap (λ w. w ++ held) (drop-bits behind kept ∙ ap bits (ap (λ k. drop behind (take k all)) sum ∙ drop-take behind few all)) in
    left ∙ (λ i. sym first i ++ (bits octets ++ sym last i))

-- ---- room that is left

pub room_left : (all held : List ℕ) (count room : ℕ) → count + room ≤ length all → held ≡ [] → (there : List ℕ) × (bits (take (count + room) all) ++ held ≡ (bits (take count all) ++ held) ++ there) × (length there ≡ 8 * room) × (length (bits (take count all) ++ held) ≡ 8 * count)
room_left all held count room within none = (
  bits (take room (drop count all)),
  ap (λ w. bits (take (count + room) all) ++ w) none ∙ append-nil (bits (take (count + room) all)) ∙ ap bits (take-add count room all) ∙ bits-append (take count all) (take room (drop count all)) ∙ ap (λ w. w ++ bits (take room (drop count all))) (sym (append-nil (bits (take count all))) ∙ ap (λ w. bits (take count all) ++ w) (sym none)),
  length-bits (take room (drop count all)) ∙ ap (λ k. 8 * k) (length-take-le room (drop count all) (omega (arith, within, length-drop count all))),
  ap (λ w. length (bits (take count all) ++ w)) none ∙ ap length (append-nil (bits (take count all))) ∙ length-bits (take count all) ∙ ap (λ k. 8 * k) (length-take-le count all (omega (arith, within))),
)

-- the same where what was laid is held otherwise before
pub leaves_after : (old mid new : LaidBits) (n room : ℕ) → laid mid ≡ laid old → Leaves mid new n room → Leaves old new n room
leaves_after old mid new n room e l = record { there = l.there; lays = l.lays ∙ ap (λ w. w ++ l.there) e; size = l.size; before = ap length (sym e) ∙ l.before }

pub fills_after : (old mid new : LaidBits) (n room : ℕ) (b : List ℕ) → laid mid ≡ laid old → Fills mid new n room b → Fills old new n room b
fills_after old mid new n room b e f = f ∙ ap (λ w. take (8 * n) w ++ (b ++ drop (8 * n + 8 * room) w)) e

-- what was laid behind room stands behind the bits by which that is filled
pub left_filled : (old mid last new : LaidBits) (n room : ℕ) (inner b : List ℕ) → Leaves old mid n room → Lays mid last inner → Fills last new n room b → Lays old new (b ++ inner)
left_filled old mid last new n room inner b l p f =
    let all : laid last ≡ laid old ++ (l.there ++ inner) = p ∙ ap (λ w. w ++ inner) l.lays ∙ append_assoc (laid old) l.there inner in
    let front : take (8 * n) (laid last) ≡ laid old = ap (take (8 * n)) all ∙ take_at (laid old) (l.there ++ inner) (8 * n) l.before in
    let size : length (laid old ++ l.there) ≡ 8 * n + 8 * room = length-append (laid old) l.there ∙ (λ i. l.before i + l.size i) in
    let back : drop (8 * n + 8 * room) (laid last) ≡ inner = ap (drop (8 * n + 8 * room)) (all ∙ sym (append_assoc (laid old) l.there inner)) ∙ drop_at (laid old ++ l.there) inner (8 * n + 8 * room) size in
    f ∙ (λ i. front i ++ (b ++ back i))
