-- Counted and explicit items, and the octet in front of them.
use Rattle.std.proofs.Common.{◌≡◌, ℕ, zero, suc, ◌+◌, ◌-◌, ◌*◌, ◌<◌, ◌≤◌, List, [], ◌∷◌, ◌++◌, length, take, drop, get_or, refl, sym, ◌∙◌, ap, arith, length-append, add-one, drop-cons, length-drop}
use Rattle.std.proofs.lemmas.List.{drop-drop, length-take-le, take-append-drop, get_or_default}
use Rattle.ax_bits.proofs.Pieces.{number-word, word-joined, AreOctets-items}
use Rattle.ax_bits.proofs.Words.{length-word, length-bits, bits-append}
use Rattle.ax_bits.specs.Bits.{bits, word, AreOctets}
use Rattle.ax_format.proofs.FixedKinds.{split_at, split_short}
use Rattle.ax_format.specs.Reader.{Read, got, failed, after, both, read, each_read, count_read, explicit_read, contents_read, octets_read, split, cut, short}
use Rattle.ax_format.proofs.Spelled.{explicit_spelled}
use Rattle.ax_format.specs.Tree.{KindTree, ValueTree, counted, explicit, content_octets, value_and}
use Rattle.ax_format.specs.declared.fault.BodyCause.TheVariants.{RunsOut, BadExplicitLength}
use Rattle.ax_format.specs.declared.fault.BodyFault.{BodyFault}
use Rattle.ax_fspec.proofs.AtOctets.{length-rest}
use Rattle.ax_fspec.specs.Reading.{Gets, FailsAt, kind_read, IsCount}
use Rattle.ax_format.specs.declared.kind.Counter.{Counter}
use Rattle.ax_format.specs.declared.kind.Counter.TheVariants.{One, Two}
use Rattle.ax_format.specs.Widths.{counter_octets, counter_width}
use Rattle.ax_format.proofs.WholeOctets.{counter_in_octets}

-- ---- the octet in front

octet_first : (body : List ℕ) (at n : ℕ) → at < length body → n ≡ get_or body at 0 → drop at body ≡ n ∷ drop (at + 1) body
octet_first body at n lt e =
    let is : n ≡ get_or body at n = e ∙ get_or_default body at 0 n lt in drop-cons body at n lt ∙ (λ i. sym is i ∷ drop (sym (add-one at) i) body)

pub front_octet : (body : List ℕ) (at n : ℕ) → at < length body → n ≡ get_or body at 0 → split 8 (bits (drop at body)) ≡ cut (word 8 n) (bits (drop (at + 1) body))
front_octet body at n lt e =
    ap (λ b. split 8 (bits b)) (octet_first body at n lt e) ∙ split_at (word 8 n) (bits (drop (at + 1) body)) 8 (length-word 8 n)

none_left : (body : List ℕ) (at : ℕ) → length body ≤ at → split 8 (bits (drop at body)) ≡ short
none_left body at le = split_short (bits (drop at body)) 8 (omega (arith, length-rest body at))

-- ---- counters

pub counter_some : (size : Counter) → 0 < counter_octets size
counter_some One = omega arith
counter_some Two = omega arith

pub one_is_count : (body : List ℕ) (at n : ℕ) → at < length body → n ≡ get_or body at 0 → n < 256 → IsCount One body at n
one_is_count body at n lt e less = record { within = omega arith; below = less; spells = ap (λ xs. bits (take 1 xs)) (sym (octet_first body at n lt e)) }

-- the first octet is the most significant
pub two_is_count : (body : List ℕ) (at a b n : ℕ) → at + 1 < length body → a ≡ get_or body at 0 → b ≡ get_or body (at + 1) 0 → a < 256 → b < 256 → n ≡ a * 256 + b → IsCount Two body at n
two_is_count body at a b n lt e f less small is = record {
  within = omega arith;
  below = (let le : n < 65536 = omega arith in le);
  spells = ap (word 16) is ∙ word-joined 8 8 a b small ∙ ap (λ xs. bits (take 2 xs)) (sym shape);
}
  where
    shape : drop at body ≡ a ∷ b ∷ drop (at + 1 + 1) body
    shape = octet_first body at a (omega arith) e ∙ ap (λ xs. a ∷ xs) (octet_first body (at + 1) b lt f)

pub front_count : (size : Counter) (body : List ℕ) (at n : ℕ) → IsCount size body at n → split (counter_width size) (bits (drop at body)) ≡ cut (word (counter_width size) n) (bits (drop (at + counter_octets size) body))
front_count size body at n h =
    let m = counter_octets size in
    let w = word (counter_width size) n in
    let rest : drop m (drop at body) ≡ drop (at + m) body = drop-drop m at body in
    let shape : bits (drop at body) ≡ w ++ bits (drop (at + m) body) =
    ap bits (sym (take-append-drop m (drop at body))) ∙ bits-append (take m (drop at body)) (drop m (drop at body)) ∙ (λ i. sym h.spells i ++ bits (rest i)) in
    ap (split (counter_width size)) shape ∙ split_at w (bits (drop (at + m) body)) (counter_width size) (length-word (counter_width size) n)

-- ---- counted

pub counted_none : (size : Counter) (k : KindTree) (body : List ℕ) (at : ℕ) (fault : BodyFault) → length body < at + counter_octets size → fault.cause ≡ RunsOut → fault.bit ≡ 8 * at → FailsAt (kind_read (counted size k) body at) at fault
unfolding kind_read
counted_none size k body at fault lt c b = record {
  place = 0;
  failed = ap (count_read (counter_width size) (read k)) (split_short (bits (drop at body)) (counter_width size) (omega (arith, length-rest body at, counter_in_octets size, counter_some size))) ∙ ap (λ c. failed 0 c) (sym c);
  bit = omega arith;
}

pub each_first : (rule : List ℕ → Read ValueTree) (m : ℕ) (b y : List ℕ) (v : ValueTree) (l : ℕ) → rule b ≡ got v l y → each_read rule (suc m) b ≡ after l (λ vs. value_and v vs) (each_read rule m y)
each_first rule m b y v l e = ap (λ r. both (λ v vs. value_and v vs) r (each_read rule m)) e

pub each_fails_at : (rule : List ℕ → Read ValueTree) (m : ℕ) (b : List ℕ) (fault : BodyFault) (at : ℕ) → FailsAt (rule b) at fault → FailsAt (each_read rule (suc m) b) at fault
each_fails_at rule m b fault at h = record { place = h.place; failed = ap (λ r. both (λ v vs. value_and v vs) r (each_read rule m)) h.failed; bit = h.bit }

-- ---- explicit

pub explicit_none : (body : List ℕ) (at : ℕ) (fault : BodyFault) → length body ≤ at → fault.cause ≡ RunsOut → fault.bit ≡ 8 * at → FailsAt (kind_read explicit body at) at fault
unfolding kind_read
explicit_none body at fault le c b = record {
  place = 0;
  failed = ap explicit_read (none_left body at le) ∙ ap (λ c. failed 0 c) (sym c);
  bit = omega arith;
}

explicit_first : (body : List ℕ) (at n : ℕ) → at < length body → n ≡ get_or body at 0 → n < 256 → (m : ℕ) → n ≡ m → kind_read explicit body at ≡ contents_read m (bits (drop (at + 1) body))
unfolding kind_read
explicit_first body at n lt e less m is = ap explicit_read (front_octet body at n lt e) ∙ ap (λ m. contents_read m (bits (drop (at + 1) body))) (number-word 8 n less ∙ is)

pub explicit_bad : (body : List ℕ) (at n : ℕ) (fault : BodyFault) → at < length body → n ≡ get_or body at 0 → n ≡ 0 → fault.cause ≡ BadExplicitLength → fault.bit ≡ 8 * at → FailsAt (kind_read explicit body at) at fault
explicit_bad body at n fault lt e z c b = record {
  place = 0;
  failed = explicit_first body at n lt e (omega arith) 0 z ∙ ap (λ c. failed 0 c) (sym c);
  bit = omega arith;
}

pub explicit_short : (body : List ℕ) (at n : ℕ) (fault : BodyFault) → at < length body → n ≡ get_or body at 0 → n < 256 → 0 < n → length body < at + n → fault.cause ≡ RunsOut → fault.bit ≡ 8 * at + 8 → FailsAt (kind_read explicit body at) at fault
explicit_short body at n fault lt e less some long c b = record {
  place = 8;
  failed = explicit_first body at n lt e less (suc (n - 1)) (omega arith)
      ∙ ap (octets_read (n - 1)) (split_short (bits (drop (at + 1) body)) (8 * (n - 1)) (omega (arith, length-rest body (at + 1)))) ∙ ap (λ c. failed 8 c) (sym c);
  bit = omega arith;
}

pub explicit_gets : (body xs : List ℕ) (at n end : ℕ) → at < length body → n ≡ get_or body at 0 → n < 256 → 0 < n → end ≡ at + n → end ≤ length body → xs ≡ take (n - 1) (drop (at + 1) body) → AreOctets xs
    → Gets (kind_read explicit body at) body at end (content_octets xs)
unfolding kind_read
explicit_gets body xs at n end lt e less some is within content octets =
    let is_n : n ≡ get_or body at n = e ∙ get_or_default body at 0 n lt in
    let shape : drop at body ≡ n ∷ drop (at + 1) body = drop-cons body at n lt ∙ (λ i. sym is_n i ∷ drop (sym (add-one at) i) body) in
    let l : length xs ≡ n - 1 = ap length content ∙ length-take-le (n - 1) (drop (at + 1) body) (omega (arith, length-drop (at + 1) body)) in
    let rest : drop (n - 1) (drop (at + 1) body) ≡ drop end body = drop-drop (n - 1) (at + 1) body ∙ ap (λ k. drop k body) (let z : at + 1 + (n - 1) ≡ end = omega arith in z) in
    let tail : drop (at + 1) body ≡ xs ++ drop end body = sym (take-append-drop (n - 1) (drop (at + 1) body)) ∙ (λ i. sym content i ++ rest i) in
    let w = word 8 (1 + length xs) in
    let all : bits (drop at body) ≡ (w ++ bits xs) ++ bits (drop end body) =
    ap bits shape ∙ ap (λ t. word 8 n ++ bits t) tail ∙ ap (λ t. word 8 n ++ t) (bits-append xs (drop end body))
    ∙ ap (λ m. word 8 m ++ (bits xs ++ bits (drop end body))) (let z : n ≡ 1 + length xs = omega arith in z) in
    let long : length (w ++ bits xs) ≡ 8 * (end - at) = omega (arith, length-append w (bits xs), length-word 8 (1 + length xs), length-bits xs) in record {
      forwards = omega arith;
      within = within;
      got = ap (λ b. explicit_read (split 8 b)) all ∙ explicit_spelled xs (w ++ bits xs) (bits (drop end body)) (omega arith) octets refl ∙ ap (λ m. got (content_octets xs) m (bits (drop end body))) long;
    }

-- ---- octets of a part of a body

octets_taken : (n : ℕ) (xs : List ℕ) → AreOctets xs → AreOctets (take n xs)
octets_taken zero xs h = tt
octets_taken (suc n) [] h = tt
octets_taken (suc n) (x ∷ xs) h = (h.0, octets_taken n xs h.1)

octets_left : (n : ℕ) (xs : List ℕ) → AreOctets xs → AreOctets (drop n xs)
octets_left zero xs h = h
octets_left (suc n) [] h = tt
octets_left (suc n) (x ∷ xs) h = octets_left n xs h.1

pub octets_part : (m n : ℕ) (xs : List ℕ) → ((i : ℕ) → get_or xs i 0 < 256) → AreOctets (take m (drop n xs))
octets_part m n xs h = octets_taken m (drop n xs) (octets_left n xs (AreOctets-items xs h))
