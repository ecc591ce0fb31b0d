-- The occurrences of a counted or wide item, one after the other.
use Rattle.std.proofs.Common.{◌≡◌, ℕ, suc, ◌+◌, ◌-◌, ◌*◌, ◌<◌, ◌≤◌, List, [], ◌∷◌, ◌++◌, length, drop, map, refl, sym, ◌∙◌, ap, arith, subst, length-append}
use Rattle.ax_bits.proofs.Pieces.{number-word}
use Rattle.ax_bits.specs.Bits.{bits, word, number_of}
use Rattle.ax_format.specs.Reader.{got, after, read, each_read, count_read}
use Rattle.ax_format.specs.Plain.{value_tree, values_tree}
use Rattle.ax_format.specs.Tree.{KindTree, counted, occurrences, value_and, no_values}
use Rattle.ax_format.specs.declared.value.Value.{Value}
use Rattle.ax_fspec.proofs.Continuing.{goes_on, gets_after, front_is}
use Rattle.ax_values.proofs.Continuing.{failed_after}
use Rattle.ax_values.proofs.Onto.{values_onto, values_onto_none, values_onto_more}
use Rattle.ax_fspec.specs.Reading.{Gets, FailsAt, Continues, kind_read, IsCount}
use Rattle.ax_values.specs.SlotReading.{HasFailed}
use Rattle.ax_values.specs.declared.error.DecodeError.{DecodeError}
use Rattle.ax_fspec.proofs.Counting.{front_count, each_first, each_fails_at}
use Rattle.ax_format.specs.declared.kind.Counter.{Counter}
use Rattle.ax_format.specs.Widths.{counter_octets, counter_width}
use Rattle.ax_format.proofs.WholeOctets.{counter_in_octets}

-- i of n occurrences are read, up to octet here
pub record CountedSoFar (size : Counter) (k : KindTree) (body : List ℕ) (n i at here : ℕ) (made : List Value) : Type 0 where
  pub within : here ≤ length body
  pub count : length made ≡ i
  pub read : Continues (kind_read (counted size k) body at) at here (λ vs. occurrences (values_onto (map value_tree made) vs)) (each_read (read k) (n - i) (bits (drop here body)))

pub counted_begins : (size : Counter) (k : KindTree) (body : List ℕ) (n at : ℕ) → IsCount size body at n → CountedSoFar size k body n 0 at (at + counter_octets size) []
unfolding kind_read
counted_begins size k body n at h = record {
  within = h.within;
  count = refl;
  read = record {
    forwards = omega arith;
    same = ap (count_read (counter_width size) (read k)) (front_count size body at n h)
        ∙ (λ i. after (bits_are i) (λ vs. occurrences vs) (each_read (read k) (times i) (bits (drop (at + counter_octets size) body))));
  };
}
  where
    bits_are : counter_width size ≡ 8 * (at + counter_octets size - at)
    bits_are = counter_in_octets size ∙ omega arith

    times : number_of (word (counter_width size) n) ≡ n - 0
    times = number-word (counter_width size) n h.below ∙ omega arith

pub counted_more : (size : Counter) (k : KindTree) (body : List ℕ) (n i at here end : ℕ) (made : List Value) (v : Value) → CountedSoFar size k body n i at here made → i < n → Gets (kind_read k body here) body here end (value_tree v)
    → CountedSoFar size k body n (i + 1) at end (made ++ v ∷ [])
unfolding kind_read
counted_more size k body n i at here end made v h lt g = record {
  within = g.within;
  count = omega (arith, h.count, length-append made (v ∷ []));
  read = front_is (kind_read (counted size k) body at) (each_read (read k) (n - (i + 1)) (bits (drop end body))) at end
      (λ vs. occurrences (values_onto (map value_tree made) (value_and (value_tree v) vs))) (λ vs. occurrences (values_onto (map value_tree (made ++ v ∷ [])) vs)) (λ vs. ap (λ vs. occurrences vs) (sym (values_onto_more made v vs)))
      (goes_on (kind_read (counted size k) body at) (each_read (read k) (n - i) (bits (drop here body))) (each_read (read k) (n - (i + 1)) (bits (drop end body))) at here end
      (λ vs. occurrences (values_onto (map value_tree made) vs)) (λ vs. value_and (value_tree v) vs) h.read
      (record {
        forwards = g.forwards;
        same = ap (λ m. each_read (read k) m (bits (drop here body))) left ∙ each_first (read k) (n - (i + 1)) (bits (drop here body)) (bits (drop end body)) (value_tree v) (8 * (end - here)) g.got;
      }));
}
  where
    left : n - i ≡ suc (n - (i + 1))
    left = omega arith

pub counted_all : (size : Counter) (k : KindTree) (body : List ℕ) (n i at here : ℕ) (made : List Value) → CountedSoFar size k body n i at here made → n ≤ i → Gets (kind_read (counted size k) body at) body at here (occurrences (values_tree made))
counted_all size k body n i at here made h past =
    let none : each_read (read k) (n - i) (bits (drop here body)) ≡ got no_values 0 (bits (drop here body)) = ap (λ m. each_read (read k) m (bits (drop here body))) (let e : n - i ≡ 0 = omega arith in e) in
    subst (λ vs. Gets (kind_read (counted size k) body at) body at here (occurrences vs)) (values_onto_none (map value_tree made))
    (gets_after (kind_read (counted size k) body at) (each_read (read k) (n - i) (bits (drop here body))) body at here here (λ vs. occurrences (values_onto (map value_tree made) vs)) no_values h.read
    (record { forwards = omega arith; within = h.within; got = none ∙ ap (λ m. got no_values m (bits (drop here body))) (let e : 0 ≡ 8 * (here - here) = omega arith in e) }))

pub counted_failed : (size : Counter) (k : KindTree) (body : List ℕ) (n i at here : ℕ) (made : List Value) (e : DecodeError) → CountedSoFar size k body n i at here made → i < n → HasFailed (kind_read k body here) here e → HasFailed (kind_read (counted size k) body at) at e
unfolding kind_read
counted_failed size k body n i at here made e h lt t =
    failed_after (kind_read (counted size k) body at) (each_read (read k) (n - i) (bits (drop here body))) at here (λ vs. occurrences (values_onto (map value_tree made) vs)) e h.read
    (record { met = λ fault is. subst (λ m. FailsAt (each_read (read k) m (bits (drop here body))) here fault) (sym left) (each_fails_at (read k) (n - (i + 1)) (bits (drop here body)) fault here (t.met fault is)) })
  where
    left : n - i ≡ suc (n - (i + 1))
    left = omega arith

pub counted_within : (size : Counter) (k : KindTree) (body : List ℕ) (n i at here : ℕ) (made : List Value) → CountedSoFar size k body n i at here made → here ≤ length body
counted_within size k body n i at here made h = h.within

pub counted_made : (size : Counter) (k : KindTree) (body : List ℕ) (n i at here : ℕ) (made : List Value) → CountedSoFar size k body n i at here made → length made ≡ i
counted_made size k body n i at here made h = h.count

pub ruleset counts = (counted_begins, counted_more, counted_all, counted_within, counted_made)
