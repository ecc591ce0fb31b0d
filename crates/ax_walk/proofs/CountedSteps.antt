-- Counted and wide items, one occurrence after the other.
use Rattle.std.proofs.Common.{◌≡◌, ℕ, zero, suc, ◌+◌, ◌-◌, ◌*◌, ◌<◌, ◌≤◌, Bool, IsTrue, List, ◌++◌, length, drop, refl, sym, ◌∙◌, ap, arith, subst, append_assoc}
use Rattle.ax_bits.proofs.Pieces.{number-word}
use Rattle.ax_bits.specs.Bits.{bits, word, number_of}
use Rattle.ax_format.proofs.FixedKinds.{SplitIs, split_is}
use Rattle.ax_format.proofs.WholeOctets.{counter_in_octets}
use Rattle.ax_format.specs.Reader.{Read, got, failed, after, both, read, each_read, count_read, split}
use Rattle.ax_format.specs.Canonical.{canon, each_canon}
use Rattle.ax_format.specs.Tree.{KindTree, ValueTree, ValuesTree, counted, occurrences, no_values, value_and, value_count}
use Rattle.ax_format.specs.Widths.{counter_octets, counter_width}
use Rattle.ax_format.specs.declared.fault.BodyFault.{BodyFault}
use Rattle.ax_format.specs.declared.kind.Counter.{Counter}
use Rattle.ax_fspec.proofs.Counting.{front_count}
use Rattle.ax_fspec.specs.Reading.{FailsAt, IsCount, kind_read}
use Rattle.ax_walk.proofs.Leading.{leads_on, leads_by}
use Rattle.ax_walk.specs.Walking.{Walks, Leads}

-- what is read as n values has n values
after_is : {A B : Type 0} (n m : ℕ) (f : A → B) (b : B) (y : List ℕ) (P : B → Type 0) (r : Read A) → after n f r ≡ got b m y → ((a : A) (k : ℕ) → r ≡ got a k y → P (f a)) → P b
after_is n m f b y P (got a k z) e h =
    let same : f a ≡ b = cc in
    let rest : z ≡ y = cc in subst P same (h a k (ap (got a k) rest))
after_is n m f b y P (failed p c) e h = cc

both_is : {A B C : Type 0} (f : A → B → C) (g : List ℕ → Read B) (m : ℕ) (c : C) (y : List ℕ) (P : C → Type 0) (r : Read A) → both f r g ≡ got c m y → ((a : A) (b : B) (x : List ℕ) (k : ℕ) → g x ≡ got b k y → P (f a b)) → P c
both_is f g m c y P (got a n x) e h = after_is n m (f a) c y P (g x) e (λ b k t. h a b x k t)
both_is f g m c y P (failed p q) e h = cc

pub each_count : (rule : List ℕ → Read ValueTree) (n m : ℕ) (b y : List ℕ) (vs : ValuesTree) → each_read rule n b ≡ got vs m y → value_count vs ≡ n
each_count rule zero m b y vs e = let same : no_values ≡ vs = cc in ap value_count (sym same)
each_count rule (suc n) m b y vs e =
    both_is (λ v vs. value_and v vs) (each_read rule n) m vs y (λ vs. value_count vs ≡ suc n) (rule b) e (λ v ws x k t. ap suc (each_count rule n k x y ws t))

-- i of n occurrences are passed, up to octet here
pub record CountLeads (size : Counter) (k : KindTree) (body : List ℕ) (n i at here : ℕ) (least : Bool) : Type 0 where
  pub within : here ≤ length body
  pub leads : Leads (each_canon (canon k)) (each_read (read k) (n - i) (bits (drop here body))) (canon (counted size k)) (kind_read (counted size k) body at) body at here least

pub counter_front : (size : Counter) (body : List ℕ) (at n : ℕ) → IsCount size body at n → bits (drop at body) ≡ word (counter_width size) n ++ bits (drop (at + counter_octets size) body)
counter_front size body at n h =
    let b = bits (drop at body) in
    let w = counter_width size in
    let is : SplitIs w b (split w b) = split_is b w in (subst (SplitIs w b) (front_count size body at n h) is).0

pub count_first : (size : Counter) (k : KindTree) (body : List ℕ) (n at m : ℕ) (least : Bool) → IsCount size body at n → m ≡ counter_octets size → CountLeads size k body n 0 at (at + m) least
unfolding kind_read
count_first size k body n at m least h e = subst (λ m. CountLeads size k body n 0 at (at + m) least) (sym e) (after_counter size k body n at least h)
  where
    after_counter : (size : Counter) (k : KindTree) (body : List ℕ) (n at : ℕ) (least : Bool) → IsCount size body at n → CountLeads size k body n 0 at (at + counter_octets size) least
    after_counter size k body n at least h =
        let w = counter_width size in
        let here = at + counter_octets size in
        let long : w ≡ 8 * (here - at) = omega (arith, counter_in_octets size) in
        let times : number_of (word w n) ≡ n - 0 = number-word w n h.below ∙ omega arith in
        let after_is : kind_read (counted size k) body at ≡ after (8 * (here - at)) (λ vs. occurrences vs) (each_read (read k) (n - 0) (bits (drop here body))) =
        ap (count_read w (read k)) (front_count size body at n h) ∙ (λ i. after (long i) (λ vs. occurrences vs) (each_read (read k) (times i) (bits (drop here body)))) in
        record {
          within = h.within;
          leads = leads_by (each_canon (canon k)) (each_read (read k) (n - 0) (bits (drop here body))) (canon (counted size k)) (kind_read (counted size k) body at) body at here (λ vs. occurrences vs) least h.within
              (record { forwards = omega arith; same = after_is })
              (λ vs end f g c. (
              let count : value_count vs ≡ n - 0 = each_count (read k) (n - 0) (8 * (end - here)) (bits (drop here body)) (bits (drop end body)) vs g.got in
              let is_n : value_count vs ≡ n = omega arith in
              append_assoc (word w (value_count vs)) (each_canon (canon k) vs) (bits (drop end body)) ∙ ap (λ t. word w (value_count vs) ++ t) c ∙ ap (λ m. word w m ++ bits (drop here body)) is_n ∙ sym (counter_front size body at n h)));
        }

-- one occurrence, after which others follow
module _ (k : KindTree) (body : List ℕ) (m here end : ℕ) (before least : Bool) (falls : IsTrue least → IsTrue before) (w : Walks (canon k) (kind_read k body here) body here end least) where
  one_first : each_read (read k) (suc m) (bits (drop here body)) ≡ after (8 * (end - here)) (λ vs. value_and w.value vs) (each_read (read k) m (bits (drop end body)))
  unfolding kind_read
  one_first = ap (λ r. both (λ v vs. value_and v vs) r (each_read (read k) m)) w.read.got

  one_leads : Leads (each_canon (canon k)) (each_read (read k) m (bits (drop end body))) (each_canon (canon k)) (each_read (read k) (suc m) (bits (drop here body))) body here end least
  one_leads = leads_by (each_canon (canon k)) (each_read (read k) m (bits (drop end body))) (each_canon (canon k)) (each_read (read k) (suc m) (bits (drop here body))) body here end (λ vs. value_and w.value vs) least w.read.within
      (record { forwards = w.read.forwards; same = one_first })
      (λ vs last f g c. append_assoc (canon k w.value) (each_canon (canon k) vs) (bits (drop last body)) ∙ ap (λ t. canon k w.value ++ t) c ∙ w.canonical f)

pub count_next : (size : Counter) (k : KindTree) (body : List ℕ) (n i at here end : ℕ) (before least : Bool) → CountLeads size k body n i at here before → i < n → (IsTrue least → IsTrue before) → Walks (canon k) (kind_read k body here) body here end least → CountLeads size k body n (i + 1) at end least
count_next size k body n i at here end before least h lt falls w =
    let left : n - i ≡ suc (n - (i + 1)) = omega arith in
    let one = one_leads k body (n - (i + 1)) here end before least falls w in record {
      within = w.read.within;
      leads = leads_on (each_canon (canon k)) (each_read (read k) (n - (i + 1)) (bits (drop end body))) (each_canon (canon k)) (each_read (read k) (n - i) (bits (drop here body))) (canon (counted size k)) (kind_read (counted size k) body at) body at here end before least falls h.leads
          (subst (λ m. Leads (each_canon (canon k)) (each_read (read k) (n - (i + 1)) (bits (drop end body))) (each_canon (canon k)) (each_read (read k) m (bits (drop here body))) body here end least) (sym left) one);
    }

pub count_failed : (size : Counter) (k : KindTree) (body : List ℕ) (n i at here : ℕ) (before : Bool) (fault : BodyFault) → CountLeads size k body n i at here before → i < n → FailsAt (kind_read k body here) here fault → FailsAt (kind_read (counted size k) body at) at fault
unfolding kind_read
count_failed size k body n i at here before fault h lt t =
    let left : n - i ≡ suc (n - (i + 1)) = omega arith in
    let one : FailsAt (each_read (read k) (suc (n - (i + 1))) (bits (drop here body))) here fault = record { place = t.place; failed = ap (λ r. both (λ v vs. value_and v vs) r (each_read (read k) (n - (i + 1)))) t.failed; bit = t.bit } in
    h.leads.fails fault (subst (λ m. FailsAt (each_read (read k) m (bits (drop here body))) here fault) (sym left) one)

pub count_last : (size : Counter) (k : KindTree) (body : List ℕ) (n i at here : ℕ) (least : Bool) → CountLeads size k body n i at here least → n ≤ i → Walks (canon (counted size k)) (kind_read (counted size k) body at) body at here least
count_last size k body n i at here least h past =
    let none : each_read (read k) (n - i) (bits (drop here body)) ≡ got no_values 0 (bits (drop here body)) = ap (λ m. each_read (read k) m (bits (drop here body))) (let e : n - i ≡ 0 = omega arith in e) in
    h.leads.gets here least (λ t. t) (record {
      value = no_values;
      read = record { forwards = omega arith; within = h.within; got = none ∙ ap (λ m. got no_values m (bits (drop here body))) (let e : 0 ≡ 8 * (here - here) = omega arith in e) };
      canonical = λ f. refl;
    })
