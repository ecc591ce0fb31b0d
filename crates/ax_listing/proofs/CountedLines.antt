-- Counted and wide items, one occurrence after the other.
use Rattle.std.proofs.Common.{◌≡◌, ℕ, suc, ◌+◌, ◌-◌, ◌*◌, ◌<◌, ◌≤◌, List, length, drop, codes, refl, sym, ◌∙◌, ap, arith, subst}
use Rattle.ax_bits.specs.Bits.{bits}
use Rattle.ax_format.specs.Reader.{got, read, each_read}
use Rattle.ax_format.specs.Tree.{KindTree, counted, occurrences, no_values, value_and, value_count}
use Rattle.ax_format.specs.Widths.{counter_octets}
use Rattle.ax_format.specs.declared.kind.Counter.{Counter}
use Rattle.ax_fspec.proofs.Counting.{each_first, each_fails_at}
use Rattle.ax_fspec.specs.Reading.{FailsAt, IsCount, kind_read}
use Rattle.ax_text_form.specs.Printing.{as_lines, Puts}
use Rattle.ax_text_form.specs.ShowText.{kind_lines, each_lines, occurrence}
use Rattle.ax_values.proofs.Counting.{counted_begins}
use Rattle.ax_values.specs.SlotReading.{HasFailed}
use Rattle.ax_values.specs.declared.error.DecodeError.{DecodeError}
use Rattle.ax_listing.specs.Shown.{Shows, ShowsCounted}
use Rattle.ax_listing.proofs.Leading.{Leads, Ending, leads_next, counted_first}

abbrev pub count_done : Counter → KindTree → List ℕ → List ℕ → ℕ → List ℕ → Ending
count_done size k path body at old end new m = ShowsCounted (counted size k) path (codes "occurrences") body at end old new m

-- i of n occurrences are shown, up to octet here
pub record CountShown (size : Counter) (k : KindTree) (path body : List ℕ) (n i at here : ℕ) (old now : List ℕ) : Type 0 where
  pub within : here ≤ length body
  pub upto : i ≤ n
  pub leads : Leads (count_done size k path body at old) (FailsAt (kind_read (counted size k) body at) at) (each_lines (kind_lines k) path i) value_count (each_read (read k) (n - i) (bits (drop here body))) body here now i

pub count_first : (size : Counter) (k : KindTree) (path body : List ℕ) (n at : ℕ) (out : List ℕ) → IsCount size body at n → CountShown size k path body n 0 at (at + counter_octets size) out out
count_first size k path body n at out is = record {
  within = is.within;
  upto = omega arith;
  leads = counted_first (counted size k) path (codes "occurrences") body at (at + counter_octets size) out (each_lines (kind_lines k) path 0) value_count (each_read (read k) (n - 0) (bits (drop (at + counter_octets size) body))) (λ vs. occurrences vs) is.within
      (counted_begins size k body n at is).read (λ vs end g t. refl);
}

pub count_next : (size : Counter) (k : KindTree) (path body : List ℕ) (n i at here end : ℕ) (inner old now new : List ℕ) → CountShown size k path body n i at here old now → i < n → inner ≡ occurrence path i → Shows k inner body here end now new
    → CountShown size k path body n (i + 1) at end old new
unfolding kind_read
count_next size k path body n i at here end inner old now new h lt is w =
    let left : n - i ≡ suc (n - (i + 1)) = omega arith in record {
      within = w.read.within;
      upto = omega arith;
      leads = leads_next (count_done size k path body at old) (FailsAt (kind_read (counted size k) body at) at) (each_lines (kind_lines k) path i) (each_lines (kind_lines k) path (i + 1)) (kind_lines k (occurrence path i) w.value) value_count value_count
          (each_read (read k) (n - i) (bits (drop here body))) (each_read (read k) (n - (i + 1)) (bits (drop end body))) body here end now new i (λ vs. value_and w.value vs) h.leads w.read.within
          (record { forwards = w.read.forwards; same = ap (λ m. each_read (read k) m (bits (drop here body))) left ∙ each_first (read k) (n - (i + 1)) (bits (drop here body)) (bits (drop end body)) w.value (8 * (end - here)) w.read.got })
          (subst (λ inner. Puts as_lines (kind_lines k inner w.value) now new) is w.put) (λ vs t. refl) (λ vs. refl);
    }

pub count_last : (size : Counter) (k : KindTree) (path body : List ℕ) (n i at here : ℕ) (old now : List ℕ) → CountShown size k path body n i at here old now → n ≤ i → ShowsCounted (counted size k) path (codes "occurrences") body at here old now n
count_last size k path body n i at here old now h past =
    let none : each_read (read k) (n - i) (bits (drop here body)) ≡ got no_values 0 (bits (drop here body)) = ap (λ m. each_read (read k) m (bits (drop here body))) (let e : n - i ≡ 0 = omega arith in e) in
    h.leads.ends here no_values now n
    (record { forwards = omega arith; within = h.within; got = none ∙ ap (λ m. got no_values m (bits (drop here body))) (let e : 0 ≡ 8 * (here - here) = omega arith in e) })
    (record { put = λ t. refl }) (omega (arith, h.upto))

pub count_failed : (size : Counter) (k : KindTree) (path body : List ℕ) (n i at here : ℕ) (old now : List ℕ) (e : DecodeError) → CountShown size k path body n i at here old now → i < n → HasFailed (kind_read k body here) here e → HasFailed (kind_read (counted size k) body at) at e
unfolding kind_read
count_failed size k path body n i at here old now e h lt t = record {
  met = λ fault is.
      let left : n - i ≡ suc (n - (i + 1)) = omega arith in
      h.leads.fails fault (subst (λ m. FailsAt (each_read (read k) m (bits (drop here body))) here fault) (sym left) (each_fails_at (read k) (n - (i + 1)) (bits (drop here body)) fault here (t.met fault is)));
}
