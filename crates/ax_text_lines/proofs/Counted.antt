-- The occurrences of a counted or wide item, printed one after the other.
use Rattle.std.proofs.Common.{◌≡◌, ℕ, suc, ◌+◌, ◌-◌, ◌*◌, ◌<◌, ◌≤◌, List, length, drop, refl, sym, ◌∙◌, ap, arith, subst}
use Rattle.ax_bits.specs.Bits.{bits}
use Rattle.ax_format.specs.Reader.{got, read, each_read}
use Rattle.ax_format.specs.Tree.{KindTree, counted, occurrences, value_and, no_values}
use Rattle.ax_format.specs.Widths.{counter_octets}
use Rattle.ax_format.specs.declared.kind.Counter.{Counter}
use Rattle.ax_fspec.proofs.Counting.{each_first, each_fails_at}
use Rattle.ax_fspec.specs.Reading.{FailsAt, IsCount, kind_read}
use Rattle.ax_text_form.specs.Printing.{after_spaces, Puts}
use Rattle.ax_text_form.specs.ValueText.{opening, closing, one_onto, each_onto, kind_onto}
use Rattle.ax_text_lines.proofs.Leading.{Leads, closed, leads_by, leads_on}
use Rattle.ax_text_lines.specs.Prints.{Prints}
use Rattle.ax_values.proofs.Counting.{counted_begins}
use Rattle.ax_values.specs.SlotReading.{HasFailed}
use Rattle.ax_values.specs.declared.error.DecodeError.{DecodeError}

-- i of n occurrences are printed, up to octet here
pub record CountedLeads (size : Counter) (k : KindTree) (body : List ℕ) (n i at here : ℕ) (old now : List ℕ) : Type 0 where
  pub within : here ≤ length body
  pub leads : Leads (closed (each_onto (kind_onto k))) (each_read (read k) (n - i) (bits (drop here body))) (kind_onto (counted size k)) (kind_read (counted size k) body at) body at here old now

pub counted_opens : (size : Counter) (k : KindTree) (body : List ℕ) (n at : ℕ) (old now : List ℕ) → IsCount size body at n → Puts after_spaces (one_onto opening) old now → CountedLeads size k body n 0 at (at + counter_octets size) old now
counted_opens size k body n at old now is p =
    let c = counted_begins size k body n at is in record {
      within = c.within;
      leads = leads_by (closed (each_onto (kind_onto k))) (each_read (read k) (n - 0) (bits (drop (at + counter_octets size) body))) (kind_onto (counted size k)) (kind_read (counted size k) body at) body at (at + counter_octets size) old now (λ vs. occurrences vs) (one_onto opening) c.read (λ vs rest. refl) p;
    }

pub counted_goes_on : (size : Counter) (k : KindTree) (body : List ℕ) (n i at here end : ℕ) (old now new : List ℕ) → CountedLeads size k body n i at here old now → i < n → Prints (kind_onto k) (kind_read k body here) body here end now new → CountedLeads size k body n (i + 1) at end old new
unfolding kind_read
counted_goes_on size k body n i at here end old now new h lt p = record {
  within = p.read.within;
  leads = leads_on h.leads (leads_by (closed (each_onto (kind_onto k))) (each_read (read k) (n - (i + 1)) (bits (drop end body))) (closed (each_onto (kind_onto k))) (each_read (read k) (n - i) (bits (drop here body))) body here end now new
      (λ vs. value_and p.value vs) (kind_onto k p.value)
      (record {
        forwards = p.read.forwards;
        same = ap (λ m. each_read (read k) m (bits (drop here body))) left ∙ each_first (read k) (n - (i + 1)) (bits (drop here body)) (bits (drop end body)) p.value (8 * (end - here)) p.read.got;
      }) (λ vs rest. refl) p.put);
}
  where
    left : n - i ≡ suc (n - (i + 1))
    left = omega arith

pub counted_closes : (size : Counter) (k : KindTree) (body : List ℕ) (n i at here : ℕ) (old now new : List ℕ) → CountedLeads size k body n i at here old now → n ≤ i → Puts after_spaces (one_onto closing) now new → Prints (kind_onto (counted size k)) (kind_read (counted size k) body at) body at here old new
counted_closes size k body n i at here old now new h past p =
    let none : each_read (read k) (n - i) (bits (drop here body)) ≡ got no_values 0 (bits (drop here body)) = ap (λ m. each_read (read k) m (bits (drop here body))) (let e : n - i ≡ 0 = omega arith in e) in
    h.leads.prints here new (record {
      value = no_values;
      read = record { forwards = omega arith; within = h.within; got = none ∙ ap (λ m. got no_values m (bits (drop here body))) (let e : 0 ≡ 8 * (here - here) = omega arith in e) };
      put = record { put = λ rest. p.put rest };
    })

pub counted_failed : (size : Counter) (k : KindTree) (body : List ℕ) (n i at here : ℕ) (old now : List ℕ) (e : DecodeError) → CountedLeads size k body n i at here old now → i < n → HasFailed (kind_read k body here) here e → HasFailed (kind_read (counted size k) body at) at e
unfolding kind_read
counted_failed size k body n i at here old now e h lt t =
    h.leads.fails e (record { met = λ fault is. subst (λ m. FailsAt (each_read (read k) m (bits (drop here body))) here fault) (sym left) (each_fails_at (read k) (n - (i + 1)) (bits (drop here body)) fault here (t.met fault is)) })
  where
    left : n - i ≡ suc (n - (i + 1))
    left = omega arith

pub counted_within : (size : Counter) (k : KindTree) (body : List ℕ) (n i at here : ℕ) (old now : List ℕ) → CountedLeads size k body n i at here old now → here ≤ length body
counted_within size k body n i at here old now h = h.within

pub ruleset counts = (counted_opens, counted_goes_on, counted_closes, counted_within)
