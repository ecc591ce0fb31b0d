-- Octets of a body that stay as they are, laid run by run.
use Rattle.std.proofs.Common.{◌≡◌, ℕ, ◌+◌, ◌-◌, ◌<◌, ◌≤◌, List, [], ◌++◌, length, take, drop, refl, sym, ◌∙◌, ap, arith, subst, append_assoc, append-nil, take-append-drop, drop-drop, length-take-le, length-drop}
use Rattle.std.proofs.Math.Seq.{take-append-add}
use Rattle.ax_bits.proofs.Words.{bits-append}
use Rattle.ax_bits.specs.Bits.{bits}
use Rattle.ax_moves.proofs.LaidBits.{lays_none, lays_more}
use Rattle.ax_moves.specs.BySlot.{run_octets}
use Rattle.ax_moves.specs.Laying.{Lays}

-- one run is two, one after the other
pub runs_join : (start mid stop : ℕ) (body : List ℕ) → start ≤ mid → mid ≤ stop → stop ≤ length body → run_octets start stop body ≡ run_octets start mid body ++ run_octets mid stop body
runs_join start mid stop body a b c =
    let n : ℕ = mid - start in
    let ys : List ℕ = drop start body in
    let size : length (take (mid - start) (drop start body)) ≡ mid - start = length-take-le (mid - start) (drop start body) (omega (arith, length-drop start body)) in
    let rest : drop (mid - start) (drop start body) ≡ drop mid body = drop-drop (mid - start) start body ∙ ap (λ k. drop k body) (let e : start + (mid - start) ≡ mid = omega arith in e) in
    let sum : stop - start ≡ length (take (mid - start) (drop start body)) + (stop - mid) = omega (arith, size) in
    (λ i. take (sum i) (sym (take-append-drop (mid - start) (drop start body)) i)) ∙ take-append-add (take (mid - start) (drop start body)) (drop (mid - start) (drop start body)) (stop - mid)
    ∙ ap (λ r. take (mid - start) (drop start body) ++ take (stop - mid) r) rest

no_run : (p : ℕ) (body : List ℕ) → bits (run_octets p p body) ≡ []
no_run p body = ap (λ n. bits (take n (drop p body))) (let e : p - p ≡ 0 = omega arith in e)

-- of all the bits some are laid, a run is still to be laid, and the rest comes after it
pub record LaidRun (all rest : List ℕ) (body : List ℕ) (start stop at end : ℕ) (old now : List ℕ) : Type 0 where
  pub front : List ℕ
  pub laid : Lays front at end old now
  pub forwards : start ≤ stop
  pub within : stop ≤ length body
  pub split : front ++ (bits (run_octets start stop body) ++ rest) ≡ all

pub run_first : (all body : List ℕ) (at : ℕ) (output : List ℕ) → at < 4294967296 → LaidRun all all body 0 0 at at output output
run_first all body at output few = record { front = []; laid = lays_none at output (omega arith); forwards = omega arith; within = omega arith; split = refl }

module _ (all rest body : List ℕ) (start stop at end : ℕ) (old now : List ℕ) (h : LaidRun all rest body start stop at end old now) where
  pub run_skips : (later : List ℕ) → rest ≡ later → LaidRun all later body start stop at end old now
  run_skips later e = subst (λ r. LaidRun all r body start stop at end old now) e h

  pub run_extends : (later : List ℕ) (to : ℕ) → stop ≤ to → to ≤ length body → rest ≡ bits (run_octets stop to body) ++ later → LaidRun all later body start to at end old now
  run_extends later to le within e =
      let joined : bits (run_octets start to body) ≡ bits (run_octets start stop body) ++ bits (run_octets stop to body) = ap bits (runs_join start stop to body h.forwards le within) ∙ bits-append (run_octets start stop body) (run_octets stop to body) in record {
        front = h.front;
        laid = h.laid;
        forwards = omega (arith, h.forwards, le);
        within = within;
        split = ap (λ x. h.front ++ (x ++ later)) joined ∙ ap (λ x. h.front ++ x) (append_assoc (bits (run_octets start stop body)) (bits (run_octets stop to body)) later ∙ ap (λ x. bits (run_octets start stop body) ++ x) (sym e)) ∙ h.split;
      }

  pub run_flushed : (p n : ℕ) (new : List ℕ) → p ≤ length body → Lays (bits (run_octets start stop body)) end n now new → LaidRun all rest body p p at n old new
  run_flushed p n new within l = record {
    front = h.front ++ bits (run_octets start stop body);
    laid = lays_more h.front (bits (run_octets start stop body)) (h.front ++ bits (run_octets start stop body)) at end n old now new refl h.laid l;
    forwards = omega arith;
    within = within;
    split = ap (λ x. (h.front ++ bits (run_octets start stop body)) ++ (x ++ rest)) (no_run p body) ∙ append_assoc h.front (bits (run_octets start stop body)) rest ∙ h.split;
  }

  pub run_last : (n : ℕ) (new : List ℕ) → rest ≡ [] → Lays (bits (run_octets start stop body)) end n now new → Lays all at n old new
  run_last n new e l =
      lays_more h.front (bits (run_octets start stop body)) all at end n old now new
      (sym h.split ∙ ap (λ x. h.front ++ (bits (run_octets start stop body) ++ x)) e ∙ ap (λ x. h.front ++ x) (append-nil (bits (run_octets start stop body)))) h.laid l

-- an entry that is laid where no run is open
pub run_enters : (all rest b later body : List ℕ) (at end n : ℕ) (old now new : List ℕ) → rest ≡ b ++ later → LaidRun all rest body 0 0 at end old now → Lays b end n now new → LaidRun all later body 0 0 at n old new
run_enters all rest b later body at end n old now new e h l = record {
  front = h.front ++ b;
  laid = lays_more h.front b (h.front ++ b) at end n old now new refl h.laid l;
  forwards = omega arith;
  within = omega arith;
  split = append_assoc h.front b later ∙ ap (λ x. h.front ++ x) (sym e) ∙ h.split;
}

-- ---- records: all the bits are those of the records so far, of which the last ones are a run that is still to be laid

-- one more record that stays as it is
pub run_kept : (all b body : List ℕ) (start stop to at end : ℕ) (old now : List ℕ) → LaidRun all [] body start stop at end old now → stop ≤ to → to ≤ length body → b ≡ bits (run_octets stop to body) → LaidRun (all ++ b) [] body start to at end old now
run_kept all b body start stop to at end old now h le within own =
    let run = bits (run_octets start stop body) in
    let grown : LaidRun (all ++ b) b body start stop at end old now = record {
      front = h.front;
      laid = h.laid;
      forwards = h.forwards;
      within = h.within;
      split = sym (append_assoc h.front run b) ∙ ap (λ x. x ++ b) (ap (λ x. h.front ++ x) (sym (append-nil run)) ∙ h.split);
    } in
    run_extends (all ++ b) b body start stop at end old now grown [] to le within (own ∙ sym (append-nil (bits (run_octets stop to body))))

-- one more record, laid after the run
pub run_moved : (all b body : List ℕ) (start stop to at end n m : ℕ) (old now new laid : List ℕ) → LaidRun all [] body start stop at end old now → Lays (bits (run_octets start stop body)) end n now new → Lays b n m new laid → to ≤ length body → LaidRun (all ++ b) [] body to to at m old laid
run_moved all b body start stop to at end n m old now new laid h run l within = record {
  front = all ++ b;
  laid = lays_more all b (all ++ b) at n m old new laid refl (run_last all [] body start stop at end old now h n new refl run) l;
  forwards = omega arith;
  within = within;
  split = ap (λ x. (all ++ b) ++ (x ++ [])) (no_run to body) ∙ append-nil (all ++ b);
}
