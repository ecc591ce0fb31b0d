-- Units with their FX bit, and occurrences by FX one after the other.
use Rattle.std.proofs.Common.{◌≡◌, ℕ, ◌+◌, ◌-◌, ◌*◌, ◌%◌, ◌≤◌, Bool, true, false, List, [], ◌∷◌, ◌++◌, length, take, drop, map, sym, ◌∙◌, ap, arith, subst, length-append}
use Rattle.ax_bits.specs.Bits.{bits}
use Rattle.ax_format.specs.Reader.{fixed_value}
use Rattle.ax_format.specs.Plain.{value_tree, values_tree}
use Rattle.ax_format.specs.Tree.{FixedTree, value_and, no_values}
use Rattle.ax_format.specs.Widths.{width}
use Rattle.ax_format.specs.declared.fault.BodyCause.TheVariants.{RunsOut}
use Rattle.ax_format.specs.declared.fault.BodyFault.{BodyFault}
use Rattle.ax_format.specs.declared.value.Value.{Value}
use Rattle.ax_fspec.proofs.AtOctets.{IsUnit, run_at, run_ends, run_goes_on, run_fails}
use Rattle.ax_fspec.proofs.Continuing.{begins, goes_on, gets_after, fails_after, front_is}
use Rattle.ax_values.proofs.Onto.{values_onto, values_onto_none, values_onto_more}
use Rattle.ax_fspec.specs.Reading.{Gets, FailsAt, Continues, fx_bit}

-- a unit, of what the code found
pub unit_is : (body : List ℕ) (here end w bit : ℕ) (fx : Bool) → (w + 1) % 8 ≡ 0 → here ≤ end → end ≤ length body → w + 1 ≡ 8 * (end - here) → bit ≡ 8 * here + w
    → take 1 (drop bit (bits body)) ≡ fx_bit fx ∷ [] → IsUnit body here end w (fx_bit fx)
unit_is body here end w bit fx whole le within l b e = record {
  forwards = omega arith;
  within = within;
  width = l;
  last = subst (λ k. take 1 (drop k (bits body)) ≡ fx_bit fx ∷ []) b e;
}

-- ---- occurrences by FX

pub record RunSoFar (f : FixedTree) (body : List ℕ) (at here : ℕ) (made : List Value) : Type 0 where
  pub within : here ≤ length body
  pub few : length made ≤ here
  pub read : Continues (run_at f body at) at here (values_onto (map value_tree made)) (run_at f body here)

pub run_none : (f : FixedTree) (body : List ℕ) (at : ℕ) → at ≤ length body → RunSoFar f body at at []
run_none f body at le = record { within = le; few = omega arith; read = begins (run_at f body at) at }

pub run_more : (f : FixedTree) (body : List ℕ) (at here end w : ℕ) (made : List Value) (v : Value) (fx : Bool) → RunSoFar f body at here made → IsUnit body here end w (fx_bit fx) → width f ≡ w → fx ≡ true
    → value_tree v ≡ fixed_value f (drop (8 * here) (bits body)) → RunSoFar f body at end (made ++ v ∷ [])
run_more f body at here end w made v fx h u e one value = record {
  within = u.within;
  few = omega (arith, h.few, u.forwards, length-append made (v ∷ []));
  read = front_is (run_at f body at) (run_at f body end) at end (λ vs. values_onto (map value_tree made) (value_and (value_tree v) vs)) (values_onto (map value_tree (made ++ v ∷ []))) (λ vs. sym (values_onto_more made v vs))
      (goes_on (run_at f body at) (run_at f body here) (run_at f body end) at here end (values_onto (map value_tree made)) (λ vs. value_and (value_tree v) vs) h.read
      (run_goes_on f body here end w (fx_bit fx) (value_tree v) u e (ap fx_bit one) value));
}

pub run_done : (f : FixedTree) (body : List ℕ) (at here end w : ℕ) (made : List Value) (v : Value) (fx : Bool) → RunSoFar f body at here made → IsUnit body here end w (fx_bit fx) → width f ≡ w → fx ≡ false
    → value_tree v ≡ fixed_value f (drop (8 * here) (bits body)) → Gets (run_at f body at) body at end (values_tree (made ++ v ∷ []))
run_done f body at here end w made v fx h u e none value =
    subst (λ vs. Gets (run_at f body at) body at end vs) (sym (values_onto_more made v no_values) ∙ values_onto_none (map value_tree (made ++ v ∷ [])))
    (gets_after (run_at f body at) (run_at f body here) body at here end (values_onto (map value_tree made)) (value_and (value_tree v) no_values) h.read
    (run_ends f body here end w (fx_bit fx) (value_tree v) u e (ap fx_bit none) value))

pub run_short : (f : FixedTree) (body : List ℕ) (at here : ℕ) (made : List Value) (fault : BodyFault) → RunSoFar f body at here made → 8 * (length body - here) ≤ width f → fault.cause ≡ RunsOut → fault.bit ≡ 8 * here
    → FailsAt (run_at f body at) at fault
run_short f body at here made fault h less c b = fails_after (run_at f body at) (run_at f body here) at here (values_onto (map value_tree made)) fault h.read (run_fails f body here fault less c b)
