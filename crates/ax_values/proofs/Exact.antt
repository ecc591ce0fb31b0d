-- What a call found is what the definitions say, and only that.
use Rattle.std.proofs.Common.{◌≡◌, ℕ, inl, inr, List, Result, Ok, Err, IfOk, IfErr, refl, ap}
use Rattle.ax_format.specs.InBounds.{InBounds}
use Rattle.ax_format.specs.Tree.{KindTree, ValueTree}
use Rattle.ax_format.specs.declared.fault.BodyFault.{BodyFault}
use Rattle.ax_fspec.specs.Reading.{IsSpelledAt, IsFaultAt, Gets, kind_read}
use Rattle.ax_values.specs.Decoding.{IsOrMemory, AnswersFault, IsFaultOf}
use Rattle.ax_values.specs.SlotReading.{HasFailed}
use Rattle.ax_values.specs.declared.error.DecodeError.{DecodeError}
use Rattle.ax_values.specs.declared.error.DecodeError.TheVariants as Decoding
use Rattle.ax_fspec.proofs.Exact.{spelled_at, fault_at, gets_spelled, fails_faulty, gets_once, never_both, fails_at_once}

module _ {A : Type 0} (tree : A → ValueTree) (k : KindTree) (body : List ℕ) (at : ℕ) (bounds : InBounds k) where
  pub is_spelled : (r : Result (A × ℕ) DecodeError) → IfOk r (λ r. Gets (kind_read k body at) body at r.1 (tree r.0)) → IfOk r (λ r. IsSpelledAt k body at r.1 (tree r.0))
  is_spelled (Ok r) h = spelled_at k body at r.1 (tree r.0) bounds h
  is_spelled (Err e) h = h

  pub is_faulty : (r : Result (A × ℕ) DecodeError) → IfErr r (λ e. HasFailed (kind_read k body at) at e) → IfErr r (IsFaultOf (IsFaultAt k body at))
  is_faulty (Ok r) h = h
  is_faulty (Err (Decoding.Fault fault)) h = fault_at k body at fault bounds (h.met fault refl)
  is_faulty (Err Decoding.OutOfMemory) h = tt

  pub where_spelled : (r : Result (A × ℕ) DecodeError) → IfOk r (λ r. Gets (kind_read k body at) body at r.1 (tree r.0)) → IfErr r (λ e. HasFailed (kind_read k body at) at e) → (v : ValueTree) (end : ℕ) → IsSpelledAt k body at end v
      → IsOrMemory (λ r. (tree r.0 ≡ v) × (r.1 ≡ end)) r
  where_spelled (Ok r) h g v end s = gets_once (kind_read k body at) body at r.1 end (tree r.0) v h (gets_spelled k body at end v s)
  where_spelled (Err (Decoding.Fault fault)) h g v end s = absurd (never_both (kind_read k body at) body at end v fault (gets_spelled k body at end v s) (g.met fault refl))
  where_spelled (Err Decoding.OutOfMemory) h g v end s = refl

  pub where_faulty : (r : Result (A × ℕ) DecodeError) → IfOk r (λ r. Gets (kind_read k body at) body at r.1 (tree r.0)) → IfErr r (λ e. HasFailed (kind_read k body at) at e) → (fault : BodyFault) → IsFaultAt k body at fault → AnswersFault fault r
  where_faulty (Ok r) h g fault s = never_both (kind_read k body at) body at r.1 (tree r.0) fault h (fails_faulty k body at fault s)
  where_faulty (Err (Decoding.Fault other)) h g fault s = inl (ap (λ f. Decoding.Fault f) (fails_at_once (kind_read k body at) at other fault (g.met other refl) (fails_faulty k body at fault s)))
  where_faulty (Err Decoding.OutOfMemory) h g fault s = inr refl
