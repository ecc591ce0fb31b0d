-- Errors of a call, passed on.
use Rattle.std.proofs.Common.{◌≡◌, ℕ, sym, ◌∙◌, subst, Result, Ok, Err, IfErr}
use Rattle.std.specs.Result.{IsErrAnd}
use Rattle.ax_format.specs.Reader.{Read}
use Rattle.ax_format.specs.declared.fault.BodyFault.{BodyFault}
use Rattle.ax_fspec.specs.Reading.{FailsAt, Continues}
use Rattle.ax_values.specs.SlotReading.{HasFailed}
use Rattle.ax_values.specs.declared.error.DecodeError.{DecodeError}
use Rattle.ax_values.specs.declared.error.DecodeError.TheVariants as Decoding
use Rattle.ax_fspec.proofs.Continuing.{fails_after}

fault_same : {one other : BodyFault} → Decoding.Fault one ≡ Decoding.Fault other → one ≡ other
fault_same e = cc

pub failed_by_fault : {A : Type 0} (found : Read A) (at : ℕ) (e : DecodeError) (fault : BodyFault) → e ≡ Decoding.Fault fault → FailsAt found at fault → HasFailed found at e
failed_by_fault found at e fault is h = record { met = λ other same. subst (λ f. FailsAt found at f) (fault_same (sym is ∙ same)) h }

pub failed_by_want : {A : Type 0} (found : Read A) (at : ℕ) (e : DecodeError) → e ≡ Decoding.OutOfMemory → HasFailed found at e
failed_by_want found at e is = record { met = λ other same. absurd (let no : Decoding.OutOfMemory ≡ Decoding.Fault other = sym is ∙ same in cc) }

pub failed_after : {A B : Type 0} (whole : Read B) (rest : Read A) (at here : ℕ) (f : A → B) (e : DecodeError) → Continues whole at here f rest → HasFailed rest here e → HasFailed whole at e
failed_after whole rest at here f e h t = record { met = λ fault is. fails_after whole rest at here f fault h (t.met fault is) }

-- an error that `?` passed on
pub err_by_fault : {A B : Type 0} (found : Read A) (at : ℕ) (r : Result B DecodeError) (fault : BodyFault) → IsErrAnd r (λ e. e ≡ Decoding.Fault fault) → FailsAt found at fault → IfErr r (λ e. HasFailed found at e)
err_by_fault found at (Ok b) fault h t = absurd h
err_by_fault found at (Err e) fault h t = failed_by_fault found at e fault h t

pub err_is : {A C : Type 0} (found : Read A) (at : ℕ) (r : Result C DecodeError) (e : DecodeError) → IsErrAnd r (λ d. d ≡ e) → HasFailed found at e → IfErr r (λ e. HasFailed found at e)
err_is found at (Ok b) e h t = absurd h
err_is found at (Err d) e h t = subst (λ d. HasFailed found at d) (sym h) t

pub fault_passed : {A B : Type 0} (found : Read A) (at : ℕ) (r : Result B BodyFault) (fault : BodyFault) → IsErrAnd r (λ e. e ≡ fault) → FailsAt found at fault → IfErr r (λ fault. FailsAt found at fault)
fault_passed found at (Ok b) fault h t = absurd h
fault_passed found at (Err e) fault h t = subst (λ f. FailsAt found at f) (sym h) t

pub ruleset errors = (failed_by_fault, failed_by_want)
