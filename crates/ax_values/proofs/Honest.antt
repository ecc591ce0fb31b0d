-- Faults that the calls name can be trusted.
use Rattle.std.proofs.Common.{◌≡◌, ℕ, List, drop, Result, Ok, Err, IfErr, subst, sym}
use Rattle.std.specs.Result.{IsErrAnd}
use Rattle.ax_format.specs.Flaws.{NoFlaw}
use Rattle.ax_format.specs.InBounds.{InBounds}
use Rattle.ax_format.specs.Specification.{SpecTree}
use Rattle.ax_format.specs.Tree.{KindTree}
use Rattle.ax_format.specs.declared.fault.BodyFault.{BodyFault}
use Rattle.ax_fspec.proofs.Honest.{kind_honest_at, record_honest, body_honest}
use Rattle.ax_fspec.specs.Honest.{SpellRecords, BeginWithValue, BeginWithRecord, IsHonest, IsHonestAt}
use Rattle.ax_fspec.specs.Reading.{IsFaultAt}
use Rattle.ax_values.specs.Decoding.{IsRecordFaultAt, IsBodyFault, IsFaultOf}
use Rattle.ax_values.specs.declared.error.DecodeError.{DecodeError}
use Rattle.ax_values.specs.declared.error.DecodeError.TheVariants as Decoding

names_too : (F G : BodyFault → Type 0) → ((fault : BodyFault) → F fault → G fault) → (e : DecodeError) → IsFaultOf F e → IsFaultOf G e
names_too F G more (Decoding.Fault fault) h = more fault h
names_too F G more Decoding.OutOfMemory h = tt

answers_too : {A : Type 0} (F G : BodyFault → Type 0) → ((fault : BodyFault) → F fault → G fault) → (r : Result A DecodeError) → IfErr r (IsFaultOf F) → IfErr r (IsFaultOf G)
answers_too F G more (Ok a) h = h
answers_too F G more (Err e) h = names_too F G more e h

pub honest_kind : {A : Type 0} (k : KindTree) (body : List ℕ) (at : ℕ) (r : Result A DecodeError) → InBounds k → IfErr r (IsFaultOf (IsFaultAt k body at)) → IfErr r (IsFaultOf (IsHonestAt (BeginWithValue k) body at))
honest_kind k body at r bounds h = answers_too (IsFaultAt k body at) (IsHonestAt (BeginWithValue k) body at) (λ fault f. kind_honest_at k body at fault bounds f) r h

pub honest_record : {A : Type 0} (spec : SpecTree) (body : List ℕ) (at : ℕ) (r : Result A DecodeError) → NoFlaw spec → IfErr r (IsFaultOf (IsRecordFaultAt spec body at)) → IfErr r (IsFaultOf (IsHonestAt (BeginWithRecord spec) body at))
honest_record spec body at r clean h =
    answers_too (IsRecordFaultAt spec body at) (IsHonestAt (BeginWithRecord spec) body at)
    (λ fault f. record { place = f.place; bit = f.bit; honest = record_honest spec (drop at body) f.place fault.cause clean f.fails }) r h

-- an error that was passed on
pub honest_block : {A : Type 0} (spec : SpecTree) (body : List ℕ) (r : Result A DecodeError) (e : DecodeError) → NoFlaw spec → IsErrAnd r (λ d. d ≡ e) → IsFaultOf (IsBodyFault spec body) e
    → IfErr r (IsFaultOf (λ fault. IsHonest (SpellRecords spec) body fault.bit fault.cause))
honest_block spec body (Ok a) e clean passed h = absurd passed
honest_block spec body (Err d) e clean passed h =
    let trusted : BodyFault → Type 0 = λ fault. IsHonest (SpellRecords spec) body fault.bit fault.cause in
    subst (IsFaultOf trusted) (sym passed) (names_too (IsBodyFault spec body) trusted (λ fault f. body_honest spec body fault.bit fault.cause clean f.fails) e h)
