use Rattle.std.proofs.Common.{◌∙◌, Bool, List, ℕ, subst}
use Rattle.std.specs.Fn.{FnReturnsAt}
use Rattle.ax_canon.proofs.KeptRecords.{none_if_fails}
use Rattle.ax_canon.specs.Kept.{IsCanonicalIf}
use Rattle.ax_codec.specs.declared.codec.Codec.{Codec}
use Rattle.ax_walk.specs.Views.{FailsThere}
use Rattle.ax_walk.specs.declared.record.RecordView.{RecordView}
use Rattle.ax_canon.proofs.kept.canonical_if.Goals as goal

pub returns-in-Ok-clause-kept : goal.returns-in-Ok-clause-kept
returns-in-Ok-clause-kept g c =
    let call : RecordView → Bool → Type 0 = λ one answer. FnReturnsAt g.F.Fn c.args.keep one answer in
    subst (λ (codec : Codec). IsCanonicalIf call codec c.args.view.now.body.now c.in-Ok.octets c.args.out.now c.scan_if.new.out) (c.of.ensures.codec ∙ c.codec.ensures)
    (subst (λ (body : List ℕ). IsCanonicalIf call c.of.result.codec.now body c.in-Ok.octets c.args.out.now c.scan_if.new.out) c.octets.ensures.body c.in-Ok.ensures.kept)

pub returns-in-Err-clause-kept : goal.returns-in-Err-clause-kept
returns-in-Err-clause-kept g c =
    none_if_fails (λ one answer. FnReturnsAt g.F.Fn c.args.keep one answer) c.args.view.now.codec.now c.args.view.now.body.now c.in-Err.field-0 c.args.out.now c.scan_if.new.out
    (subst (λ (codec : Codec). FailsThere codec c.args.view.now.body.now c.in-Err.field-0) (c.of.ensures.codec ∙ c.codec.ensures)
    (subst (λ (body : List ℕ). FailsThere c.of.result.codec.now body c.in-Err.field-0) c.octets.ensures.body c.in-Err.ensures.fault))
