use Rattle.std.proofs.Common.{◌≡◌, ℕ, ◌+◌, ◌-◌, ◌*◌, ◌%◌, drop, get_or, refl, sym, subst, ap, arith, ◌∙◌}
use Rattle.std.proofs.lemmas.Nat.{and_mask}
use Rattle.ax_format.specs.Presence.{octets_needed, none_marked}
use Rattle.ax_format.specs.declared.fault.BodyCause.TheVariants.{PresenceTooLong}
use Rattle.ax_format.specs.declared.fault.BodyFault.{BodyFault}
use Rattle.ax_fspec.specs.Fields.{mask_slots}
use Rattle.ax_fspec.proofs.FieldsRead.{ReadSoFar, nothing_read}
use Rattle.ax_fspec.proofs.MaskRead.{out_of_octets, undefined_slot, too_long_field, one_more, last_one}
use Rattle.ax_fspec.proofs.Sets.{none_of_no_marks}
use Rattle.ax_fspec.proofs.reading.read_presence.Goals as goal

pub loop-index-init : goal.loop-index-init
loop-index-init c = record {
  unchanged = refl;
  few = omega arith;
  read = nothing_read _ _ c.empty-marked.result (ap none_marked c.empty-marked.ensures ∙ none_of_no_marks);
}

pub returns-then-place-body-clause-err : goal.returns-then-place-body-clause-err
returns-then-place-body-clause-err c =
    out_of_octets c.args.mask.now c.args.body.now c.loop-index.marked c.args.at c.loop-index.index c.fault.result c.loop-index.invariant.read (omega (arith, c.loop-index-test.true)) c.if-place-body.true c.fault.ensures

pub returns-in-Some-clause-err : goal.returns-in-Some-clause-err
returns-in-Some-clause-err c =
    undefined_slot c.args.mask.now c.args.body.now c.loop-index.marked c.args.at c.loop-index.index _ c.octet.result c.in-Some.bit c.fault-in-Some.result c.loop-index.invariant.read (omega (arith, c.loop-index-test.true)) (omega arith) refl c.octet.ensures.marks
    c.in-Some.ensures.first c.fault-in-Some.ensures

pub returns-then-octet-eq0-clause-ok : goal.returns-then-octet-eq0-clause-ok
returns-then-octet-eq0-clause-ok c =
    let octet = get_or c.args.body.now (c.args.at + c.loop-index.index) 0 in
    let fx : octet % 2 ≡ 0 = sym (and_mask octet 1) ∙ c.if-octet-eq0.true in
    last_one c.args.mask.now c.args.body.now c.loop-index.marked c.mark_octet.new.self c.args.at c.loop-index.index _ c.octet.result c.loop-index.invariant.read (omega (arith, c.loop-index-test.true)) (omega arith) refl fx c.octet.ensures.marks
    c.in_default.ensures.first c.mark_octet.ensures.marks c.mark_octet.ensures.none_following c.mark_octet.ensures.size

pub loop-index-preserved : goal.loop-index-preserved
loop-index-preserved c =
    let octet = get_or c.args.body.now (c.args.at + c.loop-index.index) 0 in
    let fx : octet % 2 ≡ 1 = omega (arith, and_mask octet 1, c.if-octet-eq0.false) in
    record {
      unchanged = c.loop-index.invariant.unchanged;
      few = omega (arith, c.loop-index-test.true);
      read = one_more c.args.mask.now c.args.body.now c.loop-index.marked c.mark_octet.new.self c.args.at c.loop-index.index _ c.octet.result c.loop-index.invariant.read (omega arith) refl fx c.octet.ensures.marks
          c.in_default.ensures.first c.mark_octet.ensures.marks c.mark_octet.ensures.none_following;
    }

pub returns-clause-err : goal.returns-clause-err
returns-clause-err c =
    let mask = c.args.mask.now in
    let octets = drop c.args.at c.args.body.now in
    let all : c.loop-index.index ≡ octets_needed mask.count = omega (arith, c.loop-index.invariant.few, c.loop-index-test.false) in
    let told : ℕ → BodyFault = λ k. record { cause = PresenceTooLong; bit = 8 * (c.args.at + k - 1) + 7 } in
    too_long_field mask c.args.body.now c.loop-index.marked c.args.at c.fault-2.result
    (subst (λ k. ReadSoFar (mask_slots mask) octets k c.loop-index.marked) all c.loop-index.invariant.read) (c.fault-2.ensures ∙ ap told all)
