use Rattle.std.proofs.Common.{◌+◌, ◌++◌, ◌∷◌, [], arith, sym, ◌∙◌, subst}
use Rattle.ax_rescale.proofs.FrontSteps.{AreGoneOver, begins, is_long, goes_on, goes_over, with_equals, few_fronts, ends}
use Rattle.ax_rescale.specs.Splits.{AreFronts}
use Rattle.ax_rescale.proofs.fronts.fronts.Goals as goal
use Rattle.ax_rescale.proofs.fronts.fronts.Goals.{then-octets-own-gt-LONGEST+in_ok-push, else-octets-own-gt-LONGEST}

pub loop-one-init : goal.loop-one-init
loop-one-init c = subst (AreGoneOver c.args.spec.now c.args.records.now 0 0 3) (sym c.new-fronts.ensures) (begins c.args.spec.now c.args.records.now c.requires.some c.requires.shapes)

pub returns-then-alone-gt-LONGEST-clause-too_long : goal.returns-then-alone-gt-LONGEST-clause-too_long
returns-then-alone-gt-LONGEST-clause-too_long c =
    is_long c.args.spec.now c.args.records.now c.requires.no_flaw c.loop-one.one-index c.loop-one.count c.loop-one.octets c.octets_of_record-own.result c.loop-one.fronts c.one-item.result
    c.loop-one-test.true c.one-item.is c.octets_of_record-own.ensures c.loop-one.invariant c.saturating_add-alone.result c.saturating_add-alone.ensures c.if-alone-gt-LONGEST.true

pub loop-one-preserved : goal.loop-one-preserved
loop-one-preserved c =
    let spec = c.args.spec.now in
    let rs = c.args.records.now in
    let l = c.loop-one in
    let own = c.octets_of_record-own.result in
    let after = c.if-octets-own-gt-LONGEST in
    elim after.branch [
      | then-octets-own-gt-LONGEST+in_ok-push w ↦ with_equals spec rs (l.one-index + 1) 1 after.count (3 + own) after.octets (l.fronts ++ l.count ∷ []) after.fronts w.count-is w.octets-is (w.fronts-is ∙ w.in_ok-push.ensures.ok)
          (goes_over spec rs c.requires.no_flaw l.one-index l.count l.octets own l.fronts c.one-item.result c.loop-one-test.true c.one-item.is c.octets_of_record-own.ensures l.invariant
          c.saturating_add-alone.result c.saturating_add-alone.ensures c.if-alone-gt-LONGEST.false w.if-octets-own-gt-LONGEST.true)
      | else-octets-own-gt-LONGEST w ↦ with_equals spec rs (l.one-index + 1) (l.count + 1) after.count (l.octets + own) after.octets l.fronts after.fronts w.count-is w.octets-is w.fronts-is
          (goes_on spec rs c.requires.no_flaw l.one-index l.count l.octets own l.fronts c.one-item.result c.loop-one-test.true c.one-item.is c.octets_of_record-own.ensures l.invariant
          c.saturating_add-alone.result c.saturating_add-alone.ensures c.if-alone-gt-LONGEST.false w.if-octets-own-gt-LONGEST.false)
    ]

pub push-requires-2 : goal.push-requires-2
push-requires-2 c = record {
  room = few_fronts c.args.spec.now c.args.records.now c.loop-one.one-index c.loop-one.count c.loop-one.octets c.loop-one.fronts c.requires.some c.loop-one-test.false (omega (arith, c.loop-one.auto.one-index-end, c.requires.few)) c.loop-one.invariant;
}

pub returns-clause-fronts : goal.returns-clause-fronts
returns-clause-fronts c =
    subst (AreFronts c.args.spec.now c.args.records.now) (sym c.in_ok-push-2.ensures.ok) (ends c.args.spec.now c.args.records.now c.loop-one.one-index c.loop-one.count c.loop-one.octets c.loop-one.fronts c.loop-one-test.false c.loop-one.invariant)
