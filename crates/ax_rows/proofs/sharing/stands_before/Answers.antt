use Rattle.std.proofs.Common.{◌-◌, ap, arith}
use Rattle.ax_rows.specs.Rows.{StandsBefore}
use Rattle.ax_rows.proofs.StandingRows.{same_at}
use Rattle.ax_rows.specs.declared.step.Step.{Step}
use Rattle.ax_rows.proofs.sharing.stands_before.Goals as goal

pub returns-then-one-other : goal.returns-then-one-other
returns-then-one-other c = (λ t. grind (arith, t), λ h. absurd (differ h))
  where
    differ : StandsBefore c.args.steps.now c.args.place c.args.first → ⊥
    differ h =
        let same = same_at c.args.steps.now c.args.place c.args.first (c.loop-left.left - 1) (omega (arith, c.loop-left-test.true, c.loop-left.invariant.few)) h in
        let skip = ap (λ s. Step.skip s) same in
        let link = ap (λ s. Step.link s) same in
        grind (arith, skip, link, c.then-one-other.either)
