use Rattle.std.proofs.Common.{ℕ, List, subst}
use Rattle.ax_format.specs.Plain.{spec_tree}
use Rattle.ax_trial.proofs.Sums.{one_more}
use Rattle.ax_trial.specs.Counting.{AddsForm}
use Rattle.ax_trial.proofs.trial.totals_of.Goals as goal

pub loop-left-preserved : goal.loop-left-preserved
loop-left-preserved c =
    let octets = c.in_ok-octets.octets.items in
    let counted : AddsForm (spec_tree c.args.accepted.now) c.loop-left.totals c.count_block.new.totals octets =
    subst (λ s. AddsForm (spec_tree s) c.loop-left.totals c.count_block.new.totals octets) c.spec.ensures.spec
    (subst (λ (xs : List ℕ). AddsForm (spec_tree c.spec.result.now) c.loop-left.totals c.count_block.new.totals xs) c.deref.ensures.value c.count_block.ensures.counted) in (
      one_more (spec_tree c.args.accepted.now) c.args.blocks.seed c.args.blocks.count c.loop-left.left c.loop-left.totals c.count_block.new.totals octets counted.canonical counted.records c.loop-left.draws c.make_block.new.draws
          c.loop-left.invariant.0 c.loop-left-test.true c.in_ok-octets.ensures.made counted.form counted.added,
      c.count_block.ensures.room,
    )
