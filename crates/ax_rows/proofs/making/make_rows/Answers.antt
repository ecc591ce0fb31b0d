use Rattle.std.proofs.Common.{arith}
use Rattle.std.proofs.lemmas.Grind.{common_steps}
use Rattle.ax_rows.proofs.RowLists.{rows_more}
use Rattle.ax_rows.proofs.making.make_rows.Goals as goal

pub loop-place-preserved : goal.loop-place-preserved
loop-place-preserved c = record {
  rows = rows_more c.args.octets.now c.args.slots.now c.loop-place.start.items c.slots_from.result.now c.loop-place.steps.items c.push_row_if_any.new.steps.items c.loop-place.place c.in_ok-first.first c.push.new.self.items c.loop-place.invariant.rows c.push_row_if_any.ensures.kept c.loop-place.invariant.count
      c.in_ok-push.ensures.items c.slots_from.ensures c.in_ok-first.ensures.row;
  count = grind (arith, common_steps, c.loop-place.invariant.count, c.in_ok-push.ensures.items);
}
