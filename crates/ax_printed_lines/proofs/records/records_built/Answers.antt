use Rattle.ax_format.specs.Plain.{spec_tree}
use Rattle.ax_printed_lines.proofs.RecordsBuilt.{records_first, records_next, records_last}
use Rattle.ax_printed_lines.proofs.records.records_built.Goals as goal

pub loop-init : goal.loop-init
loop-init c = records_first (spec_tree c.args.items.now) c.args.cursor.now c.args.out.now

pub returns-then-ends-clause-records : goal.returns-then-ends-clause-records
returns-then-ends-clause-records c =
    records_last (spec_tree c.args.items.now) c.args.cursor.now c.loop.cursor c.record_built.new.cursor c.args.out.now c.loop.out c.record_built.new.out c.loop.invariant c.in_ok-record_built.ensures

pub loop-preserved : goal.loop-preserved
loop-preserved c =
    records_next (spec_tree c.args.items.now) c.args.cursor.now c.loop.cursor c.record_built.new.cursor c.args.out.now c.loop.out c.record_built.new.out c.loop.invariant c.in_ok-record_built.ensures
