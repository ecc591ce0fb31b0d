use Rattle.ax_expand.specs.Expansion.{expansion_tree}
use Rattle.ax_walk.specs.Left.{record_shown, records_left}
use Rattle.ax_expand_work.proofs.GatheredRecords.{gathering_goes_on, gathered_all}
use Rattle.ax_expand_work.proofs.records.gather_block.Goals as goal

pub returns-in_default : goal.returns-in_default
returns-in_default c =
    gathered_all (expansion_tree c.args.re.expansion.now) c.args.re.frn c.args.block c.args.view.now.codec.now c.args.view.now.body.now c.loop-number.number c.args.lines.now c.loop-number.lines (records_left c.loop-number.records) c.in_default.ensures.steps.0 c.loop-number.invariant

pub loop-number-preserved : goal.loop-number-preserved
loop-number-preserved c =
    gathering_goes_on (expansion_tree c.args.re.expansion.now) c.args.re.frn c.args.block c.args.view.now.codec.now c.args.view.now.body.now c.loop-number.number c.args.lines.now c.loop-number.lines c.gather_record.new.lines (record_shown c.in-Some.one) (records_left c.loop-number.records) (records_left c.next.new.self)
    c.in-Some.ensures.steps c.loop-number.invariant c.in_ok-gather_record.ensures
