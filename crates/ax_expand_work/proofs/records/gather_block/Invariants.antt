use Rattle.ax_expand.specs.Expansion.{expansion_tree}
use Rattle.ax_walk.specs.Left.{records_left}
use Rattle.ax_expand_work.proofs.GatheredRecords.{Gathering}
use Rattle.ax_expand_work.proofs.records.gather_block.Given as goal

abbrev pub invariant-loop-number : goal.invariant-loop-number
invariant-loop-number l = Gathering (expansion_tree l.re.expansion.now) l.re.frn l.block l.view.codec.now l.view.body.now l.number l.fn.lines l.lines (records_left l.records)
