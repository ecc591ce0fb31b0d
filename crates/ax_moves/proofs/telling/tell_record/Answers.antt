use Rattle.std.proofs.Common.{ap, sym}
use Rattle.ax_migration.specs.Finding.{record_losses}
use Rattle.ax_migration.specs.Losing.{lost_lines}
use Rattle.ax_moves.proofs.LostRuns.{record_lost}
use Rattle.ax_moves.proofs.ToldLines.{told_same}
use Rattle.ax_moves.specs.Lost.{key_paths, losses_below}
use Rattle.ax_moves.specs.Wholes.{whole_entries}
use Rattle.ax_format.specs.Tree.{marked}
use Rattle.ax_moves.proofs.telling.tell_record.Goals as goal

pub returns-clause-told : goal.returns-clause-told
returns-clause-told c =
    let es = whole_entries c.args.whole.now in
    told_same (lost_lines c.args.name.block (losses_below c.args.name.number 0 (marked es) c.args.keys.now)) (lost_lines c.args.name.block (record_losses c.args.name.number es (key_paths c.args.keys.now))) c.args.at c.tell_keys.result c.args.lines.now c.tell_keys.new.lines
    (ap (lost_lines c.args.name.block) (sym (record_lost c.args.name.number es c.args.keys.now c.requires.runs))) c.tell_keys.ensures.told
