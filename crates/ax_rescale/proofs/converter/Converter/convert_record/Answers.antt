use Rattle.std.proofs.Common.{◌++◌, ◌∙◌, ap}
use Rattle.ax_format.specs.Plain.{spec_tree, record_tree, entries_tree}
use Rattle.ax_format.specs.Tree.{EntriesTree}
use Rattle.ax_rescale.proofs.Converters.{passed_is}
use Rattle.ax_rescale.specs.Watching.{record_misses}
use Rattle.ax_rescale.proofs.converter.Converter.convert_record.Goals as goal

pub returns-clause-made : goal.returns-clause-made
returns-clause-made c = passed_is c.args.self.now c.requires.is (record_tree c.args.one.now) c.requires.shape (entries_tree c.in_ok-entries.entries) c.in_ok-entries.ensures

pub returns-clause-misses : goal.returns-clause-misses
returns-clause-misses c =
    c.in_ok-miss_record.ensures
    ∙ ap (λ (made : EntriesTree). c.args.misses.now ++ record_misses (spec_tree c.args.self.now.old.now) (spec_tree c.args.self.now.new.now) c.args.number (record_tree c.args.one.now) made c.args.self.now.relation.now.paths)
    (passed_is c.args.self.now c.requires.is (record_tree c.args.one.now) c.requires.shape (entries_tree c.in_ok-entries.entries) c.in_ok-entries.ensures)
