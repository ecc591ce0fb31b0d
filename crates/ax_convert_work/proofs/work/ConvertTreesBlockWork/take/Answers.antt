use Rattle.ax_blocks.specs.Reader.{raw_tree}
use Rattle.ax_convert_work.proofs.Taking.{made_cut}
use Rattle.ax_format.specs.Plain.{spec_tree}
use Rattle.ax_convert_work.proofs.work.ConvertTreesBlockWork.take.Goals as goal

pub returns-clause-takes : goal.returns-clause-takes
returns-clause-takes g c =
    let m = c.args.self.now.converter in
    made_cut (spec_tree m.old.now) (spec_tree m.new.now) c.args.number (raw_tree c.args.raw.now) _ _ c.in-Ok.ensures.made _ _ _ c.in-Err-write_misses.field-0 c.in-Err-write_misses.ensures
