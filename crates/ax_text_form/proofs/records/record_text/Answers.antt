use Rattle.ax_format.specs.Plain.{spec_tree, record_tree}
use Rattle.ax_text_form.proofs.BlockWays.{record_line}
use Rattle.ax_text_form.proofs.records.record_text.Goals as goal

pub returns : goal.returns
returns c =
    record_line (spec_tree c.args.spec.now) (record_tree c.args.one.now) c.in_ok-from_slice.field-0.items c.text.new.self.out.items c.items.new.self.out.items c.text-2.new.self.out.items c.in_ok-from_slice.ensures.items c.in_ok-text.ensures c.in_ok-items.ensures c.in_ok-text-2.ensures
