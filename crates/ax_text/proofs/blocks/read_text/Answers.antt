use Rattle.ax_format.specs.Plain.{spec_tree, records_tree}
use Rattle.ax_text_form.proofs.BlockWays.{read_line}
use Rattle.ax_text.proofs.blocks.read_text.Goals as goal

pub returns : goal.returns
returns c =
    read_line (spec_tree c.args.spec.now) c.args.category (records_tree c.args.records.now) c.in_ok-line.line.items c.put_category.new.line.items c.put_text.new.line.items c.put_records.new.line.items c.put_text-2.new.line.items c.push.new.self.items
    c.in_ok-line.ensures.items c.in_ok-put_category.ensures c.in_ok-put_text.ensures c.in_ok-put_records.ensures c.in_ok-put_text-2.ensures c.in_ok-push.ensures.items
