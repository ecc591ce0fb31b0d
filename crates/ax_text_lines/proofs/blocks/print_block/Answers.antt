use Rattle.ax_format.specs.Plain.{spec_tree}
use Rattle.ax_text_form.proofs.BlockWays.{read_line}
use Rattle.ax_text_lines.proofs.blocks.print_block.Goals as goal

pub returns-clause-printed : goal.returns-clause-printed
returns-clause-printed c =
    let spec = spec_tree c.args.items.now in
    let body = c.in_ok-print_body.ensures.records in record {
      records = body.records;
      spelled = body.spelled;
      is = read_line spec c.args.raw.now.category body.records c.begin.new.self.octets c.category.new.self.octets c.open.new.self.octets c.print_body.new.line.octets c.close.new.self.octets c.end.new.self.octets c.in_ok-begin.ensures.begun c.in_ok-category.ensures.appended c.in_ok-open.ensures.appended body.put c.in_ok-close.ensures.appended c.in_ok-end.ensures.appended;
    }
