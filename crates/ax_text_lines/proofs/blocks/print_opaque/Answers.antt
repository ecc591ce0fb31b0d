use Rattle.ax_text_form.proofs.BlockWays.{opaque_line}
use Rattle.ax_text_lines.proofs.blocks.print_opaque.Goals as goal

pub returns : goal.returns
returns c = opaque_line c.args.raw.now.category c.args.raw.now.body.now c.begin.new.self.octets c.category.new.self.octets c.hex.new.self.octets c.end.new.self.octets c.in_ok-begin.ensures.begun c.in_ok-category.ensures.appended c.in_ok-hex.ensures.appended c.in_ok-end.ensures.appended
