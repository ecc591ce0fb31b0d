use Rattle.ax_text_form.proofs.BlockWays.{opaque_line}
use Rattle.ax_text.proofs.blocks.opaque_text.Goals as goal

pub returns : goal.returns
returns c = opaque_line c.args.category c.args.octets.now c.in_ok-line.line.items c.put_category.new.line.items c.put_hex.new.line.items c.push.new.self.items c.in_ok-line.ensures.items c.in_ok-put_category.ensures c.in_ok-put_hex.ensures c.in_ok-push.ensures.items
