use Rattle.std.proofs.lemmas.Result.{on_ok_weaker}
use Rattle.ax_text_form.proofs.Printed.{text_put}
use Rattle.ax_text_lines.proofs.line.TokenLine.text.Goals as goal

pub returns-clause-appended : goal.returns-clause-appended
returns-clause-appended c = on_ok_weaker c.more-2.result (text_put c.args.self.now.octets c.more.new.self.octets c.more-2.new.self.octets c.args.text.now c.in_ok-more.ensures.appended) c.more-2.ensures.appended
