use Rattle.std.proofs.Common.{drop}
use Rattle.std.proofs.lemmas.Result.{on_ok_weaker}
use Rattle.ax_bits.specs.Bits.{bits}
use Rattle.ax_format.specs.Plain.{part_tree}
use Rattle.ax_format.specs.Reader.{members_value}
use Rattle.ax_text_form.proofs.KindWays.{part_put}
use Rattle.ax_text_lines.proofs.fixed.print_part.Goals as goal

pub returns-clause-text : goal.returns-clause-text
returns-clause-text c =
    let p = part_tree c.args.part.now in
    on_ok_weaker c.close.result (part_put p (members_value p (drop c.args.at.now (bits c.args.body.now))) c.args.line.now.octets c.text.new.self.octets c.open.new.self.octets c.print_members.new.line.octets c.close.new.self.octets c.in_ok-text.ensures.appended c.in_ok-open.ensures.appended c.in_ok-print_members.ensures.text) c.close.ensures.appended

pub returns-clause-at : goal.returns-clause-at
returns-clause-at c = on_ok_weaker c.close.result (λ _. c.in_ok-print_members.ensures.at) c.close.ensures.appended
