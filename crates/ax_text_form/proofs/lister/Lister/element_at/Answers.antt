use Rattle.std.proofs.Common.{codes, decimal}
use Rattle.ax_text_form.specs.Remarks.{remark}
use Rattle.ax_text_form.specs.ShowText.{number_line}
use Rattle.ax_text_form.proofs.Pieces.{last_put, three_pieces, two_put}
use Rattle.ax_text_form.proofs.lister.Lister.element_at.Goals as goal

pub returns : goal.returns
returns c = last_put c.octet.result c.octet.ensures (λ h. two_put c.args.self.now.out.octets c.decimal.new.self.out.octets c.remark.new.self.out.octets c.octet.new.self.out.octets (number_line c.args.path.now c.args.number) (remark c.args.width c.args.content.now c.args.number) (three_pieces _ _ c.octets.new.self.out.octets c.decimal.new.self.out.octets c.args.path.now (codes " = ") (decimal c.args.number) c.in_ok-path.ensures.appended c.in_ok-octets.ensures c.in_ok-decimal.ensures) c.in_ok-remark.ensures h)
