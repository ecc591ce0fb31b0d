use Rattle.std.proofs.Common.{◌++◌, codes, decimal, ap, ◌∙◌}
use Rattle.ax_text_form.proofs.Pieces.{last_put, two_put}
use Rattle.ax_text_form.proofs.lister.Lister.record_front.Goals as goal

pub returns : goal.returns
returns c = last_put c.octet.result c.octet.ensures (λ h. two_put c.args.self.now.out.octets c.octets.new.self.out.octets c.decimal.new.self.out.octets c.octet.new.self.out.octets (codes "record ") (decimal c.args.number) c.in_ok-octets.ensures (c.in_ok-decimal.ensures ∙ ap (λ n. c.octets.new.self.out.octets ++ decimal n) c.from.ensures) h)
