use Rattle.std.proofs.Common.{codes, refl}
use Rattle.ax_text_form.proofs.Pieces.{last_put, spare_put}
use Rattle.ax_text_form.proofs.lister.Lister.spare_under.Goals as goal

pub returns : goal.returns
returns c =
    last_put c.octet.result c.octet.ensures (λ h. spare_put c.args.self.now.out.octets c.named_number.new.self.octets c.octet.new.self.out.octets c.args.path.now (codes "spare\0\0\0\0\0\0\0\0\0\0\0") 5 c.args.number refl c.in_ok-named_number.ensures.appended h)
