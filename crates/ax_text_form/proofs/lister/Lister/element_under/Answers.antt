use Rattle.ax_text_form.specs.NamedPlaces.{place_path}
use Rattle.ax_text_form.specs.Remarks.{remark}
use Rattle.ax_text_form.specs.ShowText.{number_line}
use Rattle.ax_text_form.proofs.Pieces.{last_put, element_put}
use Rattle.ax_text_form.proofs.lister.Lister.element_under.Goals as goal

pub returns : goal.returns
returns c =
    last_put c.remark_end.result c.remark_end.ensures (λ h. element_put c.args.self.now.out.octets c.number_under.new.self.out.octets c.remark_end.new.self.out.octets (number_line (place_path c.args.place.now) c.args.number) (remark c.args.width c.args.content.now c.args.number) c.in_ok-number_under.ensures h)
