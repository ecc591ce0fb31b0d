use Rattle.std.proofs.Common.{◌++◌, ◌∷◌, [], codes}
use Rattle.ax_format.specs.Signs.{by_sign}
use Rattle.ax_format.specs.declared.content.Content.TheVariants.{Quantity}
use Rattle.ax_text_form.specs.NamedPlaces.{place_path}
use Rattle.ax_text_form.specs.Remarks.{quoted, multiple_text, remark}
use Rattle.ax_text_form.specs.ShowText.{number_line}
use Rattle.ax_text_form.proofs.Pieces.{last_put, element_put, two_pieces}
use Rattle.ax_text_form.proofs.lister.Lister.quantity_under.Goals as goal

pub returns : goal.returns
returns c =
    let scale = c.args.held.now.scale.now in
    let multiple = multiple_text (by_sign scale.sign c.args.width c.args.number) scale.num scale.den ++ codes " " ++ quoted scale.unit ++ 0x0A ∷ [] in
    last_put c.multiple_end.result c.multiple_end.ensures (λ h. element_put c.args.self.now.out.octets c.number_under.new.self.out.octets c.multiple_end.new.self.out.octets (number_line (place_path c.args.place.now) c.args.number) (remark c.args.width (Quantity scale) c.args.number) c.in_ok-number_under.ensures
    (two_pieces c.number_under.new.self.out.octets c.octet.new.self.out.octets c.multiple_end.new.self.out.octets (0x20 ∷ []) multiple c.in_ok-octet.ensures h))
