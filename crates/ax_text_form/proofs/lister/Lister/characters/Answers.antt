use Rattle.std.proofs.Common.{codes}
use Rattle.ax_text_form.specs.Remarks.{characters}
use Rattle.ax_text_form.proofs.Pieces.{last_put, three_pieces}
use Rattle.ax_text_form.proofs.lister.Lister.characters.Goals as goal

pub returns : goal.returns
returns c = last_put c.octet.result c.octet.ensures (λ h. three_pieces c.args.self.now.out.octets c.octets.new.self.out.octets c.each_character.new.self.out.octets c.octet.new.self.out.octets (codes " \"") (characters c.args.alphabet c.args.width c.args.number) (codes "\"") c.in_ok-octets.ensures c.in_ok-each_character.ensures h)
