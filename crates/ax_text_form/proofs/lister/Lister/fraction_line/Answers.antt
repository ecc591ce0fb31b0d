use Rattle.std.proofs.Common.{◌*◌, ◌++◌, ◌∷◌, [], ◌∙◌, codes}
use Rattle.ax_text_form.specs.Remarks.{quoted, reduced_text}
use Rattle.ax_text_form.proofs.Pieces.{last_put}
use Rattle.ax_text_form.proofs.QuantityLines.{by_end}
use Rattle.ax_text_form.proofs.lister.Lister.fraction_line.Goals as goal

pub returns-then-twos-ends : goal.returns-then-twos-ends
returns-then-twos-ends c =
    let scale = c.args.held.now.scale.now in
    last_put c.number_and_literal.result c.number_and_literal.ensures.appended (λ h. by_end c.args.self.now.out.octets c.number_and_literal.new.self.octets c.index-ends-twos.result scale.unit c.args.held.now.ends.now (c.from.result * c.from-2.result) scale.den c.in-Some.twos
    c.args.held.now.made c.if-twos-ends.true c.index-ends-twos.is c.in-Some.ensures.1 h
    ∙ (λ i. c.args.self.now.out.octets ++ (reduced_text (c.from.ensures i * c.from-2.ensures i) scale.den ++ codes " " ++ quoted scale.unit ++ 0x0A ∷ [])))
