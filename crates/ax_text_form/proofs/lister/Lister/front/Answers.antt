use Rattle.std.proofs.Common.{◌++◌, decimal, ap, ◌∙◌}
use Rattle.ax_text_form.proofs.Pieces.{last_put}
use Rattle.ax_text_form.proofs.ShowWays.{front_put}
use Rattle.ax_text_form.proofs.lister.Lister.front.Goals as goal

pub returns : goal.returns
returns c = last_put c.decimal-2.result c.decimal-2.ensures (λ h. front_put _ _ _ _ _ _ _ c.args.number c.args.category c.args.octets c.in_ok-octets.ensures (c.in_ok-decimal.ensures ∙ ap (λ n. c.octets.new.self.out.octets ++ decimal n) c.from.ensures) c.in_ok-octets-2.ensures (c.in_ok-octets-3.ensures ∙ ap (λ d. c.octets-2.new.self.out.octets ++ d) c.category_digits.ensures) c.in_ok-octets-4.ensures (h ∙ ap (λ n. c.octets-4.new.self.out.octets ++ decimal n) c.from-2.ensures))
