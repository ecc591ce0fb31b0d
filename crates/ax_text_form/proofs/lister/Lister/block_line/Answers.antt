use Rattle.std.proofs.Common.{◌++◌, decimal, ap, ◌∙◌}
use Rattle.ax_text_form.proofs.Pieces.{last_put}
use Rattle.ax_text_form.proofs.ShowWays.{block_put}
use Rattle.ax_text_form.proofs.lister.Lister.block_line.Goals as goal

pub returns : goal.returns
returns c = last_put c.octet.result c.octet.ensures (λ h. block_put _ _ _ _ _ c.args.number c.args.category c.args.octets c.args.records c.in_ok-front.ensures c.in_ok-octets.ensures (c.in_ok-decimal.ensures ∙ ap (λ n. c.octets.new.self.out.octets ++ decimal n) c.from.ensures) h)
