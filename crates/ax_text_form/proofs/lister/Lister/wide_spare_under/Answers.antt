use Rattle.ax_text_form.proofs.Pieces.{last_put, wide_spare_put}
use Rattle.ax_text_form.proofs.lister.Lister.wide_spare_under.Goals as goal

pub returns : goal.returns
returns c = last_put c.octet.result c.octet.ensures (λ h. wide_spare_put _ _ _ _ _ c.args.path.now c.args.number c.in_ok-path.ensures.appended c.in_ok-text3.ensures.appended c.in_ok-decimal.ensures h)
