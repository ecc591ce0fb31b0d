use Rattle.ax_text_form.proofs.Pieces.{last_put, content_put}
use Rattle.ax_text_form.proofs.lister.Lister.content_at.Goals as goal

pub returns : goal.returns
returns c = last_put c.octet.result c.octet.ensures (λ h. content_put _ _ _ _ _ c.args.path.now c.args.octets.now c.in_ok-path.ensures.appended c.in_ok-octets.ensures c.in_ok-hex.ensures h)
