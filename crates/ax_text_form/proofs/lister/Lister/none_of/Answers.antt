use Rattle.ax_text_form.proofs.Pieces.{last_put, none_put}
use Rattle.ax_text_form.proofs.lister.Lister.none_of.Goals as goal

pub returns : goal.returns
returns c = last_put c.text3.result c.text3.ensures.appended (λ h. none_put _ _ _ c.args.path.now c.args.word.now c.in_ok-path.ensures.appended h)
