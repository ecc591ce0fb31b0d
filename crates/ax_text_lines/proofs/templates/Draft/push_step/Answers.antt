use Rattle.ax_text_lines.proofs.DraftPieces.{one_step}
use Rattle.ax_text_lines.proofs.templates.Draft.push_step.Goals as goal

pub returns-clause-step : goal.returns-clause-step
returns-clause-step c = λ r. one_step c.args.self.now.steps c.push.new.self _ r c.in_ok-push.ensures.ok
