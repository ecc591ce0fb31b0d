use Rattle.ax_text_lines.proofs.DraftPieces.{number_added}
use Rattle.ax_text_lines.proofs.templates.Draft.number.Goals as goal

pub returns : goal.returns
returns c = number_added c.args.self.now c.octet.new.self c.push_step.new.self c.args.width c.in_ok-octet.ensures c.in_ok-push_step.ensures.step c.in_ok-push_step.ensures.count
