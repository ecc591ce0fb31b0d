use Rattle.ax_text_lines.proofs.DraftPieces.{TextDrafted}
use Rattle.ax_text_lines.proofs.templates.Draft.text.Given as goal

abbrev pub invariant-loop-octet : goal.invariant-loop-octet
invariant-loop-octet l = TextDrafted l.text l.octet-index l.fn.self l.self
