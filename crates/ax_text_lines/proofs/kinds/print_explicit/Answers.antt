use Rattle.ax_format.specs.Tree.{content_octets}
use Rattle.ax_text_lines.proofs.kinds.print_explicit.Goals as goal

pub returns-clause-ok : goal.returns-clause-ok
returns-clause-ok c = record { value = content_octets _; read = c.in_ok-content.ensures.content; put = c.in_ok-hex.ensures.appended }
