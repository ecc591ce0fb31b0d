use Rattle.std.proofs.Common.{◌/◌}
use Rattle.ax_text_form.specs.Remarks.{piece_size}
use Rattle.ax_text_form.proofs.RemarkWays.{CharactersLeft}
use Rattle.ax_text_form.proofs.lister.Lister.each_character.Given as goal

abbrev pub invariant-loop-left : goal.invariant-loop-left
invariant-loop-left l = CharactersLeft l.alphabet l.number (l.width / piece_size l.alphabet) l.fn.self.out.octets l.self.out.octets l.left

abbrev pub decreases-loop-left : goal.decreases-loop-left
decreases-loop-left l = l.left
