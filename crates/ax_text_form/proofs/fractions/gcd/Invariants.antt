use Rattle.ax_text_form.proofs.Divisors.{KeepsDivisors}
use Rattle.ax_text_form.proofs.fractions.gcd.Given as goal

abbrev pub invariant-loop-b : goal.invariant-loop-b
invariant-loop-b l = KeepsDivisors l.fn.a l.fn.b l.a l.b

abbrev pub decreases-loop-b : goal.decreases-loop-b
decreases-loop-b l = l.b
