use Rattle.std.proofs.Common.{ap, ◌∙◌, arith, length-take-le}
use Rattle.ax_outside.proofs.Given.{given_and_rest}
use Rattle.ax_outside.proofs.memory_source.MemSourceSource.read.Goals as goal

pub returns-clause-gives : goal.returns-clause-gives
returns-clause-gives c = given_and_rest _ _ _ _ _ _ _ (ap (λ s. s.left) c.self.view_is) c.deref-2.ensures.value
    c.copy_from_slice.ensures.after (c.copy_from_slice.ensures.len ∙ length-take-le _ _ (omega arith))
