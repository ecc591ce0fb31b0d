use Rattle.std.proofs.Common.{◌↔◌, IsTrue}
use Rattle.ax_format.specs.Plain.{catalogue_tree}
use Rattle.ax_tokens.specs.Stopping.{texts_of}
use Rattle.ax_expressions.specs.Faults.{PathsLead, IsAfterIs}
use Rattle.ax_expressions.proofs.faults.first_fault.Given as goal

abbrev pub invariant-loop-number : goal.invariant-loop-number
invariant-loop-number l = record {
  before : PathsLead (catalogue_tree l.catalogue) (texts_of l.tokens) l.number;
  after : IsTrue l.after_is ↔ IsAfterIs (texts_of l.tokens) l.number;
}
