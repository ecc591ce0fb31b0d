use Rattle.ax_fspec.proofs.Undefined.{clear_octet, lead_some, lead_small, lead_first}
use Rattle.ax_fspec.proofs.reading.first_undefined.Goals as goal

pub overflow_sub-result : goal.overflow_sub-result
overflow_sub-result c = lead_some c.args.marks c.args.defined c.requires.marks c.requires.defined c.if-undefined-eq0.false

pub returns-then-undefined-eq0-clause-first : goal.returns-then-undefined-eq0-clause-first
returns-then-undefined-eq0-clause-first c = clear_octet c.args.marks c.args.defined c.requires.marks c.requires.defined c.if-undefined-eq0.true

pub returns-else-undefined-eq0 : goal.returns-else-undefined-eq0
returns-else-undefined-eq0 c = record {
  first = lead_first c.args.marks c.args.defined c.requires.marks c.requires.defined c.if-undefined-eq0.false;
  within = lead_small c.args.marks c.args.defined c.requires.marks c.requires.defined c.if-undefined-eq0.false;
}
