use Rattle.ax_laws.proofs.ExpansionExamples.{first_spelled, nothing_there, spare_marked, mark_past_the_last, entry_cut_off, octet_behind}
use Rattle.ax_laws.proofs.expand_examples.fixed_contents_judged.Goals as goal

pub returns-clause-first : goal.returns-clause-first
returns-clause-first c = first_spelled

pub returns-clause-nothing : goal.returns-clause-nothing
returns-clause-nothing c = nothing_there

pub returns-clause-spare : goal.returns-clause-spare
returns-clause-spare c = spare_marked

pub returns-clause-past_the_last : goal.returns-clause-past_the_last
returns-clause-past_the_last c = mark_past_the_last

pub returns-clause-cut_off : goal.returns-clause-cut_off
returns-clause-cut_off c = entry_cut_off

pub returns-clause-trailing : goal.returns-clause-trailing
returns-clause-trailing c = octet_behind
