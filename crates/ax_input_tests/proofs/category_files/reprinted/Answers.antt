use Rattle.ax_format.specs.Plain.{spec_tree}
use Rattle.ax_grammar.proofs.Ranges.{numbers_in_range}
use Rattle.ax_input_tests.proofs.category_files.reprinted.Goals as goal

pub print_spec-requires : goal.print_spec-requires
print_spec-requires g c = numbers_in_range (spec_tree c.in_ok-spec.spec) c.in_ok-spec.ensures.spells.in_range
