use Rattle.std.proofs.Common.{lit<}
use Rattle.ax_relation.proofs.Once.{moved_migrated}
use Rattle.ax_format.specs.EditionExamples.{first_edition, second_edition, both_subitems}
use Rattle.ax_laws.proofs.edition_examples.compound_in_another_order.Goals as goal

pub returns-clause-migrated : goal.returns-clause-migrated
returns-clause-migrated c = moved_migrated first_edition second_edition both_subitems (record { shape = ((lit< tt, (lit< tt, tt)), tt) })
