use Rattle.std.proofs.Common.{refl}
use Rattle.ax_app.proofs.Commands.{prepared_command, takes_command}
use Rattle.ax_app.proofs.Filters.{named_filter}
use Rattle.ax_app.proofs.tasks.over_catalogue.Goals as goal

pub returns-in-Canon : goal.returns-in-Canon
returns-in-Canon g c = rw c.in-Canon.is (prepared_command _ _ _ _ refl _ c.canon.ensures)

pub returns-in-Show : goal.returns-in-Show
returns-in-Show g c = rw c.in-Show.is (takes_command _ _ _ _ refl _ refl c.show.ensures)

pub returns-in-Text : goal.returns-in-Text
returns-in-Text g c = rw c.in-Text.is (takes_command _ _ _ _ refl _ refl c.text_blocks.ensures)

pub returns-in-Build : goal.returns-in-Build
returns-in-Build g c = rw c.in-Build.is (takes_command _ _ _ _ refl _ refl c.build.ensures)

pub returns-in-Filter : goal.returns-in-Filter
returns-in-Filter g c = rw c.in-Filter.is (named_filter _ _ _ _ _ c.text.ensures c.filter.ensures)

pub returns-in-Salvage : goal.returns-in-Salvage
returns-in-Salvage g c = rw c.in-Salvage.is (prepared_command _ _ _ _ refl _ c.salvage_blocks.ensures)
