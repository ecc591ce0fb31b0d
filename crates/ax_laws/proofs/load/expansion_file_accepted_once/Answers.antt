use Rattle.ax_load.proofs.EndsOnce.{fault_once}
use Rattle.ax_load.proofs.ExpansionsOnce.{expansion_files_are_one}
use Rattle.ax_load.proofs.FilesOnce.{accepted_once, accepted_not_refused}
use Rattle.ax_load.specs.Languages.{expansion_files}
use Rattle.ax_laws.proofs.load.expansion_file_accepted_once.Goals as goal

pub returns : goal.returns
returns c = record {
  once = accepted_once expansion_files expansion_files_are_one;
  never_both = accepted_not_refused expansion_files expansion_files_are_one;
  fault_once = fault_once expansion_files expansion_files_are_one;
}
