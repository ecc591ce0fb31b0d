use Rattle.ax_load.proofs.FilesOnce.{category_files_are_one, accepted_once, accepted_not_refused}
use Rattle.ax_load.proofs.EndsOnce.{fault_once}
use Rattle.ax_load.specs.Languages.{category_files}
use Rattle.ax_laws.proofs.load.file_accepted_once.Goals as goal

pub returns : goal.returns
returns c = record {
  once = accepted_once category_files category_files_are_one;
  never_both = accepted_not_refused category_files category_files_are_one;
  fault_once = fault_once category_files category_files_are_one;
}
