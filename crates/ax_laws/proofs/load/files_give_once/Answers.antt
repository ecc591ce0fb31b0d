use Rattle.ax_load.proofs.FilesOnce.{given_once, given_ends_for_memory}
use Rattle.ax_load.proofs.EndsOnce.{loading_ends_once}
use Rattle.ax_laws.proofs.load.files_give_once.Goals as goal

pub returns : goal.returns
returns c = record { once = given_once; ends = given_ends_for_memory; ends_once = loading_ends_once }
