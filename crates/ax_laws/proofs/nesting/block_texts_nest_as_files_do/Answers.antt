use Rattle.ax_app.proofs.FileNesting.{block_nests, file_tokens}
use Rattle.ax_laws.proofs.nesting.block_texts_nest_as_files_do.Goals as goal

pub returns : goal.returns
returns c = record { nesting = block_nests; tokens = file_tokens }
