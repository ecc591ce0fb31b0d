use Rattle.std.proofs.Common.{rules}
use Rattle.std.proofs.lemmas.Result.{err_from_is_err_and}
use Rattle.ax_format.specs.Plain.{catalogue_tree, block_tree}
use Rattle.ax_block_reader.proofs.BlockWays.{read_lacks, opaque_lacks, block_of_records, block_of_octets}
use Rattle.ax_block_reader.proofs.blocks.block.Goals as goal

pub returns-in_err-block-in-Read : goal.returns-in_err-block-in-Read
returns-in_err-block-in-Read c =
    let p = err_from_is_err_and c.from_residual-in_err-block-in-Read.result c.from_residual-in_err-block-in-Read.ensures.1 in
    rw (p.1, p.2) (read_lacks (catalogue_tree c.args.items.now) _ _ c.skip.new.self _ (search rules) c.in_err-block-in-Read.ensures)

pub returns-in_err-block-in-Opaque : goal.returns-in_err-block-in-Opaque
returns-in_err-block-in-Opaque c =
    let p = err_from_is_err_and c.from_residual-in_err-block-in-Opaque.result c.from_residual-in_err-block-in-Opaque.ensures.1 in
    rw (p.1, p.2) (opaque_lacks (catalogue_tree c.args.items.now) _ _ c.skip-in-Opaque.new.self _ (search rules) c.in_err-block-in-Opaque.ensures)

pub returns-in_ok-block-in-Read : goal.returns-in_ok-block-in-Read
returns-in_ok-block-in-Read c = block_of_records (catalogue_tree c.args.items.now) (block_tree c.in_ok-block-in-Read.block) _ c.skip.new.self _ (search rules) c.in_ok-block-in-Read.ensures

pub returns-in_ok-block-in-Opaque : goal.returns-in_ok-block-in-Opaque
returns-in_ok-block-in-Opaque c = block_of_octets (catalogue_tree c.args.items.now) (block_tree c.in_ok-block-in-Opaque.block) _ c.skip-in-Opaque.new.self _ (search rules) c.in_ok-block-in-Opaque.ensures
