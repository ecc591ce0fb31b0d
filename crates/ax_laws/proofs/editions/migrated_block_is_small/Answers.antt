use Rattle.ax_relation.proofs.SmallBlocks.{migrated_is_small}
use Rattle.ax_laws.proofs.editions.migrated_block_is_small.Goals as goal

pub returns : goal.returns
returns c = migrated_is_small
