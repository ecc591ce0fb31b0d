use Rattle.std.proofs.Common.{arith, rules}
use Rattle.ax_rescale.proofs.MappingLists.{items_step, items_end}
use Rattle.ax_edition.specs.Index.{found}
use Rattle.ax_rescale.proofs.mappings.mappings_of_items.Goals as goal

pub loop-item-preserved : goal.loop-item-preserved
loop-item-preserved c = (
  omega (arith, c.loop-item.invariant.0),
  items_step c.loop-item.item-index c.loop-item.before c.args.new.now (found c.args.old.now) _ _ _ _ c.in_ok-mapping_to_item.ensures c.loop-item.invariant.1 (search rules) (search rules),
)

pub returns : goal.returns
returns c = items_end c.loop-item.item-index c.loop-item.before c.args.new.now (found c.args.old.now) _ _ c.loop-item.invariant.1 (search rules)
