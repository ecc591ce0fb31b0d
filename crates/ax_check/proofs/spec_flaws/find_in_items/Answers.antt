use Rattle.std.proofs.Common.{◌≡◌, ◌∷◌, ◌++◌, rules}
use Rattle.ax_check.proofs.ItemLists.{item_start, name_start, item_step, name_step, item_end, name_end}
use Rattle.ax_check.specs.Members.{item_flaws}
use Rattle.ax_check.specs.Names.{listed, AreSame}
use Rattle.ax_format.specs.Plain.{item_tree}
use Rattle.ax_check.proofs.spec_flaws.find_in_items.Goals as goal

pub loop-item-preserved : goal.loop-item-preserved
loop-item-preserved c =
    let flaws : c.find_in_item.new.found ≡ c.loop-item.found ++ item_flaws c.args.path.now (listed c.loop-item.names.set) (item_tree c.item-item.result) = search rules in
    let names : AreSame (listed c.find_in_item.new.names.set) (c.item-item.result.name ∷ listed c.loop-item.names.set) = search rules in (
      item_step c.args.path.now c.loop-item.item-index (listed c.loop-item.names.set) (listed c.find_in_item.new.names.set) c.args.items.now c.item-item.result c.loop-item.found c.find_in_item.new.found _ (search rules) (search rules) flaws names c.loop-item.invariant.0,
      name_step c.loop-item.item-index (listed c.loop-item.names.set) (listed c.find_in_item.new.names.set) _ c.args.items.now c.item-item.result (search rules) (search rules) names c.loop-item.invariant.1,
    )

pub loop-item-init : goal.loop-item-init
loop-item-init c =
    (item_start c.args.path.now (listed c.args.names.now.set) c.args.items.now c.args.found.now c.requires, name_start (listed c.args.names.now.set) c.args.items.now c.requires)

pub returns-clause-flaws : goal.returns-clause-flaws
returns-clause-flaws c = item_end c.args.path.now c.loop-item.item-index (listed c.loop-item.names.set) c.args.items.now c.loop-item.found _ (search rules) c.loop-item.invariant.0

pub returns-clause-names : goal.returns-clause-names
returns-clause-names c = name_end c.loop-item.item-index (listed c.loop-item.names.set) _ c.args.items.now (search rules) c.loop-item.invariant.1

pub returns-in_err-find_in_item-clause-flaws : goal.returns-in_err-find_in_item-clause-flaws
returns-in_err-find_in_item-clause-flaws c = search rules

pub returns-in_err-find_in_item-clause-names : goal.returns-in_err-find_in_item-clause-names
returns-in_err-find_in_item-clause-names c = search rules
