use Rattle.std.proofs.Common.{◌≡◌, ℕ, ◌+◌, List, ◌++◌, arith, rules, subst}
use Rattle.ax_edition.proofs.PathLists.{items_step, items_end}
use Rattle.ax_edition.specs.Relating.{lead, related_slot}
use Rattle.ax_edition.specs.SlotItems.{item_slot}
use Rattle.ax_edition.proofs.relating.relate_items.Goals as goal

pub loop-item-preserved : goal.loop-item-preserved
loop-item-preserved c =
    let added = subst (λ (numbers : List ℕ). c.add_item.new.self.paths ≡ c.loop-item.keys.paths ++ related_slot c.args.text numbers (c.loop-item.before + 1) (item_slot c.item-item.result) (lead c.args.level.now)) c.new.ensures c.in_ok-add_item.ensures in (
      omega (arith, c.loop-item.invariant.0),
      items_step c.args.text (lead c.args.level.now) c.loop-item.item-index c.loop-item.before c.args.items.now _ _ _ _ added c.loop-item.invariant.1 (search rules) (search rules),
    )

pub returns : goal.returns
returns c = items_end c.args.text (lead c.args.level.now) c.loop-item.item-index c.loop-item.before c.args.items.now _ _ c.loop-item.invariant.1 (search rules)
