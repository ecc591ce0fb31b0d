use Rattle.std.proofs.Common.{length, get_or, ap, arith, subst}
use Rattle.std.proofs.lemmas.Bool.{ltb-true}
use Rattle.ax_migrate_views.proofs.KeptRecords.{few_of}
use Rattle.ax_walk.specs.Placing.{IsMarkedItem}
use Rattle.ax_migrate_views.proofs.kept.is_short.Goals as goal

pub returns-in-Some-marked_item : goal.returns-in-Some-marked_item
returns-in-Some-marked_item c sure =
    few_of c.args.codec.now c.args.items.marked c.args.body.now c.args.items.begin c.args.slot c.in-Some.slot c.args.short.now c.in-Some.is (record {
      item = c.in-Some-marked_item.item;
      slot = c.in-Some-marked_item.ensures.place;
      there = subst (IsMarkedItem c.args.codec.now c.args.items.marked c.args.body.now c.args.items.begin c.in-Some.slot) c.in-Some-marked_item.is c.marked_item.ensures.item;
      few = omega (arith, ltb-true (length c.octets.result.now) (get_or c.args.short.now c.in-Some.slot 0) sure, ap length c.octets.ensures.body);
    })
