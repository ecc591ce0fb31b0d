use Rattle.std.proofs.Common.{codes}
use Rattle.ax_held_kinds.specs.HeldFixed.{held_fixed}
use Rattle.ax_format.specs.Tree.{by_fx}
use Rattle.ax_listing.proofs.Leading.{counted_shown, counted_longer}
use Rattle.ax_listing.proofs.units.show_by_fx.Goals as goal

pub set_count-requires : goal.set_count-requires
set_count-requires c =
    counted_longer (by_fx (held_fixed c.args.fixed.now)) c.args.path.now (codes "occurrences") c.args.from.body.now c.args.from.at c.in_ok-end.end c.len-line.result c.args.lister.now.out.octets c.none_of.new.self.out.octets c.show_run.new.lister.out.octets c.in_ok-end.count c.in_ok-none_of.ensures c.len-line.ensures c.in_ok-end.ensures.ok

pub returns-clause-ok : goal.returns-clause-ok
returns-clause-ok c =
    counted_shown (by_fx (held_fixed c.args.fixed.now)) c.args.path.now (codes "occurrences") c.args.from.body.now c.args.from.at c.in_ok-end.end c.len-line.result c.args.lister.now.out.octets c.none_of.new.self.out.octets c.show_run.new.lister.out.octets c.set_count.new.self.out.octets c.in_ok-end.count
    c.in_ok-none_of.ensures c.len-line.ensures c.in_ok-end.ensures.ok c.in_ok-set_count.ensures
