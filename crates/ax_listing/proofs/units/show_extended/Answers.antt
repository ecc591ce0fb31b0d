use Rattle.std.proofs.Common.{map, codes}
use Rattle.ax_held_kinds.specs.Held.{held_part}
use Rattle.ax_format.specs.Tree.{extended}
use Rattle.ax_listing.proofs.Leading.{counted_shown, counted_longer}
use Rattle.ax_listing.proofs.units.show_extended.Goals as goal

pub set_count-requires : goal.set_count-requires
set_count-requires c =
    counted_longer (extended c.args.last (map held_part c.args.parts.now)) c.args.path.now (codes "parts") c.args.from.body.now c.args.from.at c.in_ok-end.end c.len-line.result c.args.lister.now.out.octets c.none_of.new.self.out.octets c.show_parts.new.lister.out.octets c.in_ok-end.count c.in_ok-none_of.ensures c.len-line.ensures c.in_ok-end.ensures.ok

pub returns-clause-ok : goal.returns-clause-ok
returns-clause-ok c =
    counted_shown (extended c.args.last (map held_part c.args.parts.now)) c.args.path.now (codes "parts") c.args.from.body.now c.args.from.at c.in_ok-end.end c.len-line.result c.args.lister.now.out.octets c.none_of.new.self.out.octets c.show_parts.new.lister.out.octets c.set_count.new.self.out.octets c.in_ok-end.count
    c.in_ok-none_of.ensures c.len-line.ensures c.in_ok-end.ensures.ok c.in_ok-set_count.ensures
