use Rattle.ax_bits.specs.Bits.{bits}
use Rattle.ax_migrate_views.specs.Blocks.{old_tree}
use Rattle.ax_format.proofs.Once.{body_never_both}
use Rattle.ax_migrate_views.proofs.migrator.Migrator.lay_spelled.Goals as goal

pub unreachable-requires : goal.unreachable-requires
unreachable-requires c =
    let of = c.args.self.now.editions in
    let fault = c.in-Err.field-0 in
    body_never_both (old_tree c.args.self.now) (bits c.args.octets.now) c.requires.spelled.records fault.bit fault.cause c.requires.spelled.spelled (c.in-Err.ensures.fault.fails (old_tree c.args.self.now) of.compiled.clean of.compiled.stands)
