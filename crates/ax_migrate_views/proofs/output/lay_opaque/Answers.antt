use Rattle.std.proofs.Common.{◌+◌, length, arith}
use Rattle.ax_canon.proofs.LaidOctets.{opaque_octets}
use Rattle.ax_migrate_views.proofs.output.lay_opaque.Goals as goal

pub returns-clause-laid : goal.returns-clause-laid
returns-clause-laid c =
    opaque_octets c.args.raw.now.category (length c.args.raw.now.body.now + 3) c.args.raw.now.body.now c.lay_opaque_bits.new.output (λ i. (let fits = c.type_inv.output i in omega arith)) (omega arith) c.lay_opaque_bits.ensures.octets c.lay_opaque_bits.ensures.laid
