use Rattle.std.proofs.Common.{◌-◌, arith}
use Rattle.ax_fspec.proofs.RecordSlots.{frn_bounds}
use Rattle.ax_codec_tests.proofs.records.kind_at.Goals as goal

pub kind_in-requires : goal.kind_in-requires
kind_in-requires c = frn_bounds c.args.spec.now (c.args.frn - 1) c.args.frn c.requires (omega (arith, c.if-frn-eq0.false, c.if-frn-count.false, c.count.ensures)) (omega (arith, c.if-frn-eq0.false))
