use Rattle.std.proofs.Common.{◌≡◌, rules}
use Rattle.ax_bits.specs.Bits.{bits}
use Rattle.ax_bits.specs.Out.{loan}
use Rattle.ax_canon.proofs.LaidOctets.{view_laid}
use Rattle.ax_canon.specs.Laid.{LaysBits}
use Rattle.ax_canon.proofs.output.lay_view.Goals as goal

pub returns-clause-laid : goal.returns-clause-laid
returns-clause-laid c =
    let f : LaysBits c.args.view.now.codec.now c.args.view.now.body.now c.canonical.result (bits c.canonical.new.out.buffer.now) =
    view_laid c.args.view.now.codec.now c.args.view.now.body.now c.canonical.result c.over-out.result c.canonical.new.out c.over-out.ensures.written c.canonical.ensures in
    let l : loan c.canonical.new.out ≡ loan c.over-out.result = c.canonical.ensures.same_loan in search rules
