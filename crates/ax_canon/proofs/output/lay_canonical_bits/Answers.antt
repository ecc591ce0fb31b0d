use Rattle.std.proofs.Common.{◌≡◌, IfOk, rules}
use Rattle.std.proofs.lemmas.Result.{IfOk-weaker}
use Rattle.ax_bits.specs.Bits.{bits}
use Rattle.ax_bits.specs.Out.{loan}
use Rattle.ax_canon.specs.Blocks.{IsCanonical}
use Rattle.ax_canon.proofs.LaidOctets.{view_laid}
use Rattle.ax_canon.specs.Laid.{LaysBits}
use Rattle.ax_canon.proofs.output.lay_canonical_bits.Goals as goal

pub returns-clause-laid : goal.returns-clause-laid
returns-clause-laid c =
    let codec = c.args.records.now.codec.now in
    let new = c.scan_canonical.new.out in
    let f : IfOk c.scan_canonical.result (λ count. LaysBits codec c.args.body.now count (bits new.buffer.now)) =
    IfOk-weaker c.scan_canonical.result (λ count. IsCanonical codec c.args.body.now count c.over-out.result new) (λ count. LaysBits codec c.args.body.now count (bits new.buffer.now))
    (λ count canonical. view_laid codec c.args.body.now count c.over-out.result new c.over-out.ensures.written canonical) c.scan_canonical.ensures.canonical in
    let l : loan new ≡ loan c.over-out.result = c.scan_canonical.ensures.same_loan in search rules
