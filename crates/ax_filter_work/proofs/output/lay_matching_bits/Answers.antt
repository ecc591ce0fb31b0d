use Rattle.std.proofs.Common.{◌≡◌, IfOk, arith, rules}
use Rattle.ax_bits.specs.Bits.{bits}
use Rattle.ax_bits.specs.Out.{loan}
use Rattle.ax_filter.specs.OfCode.{expression, catalogue_of}
use Rattle.ax_filter_work.proofs.MatchingRecords.{matching_scanned}
use Rattle.ax_filter_work.specs.Laid.{LaysMatchingBits}
use Rattle.ax_filter_work.proofs.output.lay_matching_bits.Goals as goal

pub returns-clause-laid : goal.returns-clause-laid
returns-clause-laid c =
    let catalogue = catalogue_of c.args.filter.now in
    let e = expression c.args.filter.now in
    let f : IfOk c.scan_kept.result (λ count. LaysMatchingBits catalogue e c.args.records.now.codec.now c.args.body.now count (bits c.scan_kept.new.out.buffer.now)) =
    matching_scanned _ catalogue e c.args.records.now.codec.now c.args.body.now c.scan_kept.result c.over-out.result c.scan_kept.new.out c.over-out.ensures.written (omega (arith, c.over-out.ensures.room, c.requires.room)) c.scan_kept.ensures.kept
    (λ view b same says. says same) in
    let l : loan c.scan_kept.new.out ≡ loan c.over-out.result = c.scan_kept.ensures.same_loan in search rules
