use Rattle.std.proofs.Common.{◌≡◌, ◌+◌, ◌*◌, length, take, arith, ap, ◌∙◌, rules}
use Rattle.ax_bits.specs.Bits.{bits}
use Rattle.ax_bits.specs.Out.{loan}
use Rattle.ax_format.proofs.CanonFramed.{length-framed}
use Rattle.ax_format.specs.CanonicalOctets.{framed}
use Rattle.ax_canon.proofs.LaidOctets.{front_laid}
use Rattle.ax_migrate_views.proofs.output.lay_opaque_bits.Goals as goal

pub returns-clause-laid : goal.returns-clause-laid
returns-clause-laid c =
    let xs = framed c.args.raw.now.category c.args.raw.now.body.now in
    let size : 8 * (length c.args.raw.now.body.now + 3) ≡ 8 * length xs = omega (arith, length-framed c.args.raw.now.category c.args.raw.now.body.now) in
    let f : take (8 * (length c.args.raw.now.body.now + 3)) (bits c.write_opaque.new.out.buffer.now) ≡ bits xs = ap (λ k. take k (bits c.write_opaque.new.out.buffer.now)) size ∙ front_laid c.over-out.result c.write_opaque.new.out xs c.over-out.ensures.written c.write_opaque.ensures.written in
    let l : loan c.write_opaque.new.out ≡ loan c.over-out.result = c.write_opaque.ensures.written.loan in search rules
