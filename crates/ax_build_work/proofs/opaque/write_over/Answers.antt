use Rattle.ax_bits.specs.Bits.{bits}
use Rattle.ax_bits.specs.Out.{loan}
use Rattle.ax_format.proofs.CanonFramed.{length-framed}
use Rattle.ax_format.specs.CanonicalOctets.{framed}
use Rattle.std.proofs.Common.{◌≡◌, ◌∙◌, sym, rules, length}
use Rattle.ax_values.proofs.WrittenBlocks.{filled}
use Rattle.ax_build_work.proofs.opaque.write_over.Goals as goal

pub returns-clause-bits : goal.returns-clause-bits
returns-clause-bits c =
    let f : bits c.write_opaque.new.out.buffer.now ≡ bits (framed c.args.category c.args.octets.now)
    = filled c.over-out.result c.write_opaque.new.out (length c.args.buffer.now) (framed c.args.category c.args.octets.now) c.over-out.ensures.written c.over-out.ensures.room (c.requires.length ∙ sym (length-framed c.args.category c.args.octets.now)) c.write_opaque.ensures.written in
    let l : loan c.write_opaque.new.out ≡ loan c.over-out.result = c.write_opaque.ensures.written.loan in search rules
