use Rattle.std.proofs.Common.{◌<◌, arith}
use Rattle.std.proofs.lemmas.Result.{IfOk-weaker}
use Rattle.ax_bits.specs.Bits.{bits}
use Rattle.ax_canon.proofs.LaidOctets.{octets_laid}
use Rattle.ax_canon.specs.Laid.{LaysBits, LaysCanonical}
use Rattle.ax_canon.proofs.output.lay_canonical.Goals as goal

pub returns-clause-laid : goal.returns-clause-laid
returns-clause-laid c =
    let codec = c.args.records.now.codec.now in
    let output = c.lay_canonical_bits.new.output in
    let octet : codec.category < 256 = omega (arith, c.category-category.ensures, c.category-category.type_inv) in
    IfOk-weaker c.lay_canonical_bits.result (λ count. LaysBits codec c.args.body.now count (bits output)) (λ count. LaysCanonical codec c.args.body.now count output)
    (λ count laid. octets_laid codec c.args.body.now count output (λ i. (let fits = c.type_inv.output i in omega arith)) octet c.requires.size.1 laid) c.lay_canonical_bits.ensures.laid
