use Rattle.std.proofs.Common.{◌≡◌, ◌<◌, ap, arith}
use Rattle.ax_codec.specs.declared.codec.Codec.{Codec}
use Rattle.ax_canon.proofs.LaidOctets.{octets_laid}
use Rattle.ax_canon.proofs.output.lay_block.Goals as goal

pub returns-clause-laid : goal.returns-clause-laid
returns-clause-laid c =
    let same : c.codec.result.now.category ≡ c.args.view.now.codec.now.category = ap (λ (codec : Codec). codec.category) c.codec.ensures in
    let octet : c.args.view.now.codec.now.category < 256 = omega (arith, same, c.category-category.ensures, c.category-category.type_inv) in
    octets_laid c.args.view.now.codec.now c.args.view.now.body.now c.lay_view.result c.lay_view.new.output (λ i. (let fits = c.type_inv.output i in omega arith)) octet c.args.view.now.size.1 c.lay_view.ensures.laid
