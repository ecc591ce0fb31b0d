use Rattle.std.proofs.Common.{◌∙◌, arith}
use Rattle.std.proofs.lemmas.Grind.{get_or_default_zero}
use Rattle.ax_tables.proofs.Places.{no_codec, codec_there}
use Rattle.ax_tables.proofs.codecs.Codecs.get.Goals as goal

pub returns-then-place-eq0 : goal.returns-then-place-eq0
returns-then-place-eq0 c =
    no_codec c.args.self.now.codecs c.args.self.now.places.items c.args.category c.index-place.result.now c.args.self.now.placed (omega (arith, c.ranges.category.fits))
    (c.index-place.ensures ∙ get_or_default_zero c.args.self.now.places.items c.args.category c.index-place.result.now (omega (arith, c.ranges.category.fits, c.args.self.now.placed.size))) c.if-place-eq0.true

pub returns : goal.returns
returns c =
    c.get.ensures.value
    ∙ codec_there c.args.self.now.codecs c.args.self.now.places.items c.args.category c.index-place.result.now c.args.self.now.placed (omega (arith, c.ranges.category.fits))
    (c.index-place.ensures ∙ get_or_default_zero c.args.self.now.places.items c.args.category c.index-place.result.now (omega (arith, c.ranges.category.fits, c.args.self.now.placed.size))) (omega (arith, c.if-place-eq0.false))
