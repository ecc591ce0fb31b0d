use Rattle.std.proofs.Common.{arith}
use Rattle.ax_filter.specs.OfCode.{expression, catalogue_of}
use Rattle.ax_filter_work.proofs.MatchingRecords.{matching_laid}
use Rattle.ax_filter_work.proofs.output.lay_matching.Goals as goal

pub returns-clause-laid : goal.returns-clause-laid
returns-clause-laid c =
    matching_laid (catalogue_of c.args.filter.now) (expression c.args.filter.now) c.args.records.now.codec.now c.args.body.now c.lay_matching_bits.result c.lay_matching_bits.new.output (λ i. (let fits = c.type_inv.output i in omega arith)) (omega (arith, c.category-category.ensures, c.category-category.type_inv)) c.lay_matching_bits.ensures.laid
