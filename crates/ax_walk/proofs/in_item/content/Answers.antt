use Rattle.std.proofs.Common.{arith}
use Rattle.ax_bits.proofs.Pieces.{AreOctets-items}
use Rattle.ax_walk.proofs.Contents.{length_within, content_is}
use Rattle.ax_walk.proofs.in_item.content.Goals as goal

pub slice_bounds-result-end : goal.slice_bounds-result-end
slice_bounds-result-end c = length_within c.args.body.now (AreOctets-items c.args.body.now (λ i. (let fits = c.type_inv.body i in omega arith))) c.requires

pub returns-clause-value : goal.returns-clause-value
returns-clause-value c = content_is c.args.body.now (AreOctets-items c.args.body.now (λ i. (let fits = c.type_inv.body i in omega arith))) c.requires
