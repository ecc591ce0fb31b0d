use Rattle.std.proofs.Common.{Some, arith, ap, ◌∙◌}
use Rattle.ax_format.specs.Widths.{width}
use Rattle.ax_codec.specs.Meaning.{meanings, linked, fixed_of}
use Rattle.ax_walk.proofs.ItemPieces.{fx_fits, fx_size, size_read}
use Rattle.ax_walk.proofs.occurrences.Occurrences.next_size.Goals as goal

pub overflow_add-result : goal.overflow_add-result
overflow_add-result c =
    let few = fx_fits c.args.self.now.codec.now c.args.self.now.link c.args.self.now.by_fx c.args.self.now.count c.args.self.now.left.now c.args.self.now.occurrences c.if-self.true c.fixed_width.result (c.fixed_width.ensures ∙ ap (λ ns. width (fixed_of (linked (meanings ns) c.args.self.now.link))) c.as_slice.ensures.members) in omega arith

pub returns-then-self : goal.returns-then-self
returns-then-self c = ap (λ n. Some n) (fx_size c.args.self.now.codec.now c.args.self.now.link c.args.self.now.by_fx c.args.self.now.count c.args.self.now.left.now c.args.self.now.occurrences c.if-self.true c.fixed_width.result (c.fixed_width.ensures ∙ ap (λ ns. width (fixed_of (linked (meanings ns) c.args.self.now.link))) c.as_slice.ensures.members))

pub returns : goal.returns
returns c = size_read c.args.self.now.codec.now c.args.self.now.link c.args.self.now.by_fx c.args.self.now.count c.args.self.now.left.now c.args.self.now.occurrences c.if-self.false c.requires c.walk_of.result c.walk_of.new.notes.least c.walk_of.new.notes.fault c.walk_of.ensures.end c.walk_of.ensures.fault
