use Rattle.std.proofs.Common.{◌++◌, ◌∷◌, [], sym, ◌∙◌, ap, subst}
use Rattle.ax_format.specs.declared.record.Block.TheVariants as BlockOf
use Rattle.ax_rescale.proofs.PieceLists.{there, cut_each, cut_pieces, one_each, one_piece}
use Rattle.ax_rescale.specs.Splits.{AreFronts, AreThere, pieces_of}
use Rattle.ax_rescale.proofs.splitting.split_records.Goals as goal

pub returns-then-count-eq1-clause-pieces : goal.returns-then-count-eq1-clause-pieces
returns-then-count-eq1-clause-pieces c =
    let f = subst (λ x. AreFronts c.args.spec.now x c.in_ok-counts.counts) c.as_slice.ensures.members c.in_ok-counts.ensures.fronts in
    one_piece c.args.spec.now c.args.category c.args.records c.in_ok-counts.counts f c.requires.block_fits.0 (sym c.count.ensures ∙ c.if-count-eq1.true) c.push.new.self
    (c.in_ok-push.ensures.ok ∙ ap (λ x. x ++ BlockOf.Read c.args.category c.args.records ∷ []) c.new-pieces.ensures)

pub cut-requires-clause-there : goal.cut-requires-clause-there
cut-requires-clause-there c =
    let f = subst (λ x. AreFronts c.args.spec.now x c.in_ok-counts.counts) c.as_slice.ensures.members c.in_ok-counts.ensures.fronts in
    subst (λ x. AreThere x c.as_slice-2.result.now) (sym c.as_slice-3.ensures.members) (subst (AreThere c.in_ok-counts.counts) (sym c.as_slice-2.ensures.members) (there c.args.spec.now c.args.category c.args.records c.in_ok-counts.counts f))

pub returns-clause-pieces : goal.returns-clause-pieces
returns-clause-pieces c =
    let f = subst (λ x. AreFronts c.args.spec.now x c.in_ok-counts.counts) c.as_slice.ensures.members c.in_ok-counts.ensures.fronts in
    cut_pieces c.args.spec.now c.args.category c.args.records c.in_ok-counts.counts f c.requires.block_fits.0 c.in_ok-pieces.pieces
    (c.in_ok-pieces.ensures ∙ (λ i. pieces_of c.args.category (c.as_slice-3.ensures.members i) (c.as_slice-2.ensures.members i)))

pub returns-then-count-eq1-clause-each : goal.returns-then-count-eq1-clause-each
returns-then-count-eq1-clause-each c =
    let f = subst (λ x. AreFronts c.args.spec.now x c.in_ok-counts.counts) c.as_slice.ensures.members c.in_ok-counts.ensures.fronts in
    one_each c.args.spec.now c.args.category c.args.records c.in_ok-counts.counts f c.requires.block_fits (sym c.count.ensures ∙ c.if-count-eq1.true) c.push.new.self
    (c.in_ok-push.ensures.ok ∙ ap (λ x. x ++ BlockOf.Read c.args.category c.args.records ∷ []) c.new-pieces.ensures)

pub returns-clause-each : goal.returns-clause-each
returns-clause-each c =
    let f = subst (λ x. AreFronts c.args.spec.now x c.in_ok-counts.counts) c.as_slice.ensures.members c.in_ok-counts.ensures.fronts in
    cut_each c.args.spec.now c.args.category c.args.records c.in_ok-counts.counts f c.requires.block_fits c.in_ok-pieces.pieces
    (c.in_ok-pieces.ensures ∙ (λ i. pieces_of c.args.category (c.as_slice-3.ensures.members i) (c.as_slice-2.ensures.members i)))
