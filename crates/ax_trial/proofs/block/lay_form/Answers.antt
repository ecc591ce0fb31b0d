use Rattle.std.proofs.Common.{subst}
use Rattle.ax_format.specs.Plain.{spec_tree}
use Rattle.ax_trial.proofs.Forms.{form_of, no_fault, some_body}
use Rattle.ax_walk.specs.Views.{FailsThere}
use Rattle.ax_trial.proofs.block.lay_form.Goals as goal

pub scan-requires : goal.scan-requires
scan-requires c = some_body (spec_tree c.args._spec.now) c.args.octets.now c.body_of.result.now c.requires.spelled c.body_of.ensures

pub returns-clause-form : goal.returns-clause-form
returns-clause-form c =
    (form_of (spec_tree c.args._spec.now) c.args.codec.now c.in-Ok.view.codec.now c.args.octets.now c.body_of.result.now c.in-Ok.view.body.now c.count.result c.lay_block-count.result c.lay_block-count.new.output
    c.in-Ok.ensures.codec c.in-Ok.ensures.body c.body_of.ensures c.requires.compiled c.requires.spelled c.count.ensures c.lay_block-count.ensures.laid c.lay_block-count.ensures.room).0

pub returns-clause-within : goal.returns-clause-within
returns-clause-within c =
    (form_of (spec_tree c.args._spec.now) c.args.codec.now c.in-Ok.view.codec.now c.args.octets.now c.body_of.result.now c.in-Ok.view.body.now c.count.result c.lay_block-count.result c.lay_block-count.new.output
    c.in-Ok.ensures.codec c.in-Ok.ensures.body c.body_of.ensures c.requires.compiled c.requires.spelled c.count.ensures c.lay_block-count.ensures.laid c.lay_block-count.ensures.room).1

pub unreachable-requires : goal.unreachable-requires
unreachable-requires c =
    no_fault (spec_tree c.args._spec.now) c.args.codec.now c.args.octets.now c.in-Err.field-0 c.requires.compiled c.requires.spelled (subst (λ b. FailsThere c.args.codec.now b c.in-Err.field-0) c.body_of.ensures c.in-Err.ensures.fault)
