use Rattle.std.proofs.Common.{sym, ◌∙◌}
use Rattle.ax_expand.specs.Expansion.{expansion_tree}
use Rattle.ax_expand_work.proofs.Blocks.{other_taken, fault_taken, lines_taken, lines_cut}
use Rattle.ax_format.specs.Plain.{spec_tree}
use Rattle.ax_expand_work.proofs.work.ExpandViewsBlockWork.take.Goals as goal

pub returns-then-raw-category-clause-takes : goal.returns-then-raw-category-clause-takes
returns-then-raw-category-clause-takes g c =
    let s = c.args.self.now in
    other_taken (spec_tree s.accepted.now) s.frn (expansion_tree s.expansion.now) c.args.number (record { category = c.args.raw.now.category; body = c.args.raw.now.body.now }) s.codec.now c.requires.sound _ _ _ _ tt (λ e. c.if-raw-category.true (e ∙ sym c.category.ensures)) c.args.raw.now.within_block c.args.raw.now.nonempty

pub returns-in-Err-clause-takes : goal.returns-in-Err-clause-takes
returns-in-Err-clause-takes g c =
    let s = c.args.self.now in
    fault_taken (spec_tree s.accepted.now) s.frn (expansion_tree s.expansion.now) c.args.number (record { category = c.args.raw.now.category; body = c.args.raw.now.body.now }) s.codec.now c.requires.sound _ _ _ _ c.in-Err.fault (c.if-raw-category.false ∙ c.category.ensures) c.args.raw.now.within_block c.in-Err.ensures.fault

pub returns-in-Ok-write_text-clause-takes : goal.returns-in-Ok-write_text-clause-takes
returns-in-Ok-write_text-clause-takes g c =
    let s = c.args.self.now in
    lines_taken (spec_tree s.accepted.now) s.frn (expansion_tree s.expansion.now) c.args.number (record { category = c.args.raw.now.category; body = c.args.raw.now.body.now }) s.codec.now c.requires.sound c.in-Ok.view.codec.now c.in-Ok.view.body.now _ c.gather_block.new.lines _ _ c.in-Ok-write_text.field-0 _ _ _
    c.in-Ok.ensures.codec c.in-Ok.ensures.body (c.if-raw-category.false ∙ c.category.ensures) c.args.raw.now.within_block c.in-Ok.ensures.spelled c.clear.ensures.none c.clear-2.ensures.none c.in-Ok-gather_block.ensures
    c.as_slice.ensures c.in-Ok-write_text.ensures c.as_slice-in-Ok-write_text.ensures c.write_piece.ensures

pub returns-in-Err-write_text-clause-takes : goal.returns-in-Err-write_text-clause-takes
returns-in-Err-write_text-clause-takes g c =
    let s = c.args.self.now in
    lines_cut (spec_tree s.accepted.now) s.frn (expansion_tree s.expansion.now) c.args.number (record { category = c.args.raw.now.category; body = c.args.raw.now.body.now }) s.codec.now c.requires.sound c.in-Ok.view.codec.now c.in-Ok.view.body.now _ c.gather_block.new.lines _ _ _ c.in-Err-write_text.field-0 _
    c.in-Ok.ensures.codec c.in-Ok.ensures.body (c.if-raw-category.false ∙ c.category.ensures) c.args.raw.now.within_block c.in-Ok.ensures.spelled c.clear.ensures.none c.clear-2.ensures.none c.in-Ok-gather_block.ensures
    c.as_slice.ensures c.in-Err-write_text.ensures
