use Rattle.std.proofs.Common.{◌∙◌, ap, length, take, arith, sym}
use Rattle.std.specs.Option.{option_map}
use Rattle.ax_canon.specs.CategoryRows.{lent_codec}
use Rattle.ax_filter.specs.OfCode.{expression}
use Rattle.ax_filter_work.proofs.FilterBlocks.{matching_within, matching_taken, matching_fails, opaque_dropped}
use Rattle.ax_canon.proofs.CanonBlocks.{front_length, in_place}
use Rattle.ax_filter_work.proofs.views.FilterViewsBlockWork.take.Goals as goal

pub slice_bounds-write_piece-end : goal.slice_bounds-write_piece-end
slice_bounds-write_piece-end g c =
    let within = matching_within _ _ _ (record { category = c.args.raw.now.category; body = c.args.raw.now.body.now }) c.in-Some.records.now.codec.now c.in-Ok.count _ c.requires.sound.0 (sym c.get.ensures.codec ∙ ap (option_map lent_codec) c.in-Some.is) c.in-Ok.ensures.spelled c.in-Ok.ensures.laid in
    front_length c.in-Ok.count _ c.lay_matching-laid.new.output (ap (take c.in-Ok.count) c.deref.ensures.value ∙ in_place _ _ c.lay_matching-laid.new.output _ within c.lay_matching-laid.ensures.room (omega (arith, c.deref_mut.ensures.len, ap length c.deref_mut.ensures.value, c.args.self.now.room))) within c.lay_matching-laid.ensures.room

pub returns-in-Ok-clause-takes : goal.returns-in-Ok-clause-takes
returns-in-Ok-clause-takes g c =
    let found = sym c.get.ensures.codec ∙ ap (option_map lent_codec) c.in-Some.is in
    let within = matching_within _ _ _ (record { category = c.args.raw.now.category; body = c.args.raw.now.body.now }) c.in-Some.records.now.codec.now c.in-Ok.count _ c.requires.sound.0 found c.in-Ok.ensures.spelled c.in-Ok.ensures.laid in
    matching_taken _ _ _ _ _ _ _ c.requires.sound.0 c.in-Some.records.now.codec.now _ c.in-Ok.count c.lay_matching-laid.new.output _ _ found c.args.raw.now.within_block c.in-Ok.ensures.spelled c.in-Ok.ensures.laid
    (ap (take c.in-Ok.count) c.deref.ensures.value ∙ in_place _ _ c.lay_matching-laid.new.output _ within c.lay_matching-laid.ensures.room (omega (arith, c.deref_mut.ensures.len, ap length c.deref_mut.ensures.value, c.args.self.now.room))) c.write_piece.ensures

pub returns-in-Err-clause-takes : goal.returns-in-Err-clause-takes
returns-in-Err-clause-takes g c = matching_fails (expression c.args.self.now.filter.now) _ _ _ _ _ _ c.requires.sound.0 c.in-Some.records.now.codec.now c.in-Err.fault _ _ (sym c.get.ensures.codec ∙ ap (option_map lent_codec) c.in-Some.is) c.args.raw.now.within_block c.in-Err.ensures.fault

pub returns-in-None-clause-takes : goal.returns-in-None-clause-takes
returns-in-None-clause-takes g c = opaque_dropped (expression c.args.self.now.filter.now) _ _ _ _ _ _ c.requires.sound.0 _ _ _ (sym c.get.ensures.codec ∙ ap (option_map lent_codec) c.in-None.is) c.args.raw.now.within_block c.args.raw.now.nonempty
