use Rattle.std.proofs.Common.{◌∙◌, ap, length, take, arith, sym}
use Rattle.std.specs.Option.{option_map}
use Rattle.ax_canon.specs.CategoryRows.{lent_codec}
use Rattle.ax_canon.proofs.CanonBlocks.{canon_laid, canon_within, canon_fails, opaque_laid, front_length, in_place}
use Rattle.ax_canon.proofs.canon.CanonViewsBlockWork.take.Goals as goal

pub slice_bounds-write_piece-end : goal.slice_bounds-write_piece-end
slice_bounds-write_piece-end g c =
    let within = canon_within _ _ (record { category = c.args.raw.now.category; body = c.args.raw.now.body.now }) c.in-Some.records.now.codec.now c.in-Ok.count _ c.requires.sound.0 (sym c.get.ensures.codec ∙ ap (option_map lent_codec) c.in-Some.is) c.in-Ok.ensures.spelled c.in-Ok.ensures.laid in
    front_length c.in-Ok.count _ c.lay_canonical.new.output (ap (take c.in-Ok.count) c.deref.ensures.value ∙ in_place _ _ c.lay_canonical.new.output _ within c.lay_canonical.ensures.room (omega (arith, c.deref_mut.ensures.len, ap length c.deref_mut.ensures.value, c.args.self.now.room))) within c.lay_canonical.ensures.room

pub returns-in-Ok-clause-takes : goal.returns-in-Ok-clause-takes
returns-in-Ok-clause-takes g c =
    let found = sym c.get.ensures.codec ∙ ap (option_map lent_codec) c.in-Some.is in
    let within = canon_within _ _ (record { category = c.args.raw.now.category; body = c.args.raw.now.body.now }) c.in-Some.records.now.codec.now c.in-Ok.count _ c.requires.sound.0 found c.in-Ok.ensures.spelled c.in-Ok.ensures.laid in
    canon_laid _ _ _ _ _ _ c.requires.sound.0 c.in-Some.records.now.codec.now _ c.in-Ok.count c.lay_canonical.new.output _ _ found c.args.raw.now.within_block c.in-Ok.ensures.spelled c.in-Ok.ensures.laid
    (ap (take c.in-Ok.count) c.deref.ensures.value ∙ in_place _ _ c.lay_canonical.new.output _ within c.lay_canonical.ensures.room (omega (arith, c.deref_mut.ensures.len, ap length c.deref_mut.ensures.value, c.args.self.now.room))) c.write_piece.ensures

pub returns-in-Err-clause-takes : goal.returns-in-Err-clause-takes
returns-in-Err-clause-takes g c = canon_fails _ _ _ _ _ _ c.requires.sound.0 c.in-Some.records.now.codec.now c.in-Err.fault _ _ (sym c.get.ensures.codec ∙ ap (option_map lent_codec) c.in-Some.is) c.args.raw.now.within_block c.in-Err.ensures.fault

pub returns-in-None-clause-takes : goal.returns-in-None-clause-takes
returns-in-None-clause-takes g c =
    opaque_laid _ _ _ _ _ _ c.requires.sound.0 _ _ c.lay_opaque-count.new.output _ _ (sym c.get.ensures.codec ∙ ap (option_map lent_codec) c.in-None.is) c.args.raw.now.within_block c.args.raw.now.nonempty c.lay_opaque-count.ensures.laid
    (ap (take c.lay_opaque-count.result) c.deref-in-None.ensures.value ∙ in_place _ _ c.lay_opaque-count.new.output _ c.lay_opaque-count.ensures.within c.lay_opaque-count.ensures.room (omega (arith, c.deref_mut-in-None.ensures.len, ap length c.deref_mut-in-None.ensures.value, c.args.self.now.room))) c.write_piece-in-None.ensures
