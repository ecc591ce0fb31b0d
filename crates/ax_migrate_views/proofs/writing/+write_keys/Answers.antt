use Rattle.std.proofs.Common.{◌≡◌, ◌<◌, ◌/◌, arith, length, subst, sym}
use Rattle.ax_moves.proofs.LostRuns.{runs_drop, runs_take}
use Rattle.ax_migrate_views.proofs.WritingSteps.{halves, keys_there, one_line}
use Rattle.ax_moves.specs.Lost.{AreRuns}
use Rattle.ax_moves.specs.Wholes.{whole_entries}
use Rattle.ax_format.proofs.Namings.{from_place}
use Rattle.ax_format.specs.Tree.{marked}
use Rattle.ax_endpoints.proofs.Pieces.{failed_before, same_text, written_then}
use Rattle.ax_migrate_views.proofs.writing.+write_keys.Goals as goal

pub returns-then-keys-eq1-clause-written : goal.returns-then-keys-eq1-clause-written
returns-then-keys-eq1-clause-written g t c =
    let keys = c.args.lost.now.keys.now in
    let one : length keys ≡ 1 = omega (arith, c.if-keys-eq1.true) in
    same_text _ _ _ _ _ _ _
    (one_line c.args.lost.now.name.block c.args.lost.now.name.number c.args.lost.now.depth (marked (whole_entries c.args.whole.now)) keys c.index-keys-0.result c.tell_keys-told.result c.args.lines.now c.tell_keys-told.new.lines one
    (from_place keys 0 c.index-keys-0.result (omega (arith, one)) c.index-keys-0.is) c.tell_keys-told.ensures.told (omega arith))
    c.loss_line.ensures

pub write_keys-requires : goal.write_keys-requires
write_keys-requires g t c =
    let keys = c.args.lost.now.keys.now in
    let some = keys_there c.args.lost.now.name.block c.args.lost.now.name.number c.args.lost.now.depth (marked (whole_entries c.args.whole.now)) keys c.tell_keys-told.result c.args.lines.now c.tell_keys-told.new.lines c.tell_keys-told.ensures.told (omega arith) in
    λ κs live. (
      omega (arith, c.decreases, some, c.if-keys-eq1.false, c.split_at.ensures.front_len),
      (
        live,
        (c.requires.placed, (subst AreRuns (sym c.split_at.ensures.front) (runs_take (length keys / 2) keys c.requires.runs), c.tell_keys-told.ensures.room)),
      ),
    )

pub write_keys-requires-2 : goal.write_keys-requires-2
write_keys-requires-2 g t c =
    let keys = c.args.lost.now.keys.now in
    let some = keys_there c.args.lost.now.name.block c.args.lost.now.name.number c.args.lost.now.depth (marked (whole_entries c.args.whole.now)) keys c.tell_keys-told.result c.args.lines.now c.tell_keys-told.new.lines c.tell_keys-told.ensures.told (omega arith) in
    λ κs live. (
      omega (arith, c.decreases, some, c.if-keys-eq1.false, c.split_at.ensures.back_len),
      (
        live,
        (c.requires.placed, (subst AreRuns (sym c.split_at.ensures.back) (runs_drop (length keys / 2) keys c.requires.runs), c.write_keys.ensures.room)),
      ),
    )

pub returns-in_err-write_keys-clause-written : goal.returns-in_err-write_keys-clause-written
returns-in_err-write_keys-clause-written g t c =
    let keys = c.args.lost.now.keys.now in
    same_text _ _ _ _ _ _ _
    (halves c.args.lost.now.name.block c.args.lost.now.name.number c.args.lost.now.depth (marked (whole_entries c.args.whole.now)) (length keys / 2) keys c.split_at.result.0.now c.split_at.result.1.now c.split_at.ensures.front c.split_at.ensures.back)
    (failed_before _ _ _ _ _ _ _ _ c.from_residual.ensures.0 c.in_err-write_keys.ensures.written)

pub returns-clause-written : goal.returns-clause-written
returns-clause-written g t c =
    let keys = c.args.lost.now.keys.now in
    same_text _ _ _ _ _ _ _
    (halves c.args.lost.now.name.block c.args.lost.now.name.number c.args.lost.now.depth (marked (whole_entries c.args.whole.now)) (length keys / 2) keys c.split_at.result.0.now c.split_at.result.1.now c.split_at.ensures.front c.split_at.ensures.back)
    (written_then _ _ _ _ _ _ _ _ _ _ c.in_ok-write_keys.ensures.written c.write_keys-2.ensures.written)
