use Rattle.std.proofs.Common.{List, arith, subst}
use Rattle.ax_relation.specs.PlainMoves.{moves_tree}
use Rattle.ax_relation.specs.declared.moves.Move.{Move}
use Rattle.ax_codec.specs.Table.{record_kind_at}
use Rattle.ax_codec.specs.declared.codec.Codec.{Codec}
use Rattle.ax_format.specs.Tree.{marked}
use Rattle.ax_moves.specs.Laying.{Lays}
use Rattle.ax_moves.specs.Octets.{canon_by}
use Rattle.ax_walk.specs.Placing.{entries_there}
use Rattle.ax_migrate_views.proofs.KeptRecords.{kept_own, kept_read, kept_told}
use Rattle.ax_migrate_views.specs.Kept.{IsKeptAt}
use Rattle.ax_migrate_views.proofs.BodySteps.{body_first, body_next, body_fails, body_laid, body_told, body_spelled, body_goes_on}
use Rattle.ax_moves.proofs.LaidRuns.{run_kept, run_moved}
use Rattle.ax_moves.specs.Lost.{key_paths}
use Rattle.ax_migrate_views.proofs.bodies.lay_body.Goals as goal

pub loop-here-init : goal.loop-here-init
loop-here-init c = body_first c.args.migrator.now.codec.now c.args.migrator.now.relation.now.moves (key_paths c.args.lost.keys.now) c.args.lost.block c.args.body.now c.args.output.now c.args.lines.now

pub returns-in_default-place_record-clause-fault : goal.returns-in_default-place_record-clause-fault
returns-in_default-place_record-clause-fault c = body_fails c.args.migrator.now.codec.now c.args.migrator.now.relation.now.moves (key_paths c.args.lost.keys.now) c.args.lost.block c.args.body.now c.loop-here.from c.loop-here.here c.loop-here.end c.loop-here.number c.loop-here.told c.args.output.now c.loop-here.output c.args.lines.now c.loop-here.lines c.loop-here.invariant c.loop-here-test.true c.place_record.new.notes.fault c.in_default-place_record.ensures.fault

pub lay_record-end-requires-clause-placed : goal.lay_record-end-requires-clause-placed
lay_record-end-requires-clause-placed c = record { slots = c.as_slice.ensures.members; end = c.in-Some-place_record.next; placed = c.in-Some-place_record.ensures.end }

pub tell_losses-told-requires-clause-placed : goal.tell_losses-told-requires-clause-placed
tell_losses-told-requires-clause-placed c = record { slots = c.as_slice.ensures.members; end = c.in-Some-place_record.next; placed = c.in-Some-place_record.ensures.end }

pub overflow_add-number : goal.overflow_add-number
overflow_add-number c = omega (arith, c.loop-here.invariant.few, c.loop-here.invariant.within, c.requires.size.1)

pub loop-here-smaller : goal.loop-here-smaller
loop-here-smaller c =
    omega (arith, body_goes_on c.args.migrator.now.codec.now c.args.body.now c.loop-here.here c.in-Some-place_record.next c.in-Some-place_record.ensures.end.entries c.in-Some-place_record.ensures.end.read, c.in-Some-place_record.ensures.end.read.within)

pub loop-here-preserved : goal.loop-here-preserved
loop-here-preserved c =
    let codec = c.args.migrator.now.codec.now in
    let laid = subst (λ (ms : List Move). Lays (canon_by (moves_tree ms) (record_kind_at codec.nodes codec.slots) (marked (entries_there codec.nodes codec.slots c.args.body.now c.loop-here.here))) c.lay_run-end.result c.lay_record-end.result c.lay_run-end.new.output c.lay_record-end.new.output) c.moves-moves.ensures c.lay_record-end.ensures.laid in
    body_next c.args.migrator.now.codec.now c.args.migrator.now.relation.now.moves (key_paths c.args.lost.keys.now) c.args.lost.block c.args.body.now c.loop-here.from c.loop-here.here c.loop-here.end c.loop-here.number c.loop-here.told c.args.output.now c.loop-here.output c.args.lines.now c.loop-here.lines c.loop-here.invariant c.loop-here-test.true
    c.in-Some-place_record.next c.in-Some-place_record.next c.lay_record-end.result c.lay_record-end.new.output c.in-Some-place_record.ensures.end.entries c.in-Some-place_record.ensures.end.read (omega arith)
    (λ all t. run_moved all _ c.args.body.now c.loop-here.from c.loop-here.here c.in-Some-place_record.next 3 c.loop-here.end c.lay_run-end.result c.lay_record-end.result c.args.output.now c.loop-here.output c.lay_run-end.new.output c.lay_record-end.new.output t c.lay_run-end.ensures.laid laid c.in-Some-place_record.ensures.end.read.within)
    c.tell_losses-told.result c.tell_losses-told.new.lines c.tell_losses-told.ensures.told

pub returns-clause-spelled : goal.returns-clause-spelled
returns-clause-spelled c = body_spelled c.args.migrator.now.codec.now c.args.migrator.now.relation.now.moves (key_paths c.args.lost.keys.now) c.args.lost.block c.args.body.now c.loop-here.from c.loop-here.here c.loop-here.end c.loop-here.number c.loop-here.told c.args.output.now c.loop-here.output c.args.lines.now c.loop-here.lines c.loop-here.invariant c.loop-here-test.false c.requires.size.0

pub returns-clause-laid : goal.returns-clause-laid
returns-clause-laid c = body_laid c.args.migrator.now.codec.now c.args.migrator.now.relation.now.moves (key_paths c.args.lost.keys.now) c.args.lost.block c.args.body.now c.loop-here.from c.loop-here.here c.loop-here.end c.loop-here.number c.loop-here.told c.args.output.now c.loop-here.output c.args.lines.now c.loop-here.lines c.loop-here.invariant c.loop-here-test.false c.lay_run.result c.lay_run.new.output c.lay_run.ensures.laid

pub returns-clause-told : goal.returns-clause-told
returns-clause-told c = body_told c.args.migrator.now.codec.now c.args.migrator.now.relation.now.moves (key_paths c.args.lost.keys.now) c.args.lost.block c.args.body.now c.loop-here.from c.loop-here.here c.loop-here.end c.loop-here.number c.loop-here.told c.args.output.now c.loop-here.output c.args.lines.now c.loop-here.lines c.loop-here.invariant c.loop-here-test.false

pub loop-here-smaller-in-Some : goal.loop-here-smaller-in-Some
loop-here-smaller-in-Some c =
    let k = subst (λ (x : Codec). IsKeptAt x c.args.migrator.now.kept c.args.body.now c.loop-here.here c.in-Some.next) c.of-rows.ensures.codec c.in-Some.ensures in
    let read = kept_read c.args.migrator.now.codec.now c.args.migrator.now.relation.now.moves c.args.lost.keys.now c.args.migrator.now.kept c.args.body.now c.loop-here.here c.in-Some.next k c.requires.kept in
    omega (arith, body_goes_on c.args.migrator.now.codec.now c.args.body.now c.loop-here.here c.in-Some.next k.entries read, read.within)

pub loop-here-preserved-in-Some : goal.loop-here-preserved-in-Some
loop-here-preserved-in-Some c =
    let codec = c.args.migrator.now.codec.now in
    let moves = c.args.migrator.now.relation.now.moves in
    let keys = c.args.lost.keys.now in
    let body = c.args.body.now in
    let here = c.loop-here.here in
    let next = c.in-Some.next in
    let k = subst (λ (x : Codec). IsKeptAt x c.args.migrator.now.kept body here next) c.of-rows.ensures.codec c.in-Some.ensures in
    let read = kept_read codec moves keys c.args.migrator.now.kept body here next k c.requires.kept in
    let on = body_goes_on codec body here next k.entries read in
    let told = kept_told codec moves keys c.args.migrator.now.kept body here next k c.requires.kept c.args.lost.block c.loop-here.number c.loop-here.told c.loop-here.lines c.requires.runs (omega (arith, c.loop-here.invariant.counted)) in
    body_next codec moves (key_paths keys) c.args.lost.block body c.loop-here.from here c.loop-here.end c.loop-here.number c.loop-here.told c.args.output.now c.loop-here.output c.args.lines.now c.loop-here.lines c.loop-here.invariant c.loop-here-test.true
    c.loop-here.from next c.loop-here.end c.loop-here.output k.entries read (omega (arith, c.loop-here.invariant.forwards, on))
    (λ all t. run_kept all _ body c.loop-here.from here next 3 c.loop-here.end c.args.output.now c.loop-here.output t (omega (arith, on)) read.within (kept_own codec moves keys c.args.migrator.now.kept body here next k c.requires.kept)) c.loop-here.told c.loop-here.lines told

pub lay_run-end-requires-clause-run : goal.lay_run-end-requires-clause-run
lay_run-end-requires-clause-run c = (c.loop-here.invariant.forwards, c.loop-here.invariant.within)

pub lay_run-requires-clause-run : goal.lay_run-requires-clause-run
lay_run-requires-clause-run c = (c.loop-here.invariant.forwards, c.loop-here.invariant.within)
