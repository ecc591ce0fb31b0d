use Rattle.std.proofs.Common.{ℕ, ◌+◌, ◌*◌, List, ◌++◌, [], drop, arith, refl, subst, slice_index_or}
use Rattle.ax_fspec.specs.Marks.{seven}
use Rattle.ax_rows.specs.Rows.{no_step}
use Rattle.ax_walk.specs.Rows.{slots_at}
use Rattle.ax_walk.proofs.SlotTables.{slots_are}
use Rattle.ax_walk.proofs.RowSteps.{RowAt, row_ended, op_link, op_bounds, row_next, place_within, row_begins, slots_drop}
use Rattle.ax_walk.proofs.by_rows.walk_row.Goals as goal

pub loop-body-init : goal.loop-body-init
loop-body-init g c = record {
  row = λ s more. row_begins c.args.slots.table.nodes.now c.args.slots.table.octets.now c.args.start.body.now s (slots_at c.args.row.index c.args.slots.links.now) c.args.row.marks more c.args.start.at c.args.row.steps.now c.args.row.first c.args.notes.now.least (slots_drop c.args.slots.table.nodes.now (7 * c.args.row.index) c.args.slots.links.now (slots_are c.args.slots.table.nodes.now c.args.slots.links.now c.args.slots.mask.now c.args.slots.slots)) c.requires.row c.args.start.within;
  there = place_within c.args.slots.table.nodes.now c.args.slots.table.octets.now c.args.start.body.now 0 (slots_at c.args.row.index c.args.slots.links.now) (seven c.args.row.marks ++ []) c.args.start.at 7 (drop 7 (slots_at c.args.row.index c.args.slots.links.now)) [] c.args.row.steps.now c.args.row.first c.args.start.at c.args.notes.now.least c.args.slots.table.table c.args.slots.table.sizes (row_begins c.args.slots.table.nodes.now c.args.slots.table.octets.now c.args.start.body.now 0 (slots_at c.args.row.index c.args.slots.links.now) c.args.row.marks [] c.args.start.at c.args.row.steps.now c.args.row.first c.args.notes.now.least (slots_drop c.args.slots.table.nodes.now (7 * c.args.row.index) c.args.slots.links.now (slots_are c.args.slots.table.nodes.now c.args.slots.links.now c.args.slots.mask.now c.args.slots.slots)) c.requires.row c.args.start.within);
  within = c.args.start.within;
  falls = λ t. t;
}

pub returns-then-step-eq0-clause-end : goal.returns-then-step-eq0-clause-end
returns-then-step-eq0-clause-end g c = λ s more.
    row_ended c.args.slots.table.nodes.now c.args.slots.table.octets.now c.args.start.body.now s (slots_at c.args.row.index c.args.slots.links.now) (seven c.args.row.marks ++ more) c.args.start.at (s + 7) (drop 7 (slots_at c.args.row.index c.args.slots.links.now)) more c.args.row.steps.now c.loop-body.place c.loop-body.here c.loop-body.notes.least c.args.slots.table.table c.args.slots.table.sizes (c.loop-body.invariant.row s more)
    (slice_index_or c.args.row.steps.now c.loop-body.place no_step).skip (slice_index_or c.args.row.steps.now c.loop-body.place no_step).link refl refl (omega (arith, c.if-next-body.false, c.loop-body.invariant.within)) c.if-step-eq0.true

pub walk_value-requires-clause-link : goal.walk_value-requires-clause-link
walk_value-requires-clause-link g c =
    op_link c.args.slots.table.nodes.now c.args.slots.table.octets.now c.args.start.body.now 0 (slots_at c.args.row.index c.args.slots.links.now) (seven c.args.row.marks ++ []) c.args.start.at 7 (drop 7 (slots_at c.args.row.index c.args.slots.links.now)) [] c.args.row.steps.now c.loop-body.place c.loop-body.here c.loop-body.notes.least c.args.slots.table.table c.args.slots.table.sizes (c.loop-body.invariant.row 0 [])
    (slice_index_or c.args.row.steps.now c.loop-body.place no_step).skip (slice_index_or c.args.row.steps.now c.loop-body.place no_step).link refl refl (omega (arith, c.if-next-body.false, c.loop-body.invariant.within)) (omega (arith, c.if-step-eq0.false))

pub walk_value-requires-clause-bounds : goal.walk_value-requires-clause-bounds
walk_value-requires-clause-bounds g c =
    op_bounds c.args.slots.table.nodes.now c.args.slots.table.octets.now c.args.start.body.now 0 (slots_at c.args.row.index c.args.slots.links.now) (seven c.args.row.marks ++ []) c.args.start.at 7 (drop 7 (slots_at c.args.row.index c.args.slots.links.now)) [] c.args.row.steps.now c.loop-body.place c.loop-body.here c.loop-body.notes.least c.args.slots.table.table c.args.slots.table.sizes (c.loop-body.invariant.row 0 [])
    (slice_index_or c.args.row.steps.now c.loop-body.place no_step).skip (slice_index_or c.args.row.steps.now c.loop-body.place no_step).link refl refl (omega (arith, c.if-next-body.false, c.loop-body.invariant.within)) (omega (arith, c.if-step-eq0.false))

pub loop-body-preserved : goal.loop-body-preserved
loop-body-preserved g c =
    let next : (s : ℕ) (more : List ℕ) → RowAt c.args.slots.table.nodes.now c.args.slots.table.octets.now c.args.start.body.now s (slots_at c.args.row.index c.args.slots.links.now) (seven c.args.row.marks ++ more) c.args.start.at (s + 7) (drop 7 (slots_at c.args.row.index c.args.slots.links.now)) more c.args.row.steps.now (c.loop-body.place + 1) c.in_ok-here.here c.walk_value.new.notes.least
    = λ s more. subst (λ p. RowAt c.args.slots.table.nodes.now c.args.slots.table.octets.now c.args.start.body.now s (slots_at c.args.row.index c.args.slots.links.now) (seven c.args.row.marks ++ more) c.args.start.at (s + 7) (drop 7 (slots_at c.args.row.index c.args.slots.links.now)) more c.args.row.steps.now p c.in_ok-here.here c.walk_value.new.notes.least)
    (omega arith)
    (row_next c.args.slots.table.nodes.now c.args.slots.table.octets.now c.args.start.body.now s (slots_at c.args.row.index c.args.slots.links.now) (seven c.args.row.marks ++ more) c.args.start.at (s + 7) (drop 7 (slots_at c.args.row.index c.args.slots.links.now)) more c.args.row.steps.now c.loop-body.place c.loop-body.here c.loop-body.notes.least c.args.slots.table.table c.args.slots.table.sizes (c.loop-body.invariant.row s more)
    (slice_index_or c.args.row.steps.now c.loop-body.place no_step).skip (slice_index_or c.args.row.steps.now c.loop-body.place no_step).link refl refl (omega (arith, c.if-next-body.false, c.loop-body.invariant.within)) c.in_ok-here.here c.walk_value.new.notes.least (omega (arith, c.if-step-eq0.false)) c.walk_value.ensures.falls c.in_ok-here.ensures.end) in
    record {
      row = next;
      there = place_within c.args.slots.table.nodes.now c.args.slots.table.octets.now c.args.start.body.now 0 (slots_at c.args.row.index c.args.slots.links.now) (seven c.args.row.marks ++ []) c.args.start.at 7 (drop 7 (slots_at c.args.row.index c.args.slots.links.now)) [] c.args.row.steps.now (c.loop-body.place + 1) c.in_ok-here.here c.walk_value.new.notes.least c.args.slots.table.table c.args.slots.table.sizes (next 0 []);
      within = c.in_ok-here.ensures.end.read.within;
      falls = λ t. c.loop-body.invariant.falls (c.walk_value.ensures.falls t);
    }
