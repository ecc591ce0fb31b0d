use Rattle.std.proofs.Common.{◌≡◌, ◌+◌, ◌*◌, ◌/◌, get_or, arith, refl, subst}
use Rattle.ax_walk.proofs.RowFields.{FieldLeads, row_there, field_begins, field_next, have_none, have_next}
use Rattle.ax_walk.specs.Rows.{HaveRows}
use Rattle.ax_walk.proofs.by_rows.walk_rows.Goals as goal

pub loop-index-init : goal.loop-index-init
loop-index-init g c = record {
  rows = have_none c.args.slots.table.octets.now c.args.slots.links.now c.args.field.start.body.now c.args.field.start.at;
  leads = field_begins c.args.slots.table.nodes.now c.args.field.start.body.now c.args.slots.links.now c.args.field.start.at (c.args.field.start.at + c.args.field.octets) c.args.notes.now.least c.args.field.there;
  within = c.args.field.there;
  falls = λ t. t;
}

pub walk_row-requires-clause-row : goal.walk_row-requires-clause-row
walk_row-requires-clause-row g c =
    row_there c.args.slots.table.octets.now c.args.slots.links.now c.args.rows.start.now c.args.rows.steps.now c.loop-index.index (get_or c.args.field.start.body.now (c.args.field.start.at + c.loop-index.index) 0 / 2) _ (128 * c.loop-index.index + get_or c.args.field.start.body.now (c.args.field.start.at + c.loop-index.index) 0 / 2) c.requires.rows
    (let f = c.type_inv.body (c.args.field.start.at + c.loop-index.index) in omega arith) refl (let f = c.type_inv.body (c.args.field.start.at + c.loop-index.index) in omega (arith, c.requires.count, c.loop-index-test.true)) refl c.if-first.false

pub loop-index-preserved : goal.loop-index-preserved
loop-index-preserved g c = record {
  rows = have_next c.args.slots.table.octets.now c.args.slots.links.now c.args.field.start.body.now c.args.field.start.at c.loop-index.index c.loop-index.invariant.rows
      (row_there c.args.slots.table.octets.now c.args.slots.links.now c.args.rows.start.now c.args.rows.steps.now c.loop-index.index (get_or c.args.field.start.body.now (c.args.field.start.at + c.loop-index.index) 0 / 2) _ (128 * c.loop-index.index + get_or c.args.field.start.body.now (c.args.field.start.at + c.loop-index.index) 0 / 2) c.requires.rows
      (let f = c.type_inv.body (c.args.field.start.at + c.loop-index.index) in omega arith) refl (let f = c.type_inv.body (c.args.field.start.at + c.loop-index.index) in omega (arith, c.requires.count, c.loop-index-test.true)) refl c.if-first.false).has;
  leads = field_next c.args.slots.table.nodes.now c.args.field.start.body.now c.args.slots.links.now c.args.field.start.at (c.args.field.start.at + c.args.field.octets) c.loop-index.index c.loop-index.here c.in_ok-here.here c.loop-index.notes.least c.walk_row.new.notes.least (omega (arith, c.args.field.there, c.loop-index-test.true)) c.walk_row.ensures.falls
      c.loop-index.invariant.leads c.in_ok-here.ensures.end;
  within = c.in_ok-here.ensures.within;
  falls = λ t. c.loop-index.invariant.falls (c.walk_row.ensures.falls t);
}

pub returns-clause-rows : goal.returns-clause-rows
returns-clause-rows g c = subst (λ n. HaveRows c.args.slots.table.octets.now c.args.slots.links.now c.args.field.start.body.now c.args.field.start.at n) (let e : c.loop-index.index ≡ c.args.field.octets = omega (arith, c.loop-index-test.false, c.loop-index.auto.index-end) in e) c.loop-index.invariant.rows

pub returns-clause-end : goal.returns-clause-end
returns-clause-end g c =
    subst (λ n. FieldLeads c.args.slots.table.nodes.now c.args.field.start.body.now c.args.slots.links.now c.args.field.start.at (c.args.field.start.at + c.args.field.octets) n c.loop-index.here c.loop-index.notes.least)
    (let e : c.loop-index.index ≡ c.args.field.octets = omega (arith, c.loop-index-test.false, c.loop-index.auto.index-end) in e) c.loop-index.invariant.leads
