use Rattle.std.proofs.Common.{◌≡◌, ◌+◌, ◌-◌, ◌*◌, ◌/◌, ◌%◌, ◌<◌, length, get_or, arith, refl, subst, slice_index_or, Some}
use Rattle.ax_rows.specs.Rows.{no_step}
use Rattle.ax_codec.specs.Table.{kind_at, record_kind_at}
use Rattle.ax_walk.proofs.CompoundRows.{some_under, under_are}
use Rattle.ax_walk.proofs.NodeKinds.{end_as}
use Rattle.ax_walk.proofs.RowFields.{rows_walked, row_there, have_none, have_next}
use Rattle.ax_walk.proofs.SkipSteps.{skips_none, skips_next, step_there, step_small, goes_further, octet_needed}
use Rattle.ax_walk.proofs.UnitSteps.{octet_items}
use Rattle.ax_walk.specs.Marked.{slots_under}
use Rattle.ax_walk.specs.Rows.{IsField, slots_at}
use Rattle.ax_walk.proofs.compound_rows.skip_compound.Goals as goal

pub loop-count-init : goal.loop-count-init
loop-count-init c = record {
  within = omega (arith, c.args.start.within);
  goes_on = λ j lt. absurd (omega arith);
  most = omega arith;
  rows = have_none c.args.table.octets.now (slots_under c.args.table.nodes.now c.args.link) c.args.start.body.now c.args.start.at;
  skips = skips_none c.args.table.nodes.now c.args.start.body.now (slots_under c.args.table.nodes.now c.args.link) c.args.start.at;
  falls = λ t. t;
}

pub loop-count-preserved : goal.loop-count-preserved
loop-count-preserved c =
    let i = c.loop-count.count in
    let octet = get_or c.args.start.body.now (c.args.start.at + i) 0 in
    let place = 128 * i + octet / 2 in
    let first = get_or c.args.rows.start.now place 0 in
    let step = slice_index_or c.args.rows.steps.now first no_step in
    let there : c.args.start.at + i < length c.args.start.body.now = omega (arith, c.if-place-body.false) in
    let row = row_there c.args.table.octets.now (slots_under c.args.table.nodes.now c.args.link) c.args.rows.start.now c.args.rows.steps.now i (octet / 2) first place c.requires.rows
    (let f = c.type_inv.body (c.args.start.at + i) in omega arith) refl (let f = c.type_inv.body (c.args.start.at + i) in omega (arith, c.requires.rows.size, c.loop-count-test.true)) refl c.if-first.false in
    let are = under_are c.args.table.nodes.now c.args.link c.args.table.table c.requires.link.0 c.requires.link.1 c.requires.bounds in
    let rows = have_next c.args.table.octets.now (slots_under c.args.table.nodes.now c.args.link) c.args.start.body.now c.args.start.at i c.loop-count.invariant.rows row.has in
    let skips = skips_next c.args.table.nodes.now c.args.table.octets.now c.args.start.body.now (slots_under c.args.table.nodes.now c.args.link) c.args.start.at i c.loop-count.skip c.args.rows.steps.now first step.skip step.link c.args.table.table c.args.table.sizes are row refl refl (omega (arith, c.if-step-ne0.false)) there c.loop-count.invariant.skips in
    record {
      within = omega (arith, there);
      goes_on = goes_further c.args.start.body.now c.args.start.at i c.loop-count.invariant.goes_on (omega (arith, c.if-octet-eq0.false));
      most = omega (arith, c.loop-count.invariant.most, step_small c.args.table.octets.now (slots_at i (slots_under c.args.table.nodes.now c.args.link)) (octet / 2) c.args.rows.steps.now first row);
      rows = rows;
      skips = skips;
      falls = c.loop-count.invariant.falls;
    }

pub returns-then-octet-eq0-clause-end : goal.returns-then-octet-eq0-clause-end
returns-then-octet-eq0-clause-end c =
    let i = c.loop-count.count in
    let octet = get_or c.args.start.body.now (c.args.start.at + i) 0 in
    let place = 128 * i + octet / 2 in
    let first = get_or c.args.rows.start.now place 0 in
    let step = slice_index_or c.args.rows.steps.now first no_step in
    let there : c.args.start.at + i < length c.args.start.body.now = omega (arith, c.if-place-body.false) in
    let row = row_there c.args.table.octets.now (slots_under c.args.table.nodes.now c.args.link) c.args.rows.start.now c.args.rows.steps.now i (octet / 2) first place c.requires.rows
    (let f = octet_items c.args.start.body.now c.are_octets.ensures (c.args.start.at + i) in omega arith) refl (let f = octet_items c.args.start.body.now c.are_octets.ensures (c.args.start.at + i) in omega (arith, c.requires.rows.size, c.loop-count-test.true)) refl c.if-first.false in
    let are = under_are c.args.table.nodes.now c.args.link c.args.table.table c.requires.link.0 c.requires.link.1 c.requires.bounds in
    let rows = have_next c.args.table.octets.now (slots_under c.args.table.nodes.now c.args.link) c.args.start.body.now c.args.start.at i c.loop-count.invariant.rows row.has in
    let skips = skips_next c.args.table.nodes.now c.args.table.octets.now c.args.start.body.now (slots_under c.args.table.nodes.now c.args.link) c.args.start.at i c.loop-count.skip c.args.rows.steps.now first step.skip step.link c.args.table.table c.args.table.sizes are row refl refl (omega (arith, c.if-step-ne0.false)) there c.loop-count.invariant.skips in
    let least = c.note_field.new.notes.least in
    let field : IsField c.args.start.body.now c.args.start.at (i + 1) = record {
      some = omega arith;
      within = omega (arith, there);
      goes_on = λ j lt. c.loop-count.invariant.goes_on j (omega arith);
      ends = subst (λ k. get_or c.args.start.body.now (c.args.start.at + k) 0 % 2 ≡ 0) (let e : i ≡ i + 1 - 1 = omega arith in e) (omega (arith, c.if-octet-eq0.true));
    } in
    let under = slots_under c.args.table.nodes.now c.args.link in
    let at = some_under c.args.table.nodes.now c.args.link c.args.table.table c.requires.link.0 c.requires.link.1 c.requires.bounds c.args.table.octets.now c.args.rows.start.now c.args.rows.steps.now i c.requires.rows c.loop-count-test.true in
    end_as c.args.start.body.now c.args.start.at (kind_at c.args.table.nodes.now c.args.link) (record_kind_at c.args.table.nodes.now under) at.kind least (Some (c.args.start.at + (i + 1) + (c.loop-count.skip + step.skip)))
    (rows_walked c.args.table.nodes.now c.args.table.octets.now under at.mask c.args.start.body.now c.args.start.at (i + 1) c.are_octets.ensures at.bounds at.right at.mask.few
    field (octet_needed c.args.table.nodes.now c.args.table.octets.now under at.mask c.args.rows.start.now c.args.rows.steps.now i at.right c.requires.rows c.loop-count-test.true) least least
    (Some (c.args.start.at + (i + 1) + (c.loop-count.skip + step.skip))) c.note_field.ensures.needed (λ t. t) rows (skips (c.args.start.at + (i + 1)) least (omega (arith, c.if-end-body.false))))

pub returns-then-octet-eq0-clause-falls : goal.returns-then-octet-eq0-clause-falls
returns-then-octet-eq0-clause-falls c = λ t. c.loop-count.invariant.falls (c.note_field.ensures.falls t)

pub bounds-rows-first : goal.bounds-rows-first
bounds-rows-first c =
    let i = c.loop-count.count in
    let octet = get_or c.args.start.body.now (c.args.start.at + i) 0 in
    let place = 128 * i + octet / 2 in
    let first = get_or c.args.rows.start.now place 0 in
    let there : c.args.start.at + i < length c.args.start.body.now = omega (arith, c.if-place-body.false) in
    let row = row_there c.args.table.octets.now (slots_under c.args.table.nodes.now c.args.link) c.args.rows.start.now c.args.rows.steps.now i (octet / 2) first place c.requires.rows
    (let f = c.type_inv.body (c.args.start.at + i) in omega arith) refl (let f = c.type_inv.body (c.args.start.at + i) in omega (arith, c.requires.rows.size, c.loop-count-test.true)) refl c.if-first.false in
    step_there c.args.table.octets.now (slots_at i (slots_under c.args.table.nodes.now c.args.link)) (octet / 2) c.args.rows.steps.now first row
