use Rattle.std.proofs.Common.{List, length, arith, rules, ap}
use Rattle.ax_format.specs.declared.record.Record.{Record}
use Rattle.ax_rescale.proofs.ConvertedLists.{going_start, going_shape, going_next, going_made, going_misses}
use Rattle.ax_rescale.proofs.converter.Converter.convert_records.Goals as goal

pub loop-one-init : goal.loop-one-init
loop-one-init c = going_start c.args.self.now.old.now c.args.self.now.new.now c.args.self.now.relation.now.paths c.args.records.now c.args.misses.now c.in_ok-made.made c.in_ok-made.ensures c.requires.shapes

pub convert_record-requires-clause-shape : goal.convert_record-requires-clause-shape
convert_record-requires-clause-shape c =
    going_shape c.args.self.now.old.now c.args.self.now.new.now c.args.self.now.relation.now.paths c.args.records.now c.args.misses.now c.loop-one.misses c.loop-one.made c.loop-one.number c.loop-one.one-index c.as_slice-one-items.result.now
    c.as_slice-one-items.ensures.members c.one-item.result (search rules) (search rules) c.loop-one.invariant

pub push-requires : goal.push-requires
push-requires c = record {
  room =
      let counted = c.loop-one.invariant.counted in
      let bound = c.as_slice-one-items.ensures.bound in
      let same = ap (λ (l : List Record). length l) c.as_slice-one-items.ensures.members in omega (arith, counted, bound, same);
}

pub overflow_add-number : goal.overflow_add-number
overflow_add-number c =
    let numbered = c.loop-one.invariant.numbered in
    let bound = c.as_slice-one-items.ensures.bound in
    let same = ap (λ (l : List Record). length l) c.as_slice-one-items.ensures.members in omega (arith, numbered, bound, same)

pub loop-one-preserved : goal.loop-one-preserved
loop-one-preserved c =
    going_next c.args.self.now.old.now c.args.self.now.new.now c.args.self.now.relation.now.paths c.args.records.now c.args.misses.now c.loop-one.misses c.loop-one.made c.loop-one.number c.loop-one.one-index c.as_slice-one-items.result.now
    c.as_slice-one-items.ensures.members c.one-item.result (search rules) (search rules) c.loop-one.invariant c.push.new.self c.in_ok-convert_record.field-0 c.convert_record.new.misses (search rules) c.in_ok-convert_record.ensures.made
    c.in_ok-convert_record.ensures.misses

pub returns-clause-made : goal.returns-clause-made
returns-clause-made c =
    let same = ap (λ (l : List Record). length l) c.as_slice-one-items.ensures.members in
    going_made c.args.self.now.old.now c.args.self.now.new.now c.args.self.now.relation.now.paths c.args.records.now c.args.misses.now c.loop-one.misses c.loop-one.made c.loop-one.number c.loop-one.one-index (omega (arith, same)) c.loop-one.invariant

pub returns-clause-misses : goal.returns-clause-misses
returns-clause-misses c =
    let same = ap (λ (l : List Record). length l) c.as_slice-one-items.ensures.members in
    going_misses c.args.self.now.old.now c.args.self.now.new.now c.args.self.now.relation.now.paths c.args.records.now c.args.misses.now c.loop-one.misses c.loop-one.made c.loop-one.number c.loop-one.one-index (omega (arith, same)) c.loop-one.invariant
