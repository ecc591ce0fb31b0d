use Rattle.std.proofs.Common.{rules, Ok, map, ◌≡◌, ◌∷◌, ◌++◌, [], length, ap, arith}
use Rattle.std.proofs.lemmas.List.{length_push}
use Rattle.std.proofs.lemmas.Result.{err_from_is_err_and}
use Rattle.ax_format.specs.Plain.{part_tree}
use Rattle.ax_block_reader.proofs.PartWays.{first_readable, first_lacks, first_part_read, parts_cut, parts_end, parts_lack, part_readable, part_lacks, part_more_read}
use Rattle.ax_block_reader.proofs.extended.parts_present.Goals as goal

pub part_values-requires : goal.part_values-requires
part_values-requires c =
    let split : c.args.parts.now ≡ c.in-Some.first.now ∷ c.in-Some.later.now = search rules in
    first_readable _ _ _ split c.requires.readable

pub returns-in_err-values-clause-gives : goal.returns-in_err-values-clause-gives
returns-in_err-values-clause-gives c =
    let p = err_from_is_err_and c.from_residual.result c.from_residual.ensures.1 in
    let split : c.args.parts.now ≡ c.in-Some.first.now ∷ c.in-Some.later.now = search rules in
    rw (p.1, p.2) (first_lacks _ _ _ split _ _ _ c.in_err-values.ensures.gives)

pub returns-in_err-push-clause-gives : goal.returns-in_err-push-clause-gives
returns-in_err-push-clause-gives c =
    let p = err_from_is_err_and c.from_residual-in_err-push.result c.from_residual-in_err-push.ensures.1 in
    rw (p.1, p.2) tt

pub loop-part-init : goal.loop-part-init
loop-part-init c =
    let split : c.args.parts.now ≡ c.in-Some.first.now ∷ c.in-Some.later.now = search rules in
    let pushed : c.push.new.self ≡ c.in_ok-values.values ∷ [] = search rules in
    record {
      read = first_part_read _ _ _ split _ _ _ _ c.requires.readable c.in_ok-values.ensures.gives pushed;
      count = ap length pushed;
      less = c.in_ok-values.ensures.moves;
    }

pub part_values-requires-in-loop-part : goal.part_values-requires-in-loop-part
part_values-requires-in-loop-part c = part_readable (map part_tree c.args.parts.now) c.in-Some.later.now c.loop-part.part-index c.part-item.result (omega arith) c.part-item.is _ _ _ c.loop-part.invariant.read

pub returns-in_err-push-2-clause-gives : goal.returns-in_err-push-2-clause-gives
returns-in_err-push-2-clause-gives c =
    let p = err_from_is_err_and c.from_residual-in_err-push-2.result c.from_residual-in_err-push-2.ensures.1 in
    rw (p.1, p.2) tt

pub loop-part-preserved : goal.loop-part-preserved
loop-part-preserved c =
    let other = c.in_ok-takes.ensures.other (ap Ok c.if-branch.false) in
    let pushed : c.push-in-loop-part.new.self ≡ c.loop-part.lists ++ c.in_ok-values-2.values ∷ [] = c.in_ok-push-2.ensures.ok in
    record {
      read = part_more_read (map part_tree c.args.parts.now) c.in-Some.later.now c.loop-part.part-index c.part-item.result (omega arith) c.part-item.is _ _ _ _ _ _ _ c.loop-part.invariant.read other.0 other.1 c.in_ok-values-2.ensures.gives pushed;
      count = omega (arith, ap length pushed, length_push c.loop-part.lists c.in_ok-values-2.values, c.loop-part.invariant.count);
      less = omega (arith, c.in_ok-values-2.ensures.moves, c.loop-part.invariant.less, ap length other.0);
    }

pub returns-clause-gives : goal.returns-clause-gives
returns-clause-gives c = parts_end (map part_tree c.args.parts.now) c.in-Some.later.now c.loop-part.part-index c.loop-part.lists _ _ _ c.loop-part.invariant.read c.in_ok-expect.ensures.reads.1

pub returns-in_err-takes-clause-gives : goal.returns-in_err-takes-clause-gives
returns-in_err-takes-clause-gives c =
    let p = err_from_is_err_and c.from_residual-in_err-takes.result c.from_residual-in_err-takes.ensures.1 in
    let end = c.in_err-takes.ensures.end in
    rw (p.1, p.2) (parts_cut (map part_tree c.args.parts.now) c.in-Some.later.now c.loop-part.part-index _ _ _ _ _ c.loop-part.invariant.read end.1 end.2)

pub returns-then-branch-clause-gives : goal.returns-then-branch-clause-gives
returns-then-branch-clause-gives c =
    parts_end (map part_tree c.args.parts.now) c.in-Some.later.now c.loop-part.part-index c.loop-part.lists _ _ _ c.loop-part.invariant.read (c.in_ok-takes.ensures.taken (ap Ok c.if-branch.true))

pub returns-in_err-values-2-clause-gives : goal.returns-in_err-values-2-clause-gives
returns-in_err-values-2-clause-gives c =
    let p = err_from_is_err_and c.from_residual-in_err-values-2.result c.from_residual-in_err-values-2.ensures.1 in
    let other = c.in_ok-takes.ensures.other (ap Ok c.if-branch.false) in
    rw (p.1, p.2) (part_lacks (map part_tree c.args.parts.now) c.in-Some.later.now c.loop-part.part-index c.part-item.result (omega arith) c.part-item.is _ _ _ _ _ _ c.loop-part.invariant.read other.0 other.1 c.in_err-values-2.ensures.gives)

pub returns-in_err-expect-clause-gives : goal.returns-in_err-expect-clause-gives
returns-in_err-expect-clause-gives c =
    let p = err_from_is_err_and c.from_residual-in_err-expect.result c.from_residual-in_err-expect.ensures.1 in
    rw (p.1, p.2) (parts_lack (map part_tree c.args.parts.now) c.in-Some.later.now c.loop-part.part-index (omega arith) _ _ _ _ _ c.loop-part.invariant.read c.in_err-expect.ensures.reads)
