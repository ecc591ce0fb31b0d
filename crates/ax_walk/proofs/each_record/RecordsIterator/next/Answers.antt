use Rattle.std.proofs.Common.{length, arith, ap, ◌∙◌, length-drop}
use Rattle.ax_walk.proofs.RecordPieces.{record_there, later_pieces, later_shown, shown_by, fewer}
use Rattle.ax_walk.proofs.each_record.RecordsIterator.next.Goals as goal

pub returns-in_default-clause-steps : goal.returns-in_default-clause-steps
returns-in_default-clause-steps c = absurd (record_there c.args.self.now.codec.now c.args.self.now.count c.args.self.now.left.now c.if-self-eq0.false c.args.self.now.records c.in_default.ensures.none)

pub invariant_of-self : goal.invariant_of-self
invariant_of-self c = record {
  records = later_pieces c.args.self.now.codec.now c.args.self.now.count c.args.self.now.left.now c.if-self-eq0.false c.args.self.now.records c.in-Some.end c.in-Some.record.body.now c.in-Some.ensures.some c.octets_from.result.now c.octets_from.ensures;
  size = omega (arith, c.args.self.now.size, ap length c.octets_from.ensures, length-drop c.in-Some.end c.args.self.now.left.now);
}

pub returns-clause-steps : goal.returns-clause-steps
returns-clause-steps c =
    later_shown c.args.self.now.codec.now c.args.self.now.count c.args.self.now.left.now c.if-self-eq0.false c.args.self.now.records c.in-Some.end c.in-Some.record.body.now c.in-Some.ensures.some c.octets_from.result.now c.octets_from.ensures
    ∙ shown_by c.args.self.now.codec.now c.in-Some.record.codec.now c.in-Some.record.body.now _ c.in-Some.ensures.codec

pub returns-clause-goes : goal.returns-clause-goes
returns-clause-goes c = record {
  on = λ f. (tt, tt, fewer _ _ _ (later_shown c.args.self.now.codec.now c.args.self.now.count c.args.self.now.left.now c.if-self-eq0.false c.args.self.now.records c.in-Some.end c.in-Some.record.body.now c.in-Some.ensures.some c.octets_from.result.now c.octets_from.ensures));
  keeps = tt;
  rests = λ f. tt;
}
