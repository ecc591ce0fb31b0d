use Rattle.std.proofs.Common.{arith, subst}
use Rattle.ax_walk.proofs.BodySteps.{body_first, body_next, body_failed, failed_honest, body_spelled, body_least, record_forwards}
use Rattle.ax_fspec.specs.Reading.{FailsAt, kind_read}
use Rattle.ax_codec.specs.Table.{record_kind_at}
use Rattle.ax_codec.specs.declared.codec.Codec.{Codec}
use Rattle.ax_walk.proofs.PieceSteps.{along_first, along_next, along_all}
use Rattle.ax_walk.proofs.RecordSteps.{record_one}
use Rattle.ax_walk.specs.Walking.{WalksKind}
use Rattle.ax_walk.proofs.view.scan.Goals as goal

pub returns-in-None-clause-fault : goal.returns-in-None-clause-fault
returns-in-None-clause-fault c =
    body_failed c.args.codec.now c.args.body.now c.loop-at.at c.loop-at.notes.least c.walk_with.new.notes.fault c.loop-at.invariant.body c.loop-at-test.true (subst (λ (x : Codec). FailsAt (kind_read (record_kind_at x.nodes x.slots) c.args.body.now c.loop-at.at) c.loop-at.at c.walk_with.new.notes.fault) c.of-rows.ensures.codec c.in-None.ensures.fault)

pub returns-in-None-clause-honest : goal.returns-in-None-clause-honest
returns-in-None-clause-honest c =
    failed_honest c.args.codec.now c.args.body.now c.walk_with.new.notes.fault
    (body_failed c.args.codec.now c.args.body.now c.loop-at.at c.loop-at.notes.least c.walk_with.new.notes.fault c.loop-at.invariant.body c.loop-at-test.true (subst (λ (x : Codec). FailsAt (kind_read (record_kind_at x.nodes x.slots) c.args.body.now c.loop-at.at) c.loop-at.at c.walk_with.new.notes.fault) c.of-rows.ensures.codec c.in-None.ensures.fault))

pub loop-at-smaller : goal.loop-at-smaller
loop-at-smaller c =
    let walks = (subst (λ (x : Codec). WalksKind (record_kind_at x.nodes x.slots) c.args.body.now c.loop-at.at c.in-Some.walked.end c.walk_with.new.notes.least) c.of-rows.ensures.codec c.in-Some.ensures.end) in
    let on = record_forwards c.args.codec.now.nodes c.args.codec.now.slots c.args.body.now c.loop-at.at c.in-Some.walked.end c.walk_with.new.notes.least c.args.codec.now.records.bounds walks in
    omega (arith, on, c.loop-at-test.true)

pub loop-at-preserved : goal.loop-at-preserved
loop-at-preserved c =
    let walks = (subst (λ (x : Codec). WalksKind (record_kind_at x.nodes x.slots) c.args.body.now c.loop-at.at c.in-Some.walked.end c.walk_with.new.notes.least) c.of-rows.ensures.codec c.in-Some.ensures.end) in
    let on = record_forwards c.args.codec.now.nodes c.args.codec.now.slots c.args.body.now c.loop-at.at c.in-Some.walked.end c.walk_with.new.notes.least c.args.codec.now.records.bounds walks in
    record {
      body = body_next c.args.codec.now c.args.body.now c.loop-at.at c.in-Some.walked.end c.loop-at.notes.least c.walk_with.new.notes.least c.loop-at.invariant.body c.walk_with.ensures.falls walks;
      count = (let n = c.loop-at.invariant.count in omega arith);
      records = along_next (record_kind_at c.args.codec.now.nodes c.args.codec.now.slots) c.args.body.now c.loop-at.at c.in-Some.walked.end c.loop-at.count walks.value walks.read
          (record_one c.args.codec.now c.args.body.now c.loop-at.at c.in-Some.walked.end c.walk_with.new.notes.least walks c.requires.1) c.loop-at.invariant.records;
    }

pub invariant_of-result : goal.invariant_of-result
invariant_of-result c = record {
  canonical = body_least c.args.codec.now c.args.body.now c.loop-at.at c.loop-at.notes.least c.loop-at.invariant.body c.loop-at-test.false c.requires.0;
  records = along_all (record_kind_at c.args.codec.now.nodes c.args.codec.now.slots) c.args.body.now c.loop-at.at c.loop-at.count c.loop-at-test.false c.loop-at.invariant.records;
  size = c.requires;
}

pub returns-clause-spelled : goal.returns-clause-spelled
returns-clause-spelled c = body_spelled c.args.codec.now c.args.body.now c.loop-at.at c.loop-at.notes.least c.loop-at.invariant.body c.loop-at-test.false c.requires.0

pub loop-at-init : goal.loop-at-init
loop-at-init c = record {
  body = body_first c.args.codec.now c.args.body.now c.new-notes.result.least;
  count = omega arith;
  records = along_first (record_kind_at c.args.codec.now.nodes c.args.codec.now.slots) c.args.body.now;
}
