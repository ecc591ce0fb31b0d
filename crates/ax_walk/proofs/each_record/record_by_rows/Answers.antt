use Rattle.ax_walk.proofs.RecordSteps.{record_here, record_one, record_least}
use Rattle.ax_walk.proofs.each_record.record_by_rows.Goals as goal

pub invariant_of-record : goal.invariant_of-record
invariant_of-record c = record { record_octets = record_one c.args.records.now.codec.now c.args.body.now c.args.at c.in-Some.walked.end c.walk_with.new.notes.least c.in-Some.ensures.end c.requires.body; told = c.in-Some.ensures.field }

pub returns-clause-some : goal.returns-clause-some
returns-clause-some c = record_here c.args.records.now.codec.now c.args.body.now c.args.at c.in-Some.walked.end c.walk_with.new.notes.least c.in-Some.ensures.end

pub returns-clause-least : goal.returns-clause-least
returns-clause-least c = record_least c.args.records.now.codec.now c.args.body.now c.args.at c.in-Some.walked.end c.walk_with.new.notes.least c.in-Some.ensures.end
