use Rattle.ax_build_work.proofs.work.BuildWorkLineWork.take.Goals as goal

pub returns-in-Ok-Some-clause-takes : goal.returns-in-Ok-Some-clause-takes
returns-in-Ok-Some-clause-takes c = rw c.in-Ok-Some.field-0-is at c.in-Ok-Some.ensures.answer

pub returns-in-Ok-None-clause-takes : goal.returns-in-Ok-None-clause-takes
returns-in-Ok-None-clause-takes c = rw c.in-Ok-None.field-0-is at c.in-Ok-None.ensures.answer

pub returns-in-Err-Refused-clause-takes : goal.returns-in-Err-Refused-clause-takes
returns-in-Err-Refused-clause-takes c = rw c.in-Err-Refused.field-0-is at c.in-Err-Refused.ensures.stop
