use Rattle.ax_blocks.specs.Reader.{raw_tree}
use Rattle.ax_convert_work.proofs.Reading.{is_read, body_fails}
use Rattle.ax_convert_work.proofs.making.read_raw.Goals as goal

pub returns-in-Ok-clause-read : goal.returns-in-Ok-clause-read
returns-in-Ok-clause-read c = is_read c.args.old.now (raw_tree c.args.raw.now) c.in-Ok.block c.args.raw.now.within_block c.args.raw.now.nonempty c.in-Ok.ensures.opaque c.in-Ok.ensures.read

pub returns-in-Err-Fault-clause-stop : goal.returns-in-Err-Fault-clause-stop
returns-in-Err-Fault-clause-stop c =
    λ new. body_fails c.args.old.now (raw_tree c.args.raw.now) new c.in-Err-Fault.fault c.args.raw.now.within_block (rw c.in-Err-Fault.field-0-is at c.in-Err-Fault.ensures.fault)
