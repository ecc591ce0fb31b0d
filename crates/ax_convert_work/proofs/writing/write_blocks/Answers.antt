use Rattle.ax_convert_work.proofs.WrittenLists.{one_failed, one_written}
use Rattle.ax_convert_work.specs.Making.{octets_in}
use Rattle.ax_endpoints.proofs.Pieces.{same_text}
use Rattle.ax_convert_work.proofs.writing.write_blocks.Goals as goal

pub returns-in_err-write_text : goal.returns-in_err-write_text
returns-in_err-write_text g c =
    one_failed octets_in c.args.blocks.now _ _ _ _ _ _ c.loop-one.one-index c.as_slice-one-items.result.now c.as_slice-one-items.ensures.members c.one-item.result c.loop-one-test.true c.one-item.is c.loop-one.invariant _ _ c.from_residual.ensures.0
    (same_text _ _ _ _ _ _ _ c.as_slice.ensures.value c.in_err-write_text.ensures)

pub loop-one-preserved : goal.loop-one-preserved
loop-one-preserved g c =
    one_written octets_in c.args.blocks.now _ _ _ _ _ _ c.loop-one.one-index c.as_slice-one-items.result.now c.as_slice-one-items.ensures.members c.one-item.result c.loop-one-test.true c.one-item.is c.loop-one.invariant _
    (same_text _ _ _ _ _ _ _ c.as_slice.ensures.value c.in_ok-write_text.ensures)
