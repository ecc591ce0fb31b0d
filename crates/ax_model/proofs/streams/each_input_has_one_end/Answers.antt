use Rattle.ax_format.proofs.FramedOnce.{one_framed, framed_once}
use Rattle.ax_format.proofs.EndsOnce.{one_end_flawless, ends_once}
use Rattle.ax_model.proofs.streams.each_input_has_one_end.Goals as goal

pub returns-clause-framing : goal.returns-clause-framing
returns-clause-framing c = one_framed

pub returns-clause-blocks : goal.returns-clause-blocks
returns-clause-blocks c = one_end_flawless

pub returns-clause-one_framing : goal.returns-clause-one_framing
returns-clause-one_framing c = framed_once

pub returns-clause-one_end : goal.returns-clause-one_end
returns-clause-one_end c = ends_once
