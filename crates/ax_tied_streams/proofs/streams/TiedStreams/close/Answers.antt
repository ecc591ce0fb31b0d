use Rattle.ax_tied_streams.proofs.Writes.{got_ended}
use Rattle.ax_tied_streams.proofs.streams.TiedStreams.close.Goals as goal

pub returns-clause-history : goal.returns-clause-history
returns-clause-history g c = λ o r h k. got_ended o r h _ c.args.own _ c.write_held.ensures.octets c.write_held.ensures.lines c.ranges.own.fits c.ending-ending.ensures (c.write_held.ensures.history o r h k)
