use Rattle.std.proofs.Common.{◌∙◌, ap}
use Rattle.ax_tied_streams.specs.Held.{emptied}
use Rattle.ax_tied_streams.specs.Streams.{streams_of}
use Rattle.ax_tied_streams.proofs.Writes.{goes_on_put, goes_on_still, none_of}
use Rattle.ax_tied_streams.proofs.streams.TiedStreams.write_held.Goals as goal
use Rattle.ax_tied_streams.proofs.streams.TiedStreams.write_held.Goals.{then-is_none, else-is_none}

pub returns-clause-history : goal.returns-clause-history
returns-clause-history g c = elim c.if-is_none.branch [
  | then-is_none w ↦ goes_on_put _ (streams_of w.put_held.new.self) _ (none_of _ w.if-is_none.ensures) w.put_held.ensures
      (c.drop_held.ensures ∙ ap (λ s. emptied (streams_of s)) w.self-is)
  | else-is_none w ↦ goes_on_still _ _ w.if-is_none.ensures (c.drop_held.ensures ∙ ap (λ s. emptied (streams_of s)) w.self-is)
]
