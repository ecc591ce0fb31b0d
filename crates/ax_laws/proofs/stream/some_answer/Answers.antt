use Rattle.ax_laws.proofs.StreamThere.{stream_there}
use Rattle.ax_laws.proofs.stream.some_answer.Goals as goal

pub returns : goal.returns
returns c = stream_there
