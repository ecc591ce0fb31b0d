use Rattle.ax_format.proofs.StreamsApart.{canon_stream, stream_once, canon_streams_apart}
use Rattle.ax_model.proofs.streams.canonical_octets_tell_streams_apart.Goals as goal

pub returns-clause-spells : goal.returns-clause-spells
returns-clause-spells c = canon_stream

pub returns-clause-one_list : goal.returns-clause-one_list
returns-clause-one_list c = stream_once

pub returns-clause-apart : goal.returns-clause-apart
returns-clause-apart c = canon_streams_apart
