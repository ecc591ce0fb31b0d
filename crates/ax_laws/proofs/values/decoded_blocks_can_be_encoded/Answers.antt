use Rattle.ax_values.proofs.RoundTrip.{decoded_fits, decoded_no_longer}
use Rattle.ax_laws.proofs.values.decoded_blocks_can_be_encoded.Goals as goal

pub returns-clause-read_fits : goal.returns-clause-read_fits
returns-clause-read_fits c = decoded_fits

pub returns-clause-read_length : goal.returns-clause-read_length
returns-clause-read_length c = decoded_no_longer
