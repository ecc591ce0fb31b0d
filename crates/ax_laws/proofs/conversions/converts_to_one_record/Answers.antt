use Rattle.ax_rescale.proofs.ConversionOnce.{record_converts, converted_once}
use Rattle.ax_laws.proofs.conversions.converts_to_one_record.Goals as goal

pub returns-clause-some : goal.returns-clause-some
returns-clause-some c = record_converts

pub returns-clause-one : goal.returns-clause-one
returns-clause-one c = converted_once
