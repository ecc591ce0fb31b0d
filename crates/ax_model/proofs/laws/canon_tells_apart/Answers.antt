use Rattle.ax_format.proofs.CanonOnce.{canon_once}
use Rattle.ax_format.proofs.RecordLaws.{standing_canon_once, flawless_record_canon_once, flawless_body_canon_once}
use Rattle.ax_model.proofs.laws.canon_tells_apart.Goals as goal

pub returns-clause-kinds : goal.returns-clause-kinds
returns-clause-kinds c = standing_canon_once

pub returns-clause-records : goal.returns-clause-records
returns-clause-records c = flawless_record_canon_once

pub returns-clause-bodies : goal.returns-clause-bodies
returns-clause-bodies c = flawless_body_canon_once

pub returns-clause-finer : goal.returns-clause-finer
returns-clause-finer c = canon_once
