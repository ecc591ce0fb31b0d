use Rattle.std.proofs.Common.{refl}
use Rattle.ax_load.proofs.TakenFiles.{stop_took}
use Rattle.ax_load.proofs.TwoFiles.{passed_on}
use Rattle.ax_load.proofs.WithExpansion.{spec_ends, expansion_ends}
use Rattle.ax_load.specs.Languages.{expansion_files}
use Rattle.ax_load.proofs.expanding.load_with_expansion.Goals as goal

pub returns-in_err-one-clause-ends : goal.returns-in_err-one-clause-ends
returns-in_err-one-clause-ends g c = passed_on c.from_residual.result c.in_err-one.field-0.0 _ c.from_residual.ensures.1 (spec_ends _ _ _ _ _ c.in_err-one.ensures.stops)

pub returns-in_err-other-clause-ends : goal.returns-in_err-other-clause-ends
returns-in_err-other-clause-ends g c = passed_on c.from_residual-in_err-other.result c.in_err-other.field-0.0 _ c.from_residual-in_err-other.ensures.1
    (expansion_ends _ _ _ _ _ _ _ _ _ _ _ _ c.in_ok-one.ensures.loads c.load_file.ensures.keeps c.load_file.ensures.never_falls c.in_err-other.ensures.stops)

pub returns-in_err-other-clause-took_through : goal.returns-in_err-other-clause-took_through
returns-in_err-other-clause-took_through g c = passed_on c.from_residual-in_err-other.result c.in_err-other.field-0.0 _ c.from_residual-in_err-other.ensures.1
    (stop_took _ _ _ _ 1 1 _ _ _ c.load_file.ensures.keeps refl refl c.in_ok-one.ensures.took expansion_files _ _ c.in_err-other.ensures.stops c.in_err-other.ensures.took_at_stop)
