-- A specification, a seed and a count have one line at most.
use Rattle.std.proofs.Common.{◌≡◌, ℕ, List, sym, ◌∙◌, ap}
use Rattle.ax_format.proofs.StreamsApart.{stream_once}
use Rattle.ax_format.specs.Specification.{SpecTree}
use Rattle.ax_vectors.specs.Made.{Made}
use Rattle.ax_trial.specs.Trial.{IsTrial, trial_line}

pub trial_once : (spec : SpecTree) (seed count : ℕ) (line other : List ℕ) → IsTrial spec seed count line → IsTrial spec seed count other → line ≡ other
trial_once spec seed count line other a b =
    a.is ∙ ap (λ blocks. trial_line spec blocks (Made spec seed count)) (stream_once _ a.blocks b.blocks _ a.spelled b.spelled) ∙ sym b.is
