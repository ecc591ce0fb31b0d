use Rattle.std.proofs.Common.{arith, subst, sym}
use Rattle.std.specs.Prelude.{reverse}
use Rattle.ax_moves.proofs.RunSteps.{behind_fits, falls_more}
use Rattle.ax_moves.specs.Lost.{FallsWith, FitBehind, OfFirst, key_path}
use Rattle.ax_moves.proofs.lost.lost_key.Goals as goal
use Rattle.ax_moves.proofs.lost.lost_key.Goals.{then-falls_with, else-falls_with}

pub returns-clause-runs : goal.returns-clause-runs
returns-clause-runs c =
    let made = c.args.made.now in
    let p = c.args.path.now in
    let front = c.in-Some.field-0-1.now in
    let behind = c.in-Some.behind.now in
    let e = c.in-Some.ensures.cases.0 in
    record {
      gone = c.requires.gone;
      size = c.in_ok-runs-2.ensures.size;
      runs = c.in_ok-runs-2.ensures.runs (reverse made) (subst (λ rs. FitBehind 0 rs (reverse made)) (sym c.as_slice.ensures.value) (behind_fits made front behind e c.requires.runs));
      falls = elim c.if-falls_with.branch [
        | then-falls_with w ↦ falls_more made front behind e p c.if-falls_with.absent c.requires.runs (omega (arith, w.absent-is, w.saturating_add-absent.ensures)) (c.falls_with.ensures w.if-falls_with.true)
        | else-falls_with w ↦ subst (λ n. OfFirst (λ q. FallsWith p (key_path q)) n (reverse made)) (sym w.absent-is) tt
      ];
    }
