use Rattle.std.proofs.Common.{rules, ◌≡◌, true, false, is_none, subst}
use Rattle.std.specs.Prelude.{reverse}
use Rattle.ax_moves.proofs.RunSteps.{made_kept, made_more}
use Rattle.ax_moves.specs.Lost.{KeyRuns}
use Rattle.ax_moves.proofs.lost.lost_keys.Goals as goal

pub loop-path-preserved : goal.loop-path-preserved
loop-path-preserved c =
    let is : is_none c.in-Some.path.now.new ≡ true = search rules in
    made_more c.args.paths.now c.loop-path.left.now c.in-Some.before.now c.in-Some.path.now c.loop-path.made.items c.loop-path.invariant c.in-Some.ensures.cases.0
    c.push.new.self.items c.in_ok-key.key is c.in_ok-key.ensures.path
    (subst (λ ks. KeyRuns c.in_ok-key.key (reverse ks)) c.as_slice.ensures.value c.in_ok-key.ensures.runs) c.in_ok-push.ensures.items

pub loop-path-preserved-then-is_some : goal.loop-path-preserved-then-is_some
loop-path-preserved-then-is_some c =
    let kept : is_none c.in-Some.path.now.new ≡ false = search rules in
    made_kept c.args.paths.now c.loop-path.left.now c.in-Some.before.now c.in-Some.path.now c.loop-path.made.items c.loop-path.invariant c.in-Some.ensures.cases.0 kept
