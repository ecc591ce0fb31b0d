use Rattle.std.proofs.Common.{◌≡◌, rules, subst, sym}
use Rattle.std.proofs.lemmas.Option.{IfSome_then}
use Rattle.ax_format.specs.Plain.{fixed_tree}
use Rattle.ax_printed_lines.proofs.FixedBuilt.{FixedIsBuilt}
use Rattle.ax_printed_lines.proofs.ListsBuilt.{run_first, run_next, run_last}
use Rattle.ax_printed_lines.proofs.fixed.run_built.Goals as goal

pub loop-init : goal.loop-init
loop-init c = run_first (fixed_tree c.args.held.now.fixed.now) c.args.cursor.now c.args.out.now

pub returns-then-closes : goal.returns-then-closes
returns-then-closes c =
    IfSome_then c.fx_built.result c.fx_built.ensures (λ done. run_last (fixed_tree c.args.held.now.fixed.now) c.args.cursor.now c.loop.cursor c.held_built.new.cursor c.closes.new.self c.args.out.now c.loop.out c.held_built.new.out c.fx_built.new.out c.loop.invariant c.in_ok-held_built.ensures (search rules))

pub loop-preserved : goal.loop-preserved
loop-preserved c =
    let f = fixed_tree c.args.held.now.fixed.now in
    let stays : c.closes.new.self ≡ c.held_built.new.cursor = search rules in
    let built : FixedIsBuilt f c.loop.cursor c.closes.new.self c.loop.out c.held_built.new.out = subst (λ z. FixedIsBuilt f c.loop.cursor z c.loop.out c.held_built.new.out) (sym stays) c.in_ok-held_built.ensures in
    run_next f c.args.cursor.now c.loop.cursor c.closes.new.self c.args.out.now c.loop.out c.held_built.new.out c.fx_built-in-loop.new.out c.loop.invariant built (search rules)
