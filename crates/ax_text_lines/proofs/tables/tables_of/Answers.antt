use Rattle.std.proofs.Common.{ℕ, ◌<◌, length, arith, ◌∙◌, ap, ◌∷◌, [], ◌++◌}
use Rattle.ax_text_lines.proofs.tables.tables_of.Goals.{in-Some+in_ok-table_of+in_ok-push, in_default}
use Rattle.ax_text_lines.proofs.tables.tables_of.Goals as goal
use Rattle.ax_uap.proofs.Categories.{one_more, missing}

pub loop-index-preserved : goal.loop-index-preserved
loop-index-preserved c =
    let all = c.args.catalogue.now in
    let i : ℕ = c.loop-index.index in
    let within : i < length all = omega (arith, c.loop-index-test.true, c.count-index-end.ensures.number) in
    elim c.match-at.branch [
      | in-Some+in_ok-table_of+in_ok-push w ↦ w.tables-is ∙ one_more all c.loop-index.tables w.push.new.self i c.at.result w.in-Some.accepted c.loop-index.invariant w.in-Some.is c.at.ensures.value (w.in_ok-push.ensures ∙ ap (λ s. c.loop-index.tables ++ s ∷ []) w.in_ok-table_of.ensures.spec)
      | in_default w ↦ absurd (missing c.at.result w.in_default.not-Some (c.at.ensures.within.1 within))
    ]
