use Rattle.std.proofs.Common.{◌≡◌, ◌∙◌, ap, subst, refl, arith, Ok, Some, None}
use Rattle.ax_lines.proofs.Running.{running_begins, run_done, run_refused, run_stopped, run_on, stands_told, unfailed, line_opens, refusal_opens, ends_now, never_refused, refused_there, after_line}
use Rattle.ax_lines.specs.Standing.{StandsAfter}
use Rattle.ax_endpoints.specs.Changes.{source_change}
use Rattle.ax_lines.proofs.driving.drive_lines.Goals as goal

pub lines-init : goal.lines-init
lines-init g c = running_begins _ _ _ _ _ _ _ _ c.requires.sound c.requires.fresh

pub returns-in-Ok-None-clause-runs : goal.returns-in-Ok-None-clause-runs
returns-in-Ok-None-clause-runs g c =
    let e : c.next.result ≡ Ok None = c.in-Ok-None.is ∙ ap Ok c.in-Ok-None.field-0-is in
    run_done _ _ _ _ _ _ _ _ _ _ c.lines.invariant _ (record { left = refl; taken = refl; faults = refl }) c.next.ensures.never_falls (unfailed _ _ _ e c.next.ensures.quiet)
    (ends_now g.S.Source c.lines.reader c.lines.source c.next.new.source c.next.result (omega (arith, c.lines.invariant.within, c.lines.invariant.limit_is)) e c.lines.invariant.going c.next.ensures.again c.next.ensures.end)

pub returns-in-Err-clause-runs : goal.returns-in-Err-clause-runs
returns-in-Err-clause-runs g c =
    let opened = refusal_opens _ c.lines.reader _ c.next.result c.in-Err.error c.in-Err.is c.lines.invariant.going c.next.ensures.again in
    rw c.line_reader_end.ensures (run_refused _ _ _ _ _ _ _ _ _ _ c.lines.invariant (source_change g.S.Source c.lines.source c.next.new.source) (record { left = refl; taken = refl; faults = refl }) c.next.ensures.never_falls c.in-Err.error opened
    (c.in-Err.ensures.end opened) (c.in-Err.ensures.fault opened) (c.in-Err.ensures.past_limit opened) (c.in-Err.ensures.rose opened) c.next.ensures.once c.in-Err.ensures.quiet)

pub returns-in-Err-clause-stands : goal.returns-in-Err-clause-stands
returns-in-Err-clause-stands g c = λ input line fault left is. absurd (never_refused _ line fault c.in-Err.error (rw c.line_reader_end.ensures at is))

pub returns-in-Err-do_line-clause-runs : goal.returns-in-Err-do_line-clause-runs
returns-in-Err-do_line-clause-runs g c =
    let e : c.next.result ≡ Ok (Some c.in-Ok-Some.line) = c.in-Ok-Some.is ∙ ap Ok c.in-Ok-Some.field-0-is in
    let a = after_line _ _ _ _ _ e c.next.follows.holds-at-none in
    let opened = line_opens _ c.lines.reader _ c.next.result c.in-Ok-Some.line e c.lines.invariant.going c.next.ensures.again in
    run_stopped _ _ _ _ _ _ _ _ _ _ c.lines.invariant (source_change g.S.Source c.lines.source c.next.new.source) (record { left = refl; taken = refl; faults = refl }) c.next.ensures.never_falls _ _ _ _ a.gives
    _ refl refl c.do_line.ensures.out_later _ opened (unfailed _ _ _ e c.next.ensures.quiet) c.in-Err-do_line.ensures.does

pub returns-in-Err-do_line-clause-stands : goal.returns-in-Err-do_line-clause-stands
returns-in-Err-do_line-clause-stands g c =
    let e : c.next.result ≡ Ok (Some c.in-Ok-Some.line) = c.in-Ok-Some.is ∙ ap Ok c.in-Ok-Some.field-0-is in
    let a = after_line _ _ _ _ _ e c.next.follows.holds-at-none in
    λ input line fault left is.
    let number = refused_there _ _ line fault _ _ _ c.in-Err-do_line.ensures.does is in
    subst (StandsAfter _ _ input _ _) number (stands_told _ _ _ _ _ _ _ _ _ _ c.lines.invariant (source_change g.S.Source c.lines.source c.next.new.source) (record { left = refl; taken = refl; faults = refl }) c.next.ensures.never_falls _ _ _ _ a.gives _ refl refl input left)

pub lines-preserved : goal.lines-preserved
lines-preserved g c =
    let e : c.next.result ≡ Ok (Some c.in-Ok-Some.line) = c.in-Ok-Some.is ∙ ap Ok c.in-Ok-Some.field-0-is in
    let a = after_line _ _ _ _ _ e c.next.follows.holds-at-none in
    let opened = line_opens _ c.lines.reader _ c.next.result c.in-Ok-Some.line e c.lines.invariant.going c.next.ensures.again in
    run_on _ _ _ _ _ _ _ _ _ _ c.lines.invariant (source_change g.S.Source c.lines.source c.next.new.source) (record { left = refl; taken = refl; faults = refl }) c.next.ensures.never_falls _ _ _ _ a.gives
    _ refl refl c.do_line.ensures.out_later _ _ _ _ c.do_line.ensures.still_sound opened (unfailed _ _ _ e c.next.ensures.quiet) c.in-Ok.ensures.does c.do_line.ensures.same a.same_line_limit a.same_limit refl refl a.within refl
