use Rattle.std.proofs.Common.{◌≡◌, ◌∙◌, ap, Ok, Some, None, arith}
use Rattle.ax_blocks.specs.Reader.{raw_tree, GivesBlock, FindsEnd}
use Rattle.ax_blocks.proofs.Runs.{running_begins, run_done, run_refused, run_stopped, run_on, kept_told, kept_of_taken, refused_of_taken, stopped_of_taken, remembers_done, remembers_taken, remembers_at_error, unfailed, gives_raw, gives_end, reader_after}
use Rattle.ax_blocks.proofs.driving.drive_blocks.Goals as goal

pub overflow_add-blocks : goal.overflow_add-blocks
overflow_add-blocks g c = let run = c.stream.invariant in omega (arith, run.few, run.within, run.limit_is, c.limit-limit.ensures, c.limit-limit.type_inv)

pub stream-init : goal.stream-init
stream-init g c = running_begins _ _ _ _ _ _ _ _ _ _ _ c.requires.sound (λ m. m) c.requires.fresh

pub returns-in-Ok-None-clause-runs : goal.returns-in-Ok-None-clause-runs
returns-in-Ok-None-clause-runs g c =
    let e : c.next.result ≡ Ok None = c.in-Ok-None.is ∙ ap Ok c.in-Ok-None.field-0-is in
    run_done _ _ _ _ _ _ _ _ _ _ c.stream.invariant _ _ _ c.next.ensures.never_falls (unfailed _ _ _ e c.next.ensures.quiet)
    (gives_end _ (FindsEnd c.stream.reader.limit c.stream.reader.given (g.S.Source.left c.stream.source) (g.S.Source.left c.next.new.source) (g.S.Source.taken c.stream.source) (g.S.Source.taken c.next.new.source)) e (c.next.ensures.end c.stream.invariant.open_))

pub returns-in-Ok-None-clause-remembers : goal.returns-in-Ok-None-clause-remembers
returns-in-Ok-None-clause-remembers g c =
    let e : c.next.result ≡ Ok None = c.in-Ok-None.is ∙ ap Ok c.in-Ok-None.field-0-is in
    let f = gives_end _ (FindsEnd c.stream.reader.limit c.stream.reader.given (g.S.Source.left c.stream.source) (g.S.Source.left c.next.new.source) (g.S.Source.taken c.stream.source) (g.S.Source.taken c.next.new.source)) e (c.next.ensures.end c.stream.invariant.open_) in
    λ input blocks are l m done. remembers_done _ _ _ _ (kept_told _ _ _ _ _ _ _ _ _ _ c.stream.invariant _ _ _ c.next.ensures.never_falls f input are l) m

pub returns-in-Ok-None-clause-remembers_taken : goal.returns-in-Ok-None-clause-remembers_taken
returns-in-Ok-None-clause-remembers_taken g c =
    let e : c.next.result ≡ Ok None = c.in-Ok-None.is ∙ ap Ok c.in-Ok-None.field-0-is in
    let f = gives_end _ (FindsEnd c.stream.reader.limit c.stream.reader.given (g.S.Source.left c.stream.source) (g.S.Source.left c.next.new.source) (g.S.Source.taken c.stream.source) (g.S.Source.taken c.next.new.source)) e (c.next.ensures.end c.stream.invariant.open_) in
    λ m. kept_of_taken _ _ _ _ _ _ _ _ _ _ c.stream.invariant _ _ _ c.next.ensures.never_falls _ (λ octets k. remembers_taken _ _ _ _ _ k m) f

pub returns-in-Err-take-clause-runs : goal.returns-in-Err-take-clause-runs
returns-in-Err-take-clause-runs g c =
    let e : c.next.result ≡ Ok (Some c.in-Ok-Some.raw) = c.in-Ok-Some.is ∙ ap Ok c.in-Ok-Some.field-0-is in
    let b = gives_raw _ _ (λ raw. GivesBlock c.stream.reader.limit c.stream.reader.given (g.S.Source.left c.stream.source) (g.S.Source.left c.next.new.source) (g.S.Source.taken c.stream.source) (g.S.Source.taken c.next.new.source) (raw_tree raw)) e (c.next.ensures.block c.stream.invariant.open_) in
    rw c.work_end.ensures (run_stopped _ _ _ _ _ _ _ _ _ _ c.stream.invariant _ _ _ c.next.ensures.never_falls _ _ _ _ _ (unfailed _ _ _ e c.next.ensures.quiet) b _ c.in-Err-take.ensures.takes)

pub returns-in-Err-take-clause-remembers_taken : goal.returns-in-Err-take-clause-remembers_taken
returns-in-Err-take-clause-remembers_taken g c =
    let e : c.next.result ≡ Ok (Some c.in-Ok-Some.raw) = c.in-Ok-Some.is ∙ ap Ok c.in-Ok-Some.field-0-is in
    let b = gives_raw _ _ (λ raw. GivesBlock c.stream.reader.limit c.stream.reader.given (g.S.Source.left c.stream.source) (g.S.Source.left c.next.new.source) (g.S.Source.taken c.stream.source) (g.S.Source.taken c.next.new.source) (raw_tree raw)) e (c.next.ensures.block c.stream.invariant.open_) in
    rw c.work_end.ensures (λ m. stopped_of_taken _ _ _ _ _ _ _ _ _ _ c.stream.invariant _ _ _ c.next.ensures.never_falls _ _ _ _ _ (unfailed _ _ _ e c.next.ensures.quiet) b _ (λ raws k n. c.take.ensures.remembers _ raws (k n)) _ (λ octets k. remembers_taken _ _ _ _ _ k m) _ c.in-Err-take.ensures.takes)

pub stream-preserved : goal.stream-preserved
stream-preserved g c =
    let e : c.next.result ≡ Ok (Some c.in-Ok-Some.raw) = c.in-Ok-Some.is ∙ ap Ok c.in-Ok-Some.field-0-is in
    let a = reader_after _ _ _ _ e c.next.follows.holds-at-none in
    let b = gives_raw _ _ (λ raw. GivesBlock c.stream.reader.limit c.stream.reader.given (g.S.Source.left c.stream.source) (g.S.Source.left c.next.new.source) (g.S.Source.taken c.stream.source) (g.S.Source.taken c.next.new.source) (raw_tree raw)) e (c.next.ensures.block c.stream.invariant.open_) in
    run_on _ _ _ _ _ _ _ _ _ _ c.stream.invariant _ _ _ c.next.ensures.never_falls _ _ _ _ _ (unfailed _ _ _ e c.next.ensures.quiet) b _ (λ raws k m. c.take.ensures.remembers _ raws (k m))
    _ _ _ _ c.in-Ok.ensures.takes c.take.ensures.still_sound c.take.ensures.same a.0 a.1.0 a.1.1.0 a.1.1.1

pub returns-in-Err-clause-runs : goal.returns-in-Err-clause-runs
returns-in-Err-clause-runs g c =
    rw c.reader_end.ensures (run_refused _ _ _ _ _ _ _ _ _ _ c.stream.invariant _ _ _ c.next.ensures.never_falls c.in-Err.error (c.in-Err.ensures.end c.stream.invariant.open_) (c.in-Err.ensures.fault c.stream.invariant.open_)
    (c.in-Err.ensures.past_limit c.stream.invariant.open_) (c.in-Err.ensures.rose c.stream.invariant.open_) c.next.ensures.once c.in-Err.ensures.quiet)

pub returns-in-Err-clause-remembers_taken : goal.returns-in-Err-clause-remembers_taken
returns-in-Err-clause-remembers_taken g c =
    rw c.reader_end.ensures (λ m. refused_of_taken _ _ _ _ _ _ _ _ _ _ c.stream.invariant _ _ _ c.next.ensures.never_falls _ (λ octets end k. remembers_at_error _ _ _ _ _ _ _ k m) c.in-Err.error
    (c.in-Err.ensures.end c.stream.invariant.open_) (c.in-Err.ensures.fault c.stream.invariant.open_))
