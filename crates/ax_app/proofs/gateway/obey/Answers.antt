use Rattle.std.proofs.Common.{refl, subst, map}
use Rattle.std.specs.String.{string_bytes}
use Rattle.ax_words.specs.Words.{HasShape, HasNoShape}
use Rattle.ax_app.proofs.Obeying.{words_refused, words_unread}
use Rattle.ax_app.proofs.Stages.{no_shape}
use Rattle.ax_app.proofs.gateway.obey.Goals as goal

pub obey_line-requires : goal.obey_line-requires
obey_line-requires g c = c.in-Ok.ensures.in_bounds

pub returns-in-Ok-clause-obeys : goal.returns-in-Ok-clause-obeys
returns-in-Ok-clause-obeys g c = c.obey_line.ensures.obeys _ (subst (λ words. HasShape (map string_bytes words) c.in-Ok.line) c.deref.ensures.value c.in-Ok.ensures)

pub returns-in-Err-Usage-clause-obeys : goal.returns-in-Err-Usage-clause-obeys
returns-in-Err-Usage-clause-obeys g c =
    words_refused _ _ (subst (λ words. HasNoShape (map string_bytes words)) c.deref.ensures.value (no_shape _ _ c.in-Err-Usage.field-0-is c.in-Err-Usage.ensures)) (record { faults = refl; taken = refl })
    (record { untouched = record { left = refl; taken = refl }; out = refl; report = refl; source_quiet = refl; out_quiet = refl; report_quiet = refl })

pub returns-in-Err-OutOfMemory-clause-obeys : goal.returns-in-Err-OutOfMemory-clause-obeys
returns-in-Err-OutOfMemory-clause-obeys g c =
    words_unread _ _ (record { faults = refl; taken = refl }) (record { untouched = record { left = refl; taken = refl }; out = refl; report = refl; source_quiet = refl; out_quiet = refl; report_quiet = refl })
