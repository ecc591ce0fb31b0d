use Rattle.std.proofs.Common.{ap, ◌∙◌, drop}
use Rattle.ax_model.specs.Presence.{none_marked}
use Rattle.ax_fspec.proofs.FieldLaws.{none_after_none}
use Rattle.ax_format_tests.proofs.presence.mask.Goals as goal

pub loop-slot-init : goal.loop-slot-init
loop-slot-init c = ap (λ k. none_marked (drop c.args.count k)) c.empty-defined.ensures ∙ none_after_none c.args.count
