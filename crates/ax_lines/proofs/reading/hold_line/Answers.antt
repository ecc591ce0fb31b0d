use Rattle.std.proofs.Common.{subst, slice_range}
use Rattle.ax_lines.specs.Feeds.{IsFeedAt}
use Rattle.ax_lines.proofs.Steps.{holds_before}
use Rattle.ax_lines.proofs.reading.hold_line.Goals as goal

pub returns-in-Some-clause-line : goal.returns-in-Some-clause-line
returns-in-Some-clause-line g c =
    holds_before _ _ _ c.args.buffer.now.items c.args.start c.args.end _ c.in-Some.at c.requires.window c.requires.within
    (subst (λ b. IsFeedAt (slice_range b c.args.start c.args.end) c.in-Some.at) c.deref.ensures.value c.in-Some.ensures)
