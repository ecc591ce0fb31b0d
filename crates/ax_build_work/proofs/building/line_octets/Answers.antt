use Rattle.std.proofs.Common.{rules, subst}
use Rattle.ax_build_work.specs.BuildCommand.{AnswersLine}
use Rattle.ax_lines.specs.Commands.{gives}
use Rattle.ax_format.specs.Plain.{catalogue_tree}
use Rattle.ax_build_work.proofs.Built.{none_asked, built_line, not_built}
use Rattle.ax_build_work.specs.Stops.{StopsLine}
use Rattle.ax_build_work.proofs.building.line_octets.Goals as goal

pub returns-then-count-eq0-clause-answer : goal.returns-then-count-eq0-clause-answer
returns-then-count-eq0-clause-answer c = none_asked _ _ _ _ c.in_ok-found.ensures.tokens c.count.ensures.count c.if-count-eq0.true

pub returns-in_err-octets-clause-stop : goal.returns-in_err-octets-clause-stop
returns-in_err-octets-clause-stop c =
    let h : StopsLine (catalogue_tree c.args.items.now) c.args.line.now c.in_err-octets.field-0.0 = not_built _ _ _ _ c.in_ok-found.ensures.tokens c.count.ensures.count _ c.if-count-eq0.false c.in_err-octets.ensures.stop in search rules

pub returns-clause-answer : goal.returns-clause-answer
returns-clause-answer c = built_line _ _ _ _ c.in_ok-found.ensures.tokens c.count.ensures.count _ c.if-count-eq0.false c.in_ok-octets.ensures.octets

pub returns-in-Some-clause-answer : goal.returns-in-Some-clause-answer
returns-in-Some-clause-answer c =
    subst (λ specs. AnswersLine (catalogue_tree specs) c.args.line.now (gives c.in-Some.printed.items)) c.requires.same (rw c.in-Some.is at c.in_ok-printed.ensures)
