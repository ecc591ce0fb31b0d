use Rattle.std.proofs.Common.{sym, subst}
use Rattle.ax_build_work.specs.BuildCommand.{AnswersLine}
use Rattle.ax_lines.specs.Commands.{gives}
use Rattle.ax_format.specs.Plain.{catalogue_tree}
use Rattle.ax_build_work.proofs.PrintedLines.{printed_answered}
use Rattle.ax_build_work.proofs.printed.printed_octets.Goals as goal

pub returns : goal.returns
returns c =
    subst (λ b. AnswersLine (catalogue_tree c.args.tables.now) c.args.line.now (gives b)) (sym c.in_ok-octets.ensures)
    (printed_answered (catalogue_tree c.args.tables.now) c.args.line.now c.in-Some.category c.in-Some-whole_octets.body.now c.over-out.result c.printed_body.new.out c.in-Some.ensures c.over-out.ensures c.in-Some-whole_octets.ensures.bits c.in-Some-whole_octets.ensures.octets c.in-Some-whole_octets.ensures.few)
