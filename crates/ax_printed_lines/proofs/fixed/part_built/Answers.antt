use Rattle.std.proofs.lemmas.Option.{IfSome_then}
use Rattle.ax_text_lines.specs.HeldText.{text_part}
use Rattle.ax_printed_lines.proofs.TemplatesBuilt.{part_narrow, part_fits, part_goes}
use Rattle.ax_printed_lines.proofs.fixed.part_built.Goals as goal

pub template-requires : goal.template-requires
template-requires c = let h = c.args.held.now in part_narrow (text_part h) h.steps c.in-Some.steps h.made c.in-Some.is h.width h.wide c.if-held-le-MOST_BITS.true

pub push-requires-clause-fits : goal.push-requires-clause-fits
push-requires-clause-fits c =
    let h = c.args.held.now in
    part_fits (text_part h) h.steps c.in-Some.steps h.made c.in-Some.is h.width c.in-Some-template.bits c.args.cursor.now c.template.new.self h.wide c.if-held-le-MOST_BITS.true c.in-Some-template.ensures.some

pub returns : goal.returns
returns c =
    let h = c.args.held.now in
    IfSome_then c.push.result c.push.ensures (λ done a.
    part_goes (text_part h) h.steps c.in-Some.steps h.made c.in-Some.is h.width c.in-Some-template.bits c.args.cursor.now c.template.new.self c.args.out.now c.push.new.self h.wide c.if-held-le-MOST_BITS.true c.requires h.shallow c.if-held.true h.nests c.in-Some-template.ensures.some a)
