use Rattle.std.proofs.Common.{◌≡◌, ◌^◌, get_or, subst}
use Rattle.ax_held_kinds.proofs.LineEnds.{line_found}
use Rattle.ax_held_kinds.proofs.lines.ShortElement.line.Goals as goal

pub returns : goal.returns
returns c =
    let short = c.args.self.now in
    line_found short.name short.width short.content.now short.lines (2 ^ short.width) c.args.number c.index-as_slice-number.result short.made c.requires
    (subst (λ xs. c.index-as_slice-number.result ≡ get_or xs c.args.number c.index-as_slice-number.result) c.as_slice.ensures.members c.index-as_slice-number.is)
