use Rattle.std.proofs.Common.{◌<◌, ◌^◌, rules}
use Rattle.std.proofs.lemmas.Option.{IfSome_then}
use Rattle.ax_printed_lines.proofs.pieces.number_laid.Goals as goal

pub returns : goal.returns
returns c =
    let below : c.args.number < 2 ^ c.args.width = search rules in
    IfSome_then c.push.result c.push.ensures (λ done l. (below, l))
