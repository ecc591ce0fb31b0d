use Rattle.std.proofs.Common.{refl, arith}
use Rattle.ax_tokens.proofs.Fronts.{str_stopped}
use Rattle.ax_tokens.proofs.lexing.str_length.Goals as goal
use Rattle.ax_tokens.proofs.lexing.str_length.Goals.{else-end-octets-via-then-end-octets+else-octets-end-eq34, else-end-octets-via-else-end-octets}

-- the octet there is no quote, or the text ends
pub returns-else-end-octets-clause-stops : goal.returns-else-end-octets-clause-stops
returns-else-end-octets-clause-stops c =
    let stopped = str_stopped c.args.octets.now c.content_length-end.result _ c.requires.some c.requires.quoted c.content_length-end.ensures.longest refl in
    elim c.else-end-octets.branch [
      | else-end-octets-via-then-end-octets+else-octets-end-eq34 w ↦ stopped (λ _. w.if-octets-end-eq34.false)
      | else-end-octets-via-else-end-octets w ↦ stopped (λ lt. absurd (omega arith))
    ]
