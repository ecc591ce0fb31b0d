use Rattle.ax_moves.proofs.ToldLines.{gathers_then}
use Rattle.ax_moves.proofs.telling.tell_line.Goals as goal

pub returns-clause-told : goal.returns-clause-told
returns-clause-told c =
    let end = gathers_then _ _ _ _ _ _ _ _ c.lay_octets-path_end.ensures.laid c.lay_octets.ensures.laid in
    let path = gathers_then _ _ _ _ _ _ _ _ c.lay_octets-path_start.ensures.laid end in
    let one = gathers_then _ _ _ _ _ _ _ _ c.lay_octets-record_named.ensures.laid c.tell_number-record_end.ensures.told in
    let in_block = gathers_then _ _ _ _ _ _ _ _ one path in
    let front = gathers_then _ _ _ _ _ _ _ _ c.lay_octets-named.ensures.laid c.tell_number-block_end.ensures.told in
    gathers_then _ _ _ _ _ _ _ _ front in_block
