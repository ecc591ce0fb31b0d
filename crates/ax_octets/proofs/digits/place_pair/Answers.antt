use Rattle.ax_octets.proofs.Decimals.{pair_at, pair_placed}
use Rattle.ax_octets.proofs.digits.place_pair.Goals as goal

pub returns : goal.returns
returns c =
    let pair = pair_at c.args.number c.requires.1 in
    pair_placed c.args.number pair.0 pair.1 c.place_octet-at.ensures c.place_octet.ensures
