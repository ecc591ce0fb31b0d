use Rattle.std.proofs.Common.{ap, ◌∙◌}
use Rattle.ax_octets.proofs.Places.{Placed-then, Placed-view}
use Rattle.ax_octets.proofs.octets.OctetBuffer.decimals.Goals as goal

pub returns-clause-appended : goal.returns-clause-appended
returns-clause-appended c =
    let view = c.as_mut_slice-area.ensures in
    Placed-view _ _ (c.make_room.ensures.stays ∙ ap (λ v. v.octets) c.self.view_is) view.value view.len
    (Placed-then c.place_decimal-at.ensures.digits (Placed-then c.place_octet-at.ensures c.place_decimal-self-inside.ensures.digits))
