use Rattle.std.proofs.Common.{◌∙◌, ◌++◌, ap, decimal}
use Rattle.ax_octets.proofs.Places.{Placed-then, Placed-view}
use Rattle.ax_octets.proofs.octets.OctetBuffer.number_and_literal.Goals as goal

pub returns-clause-appended : goal.returns-clause-appended
returns-clause-appended c =
    let view = c.as_mut_slice-area.ensures in
    Placed-view _ _ (c.make_room.ensures.stays ∙ ap (λ v. v.octets) c.self.view_is) view.value view.len (Placed-then c.place_decimal-at.ensures.digits c.place_some-self-inside.ensures)
    ∙ ap (λ xs. c.args.self.now.octets ++ (decimal c.args.number ++ xs)) c.literal.view_is
