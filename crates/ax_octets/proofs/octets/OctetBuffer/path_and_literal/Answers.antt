use Rattle.std.proofs.Common.{◌∙◌, ◌++◌, ap, arith}
use Rattle.std.proofs.lemmas.Grind.{common_steps}
use Rattle.ax_octets.proofs.Places.{Placed-then, Placed-view, Placed-short}
use Rattle.ax_octets.proofs.octets.OctetBuffer.path_and_literal.Goals as goal

pub returns-clause-appended : goal.returns-clause-appended
returns-clause-appended c =
    let view = c.as_mut_slice-area.ensures in
    Placed-view _ _ (c.make_room.ensures.stays ∙ ap (λ v. v.octets) c.self.view_is) view.value view.len
    (Placed-then (Placed-short c.path.inside.front c.path.inside.count c.path.view_is (let h = c.if-not-is_empty.ensures in grind (arith, common_steps)) c.place_some-at.ensures) c.place_some-self-inside.ensures)
    ∙ ap (λ xs. c.args.self.now.octets ++ (c.args.path.now ++ xs)) c.literal.view_is
