use Rattle.std.proofs.Common.{ap}
use Rattle.ax_octets.proofs.Places.{Placed-then, Placed-view}
use Rattle.ax_octets.proofs.octets.OctetBuffer.text3.Goals as goal

pub returns-clause-appended : goal.returns-clause-appended
returns-clause-appended c =
    let view = c.as_mut_slice-area.ensures in
    Placed-view c.self.inside.area.items c.self.inside.area.len (ap (λ v. v.octets) c.self.view_is) view.value view.len (Placed-then c.place_text-at.ensures (Placed-then c.place_text-at-2.ensures c.place_text-self-inside.ensures))
