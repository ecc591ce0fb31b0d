use Rattle.std.proofs.Common.{◌≡◌, List, length, map, take, arith, subst, sym}
use Rattle.std.proofs.lemmas.List.{length-map, take-map}
use Rattle.ax_format.specs.Tree.{SlotTree}
use Rattle.ax_fspec.specs.Reading.{IsMaskOf}
use Rattle.ax_held_kinds.proofs.Masks.{front_marks}
use Rattle.ax_held_kinds.proofs.fields.read_field.Goals as goal

pub returns-in-Ok-clause-ok : goal.returns-in-Ok-clause-ok
returns-in-Ok-clause-ok g c =
    let slots : List SlotTree = map g.S.PresenceSlot.tree c.args.slots.now in
    let size : length slots ≡ length c.args.slots.now = length-map c.args.slots.now g.S.PresenceSlot.tree in
    let front = c.min-front.result in
    let mask : IsMaskOf (take front slots) c.mask_of.result = subst (λ slots. IsMaskOf slots c.mask_of.result) (sym (take-map g.S.PresenceSlot.tree front c.args.slots.now)) c.mask_of.ensures in
    front_marks slots front c.mask_of.result c.args.body.now c.read_presence.new.into c.args.at c.in-Ok.end (omega (arith, c.requires.slots.0, size)) (omega (arith, c.requires.slots.1, size)) mask c.in-Ok.ensures.ok
