use Rattle.std.proofs.Common.{map, rules}
use Rattle.ax_format.specs.Plain.{part_tree, lists_tree}
use Rattle.ax_text_form.specs.ShowText.{parts_lines}
use Rattle.ax_text.proofs.ListedValues.{parts_first, part_next}
use Rattle.ax_text.proofs.kinds.list_parts.Goals as goal

pub loop-part-init : goal.loop-part-init
loop-part-init c = parts_first c.args.path.now c.args.parts.now _ c.args.lists.now _ c.args.lister.now.out.octets (search rules) (search rules) c.requires.listable c.requires.shape

pub loop-part-preserved : goal.loop-part-preserved
loop-part-preserved c =
    let steps = c.in-Some.ensures.steps in
    part_next c.args.path.now (parts_lines (map part_tree c.args.parts.now) c.args.path.now (lists_tree c.args.lists.now)) c.args.lister.now.out.octets c.loop-part.lister.out.octets c.list_members.new.lister.out.octets c.in-Some.part.now
    c.loop-part.part-iterator.a.rest.now c.next.new.self.a.rest.now c.in-Some.values.now c.loop-part.part-iterator.b.rest.now c.next.new.self.b.rest.now c.loop-part.invariant steps.0 steps.1 c.in_ok-list_members.ensures
