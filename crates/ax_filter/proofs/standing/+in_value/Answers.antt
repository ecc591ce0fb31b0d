use Rattle.std.proofs.Common.{rules}
use Rattle.ax_format.specs.Plain.{value_tree, lists_tree}
use Rattle.ax_filter.proofs.PlaceValues.{into_part, parts_tree}
use Rattle.ax_filter.proofs.standing.+in_value.Goals as goal

pub returns-in_ok-in_part-in-Extended : goal.returns-in_ok-in_part-in-Extended
returns-in_ok-in_part-in-Extended t c =
    into_part c.args.steps.now c.in-Some.later.now c.in_ok-member-in-Extended.inner.now c.in-Some.first.now c.in_ok-member-in-Extended.member.now (value_tree c.args.value.now) (value_tree c.in_ok-in_part-in-Extended.field-0.now) (lists_tree c.in-Extended.lists) _
    (search rules) (search rules) (parts_tree _ _ c.in-Extended.is) (search rules) c.in_value-in-Extended.ensures
