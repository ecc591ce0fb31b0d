use Rattle.std.proofs.Common.{◌≡◌, nat_lt, Some, ◌∙◌, ap, rules}
use Rattle.ax_relation.proofs.FirstLists.{has_part_is, lists_value}
use Rattle.ax_format.specs.Plain.{value_tree}
use Rattle.ax_relation.proofs.standing.has_part.Goals as goal

pub returns-in-Some-Extended : goal.returns-in-Some-Extended
returns-in-Some-Extended c =
    let part : c.args.part ≡ Some c.in-Some-Extended.number = search rules in
    let value = lists_value c.args.value.now c.in-Some-Extended.lists c.in-Some-Extended.is-1 in
    ap (λ n. nat_lt c.in-Some-Extended.number n) c.count.ensures ∙ has_part_is c.in-Some-Extended.number c.args.part (value_tree c.args.value.now) c.in-Some-Extended.lists part value
