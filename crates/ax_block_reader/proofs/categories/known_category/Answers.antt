use Rattle.std.proofs.Common.{rules, ◌≡◌, Some, slice_get}
use Rattle.ax_format.specs.Plain.{spec_tree}
use Rattle.ax_block_reader.proofs.Digits.{first_known}
use Rattle.ax_block_reader.proofs.categories.known_category.Goals as goal

pub returns : goal.returns
returns c =
    let first : slice_get c.args.items.now 0 ≡ Some c.in_ok-first.first.now = search rules in
    let known = first_known c.args.items.now c.in_ok-first.first.now first in
    rw c.category_in.ensures.value (c.category_in.ensures.octet, (spec_tree c.in_ok-first.first.now, known))
