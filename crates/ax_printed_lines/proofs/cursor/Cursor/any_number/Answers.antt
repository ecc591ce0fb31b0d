use Rattle.std.proofs.Common.{◌≡◌, ◌≤◌, ◌++◌, decimal, rules}
use Rattle.ax_printed_lines.proofs.Going.{digits_go}
use Rattle.ax_printed_lines.proofs.cursor.Cursor.any_number.Goals as goal

pub returns : goal.returns
returns c =
    let left : c.args.self.now.left ≡ decimal c.in_ok-number.number ++ c.in_ok-number.following.now = search rules in
    let level : c.self.inside.level ≡ c.args.self.now.level = search rules in
    let within : c.args.self.now.level ≤ 20 = search rules in
    digits_go _ _ c.in_ok-number.number c.in_ok-number.following.now c.in_ok-number.ensures.below left c.in_ok-later.ensures.gap c.in_ok-later.ensures.ended level within
