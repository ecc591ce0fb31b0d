use Rattle.std.proofs.Common.{◌≡◌, ◌≤◌, rules}
use Rattle.ax_printed_lines.proofs.Going.{named_number_goes}
use Rattle.ax_printed_lines.proofs.cursor.Cursor.named_number.Goals as goal

pub returns-clause-some : goal.returns-clause-some
returns-clause-some c =
    let level : c.self.inside.level ≡ c.args.self.now.level = search rules in
    let within : c.args.self.now.level ≤ 20 = search rules in
    named_number_goes _ _ c.args.name.now c.in_ok-following.following.now c.in_ok-number.number c.in_ok-following.ensures.name (search rules) c.in_ok-number.ensures.below c.in_ok-number.ensures.number level within
