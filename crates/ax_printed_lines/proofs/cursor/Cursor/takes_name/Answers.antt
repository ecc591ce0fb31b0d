use Rattle.std.proofs.Common.{◌≡◌, ◌≤◌, rules}
use Rattle.ax_printed_lines.proofs.Going.{spaced_goes}
use Rattle.ax_printed_lines.proofs.cursor.Cursor.takes_name.Goals as goal

pub returns-in-Some-clause-taken : goal.returns-in-Some-clause-taken
returns-in-Some-clause-taken c =
    let level : c.self.inside.level ≡ c.args.self.now.level = search rules in
    let within : c.args.self.now.level ≤ 20 = search rules in
    λ _. spaced_goes _ _ c.args.name.now c.in-Some.ensures.name (search rules) level within
