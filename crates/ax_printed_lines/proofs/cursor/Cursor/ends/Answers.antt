use Rattle.std.proofs.Common.{◌≡◌, ◌≤◌, ◌∷◌, rules, arith}
use Rattle.ax_printed_lines.proofs.Going.{octets_none, octet_last}
use Rattle.ax_printed_lines.proofs.cursor.Cursor.ends.Goals as goal

pub returns-in-empty : goal.returns-in-empty
returns-in-empty c =
    let left : c.args.self.now.left ≡ c.in-Some.octet.now ∷ c.in-Some.following.now = search rules in
    let same : c.in-Some.octet.now ≡ 125 = search rules in
    let within : c.args.self.now.level ≤ 20 = search rules in
    let none = octets_none c.after_gap.result.now (omega (arith, c.in-empty.len_below)) in
    λ _. (octet_last c.args.self.now.left c.in-Some.following.now c.after_gap.result.now 125 c.in-Some.octet.now left same c.after_gap.ensures none, within)
