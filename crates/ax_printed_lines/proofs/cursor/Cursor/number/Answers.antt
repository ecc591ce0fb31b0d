use Rattle.std.proofs.Common.{◌≡◌, ◌≤◌, decimal, rules, subst, sym}
use Rattle.ax_tokens.specs.declared.token.TokenKind.TheVariants.{Word}
use Rattle.ax_printed_lines.specs.Printed.{Stands}
use Rattle.ax_printed_lines.proofs.Going.{standing_goes}
use Rattle.ax_printed_lines.proofs.cursor.Cursor.number.Goals as goal

pub returns-in-Some : goal.returns-in-Some
returns-in-Some c =
    let left : c.args.self.now.left ≡ c.self.inside.rest.now = search rules in
    let level : c.self.inside.level ≡ c.args.self.now.level = search rules in
    let within : c.args.self.now.level ≤ 20 = search rules in
    let stands : Stands Word (decimal c.in-Some.found.0) c.args.self.now.left c.in-Some.found.1.now = subst (λ l. Stands Word (decimal c.in-Some.found.0) l c.in-Some.found.1.now) (sym left) c.in-Some.ensures.number in
    standing_goes _ _ c.in-Some.found.0 c.in-Some.ensures.below stands level within
