use Rattle.std.proofs.Common.{◌≡◌, ◌≤◌, rules}
use Rattle.ax_tokens.specs.declared.token.TokenKind.TheVariants.{Word}
use Rattle.ax_printed_lines.specs.Printed.{Stands}
use Rattle.ax_printed_lines.proofs.Going.{category_goes}
use Rattle.ax_printed_lines.proofs.cursor.Cursor.category.Goals as goal

pub returns-clause-goes : goal.returns-clause-goes
returns-clause-goes c =
    let stands : Stands Word c.in_ok-digits.digits.now c.args.self.now.left c.in_ok-digits.later.now = search rules in
    let level : c.self.inside.level ≡ c.args.self.now.level = search rules in
    let within : c.args.self.now.level ≤ 20 = search rules in
    category_goes _ _ _ _ c.in_ok-category.ensures.0 c.in_ok-category.ensures.1 stands level within
