use Rattle.std.proofs.Common.{◌≡◌, ◌≤◌, ◌∙◌, length, take, ap, rules}
use Rattle.ax_tokens.specs.declared.token.TokenKind.TheVariants.{Word}
use Rattle.ax_printed_lines.specs.Printed.{Stands}
use Rattle.ax_printed_lines.proofs.Going.{name_goes}
use Rattle.ax_printed_lines.proofs.cursor.Cursor.takes_any_name.Goals as goal

pub returns-clause-taken : goal.returns-clause-taken
returns-clause-taken c =
    let stands : Stands Word c.in-Some.field-0-0.now c.args.self.now.left c.in-Some.later.now = search rules in
    let size : length c.in-Some.field-0-0.now ≡ length c.args.name.now = c.in-Some.ensures.count ∙ ap length c.octets-count.ensures.octets in
    let front : take (length c.args.name.now) c.args.self.now.left ≡ c.args.name.now = search rules in
    let level : c.self.inside.level ≡ c.args.self.now.level = search rules in
    let within : c.args.self.now.level ≤ 20 = search rules in
    λ _. name_goes _ _ c.args.name.now c.in-Some.field-0-0.now c.octets-count.ensures.name stands size front level within
