use Rattle.std.proofs.Common.{◌≡◌, ◌≤◌, rules}
use Rattle.ax_tokens.specs.declared.token.TokenKind.TheVariants.{Word}
use Rattle.ax_printed_lines.specs.Printed.{Stands}
use Rattle.ax_printed_lines.proofs.Going.{quoted_goes}
use Rattle.ax_printed_lines.proofs.cursor.Cursor.quoted.Goals as goal

pub returns : goal.returns
returns c =
    let stands : Stands Word c.in_ok-text.text.now c.args.self.now.left c.in_ok-text.later.now = search rules in
    let level : c.self.inside.level ≡ c.args.self.now.level = search rules in
    let within : c.args.self.now.level ≤ 20 = search rules in
    λ octets h same. quoted_goes _ _ _ _ octets h c.in_ok-digits.ensures same stands level within
