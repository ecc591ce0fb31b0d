use Rattle.std.proofs.Common.{◌≡◌, length}
use Rattle.ax_tokens.specs.PlainToken.{plain_tokens}
use Rattle.ax_tokens.specs.Depth.{greatest_excess}
use Rattle.ax_tokens.proofs.Steps.{LexedTo}
use Rattle.ax_tokens.proofs.lexing.token_list.Given as goal

abbrev pub invariant-loop-rest : goal.invariant-loop-rest
invariant-loop-rest l = record { lexed : LexedTo l.text l.depth (plain_tokens l.found.items) l.rest; level : l.level ≡ greatest_excess (plain_tokens l.found.items) }

abbrev pub decreases-loop-rest : goal.decreases-loop-rest
decreases-loop-rest l = length l.rest
