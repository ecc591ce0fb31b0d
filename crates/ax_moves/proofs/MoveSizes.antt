-- How many moves there are in moves, those below them among them: so a walk down them ends.
use Rattle.std.proofs.Common.{◌≡◌, ℕ, zero, suc, ◌+◌, ◌<◌, ◌≤◌, List, [], ◌∷◌, length, get_or, ap, arith}
use Rattle.ax_relation.specs.Moves.{MoveTree, move_from, MovesTree, no_moves, move_and}
use Rattle.ax_relation.specs.PlainMoves.{move_tree, moves_tree}
use Rattle.ax_relation.specs.declared.moves.Move.{Move, out-Move}
use Rattle.ax_moves.proofs.Entries.{move_is}

abbrev mutual
  pub move_size : MoveTree → ℕ
  move_size (move_from s t c below) = suc (moves_size below)

  pub moves_size : MovesTree → ℕ
  moves_size no_moves = 0
  moves_size (move_and m ms) = move_size m + moves_size ms

pub below_less : (m : Move) → moves_size (moves_tree (out-Move m).below) < move_size (move_tree m)
below_less m = let e = ap move_size (move_is m) in omega (arith, e)

pub member_less : (ms : List Move) (i : ℕ) (m : Move) → i < length ms → m ≡ get_or ms i m → move_size (move_tree m) ≤ moves_size (moves_tree ms)
member_less [] i m within is = absurd (omega (arith, within))
member_less (x ∷ ms) zero m within is = let e = ap (λ y. move_size (move_tree y)) is in omega (arith, e)
member_less (x ∷ ms) (suc i) m within is = let h = member_less ms i m (omega (arith, within)) is in omega (arith, h)
