-- Makers: what is made from a state of the draws, a list of numbers, and the state after it.
use Rattle.std.specs.Prelude.{◌≡◌, ℕ, zero, suc, List, [], ◌++◌}
use Rattle.ax_vectors.specs.Draws.{drawn, next_state}

abbrev pub Maker : Type 0
Maker = ℕ → List ℕ × ℕ

-- this list, without a draw
abbrev pub just : List ℕ → Maker
just list state = (list, state)

-- a list in front of what is made
abbrev pub in_front : List ℕ → List ℕ × ℕ → List ℕ × ℕ
in_front list made = (list ++ made.0, made.1)

-- one after the other
abbrev pub both : Maker → Maker → Maker
both first second state = in_front (first state).0 (second (first state).1)

-- so many times
abbrev pub times : ℕ → Maker → Maker
times zero one = just []
times (suc n) one = both one (times n one)

-- by the answer of a draw
abbrev pub by_draw : (ℕ → Maker) → Maker
by_draw rule state = rule (drawn state) (next_state state)

-- the list was made from the state after what was there, and this is the state after
pub record Adds (maker : Maker) (old new : List ℕ) (state after : ℕ) : Type 0 where
  pub list : new ≡ old ++ (maker state).0
  pub left : after ≡ (maker state).1
