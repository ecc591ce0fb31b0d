-- The generator of numbers: a state below 2^64, and what a draw from it answers.
use Rattle.std.specs.Prelude.{ℕ, ◌+◌, ◌*◌, ◌/◌, ◌%◌, ◌^◌}

-- the state after a draw
unfoldable pub next_state : ℕ → ℕ
next_state state = (state * 6364136223846793005 + 1442695040888963407) % 2 ^ 64

-- what a draw answers: the high 32 bits of the state after it
unfoldable pub drawn : ℕ → ℕ
drawn state = next_state state / 2 ^ 32
