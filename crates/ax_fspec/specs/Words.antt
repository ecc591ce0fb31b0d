-- The two numbers of a set of marks.
use Rattle.std.proofs.Common.{◌≡◌, ℕ, ◌^◌, ◌<◌, take, drop, ◌∙◌, ap}
use Rattle.std.proofs.lemmas.List.{take_at, drop_at}
use Rattle.ax_bits.specs.Bits.{word, number_of}
use Rattle.ax_bits.proofs.Pieces.{number-word}
use Rattle.ax_bits.proofs.Words.{length-word}
use Rattle.ax_fspec.specs.Marks.{half, marks_in}

pub first_number : (a b : ℕ) → a < 2 ^ 63 → number_of (take 63 (marks_in a b)) ≡ a
unfolding half
first_number a b h = ap number_of (take_at (word 63 a) (word 63 b) 63 (length-word 63 a)) ∙ number-word 63 a h

pub second_number : (a b : ℕ) → b < 2 ^ 63 → number_of (drop 63 (marks_in a b)) ≡ b
unfolding half
second_number a b h = ap number_of (drop_at (word 63 a) (word 63 b) 63 (length-word 63 a)) ∙ number-word 63 b h
