use Rattle.std.proofs.Common.{◌↔◌, map, length}
use Rattle.std.specs.List.{AllByRecursion}
use Rattle.std.specs.String.{string_bytes}
use Rattle.ax_words.specs.Words.{IsPlain}
use Rattle.ax_words.proofs.reading.are_plain.Given as goal

abbrev pub invariant-loop-word : goal.invariant-loop-word
invariant-loop-word l = AllByRecursion IsPlain (map string_bytes l.words) ↔ AllByRecursion IsPlain (map string_bytes l.rest)

abbrev pub decreases-loop-word : goal.decreases-loop-word
decreases-loop-word l = length l.rest
