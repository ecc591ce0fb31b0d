-- The line for an accepted category file (this project's own rule).
use Rattle.std.specs.Prelude.{ℕ, List, ◌++◌, length, codes, decimal}
use Rattle.ax_format.specs.Specification.{SpecTree}
use Rattle.ax_format.specs.Paths.{three_digits}

-- `accepted CCC "EDITION" items I slots S`
abbrev pub accepted_line : SpecTree → List ℕ
accepted_line spec = codes "accepted " ++ three_digits spec.category ++ codes " \"" ++ spec.edition ++ codes "\" items " ++ decimal (length spec.items) ++ codes " slots " ++ decimal (length spec.uap) ++ codes "\n"
