-- Lines of elements of few bits, that are made before any is put.
use Rattle.std.specs.Prelude.{ℕ, zero, suc, List, [], ◌∷◌, ◌++◌}
use Rattle.ax_format.specs.Paths.{at}
use Rattle.ax_format.specs.declared.content.Content.{Content}
use Rattle.ax_tokens.specs.Octets.{line_feed}
use Rattle.ax_text_form.specs.Remarks.{remark}
use Rattle.ax_text_form.specs.ShowText.{number_line}

-- the line of an element of that name, of w bits that spell n, without the path above the name
abbrev pub line_end : List ℕ → ℕ → Content → ℕ → List ℕ
line_end name w c n = number_line (at [] name) n ++ remark w c n ++ line_feed ∷ []

-- those of so many numbers, from 0 on
abbrev pub line_ends : List ℕ → ℕ → Content → ℕ → List (List ℕ)
line_ends name w c zero = []
line_ends name w c (suc n) = line_ends name w c n ++ line_end name w c n ∷ []
