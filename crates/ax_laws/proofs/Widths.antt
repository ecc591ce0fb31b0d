-- Widths of nine digits and of ten.
use Rattle.std.proofs.Common.{◌≡◌, List, [], ◌∷◌, refl}
use Rattle.std.specs.Prelude.{codes, Ok, Err}
use Rattle.ax_grammar.specs.Rules.{width_at}
use Rattle.ax_grammar.specs.Tests.{number_of}

pub nine : width_at (codes "999999999" ∷ []) ≡ Ok (999999999, [])
unfolding number_of
nine = refl

pub ten : width_at (codes "1000000000" ∷ []) ≡ Err (codes "1000000000" ∷ [])
unfolding number_of
ten = refl
