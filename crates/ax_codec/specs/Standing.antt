-- The specifications that a codec stands for, and codecs by category.
use Rattle.std.specs.Prelude.{ℕ, ◌==◌, List, [], ◌∷◌, find, Option}
use Rattle.ax_format.specs.Flaws.{NoFlaw}
use Rattle.ax_format.specs.Specification.{SpecTree}
use Rattle.ax_codec.specs.Bare.{IsTableFor}
use Rattle.ax_codec.specs.declared.codec.Codec.{Codec}

-- Titles and names are no part of a codec, so it stands for each specification of the same layout. A clause on a codec's
-- specification holds for each one without flaw that it stands for.
abbrev pub StandsFor : Codec → SpecTree → Type 0
StandsFor codec spec = IsTableFor codec.category codec.slots codec.nodes spec

-- the codec stands for that specification, which has no flaw
pub record IsCompiled (codec : Codec) (spec : SpecTree) : Type 0 where
  pub stands : StandsFor codec spec
  pub clean : NoFlaw spec

-- one codec for each specification, in order
abbrev pub StandForEach : List Codec → List SpecTree → Type 0
StandForEach [] [] = Unit {0}
StandForEach [] (spec ∷ specs) = ⊥
StandForEach (codec ∷ codecs) [] = ⊥
StandForEach (codec ∷ codecs) (spec ∷ specs) = IsCompiled codec spec × StandForEach codecs specs

-- the codec of a category, where there is one
abbrev pub codec_of : ℕ → List Codec → Option Codec
codec_of category codecs = find (λ codec. codec.category == category) codecs
