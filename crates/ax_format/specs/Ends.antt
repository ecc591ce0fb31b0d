-- The blocks of an input under a catalogue, and its end: the end of framing, or the first fault of a body.
use Rattle.std.specs.Prelude.{◌≡◌, ℕ, ◌+◌, List, [], ◌∷◌, ◌++◌, length, Some}
use Rattle.ax_bits.specs.Bits.{bits}
use Rattle.ax_format.specs.Blocks.{BlockTree, IsFramed, SpellsBlock}
use Rattle.ax_format.specs.Bodies.{FailsBody}
use Rattle.ax_format.specs.Framing.{RawTree, FramingEnd, Framed}
use Rattle.ax_format.specs.Specification.{SpecTree, spec_of}
use Rattle.ax_format.specs.declared.fault.BodyCause.{BodyCause}

-- the octets of this block spell that one
pub record RawSpells (catalogue : List SpecTree) (raw : RawTree) (block : BlockTree) : Type 0 where
  pub octets : List ℕ
  pub framed : IsFramed raw.category raw.body octets
  pub spelled : SpellsBlock catalogue block octets

abbrev pub RawsSpell : List SpecTree → List RawTree → List BlockTree → Type 0
RawsSpell catalogue [] [] = Unit {0}
RawsSpell catalogue [] (block ∷ blocks) = ⊥
RawsSpell catalogue (raw ∷ raws) [] = ⊥
RawsSpell catalogue (raw ∷ raws) (block ∷ blocks) = RawSpells catalogue raw block × RawsSpell catalogue raws blocks

-- the body fails at this bit of the body, under the specification of its category
pub record RawFails (catalogue : List SpecTree) (raw : RawTree) (p : ℕ) (c : BodyCause) : Type 0 where
  pub spec : SpecTree
  pub known : spec_of raw.category catalogue ≡ Some spec
  pub fails : FailsBody spec (bits raw.body) p c

-- how an input ends: as framing does, in the block after those that were taken; or by a fault of a body, in the block
-- of this number, from 0, at this bit of the block
pub data InputEnd : Type 0 where
  by_framing : FramingEnd → InputEnd
  by_body : ℕ → ℕ → BodyCause → InputEnd

-- all blocks of the input spell, and it ends as framing does
pub record EndsByFraming (catalogue : List SpecTree) (octets : List ℕ) (limit : ℕ) (blocks : List BlockTree) (end : FramingEnd) : Type 0 where
  pub raws : List RawTree
  pub framed : Framed octets limit raws end
  pub spelled : RawsSpell catalogue raws blocks

-- the blocks before one spell, and the body of that one fails
pub record EndsByBody (catalogue : List SpecTree) (octets : List ℕ) (limit : ℕ) (blocks : List BlockTree) (number bit : ℕ) (c : BodyCause) : Type 0 where
  pub before : List RawTree
  pub bad : RawTree
  pub after : List RawTree
  pub end : FramingEnd
  pub framed : Framed octets limit (before ++ bad ∷ after) end
  pub spelled : RawsSpell catalogue before blocks
  pub place : ℕ
  pub fails : RawFails catalogue bad place c
  pub counted : number ≡ length before
  pub header : bit ≡ 24 + place

abbrev pub Ends : List SpecTree → List ℕ → ℕ → List BlockTree → InputEnd → Type 0
Ends catalogue octets limit blocks (by_framing end) = EndsByFraming catalogue octets limit blocks end
Ends catalogue octets limit blocks (by_body number bit c) = EndsByBody catalogue octets limit blocks number bit c
