-- Where the number of a place stands in an item of fixed octets.
use Rattle.std.specs.Prelude.{◌≡◌, ℕ, ◌-◌, get_or}
use Rattle.ax_format.specs.Tree.{FixedTree, element, fixed}
use Rattle.ax_format.specs.declared.content.Content.TheVariants.{Raw}
use Rattle.ax_format.specs.declared.place.Place.{Place}
use Rattle.ax_codec.specs.Meaning.{meanings, linked, fixed_of}
use Rattle.ax_codec.specs.Table.{kind_at}
use Rattle.ax_codec.specs.declared.codec.Codec.{Codec}
use Rattle.ax_walk.specs.Spots.{FindsFixed}
use Rattle.ax_walk.specs.declared.fixed_spot.FixedSpot.{FixedSpot}

-- the link of a slot of records
abbrev pub slot_link : Codec → ℕ → ℕ
slot_link codec frn = get_or codec.slots (frn - 1) 0

-- the fixed kind of a link
abbrev pub fixed_at : Codec → ℕ → FixedTree
fixed_at codec link = fixed_of (linked (meanings codec.nodes) link)

-- the place's item is of a fixed kind, in which the steps lead to a number of so many bits, from that bit on
pub record IsFixedSpot (codec : Codec) (place : Place) (spot : FixedSpot) : Type 0 where
  pub item : kind_at codec.nodes (slot_link codec place.frn) ≡ fixed (fixed_at codec (slot_link codec place.frn))
  pub last : ℕ
  pub finds : FindsFixed codec.nodes (fixed_at codec (slot_link codec place.frn)) 0 place.steps last spot.bit
  pub number : fixed_at codec last ≡ element spot.width Raw
