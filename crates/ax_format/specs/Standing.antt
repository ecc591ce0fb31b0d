-- The kinds that stand in a specification: as an item, a subitem or a counted body, at every depth.
use Rattle.std.specs.Prelude.{◌≡◌, ◌⊎◌, List, [], ◌∷◌}
use Rattle.ax_format.specs.Specification.{ItemTree, SpecTree}
use Rattle.ax_format.specs.Tree.{KindTree, fixed, extended, counted, by_fx, explicit, compound, SlotsTree, no_slots, slot_and, spare_slot, subitem}

abbrev mutual
  -- the second kind is the first, or stands within it
  pub Within : KindTree → KindTree → Type 0
  Within (counted size k) inner = (inner ≡ counted size k) ⊎ Within k inner
  Within (compound ss) inner = (inner ≡ compound ss) ⊎ SlotsWithin ss inner
  Within (fixed f) inner = inner ≡ fixed f
  Within (extended last ps) inner = inner ≡ extended last ps
  Within (by_fx f) inner = inner ≡ by_fx f
  Within explicit inner = inner ≡ explicit

  pub SlotsWithin : SlotsTree → KindTree → Type 0
  SlotsWithin no_slots inner = ⊥
  SlotsWithin (slot_and spare_slot ss) inner = SlotsWithin ss inner
  SlotsWithin (slot_and (subitem name k) ss) inner = Within k inner ⊎ SlotsWithin ss inner

abbrev pub ItemsHold : List ItemTree → KindTree → Type 0
ItemsHold [] k = ⊥
ItemsHold (item ∷ items) k = Within item.kind k ⊎ ItemsHold items k

-- an item of the specification is or contains the kind
pub record StandsIn (spec : SpecTree) (k : KindTree) : Type 0 where
  pub items : ItemsHold spec.items k
