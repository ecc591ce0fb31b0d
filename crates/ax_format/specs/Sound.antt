-- Sound kinds: each extended kind has a part, and each compound a slot, at every depth. Without that it neither spells nor fails.
use Rattle.std.specs.Prelude.{◌<◌, length}
use Rattle.ax_format.specs.Tree.{KindTree, fixed, extended, counted, by_fx, explicit, compound, SlotsTree, no_slots, slot_and, spare_slot, subitem, slot_count}

abbrev mutual
  pub Sound : KindTree → Type 0
  Sound (fixed f) = Unit {0}
  Sound (extended last ps) = 0 < length ps
  Sound (counted size k) = Sound k
  Sound (by_fx f) = Unit {0}
  Sound explicit = Unit {0}
  Sound (compound ss) = (0 < slot_count ss) × SlotsSound ss

  pub SlotsSound : SlotsTree → Type 0
  SlotsSound no_slots = Unit {0}
  SlotsSound (slot_and spare_slot ss) = SlotsSound ss
  SlotsSound (slot_and (subitem name k) ss) = Sound k × SlotsSound ss
