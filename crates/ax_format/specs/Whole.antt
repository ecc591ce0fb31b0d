-- Kinds whose units are whole octets: a fixed kind, and a part and an occurrence with its FX bit, at every depth.
use Rattle.std.specs.Prelude.{◌≡◌, ◌+◌, ◌%◌, List, [], ◌∷◌, length}
use Rattle.ax_format.specs.Tree.{MembersTree, KindTree, fixed, extended, counted, by_fx, explicit, compound, SlotsTree, no_slots, slot_and, spare_slot, subitem}
use Rattle.ax_format.specs.Widths.{width, members_width, fx_width}
use Rattle.ax_format.specs.declared.kind.LastPart.{LastPart}

abbrev pub PartsWhole : LastPart → List MembersTree → Type 0
PartsWhole last [] = Unit {0}
PartsWhole last (p ∷ ps) = ((members_width p + fx_width last (length ps)) % 8 ≡ 0) × PartsWhole last ps

abbrev mutual
  pub Whole : KindTree → Type 0
  Whole (fixed f) = width f % 8 ≡ 0
  Whole (extended last ps) = PartsWhole last ps
  Whole (counted size k) = Whole k
  Whole (by_fx f) = (width f + 1) % 8 ≡ 0
  Whole explicit = Unit {0}
  Whole (compound ss) = SlotsWhole ss

  pub SlotsWhole : SlotsTree → Type 0
  SlotsWhole no_slots = Unit {0}
  SlotsWhole (slot_and spare_slot ss) = SlotsWhole ss
  SlotsWhole (slot_and (subitem name k) ss) = Whole k × SlotsWhole ss
