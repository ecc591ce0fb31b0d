-- Where the names that slot numbers lead through in the one edition lead in the other.
use Rattle.std.specs.Prelude.{ℕ, zero, suc, if◌then◌else◌, List, [], ◌∷◌, Option, Some, None, option_map, option_and_then}
use Rattle.ax_format.specs.Naming.{slot_named}
use Rattle.ax_format.specs.Placed.{place_from}
use Rattle.ax_format.specs.Specification.{SpecTree, record_kind}
use Rattle.ax_format.specs.Tree.{KindTree, compound, SlotTree, SlotsTree, no_slots, slot_and, spare_slot, subitem}
use Rattle.ax_format.specs.declared.place.Place.{Place}
use Rattle.ax_rescale.specs.Alike.{is_alike}

-- ---- slots by number

abbrev pub named_in : SlotTree → Option (List ℕ × KindTree)
named_in spare_slot = None
named_in (subitem name k) = Some (name, k)

-- the name and the kind of the slot after n others
abbrev pub nth_named : ℕ → SlotsTree → Option (List ℕ × KindTree)
nth_named n no_slots = None
nth_named zero (slot_and m ss) = named_in m
nth_named (suc n) (slot_and m ss) = nth_named n ss

-- slots are numbered from 1
abbrev pub slot_numbered : ℕ → SlotsTree → Option (List ℕ × KindTree)
slot_numbered zero ss = None
slot_numbered (suc n) ss = nth_named n ss

-- ---- one step, and all

-- the new slot's number, and the kinds below
pub record StepBeside : Type 0 where
  pub number : ℕ
  pub old : KindTree
  pub new : KindTree

abbrev pub found_beside : KindTree → ℕ × KindTree → StepBeside
found_beside k t = record { number = t.0; old = k; new = t.1 }

abbrev pub step_between : ℕ → SlotsTree → SlotsTree → Option StepBeside
step_between s ss ts = option_and_then (λ o. option_map (found_beside o.1) (slot_named 1 o.0 ts)) (slot_numbered s ss)

abbrev pub step_beside : ℕ → KindTree → KindTree → Option StepBeside
step_beside s (compound ss) (compound ts) = step_between s ss ts
step_beside s _ _ = None

-- the numbers of the new slots, and the kinds at the end
pub record Beside : Type 0 where
  pub numbers : List ℕ
  pub old : KindTree
  pub new : KindTree

abbrev pub beside_under : ℕ → Beside → Beside
beside_under n b = record { numbers = n ∷ b.numbers; old = b.old; new = b.new }

abbrev pub beside : List ℕ → KindTree → KindTree → Option Beside
beside [] k l = Some (record { numbers = []; old = k; new = l })
beside (s ∷ steps) k l = option_and_then (λ b. option_map (beside_under b.number) (beside steps b.old b.new)) (step_beside s k l)

-- ---- paths that can be converted

abbrev pub alike_where : Beside → Option Place
alike_where b = if is_alike b.old b.new then Some (place_from b.numbers) else None

-- the place in the second kind to which the place in the first one leads, where the kinds at both are alike
abbrev pub alike_between : KindTree → KindTree → Place → Option Place
alike_between k l place = option_and_then alike_where (beside (place.frn ∷ place.steps) k l)

-- the new edition's place, where the kinds at the old one's place and there are alike
abbrev pub alike_place : SpecTree → SpecTree → Place → Option Place
alike_place old new place = alike_between (record_kind old) (record_kind new) place
