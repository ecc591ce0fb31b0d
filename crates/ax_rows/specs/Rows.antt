-- Rows: what a presence octet with given marks says of the octets after it, as steps.
use Rattle.std.specs.Prelude.{◌≡◌, ℕ, zero, suc, ◌+◌, ◌-◌, ◌*◌, ◌/◌, ◌%◌, ◌<◌, ◌≤◌, List, [], ◌∷◌, ◌++◌, length, drop, get_or}
use Rattle.ax_fspec.specs.Marks.{seven}
use Rattle.ax_format.specs.Presence.{octets_needed}
use Rattle.ax_rows.specs.declared.slot_rows.SlotRows.{SlotRows}
use Rattle.ax_rows.specs.declared.step.Step.{Step}

-- Of each slot there is a link: 0 of a spare slot, and else 1 more than the number of its node. Of each node there is the number
-- of the octets of its kind where that is fixed, and else 0.

-- the row ends after so many octets
abbrev pub ending : ℕ → List Step
ending skip = record { skip = skip; link = 0 } ∷ []

-- a marked slot of that many octets, or of 0 where its kind isn't fixed; `go` is the row of the slots after it
abbrev pub slot_steps : ℕ → ℕ → ℕ → (ℕ → List Step) → List Step
slot_steps zero link skip go = record { skip = skip; link = link } ∷ go 0
slot_steps (suc n) link skip go = go (skip + suc n)

-- a marked slot of that many octets adds its steps to these, where so many octets before it are to be passed over, and so many after it
abbrev pub AddsSlot : ℕ → ℕ → ℕ → List Step → List Step → ℕ → Type 0
AddsSlot run link skip old new now = (go : ℕ → List Step) → new ++ go now ≡ old ++ slot_steps run link skip go

abbrev pub mark_steps : ℕ → ℕ → ℕ → ℕ → (ℕ → List Step) → List Step
mark_steps zero octets link skip go = go skip
mark_steps (suc m) octets link skip go = slot_steps octets link skip go

-- the steps over the values of the marked ones of these slots, where so many octets before them are still to be passed over
abbrev pub row_of : List ℕ → List ℕ → List ℕ → ℕ → List Step
row_of octets [] ms skip = ending skip
row_of octets (link ∷ links) [] skip = ending skip
row_of octets (link ∷ links) (m ∷ ms) skip = mark_steps m (get_or octets (link - 1) 0) link skip (row_of octets links ms)

-- the first of the slots is there and isn't spare, and has at most 65,535 octets where its kind is fixed
abbrev pub CanBeMarked : List ℕ → List ℕ → Type 0
CanBeMarked octets [] = ⊥
CanBeMarked octets (link ∷ links) = (0 < link) × (get_or octets (link - 1) 0 ≤ 65535)

-- the slots that have a row with these marks: each marked one can be marked
abbrev pub HaveRow : List ℕ → List ℕ → List ℕ → Type 0
HaveRow octets links [] = Unit {0}
HaveRow octets links (zero ∷ ms) = HaveRow octets (drop 1 links) ms
HaveRow octets links (suc m ∷ ms) = CanBeMarked octets links × HaveRow octets (drop 1 links) ms

abbrev pub no_step : Step
no_step = record { skip = 0; link = 0 }

-- the row stands among the steps, from that place on
abbrev pub Stands : List Step → ℕ → List Step → Type 0
Stands steps i [] = Unit {0}
Stands steps i (one ∷ row) = (i < length steps) × (get_or steps i no_step ≡ one) × Stands steps (suc i) row

-- the last steps, those from `first` on, stand at that place too, before themselves
pub record StandsBefore (steps : List Step) (place first : ℕ) : Type 0 where
  pub before : place + (length steps - first) ≤ first
  pub stands : Stands steps place (drop first steps)

-- no row
abbrev pub no_row : ℕ
no_row = 4294967295

-- the row of slots with these marks begins at that step
pub record IsRow (octets links marks : List ℕ) (steps : List Step) (first : ℕ) : Type 0 where
  pub has : HaveRow octets links marks
  pub stands : Stands steps first (row_of octets links marks 0)

-- where the row begins, or that there is none
pub record IsRowIfAny (octets links marks : List ℕ) (steps : List Step) (first : ℕ) : Type 0 where
  pub some : (first ≡ no_row → ⊥) → IsRow octets links marks steps first
  pub none : first ≡ no_row → HaveRow octets links marks → ⊥

-- at place 128 i + v, for presence octet i with the marks v: where the row of its slots begins
pub record EachRow (octets links start : List ℕ) (steps : List Step) : Type 0 where
  pub rows : (j : ℕ) → j < length start → IsRowIfAny octets (drop (7 * (j / 128)) links) (seven (j % 128)) steps (get_or start j 0)

-- so for each presence octet that the slots need, and all marks in it
pub record AreRows (octets links start : List ℕ) (steps : List Step) : Type 0 where
  pub size : length start ≡ 128 * octets_needed (length links)
  pub each : EachRow octets links start steps

abbrev pub AreRowsOf : List ℕ → SlotRows → Type 0
AreRowsOf octets r = AreRows octets r.slots.items r.start.items r.steps.items

-- what was appended to the list, if anything, stood nowhere in it from that place on
pub record AddsOnce (from : ℕ) (old new : List Step) : Type 0 where
  pub row : List Step
  pub grown : new ≡ old ++ row
  pub once : 0 < length row → (place : ℕ) → from ≤ place → place + length row ≤ length old → Stands old place row → ⊥

-- the list goes on after another
pub record Extends (old new : List Step) : Type 0 where
  pub more : List Step
  pub grown : new ≡ old ++ more
