-- What the cursor over the parts of an extended or closed item has left, and how it goes on.
use Rattle.std.specs.Prelude.{List, drop, map}
use Rattle.ax_format.specs.Tree.{MembersTree}
use Rattle.ax_format.specs.declared.fault.BodyFault.{BodyFault}
use Rattle.ax_fspec.specs.Reading.{FailsAt}
use Rattle.ax_values.specs.Parts.{parts_left, PartsReady, IsPartMet}
use Rattle.ax_values.specs.declared.parts_left.PartsLeft.{PartsLeft}

-- the parts that may still come
abbrev pub later_parts : {P : Type 0} → (P → MembersTree) → PartsLeft P → List MembersTree
later_parts tree left = map tree (drop left.index left.parts.now)

-- they may come where the cursor is
abbrev pub IsReady : {P : Type 0} → (P → MembersTree) → PartsLeft P → Type 0
IsReady tree left = PartsReady left.last left.more (later_parts tree left) left.body.now left.at

-- the first of them is there, and the cursor is behind it
abbrev pub Meets : {P : Type 0} → (P → MembersTree) → PartsLeft P → P → PartsLeft P → Type 0
Meets tree old part new = IsPartMet old.last old.more (later_parts tree old) old.body.now old.at (tree part) new.more (later_parts tree new) new.at

-- reading them fails so
abbrev pub MeetsFault : {P : Type 0} → (P → MembersTree) → PartsLeft P → BodyFault → Type 0
MeetsFault tree left fault = FailsAt (parts_left left.last left.more (later_parts tree left) left.body.now left.at) left.at fault
