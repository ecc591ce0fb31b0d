-- Members, subitems and slots of the user application profile (UAP) by name: the first of a name, with its number.
use Rattle.std.specs.Prelude.{ℕ, ◌+◌, Bool, false, if◌then◌else◌, List, [], ◌∷◌, bytes_eq, Option, Some, None}
use Rattle.ax_format.specs.Tree.{FixedTree, MembersTree, no_members, member_and, MemberTree, named, spare, KindTree, SlotsTree, no_slots, slot_and, SlotTree, spare_slot, subitem}
use Rattle.ax_format.specs.declared.spec.UapSlot.{UapSlot}
use Rattle.ax_format.specs.declared.spec.UapSlot.TheVariants as Uap

-- what is here has the number n, or else there is what comes later
abbrev pub found_or : {A : Type 0} → Option A → ℕ → Option (ℕ × A) → Option (ℕ × A)
found_or None n later = later
found_or (Some here) n later = Some (n, here)

abbrev pub fixed_named : List ℕ → MemberTree → Option FixedTree
fixed_named name (spare w) = None
fixed_named name (named own f) = if bytes_eq own name then Some f else None

-- among members of which the first has the number n
abbrev pub member_named : ℕ → List ℕ → MembersTree → Option (ℕ × FixedTree)
member_named n name no_members = None
member_named n name (member_and m ms) = found_or (fixed_named name m) n (member_named (n + 1) name ms)

-- among the members of parts of which the first has the number n; members are numbered from 0 in each part
abbrev pub part_named : ℕ → List ℕ → List MembersTree → Option (ℕ × (ℕ × FixedTree))
part_named n name [] = None
part_named n name (p ∷ ps) = found_or (member_named 0 name p) n (part_named (n + 1) name ps)

abbrev pub kind_named : List ℕ → SlotTree → Option KindTree
kind_named name spare_slot = None
kind_named name (subitem own k) = if bytes_eq own name then Some k else None

-- among slots of which the first has the number n
abbrev pub slot_named : ℕ → List ℕ → SlotsTree → Option (ℕ × KindTree)
slot_named n name no_slots = None
slot_named n name (slot_and s ss) = found_or (kind_named name s) n (slot_named (n + 1) name ss)

abbrev pub is_slot_of : List ℕ → UapSlot → Bool
is_slot_of name Uap.Spare = false
is_slot_of name (Uap.Item own) = bytes_eq own name

-- the number of the first slot of the UAP with that name, where the first of these slots has the number n
abbrev pub frn_of : ℕ → List ℕ → List UapSlot → Option ℕ
frn_of n name [] = None
frn_of n name (s ∷ ss) = if is_slot_of name s then Some n else frn_of (n + 1) name ss
