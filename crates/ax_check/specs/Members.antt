-- The flaws of one member, slot or item after others, and the names that those after it see.
use Rattle.std.specs.Prelude.{ℕ, ◌+◌, ◌==◌, nat_lt, length, map, decimal, List, [], ◌∷◌, ◌++◌, codes, true, if◌then◌else◌}
use Rattle.ax_format.specs.Flaws.{flaw_where, is_among, is_bad_width, is_no_multiple, is_too_wide, is_nothing, fixed_flaws, items_flaws, members_flaws, kind_flaws, parts_flaws, uap_flaws}
use Rattle.ax_format.specs.Paths.{at}
use Rattle.ax_format.specs.Plain.{item_tree, part_tree}
use Rattle.ax_format.specs.Specification.{ItemTree}
use Rattle.ax_format.specs.Tree.{MembersTree, MemberTree, named, spare, SlotTree, spare_slot, subitem}
use Rattle.ax_format.specs.Widths.{members_width}
use Rattle.ax_format.specs.declared.flaw.Flaw.{Flaw}
use Rattle.ax_format.specs.declared.flaw.FlawKind.TheVariants.{BadWidth, DuplicateName, DuplicateItem, NotOctets, PartNotOctets, TooWide, Empty, TooManySlots, RepeatedInUap, UnknownInUap}
use Rattle.ax_format.specs.declared.kind.LastPart.{LastPart}
use Rattle.ax_format.specs.declared.spec.Item.{Item}
use Rattle.ax_format.specs.declared.spec.Spec.{Spec}
use Rattle.ax_format.specs.declared.spec.UapSlot.{UapSlot}
use Rattle.ax_format.specs.declared.spec.UapSlot.TheVariants as Uap
use Rattle.ax_check.specs.Names.{listed}
use Rattle.ax_check.specs.declared.kind_flaws.NumberedPart.{NumberedPart}
use Rattle.ax_check.specs.declared.spec_flaws.UapPlace.{UapPlace}

-- ---- members

abbrev pub member_flaws : List ℕ → List (List ℕ) → MemberTree → List Flaw
member_flaws path earlier (spare w) = flaw_where (is_bad_width w) BadWidth (at path (codes "spare"))
member_flaws path earlier (named name f) = flaw_where (is_among name earlier) DuplicateName (at path name) ++ fixed_flaws (at path name) f

abbrev pub with_member : List (List ℕ) → MemberTree → List (List ℕ)
with_member earlier (spare w) = earlier
with_member earlier (named name f) = name ∷ earlier

-- ---- parts of an extended or closed kind

-- of a part with so many FX bits
abbrev pub part_flaws : ℕ → List ℕ → ℕ → List (List ℕ) → MembersTree → List Flaw
part_flaws fx path i earlier p =
    flaw_where (is_no_multiple 8 (members_width p + fx)) PartNotOctets (at path (codes "part" ++ decimal i))
    ++ flaw_where (is_too_wide (members_width p)) TooWide (at path (codes "part" ++ decimal i))
    ++ flaw_where (is_nothing fx p) Empty (at path (codes "part" ++ decimal i)) ++ members_flaws path earlier p

-- of that part below the path of its kind
abbrev pub numbered_flaws : List ℕ → List (List ℕ) → NumberedPart → List Flaw
numbered_flaws path earlier numbered = part_flaws numbered.fx path numbered.number earlier (part_tree numbered.part.now)

-- of all parts of such a kind, of which there is one at least
abbrev pub extended_flaws : List ℕ → LastPart → List MembersTree → List Flaw
extended_flaws path last ps = flaw_where (length ps == 0) Empty path ++ parts_flaws last path 0 [] ps

-- ---- how many slots a compound or the UAP has

-- where there are none, or more than there may be
abbrev pub count_flaws : List ℕ → ℕ → List Flaw
count_flaws path n = flaw_where (n == 0) Empty path ++ flaw_where (nat_lt 126 n) TooManySlots path

-- ---- slots of a compound

abbrev pub slot_flaws : List ℕ → List (List ℕ) → SlotTree → List Flaw
slot_flaws path earlier spare_slot = []
slot_flaws path earlier (subitem name k) = flaw_where (is_among name earlier) DuplicateName (at path name) ++ kind_flaws NotOctets (at path name) k

abbrev pub with_slot : List (List ℕ) → SlotTree → List (List ℕ)
with_slot earlier spare_slot = earlier
with_slot earlier (subitem name k) = name ∷ earlier

-- ---- items, and slots of the UAP

abbrev pub item_flaws : List ℕ → List (List ℕ) → ItemTree → List Flaw
item_flaws path earlier item = flaw_where (is_among item.name earlier) DuplicateItem (at path item.name) ++ kind_flaws NotOctets (at path item.name) item.kind

abbrev pub uap_slot_flaws : List ℕ → List (List ℕ) → List (List ℕ) → UapSlot → List Flaw
uap_slot_flaws path items earlier Uap.Spare = []
uap_slot_flaws path items earlier (Uap.Item name) = if is_among name items then flaw_where (is_among name earlier) RepeatedInUap (at path name) else flaw_where true UnknownInUap (at path name)

-- those of a slot of the UAP at that place
abbrev pub placed_slot_flaws : UapPlace → List (List ℕ) → UapSlot → List Flaw
placed_slot_flaws place earlier slot = uap_slot_flaws place.path.now (listed place.items.now.set) earlier slot

abbrev pub with_uap_slot : List (List ℕ) → UapSlot → List (List ℕ)
with_uap_slot earlier Uap.Spare = earlier
with_uap_slot earlier (Uap.Item name) = name ∷ earlier

abbrev pub item_names : List Item → List (List ℕ)
item_names items = map (λ item. item.name) items

-- the flaws at the UAP's path
abbrev pub uap_part_flaws : List ℕ → Spec → List Flaw
uap_part_flaws path spec =
    flaw_where (length spec.uap == 0) Empty path ++ flaw_where (nat_lt 126 (length spec.uap)) TooManySlots path ++ uap_flaws path (map item_tree spec.items) [] spec.uap

-- those of each item of a specification, then those of its UAP, below the path of its category
abbrev pub lists_flaws : List ℕ → Spec → List Flaw
lists_flaws path spec = items_flaws path [] (map item_tree spec.items) ++ uap_part_flaws (at path (codes "uap")) spec
