-- The flaws of a specification, in their order (this project's own rules).
use Rattle.std.specs.Prelude.{◌≡◌, ℕ, ◌+◌, ◌%◌, ◌==◌, nat_lt, Bool, true, false, ◌||◌, ◌&&◌, not, if◌then◌else◌, is_some, List, [], ◌∷◌, ◌++◌, length, codes, decimal, bytes_eq}
use Rattle.std.specs.List.{list_any}
use Rattle.ax_format.specs.Paths.{at, three_digits}
use Rattle.ax_format.specs.Specification.{ItemTree, SpecTree, first_named}
use Rattle.ax_format.specs.Tree.{FixedTree, element, group, MembersTree, no_members, member_and, named, spare, KindTree, fixed, extended, counted, by_fx, explicit, compound, SlotsTree, no_slots, slot_and, spare_slot, subitem, slot_count}
use Rattle.ax_format.specs.Widths.{width, members_width, fx_width}
use Rattle.ax_format.specs.declared.content.Content.{Content}
use Rattle.ax_format.specs.declared.content.Content.TheVariants.{Ascii, Icao, Octal, Quantity}
use Rattle.ax_format.specs.declared.flaw.Flaw.{Flaw}
use Rattle.ax_format.specs.declared.flaw.FlawKind.{FlawKind}
use Rattle.ax_format.specs.declared.flaw.FlawKind.TheVariants.{DuplicateItem, DuplicateName, UnknownInUap, RepeatedInUap, Empty, TooManySlots, BadWidth, NotOctets, PartNotOctets, BodyNotOctets, BadScale, BadStringWidth, TooWide}
use Rattle.ax_format.specs.declared.spec.UapSlot.{UapSlot}
use Rattle.ax_format.specs.declared.spec.UapSlot.TheVariants as Uap
use Rattle.ax_format.specs.declared.kind.LastPart.{LastPart}

-- ---- words of the definition

-- a flaw at the path where the test holds
abbrev pub flaw_where : Bool → FlawKind → List ℕ → List Flaw
flaw_where holds kind path = if holds then record { kind = kind; path = path } ∷ [] else []

abbrev pub is_among : List ℕ → List (List ℕ) → Bool
is_among name names = list_any (bytes_eq name) names

abbrev pub is_no_multiple : ℕ → ℕ → Bool
is_no_multiple n w = not (w % n == 0)

-- no width of an element or a spare
abbrev pub is_bad_width : ℕ → Bool
is_bad_width w = (w == 0) || nat_lt 128 w

-- too wide for a fixed kind or a part: wider than the longest body
abbrev pub is_too_wide : ℕ → Bool
is_too_wide w = nat_lt 524256 w

-- ---- fixed kinds

abbrev pub is_bad_element_width : ℕ → Content → Bool
is_bad_element_width w (Quantity s) = is_bad_width w || nat_lt 64 w
is_bad_element_width w _ = is_bad_width w

abbrev pub is_bad_scale : Content → Bool
is_bad_scale (Quantity s) = (s.num == 0) || (s.den == 0)
is_bad_scale _ = false

-- whole characters of 8, 6 or 3 bits
abbrev pub is_bad_string_width : ℕ → Content → Bool
is_bad_string_width w Ascii = is_no_multiple 8 w
is_bad_string_width w Icao = is_no_multiple 6 w
is_bad_string_width w Octal = is_no_multiple 3 w
is_bad_string_width w _ = false

abbrev pub has_no_member : MembersTree → Bool
has_no_member no_members = true
has_no_member (member_and m ms) = false

abbrev mutual
  pub fixed_flaws : List ℕ → FixedTree → List Flaw
  fixed_flaws path (element w c) = flaw_where (is_bad_element_width w c) BadWidth path ++ flaw_where (is_bad_scale c) BadScale path
      ++ flaw_where (is_bad_string_width w c) BadStringWidth path
  fixed_flaws path (group ms) = flaw_where (has_no_member ms) Empty path ++ members_flaws path [] ms

  -- of members that stand after others of these names
  pub members_flaws : List ℕ → List (List ℕ) → MembersTree → List Flaw
  members_flaws path earlier no_members = []
  members_flaws path earlier (member_and (spare w) ms) = flaw_where (is_bad_width w) BadWidth (at path (codes "spare")) ++ members_flaws path earlier ms
  members_flaws path earlier (member_and (named name f) ms) =
      flaw_where (is_among name earlier) DuplicateName (at path name) ++ fixed_flaws (at path name) f ++ members_flaws path (name ∷ earlier) ms

-- a fixed kind that is to be whole octets, else it has that flaw
abbrev pub whole_flaws : FlawKind → List ℕ → FixedTree → List Flaw
whole_flaws broken path f = flaw_where (is_no_multiple 8 (width f)) broken path ++ flaw_where (is_too_wide (width f)) TooWide path ++ fixed_flaws path f

-- ---- kinds

-- the names of these members, and those of earlier ones
abbrev pub names_with : List (List ℕ) → MembersTree → List (List ℕ)
names_with earlier no_members = earlier
names_with earlier (member_and (spare w) ms) = names_with earlier ms
names_with earlier (member_and (named name f) ms) = names_with (name ∷ earlier) ms

-- no member and no FX bit
abbrev pub is_nothing : ℕ → MembersTree → Bool
is_nothing fx p = (fx == 0) && has_no_member p

-- part i and those after it, after parts whose members have these names; a member's path doesn't name its part
abbrev pub parts_flaws : LastPart → List ℕ → ℕ → List (List ℕ) → List MembersTree → List Flaw
parts_flaws last path i earlier [] = []
parts_flaws last path i earlier (p ∷ ps) =
    flaw_where (is_no_multiple 8 (members_width p + fx_width last (length ps))) PartNotOctets (at path (codes "part" ++ decimal i))
    ++ flaw_where (is_too_wide (members_width p)) TooWide (at path (codes "part" ++ decimal i))
    ++ flaw_where (is_nothing (fx_width last (length ps)) p) Empty (at path (codes "part" ++ decimal i))
    ++ members_flaws path earlier p ++ parts_flaws last path (i + 1) (names_with earlier p) ps

abbrev mutual
  -- a fixed kind that isn't whole octets has the flaw named
  pub kind_flaws : FlawKind → List ℕ → KindTree → List Flaw
  kind_flaws broken path (fixed f) = whole_flaws broken path f
  kind_flaws broken path (extended last ps) = flaw_where (length ps == 0) Empty path ++ parts_flaws last path 0 [] ps
  kind_flaws broken path (counted size k) = kind_flaws BodyNotOctets (at path (codes "body")) k
  kind_flaws broken path (by_fx f) =
      flaw_where (is_no_multiple 8 (width f + 1)) BodyNotOctets (at path (codes "body")) ++ flaw_where (is_too_wide (width f)) TooWide (at path (codes "body"))
      ++ fixed_flaws (at path (codes "body")) f
  kind_flaws broken path explicit = []
  kind_flaws broken path (compound ss) =
      flaw_where (slot_count ss == 0) Empty path ++ flaw_where (nat_lt 126 (slot_count ss)) TooManySlots path ++ slots_flaws path [] ss

  -- of slots that stand after others of these names
  pub slots_flaws : List ℕ → List (List ℕ) → SlotsTree → List Flaw
  slots_flaws path earlier no_slots = []
  slots_flaws path earlier (slot_and spare_slot ss) = slots_flaws path earlier ss
  slots_flaws path earlier (slot_and (subitem name k) ss) =
      flaw_where (is_among name earlier) DuplicateName (at path name) ++ kind_flaws NotOctets (at path name) k ++ slots_flaws path (name ∷ earlier) ss

-- ---- specifications

-- of items that stand after others of these names
abbrev pub items_flaws : List ℕ → List (List ℕ) → List ItemTree → List Flaw
items_flaws path earlier [] = []
items_flaws path earlier (item ∷ items) =
    flaw_where (is_among item.name earlier) DuplicateItem (at path item.name) ++ kind_flaws NotOctets (at path item.name) item.kind
    ++ items_flaws path (item.name ∷ earlier) items

-- of UAP slots that stand after others of these names
abbrev pub uap_flaws : List ℕ → List ItemTree → List (List ℕ) → List UapSlot → List Flaw
uap_flaws path items earlier [] = []
uap_flaws path items earlier (Uap.Spare ∷ ss) = uap_flaws path items earlier ss
uap_flaws path items earlier (Uap.Item name ∷ ss) =
    (if is_some (first_named name items) then flaw_where (is_among name earlier) RepeatedInUap (at path name) else flaw_where true UnknownInUap (at path name))
    ++ uap_flaws path items (name ∷ earlier) ss

abbrev pub flaws_of : SpecTree → List Flaw
flaws_of spec =
    items_flaws (three_digits spec.category) [] spec.items
    ++ flaw_where (length spec.uap == 0) Empty (at (three_digits spec.category) (codes "uap"))
    ++ flaw_where (nat_lt 126 (length spec.uap)) TooManySlots (at (three_digits spec.category) (codes "uap"))
    ++ uap_flaws (at (three_digits spec.category) (codes "uap")) spec.items [] spec.uap

pub record NoFlaw (spec : SpecTree) : Type 0 where
  pub none : flaws_of spec ≡ []
