-- Kinds and slots make sets: two proofs that such trees are equal are the same.
use mathlib.Core.HLevel.{collapsible→set}
use mathlib.Core.Path.{sym, ◌∙◌, ap}
use Rattle.std.specs.Prelude.{◌≡◌, ℕ, Bool, true, false, List, [], ◌∷◌}
use Rattle.std.specs.Coded.{Coded-set, coded×, coded_ℕ, coded_bool, coded_list}
use Rattle.ax_format.specs.Tree.{FixedTree, element, group, MembersTree, no_members, member_and, MemberTree, named, spare, KindTree, fixed, extended, counted, by_fx, explicit, compound, SlotsTree, no_slots, slot_and, SlotTree, spare_slot, subitem}
use Rattle.ax_format.specs.declared.content.Content.{Content}
use Rattle.ax_format.specs.declared.content.Content.TheVariants.{Raw, Table, Ascii, Icao, Octal, Integer, Quantity}
use Rattle.ax_format.specs.declared.content.Scale.{Scale}
use Rattle.ax_format.specs.declared.content.Sign.{Sign}
use Rattle.ax_format.specs.declared.content.Sign.TheVariants.{Unsigned, Signed}
use Rattle.ax_format.specs.declared.content.TableText.{TableText}
use Rattle.ax_format.specs.declared.kind.Counter.{Counter}
use Rattle.ax_format.specs.declared.kind.Counter.TheVariants.{One, Two}
use Rattle.ax_format.specs.declared.kind.LastPart.{LastPart}
use Rattle.ax_format.specs.declared.kind.LastPart.TheVariants.{WithFx, WithoutFx}

abbrev pub IsSetOf : Type 0 → Type 0
IsSetOf A = (x y : A) → IsProp (x ≡ y)

-- what has a copy in a set, from which it is had back, is a set itself
pub copied_set : {A B : Type 0} (copy : A → B) (back : B → A) → ((x : A) → back (copy x) ≡ x) → IsSetOf B → IsSetOf A
copied_set copy back same Bs = collapsible→set (λ x y p. sym (same x) ∙ ap back (ap copy p) ∙ same y) (λ x y p q. ap (λ (r : copy x ≡ copy y). sym (same x) ∙ ap back r ∙ same y) (Bs (copy x) (copy y) (ap copy p) (ap copy q)))

-- ---- contents

abbrev signed : Sign → Bool
signed Unsigned = false
signed Signed = true

abbrev sign_of : Bool → Sign
sign_of false = Unsigned
sign_of true = Signed

sign_same : (s : Sign) → sign_of (signed s) ≡ s
sign_same Unsigned = λ i. Unsigned
sign_same Signed = λ i. Signed

abbrev entry_pairs : List TableText → List (ℕ × List ℕ)
entry_pairs [] = []
entry_pairs (e ∷ es) = (e.number, e.text) ∷ entry_pairs es

abbrev entries_of : List (ℕ × List ℕ) → List TableText
entries_of [] = []
entries_of (p ∷ ps) = record { number = p.0; text = p.1 } ∷ entries_of ps

entries_same : (es : List TableText) → entries_of (entry_pairs es) ≡ es
entries_same [] = λ i. []
entries_same (e ∷ es) = λ i. e ∷ entries_same es i

data ContentCopy : Type 0 where
  raw ascii icao octal : ContentCopy
  table : List (ℕ × List ℕ) → ContentCopy
  integer : Bool → ContentCopy
  quantity : Bool → ℕ → ℕ → List ℕ → ContentCopy
  deriving IsSet as ContentCopy_set

abbrev content_copy : Content → ContentCopy
content_copy Raw = raw
content_copy Ascii = ascii
content_copy Icao = icao
content_copy Octal = octal
content_copy (Table entries) = table (entry_pairs entries)
content_copy (Integer sign) = integer (signed sign)
content_copy (Quantity scale) = quantity (signed scale.sign) scale.num scale.den scale.unit

abbrev content_back : ContentCopy → Content
content_back raw = Raw
content_back ascii = Ascii
content_back icao = Icao
content_back octal = Octal
content_back (table ps) = Table (entries_of ps)
content_back (integer sign) = Integer (sign_of sign)
content_back (quantity sign num den unit) = Quantity (record { sign = sign_of sign; num = num; den = den; unit = unit })

content_same : (c : Content) → content_back (content_copy c) ≡ c
content_same Raw = λ i. Raw
content_same Ascii = λ i. Ascii
content_same Icao = λ i. Icao
content_same Octal = λ i. Octal
content_same (Table entries) = λ i. Table (entries_same entries i)
content_same (Integer sign) = λ i. Integer (sign_same sign i)
content_same (Quantity scale) = λ i. Quantity (record { sign = sign_same scale.sign i; num = scale.num; den = scale.den; unit = scale.unit })

number_set : IsSetOf ℕ
number_set = Coded-set coded_ℕ

text_set : IsSetOf (List ℕ)
text_set = Coded-set (coded_list coded_ℕ)

content_set : IsSetOf Content
content_set = copied_set content_copy content_back content_same (ContentCopy_set (Coded-set (coded_list (coded× coded_ℕ (coded_list coded_ℕ)))) (Coded-set coded_bool) number_set text_set)

-- ---- kinds

abbrev two_octets : Counter → Bool
two_octets One = false
two_octets Two = true

abbrev counter_of : Bool → Counter
counter_of false = One
counter_of true = Two

counter_same : (c : Counter) → counter_of (two_octets c) ≡ c
counter_same One = λ i. One
counter_same Two = λ i. Two

abbrev ends_with_fx : LastPart → Bool
ends_with_fx WithFx = true
ends_with_fx WithoutFx = false

abbrev last_of : Bool → LastPart
last_of true = WithFx
last_of false = WithoutFx

last_same : (l : LastPart) → last_of (ends_with_fx l) ≡ l
last_same WithFx = λ i. WithFx
last_same WithoutFx = λ i. WithoutFx

-- a tree of each sort in one
data Copy : Type 0 where
  an_element : ℕ → Content → Copy
  a_group : Copy → Copy
  a_named : List ℕ → Copy → Copy
  a_spare : ℕ → Copy
  nothing : Copy
  one_and : Copy → Copy → Copy
  a_fixed : Copy → Copy
  an_extended : Bool → Copy → Copy
  a_counted : Bool → Copy → Copy
  a_by_fx : Copy → Copy
  an_explicit : Copy
  a_compound : Copy → Copy
  a_spare_slot : Copy
  a_subitem : List ℕ → Copy → Copy
  deriving IsSet as Copy_set

copy_set : IsSetOf Copy
copy_set = Copy_set number_set content_set text_set (Coded-set coded_bool)

abbrev mutual
  fixed_copy : FixedTree → Copy
  fixed_copy (element w c) = an_element w c
  fixed_copy (group ms) = a_group (members_copy ms)

  member_copy : MemberTree → Copy
  member_copy (named name f) = a_named name (fixed_copy f)
  member_copy (spare w) = a_spare w

  members_copy : MembersTree → Copy
  members_copy no_members = nothing
  members_copy (member_and m ms) = one_and (member_copy m) (members_copy ms)

abbrev parts_copy : List MembersTree → Copy
parts_copy [] = nothing
parts_copy (p ∷ ps) = one_and (members_copy p) (parts_copy ps)

abbrev mutual
  kind_copy : KindTree → Copy
  kind_copy (fixed f) = a_fixed (fixed_copy f)
  kind_copy (extended last ps) = an_extended (ends_with_fx last) (parts_copy ps)
  kind_copy (counted size k) = a_counted (two_octets size) (kind_copy k)
  kind_copy (by_fx f) = a_by_fx (fixed_copy f)
  kind_copy explicit = an_explicit
  kind_copy (compound ss) = a_compound (slots_copy ss)

  slot_copy : SlotTree → Copy
  slot_copy spare_slot = a_spare_slot
  slot_copy (subitem name k) = a_subitem name (kind_copy k)

  slots_copy : SlotsTree → Copy
  slots_copy no_slots = nothing
  slots_copy (slot_and s ss) = one_and (slot_copy s) (slots_copy ss)

-- what a copy is of; of a copy of another sort, anything
abbrev mutual
  fixed_back : Copy → FixedTree
  fixed_back (an_element w c) = element w c
  fixed_back (a_group x) = group (members_back x)
  fixed_back _ = group no_members

  member_back : Copy → MemberTree
  member_back (a_named name x) = named name (fixed_back x)
  member_back (a_spare w) = spare w
  member_back _ = spare 0

  members_back : Copy → MembersTree
  members_back (one_and x y) = member_and (member_back x) (members_back y)
  members_back _ = no_members

abbrev parts_back : Copy → List MembersTree
parts_back (one_and x y) = members_back x ∷ parts_back y
parts_back _ = []

abbrev mutual
  kind_back : Copy → KindTree
  kind_back (a_fixed x) = fixed (fixed_back x)
  kind_back (an_extended last x) = extended (last_of last) (parts_back x)
  kind_back (a_counted size x) = counted (counter_of size) (kind_back x)
  kind_back (a_by_fx x) = by_fx (fixed_back x)
  kind_back (a_compound x) = compound (slots_back x)
  kind_back _ = explicit

  slot_back : Copy → SlotTree
  slot_back (a_subitem name x) = subitem name (kind_back x)
  slot_back _ = spare_slot

  slots_back : Copy → SlotsTree
  slots_back (one_and x y) = slot_and (slot_back x) (slots_back y)
  slots_back _ = no_slots

mutual
  fixed_same : (f : FixedTree) → fixed_back (fixed_copy f) ≡ f
  fixed_same (element w c) = λ i. element w c
  fixed_same (group ms) = λ i. group (members_same ms i)

  member_same : (m : MemberTree) → member_back (member_copy m) ≡ m
  member_same (named name f) = λ i. named name (fixed_same f i)
  member_same (spare w) = λ i. spare w

  members_same : (ms : MembersTree) → members_back (members_copy ms) ≡ ms
  members_same no_members = λ i. no_members
  members_same (member_and m ms) = λ i. member_and (member_same m i) (members_same ms i)

parts_same : (ps : List MembersTree) → parts_back (parts_copy ps) ≡ ps
parts_same [] = λ i. []
parts_same (p ∷ ps) = λ i. members_same p i ∷ parts_same ps i

mutual
  kind_same : (k : KindTree) → kind_back (kind_copy k) ≡ k
  kind_same (fixed f) = λ i. fixed (fixed_same f i)
  kind_same (extended last ps) = λ i. extended (last_same last i) (parts_same ps i)
  kind_same (counted size k) = λ i. counted (counter_same size i) (kind_same k i)
  kind_same (by_fx f) = λ i. by_fx (fixed_same f i)
  kind_same explicit = λ i. explicit
  kind_same (compound ss) = λ i. compound (slots_same ss i)

  slot_same : (s : SlotTree) → slot_back (slot_copy s) ≡ s
  slot_same spare_slot = λ i. spare_slot
  slot_same (subitem name k) = λ i. subitem name (kind_same k i)

  slots_same : (ss : SlotsTree) → slots_back (slots_copy ss) ≡ ss
  slots_same no_slots = λ i. no_slots
  slots_same (slot_and s ss) = λ i. slot_and (slot_same s i) (slots_same ss i)

-- ---- lists of slots

abbrev list_copy : List SlotTree → Copy
list_copy [] = nothing
list_copy (s ∷ ss) = one_and (slot_copy s) (list_copy ss)

abbrev list_back : Copy → List SlotTree
list_back (one_and x y) = slot_back x ∷ list_back y
list_back _ = []

list_same : (ss : List SlotTree) → list_back (list_copy ss) ≡ ss
list_same [] = λ i. []
list_same (s ∷ ss) = λ i. slot_same s i ∷ list_same ss i

pub slot_list_set : IsSetOf (List SlotTree)
slot_list_set = copied_set list_copy list_back list_same copy_set
