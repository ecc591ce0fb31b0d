-- The reader: the value that a front of the bits spells, how many bits that are, and the rest; or the place and cause of the first fault.
use Rattle.std.specs.Prelude.{ℕ, zero, suc, ◌+◌, ◌*◌, List, [], ◌∷◌, ◌++◌, length, take, drop, Option, Some, None, Bool, true, false}
use Rattle.ax_bits.specs.Bits.{number_of}
use Rattle.ax_format.specs.Presence.{later_slots, slots_past, octets_needed, later_marks, first_mark}
use Rattle.ax_format.specs.Specification.{SpecTree, record_kind}
use Rattle.ax_format.specs.Tree.{FixedTree, ValueTree, element, number, group, member_values, MembersTree, ValuesTree, no_members, no_values, member_and, named, value_and, spare, ListsTree, list_and, no_lists, occurrences, content_octets, EntriesTree, entry_and, marked, KindTree, fixed, extended, part_values, counted, by_fx, explicit, compound, slot_count, defined_slots, SlotsTree, no_slots, no_entries, slot_and, spare_slot, subitem}
use Rattle.ax_format.specs.Widths.{width, members_width, counter_width}
use Rattle.ax_format.specs.declared.fault.BodyCause.{BodyCause}
use Rattle.ax_format.specs.declared.fault.BodyCause.TheVariants.{RunsOut, ExtensionPastEnd, BadExplicitLength, UndefinedSlot, PresenceTooLong}
use Rattle.ax_format.specs.declared.kind.LastPart.{LastPart}
use Rattle.ax_format.specs.declared.kind.LastPart.TheVariants.{WithFx, WithoutFx}

-- the first w bits and the rest, where there are so many
pub data Split : Type 0 where
  short : Split
  cut : List ℕ → List ℕ → Split

abbrev pub cut_more : ℕ → Split → Split
cut_more x short = short
cut_more x (cut g y) = cut (x ∷ g) y

abbrev pub split : ℕ → List ℕ → Split
split zero b = cut [] b
split (suc w) [] = short
split (suc w) (x ∷ b) = cut_more x (split w b)

-- what was read, how many bits of it, and the rest; or the place and cause of the fault
pub data Read (A : Type 0) : Type 0 where
  got : A → ℕ → List ℕ → Read A
  failed : ℕ → BodyCause → Read A

-- the same after n bits, in a larger value
abbrev pub after : {A B : Type 0} → ℕ → (A → B) → Read A → Read B
after n f (got a m y) = got (f a) (n + m) y
after n f (failed p c) = failed (n + p) c

abbrev pub both : {A B C : Type 0} → (A → B → C) → Read A → (List ℕ → Read B) → Read C
both f (got a n y) g = after n (f a) (g y)
both f (failed p c) g = failed p c

-- ---- fixed kinds

abbrev mutual
  pub fixed_value : FixedTree → List ℕ → ValueTree
  fixed_value (element w c) b = number (number_of (take w b))
  fixed_value (group ms) b = member_values (members_value ms b)

  pub members_value : MembersTree → List ℕ → ValuesTree
  members_value no_members b = no_values
  members_value (member_and (named name f) ms) b = value_and (fixed_value f b) (members_value ms (drop (width f) b))
  members_value (member_and (spare w) ms) b = value_and (number (number_of (take w b))) (members_value ms (drop w b))

abbrev pub fixed_read : FixedTree → Split → Read ValueTree
fixed_read f short = failed 0 RunsOut
fixed_read f (cut x y) = got (fixed_value f x) (width f) y

-- ---- parts and occurrences

-- a part with FX
abbrev pub part_read : MembersTree → List MembersTree → Split → (List ℕ → Read ListsTree) → Read ListsTree
part_read p ps short go = failed 0 RunsOut
part_read p ps (cut x []) go = failed 0 RunsOut
part_read p ps (cut x (zero ∷ y)) go = got (list_and (members_value p x) no_lists) (members_width p + 1) y
part_read p [] (cut x (suc fx ∷ y)) go = failed (members_width p) ExtensionPastEnd
part_read p (q ∷ ps) (cut x (suc fx ∷ y)) go = after (members_width p + 1) (λ ls. list_and (members_value p x) ls) (go y)

-- a last part without FX
abbrev pub last_read : MembersTree → Split → Read ListsTree
last_read p short = failed 0 RunsOut
last_read p (cut x y) = got (list_and (members_value p x) no_lists) (members_width p) y

abbrev pub parts_read : LastPart → List MembersTree → List ℕ → Read ListsTree
parts_read last [] b = failed 0 RunsOut
parts_read last (p ∷ q ∷ ps) b = part_read p (q ∷ ps) (split (members_width p) b) (parts_read last (q ∷ ps))
parts_read WithFx (p ∷ []) b = part_read p [] (split (members_width p) b) (parts_read WithFx [])
parts_read WithoutFx (p ∷ []) b = last_read p (split (members_width p) b)

abbrev pub one_read : FixedTree → Split → (List ℕ → Read ValuesTree) → Read ValuesTree
one_read f short go = failed 0 RunsOut
one_read f (cut x []) go = failed 0 RunsOut
one_read f (cut x (zero ∷ y)) go = got (value_and (fixed_value f x) no_values) (width f + 1) y
one_read f (cut x (suc fx ∷ y)) go = after (width f + 1) (λ vs. value_and (fixed_value f x) vs) (go y)

-- with that many bits at most
abbrev pub run_read : ℕ → FixedTree → List ℕ → Read ValuesTree
run_read zero f b = failed 0 RunsOut
run_read (suc n) f b = one_read f (split (width f) b) (run_read n f)

-- ---- counted and explicit

abbrev pub each_read : (List ℕ → Read ValueTree) → ℕ → List ℕ → Read ValuesTree
each_read rule zero b = got no_values 0 b
each_read rule (suc n) b = both (λ v vs. value_and v vs) (rule b) (each_read rule n)

-- after a counter of w bits
abbrev pub count_read : ℕ → (List ℕ → Read ValueTree) → Split → Read ValueTree
count_read w rule short = failed 0 RunsOut
count_read w rule (cut x y) = after w (λ vs. occurrences vs) (each_read rule (number_of x) y)

abbrev pub octets_in : ℕ → List ℕ → List ℕ
octets_in zero x = []
octets_in (suc m) x = number_of (take 8 x) ∷ octets_in m (drop 8 x)

abbrev pub octets_read : ℕ → Split → Read ValueTree
octets_read m short = failed 8 RunsOut
octets_read m (cut x y) = got (content_octets (octets_in m x)) (8 + 8 * m) y

abbrev pub contents_read : ℕ → List ℕ → Read ValueTree
contents_read zero y = failed 0 BadExplicitLength
contents_read (suc m) y = octets_read m (split (8 * m) y)

abbrev pub explicit_read : Split → Read ValueTree
explicit_read short = failed 0 RunsOut
explicit_read (cut x y) = contents_read (number_of x) y

-- ---- presence fields

abbrev pub up : Option ℕ → Option ℕ
up None = None
up (Some j) = Some (suc j)

abbrev pub undefined : List Bool → List ℕ → Option ℕ
undefined ds [] = None
undefined ds (zero ∷ ms) = up (undefined (later_slots ds) ms)
undefined [] (suc zero ∷ ms) = Some 0
undefined (false ∷ ds) (suc zero ∷ ms) = Some 0
undefined (true ∷ ds) (suc zero ∷ ms) = up (undefined ds ms)
undefined ds (suc (suc m) ∷ ms) = up (undefined (later_slots ds) ms)

abbrev pub fx_read : ℕ → Option ℕ → List ℕ → ℕ → List ℕ → (List ℕ → Read (List ℕ)) → Read (List ℕ)
fx_read k (Some j) x fx y go = failed j UndefinedSlot
fx_read k None x zero y go = got x 8 y
fx_read zero None x (suc fx) y go = failed 7 PresenceTooLong
fx_read (suc k) None x (suc fx) y go = after 8 (λ ms. x ++ ms) (go y)

abbrev pub octet_read : ℕ → List Bool → Split → (List Bool → List ℕ → Read (List ℕ)) → Read (List ℕ)
octet_read k ds short go = failed 0 RunsOut
octet_read k ds (cut x []) go = failed 0 RunsOut
octet_read k ds (cut x (fx ∷ y)) go = fx_read k (undefined ds x) x fx y (go (slots_past x ds))

abbrev pub presence_read : ℕ → List Bool → List ℕ → Read (List ℕ)
presence_read zero ds b = failed 0 RunsOut
presence_read (suc k) ds b = octet_read k ds (split 7 b) (presence_read k)

-- ---- kinds

abbrev pub mark_read : ℕ → ℕ → (List ℕ → Read ValueTree) → (List ℕ → Read EntriesTree) → List ℕ → Read EntriesTree
mark_read zero s one go b = go b
mark_read (suc m) s one go b = both (λ v es. entry_and s v es) (one b) go

abbrev pub marked_read : Read (List ℕ) → (List ℕ → List ℕ → Read EntriesTree) → Read ValueTree
marked_read (got ms n y) go = after n (λ es. marked es) (go ms y)
marked_read (failed p c) go = failed p c

abbrev mutual
  pub read : KindTree → List ℕ → Read ValueTree
  read (fixed f) b = fixed_read f (split (width f) b)
  read (extended last ps) b = after 0 (λ ls. part_values ls) (parts_read last ps b)
  read (counted size k) b = count_read (counter_width size) (read k) (split (counter_width size) b)
  read (by_fx f) b = after 0 (λ vs. occurrences vs) (run_read (suc (length b)) f b)
  read explicit b = explicit_read (split 8 b)
  read (compound ss) b = marked_read (presence_read (octets_needed (slot_count ss)) (defined_slots ss) b) (entries_read 1 ss)

  pub entries_read : ℕ → SlotsTree → List ℕ → List ℕ → Read EntriesTree
  entries_read s no_slots ms b = got no_entries 0 b
  entries_read s (slot_and spare_slot ss) ms b = entries_read (s + 1) ss (later_marks ms) b
  entries_read s (slot_and (subitem name k) ss) ms b = mark_read (first_mark ms) s (read k) (entries_read (s + 1) ss (later_marks ms)) b

-- ---- bodies

-- the records of a whole body, or the place and cause of its first fault
pub data Body : Type 0 where
  whole_body : List EntriesTree → Body
  fault_at : ℕ → BodyCause → Body

abbrev pub body_after : EntriesTree → ℕ → Body → Body
body_after v n (whole_body vs) = whole_body (v ∷ vs)
body_after v n (fault_at p c) = fault_at (n + p) c

-- a record is read as its entries
abbrev pub body_more : Read ValueTree → (List ℕ → Body) → Body
body_more (got (marked es) n y) go = body_after es n (go y)
body_more (got _ n y) go = whole_body []
body_more (failed p c) go = fault_at p c

-- with that many bits at most
abbrev pub body_read : ℕ → SpecTree → List ℕ → Body
body_read zero spec b = whole_body []
body_read (suc n) spec [] = whole_body []
body_read (suc n) spec (a ∷ b) = body_more (read (record_kind spec) (a ∷ b)) (body_read n spec)
