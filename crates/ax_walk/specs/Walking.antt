-- What a walk over octets meets, of what is read there.
use Rattle.std.specs.Prelude.{◌≡◌, ℕ, zero, suc, ◌+◌, ◌-◌, ◌≤◌, ◌⊎◌, get_or, Bool, IsTrue, List, [], ◌++◌, length, drop}
use Rattle.ax_bits.specs.Bits.{bits}
use Rattle.ax_format.specs.Reader.{Read}
use Rattle.ax_format.specs.Canonical.{canon}
use Rattle.ax_format.specs.Presence.{first_mark, later_marks}
use Rattle.ax_format.specs.Tree.{KindTree, extended, by_fx, SlotsTree, no_slots, slot_and, spare_slot, subitem, EntriesTree, no_entries, entry_and}
use Rattle.ax_format.specs.declared.fault.BodyFault.{BodyFault}
use Rattle.ax_format.specs.declared.kind.LastPart.{LastPart}
use Rattle.ax_fspec.specs.Reading.{Gets, FailsAt, kind_read}
use Rattle.ax_codec.specs.Meaning.{meanings, linked, fixed_of, linked_parts}
use Rattle.ax_codec.specs.declared.node.Node.{Node}
use Rattle.ax_walk.specs.declared.start.Start.{Start}

-- something is read from octet `at` of the body up to octet `end`; and where it is said to be least, its spelling there is
-- the one that the rule gives
pub record Walks {A : Type 0} (rule : A → List ℕ) (found : Read A) (body : List ℕ) (at end : ℕ) (least : Bool) : Type 0 where
  pub value : A
  pub read : Gets found body at end value
  pub canonical : IsTrue least → rule value ++ bits (drop end body) ≡ bits (drop at body)

-- so a value of that kind
abbrev pub WalksKind : KindTree → List ℕ → ℕ → ℕ → Bool → Type 0
WalksKind k body at end least = Walks (canon k) (kind_read k body at) body at end least

-- none is read: it fails so
abbrev pub FailsKind : KindTree → List ℕ → ℕ → BodyFault → Type 0
FailsKind k body at fault = FailsAt (kind_read k body at) at fault

-- the same, from a place where it is to begin
abbrev pub WalksFrom : KindTree → Start → ℕ → Bool → Type 0
WalksFrom k start end least = WalksKind k start.body.now start.at end least

abbrev pub FailsFrom : KindTree → Start → BodyFault → Type 0
FailsFrom k start fault = FailsKind k start.body.now start.at fault

-- the kind of an extended or closed item of the parts that these links lead to
abbrev pub parts_kind : List Node → LastPart → List ℕ → KindTree
parts_kind nodes last links = extended last (linked_parts (meanings nodes) links)

-- the kind of occurrences by FX of the fixed kind that the link leads to
abbrev pub fx_kind : List Node → ℕ → KindTree
fx_kind nodes link = by_fx (fixed_of (linked (meanings nodes) link))

-- what is read from octet `here` on decides what is read from octet `at` on; `least` says whether what is between is least
pub record Leads {A B : Type 0} (rule : A → List ℕ) (next : Read A) (whole_rule : B → List ℕ) (whole : Read B) (body : List ℕ) (at here : ℕ) (least : Bool) : Type 0 where
  pub forwards : at ≤ here
  pub within : here ≤ length body
  pub gets : (end : ℕ) (l : Bool) → (IsTrue l → IsTrue least) → Walks rule next body here end l → Walks whole_rule whole body at end l
  pub fails : (fault : BodyFault) → FailsAt next here fault → FailsAt whole at fault

-- the canonical spellings of entries, one for each marked slot
abbrev pub along_entries : KindTree → (EntriesTree → List ℕ) → EntriesTree → List ℕ
along_entries k go no_entries = []
along_entries k go (entry_and t v es) = canon k v ++ go es

abbrev pub along_mark : ℕ → KindTree → (EntriesTree → List ℕ) → EntriesTree → List ℕ
along_mark zero k go es = go es
along_mark (suc m) k go es = along_entries k go es

abbrev pub along : SlotsTree → List ℕ → EntriesTree → List ℕ
along no_slots ms es = []
along (slot_and spare_slot ss) ms es = along ss (later_marks ms) es
along (slot_and (subitem name k) ss) ms es = along_mark (first_mark ms) k (along ss (later_marks ms)) es

-- the presence field from octet `at` up to octet `here` has one octet, or its last octet isn't 0
abbrev pub NeedsLast : List ℕ → ℕ → ℕ → Type 0
NeedsLast body at here = (here ≤ at + 1) ⊎ (get_or body (here - 1) 0 ≡ 0 → ⊥)
