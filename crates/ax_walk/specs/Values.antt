-- The value that a view's octets spell.
use Rattle.std.specs.Prelude.{◌≡◌, ℕ, ◌+◌, ◌*◌, ◌<◌, ◌≤◌, Bool, true, false, List, [], length}
use Rattle.std.specs.Coded.{Coded-set, coded_ℕ, coded_list, le_prop}
use Rattle.ax_bits.specs.Bits.{bits}
use Rattle.ax_format.specs.Reader.{Read, got, failed, read}
use Rattle.ax_format.specs.InBounds.{InBounds}
use Rattle.ax_format.specs.Sizes.{longest_body}
use Rattle.ax_format.specs.Tree.{KindTree, fixed, extended, counted, by_fx, explicit, compound, ValueTree, marked, EntriesTree, no_entries}
use Rattle.ax_format.specs.Widths.{width}
use Rattle.ax_format.specs.Bodies.{SpellsRecord}
use Rattle.ax_format.specs.Flaws.{NoFlaw}
use Rattle.ax_format.specs.Specification.{SpecTree}
use Rattle.ax_codec.specs.Standing.{StandsFor}
use Rattle.ax_codec.specs.Facts.{bounds_prop}
use Rattle.ax_codec.specs.Table.{kind_at, record_kind_at}
use Rattle.ax_codec.specs.declared.codec.Codec.{Codec}

-- something is read, of all the bits
abbrev pub IsAll : {A : Type 0} → Read A → Type 0
IsAll (got a n y) = y ≡ []
IsAll (failed p c) = ⊥

IsAll-prop : {A : Type 0} (r : Read A) → IsProp (IsAll r)
IsAll-prop (got a n y) = Coded-set (coded_list coded_ℕ) y []
IsAll-prop (failed p c) = λ a b. absurd a

-- something is read
abbrev pub IsGot : {A : Type 0} → Read A → Type 0
IsGot (got a n y) = Unit {0}
IsGot (failed p c) = ⊥

abbrev pub value_read : Read ValueTree → ValueTree
value_read (got v n y) = v
value_read (failed p c) = marked no_entries

abbrev pub entries_found : Read EntriesTree → EntriesTree
entries_found (got es n y) = es
entries_found (failed p c) = no_entries

-- the value that octets spell, where they spell one
unfoldable pub value_in : KindTree → List ℕ → ValueTree
value_in k octets = value_read (read k (bits octets))

-- the octets spell one value of the kind, and are those of a body
pub record IsOne (k : KindTree) (octets : List ℕ) : Type 0 where
  pub all : IsAll (read k (bits octets))
  pub few : length octets ≤ longest_body

-- the octets are those of a value of a fixed kind and its FX bit
abbrev pub FitsWithFx : KindTree → List ℕ → Type 0
FitsWithFx (fixed f) octets = width f + 1 ≡ 8 * length octets
FitsWithFx (extended last ps) octets = ⊥
FitsWithFx (counted size k) octets = ⊥
FitsWithFx (by_fx f) octets = ⊥
FitsWithFx explicit octets = ⊥
FitsWithFx (compound ss) octets = ⊥

FitsWithFx-prop : (k : KindTree) (octets : List ℕ) → IsProp (FitsWithFx k octets)
FitsWithFx-prop (fixed f) octets = Coded-set coded_ℕ (width f + 1) (8 * length octets)
FitsWithFx-prop (extended last ps) octets = λ a b. absurd a
FitsWithFx-prop (counted size k) octets = λ a b. absurd a
FitsWithFx-prop (by_fx f) octets = λ a b. absurd a
FitsWithFx-prop explicit octets = λ a b. absurd a
FitsWithFx-prop (compound ss) octets = λ a b. absurd a

pub record IsWithFx (k : KindTree) (octets : List ℕ) : Type 0 where
  pub fits : FitsWithFx k octets
  pub few : length octets ≤ longest_body

-- the octets of one value of the kind, or of an occurrence by FX
abbrev pub IsItemOf : Bool → KindTree → List ℕ → Type 0
IsItemOf false k octets = IsOne k octets
IsItemOf true k octets = IsWithFx k octets

-- the octets spell a record
abbrev pub IsRecord : Codec → List ℕ → Type 0
IsRecord codec octets = IsOne (record_kind_at codec.nodes codec.slots) octets

pub IsOne-prop : (k : KindTree) (octets : List ℕ) → IsProp (IsOne k octets)
IsOne-prop k octets a b = λ i. record { all = IsAll-prop (read k (bits octets)) a.all b.all i; few = le_prop a.few b.few i }

pub IsRecord-prop : (codec : Codec) (octets : List ℕ) → IsProp (IsRecord codec octets)
IsRecord-prop codec octets = IsOne-prop (record_kind_at codec.nodes codec.slots) octets

-- the kind keeps its bounds; a fixed kind that occurs by FX those of an occurrence
abbrev pub ItemInBounds : Bool → KindTree → Type 0
ItemInBounds false k = InBounds k
ItemInBounds true (fixed f) = InBounds (by_fx f)
ItemInBounds true (extended last ps) = ⊥
ItemInBounds true (counted size k) = ⊥
ItemInBounds true (by_fx f) = ⊥
ItemInBounds true explicit = ⊥
ItemInBounds true (compound ss) = ⊥

pub ItemInBounds-prop : (fx : Bool) (k : KindTree) → IsProp (ItemInBounds fx k)
ItemInBounds-prop false k = bounds_prop k
ItemInBounds-prop true (fixed f) = bounds_prop (by_fx f)
ItemInBounds-prop true (extended last ps) = λ a b. absurd a
ItemInBounds-prop true (counted size k) = λ a b. absurd a
ItemInBounds-prop true (by_fx f) = λ a b. absurd a
ItemInBounds-prop true explicit = λ a b. absurd a
ItemInBounds-prop true (compound ss) = λ a b. absurd a

pub IsItemOf-prop : (fx : Bool) (k : KindTree) (octets : List ℕ) → IsProp (IsItemOf fx k octets)
IsItemOf-prop false k octets = IsOne-prop k octets
IsItemOf-prop true k octets = λ a b. λ i. record { fits = FitsWithFx-prop k octets a.fits b.fits i; few = le_prop a.few b.few i }

-- the link leads to a node of a kind, and the octets are those of a value of it, or of an occurrence by FX
pub record IsItem (codec : Codec) (link : ℕ) (fx : Bool) (octets : List ℕ) : Type 0 where
  pub some : 0 < link
  pub within : link ≤ length codec.nodes
  pub bounds : ItemInBounds fx (kind_at codec.nodes link)
  pub one : IsItemOf fx (kind_at codec.nodes link) octets

pub IsItem-prop : (codec : Codec) (link : ℕ) (fx : Bool) (octets : List ℕ) → IsProp (IsItem codec link fx octets)
IsItem-prop codec link fx octets a b = λ i. record {
  some = le_prop a.some b.some i;
  within = le_prop a.within b.within i;
  bounds = ItemInBounds-prop fx (kind_at codec.nodes link) a.bounds b.bounds i;
  one = IsItemOf-prop fx (kind_at codec.nodes link) octets a.one b.one i;
}

abbrev pub entries_in : ValueTree → EntriesTree
entries_in (marked es) = es
entries_in _ = no_entries

-- the octets spell a record of each specification that the codec stands for: that of the entries of their value
pub record SpellsAny (codec : Codec) (octets : List ℕ) : Type 0 where
  pub spells : (spec : SpecTree) → NoFlaw spec → StandsFor codec spec → SpellsRecord spec (entries_in (value_in (record_kind_at codec.nodes codec.slots) octets)) (bits octets)
