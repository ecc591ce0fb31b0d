-- Where the octets of a slot stand within those of its record or compound.
use Rattle.std.specs.Prelude.{◌≡◌, ℕ, ◌-◌, ◌==◌, if◌then◌else◌, List, [], ◌++◌, drop, get_or, length}
use Rattle.ax_bits.specs.Bits.{bits}
use Rattle.ax_fspec.specs.Fields.{MarksSlots}
use Rattle.ax_format.specs.Presence.{Presence, octets_needed}
use Rattle.ax_format.specs.Spelling.{IsSpelling}
use Rattle.ax_format.specs.Tree.{EntriesTree, no_entries, entry_and}
use Rattle.ax_codec.specs.Table.{kind_at, record_kind_at}
use Rattle.ax_codec.specs.declared.codec.Codec.{Codec}
use Rattle.ax_codec.specs.declared.node.Node.{Node}
use Rattle.ax_walk.specs.Values.{value_in, entries_in}

-- the entries before that of a slot
abbrev pub entries_before : ℕ → EntriesTree → EntriesTree
entries_before slot no_entries = no_entries
entries_before slot (entry_and t v es) = if t == slot then no_entries else entry_and t v (entries_before slot es)

-- the octets spell these entries one after the other, each by the kind of its slot
abbrev pub SpellInOrder : List Node → List ℕ → EntriesTree → List ℕ → Type 0
SpellInOrder nodes links no_entries octets = octets ≡ []
SpellInOrder nodes links (entry_and t v es) octets =
    (x : List ℕ) × (y : List ℕ) × (octets ≡ x ++ y) × IsSpelling (kind_at nodes (get_or links (t - 1) 0)) v (bits x) × SpellInOrder nodes links es y

-- from octet `at` of the body on, these octets stand right after those of the entries before their slot
pub record FollowsEntries (nodes : List Node) (links : List ℕ) (slot : ℕ) (entries : EntriesTree) (body : List ℕ) (at : ℕ) (octets : List ℕ) : Type 0 where
  pub front : List ℕ
  pub rest : List ℕ
  pub split : drop at body ≡ front ++ (octets ++ rest)
  pub before : SpellInOrder nodes links (entries_before slot entries) front

-- the octets are those of the slot: the presence field and the entries before it stand in front of them, and nothing else
pub record StandsInPlace (nodes : List Node) (links : List ℕ) (slot : ℕ) (body octets : List ℕ) : Type 0 where
  pub field : List ℕ
  pub marks : List ℕ
  pub presence : Presence (octets_needed (length links)) marks (bits field)
  pub front : List ℕ
  pub rest : List ℕ
  pub split : body ≡ field ++ (front ++ (octets ++ rest))
  pub before : SpellInOrder nodes links (entries_before slot (entries_in (value_in (record_kind_at nodes links) body))) front

-- a presence field of the codec's records ends before octet `here` of the body, and marks this set
pub record EndsField (codec : Codec) (body : List ℕ) (here : ℕ) (marks : List ℕ) : Type 0 where
  pub at : ℕ
  pub field : MarksSlots codec.mask body at here marks
