-- Records that stay as they are: those of which each item does, and of which nothing is lost.
use Rattle.std.specs.Prelude.{◌≡◌, ℕ, ◌+◌, ◌-◌, ◌<◌, ◌≤◌, false, IsTrue, List, [], ◌∷◌, length, get_or, Option, Some, None}
use Rattle.std.specs.Coded.{Coded-set, coded_ℕ, coded_bool, coded_list}
use Rattle.ax_bits.specs.Bits.{bits}
use Rattle.ax_fspec.specs.Marks.{IsMarked}
use Rattle.ax_relation.specs.Moves.{MovesTree}
use Rattle.ax_relation.specs.PlainMoves.{moves_tree}
use Rattle.ax_relation.specs.declared.moves.Move.{Move}
use Rattle.ax_moves.specs.BySlot.{ascends, StaysInOwn}
use Rattle.ax_moves.specs.Keeping.{MovesWhole}
use Rattle.ax_moves.specs.Lost.{is_below, key_path}
use Rattle.ax_moves.specs.Octets.{canon_by}
use Rattle.ax_moves.specs.Subitems.{OthersAre}
use Rattle.ax_migrate_views.specs.declared.kept.KeptSlots.{KeptSlots}
use Rattle.ax_moves.specs.declared.lost.LostKey.{LostKey}
use Rattle.ax_format.specs.At.{slot_value}
use Rattle.ax_format.specs.Canonical.{canon}
use Rattle.ax_format.specs.Tree.{marked, EntriesTree}
use Rattle.ax_format.specs.declared.kind.LastPart.{LastPart}
use Rattle.ax_codec.specs.Table.{record_kind_at}
use Rattle.ax_codec.specs.declared.codec.Codec.{Codec}
use Rattle.ax_codec.specs.declared.node.Node.{Node}
use Rattle.ax_codec.specs.declared.node.Node.TheVariants as Of
use Rattle.ax_walk.specs.Noted.{canon_in}
use Rattle.ax_walk.specs.Placing.{IsMarkedItem}
use Rattle.ax_walk.specs.RecordsAt.{IsRecordAt}
use Rattle.ax_walk.specs.Shown.{IsOfSlot, item_value}
use Rattle.ax_walk.specs.Values.{IsOne, value_in}
use Rattle.ax_walk.specs.declared.item.ItemView.{ItemView}

-- ---- keys

-- it holds of each of these
abbrev pub OfEach : (LostKey → Type 0) → List LostKey → Type 0
OfEach P [] = Unit {0}
OfEach P (k ∷ ks) = P k × OfEach P ks

-- the key is not that of an item of slot s, nor of something in it
abbrev pub IsElsewhere : ℕ → LostKey → Type 0
IsElsewhere s k = (key_path k).old.frn ≡ s → ⊥

-- an item of fewer octets than n hasn't the part, where each part has an octet at least
abbrev pub IsPastPart : ℕ → Option ℕ → Type 0
IsPastPart n None = ⊥
IsPastPart n (Some part) = n ≤ part + 1

-- if the key is that of an item of slot s, an item of fewer octets than n hasn't what it names, a part of the item itself
abbrev pub IsPast : ℕ → ℕ → LostKey → Type 0
IsPast s n k = (key_path k).old.frn ≡ s → 0 < n → ((key_path k).old.steps ≡ []) × IsPastPart n (key_path k).part

-- ---- slots

-- each item of slot s keeps its slot and its canonical octets as it moves
pub record StaysAll (nodes : List Node) (links : List ℕ) (ms : MovesTree) (s : ℕ) : Type 0 where
  pub parts : ℕ
  pub below : MovesTree
  pub own : StaysInOwn links ms s parts below
  pub whole : MovesWhole nodes (get_or links (s - 1) 0) parts below

-- the items of slot s are extended ones, and those of fewer octets than n keep their slot, and have no more parts than move
pub record StaysShort (nodes : List Node) (links : List ℕ) (ms : MovesTree) (s n : ℕ) : Type 0 where
  pub parts : ℕ
  pub below : MovesTree
  pub own : StaysInOwn links ms s parts below
  pub node : Node
  pub at : node ≡ get_or nodes (get_or links (s - 1) 0 - 1) node
  pub last : LastPart
  pub part_links : List ℕ
  pub is : node ≡ Of.Extended last part_links
  pub few : n ≤ parts + 1

-- each item of slot s stays, and no key is in it; where there is such a one the moves are in order
abbrev pub IsKeptSlot : List Node → List ℕ → MovesTree → List LostKey → ℕ → Type 0
IsKeptSlot nodes links ms keys s = IsTrue (ascends 1 ms) × StaysAll nodes links ms s × OfEach (IsElsewhere s) keys

-- of slots below n, those that aren't in the set do so
abbrev pub OthersStay : List Node → List ℕ → MovesTree → List LostKey → ℕ → List ℕ → Type 0
OthersStay nodes links ms keys n leaving = OthersAre (IsKeptSlot nodes links ms keys) n leaving

-- an item of slot s of fewer octets than n stays, and nothing of it is lost
abbrev pub IsShortSlot : List Node → List ℕ → MovesTree → List LostKey → ℕ → ℕ → Type 0
IsShortSlot nodes links ms keys s n = 0 < n → IsTrue (ascends 1 ms) × StaysShort nodes links ms s n × OfEach (IsPast s n) keys

-- by slot below n
pub record ShortStay (nodes : List Node) (links : List ℕ) (ms : MovesTree) (keys : List LostKey) (n : ℕ) (short : List ℕ) : Type 0 where
  pub size : length short ≡ n
  pub at : (s : ℕ) → s < n → IsShortSlot nodes links ms keys s (get_or short s 0)

-- ---- records

-- the item of slot s has fewer octets than n
pub record HasFew (codec : Codec) (es : EntriesTree) (s n : ℕ) : Type 0 where
  pub item : ItemView
  pub slot : IsOfSlot codec codec.slots s item
  pub value : slot_value s es ≡ Some (item_value item)
  pub few : length item.body.now < n

-- the item of slot s among the marked ones, of which the first stands at octet `at` of the body, has fewer octets than n; wherever
-- these are all read
pub record HasFewThere (codec : Codec) (marks body : List ℕ) (at s n : ℕ) : Type 0 where
  pub item : ItemView
  pub slot : IsOfSlot codec codec.slots s item
  pub there : IsMarkedItem codec marks body at s (Some item)
  pub few : length item.body.now < n

-- the octets spell a record of these entries, of which those in the set of leaving slots are short
pub record IsKeptRecord (codec : Codec) (kept : KeptSlots) (octets : List ℕ) (es : EntriesTree) : Type 0 where
  pub one : IsOne (record_kind_at codec.nodes codec.slots) octets
  pub value : value_in (record_kind_at codec.nodes codec.slots) octets ≡ marked es
  pub marks : List ℕ
  pub size : length marks ≡ 126
  pub others : (s : ℕ) → (IsMarked marks s → ⊥) → slot_value s es ≡ None
  pub short : (s : ℕ) → IsMarked marks s → IsMarked kept.leaving s → HasFew codec es s (get_or kept.short.items s 0)

-- such a record has its own canonical octets as it moves, and no key is one of something in it
pub record KeepsRecords (codec : Codec) (moves : List Move) (keys : List LostKey) (kept : KeptSlots) : Type 0 where
  pub size : length kept.short.items ≡ 127
  pub stays : (octets : List ℕ) (es : EntriesTree) → IsKeptRecord codec kept octets es
      → canon_by (moves_tree moves) (record_kind_at codec.nodes codec.slots) (marked es) ≡ canon (record_kind_at codec.nodes codec.slots) (marked es)
  pub lossless : (octets : List ℕ) (es : EntriesTree) → IsKeptRecord codec kept octets es → OfEach (λ k. is_below 0 (marked es) (key_path k) ≡ false) keys

-- such a record stands in the body from octet `at` up to octet `end`, and its octets there are its canonical ones
pub record IsKeptAt (codec : Codec) (kept : KeptSlots) (body : List ℕ) (at end : ℕ) : Type 0 where
  pub octets : List ℕ
  pub here : IsRecordAt codec body at end octets
  pub least : canon_in codec octets ≡ bits octets
  pub entries : EntriesTree
  pub kept_record : IsKeptRecord codec kept octets entries

absent_prop : (es : EntriesTree) (ks : List LostKey) → IsProp (OfEach (λ k. is_below 0 (marked es) (key_path k) ≡ false) ks)
absent_prop es [] a b = λ i. a
absent_prop es (k ∷ ks) a b = λ i. (Coded-set coded_bool (is_below 0 (marked es) (key_path k)) false a.0 b.0 i, absent_prop es ks a.1 b.1 i)

pub KeepsRecords-prop : (codec : Codec) (moves : List Move) (keys : List LostKey) (kept : KeptSlots) → IsProp (KeepsRecords codec moves keys kept)
KeepsRecords-prop codec moves keys kept a b = λ i. record {
  size = Coded-set coded_ℕ (length kept.short.items) 127 a.size b.size i;
  stays = λ octets es h. Coded-set (coded_list coded_ℕ) (canon_by (moves_tree moves) (record_kind_at codec.nodes codec.slots) (marked es)) (canon (record_kind_at codec.nodes codec.slots) (marked es)) (a.stays octets es h) (b.stays octets es h) i;
  lossless = λ octets es h. absent_prop es keys (a.lossless octets es h) (b.lossless octets es h) i;
}
