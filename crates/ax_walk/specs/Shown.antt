-- What the views of records and items stand for.
use Rattle.std.specs.Prelude.{◌≡◌, ℕ, ◌-◌, Bool, true, false, List, [], ◌∷◌, ◌++◌, length, drop, map, flat_map, get_or, Option, Some, None}
use Rattle.ax_bits.specs.Bits.{bits, word}
use Rattle.ax_fspec.specs.declared.mask.SlotMask.{SlotMask}
use Rattle.ax_format.specs.Spelling.{MembersSpell, Spells, IsSpelling}
use Rattle.ax_format.specs.Tree.{MembersTree, KindTree, fixed, extended, counted, by_fx, explicit, compound, ValueTree, occurrences, content_octets, ValuesTree, no_values, value_and, ListsTree, no_lists, list_and, EntriesTree}
use Rattle.ax_format.specs.Widths.{counter_octets, fx_width}
use Rattle.ax_format.specs.declared.kind.LastPart.{LastPart}
use Rattle.ax_codec.specs.Table.{kind_at, record_kind_at}
use Rattle.ax_codec.specs.declared.codec.Codec.{Codec}
use Rattle.ax_codec.specs.declared.node.Node.{Node}
use Rattle.ax_codec.specs.declared.node.Node.TheVariants as Of
use Rattle.ax_walk.specs.InPlace.{StandsInPlace}
use Rattle.ax_walk.specs.Left.{Occurrence, occurrences_shown}
use Rattle.ax_walk.specs.Spots.{lists_in}
use Rattle.ax_walk.specs.Values.{value_in, entries_in}
use Rattle.ax_walk.specs.declared.item.ItemView.{ItemView}
use Rattle.ax_walk.specs.declared.record.RecordView.{RecordView}

-- the entries of a record
abbrev pub record_entries : RecordView → EntriesTree
record_entries r = entries_in (value_in (record_kind_at r.codec.now.nodes r.codec.now.slots) r.body.now)

-- the kind of an item, names and contents set aside, and its value
abbrev pub item_kind : ItemView → KindTree
item_kind item = kind_at item.codec.now.nodes item.link

abbrev pub item_value : ItemView → ValueTree
item_value item = value_in (item_kind item) item.body.now

-- the entries of a compound; of another kind, none
abbrev pub item_entries : ItemView → EntriesTree
item_entries item = entries_in (item_value item)

-- the content of an explicit item
abbrev pub content_in : ValueTree → Option (List ℕ)
content_in (content_octets xs) = Some xs
content_in _ = None

-- an occurrence's bits are its spelling and the FX bit
pub record IsSpellingWithFx (k : KindTree) (v : ValueTree) (b : List ℕ) : Type 0 where
  pub front : List ℕ
  pub fx : ℕ
  pub split : b ≡ front ++ fx ∷ []
  pub spells : Spells k v front

abbrev pub SpellsOne : Bool → KindTree → ValueTree → List ℕ → Type 0
SpellsOne false k v b = IsSpelling k v b
SpellsOne true k v b = IsSpellingWithFx k v b

-- the octets spell the item's value
abbrev pub SpellsItem : ItemView → List ℕ → Type 0
SpellsItem item octets = SpellsOne item.by_fx (item_kind item) (item_value item) (bits octets)

-- the item is read under this codec, by the link of this slot
pub record IsOfSlot (codec : Codec) (links : List ℕ) (slot : ℕ) (item : ItemView) : Type 0 where
  pub codec_is : item.codec.now ≡ codec
  pub link_is : item.link ≡ get_or links (slot - 1) 0
  pub whole : item.by_fx ≡ false

-- the item is of this slot of a compound, and its octets stand in their place there
pub record IsSubitem (outer : ItemView) (slot : ℕ) (item : ItemView) : Type 0 where
  pub mask : SlotMask
  pub links : List ℕ
  pub node : get_or outer.codec.now.nodes (outer.link - 1) Of.Explicit ≡ Of.Compound mask links
  pub of_slot : IsOfSlot outer.codec.now links slot item
  pub in_place : StandsInPlace outer.codec.now.nodes links slot outer.body.now item.body.now

-- ---- parts

-- the FX of a part before these: 1 where another is present, and else so many bits 0
abbrev pub fx_before : ℕ → ListsTree → List ℕ
fx_before fx no_lists = word fx 0
fx_before fx (list_and vs ls) = 1 ∷ []

-- the octets of each part present spell its members and then its FX bit, where the part has one
abbrev pub PartsAre : LastPart → List MembersTree → ListsTree → List (List ℕ) → Type 0
PartsAre last ps no_lists [] = Unit {0}
PartsAre last ps no_lists (octets ∷ slices) = ⊥
PartsAre last [] (list_and vs ls) slices = ⊥
PartsAre last (p ∷ ps) (list_and vs ls) [] = ⊥
PartsAre last (p ∷ ps) (list_and vs ls) (octets ∷ slices) = ((x : List ℕ) × MembersSpell p vs x × (bits octets ≡ x ++ fx_before (fx_width last (length ps)) ls)) × PartsAre last ps ls slices

-- a slice for each part that is present, in order, which join to the item's octets; no slice for another kind
abbrev pub ArePartsOf : KindTree → ValueTree → List ℕ → List (List ℕ) → Type 0
ArePartsOf (extended last ps) v octets slices = PartsAre last ps (lists_in v) slices × (flat_map (λ x. x) slices ≡ octets)
ArePartsOf (fixed f) v octets slices = slices ≡ []
ArePartsOf (counted size k) v octets slices = slices ≡ []
ArePartsOf (by_fx f) v octets slices = slices ≡ []
ArePartsOf explicit v octets slices = slices ≡ []
ArePartsOf (compound ss) v octets slices = slices ≡ []

pub record IsParts (item : ItemView) (slices : List (List ℕ)) : Type 0 where
  pub parts : ArePartsOf (item_kind item) (item_value item) item.body.now slices

-- ---- occurrences

abbrev pub values_list : ValuesTree → List ValueTree
values_list no_values = []
values_list (value_and v vs) = v ∷ values_list vs

abbrev pub occurrences_in : ValueTree → List ValueTree
occurrences_in (occurrences vs) = values_list vs
occurrences_in _ = []

-- a view for each occurrence, in order, under the codec and by this link, which have the values and join to the octets
pub record AreOccurrences (codec : Codec) (inner : ℕ) (fx : Bool) (octets : List ℕ) (values : List ValueTree) (shown : List Occurrence) : Type 0 where
  pub slices : List (List ℕ)
  pub are_shown : shown ≡ occurrences_shown codec inner fx slices
  pub have : map (value_in (kind_at codec.nodes inner)) slices ≡ values
  pub joined : flat_map (λ x. x) slices ≡ octets

-- of a counted or wide item after its counter, of an item by FX from its first octet on; of another kind none
abbrev pub OccurrencesBy : Node → ItemView → List Occurrence → Type 0
OccurrencesBy (Of.Counted size inner) outer shown = AreOccurrences outer.codec.now inner false (drop (counter_octets size) outer.body.now) (occurrences_in (item_value outer)) shown
OccurrencesBy (Of.ByFx inner) outer shown = AreOccurrences outer.codec.now inner true outer.body.now (occurrences_in (item_value outer)) shown
OccurrencesBy (Of.Element w) outer shown = shown ≡ []
OccurrencesBy (Of.Group w links) outer shown = shown ≡ []
OccurrencesBy (Of.Part w links) outer shown = shown ≡ []
OccurrencesBy (Of.Extended last links) outer shown = shown ≡ []
OccurrencesBy Of.Explicit outer shown = shown ≡ []
OccurrencesBy (Of.Compound mask links) outer shown = shown ≡ []

pub record IsOccurrences (outer : ItemView) (shown : List Occurrence) : Type 0 where
  pub occurrences_are : OccurrencesBy (get_or outer.codec.now.nodes (outer.link - 1) Of.Explicit) outer shown
