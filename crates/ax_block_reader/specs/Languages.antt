-- The texts of values, of their parts and of lists of them up to the brace that closes them. As languages they are what
-- the definition of block texts gives for the shapes.
use Rattle.std.specs.Prelude.{◌≡◌, ℕ, ◌^◌, ◌<◌, List, [], ◌∷◌, length, drop, decimal, Result, Ok, Err}
use Rattle.hex.specs.Hex.{encode_lower}
use Rattle.ax_bits.specs.Bits.{AreOctets}
use Rattle.ax_tokens.specs.Stopping.{Texts, IsNotFirst}
use Rattle.ax_tokens.specs.declared.stopped.Stopped.{Stopped}
use Rattle.ax_tokens.specs.declared.stopped.Stopped.TheVariants.{Bad, OutOfMemory}
use Rattle.ax_format.specs.Shape.{PartsShape, EachShape}
use Rattle.ax_format.specs.Tree.{FixedTree, MemberTree, MembersTree, KindTree, SlotsTree, ValueTree, ValuesTree, value_count, ListsTree, no_lists, list_and, EntriesTree}
use Rattle.ax_text_form.specs.ValueText.{opening, closing, hex_text, fixed_onto, member_onto, members_onto, part_onto, parts_onto, each_onto, kind_onto, entries_onto}

-- ---- single texts

-- a number of w bits in decimal
abbrev pub IsNumberText : ℕ → List ℕ → Type 0
IsNumberText w text = (n : ℕ) × (n < 2 ^ w) × (text ≡ decimal n)

-- the text of no number below 2^128
abbrev pub IsNoNumber : List ℕ → Type 0
IsNoNumber text = (n : ℕ) → n < 2 ^ 128 → text ≡ decimal n → ⊥

-- the digits of no octets
abbrev pub IsNoDigits : List ℕ → Type 0
IsNoDigits digits = (octets : List ℕ) → AreOctets octets → digits ≡ encode_lower octets → ⊥

-- octets in quotes
abbrev pub IsHexText : List ℕ → Type 0
IsHexText text = (octets : List ℕ) × AreOctets octets × (text ≡ hex_text octets)

abbrev pub IsNoHexText : List ℕ → Type 0
IsNoHexText text = (octets : List ℕ) → AreOctets octets → text ≡ hex_text octets → ⊥

-- the octets of the first text, or no octets are there
abbrev pub HexAt : Result (List ℕ) Stopped → Texts → Type 0
HexAt (Ok octets) texts = AreOctets octets × (texts ≡ hex_text octets ∷ drop 1 texts)
HexAt (Err Bad) texts = IsNotFirst IsHexText texts
HexAt (Err OutOfMemory) texts = Unit {0}

-- the content of an opaque block
abbrev pub IsContent : List ℕ → Type 0
IsContent octets = (0 < length octets) × AreOctets octets

-- ---- the texts of values

abbrev pub fixed_texts : FixedTree → ValueTree → Texts
fixed_texts f v = fixed_onto f v []

abbrev pub member_texts : MemberTree → ValueTree → Texts
member_texts m v = member_onto m v []

abbrev pub kind_texts : KindTree → ValueTree → Texts
kind_texts k v = kind_onto k v []

-- ---- lists up to their brace

abbrev pub members_texts : MembersTree → ValuesTree → Texts
members_texts ms vs = members_onto ms vs (closing ∷ [])

abbrev pub braced_texts : MembersTree → ValuesTree → Texts
braced_texts ms vs = opening ∷ members_texts ms vs

abbrev pub part_texts : MembersTree → ValuesTree → Texts
part_texts p vs = part_onto p vs []

-- values of one kind
abbrev pub each_texts : (ValueTree → Texts → Texts) → ValuesTree → Texts
each_texts onto vs = each_onto onto vs (closing ∷ [])

-- fewer than so many of them
abbrev pub FewerThan : ℕ → (ValueTree → Type 0) → ValuesTree → Type 0
FewerThan bound R vs = (value_count vs < bound) × EachShape R vs

-- one or more of them
abbrev pub SomeOf : (ValueTree → Type 0) → ValuesTree → Type 0
SomeOf R vs = (0 < value_count vs) × EachShape R vs

abbrev pub parts_texts : List MembersTree → ListsTree → Texts
parts_texts ps ls = parts_onto ps ls (closing ∷ [])

-- parts after others, maybe none
abbrev pub LaterParts : List MembersTree → ListsTree → Type 0
LaterParts ps no_lists = Unit {0}
LaterParts ps (list_and vs ls) = PartsShape ps (list_and vs ls)

-- entries of these slots, of which the first has the number s
abbrev pub entries_texts : ℕ → SlotsTree → EntriesTree → Texts
entries_texts s ss es = entries_onto s ss es (closing ∷ [])
