-- The spelling of a specification: the texts of its tokens, rule by rule of the grammar.
use Rattle.std.specs.Prelude.{ℕ, List, [], ◌∷◌, ◌++◌, decimal}
use Rattle.std.specs.List.{flat_map, join_with_byte}
use Rattle.ax_format.specs.Paths.{three_digits}
use Rattle.ax_format.specs.Specification.{ItemTree, SpecTree}
use Rattle.ax_format.specs.Tree.{FixedTree, element, group, MemberTree, named, spare, MembersTree, no_members, member_and, KindTree, fixed, extended, counted, by_fx, explicit, compound, SlotTree, spare_slot, subitem, SlotsTree, no_slots, slot_and}
use Rattle.ax_format.specs.declared.content.Content.{Content}
use Rattle.ax_format.specs.declared.content.Content.TheVariants as Meaning
use Rattle.ax_format.specs.declared.content.Sign.{Sign}
use Rattle.ax_format.specs.declared.content.Sign.TheVariants.{Unsigned, Signed}
use Rattle.ax_format.specs.declared.content.TableText.{TableText}
use Rattle.ax_format.specs.declared.kind.Counter.{Counter}
use Rattle.ax_format.specs.declared.kind.Counter.TheVariants.{One, Two}
use Rattle.ax_format.specs.declared.kind.LastPart.{LastPart}
use Rattle.ax_format.specs.declared.kind.LastPart.TheVariants.{WithFx, WithoutFx}
use Rattle.ax_format.specs.declared.spec.UapSlot.{UapSlot}
use Rattle.ax_format.specs.declared.spec.UapSlot.TheVariants as Uap
use Rattle.ax_tokens.specs.Octets.{line_feed, quote}
use Rattle.ax_grammar.specs.Keywords.{keyword_text}
use Rattle.ax_grammar.specs.declared.keyword.Keyword.{Keyword}
use Rattle.ax_grammar.specs.declared.keyword.Keyword.TheVariants as Word

-- ---- single tokens

-- a text stands in quotes
abbrev pub quoted : List ℕ → List ℕ
quoted text = quote ∷ (text ++ quote ∷ [])

-- the keyword of a sign
abbrev pub sign_text : Sign → List ℕ
sign_text Unsigned = keyword_text Word.Unsigned
sign_text Signed = keyword_text Word.Signed

-- texts, and the brace that closes them
abbrev pub closed : List (List ℕ) → List (List ℕ)
closed texts = texts ++ keyword_text Word.Close ∷ []

-- texts in braces, after a keyword
abbrev pub block : Keyword → List (List ℕ) → List (List ℕ)
block word texts = keyword_text word ∷ keyword_text Word.Open ∷ closed texts

-- ---- contents

-- a number of a table and its text
abbrev pub entry_texts : TableText → List (List ℕ)
entry_texts entry = decimal entry.number ∷ quoted entry.text ∷ []

-- a content, after the width of its element
abbrev pub content_texts : Content → List (List ℕ)
content_texts Meaning.Raw = keyword_text Word.Raw ∷ []
content_texts (Meaning.Table entries) = block Word.Table (flat_map entry_texts entries)
content_texts Meaning.Ascii = keyword_text Word.Ascii ∷ []
content_texts Meaning.Icao = keyword_text Word.Icao ∷ []
content_texts Meaning.Octal = keyword_text Word.Octal ∷ []
content_texts (Meaning.Integer sign) = keyword_text Word.Integer ∷ sign_text sign ∷ []
content_texts (Meaning.Quantity scale) =
    keyword_text Word.Quantity ∷ sign_text scale.sign ∷ decimal scale.num ∷ decimal scale.den ∷ quoted scale.unit ∷ []

-- ---- fixed kinds

abbrev mutual
  -- an element, or a group of members
  pub fixed_texts : FixedTree → List (List ℕ)
  fixed_texts (element width content) = keyword_text Word.Element ∷ decimal width ∷ content_texts content
  fixed_texts (group members) = block Word.Group (members_texts members)

  -- a named member, or a spare of a width
  pub member_texts : MemberTree → List (List ℕ)
  member_texts (named name kind) = name ∷ fixed_texts kind
  member_texts (spare width) = keyword_text Word.Spare ∷ decimal width ∷ []

  -- members one after another
  pub members_texts : MembersTree → List (List ℕ)
  members_texts no_members = []
  members_texts (member_and member members) = member_texts member ++ members_texts members

-- a part of an extended or closed kind
abbrev pub part_texts : MembersTree → List (List ℕ)
part_texts members = block Word.Part (members_texts members)

-- ---- kinds

-- a closed kind is an extended one whose last part has no FX bit
abbrev pub extended_word : LastPart → Keyword
extended_word WithFx = Word.Extended
extended_word WithoutFx = Word.Closed

-- a wide kind is a counted one whose counter has two octets
abbrev pub counted_word : Counter → Keyword
counted_word One = Word.Counted
counted_word Two = Word.Wide

abbrev mutual
  -- a kind; a fixed one stands for itself
  pub kind_texts : KindTree → List (List ℕ)
  kind_texts (fixed kind) = fixed_texts kind
  kind_texts (extended last parts) = block (extended_word last) (flat_map part_texts parts)
  kind_texts (counted size kind) = block (counted_word size) (kind_texts kind)
  kind_texts (by_fx kind) = keyword_text Word.ByFx ∷ fixed_texts kind
  kind_texts explicit = keyword_text Word.Explicit ∷ []
  kind_texts (compound slots) = block Word.Compound (slots_texts slots)

  -- a slot of a compound; a spare one is a dash
  pub slot_texts : SlotTree → List (List ℕ)
  slot_texts spare_slot = keyword_text Word.Dash ∷ []
  slot_texts (subitem name kind) = name ∷ kind_texts kind

  -- slots one after another
  pub slots_texts : SlotsTree → List (List ℕ)
  slots_texts no_slots = []
  slots_texts (slot_and slot slots) = slot_texts slot ++ slots_texts slots

-- ---- specifications

-- an item
abbrev pub item_texts : ItemTree → List (List ℕ)
item_texts item = keyword_text Word.Item ∷ item.name ∷ quoted item.title ∷ kind_texts item.kind

-- a slot of the user application profile (UAP); a spare one is a dash
abbrev pub uap_slot_texts : UapSlot → List (List ℕ)
uap_slot_texts Uap.Spare = keyword_text Word.Dash ∷ []
uap_slot_texts (Uap.Item name) = name ∷ []

-- the texts of the tokens that spell a tree
abbrev pub spelled : SpecTree → List (List ℕ)
spelled spec =
    keyword_text Word.Category ∷ three_digits spec.category ∷ keyword_text Word.Edition ∷ quoted spec.edition
    ∷ (block Word.Items (flat_map item_texts spec.items) ++ block Word.Uap (flat_map uap_slot_texts spec.uap))

-- they are printed with one space between, and a line feed after
abbrev pub printed : SpecTree → List ℕ
printed spec = join_with_byte 0x20 (spelled spec) ++ line_feed ∷ []
