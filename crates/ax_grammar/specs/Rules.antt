-- A reader for each rule of the grammar.
use Rattle.std.specs.Prelude.{ℕ, if◌then◌else◌, List, Ok, Err}
use Rattle.ax_format.specs.Specification.{ItemTree, SpecTree}
use Rattle.ax_format.specs.Tree.{FixedTree, element, group, MemberTree, named, spare, MembersTree, members_of, KindTree, fixed, extended, counted, by_fx, explicit, compound, SlotTree, spare_slot, subitem, slots_of}
use Rattle.ax_format.specs.declared.content.Content.{Content}
use Rattle.ax_format.specs.declared.content.Content.TheVariants as Meaning
use Rattle.ax_format.specs.declared.content.Scale.{Scale}
use Rattle.ax_format.specs.declared.content.Sign.{Sign}
use Rattle.ax_format.specs.declared.content.TableText.{TableText}
use Rattle.ax_format.specs.declared.kind.Counter.{Counter}
use Rattle.ax_format.specs.declared.kind.Counter.TheVariants.{One, Two}
use Rattle.ax_format.specs.declared.kind.LastPart.{LastPart}
use Rattle.ax_format.specs.declared.kind.LastPart.TheVariants.{WithFx, WithoutFx}
use Rattle.ax_format.specs.declared.spec.UapSlot.{UapSlot}
use Rattle.ax_format.specs.declared.spec.UapSlot.TheVariants as Uap
use Rattle.ax_grammar.specs.Keywords.{keyword_of}
use Rattle.ax_grammar.specs.Parsing.{Texts, Parsed, ◌>>=◌, one_at, expect_at, takes_at, recursive, braced_at, all_of}
use Rattle.ax_grammar.specs.Tests.{name_of, number_of, category_of, text_of}
use Rattle.ax_grammar.specs.declared.keyword.Keyword.{Keyword}
use Rattle.ax_grammar.specs.declared.keyword.Keyword.TheVariants as Word

-- ---- single tokens

-- the keyword that a text is
abbrev pub keyword_at : Texts → Parsed Keyword
keyword_at texts = one_at keyword_of texts

-- a name
abbrev pub name_at : Texts → Parsed (List ℕ)
name_at texts = one_at name_of texts

-- a category
abbrev pub category_at : Texts → Parsed ℕ
category_at texts = one_at category_of texts

-- a width
abbrev pub width_at : Texts → Parsed ℕ
width_at texts = one_at (number_of 9) texts

-- a number of a scale or a table
abbrev pub number_at : Texts → Parsed ℕ
number_at texts = one_at (number_of 18) texts

-- a text in quotes
abbrev pub text_at : Texts → Parsed (List ℕ)
text_at texts = one_at text_of texts

-- ---- contents

-- what a sign's keyword says; texts begin with it
abbrev pub sign_by_word : Keyword → Texts → Texts → Parsed Sign
sign_by_word Word.Unsigned texts rest = Ok (Sign.Unsigned, rest)
sign_by_word Word.Signed texts rest = Ok (Sign.Signed, rest)
sign_by_word word texts rest = Err texts

-- a sign
unfoldable pub sign_at : Texts → Parsed Sign
sign_at texts = do
  word ← keyword_at texts
  sign_by_word word.0 texts word.1

-- a number and its text
unfoldable pub entry_at : Texts → Parsed TableText
entry_at texts = do
  number ← number_at texts
  text ← text_at number.1
  Ok (record { number = number.0; text = text.0 }, text.1)

-- a sign, a numerator, a denominator and a unit
unfoldable pub scale_at : Texts → Parsed Scale
scale_at texts = do
  sign ← sign_at texts
  num ← number_at sign.1
  den ← number_at num.1
  unit ← text_at den.1
  Ok (record { sign = sign.0; num = num.0; den = den.0; unit = unit.0 }, unit.1)

-- what follows a content's keyword; texts begin with it
abbrev pub content_by_word : Keyword → Texts → Texts → Parsed Content
content_by_word Word.Raw texts rest = Ok (Meaning.Raw, rest)
content_by_word Word.Table texts rest = do
  entries ← braced_at entry_at rest
  Ok (Meaning.Table entries.0, entries.1)
content_by_word Word.Ascii texts rest = Ok (Meaning.Ascii, rest)
content_by_word Word.Icao texts rest = Ok (Meaning.Icao, rest)
content_by_word Word.Octal texts rest = Ok (Meaning.Octal, rest)
content_by_word Word.Integer texts rest = do
  sign ← sign_at rest
  Ok (Meaning.Integer sign.0, sign.1)
content_by_word Word.Quantity texts rest = do
  scale ← scale_at rest
  Ok (Meaning.Quantity scale.0, scale.1)
content_by_word word texts rest = Err texts

-- a content
unfoldable pub content_at : Texts → Parsed Content
content_at texts = do
  word ← keyword_at texts
  content_by_word word.0 texts word.1

-- ---- fixed kinds

-- a member, where kinds reads fixed kinds
unfoldable pub member_step : (Texts → Parsed FixedTree) → Texts → Parsed MemberTree
member_step kinds texts = do
  spares ← takes_at Word.Spare texts
  if spares.0 then (do
    width ← width_at spares.1
    Ok (spare width.0, width.1)) else (do
      name ← name_at spares.1
      kind ← kinds name.1
      Ok (named name.0 kind.0, kind.1))

-- what follows a fixed kind's keyword; texts begin with it
abbrev pub fixed_by_word : (Texts → Parsed FixedTree) → Keyword → Texts → Texts → Parsed FixedTree
fixed_by_word kinds Word.Element texts rest = do
  width ← width_at rest
  content ← content_at width.1
  Ok (element width.0 content.0, content.1)
fixed_by_word kinds Word.Group texts rest = do
  members ← braced_at (member_step kinds) rest
  Ok (group (members_of members.0), members.1)
fixed_by_word kinds word texts rest = Err texts

-- a fixed kind, where kinds reads those inside
unfoldable pub fixed_step : (Texts → Parsed FixedTree) → Texts → Parsed FixedTree
fixed_step kinds texts = do
  word ← keyword_at texts
  fixed_by_word kinds word.0 texts word.1

-- a fixed kind
unfoldable pub fixed_at : Texts → Parsed FixedTree
fixed_at = recursive fixed_step

-- a member
unfoldable pub member_at : Texts → Parsed MemberTree
member_at = member_step fixed_at

-- ---- kinds

-- a part of an extended or closed kind
unfoldable pub part_at : Texts → Parsed MembersTree
part_at texts = do
  word ← expect_at Word.Part texts
  members ← braced_at member_at word.1
  Ok (members_of members.0, members.1)

-- what follows the keyword of an extended or closed kind
abbrev pub extended_at : LastPart → Texts → Parsed KindTree
extended_at last texts = do
  parts ← braced_at part_at texts
  Ok (extended last parts.0, parts.1)

-- what follows the keyword of a counted or wide kind, where kinds reads kinds
abbrev pub counted_step : Counter → (Texts → Parsed KindTree) → Texts → Parsed KindTree
counted_step size kinds texts = do
  opens ← expect_at Word.Open texts
  kind ← kinds opens.1
  closes ← expect_at Word.Close kind.1
  Ok (counted size kind.0, closes.1)

-- a slot of a compound, where kinds reads kinds
unfoldable pub slot_step : (Texts → Parsed KindTree) → Texts → Parsed SlotTree
slot_step kinds texts = do
  spares ← takes_at Word.Dash texts
  if spares.0 then Ok (spare_slot, spares.1) else (do
    name ← name_at spares.1
    kind ← kinds name.1
    Ok (subitem name.0 kind.0, kind.1))

-- what follows a kind's keyword; texts begin with it
abbrev pub kind_by_word : (Texts → Parsed KindTree) → Keyword → Texts → Texts → Parsed KindTree
kind_by_word kinds Word.Extended texts rest = extended_at WithFx rest
kind_by_word kinds Word.Closed texts rest = extended_at WithoutFx rest
kind_by_word kinds Word.Counted texts rest = counted_step One kinds rest
kind_by_word kinds Word.Wide texts rest = counted_step Two kinds rest
kind_by_word kinds Word.ByFx texts rest = do
  kind ← fixed_at rest
  Ok (by_fx kind.0, kind.1)
kind_by_word kinds Word.Explicit texts rest = Ok (explicit, rest)
kind_by_word kinds Word.Compound texts rest = do
  slots ← braced_at (slot_step kinds) rest
  Ok (compound (slots_of slots.0), slots.1)
kind_by_word kinds word texts rest = do
  kind ← fixed_at texts
  Ok (fixed kind.0, kind.1)

-- a kind, where kinds reads those inside
unfoldable pub kind_step : (Texts → Parsed KindTree) → Texts → Parsed KindTree
kind_step kinds texts = do
  word ← keyword_at texts
  kind_by_word kinds word.0 texts word.1

-- a kind
unfoldable pub kind_at : Texts → Parsed KindTree
kind_at = recursive kind_step

-- what follows the keyword of a counted or wide kind
abbrev pub counted_at : Counter → Texts → Parsed KindTree
counted_at size = counted_step size kind_at

-- a slot of a compound
unfoldable pub slot_at : Texts → Parsed SlotTree
slot_at = slot_step kind_at

-- ---- specifications

-- an item
unfoldable pub item_at : Texts → Parsed ItemTree
item_at texts = do
  word ← expect_at Word.Item texts
  name ← name_at word.1
  title ← text_at name.1
  kind ← kind_at title.1
  Ok (record { name = name.0; title = title.0; kind = kind.0 }, kind.1)

-- a slot of the UAP
unfoldable pub uap_slot_at : Texts → Parsed UapSlot
uap_slot_at texts = do
  spares ← takes_at Word.Dash texts
  if spares.0 then Ok (Uap.Spare, spares.1) else (do
    name ← name_at spares.1
    Ok (Uap.Item name.0, name.1))

-- a specification; texts may follow it
unfoldable pub spec_at : Texts → Parsed SpecTree
spec_at texts = do
  word ← expect_at Word.Category texts
  category ← category_at word.1
  word ← expect_at Word.Edition category.1
  edition ← text_at word.1
  word ← expect_at Word.Items edition.1
  items ← braced_at item_at word.1
  word ← expect_at Word.Uap items.1
  uap ← braced_at uap_slot_at word.1
  Ok (record { category = category.0; edition = edition.0; items = items.0; uap = uap.0 }, uap.1)

-- all of the texts
unfoldable pub whole_at : Texts → Parsed SpecTree
whole_at texts = all_of spec_at texts
