-- What is spelled so is read, whatever follows.
use Rattle.std.proofs.Common.{◌≡◌, ℕ, Bool, true, false, cond, List, [], ◌∷◌, ◌++◌, Option, Some, Ok, refl, ◌∙◌, ap, append_assoc, lit≤, lit<}
use Rattle.std.specs.Prelude.{bytes_eq, decimal}
use Rattle.std.specs.List.{AllByRecursion, flat_map}
use Rattle.std.proofs.lemmas.List.Concat.{flat_map-cons}
use Rattle.ax_format.specs.Characters.{IsName, is_name_octet}
use Rattle.ax_format.specs.Specification.{ItemTree, SpecTree}
use Rattle.ax_format.specs.Tree.{FixedTree, element, group, MemberTree, named, spare, MembersTree, no_members, member_and, members_of, KindTree, fixed, extended, counted, by_fx, explicit, compound, SlotTree, spare_slot, subitem, SlotsTree, no_slots, slot_and, slots_of}
use Rattle.ax_format.specs.declared.content.Content.{Content}
use Rattle.ax_format.specs.declared.content.Content.TheVariants as Meaning
use Rattle.ax_format.specs.declared.content.Sign.{Sign}
use Rattle.ax_format.specs.declared.content.TableText.{TableText}
use Rattle.ax_format.specs.declared.kind.Counter.{Counter}
use Rattle.ax_format.specs.declared.kind.Counter.TheVariants.{One, Two}
use Rattle.ax_format.specs.declared.kind.LastPart.{LastPart}
use Rattle.ax_format.specs.declared.kind.LastPart.TheVariants.{WithFx, WithoutFx}
use Rattle.ax_format.specs.declared.spec.UapSlot.{UapSlot}
use Rattle.ax_format.specs.declared.spec.UapSlot.TheVariants as Uap
use Rattle.ax_grammar.specs.Keywords.{keyword_text, keyword_of}
use Rattle.ax_grammar.specs.InRange.{IsText, IsWidth, IsNumber, EntryInRange, ContentInRange, FixedInRange, MemberInRange, MembersInRange, KindInRange, SlotInRange, SlotsInRange, ItemInRange, UapSlotInRange, InRange}
use Rattle.ax_grammar.specs.Spelling.{quoted, sign_text, closed, block, extended_word, counted_word, entry_texts, content_texts, fixed_texts, member_texts, members_texts, part_texts, kind_texts, slot_texts, slots_texts, item_texts, uap_slot_texts, spelled}
use Rattle.ax_format.specs.Paths.{three_digits}
use Rattle.ax_grammar.specs.Tests.{name_of, number_of, category_of, text_of}
use Rattle.ax_grammar.specs.Parsing.{Texts, Parsed, ◌>>=◌, one_of, one_at, expect_at, takes_at, list_at}
use Rattle.ax_grammar.specs.Rules.{keyword_at, name_at, width_at, number_at, text_at, sign_by_word, sign_at, entry_at, scale_at, content_by_word, content_at, fixed_by_word, member_step, fixed_step, fixed_at, member_at, part_at, extended_at, counted_at, kind_by_word, kind_step, kind_at, slot_step, slot_at, item_at, uap_slot_at, spec_at}
use Rattle.ax_grammar.specs.declared.keyword.Keyword.{Keyword}
use Rattle.ax_grammar.specs.declared.keyword.Keyword.TheVariants as Word
use Rattle.ax_grammar.proofs.Recursion.{Shrinks, reads}
use Rattle.ax_grammar.proofs.Lists.{list_is, taking}
use Rattle.ax_grammar.proofs.Recursive.{entry_shrinks, member_shrinks, part_shrinks, slot_shrinks, item_shrinks, uap_slot_shrinks, fixed_is, kind_is}
use Rattle.ax_grammar.proofs.SingleTokens.{name_some, quoted_is}
use Rattle.ax_grammar.proofs.Numbers.{number_some, category_some, number_no_close, name_no_word}

-- ---- single tokens

keyword_found : (word : Keyword) → keyword_of (keyword_text word) ≡ Some word
unfolding keyword_of
keyword_found Word.Category = refl
keyword_found Word.Edition = refl
keyword_found Word.Items = refl
keyword_found Word.Uap = refl
keyword_found Word.Item = refl
keyword_found Word.Element = refl
keyword_found Word.Group = refl
keyword_found Word.Extended = refl
keyword_found Word.Closed = refl
keyword_found Word.Counted = refl
keyword_found Word.Wide = refl
keyword_found Word.ByFx = refl
keyword_found Word.Explicit = refl
keyword_found Word.Compound = refl
keyword_found Word.Part = refl
keyword_found Word.Spare = refl
keyword_found Word.Dash = refl
keyword_found Word.Raw = refl
keyword_found Word.Table = refl
keyword_found Word.Ascii = refl
keyword_found Word.Icao = refl
keyword_found Word.Octal = refl
keyword_found Word.Integer = refl
keyword_found Word.Quantity = refl
keyword_found Word.Unsigned = refl
keyword_found Word.Signed = refl
keyword_found Word.Expansion = refl
keyword_found Word.Fx = refl
keyword_found Word.Fixed = refl
keyword_found Word.Open = refl
keyword_found Word.Close = refl

pub some_at : {A : Type 0} (test : List ℕ → Option A) (text : List ℕ) (a : A) (rest : Texts) → test text ≡ Some a → one_at test (text ∷ rest) ≡ Ok (a, rest)
some_at test text a rest e = ap (λ o. one_of o text rest) e

pub keyword_read : (word : Keyword) (rest : Texts) → keyword_at (keyword_text word ∷ rest) ≡ Ok (word, rest)
keyword_read word rest = some_at keyword_of (keyword_text word) word rest (keyword_found word)

name_read : (name : List ℕ) (rest : Texts) → IsName name → name_at (name ∷ rest) ≡ Ok (name, rest)
name_read name rest h = some_at name_of name name rest (name_some name h)

pub text_read : (text : List ℕ) (rest : Texts) → IsText text → text_at (quoted text ∷ rest) ≡ Ok (text, rest)
text_read text rest h = some_at text_of (quoted text) text rest (quoted_is text h)

width_read : (width : ℕ) (rest : Texts) → IsWidth width → width_at (decimal width ∷ rest) ≡ Ok (width, rest)
width_read width rest h = some_at (number_of 9) (decimal width) width rest (number_some 9 width (lit< tt) (lit≤ tt) h)

number_read : (number : ℕ) (rest : Texts) → IsNumber number → number_at (decimal number ∷ rest) ≡ Ok (number, rest)
number_read number rest h = some_at (number_of 18) (decimal number) number rest (number_some 18 number (lit< tt) (lit≤ tt) h)

-- ---- lists

-- a text that doesn't close a list
abbrev Goes : Texts → Type 0
Goes texts = takes_at Word.Close texts ≡ Ok (false, texts)

list_closed : {A : Type 0} (p : Texts → Parsed A) → Shrinks p → (rest : Texts) → list_at p (keyword_text Word.Close ∷ rest) ≡ Ok ([], rest)
list_closed p s rest = list_is p s (keyword_text Word.Close ∷ rest)

list_more : {A : Type 0} (p : Texts → Parsed A) → Shrinks p → (texts after rest : Texts) (a : A) (others : List A) → Goes texts → p texts ≡ Ok (a, after) → list_at p after ≡ Ok (others, rest) → list_at p texts ≡ Ok (a ∷ others, rest)
list_more p s texts after rest a others goes e f = list_is p s texts ∙ rw (goes, e, f) refl

-- elements, each read from its texts
list_read : {A : Type 0} (p : Texts → Parsed A) → Shrinks p → (spell : A → Texts) (Fits : A → Type 0) → ((a : A) (rest : Texts) → Fits a → p (spell a ++ rest) ≡ Ok (a, rest)) → ((a : A) (rest : Texts) → Fits a → Goes (spell a ++ rest))
    → (xs : List A) (rest : Texts) → AllByRecursion Fits xs → list_at p (closed (flat_map spell xs) ++ rest) ≡ Ok (xs, rest)
list_read p s spell Fits each goes [] rest h = list_closed p s rest
list_read p s spell Fits each goes (x ∷ xs) rest h =
    let front : closed (flat_map spell (x ∷ xs)) ++ rest ≡ spell x ++ (closed (flat_map spell xs) ++ rest)
    = rw (flat_map-cons, append_assoc, append_assoc, append_assoc) refl in
    ap (list_at p) front ∙ list_more p s (spell x ++ (closed (flat_map spell xs) ++ rest)) (closed (flat_map spell xs) ++ rest) rest x xs (goes x (closed (flat_map spell xs) ++ rest) h.0) (each x (closed (flat_map spell xs) ++ rest) h.0) (list_read p s spell Fits each goes xs rest h.1)

-- ---- contents

sign_read : (sign : Sign) (rest : Texts) → sign_at (sign_text sign ∷ rest) ≡ Ok (sign, rest)
unfolding sign_at
sign_read Sign.Unsigned rest = ap (λ r. r >>= λ w. sign_by_word w.0 (keyword_text Word.Unsigned ∷ rest) w.1) (keyword_read Word.Unsigned rest)
sign_read Sign.Signed rest = ap (λ r. r >>= λ w. sign_by_word w.0 (keyword_text Word.Signed ∷ rest) w.1) (keyword_read Word.Signed rest)

entry_read : (entry : TableText) (rest : Texts) → EntryInRange entry → entry_at (entry_texts entry ++ rest) ≡ Ok (entry, rest)
unfolding entry_at
entry_read entry rest h = rw (number_read entry.number (quoted entry.text ∷ rest) h.0, text_read entry.text rest h.1) refl

no_close : (b : Bool) (text : List ℕ) (rest : Texts) → b ≡ false → cond b (taking true rest) (taking false (text ∷ rest)) ≡ Ok (false, text ∷ rest)
no_close b text rest e = ap (λ x. cond x (taking true rest) (taking false (text ∷ rest))) e

name_goes : (name : List ℕ) (rest : Texts) → IsName name → Goes (name ∷ rest)
name_goes name rest h = no_close (bytes_eq (125 ∷ []) name) name rest (name_no_word 125 [] name refl h)

entry_goes : (entry : TableText) (rest : Texts) → EntryInRange entry → Goes (entry_texts entry ++ rest)
entry_goes entry rest h = no_close (bytes_eq (125 ∷ []) (decimal entry.number)) (decimal entry.number) (quoted entry.text ∷ rest) (number_no_close entry.number h.0)

after_read : (word : Keyword) (rest : Texts) → content_at (keyword_text word ∷ rest) ≡ content_by_word word (keyword_text word ∷ rest) rest
unfolding content_at
after_read word rest = ap (λ r. r >>= λ w. content_by_word w.0 (keyword_text word ∷ rest) w.1) (keyword_read word rest)

content_read : (content : Content) (rest : Texts) → ContentInRange content → content_at (content_texts content ++ rest) ≡ Ok (content, rest)
unfolding scale_at
content_read Meaning.Raw rest h = after_read Word.Raw rest
content_read (Meaning.Table entries) rest h =
    let texts = closed (flat_map entry_texts entries) ++ rest in
    after_read Word.Table (keyword_text Word.Open ∷ texts) ∙ ap (λ r. r >>= λ es. Ok (Meaning.Table es.0, es.1)) (list_read entry_at entry_shrinks entry_texts EntryInRange entry_read entry_goes entries rest h)
content_read Meaning.Ascii rest h = after_read Word.Ascii rest
content_read Meaning.Icao rest h = after_read Word.Icao rest
content_read Meaning.Octal rest h = after_read Word.Octal rest
content_read (Meaning.Integer sign) rest h = after_read Word.Integer (sign_text sign ∷ rest) ∙ ap (λ r. r >>= λ s. Ok (Meaning.Integer s.0, s.1)) (sign_read sign rest)
content_read (Meaning.Quantity scale) rest h =
    let d = quoted scale.unit ∷ rest in
    let c = decimal scale.den ∷ d in
    let b = decimal scale.num ∷ c in
    after_read Word.Quantity (sign_text scale.sign ∷ b)
    ∙ rw (sign_read scale.sign b, number_read scale.num c h.0, number_read scale.den d h.1, text_read scale.unit rest h.2) refl

-- ---- fixed kinds

fixed_by_word_read : (word : Keyword) (rest : Texts) → fixed_at (keyword_text word ∷ rest) ≡ fixed_by_word fixed_at word (keyword_text word ∷ rest) rest
unfolding fixed_step
fixed_by_word_read word rest = fixed_is (keyword_text word ∷ rest) ∙ ap (λ r. r >>= λ w. fixed_by_word fixed_at w.0 (keyword_text word ∷ rest) w.1) (keyword_read word rest)

abbrev members_list : MembersTree → List MemberTree
members_list no_members = []
members_list (member_and m ms) = m ∷ members_list ms

members_back : (ms : MembersTree) → members_of (members_list ms) ≡ ms
members_back no_members = refl
members_back (member_and m ms) = ap (member_and m) (members_back ms)

regroup : (a b c rest : Texts) → ((a ++ b) ++ c) ++ rest ≡ a ++ ((b ++ c) ++ rest)
regroup a b c rest = ap (λ t. t ++ rest) (append_assoc a b c) ∙ append_assoc a (b ++ c) rest

member_goes : (m : MemberTree) (rest : Texts) → MemberInRange m → Goes (member_texts m ++ rest)
member_goes (named name f) rest h = name_goes name (fixed_texts f ++ rest) h.0
member_goes (spare width) rest h = refl

takes_name : (word : Keyword) (first : ℕ) (letters name : List ℕ) (rest : Texts) → keyword_text word ≡ first ∷ letters → is_name_octet first ≡ false → IsName name → takes_at word (name ∷ rest) ≡ Ok (false, name ∷ rest)
takes_name word first letters name rest e n h = no_close (bytes_eq (keyword_text word) name) name rest (ap (λ w. bytes_eq w name) e ∙ name_no_word first letters name n h)

members_whole : (ms : MembersTree) (rest : Texts) → list_at member_at (closed (members_texts ms) ++ rest) ≡ Ok (members_list ms, rest) → (list_at (member_step fixed_at) (closed (members_texts ms) ++ rest) >>= λ i. reads (group (members_of i.0)) i.1) ≡ Ok (group ms, rest)
unfolding member_at
members_whole ms rest e = ap (λ r. r >>= λ i. Ok (group (members_of i.0), i.1)) e ∙ ap (λ m. Ok (group m, rest)) (members_back ms)

mutual
  unfolding member_at member_step

  pub fixed_read : (f : FixedTree) (rest : Texts) → FixedInRange f → fixed_at (fixed_texts f ++ rest) ≡ Ok (f, rest)
  fixed_read (element width content) rest h =
      let a = content_texts content ++ rest in
      fixed_by_word_read Word.Element (decimal width ∷ a) ∙ rw (width_read width a h.0, content_read content rest h.1) refl
  fixed_read (group ms) rest h =
      fixed_by_word_read Word.Group (keyword_text Word.Open ∷ (closed (members_texts ms) ++ rest))
      ∙ members_whole ms rest (members_read ms rest h)

  pub member_read : (m : MemberTree) (rest : Texts) → MemberInRange m → member_at (member_texts m ++ rest) ≡ Ok (m, rest)
  member_read (named name f) rest h =
      let a = fixed_texts f ++ rest in
      rw (takes_name Word.Spare 115 (112 ∷ 97 ∷ 114 ∷ 101 ∷ []) name a refl refl h.0, name_read name a h.0, fixed_read f rest h.1) refl
  member_read (spare width) rest h = rw (width_read width rest h) refl

  pub members_read : (ms : MembersTree) (rest : Texts) → MembersInRange ms → list_at member_at (closed (members_texts ms) ++ rest) ≡ Ok (members_list ms, rest)
  members_read no_members rest h = list_closed member_at member_shrinks rest
  members_read (member_and m ms) rest h =
      let others = closed (members_texts ms) ++ rest in
      ap (list_at member_at) (regroup (member_texts m) (members_texts ms) (keyword_text Word.Close ∷ []) rest)
      ∙ list_more member_at member_shrinks (member_texts m ++ others) others rest m (members_list ms) (member_goes m others h.0) (member_read m others h.0) (members_read ms rest h.1)

-- ---- kinds

part_read : (ms : MembersTree) (rest : Texts) → MembersInRange ms → part_at (part_texts ms ++ rest) ≡ Ok (ms, rest)
unfolding part_at
part_read ms rest h = ap (λ r. r >>= λ m. Ok (members_of m.0, m.1)) (members_read ms rest h) ∙ ap (λ m. Ok (m, rest)) (members_back ms)

part_goes : (ms : MembersTree) (rest : Texts) → MembersInRange ms → Goes (part_texts ms ++ rest)
part_goes ms rest h = refl

kind_by_word_read : (word : Keyword) (rest : Texts) → kind_at (keyword_text word ∷ rest) ≡ kind_by_word kind_at word (keyword_text word ∷ rest) rest
unfolding kind_step
kind_by_word_read word rest = kind_is (keyword_text word ∷ rest) ∙ ap (λ r. r >>= λ w. kind_by_word kind_at w.0 (keyword_text word ∷ rest) w.1) (keyword_read word rest)

extended_word_read : (last : LastPart) (rest : Texts) → kind_at (keyword_text (extended_word last) ∷ rest) ≡ extended_at last rest
extended_word_read WithFx rest = kind_by_word_read Word.Extended rest
extended_word_read WithoutFx rest = kind_by_word_read Word.Closed rest

counted_word_read : (size : Counter) (rest : Texts) → kind_at (keyword_text (counted_word size) ∷ rest) ≡ counted_at size rest
counted_word_read One rest = kind_by_word_read Word.Counted rest
counted_word_read Two rest = kind_by_word_read Word.Wide rest

abbrev pub slots_list : SlotsTree → List SlotTree
slots_list no_slots = []
slots_list (slot_and s ss) = s ∷ slots_list ss

pub slots_back : (ss : SlotsTree) → slots_of (slots_list ss) ≡ ss
slots_back no_slots = refl
slots_back (slot_and s ss) = ap (slot_and s) (slots_back ss)

slot_goes : (s : SlotTree) (rest : Texts) → SlotInRange s → Goes (slot_texts s ++ rest)
slot_goes spare_slot rest h = refl
slot_goes (subitem name k) rest h = name_goes name (kind_texts k ++ rest) h.0

-- a fixed kind, as its own keyword leads to it
fixed_kind_read : (f : FixedTree) (rest : Texts) → FixedInRange f → kind_at (fixed_texts f ++ rest) ≡ Ok (fixed f, rest)
fixed_kind_read (element width content) rest h =
    kind_by_word_read Word.Element (decimal width ∷ (content_texts content ++ rest)) ∙ ap (λ r. r >>= λ f. Ok (fixed f.0, f.1)) (fixed_read (element width content) rest h)
fixed_kind_read (group ms) rest h =
    kind_by_word_read Word.Group (keyword_text Word.Open ∷ (closed (members_texts ms) ++ rest)) ∙ ap (λ r. r >>= λ f. Ok (fixed f.0, f.1)) (fixed_read (group ms) rest h)

slots_whole : (ss : SlotsTree) (rest : Texts) → list_at slot_at (closed (slots_texts ss) ++ rest) ≡ Ok (slots_list ss, rest) → (list_at (slot_step kind_at) (closed (slots_texts ss) ++ rest) >>= λ i. reads (compound (slots_of i.0)) i.1) ≡ Ok (compound ss, rest)
unfolding slot_at
slots_whole ss rest e = ap (λ r. r >>= λ i. Ok (compound (slots_of i.0), i.1)) e ∙ ap (λ s. Ok (compound s, rest)) (slots_back ss)

mutual
  unfolding slot_at slot_step

  pub kind_read : (k : KindTree) (rest : Texts) → KindInRange k → kind_at (kind_texts k ++ rest) ≡ Ok (k, rest)
  kind_read (fixed f) rest h = fixed_kind_read f rest h
  kind_read (extended last ps) rest h =
      extended_word_read last (keyword_text Word.Open ∷ (closed (flat_map part_texts ps) ++ rest))
      ∙ ap (λ r. r >>= λ p. Ok (extended last p.0, p.1)) (list_read part_at part_shrinks part_texts MembersInRange part_read part_goes ps rest h)
  kind_read (counted size k) rest h =
      let close = keyword_text Word.Close ∷ rest in
      let front : closed (kind_texts k) ++ rest ≡ kind_texts k ++ close = append_assoc (kind_texts k) (keyword_text Word.Close ∷ []) rest in
      counted_word_read size (keyword_text Word.Open ∷ (closed (kind_texts k) ++ rest))
      ∙ ap (λ t. kind_at t >>= λ i. expect_at Word.Close i.1 >>= λ c. Ok (counted size i.0, c.1)) front
      ∙ ap (λ r. r >>= λ i. expect_at Word.Close i.1 >>= λ c. Ok (counted size i.0, c.1)) (kind_read k close h)
  kind_read (by_fx f) rest h = kind_by_word_read Word.ByFx (fixed_texts f ++ rest) ∙ ap (λ r. r >>= λ i. Ok (by_fx i.0, i.1)) (fixed_read f rest h)
  kind_read explicit rest h = kind_by_word_read Word.Explicit rest
  kind_read (compound ss) rest h =
      kind_by_word_read Word.Compound (keyword_text Word.Open ∷ (closed (slots_texts ss) ++ rest))
      ∙ slots_whole ss rest (slots_read ss rest h)

  pub slot_read : (s : SlotTree) (rest : Texts) → SlotInRange s → slot_at (slot_texts s ++ rest) ≡ Ok (s, rest)
  slot_read spare_slot rest h = refl
  slot_read (subitem name k) rest h =
      let a = kind_texts k ++ rest in
      rw (takes_name Word.Dash 45 [] name a refl refl h.0, name_read name a h.0, kind_read k rest h.1) refl

  pub slots_read : (ss : SlotsTree) (rest : Texts) → SlotsInRange ss → list_at slot_at (closed (slots_texts ss) ++ rest) ≡ Ok (slots_list ss, rest)
  slots_read no_slots rest h = list_closed slot_at slot_shrinks rest
  slots_read (slot_and s ss) rest h =
      let others = closed (slots_texts ss) ++ rest in
      ap (list_at slot_at) (regroup (slot_texts s) (slots_texts ss) (keyword_text Word.Close ∷ []) rest)
      ∙ list_more slot_at slot_shrinks (slot_texts s ++ others) others rest s (slots_list ss) (slot_goes s others h.0) (slot_read s others h.0) (slots_read ss rest h.1)

-- ---- specifications

item_read : (item : ItemTree) (rest : Texts) → ItemInRange item → item_at (item_texts item ++ rest) ≡ Ok (item, rest)
unfolding item_at
item_read item rest h =
    let b = kind_texts item.kind ++ rest in
    let a = quoted item.title ∷ b in
    rw (name_read item.name a h.0, text_read item.title b h.1, kind_read item.kind rest h.2) refl

item_goes : (item : ItemTree) (rest : Texts) → ItemInRange item → Goes (item_texts item ++ rest)
item_goes item rest h = refl

uap_slot_read : (slot : UapSlot) (rest : Texts) → UapSlotInRange slot → uap_slot_at (uap_slot_texts slot ++ rest) ≡ Ok (slot, rest)
unfolding uap_slot_at
uap_slot_read Uap.Spare rest h = refl
uap_slot_read (Uap.Item name) rest h = rw (takes_name Word.Dash 45 [] name rest refl refl h, name_read name rest h) refl

uap_slot_goes : (slot : UapSlot) (rest : Texts) → UapSlotInRange slot → Goes (uap_slot_texts slot ++ rest)
uap_slot_goes Uap.Spare rest h = refl
uap_slot_goes (Uap.Item name) rest h = name_goes name rest h

pub spec_read : (spec : SpecTree) (rest : Texts) → InRange spec → spec_at (spelled spec ++ rest) ≡ Ok (spec, rest)
unfolding spec_at
spec_read spec rest h =
    let uap = closed (flat_map uap_slot_texts spec.uap) ++ rest in
    let following = keyword_text Word.Uap ∷ keyword_text Word.Open ∷ uap in
    let items = closed (flat_map item_texts spec.items) ++ following in
    let c = keyword_text Word.Items ∷ keyword_text Word.Open ∷ items in
    let b = keyword_text Word.Edition ∷ quoted spec.edition ∷ c in
    let front : spelled spec ++ rest ≡ keyword_text Word.Category ∷ three_digits spec.category ∷ b
    = ap (λ t. keyword_text Word.Category ∷ three_digits spec.category ∷ keyword_text Word.Edition ∷ quoted spec.edition ∷ t) (append_assoc (block Word.Items (flat_map item_texts spec.items)) (block Word.Uap (flat_map uap_slot_texts spec.uap)) rest) in
    ap spec_at front
    ∙ rw (
      some_at category_of (three_digits spec.category) spec.category b (category_some spec.category h.category),
      text_read spec.edition c h.edition,
      list_read item_at item_shrinks item_texts ItemInRange item_read item_goes spec.items following h.items,
      list_read uap_slot_at uap_slot_shrinks uap_slot_texts UapSlotInRange uap_slot_read uap_slot_goes spec.uap rest h.uap,
    ) refl
