-- The texts of a spelling are texts of tokens.
use Rattle.std.proofs.Common.{◌≡◌, ℕ, ◌+◌, ◌/◌, ◌%◌, ◌^◌, ◌<◌, ◌≤◌, Bool, true, false, cond, eqb, List, [], ◌∷◌, ◌++◌, length, map, refl, sym, ◌∙◌, ap, subst, lit<, arith, inl, inr}
use Rattle.std.specs.Prelude.{decimal}
use Rattle.std.specs.List.{AllByRecursion, flat_map, list_all, join_with_byte}
use Rattle.std.proofs.lemmas.Bool.{and_parts, and_from, leb-true, le-leb, ne_eqb, not_from_false, or_cases}
use Rattle.std.proofs.lemmas.Fmt.{digits_decimal, decimal_nonempty}
use Rattle.std.proofs.lemmas.List.Concat.{flat_map-cons}
use Rattle.ax_format.specs.Characters.{IsName, is_name_octet}
use Rattle.ax_format.specs.Specification.{ItemTree, SpecTree}
use Rattle.ax_format.specs.Tree.{FixedTree, element, group, MemberTree, named, spare, MembersTree, no_members, member_and, KindTree, fixed, extended, counted, by_fx, explicit, compound, SlotTree, spare_slot, subitem, SlotsTree, no_slots, slot_and}
use Rattle.ax_format.specs.declared.content.Content.{Content}
use Rattle.ax_format.specs.declared.content.Content.TheVariants as Meaning
use Rattle.ax_format.specs.declared.content.Sign.{Sign}
use Rattle.ax_format.specs.declared.content.TableText.{TableText}
use Rattle.ax_format.specs.declared.spec.UapSlot.{UapSlot}
use Rattle.ax_format.specs.declared.spec.UapSlot.TheVariants as Uap
use Rattle.ax_tokens.specs.Octets.{line_feed, is_word_octet}
use Rattle.ax_tokens.specs.Depth.{IsWithin}
use Rattle.ax_tokens.specs.Lexing.{IsTokenText, AreTokensOf}
use Rattle.ax_tokens.specs.Printing.{AreTokenTexts, placed}
use Rattle.ax_tokens.specs.declared.token.TokenKind.{TokenKind}
use Rattle.ax_tokens.proofs.Printed.{printed_line}
use Rattle.ax_grammar.specs.Answers.{texts_of, SpellsSpec}
use Rattle.ax_grammar.specs.InRange.{IsText, IsWidth, EntryInRange, ContentInRange, FixedInRange, MemberInRange, MembersInRange, KindInRange, SlotInRange, SlotsInRange, ItemInRange, UapSlotInRange, InRange}
use Rattle.ax_grammar.specs.Keywords.{keyword_text}
use Rattle.ax_grammar.specs.Printing.{kind_of, spelled_tokens}
use Rattle.ax_grammar.specs.Spelling.{quoted, sign_text, closed, block, extended_word, counted_word, entry_texts, content_texts, fixed_texts, member_texts, members_texts, part_texts, kind_texts, slot_texts, slots_texts, item_texts, uap_slot_texts, spelled, printed}
use Rattle.ax_format.specs.Paths.{three_digits}
use Rattle.ax_grammar.specs.Rules.{whole_at}
use Rattle.ax_grammar.specs.Tests.{is_digit}
use Rattle.ax_grammar.specs.declared.keyword.Keyword.{Keyword}
use Rattle.ax_grammar.specs.declared.keyword.Keyword.TheVariants as Word
use Rattle.ax_grammar.proofs.BadTokens.{whole_read}
use Rattle.ax_grammar.proofs.Numbers.{model, digit}
use Rattle.ax_grammar.proofs.Recursion.{value_is}
use Rattle.ax_grammar.proofs.SingleTokens.{are_string}

abbrev IsToken : List ℕ → Type 0
IsToken text = IsTokenText (kind_of text) text

abbrev AreTokens : List (List ℕ) → Type 0
AreTokens = AllByRecursion IsToken

both : (a b : List (List ℕ)) → AreTokens a → AreTokens b → AreTokens (a ++ b)
both [] b h k = k
both (text ∷ a) b h k = (h.0, both a b h.1 k)

each : {A : Type 0} (spell : A → List (List ℕ)) (Fits : A → Type 0) → ((a : A) → Fits a → AreTokens (spell a)) → (xs : List A) → AllByRecursion Fits xs → AreTokens (flat_map spell xs)
each spell Fits h [] k = tt
each spell Fits h (x ∷ xs) k = subst AreTokens (sym (flat_map-cons spell x xs)) (both (spell x) (flat_map spell xs) (h x k.0) (each spell Fits h xs k.1))

-- ---- single tokens

keyword_token : (word : Keyword) → IsToken (keyword_text word)
unfolding is_word_octet
keyword_token Word.Open = refl
keyword_token Word.Close = refl
keyword_token Word.Category = (lit< tt, refl)
keyword_token Word.Edition = (lit< tt, refl)
keyword_token Word.Items = (lit< tt, refl)
keyword_token Word.Uap = (lit< tt, refl)
keyword_token Word.Item = (lit< tt, refl)
keyword_token Word.Element = (lit< tt, refl)
keyword_token Word.Group = (lit< tt, refl)
keyword_token Word.Extended = (lit< tt, refl)
keyword_token Word.Closed = (lit< tt, refl)
keyword_token Word.Counted = (lit< tt, refl)
keyword_token Word.Wide = (lit< tt, refl)
keyword_token Word.ByFx = (lit< tt, refl)
keyword_token Word.Explicit = (lit< tt, refl)
keyword_token Word.Compound = (lit< tt, refl)
keyword_token Word.Part = (lit< tt, refl)
keyword_token Word.Spare = (lit< tt, refl)
keyword_token Word.Dash = (lit< tt, refl)
keyword_token Word.Raw = (lit< tt, refl)
keyword_token Word.Table = (lit< tt, refl)
keyword_token Word.Ascii = (lit< tt, refl)
keyword_token Word.Icao = (lit< tt, refl)
keyword_token Word.Octal = (lit< tt, refl)
keyword_token Word.Integer = (lit< tt, refl)
keyword_token Word.Quantity = (lit< tt, refl)
keyword_token Word.Unsigned = (lit< tt, refl)
keyword_token Word.Signed = (lit< tt, refl)
keyword_token Word.Expansion = (lit< tt, refl)
keyword_token Word.Fx = (lit< tt, refl)
keyword_token Word.Fixed = (lit< tt, refl)

-- a letter or digit is an octet of a Word, and begins no other token
abbrev IsPlain : ℕ → Type 0
IsPlain x = (48 ≤ x) × (x ≤ 90)

plain_word : (x : ℕ) → IsPlain x → is_word_octet x ≡ true
unfolding is_word_octet
plain_word x h =
    and_from _ _ (and_from _ _ (and_from _ _ (and_from _ _ (and_from _ _ (le-leb 33 x (omega (arith, h))) (le-leb x 126 (omega (arith, h))))
    (not_from_false _ (ne_eqb x 34 (λ e. omega (arith, h, e))))) (not_from_false _ (ne_eqb x 35 (λ e. omega (arith, h, e))))) (not_from_false _ (ne_eqb x 123 (λ e. omega (arith, h, e))))) (not_from_false _ (ne_eqb x 125 (λ e. omega (arith, h, e))))

plain_words : (text : List ℕ) → AllByRecursion IsPlain text → list_all is_word_octet text ≡ true
plain_words [] h = refl
plain_words (x ∷ text) h = and_from _ _ (plain_word x h.0) (plain_words text h.1)

no_other : (a b c : Bool) (x y z w : TokenKind) → a ≡ false → b ≡ false → c ≡ false → cond a x (cond b y (cond c z w)) ≡ w
no_other a b c x y z w e f g = ap (λ t. cond t x (cond b y (cond c z w))) e ∙ ap (λ t. cond t y (cond c z w)) f ∙ ap (λ t. cond t z w) g

plain_token : (text : List ℕ) → 0 < length text → AllByRecursion IsPlain text → IsToken text
plain_token [] lt h = absurd (omega arith)
plain_token (x ∷ text) lt h =
    subst (λ k. IsTokenText k (x ∷ text)) (sym (no_other (eqb x 34) (eqb x 123) (eqb x 125) _ _ _ _ (ne_eqb x 34 (λ e. omega (arith, h.0, e))) (ne_eqb x 123 (λ e. omega (arith, h.0, e))) (ne_eqb x 125 (λ e. omega (arith, h.0, e)))))
    (lt, plain_words (x ∷ text) h)

digit_plain : (x : ℕ) → is_digit x ≡ true → IsPlain x
digit_plain x h = let p = and_parts _ _ h in let a = leb-true 48 x p.0 in let b = leb-true x 57 p.1 in (a, omega (arith, b))

digits_plain : (text : List ℕ) → list_all is_digit text ≡ true → AllByRecursion IsPlain text
digits_plain [] h = tt
digits_plain (x ∷ text) h = let p = and_parts _ _ h in (digit_plain x p.0, digits_plain text p.1)

name_plain : (x : ℕ) → is_name_octet x ≡ true → IsPlain x
name_plain x h =
    elim (or_cases _ _ h) [
      | inl e ↦ let p = and_parts _ _ e in let a = leb-true 65 x p.0 in let b = leb-true x 90 p.1 in (omega (arith, a), b)
      | inr e ↦ let p = and_parts _ _ e in let a = leb-true 48 x p.0 in let b = leb-true x 57 p.1 in (a, omega (arith, b))
    ]

names_plain : (text : List ℕ) → list_all is_name_octet text ≡ true → AllByRecursion IsPlain text
names_plain [] h = tt
names_plain (x ∷ text) h = let p = and_parts _ _ h in (name_plain x p.0, names_plain text p.1)

name_token : (name : List ℕ) → IsName name → IsToken name
name_token name h = plain_token name (omega (arith, h.0)) (names_plain name h.2)

number_token : (n : ℕ) → n < 10 ^ 18 → IsToken (decimal n)
number_token n h =
    let small : n < 2 ^ 64 = omega (arith, h) in plain_token (decimal n) (decimal_nonempty n small) (digits_plain (decimal n) (digits_decimal model n small))

width_token : (n : ℕ) → IsWidth n → IsToken (decimal n)
width_token n h = number_token n (omega (arith, h))

category_token : (n : ℕ) → n < 256 → IsToken (three_digits n)
category_token n h =
    plain_token (three_digits n) (lit< tt) (digit_plain (48 + n / 100) (digit (n / 100) (omega arith)), (digit_plain (48 + n / 10 % 10) (digit (n / 10 % 10) (omega arith)), (digit_plain (48 + n % 10) (digit (n % 10) (omega arith)), tt)))

text_token : (text : List ℕ) → IsText text → IsToken (quoted text)
text_token text h = (text, refl, are_string text h.1)

sign_token : (sign : Sign) → IsToken (sign_text sign)
sign_token Sign.Unsigned = keyword_token Word.Unsigned
sign_token Sign.Signed = keyword_token Word.Signed

closed_tokens : (texts : List (List ℕ)) → AreTokens texts → AreTokens (closed texts)
closed_tokens texts h = both texts (keyword_text Word.Close ∷ []) h (keyword_token Word.Close, tt)

block_tokens : (word : Keyword) (texts : List (List ℕ)) → AreTokens texts → AreTokens (block word texts)
block_tokens word texts h = (keyword_token word, (keyword_token Word.Open, closed_tokens texts h))

-- ---- rule by rule

entry_tokens : (entry : TableText) → EntryInRange entry → AreTokens (entry_texts entry)
entry_tokens entry h = (number_token entry.number h.0, (text_token entry.text h.1, tt))

content_tokens : (content : Content) → ContentInRange content → AreTokens (content_texts content)
content_tokens Meaning.Raw h = (keyword_token Word.Raw, tt)
content_tokens (Meaning.Table entries) h = block_tokens Word.Table (flat_map entry_texts entries) (each entry_texts EntryInRange entry_tokens entries h)
content_tokens Meaning.Ascii h = (keyword_token Word.Ascii, tt)
content_tokens Meaning.Icao h = (keyword_token Word.Icao, tt)
content_tokens Meaning.Octal h = (keyword_token Word.Octal, tt)
content_tokens (Meaning.Integer sign) h = (keyword_token Word.Integer, (sign_token sign, tt))
content_tokens (Meaning.Quantity scale) h =
    (keyword_token Word.Quantity, (sign_token scale.sign, (number_token scale.num h.0, (number_token scale.den h.1, (text_token scale.unit h.2, tt)))))

mutual
  pub fixed_tokens : (f : FixedTree) → FixedInRange f → AreTokens (fixed_texts f)
  fixed_tokens (element width content) h = (keyword_token Word.Element, (width_token width h.0, content_tokens content h.1))
  fixed_tokens (group ms) h = block_tokens Word.Group (members_texts ms) (members_tokens ms h)

  pub member_tokens : (m : MemberTree) → MemberInRange m → AreTokens (member_texts m)
  member_tokens (named name f) h = (name_token name h.0, fixed_tokens f h.1)
  member_tokens (spare width) h = (keyword_token Word.Spare, (width_token width h, tt))

  pub members_tokens : (ms : MembersTree) → MembersInRange ms → AreTokens (members_texts ms)
  members_tokens no_members h = tt
  members_tokens (member_and m ms) h = both (member_texts m) (members_texts ms) (member_tokens m h.0) (members_tokens ms h.1)

part_tokens : (ms : MembersTree) → MembersInRange ms → AreTokens (part_texts ms)
part_tokens ms h = block_tokens Word.Part (members_texts ms) (members_tokens ms h)

mutual
  pub kind_tokens : (k : KindTree) → KindInRange k → AreTokens (kind_texts k)
  kind_tokens (fixed f) h = fixed_tokens f h
  kind_tokens (extended last ps) h = block_tokens (extended_word last) (flat_map part_texts ps) (each part_texts MembersInRange part_tokens ps h)
  kind_tokens (counted size k) h = block_tokens (counted_word size) (kind_texts k) (kind_tokens k h)
  kind_tokens (by_fx f) h = (keyword_token Word.ByFx, fixed_tokens f h)
  kind_tokens explicit h = (keyword_token Word.Explicit, tt)
  kind_tokens (compound ss) h = block_tokens Word.Compound (slots_texts ss) (slots_tokens ss h)

  pub slot_tokens : (s : SlotTree) → SlotInRange s → AreTokens (slot_texts s)
  slot_tokens spare_slot h = (keyword_token Word.Dash, tt)
  slot_tokens (subitem name k) h = (name_token name h.0, kind_tokens k h.1)

  pub slots_tokens : (ss : SlotsTree) → SlotsInRange ss → AreTokens (slots_texts ss)
  slots_tokens no_slots h = tt
  slots_tokens (slot_and s ss) h = both (slot_texts s) (slots_texts ss) (slot_tokens s h.0) (slots_tokens ss h.1)

item_tokens : (item : ItemTree) → ItemInRange item → AreTokens (item_texts item)
item_tokens item h = (keyword_token Word.Item, (name_token item.name h.0, (text_token item.title h.1, kind_tokens item.kind h.2)))

uap_slot_tokens : (slot : UapSlot) → UapSlotInRange slot → AreTokens (uap_slot_texts slot)
uap_slot_tokens Uap.Spare h = (keyword_token Word.Dash, tt)
uap_slot_tokens (Uap.Item name) h = (name_token name h, tt)

spec_tokens : (spec : SpecTree) → InRange spec → AreTokens (spelled spec)
spec_tokens spec h = (
  keyword_token Word.Category,
  (
    category_token spec.category h.category,
    (
      keyword_token Word.Edition,
      (
        text_token spec.edition h.edition,
        both (block Word.Items (flat_map item_texts spec.items)) (block Word.Uap (flat_map uap_slot_texts spec.uap))
            (block_tokens Word.Items (flat_map item_texts spec.items) (each item_texts ItemInRange item_tokens spec.items h.items))
            (block_tokens Word.Uap (flat_map uap_slot_texts spec.uap) (each uap_slot_texts UapSlotInRange uap_slot_tokens spec.uap h.uap)),
      ),
    ),
  ),
)

-- ---- printed

abbrev with_kinds : List (List ℕ) → List (TokenKind × List ℕ)
with_kinds texts = map (λ text. (kind_of text, text)) texts

are_texts : (texts : List (List ℕ)) → AreTokens texts → AreTokenTexts (with_kinds texts)
are_texts [] h = tt
are_texts (text ∷ texts) h = (h.0, are_texts texts h.1)

texts_back : (texts : List (List ℕ)) → map (λ t. t.1) (with_kinds texts) ≡ texts
texts_back [] = refl
texts_back (text ∷ texts) = ap (λ t. text ∷ t) (texts_back texts)

placed_texts : (at : ℕ) (ts : List (TokenKind × List ℕ)) → texts_of (placed at ts) ≡ map (λ t. t.1) ts
placed_texts at [] = refl
placed_texts at (t ∷ ts) = ap (λ x. t.1 ∷ x) (placed_texts (at + length t.1 + 1) ts)

pub printed_are_tokens : (spec : SpecTree) (limit : ℕ) → InRange spec → IsWithin limit (spelled_tokens spec) → AreTokensOf (printed spec) limit (spelled_tokens spec)
printed_are_tokens spec limit h within =
    subst (λ text. AreTokensOf (text ++ line_feed ∷ []) limit (spelled_tokens spec)) (ap (join_with_byte 0x20) (texts_back (spelled spec)))
    (printed_line (with_kinds (spelled spec)) limit (are_texts (spelled spec) (spec_tokens spec h)) within)

pub printed_spells : (spec : SpecTree) → InRange spec → SpellsSpec (spelled_tokens spec) spec
printed_spells spec h = record { in_range = h; texts = placed_texts 0 (with_kinds (spelled spec)) ∙ texts_back (spelled spec) }

pub spelling_once : (spec other : SpecTree) → InRange spec → InRange other → spelled spec ≡ spelled other → spec ≡ other
spelling_once spec other h k e = value_is spec other [] [] (sym (whole_read spec h) ∙ ap whole_at e ∙ whole_read other k)
