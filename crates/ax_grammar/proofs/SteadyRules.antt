-- Where each rule's reader stops, what it read can be completed, and no text after changes its answer.
use Rattle.std.proofs.Common.{◌≡◌, ℕ, zero, suc, ◌<◌, Bool, true, false, cond, List, [], ◌∷◌, ◌++◌, length, Option, Some, None, Ok, Err, refl, ◌∙◌, ap, append_assoc, lit<, lit≤, arith}
use Rattle.std.specs.Prelude.{bytes_eq, decimal}
use Rattle.ax_format.specs.Specification.{ItemTree}
use Rattle.ax_format.specs.Tree.{element, group, MemberTree, named, spare, members_of, KindTree, fixed, extended, counted, by_fx, explicit, compound, SlotTree, spare_slot, subitem, slots_of}
use Rattle.ax_format.specs.declared.content.Content.TheVariants as Meaning
use Rattle.ax_format.specs.declared.content.Scale.{Scale}
use Rattle.ax_format.specs.declared.content.Sign.{Sign}
use Rattle.ax_format.specs.declared.content.Sign.TheVariants as Signs
use Rattle.ax_format.specs.declared.kind.Counter.{Counter}
use Rattle.ax_format.specs.declared.kind.Counter.TheVariants.{One, Two}
use Rattle.ax_format.specs.declared.kind.LastPart.{LastPart}
use Rattle.ax_format.specs.declared.kind.LastPart.TheVariants.{WithFx, WithoutFx}
use Rattle.ax_format.specs.declared.spec.UapSlot.TheVariants as Uap
use Rattle.ax_grammar.specs.Keywords.{keyword_text, keyword_of}
use Rattle.ax_grammar.specs.Spelling.{quoted}
use Rattle.ax_format.specs.Paths.{three_digits}
use Rattle.ax_grammar.specs.Tests.{name_of, number_of, category_of, text_of}
use Rattle.ax_grammar.specs.Parsing.{Texts, Parsed, ◌>>=◌, one_of, expect_at, braced_at}
use Rattle.ax_grammar.specs.Rules.{name_at, category_at, width_at, number_at, text_at, sign_by_word, sign_at, entry_at, scale_at, content_by_word, content_at, fixed_by_word, member_step, fixed_step, fixed_at, member_at, part_at, extended_at, counted_at, kind_by_word, kind_step, kind_at, slot_step, slot_at, item_at, uap_slot_at, spec_at}
use Rattle.ax_grammar.specs.declared.keyword.Keyword.{Keyword}
use Rattle.ax_grammar.specs.declared.keyword.Keyword.TheVariants as Word
use Rattle.ax_grammar.proofs.Recursion.{Shrinks, reads}
use Rattle.ax_grammar.proofs.Lists.{taking}
use Rattle.ax_grammar.proofs.Recursive.{entry_shrinks, member_shrinks, part_shrinks, slot_shrinks, item_shrinks, uap_slot_shrinks, fixed_is, kind_is}
use Rattle.ax_grammar.proofs.SingleTokens.{quoted_is, name_some}
use Rattle.ax_grammar.proofs.Numbers.{number_some, category_some}
use Rattle.ax_grammar.proofs.Complete.{fixed_read, kind_read, member_read, slot_read}
use Rattle.ax_grammar.proofs.Steady.{At, IsSteady, Due, refused, done, after, same, one_steady, expect_read, expect_steady, mapping, map_steady, mapped_due, then_steady, list_due, braced_steady}
use Rattle.ax_grammar.proofs.SpecParts.{made, uap_part, items_part, edition_part, category_part}

-- ---- single tokens

abbrev a_name : List ℕ
a_name = 65 ∷ []

abbrev pub IsRead : {A : Type 0} → (List ℕ → Option A) → List ℕ → A → Type 0
IsRead test text a = test text ≡ Some a

name_due : IsRead name_of a_name a_name
name_due = name_some a_name (lit≤ tt, lit≤ tt, refl)

width_due : IsRead (number_of 9) (decimal 1) 1
width_due = number_some 9 1 (lit< tt) (lit≤ tt) (lit< tt)

number_due : IsRead (number_of 18) (decimal 0) 0
number_due = number_some 18 0 (lit< tt) (lit≤ tt) (lit< tt)

pub text_due : IsRead text_of (quoted []) []
text_due = quoted_is [] (lit< tt, tt)

pub category_due : IsRead category_of (three_digits 0) 0
category_due = category_some 0 (lit< tt)

name_steady : (k : ℕ) → IsSteady k name_at
name_steady k = one_steady k name_of a_name a_name name_due

width_steady : (k : ℕ) → IsSteady k width_at
width_steady k = one_steady k (number_of 9) (decimal 1) 1 width_due

number_steady : (k : ℕ) → IsSteady k number_at
number_steady k = one_steady k (number_of 18) (decimal 0) 0 number_due

pub text_steady : (k : ℕ) → IsSteady k text_at
text_steady k = one_steady k text_of (quoted []) [] text_due

pub category_steady : (k : ℕ) → IsSteady k category_at
category_steady k = one_steady k category_of (three_digits 0) 0 category_due

-- the rule, where the first text is known to be a keyword or none
abbrev pub on_keyword : {A : Type 0} → Option Keyword → (Keyword → Texts → Texts → Parsed A) → List ℕ → Texts → Parsed A
on_keyword o following text more = one_of o text more >>= λ w. following w.0 (text ∷ more) w.1

-- ---- contents

sign_due : Due sign_at
unfolding sign_at keyword_of
sign_due = record { texts = keyword_text Word.Unsigned ∷ []; value = Signs.Unsigned; due = λ more. refl }

sign_case : (o : Option Keyword) (text : List ℕ) (rest : Texts) → ((more : Texts) → sign_at (text ∷ more) ≡ on_keyword o sign_by_word text more) → At sign_at (text ∷ rest) (sign_at (text ∷ rest))
sign_case None text rest e = refused sign_at (text ∷ rest) sign_due e
sign_case (Some Word.Unsigned) text rest e = done sign_at Signs.Unsigned text rest e
sign_case (Some Word.Signed) text rest e = done sign_at Signs.Signed text rest e
sign_case (Some word) text rest e = refused sign_at (text ∷ rest) sign_due e

sign_steady : (k : ℕ) → IsSteady k sign_at
unfolding sign_at
sign_steady k [] lt = refused sign_at [] sign_due (λ more. refl)
sign_steady k (text ∷ rest) lt = sign_case (keyword_of text) text rest (λ more. refl)

text_then : {B : Type 0} (g : List ℕ → B) → Due (mapping g text_at)
text_then g = record { texts = quoted [] ∷ []; value = g []; due = λ more. ap (λ o. one_of o (quoted []) more >>= λ x. Ok (g x.0, x.1)) text_due }

entry_steady : (k : ℕ) → IsSteady k entry_at
unfolding entry_at
entry_steady k =
    then_steady k number_at (λ n texts. text_at texts >>= λ t. reads (record { number = n; text = t.0 }) t.1) (number_steady k) (λ n. map_steady k (λ t. record { number = n; text = t }) text_at (text_steady k)) (λ n. text_then (λ t. record { number = n; text = t }))

-- a number is due, and what is due after it
number_then : {B : Type 0} (q : ℕ → Texts → Parsed B) → ((n : ℕ) → Due (q n)) → Due (λ texts. number_at texts >>= λ n. q n.0 n.1)
number_then q d = record { texts = decimal 0 ∷ (d 0).texts; value = (d 0).value; due = λ more. ap (λ o. one_of o (decimal 0) ((d 0).texts ++ more) >>= λ n. q n.0 n.1) number_due ∙ (d 0).due more }

abbrev scaled : Sign → ℕ → ℕ → List ℕ → Scale
scaled sign num den unit = record { sign = sign; num = num; den = den; unit = unit }

-- the rule of a scale, from its parts on
abbrev unit_part : Sign → ℕ → ℕ → Texts → Parsed Scale
unit_part sign num den texts = text_at texts >>= λ u. reads (scaled sign num den u.0) u.1

abbrev den_part : Sign → ℕ → Texts → Parsed Scale
den_part sign num texts = number_at texts >>= λ d. unit_part sign num d.0 d.1

abbrev num_part : Sign → Texts → Parsed Scale
num_part sign texts = number_at texts >>= λ n. den_part sign n.0 n.1

unit_due : (sign : Sign) (num den : ℕ) → Due (unit_part sign num den)
unit_due sign num den = text_then (scaled sign num den)

den_due : (sign : Sign) (num : ℕ) → Due (den_part sign num)
den_due sign num = number_then (unit_part sign num) (unit_due sign num)

num_due : (sign : Sign) → Due (num_part sign)
num_due sign = number_then (den_part sign) (den_due sign)

scale_steady : (k : ℕ) → IsSteady k scale_at
unfolding scale_at
scale_steady k =
    then_steady k sign_at num_part (sign_steady k)
    (λ s. then_steady k number_at (den_part s) (number_steady k) (λ n. then_steady k number_at (unit_part s n) (number_steady k) (λ d. map_steady k (scaled s n d) text_at (text_steady k)) (unit_due s n)) (den_due s))
    num_due

content_due : Due content_at
unfolding content_at keyword_of
content_due = record { texts = keyword_text Word.Raw ∷ []; value = Meaning.Raw; due = λ more. refl }

content_case : (o : Option Keyword) (text : List ℕ) (rest : Texts) → ((more : Texts) → content_at (text ∷ more) ≡ on_keyword o content_by_word text more) → At content_at (text ∷ rest) (content_at (text ∷ rest))
content_case None text rest e = refused content_at (text ∷ rest) content_due e
content_case (Some Word.Raw) text rest e = done content_at Meaning.Raw text rest e
content_case (Some Word.Ascii) text rest e = done content_at Meaning.Ascii text rest e
content_case (Some Word.Icao) text rest e = done content_at Meaning.Icao text rest e
content_case (Some Word.Octal) text rest e = done content_at Meaning.Octal text rest e
content_case (Some Word.Table) text rest e =
    after content_at _ text rest e (map_steady (suc (length rest)) Meaning.Table (braced_at entry_at) (braced_steady entry_at entry_shrinks (suc (length rest)) (entry_steady (suc (length rest)))) rest (omega arith))
content_case (Some Word.Integer) text rest e = after content_at _ text rest e (map_steady (suc (length rest)) Meaning.Integer sign_at (sign_steady (suc (length rest))) rest (omega arith))
content_case (Some Word.Quantity) text rest e = after content_at _ text rest e (map_steady (suc (length rest)) Meaning.Quantity scale_at (scale_steady (suc (length rest))) rest (omega arith))
content_case (Some word) text rest e = refused content_at (text ∷ rest) content_due e

content_steady : (k : ℕ) → IsSteady k content_at
unfolding content_at
content_steady k [] lt = refused content_at [] content_due (λ more. refl)
content_steady k (text ∷ rest) lt = content_case (keyword_of text) text rest (λ more. refl)

-- ---- fixed kinds

-- element 1 raw
fixed_due : Due fixed_at
fixed_due = let a_fixed = element 1 Meaning.Raw in record { texts = keyword_text Word.Element ∷ decimal 1 ∷ keyword_text Word.Raw ∷ []; value = a_fixed; due = λ more. fixed_read a_fixed more (lit< tt, tt) }

-- A element 1 raw
member_due : Due member_at
member_due = let a_member = named a_name (element 1 Meaning.Raw) in record { texts = a_name ∷ keyword_text Word.Element ∷ decimal 1 ∷ keyword_text Word.Raw ∷ []; value = a_member; due = λ more. member_read a_member more ((lit≤ tt, lit≤ tt, refl), (lit< tt, tt)) }

abbrev named_at : Texts → Parsed MemberTree
named_at texts = name_at texts >>= λ n. fixed_at n.1 >>= λ f. reads (named n.0 f.0) f.1

abbrev spare_at : Texts → Parsed MemberTree
spare_at texts = width_at texts >>= λ w. reads (spare w.0) w.1

member_case : (k : ℕ) → IsSteady k fixed_at → (b : Bool) (text : List ℕ) (rest : Texts) → length (text ∷ rest) < k
    → ((more : Texts) → member_at (text ∷ more) ≡ (cond b (taking true more) (taking false (text ∷ more)) >>= λ c. cond c.0 (spare_at c.1) (named_at c.1))) → At member_at (text ∷ rest) (member_at (text ∷ rest))
member_case k l true text rest lt e = after member_at spare_at text rest e (map_steady k spare width_at (width_steady k) rest (omega (arith, lt)))
member_case k l false text rest lt e =
    same member_at named_at text rest member_due e
    (then_steady k name_at (λ n texts. fixed_at texts >>= λ f. reads (named n f.0) f.1) (name_steady k) (λ n. map_steady k (named n) fixed_at l) (λ n. mapped_due (named n) fixed_at fixed_due) (text ∷ rest) lt)

member_steady : (k : ℕ) → IsSteady k fixed_at → IsSteady k member_at
unfolding member_at member_step
member_steady k l [] lt = refused member_at [] member_due (λ more. refl)
member_steady k l (text ∷ rest) lt = member_case k l (bytes_eq (keyword_text Word.Spare) text) text rest lt (λ more. refl)

fixed_case : (k : ℕ) → IsSteady k fixed_at → (o : Option Keyword) (text : List ℕ) (rest : Texts) → length rest < k → ((more : Texts) → fixed_at (text ∷ more) ≡ on_keyword o (fixed_by_word fixed_at) text more) → At fixed_at (text ∷ rest) (fixed_at (text ∷ rest))
unfolding member_at
fixed_case k l None text rest lt e = refused fixed_at (text ∷ rest) fixed_due e
fixed_case k l (Some Word.Element) text rest lt e =
    after fixed_at _ text rest e
    (then_steady k width_at (λ w texts. content_at texts >>= λ c. reads (element w c.0) c.1) (width_steady k) (λ w. map_steady k (element w) content_at (content_steady k)) (λ w. mapped_due (element w) content_at content_due) rest lt)
fixed_case k l (Some Word.Group) text rest lt e =
    after fixed_at _ text rest e (map_steady k (λ ms. group (members_of ms)) (braced_at member_at) (braced_steady member_at member_shrinks k (member_steady k l)) rest lt)
fixed_case k l (Some word) text rest lt e = refused fixed_at (text ∷ rest) fixed_due e

fixed_unfolds : (text : List ℕ) (more : Texts) → fixed_at (text ∷ more) ≡ on_keyword (keyword_of text) (fixed_by_word fixed_at) text more
unfolding fixed_step
fixed_unfolds text more = fixed_is (text ∷ more)

fixed_empty : fixed_at [] ≡ Err []
unfolding fixed_step
fixed_empty = fixed_is []

fixed_steady : (k : ℕ) → IsSteady k fixed_at
fixed_steady zero old lt = absurd (omega arith)
fixed_steady (suc k) [] lt = refused fixed_at [] fixed_due (λ more. fixed_empty)
fixed_steady (suc k) (text ∷ rest) lt = fixed_case k (fixed_steady k) (keyword_of text) text rest (omega (arith, lt)) (fixed_unfolds text)

members_steady : (k : ℕ) → IsSteady k (braced_at member_at)
members_steady k = braced_steady member_at member_shrinks k (member_steady k (fixed_steady k))

-- ---- kinds

-- braces with nothing in them
pub braced_due : {A : Type 0} (p : Texts → Parsed A) → Shrinks p → Due (braced_at p)
braced_due p s = let inner = list_due p s in record { texts = keyword_text Word.Open ∷ inner.texts; value = inner.value; due = inner.due }

part_steady : (k : ℕ) → IsSteady k part_at
unfolding part_at
part_steady k =
    then_steady k (expect_at Word.Part) (λ u texts. braced_at member_at texts >>= λ m. reads (members_of m.0) m.1) (expect_steady k Word.Part) (λ u. map_steady k members_of (braced_at member_at) (members_steady k))
    (λ u. mapped_due members_of (braced_at member_at) (braced_due member_at member_shrinks))

kind_due : Due kind_at
kind_due = record { texts = keyword_text Word.Explicit ∷ []; value = explicit; due = λ more. kind_read explicit more tt }

slot_due : Due slot_at
slot_due = record { texts = keyword_text Word.Dash ∷ []; value = spare_slot; due = λ more. slot_read spare_slot more tt }

abbrev subitem_at : Texts → Parsed SlotTree
subitem_at texts = name_at texts >>= λ n. kind_at n.1 >>= λ f. reads (subitem n.0 f.0) f.1

slot_case : (k : ℕ) → IsSteady k kind_at → (b : Bool) (text : List ℕ) (rest : Texts) → length (text ∷ rest) < k
    → ((more : Texts) → slot_at (text ∷ more) ≡ (cond b (taking true more) (taking false (text ∷ more)) >>= λ c. cond c.0 (reads spare_slot c.1) (subitem_at c.1))) → At slot_at (text ∷ rest) (slot_at (text ∷ rest))
slot_case k l true text rest lt e = done slot_at spare_slot text rest e
slot_case k l false text rest lt e =
    same slot_at subitem_at text rest slot_due e
    (then_steady k name_at (λ n texts. kind_at texts >>= λ f. reads (subitem n f.0) f.1) (name_steady k) (λ n. map_steady k (subitem n) kind_at l) (λ n. mapped_due (subitem n) kind_at kind_due) (text ∷ rest) lt)

pub slot_steady : (k : ℕ) → IsSteady k kind_at → IsSteady k slot_at
unfolding slot_at slot_step
slot_steady k l [] lt = refused slot_at [] slot_due (λ more. refl)
slot_steady k l (text ∷ rest) lt = slot_case k l (bytes_eq (keyword_text Word.Dash) text) text rest lt (λ more. refl)

-- a fixed kind is read from its first text on
abbrev fixed_kind_at : Texts → Parsed KindTree
fixed_kind_at texts = fixed_at texts >>= λ f. reads (fixed f.0) f.1

-- a kind, and the brace that closes it
closes_due : (size : Counter) (i : KindTree) → Due (mapping (λ u. counted size i) (expect_at Word.Close))
closes_due size i = record { texts = keyword_text Word.Close ∷ []; value = counted size i; due = λ more. refl }

inner_due : (size : Counter) → Due (λ texts. kind_at texts >>= λ i. expect_at Word.Close i.1 >>= λ c. reads (counted size i.0) c.1)
inner_due size = record { texts = keyword_text Word.Explicit ∷ keyword_text Word.Close ∷ []; value = counted size explicit; due = λ more. ap (λ r. r >>= λ i. expect_at Word.Close i.1 >>= λ c. reads (counted size i.0) c.1) (kind_read explicit (keyword_text Word.Close ∷ more) tt) }

counted_steady : (size : Counter) (k : ℕ) → IsSteady k kind_at → IsSteady k (counted_at size)
counted_steady size k l =
    then_steady k (expect_at Word.Open) (λ o texts. kind_at texts >>= λ i. expect_at Word.Close i.1 >>= λ c. reads (counted size i.0) c.1) (expect_steady k Word.Open)
    (λ o. then_steady k kind_at (λ i texts. expect_at Word.Close texts >>= λ c. reads (counted size i) c.1) l (λ i. map_steady k (λ u. counted size i) (expect_at Word.Close) (expect_steady k Word.Close)) (closes_due size))
    (λ o. inner_due size)

extended_steady : (last : LastPart) (k : ℕ) → IsSteady k (extended_at last)
extended_steady last k = map_steady k (extended last) (braced_at part_at) (braced_steady part_at part_shrinks k (part_steady k))

kind_case : (k : ℕ) → IsSteady k kind_at → (o : Option Keyword) (text : List ℕ) (rest : Texts) → length rest < k → ((more : Texts) → kind_at (text ∷ more) ≡ on_keyword o (kind_by_word kind_at) text more) → At kind_at (text ∷ rest) (kind_at (text ∷ rest))
unfolding slot_at
kind_case k l None text rest lt e = refused kind_at (text ∷ rest) kind_due e
kind_case k l (Some Word.Extended) text rest lt e = after kind_at _ text rest e (extended_steady WithFx k rest lt)
kind_case k l (Some Word.Closed) text rest lt e = after kind_at _ text rest e (extended_steady WithoutFx k rest lt)
kind_case k l (Some Word.Counted) text rest lt e = after kind_at _ text rest e (counted_steady One k l rest lt)
kind_case k l (Some Word.Wide) text rest lt e = after kind_at _ text rest e (counted_steady Two k l rest lt)
kind_case k l (Some Word.ByFx) text rest lt e = after kind_at _ text rest e (map_steady k by_fx fixed_at (fixed_steady k) rest lt)
kind_case k l (Some Word.Explicit) text rest lt e = done kind_at explicit text rest e
kind_case k l (Some Word.Compound) text rest lt e =
    after kind_at _ text rest e (map_steady k (λ ss. compound (slots_of ss)) (braced_at slot_at) (braced_steady slot_at slot_shrinks k (slot_steady k l)) rest lt)
kind_case k l (Some word) text rest lt e = same kind_at fixed_kind_at text rest kind_due e (map_steady (suc k) fixed fixed_at (fixed_steady (suc k)) (text ∷ rest) (omega (arith, lt)))

kind_unfolds : (text : List ℕ) (more : Texts) → kind_at (text ∷ more) ≡ on_keyword (keyword_of text) (kind_by_word kind_at) text more
unfolding kind_step
kind_unfolds text more = kind_is (text ∷ more)

kind_empty : kind_at [] ≡ Err []
unfolding kind_step
kind_empty = kind_is []

pub kind_steady : (k : ℕ) → IsSteady k kind_at
kind_steady zero old lt = absurd (omega arith)
kind_steady (suc k) [] lt = refused kind_at [] kind_due (λ more. kind_empty)
kind_steady (suc k) (text ∷ rest) lt = kind_case k (kind_steady k) (keyword_of text) text rest (omega (arith, lt)) (kind_unfolds text)

-- ---- specifications

abbrev an_item : List ℕ → List ℕ → KindTree → ItemTree
an_item name title kind = record { name = name; title = title; kind = kind }

-- what follows an item's name, and its title
abbrev title_part : List ℕ → Texts → Parsed ItemTree
title_part name texts = text_at texts >>= λ t. kind_at t.1 >>= λ x. reads (an_item name t.0 x.0) x.1

abbrev name_part : Texts → Parsed ItemTree
name_part texts = name_at texts >>= λ n. title_part n.0 n.1

title_due : (name : List ℕ) → Due (title_part name)
title_due name = let d = mapped_due (an_item name []) kind_at kind_due in record { texts = quoted [] ∷ d.texts; value = d.value; due = λ more. ap (λ o. one_of o (quoted []) (d.texts ++ more) >>= λ t. kind_at t.1 >>= λ x. reads (an_item name t.0 x.0) x.1) text_due ∙ d.due more }

item_name_due : Due name_part
item_name_due = let d = title_due a_name in record { texts = a_name ∷ d.texts; value = d.value; due = λ more. ap (λ o. one_of o a_name (d.texts ++ more) >>= λ n. title_part n.0 n.1) name_due ∙ d.due more }

item_steady : (k : ℕ) → IsSteady k item_at
unfolding item_at
item_steady k =
    then_steady k (expect_at Word.Item) (λ u texts. name_part texts) (expect_steady k Word.Item)
    (λ u. then_steady k name_at (λ n texts. title_part n texts) (name_steady k)
    (λ n. then_steady k text_at (λ t texts. kind_at texts >>= λ x. reads (an_item n t x.0) x.1) (text_steady k) (λ t. map_steady k (an_item n t) kind_at (kind_steady k)) (λ t. mapped_due (an_item n t) kind_at kind_due))
    title_due)
    (λ u. item_name_due)

uap_slot_due : Due uap_slot_at
unfolding uap_slot_at
uap_slot_due = record { texts = keyword_text Word.Dash ∷ []; value = Uap.Spare; due = λ more. refl }

uap_slot_case : (k : ℕ) (b : Bool) (text : List ℕ) (rest : Texts) → length (text ∷ rest) < k
    → ((more : Texts) → uap_slot_at (text ∷ more) ≡ (cond b (taking true more) (taking false (text ∷ more)) >>= λ c. cond c.0 (reads Uap.Spare c.1) (name_at c.1 >>= λ n. reads (Uap.Item n.0) n.1))) → At uap_slot_at (text ∷ rest) (uap_slot_at (text ∷ rest))
uap_slot_case k true text rest lt e = done uap_slot_at Uap.Spare text rest e
uap_slot_case k false text rest lt e = same uap_slot_at (mapping (λ n. Uap.Item n) name_at) text rest uap_slot_due e (map_steady k (λ n. Uap.Item n) name_at (name_steady k) (text ∷ rest) lt)

uap_slot_steady : (k : ℕ) → IsSteady k uap_slot_at
unfolding uap_slot_at
uap_slot_steady k [] lt = refused uap_slot_at [] uap_slot_due (λ more. refl)
uap_slot_steady k (text ∷ rest) lt = uap_slot_case k (bytes_eq (keyword_text Word.Dash) text) text rest lt (λ more. refl)

-- a keyword is due, and what is due after it
pub word_then : {B : Type 0} (word : Keyword) (q : Texts → Parsed B) → Due q → Due (λ texts. expect_at word texts >>= λ u. q u.1)
word_then word q d = record { texts = keyword_text word ∷ d.texts; value = d.value; due = λ more. ap (λ r. r >>= λ u. q u.1) (expect_read word (d.texts ++ more)) ∙ d.due more }

uap_due : (category : ℕ) (edition : List ℕ) (items : List ItemTree) → Due (uap_part category edition items)
uap_due category edition items = mapped_due (made category edition items) (braced_at uap_slot_at) (braced_due uap_slot_at uap_slot_shrinks)

after_items_due : (category : ℕ) (edition : List ℕ) (items : List ItemTree) → Due (λ texts. expect_at Word.Uap texts >>= λ u. uap_part category edition items u.1)
after_items_due category edition items = word_then Word.Uap (uap_part category edition items) (uap_due category edition items)

items_due : (category : ℕ) (edition : List ℕ) → Due (items_part category edition)
items_due category edition = let i = braced_due item_at item_shrinks in let d = after_items_due category edition i.value in record {
  texts = i.texts ++ d.texts;
  value = d.value;
  due = λ more. ap (λ t. items_part category edition t) (append_assoc i.texts d.texts more) ∙ ap (λ r. r >>= λ i. expect_at Word.Uap i.1 >>= λ u. uap_part category edition i.0 u.1) (i.due (d.texts ++ more)) ∙ d.due more;
}

after_edition_due : (category : ℕ) (edition : List ℕ) → Due (λ texts. expect_at Word.Items texts >>= λ u. items_part category edition u.1)
after_edition_due category edition = word_then Word.Items (items_part category edition) (items_due category edition)

edition_due : (category : ℕ) → Due (edition_part category)
edition_due category = let d = after_edition_due category [] in record { texts = quoted [] ∷ d.texts; value = d.value; due = λ more. ap (λ o. one_of o (quoted []) (d.texts ++ more) >>= λ t. expect_at Word.Items t.1 >>= λ u. items_part category t.0 u.1) text_due ∙ d.due more }

after_category_due : (category : ℕ) → Due (λ texts. expect_at Word.Edition texts >>= λ u. edition_part category u.1)
after_category_due category = word_then Word.Edition (edition_part category) (edition_due category)

whole_due : Due category_part
whole_due = let d = after_category_due 0 in record { texts = three_digits 0 ∷ d.texts; value = d.value; due = λ more. ap (λ o. one_of o (three_digits 0) (d.texts ++ more) >>= λ c. expect_at Word.Edition c.1 >>= λ u. edition_part c.0 u.1) category_due ∙ d.due more }

items_part_steady : (k category : ℕ) (edition : List ℕ) → IsSteady k (items_part category edition)
items_part_steady k category edition =
    then_steady k (braced_at item_at) (λ i texts. expect_at Word.Uap texts >>= λ u. uap_part category edition i u.1) (braced_steady item_at item_shrinks k (item_steady k))
    (λ i. then_steady k (expect_at Word.Uap) (λ u texts. uap_part category edition i texts) (expect_steady k Word.Uap) (λ u. map_steady k (made category edition i) (braced_at uap_slot_at) (braced_steady uap_slot_at uap_slot_shrinks k (uap_slot_steady k))) (λ u. uap_due category edition i))
    (after_items_due category edition)

edition_part_steady : (k category : ℕ) → IsSteady k (edition_part category)
edition_part_steady k category =
    then_steady k text_at (λ t texts. expect_at Word.Items texts >>= λ u. items_part category t u.1) (text_steady k)
    (λ t. then_steady k (expect_at Word.Items) (λ u texts. items_part category t texts) (expect_steady k Word.Items) (λ u. items_part_steady k category t) (λ u. items_due category t))
    (after_edition_due category)

category_part_steady : (k : ℕ) → IsSteady k category_part
category_part_steady k =
    then_steady k category_at (λ c texts. expect_at Word.Edition texts >>= λ u. edition_part c u.1) (category_steady k)
    (λ c. then_steady k (expect_at Word.Edition) (λ u texts. edition_part c texts) (expect_steady k Word.Edition) (λ u. edition_part_steady k c) (λ u. edition_due c))
    after_category_due

pub spec_steady : (k : ℕ) → IsSteady k spec_at
unfolding spec_at
spec_steady k = then_steady k (expect_at Word.Category) (λ u texts. category_part texts) (expect_steady k Word.Category) (λ u. category_part_steady k) (λ u. whole_due)
