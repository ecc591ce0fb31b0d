-- What is read is spelled so.
use Rattle.std.proofs.Common.{◌≡◌, ℕ, zero, suc, ◌<◌, Bool, true, false, cond, List, [], ◌∷◌, ◌++◌, length, Option, Some, None, Ok, Err, refl, sym, ◌∙◌, ap, subst, append_assoc, lit≤, arith}
use Rattle.std.specs.Prelude.{bytes_eq, decimal, find}
use Rattle.std.specs.List.{AllByRecursion, flat_map}
use Rattle.std.proofs.lemmas.List.Concat.{flat_map-cons}
use Rattle.std.proofs.lemmas.Slice.Eq.{bytes_eq-Decides}
use Rattle.ax_format.specs.Characters.{IsName}
use Rattle.ax_format.specs.Specification.{ItemTree, SpecTree}
use Rattle.ax_format.specs.Tree.{FixedTree, element, group, MemberTree, named, spare, members_of, KindTree, fixed, extended, counted, by_fx, explicit, compound, SlotTree, spare_slot, subitem, slots_of}
use Rattle.ax_format.specs.declared.content.Content.{Content}
use Rattle.ax_format.specs.declared.content.Content.TheVariants as Meaning
use Rattle.ax_format.specs.declared.content.Scale.{Scale}
use Rattle.ax_format.specs.declared.content.Sign.{Sign}
use Rattle.ax_format.specs.declared.kind.Counter.{Counter}
use Rattle.ax_format.specs.declared.kind.Counter.TheVariants.{One, Two}
use Rattle.ax_format.specs.declared.kind.LastPart.{LastPart}
use Rattle.ax_format.specs.declared.kind.LastPart.TheVariants.{WithFx, WithoutFx}
use Rattle.ax_format.specs.declared.spec.UapSlot.{UapSlot}
use Rattle.ax_format.specs.declared.spec.UapSlot.TheVariants as Uap
use Rattle.ax_grammar.specs.Keywords.{keyword_text, keyword_of, keywords}
use Rattle.ax_grammar.specs.InRange.{IsText, IsWidth, IsNumber, EntryInRange, ContentInRange, FixedInRange, MemberInRange, MembersInRange, KindInRange, SlotInRange, SlotsInRange, ItemInRange, UapSlotInRange, InRange}
use Rattle.ax_grammar.specs.Spelling.{quoted, sign_text, closed, block, extended_word, counted_word, entry_texts, content_texts, fixed_texts, member_texts, members_texts, part_texts, kind_texts, slot_texts, slots_texts, item_texts, uap_slot_texts, spelled}
use Rattle.ax_format.specs.Paths.{three_digits}
use Rattle.ax_grammar.specs.Tests.{name_of, number_of, category_of, text_of}
use Rattle.ax_grammar.specs.Parsing.{Texts, Parsed, ◌>>=◌, one_of, one_at, expect_at, takes_at, list_at, braced_at}
use Rattle.ax_grammar.specs.Rules.{keyword_at, name_at, category_at, width_at, number_at, text_at, sign_by_word, sign_at, entry_at, scale_at, content_by_word, content_at, fixed_by_word, member_step, fixed_step, fixed_at, member_at, part_at, extended_at, counted_at, kind_by_word, kind_step, kind_at, slot_step, slot_at, item_at, uap_slot_at, spec_at}
use Rattle.ax_grammar.specs.declared.keyword.Keyword.{Keyword}
use Rattle.ax_grammar.specs.declared.keyword.Keyword.TheVariants as Word
use Rattle.ax_grammar.proofs.Recursion.{Shrinks, bind_ok, reads, rest_is, value_is}
use Rattle.ax_grammar.proofs.Lists.{list_is, taking, expect_shrinks, takes_keeps, braced_shrinks}
use Rattle.ax_grammar.proofs.Recursive.{one_shrinks, sign_shrinks, entry_shrinks, member_shrinks, part_shrinks, slot_shrinks, kind_shrinks, item_shrinks, uap_slot_shrinks, fixed_is, kind_is}
use Rattle.ax_grammar.proofs.SingleTokens.{name_found, text_found}
use Rattle.ax_grammar.proofs.Numbers.{number_found, category_found}
use Rattle.ax_grammar.proofs.SpecParts.{made, uap_part, items_part, edition_part, category_part}

-- what p reads from fewer than k texts fits, and is spelled by the texts in front of what is left
abbrev pub Finds : {A : Type 0} → ℕ → (Texts → Parsed A) → (A → Type 0) → (A → Texts) → Type 0
Finds {A} k p Fits spell = (texts rest : Texts) (a : A) → length texts < k → p texts ≡ reads a rest → Fits a × (texts ≡ spell a ++ rest)

-- the last reader's value, as it is made a part of another
pub mapped : {A B : Type 0} (g : A → B) (r : Parsed A) (b : B) (rest : Texts) → (r >>= λ x. Ok (g x.0, x.1)) ≡ reads b rest → (a : A) × (r ≡ reads a rest) × (g a ≡ b)
mapped g (Ok x) b rest e = (x.0, ap (λ t. reads x.0 t) (rest_is (g x.0) b x.1 rest e), value_is (g x.0) b x.1 rest e)
mapped g (Err d) b rest e = absurd cc

-- what follows a reader: its value fits, and is spelled by the texts in front of what is left
pub reading : {A B : Type 0} (k : ℕ) (p : Texts → Parsed A) (Fits : A → Type 0) (spell : A → Texts) → Finds k p Fits spell → Shrinks p → (texts rest : Texts) (b : B) (q : A × Texts → Parsed B) → length texts < k → (p texts >>= q) ≡ reads b rest
    → (C : Type 0) → ((a : A) (after : Texts) → Fits a → texts ≡ spell a ++ after → length after < length texts → q (a, after) ≡ reads b rest → C) → C
reading k p Fits spell finds shrinks texts rest b q lt e C next =
    let f = bind_ok (p texts) q (b, rest) e in
    let found = finds texts f.0.1 f.0.0 lt f.1 in
    next f.0.0 f.0.1 found.0 found.1 (shrinks texts f.0.0 f.0.1 f.1) f.2

-- the same of the last reader
pub making : {A B : Type 0} (k : ℕ) (p : Texts → Parsed A) (Fits : A → Type 0) (spell : A → Texts) → Finds k p Fits spell → (texts rest : Texts) (b : B) (g : A → B) → length texts < k → (p texts >>= λ x. Ok (g x.0, x.1)) ≡ reads b rest
    → (C : B → Type 0) → ((a : A) → Fits a → texts ≡ spell a ++ rest → C (g a)) → C b
making k p Fits spell finds texts rest b g lt e C next =
    let m = mapped g (p texts) b rest e in
    let found = finds texts rest m.0 lt m.1 in
    subst C m.2 (next m.0 found.0 found.1)

-- ---- single tokens

one_text : {A : Type 0} (o : Option A) (text : List ℕ) (after rest : Texts) (a : A) → one_of o text after ≡ reads a rest → (o ≡ Some a) × (after ≡ rest)
one_text None text after rest a e = absurd cc
one_text (Some x) text after rest a e = (ap (λ y. Some y) (value_is x a after rest e), rest_is x a after rest e)

pub one_found : {A : Type 0} (test : List ℕ → Option A) (Fits : A → Type 0) (spell : A → List ℕ) → ((text : List ℕ) (a : A) → test text ≡ Some a → Fits a × (text ≡ spell a)) → (k : ℕ) → Finds k (one_at test) Fits (λ a. spell a ∷ [])
one_found test Fits spell h k [] rest a lt e = absurd cc
one_found test Fits spell h k (text ∷ after) rest a lt e =
    let p = one_text (test text) text after rest a e in
    let q = h text a p.0 in (q.0, ap (λ t. t ∷ after) q.1 ∙ ap (λ t. spell a ∷ t) p.1)

find_case : (b : Bool) (text : List ℕ) (w : Keyword) (words : List Keyword) (word : Keyword) → bytes_eq (keyword_text w) text ≡ b
    → (find (λ w. bytes_eq (keyword_text w) text) words ≡ Some word → text ≡ keyword_text word) → cond b (Some w) (find (λ w. bytes_eq (keyword_text w) text) words) ≡ Some word → text ≡ keyword_text word
find_case true text w words word h more e = let same : w ≡ word = cc in sym ((bytes_eq-Decides (keyword_text w) text).0 h) ∙ ap keyword_text same
find_case false text w words word h more e = more e

find_is : (text : List ℕ) (words : List Keyword) (word : Keyword) → find (λ w. bytes_eq (keyword_text w) text) words ≡ Some word → text ≡ keyword_text word
find_is text [] word e = absurd cc
find_is text (w ∷ words) word e = find_case (bytes_eq (keyword_text w) text) text w words word refl (find_is text words word) e

keyword_is : (text : List ℕ) (word : Keyword) → keyword_of text ≡ Some word → text ≡ keyword_text word
unfolding keyword_of
keyword_is text word e = find_is text keywords word e

pub keyword_found : (k : ℕ) → Finds k keyword_at (λ word. Unit {0}) (λ word. keyword_text word ∷ [])
keyword_found = one_found keyword_of (λ word. Unit {0}) keyword_text (λ text word e. (tt, keyword_is text word e))

names_found : (k : ℕ) → Finds k name_at IsName (λ name. name ∷ [])
names_found = one_found name_of IsName (λ name. name) name_found

pub texts_found : (k : ℕ) → Finds k text_at IsText (λ text. quoted text ∷ [])
texts_found = one_found text_of IsText quoted text_found

widths_found : (k : ℕ) → Finds k width_at IsWidth (λ width. decimal width ∷ [])
widths_found = one_found (number_of 9) IsWidth decimal (λ text n e. number_found 9 n text (lit≤ tt) e)

numbers_found : (k : ℕ) → Finds k number_at IsNumber (λ number. decimal number ∷ [])
numbers_found = one_found (number_of 18) IsNumber decimal (λ text n e. number_found 18 n text (lit≤ tt) e)

expecting_found : (b : Bool) (word : Keyword) (text : List ℕ) (after rest : Texts) (u : Unit {0}) → bytes_eq (keyword_text word) text ≡ b → cond b (reads tt after) (Err (text ∷ after)) ≡ reads u rest → text ∷ after ≡ keyword_text word ∷ rest
expecting_found true word text after rest u h e =
    ap (λ t. t ∷ after) (sym ((bytes_eq-Decides (keyword_text word) text).0 h)) ∙ ap (λ t. keyword_text word ∷ t) (rest_is tt u after rest e)
expecting_found false word text after rest u h e = absurd cc

expect_found : (word : Keyword) (texts rest : Texts) (u : Unit {0}) → expect_at word texts ≡ reads u rest → texts ≡ keyword_text word ∷ rest
expect_found word [] rest u e = absurd cc
expect_found word (text ∷ after) rest u e = expecting_found (bytes_eq (keyword_text word) text) word text after rest u refl e

-- a keyword, and then a reader
pub expecting : {B : Type 0} (word : Keyword) (texts rest : Texts) (b : B) (q : Texts → Parsed B) → (expect_at word texts >>= λ u. q u.1) ≡ reads b rest → (C : Type 0)
    → ((after : Texts) → texts ≡ keyword_text word ∷ after → length after < length texts → q after ≡ reads b rest → C) → C
expecting word texts rest b q e C next =
    let f = bind_ok (expect_at word texts) (λ u. q u.1) (b, rest) e in
    next f.0.1 (expect_found word texts f.0.1 f.0.0 f.1) (expect_shrinks word texts f.0.0 f.0.1 f.1) f.2

taking_found : (b : Bool) (word : Keyword) (text : List ℕ) (after rest : Texts) (c : Bool) → bytes_eq (keyword_text word) text ≡ b → cond b (taking true after) (taking false (text ∷ after)) ≡ reads c rest → text ∷ after ≡ cond c (keyword_text word ∷ rest) rest
taking_found true word text after rest c h e =
    ap (λ t. t ∷ after) (sym ((bytes_eq-Decides (keyword_text word) text).0 h)) ∙ ap (λ t. keyword_text word ∷ t) (rest_is true c after rest e) ∙ ap (λ x. cond x (keyword_text word ∷ rest) rest) (value_is true c after rest e)
taking_found false word text after rest c h e = rest_is false c (text ∷ after) rest e ∙ ap (λ x. cond x (keyword_text word ∷ rest) rest) (value_is false c (text ∷ after) rest e)

takes_found : (word : Keyword) (texts rest : Texts) (c : Bool) → takes_at word texts ≡ reads c rest → texts ≡ cond c (keyword_text word ∷ rest) rest
takes_found word [] rest c e = absurd cc
takes_found word (text ∷ after) rest c e = taking_found (bytes_eq (keyword_text word) text) word text after rest c refl e

-- ---- lists

list_case : {A : Type 0} (p : Texts → Parsed A) (Fits : A → Type 0) (spell : A → Texts) (c : Bool) (texts after rest : Texts) (xs : List A) → texts ≡ cond c (keyword_text Word.Close ∷ after) after
    → ((a : A) (last : Texts) → p after ≡ reads a last → Fits a × (after ≡ spell a ++ last))
    → ((a : A) (last : Texts) → p after ≡ reads a last → (ys : List A) → list_at p last ≡ reads ys rest → AllByRecursion Fits ys × (last ≡ closed (flat_map spell ys) ++ rest))
    → cond c (reads [] after) (p after >>= λ first. list_at p first.1 >>= λ others. Ok (first.0 ∷ others.0, others.1)) ≡ reads xs rest → AllByRecursion Fits xs × (texts ≡ closed (flat_map spell xs) ++ rest)
list_case p Fits spell true texts after rest xs front one more e =
    subst (λ ys. AllByRecursion Fits ys × (texts ≡ closed (flat_map spell ys) ++ rest)) (value_is [] xs after rest e) (tt, front ∙ ap (λ t. keyword_text Word.Close ∷ t) (rest_is [] xs after rest e))
list_case p Fits spell false texts after rest xs front one more e =
    let f = bind_ok (p after) (λ first. list_at p first.1 >>= λ others. Ok (first.0 ∷ others.0, others.1)) (xs, rest) e in
    let m = mapped (λ ys. f.0.0 ∷ ys) (list_at p f.0.1) xs rest f.2 in
    let a = one f.0.0 f.0.1 f.1 in
    let b = more f.0.0 f.0.1 f.1 m.0 m.1 in
    let whole : closed (flat_map spell (f.0.0 ∷ m.0)) ++ rest ≡ spell f.0.0 ++ (closed (flat_map spell m.0) ++ rest) = rw (flat_map-cons, append_assoc, append_assoc, append_assoc) refl in
    subst (λ ys. AllByRecursion Fits ys × (texts ≡ closed (flat_map spell ys) ++ rest)) m.2 ((a.0, b.0), front ∙ a.1 ∙ ap (λ t. spell f.0.0 ++ t) b.1 ∙ sym whole)

pub list_found : {A : Type 0} (p : Texts → Parsed A) → Shrinks p → (Fits : A → Type 0) (spell : A → Texts) (k : ℕ) → Finds k p Fits spell → Finds k (list_at p) (AllByRecursion Fits) (λ xs. closed (flat_map spell xs))
list_found p s Fits spell zero h texts rest xs lt e = absurd (omega arith)
list_found p s Fits spell (suc k) h texts rest xs lt e =
    let f = bind_ok (takes_at Word.Close texts) (λ c. cond c.0 (reads [] c.1) (p c.1 >>= λ first. list_at p first.1 >>= λ others. Ok (first.0 ∷ others.0, others.1))) (xs, rest) (sym (list_is p s texts) ∙ e) in
    let less = (takes_keeps Word.Close texts f.0.0 f.0.1 f.1).0 in
    list_case p Fits spell f.0.0 texts f.0.1 rest xs (takes_found Word.Close texts f.0.1 f.0.0 f.1)
    (λ a last e'. h f.0.1 last a (omega (arith, less)) e')
    (λ a last e' ys e''. list_found p s Fits spell k (λ t r x l. h t r x (omega arith)) last rest ys (omega (arith, less, s f.0.1 a last e')) e'')
    f.2

pub braced_found : {A : Type 0} (p : Texts → Parsed A) → Shrinks p → (Fits : A → Type 0) (spell : A → Texts) (k : ℕ) → Finds k p Fits spell → Finds (suc k) (braced_at p) (AllByRecursion Fits) (λ xs. keyword_text Word.Open ∷ closed (flat_map spell xs))
braced_found p s Fits spell k h texts rest xs lt e =
    let f = bind_ok (expect_at Word.Open texts) (λ o. list_at p o.1) (xs, rest) e in
    let l = list_found p s Fits spell k h f.0.1 rest xs (omega (arith, expect_shrinks Word.Open texts f.0.0 f.0.1 f.1)) f.2 in
    (l.0, expect_found Word.Open texts f.0.1 f.0.0 f.1 ∙ ap (λ t. keyword_text Word.Open ∷ t) l.1)

-- ---- contents

sign_case : (word : Keyword) (texts after rest : Texts) (sign : Sign) → texts ≡ keyword_text word ∷ after → sign_by_word word texts after ≡ reads sign rest → texts ≡ sign_text sign ∷ rest
sign_case Word.Unsigned texts after rest sign front e =
    front ∙ ap (λ t. keyword_text Word.Unsigned ∷ t) (rest_is Sign.Unsigned sign after rest e) ∙ ap (λ s. sign_text s ∷ rest) (value_is Sign.Unsigned sign after rest e)
sign_case Word.Signed texts after rest sign front e =
    front ∙ ap (λ t. keyword_text Word.Signed ∷ t) (rest_is Sign.Signed sign after rest e) ∙ ap (λ s. sign_text s ∷ rest) (value_is Sign.Signed sign after rest e)
sign_case word texts after rest sign front e = absurd cc

sign_found : (k : ℕ) → Finds k sign_at (λ sign. Unit {0}) (λ sign. sign_text sign ∷ [])
unfolding sign_at
sign_found k texts rest sign lt e =
    let f = bind_ok (keyword_at texts) (λ w. sign_by_word w.0 texts w.1) (sign, rest) e in
    (tt, sign_case f.0.0 texts f.0.1 rest sign (keyword_found k texts f.0.1 f.0.0 lt f.1).1 f.2)

entry_found : (k : ℕ) → Finds k entry_at EntryInRange entry_texts
unfolding entry_at
entry_found k texts rest entry lt e =
    reading k number_at IsNumber (λ n. decimal n ∷ []) (numbers_found k) (one_shrinks (number_of 18)) texts rest entry (λ n. text_at n.1 >>= λ t. reads (record { number = n.0; text = t.0 }) t.1) lt e (EntryInRange entry × (texts ≡ entry_texts entry ++ rest)) (λ n after fits is less e'.
    making k text_at IsText (λ t. quoted t ∷ []) (texts_found k) after rest entry (λ t. record { number = n; text = t }) (omega (arith, lt, less)) e' (λ x. EntryInRange x × (texts ≡ entry_texts x ++ rest)) (λ t fits' is'.
    ((fits, fits'), is ∙ ap (λ x. decimal n ∷ x) is')))

scale_texts : Scale → Texts
scale_texts scale = sign_text scale.sign ∷ decimal scale.num ∷ decimal scale.den ∷ quoted scale.unit ∷ []

scale_found : (k : ℕ) → Finds k scale_at (λ scale. IsNumber scale.num × IsNumber scale.den × IsText scale.unit) scale_texts
unfolding scale_at scale_texts
scale_found k texts rest scale lt e =
    let Found : Scale → Type 0 = λ x. (IsNumber x.num × IsNumber x.den × IsText x.unit) × (texts ≡ (sign_text x.sign ∷ decimal x.num ∷ decimal x.den ∷ quoted x.unit ∷ rest)) in
    reading k sign_at (λ sign. Unit {0}) (λ sign. sign_text sign ∷ []) (sign_found k) sign_shrinks texts rest scale (λ s. number_at s.1 >>= λ n. number_at n.1 >>= λ d. text_at d.1 >>= λ u. reads (record { sign = s.0; num = n.0; den = d.0; unit = u.0 }) u.1) lt e (Found scale) (λ sign t1 fits1 is1 less1 e1.
    reading k number_at IsNumber (λ n. decimal n ∷ []) (numbers_found k) (one_shrinks (number_of 18)) t1 rest scale (λ n. number_at n.1 >>= λ d. text_at d.1 >>= λ u. reads (record { sign = sign; num = n.0; den = d.0; unit = u.0 }) u.1) (omega (arith, lt, less1)) e1 (Found scale) (λ num t2 fits2 is2 less2 e2.
    reading k number_at IsNumber (λ n. decimal n ∷ []) (numbers_found k) (one_shrinks (number_of 18)) t2 rest scale (λ d. text_at d.1 >>= λ u. reads (record { sign = sign; num = num; den = d.0; unit = u.0 }) u.1) (omega (arith, lt, less1, less2)) e2 (Found scale) (λ den t3 fits3 is3 less3 e3.
    making k text_at IsText (λ t. quoted t ∷ []) (texts_found k) t3 rest scale (λ u. record { sign = sign; num = num; den = den; unit = u }) (omega (arith, lt, less1, less2, less3)) e3 Found (λ unit fits4 is4.
    ((fits2, fits3, fits4), is1 ∙ ap (λ t. sign_text sign ∷ t) (is2 ∙ ap (λ t. decimal num ∷ t) (is3 ∙ ap (λ t. decimal den ∷ t) is4)))))))

abbrev Spells : {A : Type 0} → (A → Type 0) → (A → Texts) → Texts → Texts → A → Type 0
Spells Fits spell texts rest a = Fits a × (texts ≡ spell a ++ rest)

content_case : (k : ℕ) (word : Keyword) (texts after rest : Texts) (content : Content) → length after < k → texts ≡ keyword_text word ∷ after → content_by_word word texts after ≡ reads content rest
    → Spells ContentInRange content_texts texts rest content
unfolding scale_texts
content_case k Word.Raw texts after rest content lt front e =
    subst (λ x. Spells ContentInRange content_texts texts rest x) (value_is Meaning.Raw content after rest e) (tt, front ∙ ap (λ t. keyword_text Word.Raw ∷ t) (rest_is Meaning.Raw content after rest e))
content_case k Word.Ascii texts after rest content lt front e =
    subst (λ x. Spells ContentInRange content_texts texts rest x) (value_is Meaning.Ascii content after rest e) (tt, front ∙ ap (λ t. keyword_text Word.Ascii ∷ t) (rest_is Meaning.Ascii content after rest e))
content_case k Word.Icao texts after rest content lt front e =
    subst (λ x. Spells ContentInRange content_texts texts rest x) (value_is Meaning.Icao content after rest e) (tt, front ∙ ap (λ t. keyword_text Word.Icao ∷ t) (rest_is Meaning.Icao content after rest e))
content_case k Word.Octal texts after rest content lt front e =
    subst (λ x. Spells ContentInRange content_texts texts rest x) (value_is Meaning.Octal content after rest e) (tt, front ∙ ap (λ t. keyword_text Word.Octal ∷ t) (rest_is Meaning.Octal content after rest e))
content_case k Word.Table texts after rest content lt front e =
    let m = mapped Meaning.Table (braced_at entry_at after) content rest e in
    let es = braced_found entry_at entry_shrinks EntryInRange entry_texts k (entry_found k) after rest m.0 (omega (arith, lt)) m.1 in
    subst (λ x. Spells ContentInRange content_texts texts rest x) m.2 (es.0, front ∙ ap (λ t. keyword_text Word.Table ∷ t) es.1)
content_case k Word.Integer texts after rest content lt front e =
    let m = mapped Meaning.Integer (sign_at after) content rest e in
    let s = sign_found k after rest m.0 lt m.1 in
    subst (λ x. Spells ContentInRange content_texts texts rest x) m.2 (tt, front ∙ ap (λ t. keyword_text Word.Integer ∷ t) s.1)
content_case k Word.Quantity texts after rest content lt front e =
    let m = mapped Meaning.Quantity (scale_at after) content rest e in
    let s = scale_found k after rest m.0 lt m.1 in
    subst (λ x. Spells ContentInRange content_texts texts rest x) m.2 (s.0, front ∙ ap (λ t. keyword_text Word.Quantity ∷ t) s.1)
content_case k word texts after rest content lt front e = absurd cc

content_found : (k : ℕ) → Finds k content_at ContentInRange content_texts
unfolding content_at
content_found k texts rest content lt e =
    let f = bind_ok (keyword_at texts) (λ w. content_by_word w.0 texts w.1) (content, rest) e in
    content_case k f.0.0 texts f.0.1 rest content (omega (arith, one_shrinks keyword_of texts f.0.0 f.0.1 f.1)) (keyword_found k texts f.0.1 f.0.0 lt f.1).1 f.2

-- ---- fixed kinds

spare_case : (k : ℕ) (texts rest : Texts) (m : MemberTree) → length texts < k → (width_at texts >>= λ w. reads (spare w.0) w.1) ≡ reads m rest → MemberInRange m × (keyword_text Word.Spare ∷ texts ≡ member_texts m ++ rest)
spare_case k texts rest m lt e =
    let f = mapped spare (width_at texts) m rest e in
    let w = widths_found k texts rest f.0 lt f.1 in
    subst (λ x. MemberInRange x × (keyword_text Word.Spare ∷ texts ≡ member_texts x ++ rest)) f.2 (w.0, ap (λ t. keyword_text Word.Spare ∷ t) w.1)

named_case : (k : ℕ) → Finds k fixed_at FixedInRange fixed_texts → (texts rest : Texts) (m : MemberTree) → length texts < suc k → (name_at texts >>= λ n. fixed_at n.1 >>= λ f. reads (named n.0 f.0) f.1) ≡ reads m rest → MemberInRange m × (texts ≡ member_texts m ++ rest)
named_case k h texts rest m lt e =
    reading (suc k) name_at IsName (λ name. name ∷ []) (names_found (suc k)) (one_shrinks name_of) texts rest m (λ n. fixed_at n.1 >>= λ f. reads (named n.0 f.0) f.1) lt e (MemberInRange m × (texts ≡ member_texts m ++ rest)) (λ name after fits is less e'.
    making k fixed_at FixedInRange fixed_texts h after rest m (named name) (omega (arith, lt, less)) e' (λ x. MemberInRange x × (texts ≡ member_texts x ++ rest)) (λ f fits' is'. ((fits, fits'), is ∙ ap (λ t. name ∷ t) is')))

member_case : (k : ℕ) → Finds k fixed_at FixedInRange fixed_texts → (c : Bool) (texts after rest : Texts) (m : MemberTree) → length after < suc k → texts ≡ cond c (keyword_text Word.Spare ∷ after) after
    → cond c (width_at after >>= λ w. reads (spare w.0) w.1) (name_at after >>= λ n. fixed_at n.1 >>= λ f. reads (named n.0 f.0) f.1) ≡ reads m rest → MemberInRange m × (texts ≡ member_texts m ++ rest)
member_case k h true texts after rest m lt front e = let x = spare_case (suc k) after rest m lt e in (x.0, front ∙ x.1)
member_case k h false texts after rest m lt front e = let x = named_case k h after rest m lt e in (x.0, front ∙ x.1)

member_found : (k : ℕ) → Finds k fixed_at FixedInRange fixed_texts → Finds (suc k) member_at MemberInRange member_texts
unfolding member_at member_step
member_found k h texts rest m lt e =
    let f = bind_ok (takes_at Word.Spare texts) (λ c. cond c.0 (width_at c.1 >>= λ w. reads (spare w.0) w.1) (name_at c.1 >>= λ n. fixed_at n.1 >>= λ f. reads (named n.0 f.0) f.1)) (m, rest) e in
    member_case k h f.0.0 texts f.0.1 rest m (omega (arith, (takes_keeps Word.Spare texts f.0.0 f.0.1 f.1).0)) (takes_found Word.Spare texts f.0.1 f.0.0 f.1) f.2

members_spelled : (ms : List MemberTree) → members_texts (members_of ms) ≡ flat_map member_texts ms
members_spelled [] = refl
members_spelled (m ∷ ms) = ap (λ t. member_texts m ++ t) (members_spelled ms) ∙ sym (flat_map-cons member_texts m ms)

members_fit : (ms : List MemberTree) → AllByRecursion MemberInRange ms → MembersInRange (members_of ms)
members_fit [] h = tt
members_fit (m ∷ ms) h = (h.0, members_fit ms h.1)

-- members in braces
members_found : (k : ℕ) → Finds k fixed_at FixedInRange fixed_texts → (texts rest : Texts) (ms : List MemberTree) → length texts < suc (suc k) → braced_at member_at texts ≡ reads ms rest
    → MembersInRange (members_of ms) × (texts ≡ (keyword_text Word.Open ∷ closed (members_texts (members_of ms))) ++ rest)
members_found k h texts rest ms lt e =
    let f = braced_found member_at member_shrinks MemberInRange member_texts (suc k) (member_found k h) texts rest ms lt e in
    (members_fit ms f.0, f.1 ∙ ap (λ t. (keyword_text Word.Open ∷ closed t) ++ rest) (sym (members_spelled ms)))

fixed_case : (k : ℕ) → Finds k fixed_at FixedInRange fixed_texts → (word : Keyword) (texts after rest : Texts) (f : FixedTree) → length after < suc k → texts ≡ keyword_text word ∷ after → fixed_by_word fixed_at word texts after ≡ reads f rest
    → FixedInRange f × (texts ≡ fixed_texts f ++ rest)
unfolding member_at
fixed_case k h Word.Element texts after rest f lt front e =
    reading (suc k) width_at IsWidth (λ width. decimal width ∷ []) (widths_found (suc k)) (one_shrinks (number_of 9)) after rest f (λ w. content_at w.1 >>= λ c. reads (element w.0 c.0) c.1) lt e (FixedInRange f × (texts ≡ fixed_texts f ++ rest)) (λ width last fits is less e'.
    making (suc k) content_at ContentInRange content_texts (content_found (suc k)) last rest f (element width) (omega (arith, lt, less)) e' (λ x. FixedInRange x × (texts ≡ fixed_texts x ++ rest)) (λ c fits' is'.
    ((fits, fits'), front ∙ ap (λ t. keyword_text Word.Element ∷ t) (is ∙ ap (λ t. decimal width ∷ t) is'))))
fixed_case k h Word.Group texts after rest f lt front e =
    let m = mapped (λ ms. group (members_of ms)) (braced_at member_at after) f rest e in
    let ms = members_found k h after rest m.0 (omega (arith, lt)) m.1 in
    subst (λ x. FixedInRange x × (texts ≡ fixed_texts x ++ rest)) m.2 (ms.0, front ∙ ap (λ t. keyword_text Word.Group ∷ t) ms.1)
fixed_case k h word texts after rest f lt front e = absurd cc

fixed_found : (k : ℕ) → Finds k fixed_at FixedInRange fixed_texts
unfolding fixed_step
fixed_found zero texts rest f lt e = absurd (omega arith)
fixed_found (suc k) texts rest f lt e =
    let g = bind_ok (keyword_at texts) (λ w. fixed_by_word fixed_at w.0 texts w.1) (f, rest) (sym (fixed_is texts) ∙ e) in
    fixed_case k (fixed_found k) g.0.0 texts g.0.1 rest f (omega (arith, lt, one_shrinks keyword_of texts g.0.0 g.0.1 g.1)) (keyword_found (suc k) texts g.0.1 g.0.0 lt g.1).1 g.2

-- ---- kinds

part_found : (k : ℕ) → Finds k part_at MembersInRange part_texts
unfolding part_at
part_found k texts rest ms lt e =
    expecting Word.Part texts rest ms (λ t. braced_at member_at t >>= λ m. reads (members_of m.0) m.1) e (MembersInRange ms × (texts ≡ part_texts ms ++ rest)) (λ after is less e'.
    let m = mapped members_of (braced_at member_at after) ms rest e' in
    let g = members_found k (fixed_found k) after rest m.0 (omega (arith, lt, less)) m.1 in
    subst (λ x. MembersInRange x × (texts ≡ part_texts x ++ rest)) m.2 (g.0, is ∙ ap (λ t. keyword_text Word.Part ∷ t) g.1))

subitem_case : (k : ℕ) → Finds k kind_at KindInRange kind_texts → (texts rest : Texts) (s : SlotTree) → length texts < suc k → (name_at texts >>= λ n. kind_at n.1 >>= λ f. reads (subitem n.0 f.0) f.1) ≡ reads s rest → SlotInRange s × (texts ≡ slot_texts s ++ rest)
subitem_case k h texts rest s lt e =
    reading (suc k) name_at IsName (λ name. name ∷ []) (names_found (suc k)) (one_shrinks name_of) texts rest s (λ n. kind_at n.1 >>= λ f. reads (subitem n.0 f.0) f.1) lt e (SlotInRange s × (texts ≡ slot_texts s ++ rest)) (λ name after fits is less e'.
    making k kind_at KindInRange kind_texts h after rest s (subitem name) (omega (arith, lt, less)) e' (λ x. SlotInRange x × (texts ≡ slot_texts x ++ rest)) (λ f fits' is'. ((fits, fits'), is ∙ ap (λ t. name ∷ t) is')))

slot_case : (k : ℕ) → Finds k kind_at KindInRange kind_texts → (c : Bool) (texts after rest : Texts) (s : SlotTree) → length after < suc k → texts ≡ cond c (keyword_text Word.Dash ∷ after) after
    → cond c (reads spare_slot after) (name_at after >>= λ n. kind_at n.1 >>= λ f. reads (subitem n.0 f.0) f.1) ≡ reads s rest → SlotInRange s × (texts ≡ slot_texts s ++ rest)
slot_case k h true texts after rest s lt front e =
    subst (λ x. SlotInRange x × (texts ≡ slot_texts x ++ rest)) (value_is spare_slot s after rest e) (tt, front ∙ ap (λ t. keyword_text Word.Dash ∷ t) (rest_is spare_slot s after rest e))
slot_case k h false texts after rest s lt front e = let x = subitem_case k h after rest s lt e in (x.0, front ∙ x.1)

pub slot_found : (k : ℕ) → Finds k kind_at KindInRange kind_texts → Finds (suc k) slot_at SlotInRange slot_texts
unfolding slot_at slot_step
slot_found k h texts rest s lt e =
    let f = bind_ok (takes_at Word.Dash texts) (λ c. cond c.0 (reads spare_slot c.1) (name_at c.1 >>= λ n. kind_at n.1 >>= λ f. reads (subitem n.0 f.0) f.1)) (s, rest) e in
    slot_case k h f.0.0 texts f.0.1 rest s (omega (arith, lt, (takes_keeps Word.Dash texts f.0.0 f.0.1 f.1).0)) (takes_found Word.Dash texts f.0.1 f.0.0 f.1) f.2

pub slots_spelled : (ss : List SlotTree) → slots_texts (slots_of ss) ≡ flat_map slot_texts ss
slots_spelled [] = refl
slots_spelled (s ∷ ss) = ap (λ t. slot_texts s ++ t) (slots_spelled ss) ∙ sym (flat_map-cons slot_texts s ss)

pub slots_fit : (ss : List SlotTree) → AllByRecursion SlotInRange ss → SlotsInRange (slots_of ss)
slots_fit [] h = tt
slots_fit (s ∷ ss) h = (h.0, slots_fit ss h.1)

extended_case : (last : LastPart) (k : ℕ) (texts after rest : Texts) (f : KindTree) → length after < suc k → texts ≡ keyword_text (extended_word last) ∷ after → extended_at last after ≡ reads f rest → KindInRange f × (texts ≡ kind_texts f ++ rest)
extended_case last k texts after rest f lt front e =
    let m = mapped (extended last) (braced_at part_at after) f rest e in
    let ps = braced_found part_at part_shrinks MembersInRange part_texts k (part_found k) after rest m.0 lt m.1 in
    subst (λ x. KindInRange x × (texts ≡ kind_texts x ++ rest)) m.2 (ps.0, front ∙ ap (λ t. keyword_text (extended_word last) ∷ t) ps.1)

counted_case : (size : Counter) (k : ℕ) → Finds k kind_at KindInRange kind_texts → (texts after rest : Texts) (f : KindTree) → length after < suc k → texts ≡ keyword_text (counted_word size) ∷ after → counted_at size after ≡ reads f rest → KindInRange f × (texts ≡ kind_texts f ++ rest)
counted_case size k h texts after rest f lt front e =
    expecting Word.Open after rest f (λ t. kind_at t >>= λ i. expect_at Word.Close i.1 >>= λ c. reads (counted size i.0) c.1) e (KindInRange f × (texts ≡ kind_texts f ++ rest)) (λ t1 is1 less1 e1.
    reading k kind_at KindInRange kind_texts h kind_shrinks t1 rest f (λ i. expect_at Word.Close i.1 >>= λ c. reads (counted size i.0) c.1) (omega (arith, lt, less1)) e1 (KindInRange f × (texts ≡ kind_texts f ++ rest)) (λ inner t2 fits2 is2 less2 e2.
    expecting Word.Close t2 rest f (λ t. reads (counted size inner) t) e2 (KindInRange f × (texts ≡ kind_texts f ++ rest)) (λ t3 is3 less3 e3.
    let last : t2 ≡ keyword_text Word.Close ∷ rest = is3 ∙ ap (λ t. keyword_text Word.Close ∷ t) (rest_is (counted size inner) f t3 rest e3) in
    subst (λ x. KindInRange x × (texts ≡ kind_texts x ++ rest)) (value_is (counted size inner) f t3 rest e3)
    (fits2, front ∙ ap (λ t. keyword_text (counted_word size) ∷ t) (is1 ∙ ap (λ t. keyword_text Word.Open ∷ t) (is2 ∙ ap (λ t. kind_texts inner ++ t) last ∙ sym (append_assoc (kind_texts inner) (keyword_text Word.Close ∷ []) rest)))))))

kind_case : (k : ℕ) → Finds k kind_at KindInRange kind_texts → (word : Keyword) (texts after rest : Texts) (f : KindTree) → length texts < suc k → length after < length texts → texts ≡ keyword_text word ∷ after → kind_by_word kind_at word texts after ≡ reads f rest
    → KindInRange f × (texts ≡ kind_texts f ++ rest)
unfolding slot_at
kind_case k h Word.Extended texts after rest f lt le front e = extended_case WithFx k texts after rest f (omega (arith, lt, le)) front e
kind_case k h Word.Closed texts after rest f lt le front e = extended_case WithoutFx k texts after rest f (omega (arith, lt, le)) front e
kind_case k h Word.Counted texts after rest f lt le front e = counted_case One k h texts after rest f (omega (arith, lt, le)) front e
kind_case k h Word.Wide texts after rest f lt le front e = counted_case Two k h texts after rest f (omega (arith, lt, le)) front e
kind_case k h Word.ByFx texts after rest f lt le front e =
    let m = mapped by_fx (fixed_at after) f rest e in
    let x = fixed_found k after rest m.0 (omega (arith, lt, le)) m.1 in
    subst (λ x. KindInRange x × (texts ≡ kind_texts x ++ rest)) m.2 (x.0, front ∙ ap (λ t. keyword_text Word.ByFx ∷ t) x.1)
kind_case k h Word.Explicit texts after rest f lt le front e =
    subst (λ x. KindInRange x × (texts ≡ kind_texts x ++ rest)) (value_is explicit f after rest e) (tt, front ∙ ap (λ t. keyword_text Word.Explicit ∷ t) (rest_is explicit f after rest e))
kind_case k h Word.Compound texts after rest f lt le front e =
    let m = mapped (λ ss. compound (slots_of ss)) (braced_at slot_at after) f rest e in
    let ss = braced_found slot_at slot_shrinks SlotInRange slot_texts (suc k) (slot_found k h) after rest m.0 (omega (arith, lt, le)) m.1 in
    subst (λ x. KindInRange x × (texts ≡ kind_texts x ++ rest)) m.2
    (slots_fit m.0 ss.0, front ∙ ap (λ t. keyword_text Word.Compound ∷ t) (ss.1 ∙ ap (λ t. (keyword_text Word.Open ∷ closed t) ++ rest) (sym (slots_spelled m.0))))
kind_case k h word texts after rest f lt le front e =
    let m = mapped fixed (fixed_at texts) f rest e in
    let x = fixed_found (suc k) texts rest m.0 lt m.1 in
    subst (λ x. KindInRange x × (texts ≡ kind_texts x ++ rest)) m.2 x

pub kind_found : (k : ℕ) → Finds k kind_at KindInRange kind_texts
unfolding kind_step
kind_found zero texts rest f lt e = absurd (omega arith)
kind_found (suc k) texts rest f lt e =
    let g = bind_ok (keyword_at texts) (λ w. kind_by_word kind_at w.0 texts w.1) (f, rest) (sym (kind_is texts) ∙ e) in
    kind_case k (kind_found k) g.0.0 texts g.0.1 rest f lt (one_shrinks keyword_of texts g.0.0 g.0.1 g.1) (keyword_found (suc k) texts g.0.1 g.0.0 lt g.1).1 g.2

-- ---- specifications

item_found : (k : ℕ) → Finds k item_at ItemInRange item_texts
unfolding item_at
item_found k texts rest item lt e =
    let Found : ItemTree → Type 0 = λ x. ItemInRange x × (texts ≡ item_texts x ++ rest) in
    expecting Word.Item texts rest item (λ t. name_at t >>= λ n. text_at n.1 >>= λ t. kind_at t.1 >>= λ x. reads (record { name = n.0; title = t.0; kind = x.0 }) x.1) e (Found item) (λ t1 is1 less1 e1.
    reading k name_at IsName (λ name. name ∷ []) (names_found k) (one_shrinks name_of) t1 rest item (λ n. text_at n.1 >>= λ t. kind_at t.1 >>= λ x. reads (record { name = n.0; title = t.0; kind = x.0 }) x.1) (omega (arith, lt, less1)) e1 (Found item) (λ name t2 fits2 is2 less2 e2.
    reading k text_at IsText (λ t. quoted t ∷ []) (texts_found k) (one_shrinks text_of) t2 rest item (λ t. kind_at t.1 >>= λ x. reads (record { name = name; title = t.0; kind = x.0 }) x.1) (omega (arith, lt, less1, less2)) e2 (Found item) (λ title t3 fits3 is3 less3 e3.
    making k kind_at KindInRange kind_texts (kind_found k) t3 rest item (λ x. record { name = name; title = title; kind = x }) (omega (arith, lt, less1, less2, less3)) e3 Found (λ kind fits4 is4.
    ((fits2, fits3, fits4), is1 ∙ ap (λ x. keyword_text Word.Item ∷ x) (is2 ∙ ap (λ x. name ∷ x) (is3 ∙ ap (λ x. quoted title ∷ x) is4)))))))

uap_item_case : (k : ℕ) (texts rest : Texts) (s : UapSlot) → length texts < k → (name_at texts >>= λ n. reads (Uap.Item n.0) n.1) ≡ reads s rest → UapSlotInRange s × (texts ≡ uap_slot_texts s ++ rest)
uap_item_case k texts rest s lt e =
    let m = mapped Uap.Item (name_at texts) s rest e in
    let n = names_found k texts rest m.0 lt m.1 in
    subst (λ x. UapSlotInRange x × (texts ≡ uap_slot_texts x ++ rest)) m.2 n

uap_slot_case : (k : ℕ) (c : Bool) (texts after rest : Texts) (s : UapSlot) → length after < k → texts ≡ cond c (keyword_text Word.Dash ∷ after) after
    → cond c (reads Uap.Spare after) (name_at after >>= λ n. reads (Uap.Item n.0) n.1) ≡ reads s rest → UapSlotInRange s × (texts ≡ uap_slot_texts s ++ rest)
uap_slot_case k true texts after rest s lt front e =
    subst (λ x. UapSlotInRange x × (texts ≡ uap_slot_texts x ++ rest)) (value_is Uap.Spare s after rest e) (tt, front ∙ ap (λ t. keyword_text Word.Dash ∷ t) (rest_is Uap.Spare s after rest e))
uap_slot_case k false texts after rest s lt front e = let x = uap_item_case k after rest s lt e in (x.0, front ∙ x.1)

uap_slot_found : (k : ℕ) → Finds k uap_slot_at UapSlotInRange uap_slot_texts
unfolding uap_slot_at
uap_slot_found k texts rest s lt e =
    let f = bind_ok (takes_at Word.Dash texts) (λ c. cond c.0 (reads Uap.Spare c.1) (name_at c.1 >>= λ n. reads (Uap.Item n.0) n.1)) (s, rest) e in
    uap_slot_case k f.0.0 texts f.0.1 rest s (omega (arith, lt, (takes_keeps Word.Dash texts f.0.0 f.0.1 f.1).0)) (takes_found Word.Dash texts f.0.1 f.0.0 f.1) f.2

pub categories_found : (k : ℕ) → Finds k category_at (λ n. n < 256) (λ n. three_digits n ∷ [])
categories_found = one_found category_of (λ n. n < 256) three_digits (λ text n e. category_found n text e)

pub spec_found : (texts rest : Texts) (spec : SpecTree) → spec_at texts ≡ reads spec rest → InRange spec × (texts ≡ spelled spec ++ rest)
unfolding spec_at
spec_found texts rest spec e =
    let k = suc (length texts) in
    let Found : SpecTree → Type 0 = λ x. InRange x × (texts ≡ spelled x ++ rest) in
    let C = Found spec in
    expecting Word.Category texts rest spec category_part e C (λ t1 is1 less1 e1.
    reading k category_at (λ n. n < 256) (λ n. three_digits n ∷ []) (categories_found k) (one_shrinks category_of) t1 rest spec (λ c. expect_at Word.Edition c.1 >>= λ u. edition_part c.0 u.1) (omega (arith, less1)) e1 C (λ category t2 fits2 is2 less2 e2.
    expecting Word.Edition t2 rest spec (edition_part category) e2 C (λ t3 is3 less3 e3.
    reading k text_at IsText (λ t. quoted t ∷ []) (texts_found k) (one_shrinks text_of) t3 rest spec (λ t. expect_at Word.Items t.1 >>= λ u. items_part category t.0 u.1) (omega (arith, less1, less2, less3)) e3 C (λ edition t4 fits4 is4 less4 e4.
    expecting Word.Items t4 rest spec (items_part category edition) e4 C (λ t5 is5 less5 e5.
    reading (suc k) (braced_at item_at) (AllByRecursion ItemInRange) (λ xs. keyword_text Word.Open ∷ closed (flat_map item_texts xs)) (braced_found item_at item_shrinks ItemInRange item_texts k (item_found k)) (braced_shrinks item_at item_shrinks) t5 rest spec (λ i. expect_at Word.Uap i.1 >>= λ u. uap_part category edition i.0 u.1)
    (omega (arith, less1, less2, less3, less4, less5)) e5 C (λ items t6 fits6 is6 less6 e6.
    expecting Word.Uap t6 rest spec (uap_part category edition items) e6 C (λ t7 is7 less7 e7.
    making (suc k) (braced_at uap_slot_at) (AllByRecursion UapSlotInRange) (λ xs. keyword_text Word.Open ∷ closed (flat_map uap_slot_texts xs)) (braced_found uap_slot_at uap_slot_shrinks UapSlotInRange uap_slot_texts k (uap_slot_found k)) t7 rest spec (made category edition items)
    (omega (arith, less1, less2, less3, less4, less5, less6, less7)) e7 Found (λ uap fits8 is8.
    let slots = block Word.Uap (flat_map uap_slot_texts uap) in
    let list = block Word.Items (flat_map item_texts items) in
    let last : t6 ≡ slots ++ rest = is7 ∙ ap (λ t. keyword_text Word.Uap ∷ t) is8 in
    let middle : t4 ≡ (list ++ slots) ++ rest = is5 ∙ ap (λ t. keyword_text Word.Items ∷ t) is6 ∙ ap (λ t. list ++ t) last ∙ sym (append_assoc list slots rest) in (
      record { category = fits2; edition = fits4; items = fits6; uap = fits8 },
      is1 ∙ ap (λ t. keyword_text Word.Category ∷ t) (is2 ∙ ap (λ t. three_digits category ∷ t) (is3 ∙ ap (λ t. keyword_text Word.Edition ∷ t) (is4 ∙ ap (λ t. quoted edition ∷ t) middle))),
    )))))))))
