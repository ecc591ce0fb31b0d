-- Each rule leaves less, and those that call themselves are fixed points.
use Rattle.std.proofs.Common.{◌≡◌, ℕ, ◌<◌, ◌≤◌, Bool, true, false, cond, List, [], ◌∷◌, length, Option, Some, None, Ok, Err, refl, ap, arith}
use Rattle.ax_format.specs.Tree.{FixedTree, group, named, spare, members_of, KindTree, fixed, extended, counted, by_fx, explicit, compound, spare_slot, subitem, slots_of}
use Rattle.ax_format.specs.declared.content.Content.{Content}
use Rattle.ax_format.specs.declared.content.Sign.{Sign}
use Rattle.ax_format.specs.declared.kind.Counter.{Counter}
use Rattle.ax_format.specs.declared.kind.Counter.TheVariants.{One, Two}
use Rattle.ax_format.specs.declared.kind.LastPart.{LastPart}
use Rattle.ax_format.specs.declared.kind.LastPart.TheVariants.{WithFx, WithoutFx}
use Rattle.ax_format.specs.declared.spec.UapSlot.TheVariants as Uap
use Rattle.ax_grammar.specs.Keywords.{keyword_of}
use Rattle.ax_grammar.specs.Tests.{name_of, number_of, text_of}
use Rattle.ax_grammar.specs.Parsing.{Texts, Parsed, ◌>>=◌, one_of, one_at, takes_at, expect_at, braced_at}
use Rattle.ax_grammar.specs.Rules.{keyword_at, name_at, width_at, number_at, text_at, sign_by_word, sign_at, entry_at, scale_at, content_by_word, content_at, fixed_by_word, member_step, fixed_step, fixed_at, member_at, part_at, slot_step, kind_by_word, extended_at, counted_step, kind_step, kind_at, slot_at, item_at, uap_slot_at}
use Rattle.ax_grammar.specs.declared.keyword.Keyword.{Keyword}
use Rattle.ax_grammar.specs.declared.keyword.Keyword.TheVariants as Word
use Rattle.ax_grammar.proofs.Recursion.{Agree, Shrinks, IsGuarded, bind_ok, same_following, same_choice, reads, rest_is, recursive_shrinks, recursive_is}
use Rattle.ax_grammar.proofs.Lists.{takes_keeps, expect_shrinks, braced_shrinks, braced_agrees}

-- what is left in the end isn't more than what was left in the middle
pub Leaves : {A : Type 0} → ℕ → Parsed A → Type 0
Leaves {A} n read = (a : A) (rest : Texts) → read ≡ reads a rest → length rest ≤ n

one_found : {A : Type 0} (o : Option A) (text : List ℕ) (rest : Texts) (a : A) (after : Texts) → one_of o text rest ≡ reads a after → length after < length (text ∷ rest)
one_found None text rest a after e = absurd cc
one_found (Some x) text rest a after e = let r = rest_is x a rest after e in rw (← r) (omega arith)

pub one_shrinks : {A : Type 0} (test : List ℕ → Option A) → Shrinks (one_at test)
one_shrinks test [] a after e = absurd cc
one_shrinks test (text ∷ rest) a after e = one_found (test text) text rest a after e

-- a reader, and one that isn't left with more
pub then_shrinks : {A B : Type 0} (p : Texts → Parsed A) → Shrinks p → (f : A × Texts → Parsed B) → ((a : A) (rest : Texts) → Leaves (length rest) (f (a, rest))) → Shrinks (λ texts. p texts >>= f)
unfolding Leaves
then_shrinks p s f t texts b rest e =
    let g = bind_ok (p texts) f (b, rest) e in
    omega (arith, s texts g.0.0 g.0.1 g.1, t g.0.0 g.0.1 b rest g.2)

pub then_leaves : {A B : Type 0} (p : Texts → Parsed A) → Shrinks p → (f : A × Texts → Parsed B) → ((a : A) (rest : Texts) → Leaves (length rest) (f (a, rest))) → (texts : Texts) → Leaves (length texts) (p texts >>= f)
unfolding Leaves
then_leaves p s f t texts b rest e =
    let g = bind_ok (p texts) f (b, rest) e in
    omega (arith, s texts g.0.0 g.0.1 g.1, t g.0.0 g.0.1 b rest g.2)

pub done_leaves : {A : Type 0} (x : A) (texts : Texts) → Leaves (length texts) (reads x texts)
unfolding Leaves
done_leaves x texts a rest e = let r = rest_is x a texts rest e in rw (← r) (omega arith)

pub err_leaves : (A : Type 0) (n : ℕ) (texts : Texts) → Leaves {A = A} n (Err texts)
unfolding Leaves
err_leaves A n texts a rest e = absurd cc

-- ---- contents

sign_leaves : (word : Keyword) (texts rest : Texts) → Leaves (length rest) (sign_by_word word texts rest)
sign_leaves Word.Unsigned texts rest = done_leaves _ rest
sign_leaves Word.Signed texts rest = done_leaves _ rest
sign_leaves word texts rest = err_leaves Sign (length rest) texts

pub sign_shrinks : Shrinks sign_at
unfolding sign_at
sign_shrinks texts = then_shrinks keyword_at (one_shrinks keyword_of) _ (λ word rest. sign_leaves word texts rest) texts

pub entry_shrinks : Shrinks entry_at
unfolding entry_at
entry_shrinks = then_shrinks number_at (one_shrinks (number_of 18)) _ (λ number rest. then_leaves text_at (one_shrinks text_of) _ (λ text after. done_leaves _ after) rest)

pub scale_shrinks : Shrinks scale_at
unfolding scale_at
scale_shrinks =
    then_shrinks sign_at sign_shrinks _ (λ sign a. then_leaves number_at (one_shrinks (number_of 18)) _ (λ num b. then_leaves number_at (one_shrinks (number_of 18)) _ (λ den c.
    then_leaves text_at (one_shrinks text_of) _ (λ unit d. done_leaves _ d) c) b) a)

content_leaves : (word : Keyword) (texts rest : Texts) → Leaves (length rest) (content_by_word word texts rest)
content_leaves Word.Raw texts rest = done_leaves _ rest
content_leaves Word.Table texts rest = then_leaves (braced_at entry_at) (braced_shrinks entry_at entry_shrinks) _ (λ entries after. done_leaves _ after) rest
content_leaves Word.Ascii texts rest = done_leaves _ rest
content_leaves Word.Icao texts rest = done_leaves _ rest
content_leaves Word.Octal texts rest = done_leaves _ rest
content_leaves Word.Integer texts rest = then_leaves sign_at sign_shrinks _ (λ sign after. done_leaves _ after) rest
content_leaves Word.Quantity texts rest = then_leaves scale_at scale_shrinks _ (λ scale after. done_leaves _ after) rest
content_leaves word texts rest = err_leaves Content (length rest) texts

pub content_shrinks : Shrinks content_at
unfolding content_at
content_shrinks texts = then_shrinks keyword_at (one_shrinks keyword_of) _ (λ word rest. content_leaves word texts rest) texts

-- ---- fixed kinds

chosen_less : {A : Type 0} (b : Bool) (after : Texts) (n : ℕ) (p q : Texts → Parsed A) → Shrinks p → Shrinks q → length after ≤ n → (a : A) (rest : Texts) → cond b (p after) (q after) ≡ reads a rest → length rest < n
chosen_less true after n p q s t le a rest e = omega (arith, s after a rest e)
chosen_less false after n p q s t le a rest e = omega (arith, t after a rest e)

-- either of two readers, after the test for a keyword
takes_shrinks : {A : Type 0} (word : Keyword) (p q : Texts → Parsed A) → Shrinks p → Shrinks q → Shrinks (λ texts. takes_at word texts >>= λ c. cond c.0 (p c.1) (q c.1))
takes_shrinks word p q s t texts a rest e =
    let f = bind_ok (takes_at word texts) _ (a, rest) e in
    chosen_less f.0.0 f.0.1 (length texts) p q s t (takes_keeps word texts f.0.0 f.0.1 f.1).0 a rest f.2

spare_shrinks : Shrinks (λ texts. width_at texts >>= λ w. Ok (spare w.0, w.1))
spare_shrinks = then_shrinks width_at (one_shrinks (number_of 9)) _ (λ w rest. done_leaves _ rest)

named_shrinks : (p : Texts → Parsed FixedTree) → Shrinks p → Shrinks (λ texts. name_at texts >>= λ n. p n.1 >>= λ f. Ok (named n.0 f.0, f.1))
named_shrinks p s = then_shrinks name_at (one_shrinks name_of) _ (λ n rest. then_leaves p s _ (λ f after. done_leaves _ after) rest)

member_shrinks_of : (p : Texts → Parsed FixedTree) → Shrinks p → Shrinks (member_step p)
unfolding member_step
member_shrinks_of p s = takes_shrinks Word.Spare _ _ spare_shrinks (named_shrinks p s)

member_agrees : (k : ℕ) (p q : Texts → Parsed FixedTree) → Agree k p q → Agree k (member_step p) (member_step q)
unfolding member_step
member_agrees k p q h texts lt =
    same_following (takes_at Word.Spare texts) _ _ (λ c e. same_choice c.0 _ _ _ (λ _.
    same_following (name_at c.1) _ _ (λ n e'. ap (λ r. r >>= λ f. Ok (named n.0 f.0, f.1))
    (h n.1 (omega (arith, (takes_keeps Word.Spare texts c.0 c.1 e).0, one_shrinks name_of c.1 n.0 n.1 e'))))))

fixed_leaves : (p : Texts → Parsed FixedTree) → Shrinks p → (word : Keyword) (texts rest : Texts) → Leaves (length rest) (fixed_by_word p word texts rest)
fixed_leaves p s Word.Element texts rest = then_leaves width_at (one_shrinks (number_of 9)) _ (λ w after. then_leaves content_at content_shrinks _ (λ c last. done_leaves _ last) after) rest
fixed_leaves p s Word.Group texts rest = then_leaves (braced_at (member_step p)) (braced_shrinks (member_step p) (member_shrinks_of p s)) _ (λ ms after. done_leaves _ after) rest
fixed_leaves p s word texts rest = err_leaves FixedTree (length rest) texts

fixed_agrees : (k : ℕ) (p q : Texts → Parsed FixedTree) → Shrinks p → Shrinks q → Agree k p q → (word : Keyword) (texts rest : Texts) → length rest < k → fixed_by_word p word texts rest ≡ fixed_by_word q word texts rest
fixed_agrees k p q s t h Word.Element texts rest lt = refl
fixed_agrees k p q s t h Word.Group texts rest lt =
    ap (λ r. r >>= λ ms. Ok (group (members_of ms.0), ms.1))
    (braced_agrees k (member_step p) (member_step q) (member_shrinks_of p s) (member_shrinks_of q t) (member_agrees k p q h) rest lt)
fixed_agrees k p q s t h word texts rest lt = refl

fixed_guarded : IsGuarded fixed_step
unfolding fixed_step
fixed_guarded = record {
  agrees = λ k p q s t h texts lt.
      same_following (keyword_at texts) _ _ (λ word e. fixed_agrees k p q s t h word.0 texts word.1 (omega (arith, one_shrinks keyword_of texts word.0 word.1 e)));
  shrinks = λ p s texts. then_shrinks keyword_at (one_shrinks keyword_of) _ (λ word rest. fixed_leaves p s word texts rest) texts;
}

pub fixed_shrinks : Shrinks fixed_at
unfolding fixed_at
fixed_shrinks = recursive_shrinks fixed_step fixed_guarded

pub fixed_is : (texts : Texts) → fixed_at texts ≡ fixed_step fixed_at texts
unfolding fixed_at
fixed_is texts = recursive_is fixed_step fixed_guarded texts

pub member_shrinks : Shrinks member_at
unfolding member_at
member_shrinks = member_shrinks_of fixed_at fixed_shrinks

-- ---- kinds

pub part_shrinks : Shrinks part_at
unfolding part_at
part_shrinks = then_shrinks (expect_at Word.Part) (expect_shrinks Word.Part) _ (λ u rest. then_leaves (braced_at member_at) (braced_shrinks member_at member_shrinks) _ (λ ms after. done_leaves _ after) rest)

subitem_shrinks : (p : Texts → Parsed KindTree) → Shrinks p → Shrinks (λ texts. name_at texts >>= λ n. p n.1 >>= λ f. Ok (subitem n.0 f.0, f.1))
subitem_shrinks p s = then_shrinks name_at (one_shrinks name_of) _ (λ n rest. then_leaves p s _ (λ f after. done_leaves _ after) rest)

spared : {A : Type 0} (b : Bool) (x : A) (after : Texts) (n : ℕ) (q : Texts → Parsed A) → Shrinks q → length after ≤ n → (b ≡ true → length after < n) → (a : A) (rest : Texts) → cond b (reads x after) (q after) ≡ reads a rest → length rest < n
spared true x after n q s le lt a rest e = let r = rest_is x a after rest e in omega (arith, lt refl, ap length r)
spared false x after n q s le lt a rest e = omega (arith, s after a rest e)

-- a spare, or what a reader reads
spare_or_shrinks : {A : Type 0} (x : A) (q : Texts → Parsed A) → Shrinks q → Shrinks (λ texts. takes_at Word.Dash texts >>= λ c. cond c.0 (reads x c.1) (q c.1))
spare_or_shrinks x q s texts a rest e =
    let f = bind_ok (takes_at Word.Dash texts) _ (a, rest) e in
    let k = takes_keeps Word.Dash texts f.0.0 f.0.1 f.1 in
    spared f.0.0 x f.0.1 (length texts) q s k.0 k.1 a rest f.2

slot_shrinks_of : (p : Texts → Parsed KindTree) → Shrinks p → Shrinks (slot_step p)
unfolding slot_step
slot_shrinks_of p s = spare_or_shrinks spare_slot _ (subitem_shrinks p s)

slot_agrees : (k : ℕ) (p q : Texts → Parsed KindTree) → Agree k p q → Agree k (slot_step p) (slot_step q)
unfolding slot_step
slot_agrees k p q h texts lt =
    same_following (takes_at Word.Dash texts) _ _ (λ c e. same_choice c.0 _ _ _ (λ _.
    same_following (name_at c.1) _ _ (λ n e'. ap (λ r. r >>= λ f. Ok (subitem n.0 f.0, f.1))
    (h n.1 (omega (arith, (takes_keeps Word.Dash texts c.0 c.1 e).0, one_shrinks name_of c.1 n.0 n.1 e'))))))

extended_shrinks : (last : LastPart) → Shrinks (extended_at last)
extended_shrinks last = then_shrinks (braced_at part_at) (braced_shrinks part_at part_shrinks) (λ ps. Ok (extended last ps.0, ps.1)) (λ ps after. done_leaves (extended last ps) after)

counted_shrinks : (size : Counter) (p : Texts → Parsed KindTree) → Shrinks p → Shrinks (counted_step size p)
counted_shrinks size p s =
    then_shrinks (expect_at Word.Open) (expect_shrinks Word.Open) (λ o. p o.1 >>= λ k. expect_at Word.Close k.1 >>= λ c. Ok (counted size k.0, c.1))
    (λ o x. then_leaves p s (λ k. expect_at Word.Close k.1 >>= λ c. Ok (counted size k.0, c.1)) (λ k y. then_leaves (expect_at Word.Close) (expect_shrinks Word.Close) (λ c. Ok (counted size k, c.1)) (λ c z. done_leaves (counted size k) z) y) x)

counted_agrees : (size : Counter) (k : ℕ) (p q : Texts → Parsed KindTree) → Agree k p q → (texts : Texts) → length texts < k → counted_step size p texts ≡ counted_step size q texts
counted_agrees size k p q h texts lt =
    same_following (expect_at Word.Open texts) _ _ (λ o e. ap (λ r. r >>= λ k. expect_at Word.Close k.1 >>= λ c. Ok (counted size k.0, c.1)) (h o.1 (omega (arith, lt, expect_shrinks Word.Open texts o.0 o.1 e))))

-- the kinds that begin with a fixed kind are read from their first text on
kind_less : (p : Texts → Parsed KindTree) → Shrinks p → (word : Keyword) (texts rest : Texts) → length rest < length texts → (a : KindTree) (after : Texts) → kind_by_word p word texts rest ≡ reads a after → length after < length texts
unfolding Leaves
kind_less p s Word.Extended texts rest lt a after e = omega (arith, lt, extended_shrinks WithFx rest a after e)
kind_less p s Word.Closed texts rest lt a after e = omega (arith, lt, extended_shrinks WithoutFx rest a after e)
kind_less p s Word.Counted texts rest lt a after e = omega (arith, lt, counted_shrinks One p s rest a after e)
kind_less p s Word.Wide texts rest lt a after e = omega (arith, lt, counted_shrinks Two p s rest a after e)
kind_less p s Word.ByFx texts rest lt a after e =
    omega (arith, lt, then_leaves fixed_at fixed_shrinks (λ f. Ok (by_fx f.0, f.1)) (λ f last. done_leaves (by_fx f) last) rest a after e)
kind_less p s Word.Explicit texts rest lt a after e = let r = rest_is explicit a rest after e in omega (arith, lt, ap length r)
kind_less p s Word.Compound texts rest lt a after e =
    omega (arith, lt, then_leaves (braced_at (slot_step p)) (braced_shrinks (slot_step p) (slot_shrinks_of p s)) (λ ss. Ok (compound (slots_of ss.0), ss.1)) (λ ss last. done_leaves (compound (slots_of ss)) last) rest a after e)
kind_less p s word texts rest lt a after e = then_shrinks fixed_at fixed_shrinks (λ f. Ok (fixed f.0, f.1)) (λ f last. done_leaves (fixed f) last) texts a after e

kind_agrees : (k : ℕ) (p q : Texts → Parsed KindTree) → Shrinks p → Shrinks q → Agree k p q → (word : Keyword) (texts rest : Texts) → length rest < k → kind_by_word p word texts rest ≡ kind_by_word q word texts rest
kind_agrees k p q s t h Word.Counted texts rest lt = counted_agrees One k p q h rest lt
kind_agrees k p q s t h Word.Wide texts rest lt = counted_agrees Two k p q h rest lt
kind_agrees k p q s t h Word.Compound texts rest lt =
    ap (λ r. r >>= λ ss. Ok (compound (slots_of ss.0), ss.1))
    (braced_agrees k (slot_step p) (slot_step q) (slot_shrinks_of p s) (slot_shrinks_of q t) (slot_agrees k p q h) rest lt)
kind_agrees k p q s t h word texts rest lt = refl

kind_guarded : IsGuarded kind_step
unfolding kind_step
kind_guarded = record {
  agrees = λ k p q s t h texts lt.
      same_following (keyword_at texts) _ _ (λ word e. kind_agrees k p q s t h word.0 texts word.1 (omega (arith, one_shrinks keyword_of texts word.0 word.1 e)));
  shrinks = λ p s texts a rest e.
      let f = bind_ok (keyword_at texts) _ (a, rest) e in
      kind_less p s f.0.0 texts f.0.1 (one_shrinks keyword_of texts f.0.0 f.0.1 f.1) a rest f.2;
}

pub kind_shrinks : Shrinks kind_at
unfolding kind_at
kind_shrinks = recursive_shrinks kind_step kind_guarded

pub kind_is : (texts : Texts) → kind_at texts ≡ kind_step kind_at texts
unfolding kind_at
kind_is texts = recursive_is kind_step kind_guarded texts

pub slot_shrinks : Shrinks slot_at
unfolding slot_at
slot_shrinks = slot_shrinks_of kind_at kind_shrinks

-- ---- items and the UAP

pub item_shrinks : Shrinks item_at
unfolding item_at
item_shrinks =
    then_shrinks (expect_at Word.Item) (expect_shrinks Word.Item) _ (λ u a. then_leaves name_at (one_shrinks name_of) _ (λ n b. then_leaves text_at (one_shrinks text_of) _ (λ t c.
    then_leaves kind_at kind_shrinks _ (λ k d. done_leaves _ d) c) b) a)

uap_item_shrinks : Shrinks (λ texts. name_at texts >>= λ n. Ok (Uap.Item n.0, n.1))
uap_item_shrinks = then_shrinks name_at (one_shrinks name_of) _ (λ n rest. done_leaves _ rest)

pub uap_slot_shrinks : Shrinks uap_slot_at
unfolding uap_slot_at
uap_slot_shrinks = spare_or_shrinks Uap.Spare _ uap_item_shrinks
