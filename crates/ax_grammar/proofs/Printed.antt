-- Texts that are printed one after another.
use Rattle.std.proofs.Common.{false, subst, ◌≡◌, ℕ, ◌+◌, ◌<◌, List, [], ◌∷◌, ◌++◌, suc, length, drop, drop-cons, get_or, map, add-one, refl, sym, ◌∙◌, ap, append_assoc, append-nil, arith}
use Rattle.std.specs.List.{flat_map, join_with_byte}
use Rattle.ax_format.specs.Specification.{SpecTree}
use Rattle.ax_tokens.specs.Octets.{line_feed}
use Rattle.ax_format.specs.Plain.{part_tree, item_tree, members_tree, slots_tree}
use Rattle.ax_format.specs.declared.kind.Member.{Member}
use Rattle.ax_format.specs.declared.kind.Part.{Part}
use Rattle.ax_format.specs.declared.kind.Slot.{Slot}
use Rattle.ax_format.specs.declared.spec.Item.{Item}
use Rattle.ax_grammar.specs.Spelling.{closed, block, part_texts, item_texts, members_texts, slots_texts, spelled, printed}
use Rattle.ax_grammar.specs.Keywords.{keyword_text}
use Rattle.ax_grammar.specs.declared.keyword.Keyword.{Keyword}
use Rattle.ax_grammar.specs.declared.keyword.Keyword.TheVariants as Word
use Rattle.ax_grammar.specs.Printing.{after_spaces}
use Rattle.ax_grammar.specs.Prints.{Adds, Prints}
use Rattle.ax_grammar.specs.declared.printer.Printer.{Printer}
use Rattle.ax_grammar.specs.Parsing.{Texts}

pub after_spaces-append : (a b : Texts) → after_spaces (a ++ b) ≡ after_spaces a ++ after_spaces b
after_spaces-append [] b = refl
after_spaces-append (text ∷ a) b = ap (λ t. 0x20 ∷ (text ++ t)) (after_spaces-append a b) ∙ ap (λ t. 0x20 ∷ t) (sym (append_assoc text (after_spaces a) (after_spaces b)))

-- the first text, and the others each after a space
pub joined : (text : List ℕ) (texts : Texts) → join_with_byte 0x20 (text ∷ texts) ≡ text ++ after_spaces texts
joined text [] = sym (append-nil text)
joined text (next ∷ texts) = ap (λ t. text ++ (0x20 ∷ t)) (joined next texts)

-- ---- calls after one another

pub add_then : (a b whole : List ℕ) (p q r : Printer) → a ++ b ≡ whole → Adds a p q → Adds b q r → Adds whole p r
add_then a b whole p q r e f g ok =
    let second = g ok in
    let first = f second.0 in
    (first.0, second.1 ∙ ap (λ t. t ++ b) first.1 ∙ append_assoc p.out.items a b ∙ ap (λ t. p.out.items ++ t) e)

pub print_then : (a b : Texts) (p q r : Printer) → Prints a p q → Prints b q r → Prints (a ++ b) p r
print_then a b p q r f g = add_then (after_spaces a) (after_spaces b) (after_spaces (a ++ b)) p q r (sym (after_spaces-append a b)) f g

pub print_first : (text : List ℕ) (texts whole : Texts) (p q r : Printer) → whole ≡ text ∷ texts → Prints (text ∷ []) p q → Prints texts q r → Prints whole p r
print_first text texts whole p q r e f g = subst (λ t. Prints t p r) (sym e) (print_then (text ∷ []) texts p q r f g)

pub print_block : (word : Keyword) (texts whole : Texts) (p q r s : Printer) → whole ≡ block word texts → Prints (keyword_text word ∷ keyword_text Word.Open ∷ []) p q → Prints texts q r → Prints (keyword_text Word.Close ∷ []) r s → Prints whole p s
print_block word texts whole p q r s e f g h =
    let inside : Prints (closed texts) q s = print_then texts (keyword_text Word.Close ∷ []) q r s g h in
    subst (λ t. Prints t p s) (sym e) (print_then (keyword_text word ∷ keyword_text Word.Open ∷ []) (closed texts) p q s f inside)

-- ---- a loop over elements

-- what is still to be printed of the whole
abbrev pub Owes : Texts → Texts → Printer → Printer → Type 0
Owes whole left before now =
    now.failed ≡ false → (before.failed ≡ false) × (now.out.items ++ after_spaces left ≡ before.out.items ++ after_spaces whole)

pub owes_all : (texts : Texts) (p : Printer) → Owes texts texts p p
owes_all texts p ok = (ok, refl)

pub owes_none : (whole left : Texts) (p q : Printer) → left ≡ [] → Owes whole left p q → Prints whole p q
owes_none whole left p q e f ok =
    let found = f ok in
    (found.0, sym (ap (λ t. q.out.items ++ after_spaces t) e ∙ append-nil q.out.items) ∙ found.1)

pub owes_less : {X : Type 0} (whole : List X → Texts) (spell : X → Texts) → ((x : X) (xs : List X) → whole (x ∷ xs) ≡ spell x ++ whole xs)
    → (total : Texts) (xs rest : List X) (x : X) (p q r : Printer) → xs ≡ x ∷ rest → Prints (spell x) q r → Owes total (whole xs) p q → Owes total (whole rest) p r
owes_less whole spell cons total xs rest x p q r e printed so_far ok =
    let now = printed ok in
    let before = so_far now.0 in (
      before.0,
      ap (λ t. t ++ after_spaces (whole rest)) now.1 ∙ append_assoc q.out.items (after_spaces (spell x)) (after_spaces (whole rest))
          ∙ ap (λ t. q.out.items ++ t) (sym (after_spaces-append (spell x) (whole rest)) ∙ ap after_spaces (sym (cons x rest))) ∙ ap (λ t. q.out.items ++ after_spaces (whole t)) (sym e) ∙ before.1,
    )

pub next_item : {X : Type 0} (xs ys : List X) (i : ℕ) (x : X) → ys ≡ xs → i < length ys → x ≡ get_or ys i x → drop i xs ≡ x ∷ drop (i + 1) xs
next_item xs ys i x same lt e =
    drop-cons xs i x (omega (arith, ap length same)) ∙ ap (λ y. y ∷ drop (suc i) xs) (ap (λ t. get_or t i x) (sym same) ∙ sym e) ∙ ap (λ n. x ∷ drop n xs) (sym (add-one i))

-- ---- the texts of the code's lists

abbrev pub parts_texts : List Part → Texts
parts_texts parts = flat_map part_texts (map part_tree parts)

abbrev pub items_texts : List Item → Texts
items_texts items = flat_map item_texts (map item_tree items)

abbrev pub members_texts_of : List Member → Texts
members_texts_of members = members_texts (members_tree members)

abbrev pub slots_texts_of : List Slot → Texts
slots_texts_of slots = slots_texts (slots_tree slots)

-- ---- the whole text

pub spec_printed : (spec : SpecTree) (start text : List ℕ) (q r s : Printer) → start ≡ [] → text ≡ keyword_text Word.Category → (q.failed ≡ false → (false ≡ false) × (q.out.items ≡ start ++ text)) → Prints (drop 1 (spelled spec)) q r → Adds (line_feed ∷ []) r s → s.failed ≡ false → s.out.items ≡ printed spec
spec_printed spec start text q r s none category first others last ok =
    let texts = drop 1 (spelled spec) in
    let ended = last ok in
    let added = others ended.0 in
    let begun : q.out.items ≡ keyword_text Word.Category = (first added.0).1 ∙ ap (λ t. t ++ text) none ∙ category in
    ended.1 ∙ ap (λ t. t ++ line_feed ∷ []) (added.1 ∙ ap (λ t. t ++ after_spaces texts) begun ∙ sym (joined (keyword_text Word.Category) texts))
