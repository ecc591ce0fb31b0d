-- The rules of expansion files read what is spelled and nothing else, and where they stop is the first bad token.
use Rattle.std.proofs.Common.{◌≡◌, ℕ, suc, ◌<◌, ◌≤◌, List, [], ◌∷◌, ◌++◌, length, Option, Some, None, Ok, refl, sym, ◌∙◌, ap, subst, append_assoc, lit<, lit≤, arith}
use Rattle.std.specs.Prelude.{decimal, ◌^◌}
use Rattle.std.specs.List.{AllByRecursion, flat_map}
use Rattle.ax_grammar.proofs.Complete.{some_at, keyword_read, text_read, slots_back, slots_read}
use Rattle.ax_grammar.proofs.Languages.{Reads}
use Rattle.ax_grammar.proofs.Numbers.{category_some, number_within_some, number_within_found}
use Rattle.ax_grammar.proofs.Recursion.{Shrinks, bind_ok, reads, rest_is, value_is}
use Rattle.ax_grammar.proofs.Recursive.{Leaves, one_shrinks, then_shrinks, then_leaves, done_leaves, err_leaves, slot_shrinks}
use Rattle.ax_grammar.proofs.Sound.{Finds, mapped, reading, making, one_found, keyword_found, texts_found, categories_found, expecting, braced_found, slot_found, kind_found, slots_spelled, slots_fit}
use Rattle.ax_grammar.proofs.Steady.{At, IsSteady, Due, refused, done, after, one_steady, expect_steady, mapping, map_steady, mapped_due, then_steady, braced_steady}
use Rattle.ax_grammar.proofs.SteadyRules.{text_due, category_due, text_steady, category_steady, on_keyword, word_then, braced_due, slot_steady, kind_steady}
use Rattle.ax_grammar.specs.InRange.{IsText, SlotInRange}
use Rattle.ax_grammar.specs.Keywords.{keyword_text, keyword_of}
use Rattle.ax_grammar.specs.Parsing.{Texts, Parsed, ◌>>=◌, one_of, expect_at, braced_at}
use Rattle.ax_grammar.specs.Rules.{keyword_at, category_at, text_at, slot_at}
use Rattle.ax_grammar.specs.Spelling.{quoted, closed, slot_texts, slots_texts}
use Rattle.ax_grammar.specs.Tests.{category_of, text_of, number_within}
use Rattle.ax_grammar.specs.declared.keyword.Keyword.{Keyword}
use Rattle.ax_grammar.specs.declared.keyword.Keyword.TheVariants as Word
use Rattle.ax_format.specs.Paths.{three_digits}
use Rattle.ax_format.specs.Tree.{SlotTree, slots_of}
use Rattle.ax_expand.specs.Expansion.{ExpansionTree}
use Rattle.ax_expand.specs.Files.{form_texts, braced_texts, expansion_texts, FormInRange, ExpansionInRange}
use Rattle.ax_expand.specs.Rules.{octets_at, form_by_word, form_at, expansion_at}
use Rattle.ax_expand.specs.declared.form.Form.{Form}
use Rattle.ax_expand.specs.declared.form.Form.TheVariants.{Fx, Fixed}

-- ---- the rule, part by part

abbrev made : ℕ → List ℕ → Form → List SlotTree → ExpansionTree
made category edition form slots = record { category = category; edition = edition; form = form; slots = slots_of slots }

abbrev slots_part : ℕ → List ℕ → Form → Texts → Parsed ExpansionTree
slots_part category edition form texts = braced_at slot_at texts >>= λ s. reads (made category edition form s.0) s.1

abbrev form_part : ℕ → List ℕ → Texts → Parsed ExpansionTree
form_part category edition texts = form_at texts >>= λ f. slots_part category edition f.0 f.1

abbrev edition_part : ℕ → Texts → Parsed ExpansionTree
edition_part category texts = text_at texts >>= λ t. form_part category t.0 t.1

abbrev category_part : Texts → Parsed ExpansionTree
category_part texts = category_at texts >>= λ c. expect_at Word.Edition c.1 >>= λ u. edition_part c.0 u.1

-- ---- what is spelled is read

octets_small : (n : ℕ) → n ≤ 15 → n < 10 ^ 18
octets_small n le = omega (arith, le)

form_read : (form : Form) (rest : Texts) → FormInRange form → form_at (form_texts form ++ rest) ≡ Ok (form, rest)
unfolding form_at
form_read Fx rest h = ap (λ r. r >>= λ w. form_by_word w.0 (keyword_text Word.Fx ∷ rest) w.1) (keyword_read Word.Fx rest)
form_read (Fixed n) rest h =
    ap (λ r. r >>= λ w. form_by_word w.0 (keyword_text Word.Fixed ∷ decimal n ∷ rest) w.1) (keyword_read Word.Fixed (decimal n ∷ rest))
    ∙ ap (λ r. r >>= λ o. Ok (Fixed o.0, o.1)) (some_at (number_within 1 15) (decimal n) n rest (number_within_some 1 15 n h.0 h.1 (octets_small n h.1)))

expansion_read : (x : ExpansionTree) (rest : Texts) → ExpansionInRange x → expansion_at (expansion_texts x ++ rest) ≡ Ok (x, rest)
unfolding expansion_at
expansion_read x rest h =
    let slots = closed (slots_texts x.slots) ++ rest in
    let d = keyword_text Word.Open ∷ slots in
    let c = form_texts x.form ++ d in
    let b = keyword_text Word.Edition ∷ quoted x.edition ∷ c in
    let front : expansion_texts x ++ rest ≡ keyword_text Word.Expansion ∷ three_digits x.category ∷ b
    = ap (λ t. keyword_text Word.Expansion ∷ three_digits x.category ∷ keyword_text Word.Edition ∷ quoted x.edition ∷ t) (append_assoc (form_texts x.form) (braced_texts (slots_texts x.slots)) rest) in
    ap expansion_at front
    ∙ rw (
      some_at category_of (three_digits x.category) x.category b (category_some x.category h.category),
      text_read x.edition c h.edition,
      form_read x.form d h.form,
      slots_read x.slots rest h.slots,
    ) (ap (λ s. Ok (record { category = x.category; edition = x.edition; form = x.form; slots = s }, rest)) (slots_back x.slots))

-- ---- what is read is spelled

octets_found : (k : ℕ) → Finds k octets_at (λ n. (1 ≤ n) × (n ≤ 15)) (λ n. decimal n ∷ [])
octets_found = one_found (number_within 1 15) (λ n. (1 ≤ n) × (n ≤ 15)) decimal (λ text n e. let f = number_within_found 1 15 n text e in ((f.0, f.1), f.2))

abbrev FormIs : Texts → Texts → Form → Type 0
FormIs texts rest form = FormInRange form × (texts ≡ form_texts form ++ rest)

form_case : (word : Keyword) (texts after rest : Texts) (form : Form) → texts ≡ keyword_text word ∷ after → form_by_word word texts after ≡ reads form rest → FormIs texts rest form
form_case Word.Fx texts after rest form front e = subst (FormIs texts rest) (value_is Fx form after rest e) (tt, front ∙ ap (λ t. keyword_text Word.Fx ∷ t) (rest_is Fx form after rest e))
form_case Word.Fixed texts after rest form front e =
    let m = mapped Fixed (octets_at after) form rest e in
    let n = octets_found (suc (length after)) after rest m.0 (omega arith) m.1 in
    subst (FormIs texts rest) m.2 (n.0, front ∙ ap (λ t. keyword_text Word.Fixed ∷ t) n.1)
form_case word texts after rest form front e = absurd cc

form_found : (k : ℕ) → Finds k form_at FormInRange form_texts
unfolding form_at
form_found k texts rest form lt e =
    let g = bind_ok (keyword_at texts) (λ w. form_by_word w.0 texts w.1) (form, rest) e in
    form_case g.0.0 texts g.0.1 rest form (keyword_found k texts g.0.1 g.0.0 lt g.1).1 g.2

form_leaves : (word : Keyword) (texts rest : Texts) → Leaves (length rest) (form_by_word word texts rest)
form_leaves Word.Fx texts rest = done_leaves _ rest
form_leaves Word.Fixed texts rest = then_leaves octets_at (one_shrinks (number_within 1 15)) _ (λ n after. done_leaves _ after) rest
form_leaves word texts rest = err_leaves Form (length rest) texts

form_shrinks : Shrinks form_at
unfolding form_at
form_shrinks texts = then_shrinks keyword_at (one_shrinks keyword_of) _ (λ word rest. form_leaves word texts rest) texts

expansion_found : (texts rest : Texts) (x : ExpansionTree) → expansion_at texts ≡ reads x rest → ExpansionInRange x × (texts ≡ expansion_texts x ++ rest)
unfolding expansion_at
expansion_found texts rest x e =
    let k = suc (length texts) in
    let Found : ExpansionTree → Type 0 = λ x. ExpansionInRange x × (texts ≡ expansion_texts x ++ rest) in
    let C = Found x in
    expecting Word.Expansion texts rest x category_part e C (λ t1 is1 less1 e1.
    reading k category_at (λ n. n < 256) (λ n. three_digits n ∷ []) (categories_found k) (one_shrinks category_of) t1 rest x (λ c. expect_at Word.Edition c.1 >>= λ u. edition_part c.0 u.1) (omega (arith, less1)) e1 C (λ category t2 fits2 is2 less2 e2.
    expecting Word.Edition t2 rest x (edition_part category) e2 C (λ t3 is3 less3 e3.
    reading k text_at IsText (λ t. quoted t ∷ []) (texts_found k) (one_shrinks text_of) t3 rest x (λ t. form_part category t.0 t.1) (omega (arith, less1, less2, less3)) e3 C (λ edition t4 fits4 is4 less4 e4.
    reading k form_at FormInRange form_texts (form_found k) form_shrinks t4 rest x (λ f. slots_part category edition f.0 f.1) (omega (arith, less1, less2, less3, less4)) e4 C (λ form t5 fits5 is5 less5 e5.
    making (suc k) (braced_at slot_at) (AllByRecursion SlotInRange) (λ xs. keyword_text Word.Open ∷ closed (flat_map slot_texts xs)) (braced_found slot_at slot_shrinks SlotInRange slot_texts k (slot_found (length texts) (kind_found (length texts)))) t5 rest x (made category edition form)
    (omega (arith, less1, less2, less3, less4, less5)) e5 Found (λ slots fits6 is6.
    let last : t5 ≡ braced_texts (slots_texts (slots_of slots)) ++ rest = is6 ∙ ap (λ t. braced_texts t ++ rest) (sym (slots_spelled slots)) in
    let middle : t4 ≡ (form_texts form ++ braced_texts (slots_texts (slots_of slots))) ++ rest = is5 ∙ ap (λ t. form_texts form ++ t) last ∙ sym (append_assoc (form_texts form) (braced_texts (slots_texts (slots_of slots))) rest) in (
      record { category = fits2; edition = fits4; form = fits5; slots = slots_fit slots fits6 },
      is1 ∙ ap (λ t. keyword_text Word.Expansion ∷ t) (is2 ∙ ap (λ t. three_digits category ∷ t) (is3 ∙ ap (λ t. keyword_text Word.Edition ∷ t) (is4 ∙ ap (λ t. quoted edition ∷ t) middle))),
    )))))))

-- ---- where the rules stop

one_octet : number_within 1 15 (decimal 1) ≡ Some 1
one_octet = number_within_some 1 15 1 (lit≤ tt) (lit≤ tt) (lit< tt)

octets_steady : (k : ℕ) → IsSteady k octets_at
octets_steady k = one_steady k (number_within 1 15) (decimal 1) 1 one_octet

form_due : Due form_at
form_due = record { texts = keyword_text Word.Fx ∷ []; value = Fx; due = λ more. form_read Fx more tt }

form_starts : (o : Option Keyword) (text : List ℕ) (rest : Texts) → ((more : Texts) → form_at (text ∷ more) ≡ on_keyword o form_by_word text more) → At form_at (text ∷ rest) (form_at (text ∷ rest))
form_starts None text rest e = refused form_at (text ∷ rest) form_due e
form_starts (Some Word.Fx) text rest e = done form_at Fx text rest e
form_starts (Some Word.Fixed) text rest e = after form_at (mapping Fixed octets_at) text rest e (map_steady (suc (length rest)) Fixed octets_at (octets_steady (suc (length rest))) rest (omega arith))
form_starts (Some word) text rest e = refused form_at (text ∷ rest) form_due e

form_steady : (k : ℕ) → IsSteady k form_at
unfolding form_at
form_steady k [] lt = refused form_at [] form_due (λ more. refl)
form_steady k (text ∷ rest) lt = form_starts (keyword_of text) text rest (λ more. refl)

slots_due : (category : ℕ) (edition : List ℕ) (form : Form) → Due (slots_part category edition form)
slots_due category edition form = mapped_due (made category edition form) (braced_at slot_at) (braced_due slot_at slot_shrinks)

form_part_due : (category : ℕ) (edition : List ℕ) → Due (form_part category edition)
form_part_due category edition = let d = slots_due category edition Fx in record {
  texts = keyword_text Word.Fx ∷ d.texts;
  value = d.value;
  due = λ more. ap (λ r. r >>= λ f. slots_part category edition f.0 f.1) (form_read Fx (d.texts ++ more) tt) ∙ d.due more;
}

edition_due : (category : ℕ) → Due (edition_part category)
edition_due category = let d = form_part_due category [] in record { texts = quoted [] ∷ d.texts; value = d.value; due = λ more. ap (λ o. one_of o (quoted []) (d.texts ++ more) >>= λ t. form_part category t.0 t.1) text_due ∙ d.due more }

after_category_due : (category : ℕ) → Due (λ texts. expect_at Word.Edition texts >>= λ u. edition_part category u.1)
after_category_due category = word_then Word.Edition (edition_part category) (edition_due category)

whole_due : Due category_part
whole_due = let d = after_category_due 0 in record { texts = three_digits 0 ∷ d.texts; value = d.value; due = λ more. ap (λ o. one_of o (three_digits 0) (d.texts ++ more) >>= λ c. expect_at Word.Edition c.1 >>= λ u. edition_part c.0 u.1) category_due ∙ d.due more }

edition_part_steady : (k category : ℕ) → IsSteady k (edition_part category)
edition_part_steady k category =
    then_steady k text_at (λ t texts. form_part category t texts) (text_steady k)
    (λ t. then_steady k form_at (λ f texts. slots_part category t f texts) (form_steady k)
    (λ f. map_steady k (made category t f) (braced_at slot_at) (braced_steady slot_at slot_shrinks k (slot_steady k (kind_steady k))))
    (slots_due category t))
    (form_part_due category)

category_part_steady : (k : ℕ) → IsSteady k category_part
category_part_steady k =
    then_steady k category_at (λ c texts. expect_at Word.Edition texts >>= λ u. edition_part c u.1) (category_steady k)
    (λ c. then_steady k (expect_at Word.Edition) (λ u texts. edition_part c texts) (expect_steady k Word.Edition) (λ u. edition_part_steady k c) (λ u. edition_due c))
    after_category_due

expansion_steady : (k : ℕ) → IsSteady k expansion_at
unfolding expansion_at
expansion_steady k = then_steady k (expect_at Word.Expansion) (λ u texts. category_part texts) (expect_steady k Word.Expansion) (λ u. category_part_steady k) (λ u. whole_due)

pub expansion_reads : Reads expansion_at ExpansionInRange expansion_texts
expansion_reads = record { complete = expansion_read; sound = expansion_found; steady = expansion_steady }
