-- Where the reader of slots stops is the first bad token.
use Rattle.std.proofs.Common.{◌≡◌, ℕ, suc, ◌+◌, ◌-◌, ◌≤◌, List, [], ◌∷◌, ◌++◌, length, take, drop, map, Ok, Err, refl, sym, ◌∙◌, ap, subst, append-nil, append_assoc, length-append, length-drop, take-append-drop, arith}
use Rattle.std.proofs.lemmas.List.{length-map, length-take-le}
use Rattle.ax_format.specs.Plain.{slot_tree, slots_tree}
use Rattle.ax_format.specs.Tree.{SlotTree, SlotsTree, slots_of}
use Rattle.ax_format.specs.declared.kind.Slot.{Slot}
use Rattle.ax_tokens.specs.PlainToken.{PlainToken}
use Rattle.ax_tokens.specs.Stopping.{StopsAt, first_with}
use Rattle.ax_tokens.specs.FirstBad.{FirstBad}
use Rattle.ax_tokens.specs.declared.stopped.Stopped.{Stopped}
use Rattle.ax_tokens.specs.declared.stopped.Stopped.TheVariants.{Bad, OutOfMemory}
use Rattle.ax_tokens.proofs.Bad.{stops_bad}
use Rattle.ax_grammar.specs.Answers.{texts_of}
use Rattle.ax_grammar.specs.Gives.{Stops}
use Rattle.ax_grammar.specs.InRange.{SlotInRange, SlotsInRange}
use Rattle.ax_grammar.specs.Keywords.{keyword_text}
use Rattle.ax_grammar.specs.Parsing.{Texts, Parsed, list_at}
use Rattle.ax_grammar.specs.Rules.{slot_at}
use Rattle.ax_grammar.specs.Slots.{SpellsSlots, HasSlotsAt, NamesBadSlot}
use Rattle.ax_grammar.specs.Spelling.{slot_texts, slots_texts, closed}
use Rattle.ax_grammar.specs.declared.keyword.Keyword.TheVariants as Word
use Rattle.ax_grammar.proofs.Complete.{slots_list, slots_back, slots_read}
use Rattle.ax_grammar.proofs.Recursion.{reads, value_is}
use Rattle.ax_grammar.proofs.Recursive.{slot_shrinks}
use Rattle.ax_grammar.proofs.Sound.{list_found, slot_found, kind_found, slots_spelled, slots_fit}
use Rattle.ax_grammar.proofs.Steady.{At, Halts, list_steady}
use Rattle.ax_grammar.proofs.SteadyRules.{slot_steady, kind_steady}

abbrev closing : List ℕ
closing = keyword_text Word.Close

closed_is : (texts rest : Texts) → closed texts ++ rest ≡ texts ++ closing ∷ rest
closed_is texts rest = append_assoc texts (closing ∷ []) rest

-- ---- what is read is spelled, and what is spelled is read

found : (texts rest : Texts) (xs : List SlotTree) → list_at slot_at texts ≡ reads xs rest → SlotsInRange (slots_of xs) × (texts ≡ slots_texts (slots_of xs) ++ closing ∷ rest)
found texts rest xs e =
    let k = length texts in
    let f = list_found slot_at slot_shrinks SlotInRange slot_texts (suc k) (slot_found k (kind_found k)) texts rest xs (omega arith) e in
    (slots_fit xs f.0, f.1 ∙ ap (λ t. closed t ++ rest) (sym (slots_spelled xs)) ∙ closed_is (slots_texts (slots_of xs)) rest)

read : (ss : SlotsTree) (rest : Texts) → SlotsInRange ss → list_at slot_at (slots_texts ss ++ closing ∷ rest) ≡ reads (slots_list ss) rest
read ss rest h = ap (list_at slot_at) (sym (closed_is (slots_texts ss) rest)) ∙ slots_read ss rest h

never : (xs : List SlotTree) (a b : Texts) → reads xs a ≡ Err b → ⊥
never xs a b e = cc

-- ---- two lists with fronts of one length

same_fronts : (a b x y : Texts) → length a ≡ length b → a ++ x ≡ b ++ y → x ≡ y
same_fronts [] [] x y l e = e
same_fronts [] (t ∷ b) x y l e = absurd (omega arith)
same_fronts (s ∷ a) [] x y l e = absurd (omega arith)
same_fronts (s ∷ a) (t ∷ b) x y l e = same_fronts a b x y (omega arith) (rest_same s t (a ++ x) (b ++ y) e)
  where
    rest_same : (s t : List ℕ) (x y : Texts) → s ∷ x ≡ t ∷ y → x ≡ y
    rest_same s t x y e = cc

-- ---- where it stops

halts_stops : (front old new : Texts) → Halts (list_at slot_at) old new → StopsAt (HasSlotsAt (length front)) (front ++ old) new
halts_stops front old new s =
    let f = found (s.front ++ (s.rest ++ [])) [] s.value (s.begins []) in
    record {
      front = front ++ s.front;
      split = ap (λ t. front ++ t) s.split ∙ sym (append_assoc front s.front new);
      rest = s.rest;
      begins = (front, slots_of s.value, [], refl, f.0, append_assoc front s.front s.rest ∙ ap (λ t. front ++ (s.front ++ t)) (sym (append-nil s.rest)) ∙ ap (λ t. front ++ t) f.1);
      refuses = λ member following more m h.
          let whole : m.0 ++ (slots_texts m.1 ++ closing ∷ (m.2 ++ following)) ≡ front ++ (s.front ++ first_with new more) =
          sym (ap (λ t. t ++ following) m.5 ∙ append_assoc m.0 (slots_texts m.1 ++ closing ∷ m.2) following ∙ ap (λ t. m.0 ++ t) (append_assoc (slots_texts m.1) (closing ∷ m.2) following)) ∙ h ∙ append_assoc front s.front (first_with new more) in
          let same : slots_texts m.1 ++ closing ∷ (m.2 ++ following) ≡ s.front ++ first_with new more = same_fronts m.0 front _ _ m.3 whole in
          never (slots_list m.1) (m.2 ++ following) (first_with new more) (sym (read m.1 (m.2 ++ following) m.4) ∙ ap (list_at slot_at) same ∙ s.again more);
    }

steady : (old : Texts) → At (list_at slot_at) old (list_at slot_at old)
steady old = let k = suc (length old) in list_steady slot_at slot_shrinks k (slot_steady k (kind_steady k)) old (omega arith)

halted : (old after : Texts) → list_at slot_at old ≡ Err after → Halts (list_at slot_at) old after
halted old after e = subst (At (list_at slot_at) old) e (steady old)

pub slots_bad : (tokens : List PlainToken) (at : ℕ) (after : Texts) → at ≤ length tokens → list_at slot_at (drop at (texts_of tokens)) ≡ Err after → NamesBadSlot tokens at (length tokens - length after)
slots_bad tokens at after le e =
    let texts = texts_of tokens in
    let size : length texts ≡ length tokens = length-map tokens (λ t. t.text) in
    let front = take at texts in
    let count : length front ≡ at = length-take-le at texts (omega (arith, le, size)) in
    let s : StopsAt (HasSlotsAt (length front)) (front ++ drop at texts) after = halts_stops front (drop at texts) after (halted (drop at texts) after e) in
    let t : StopsAt (HasSlotsAt at) texts after = subst (λ n. StopsAt (HasSlotsAt n) texts after) count (subst (λ t. StopsAt (HasSlotsAt (length front)) t after) (take-append-drop at texts) s) in
    subst (λ n. FirstBad (HasSlotsAt at) texts (n - length after)) size (stops_bad (HasSlotsAt at) texts after t)

pub bad_within : (tokens : List PlainToken) (at : ℕ) (after : Texts) → list_at slot_at (drop at (texts_of tokens)) ≡ Err after → length after ≤ length tokens
bad_within tokens at after e =
    let s = halted (drop at (texts_of tokens)) after e in
    omega (arith, ap length s.split, length-append s.front after, length-drop at (texts_of tokens), length-map tokens (λ t. t.text))

pub slots_none : (tokens : List PlainToken) (at close : ℕ) (after : Texts) (ss : SlotsTree) → list_at slot_at (drop at (texts_of tokens)) ≡ Err after → SpellsSlots tokens at close ss → ⊥
slots_none tokens at close after ss e s = never (slots_list ss) s.rest after (sym (ap (list_at slot_at) s.texts ∙ read ss s.rest s.in_range) ∙ e)

-- ---- where it ends

pub slots_within : (tokens : List PlainToken) (at : ℕ) (rest : Texts) (xs : List SlotTree) → list_at slot_at (drop at (texts_of tokens)) ≡ reads xs rest → length rest + 1 ≤ length tokens
slots_within tokens at rest xs e =
    let f = found (drop at (texts_of tokens)) rest xs e in
    omega (arith, ap length f.1, length-append (slots_texts (slots_of xs)) (closing ∷ rest), length-drop at (texts_of tokens), length-map tokens (λ t. t.text))

pub slots_spell : (tokens : List PlainToken) (at : ℕ) (rest : Texts) (xs : List SlotTree) → at ≤ length tokens → list_at slot_at (drop at (texts_of tokens)) ≡ reads xs rest → SpellsSlots tokens at (length tokens - length rest - 1) (slots_of xs)
slots_spell tokens at rest xs le e =
    let f = found (drop at (texts_of tokens)) rest xs e in
    record {
      in_range = f.0;
      rest = rest;
      texts = f.1;
      closes = omega (arith, le, ap length f.1, length-append (slots_texts (slots_of xs)) (closing ∷ rest), length-drop at (texts_of tokens), length-map tokens (λ t. t.text));
    }

pub slots_is : (tokens : List PlainToken) (at last : ℕ) (rest : Texts) (xs : List SlotTree) (ss : SlotsTree) → at ≤ length tokens → list_at slot_at (drop at (texts_of tokens)) ≡ reads xs rest → SpellsSlots tokens at last ss
    → (slots_of xs ≡ ss) × (length tokens - length rest - 1 ≡ last)
slots_is tokens at last rest xs ss le e s =
    let same : reads xs rest ≡ reads (slots_list ss) s.rest = sym e ∙ ap (list_at slot_at) s.texts ∙ read ss s.rest s.in_range in
    let slots : slots_of xs ≡ ss = ap slots_of (value_is xs (slots_list ss) rest s.rest same) ∙ slots_back ss in
    (slots, (slots_spell tokens at rest xs le e).closes ∙ ap (λ ss. at + length (slots_texts ss)) slots ∙ sym s.closes)

-- ---- ways through the code

pub is_bad : (stopped : Stopped) (after : Texts) (read : Parsed (List SlotTree)) → stopped ≡ Bad → Stops stopped after read → read ≡ Err after
is_bad Bad after read e h = h
is_bad OutOfMemory after read e h = absurd cc

module _ (tokens : List PlainToken) (at : ℕ) (old after : Texts) (here : old ≡ drop at (texts_of tokens)) where
  from_here : (r : Parsed (List SlotTree)) → list_at slot_at old ≡ r → list_at slot_at (drop at (texts_of tokens)) ≡ r
  from_here r e = ap (list_at slot_at) (sym here) ∙ e

  pub ok_within : (slots : List Slot) → list_at slot_at old ≡ Ok (map slot_tree slots, after) → length after + 1 ≤ length tokens
  ok_within slots e = slots_within tokens at after (map slot_tree slots) (from_here _ e)

  pub ok_fits : (slots : List Slot) → list_at slot_at old ≡ Ok (map slot_tree slots, after) → length after ≤ length tokens
  ok_fits slots e = omega (arith, ok_within slots e)

  pub ok_more : (slots : List Slot) (n : ℕ) → list_at slot_at old ≡ Ok (map slot_tree slots, after) → n ≡ length tokens - length after → 1 ≤ n
  ok_more slots n e c = omega (arith, ok_within slots e, c)

  pub bad_fits : list_at slot_at old ≡ Err after → length after ≤ length tokens
  bad_fits e = bad_within tokens at after (from_here _ e)

  pub ok_spells : (slots : List Slot) (n : ℕ) → at ≤ length tokens → list_at slot_at old ≡ Ok (map slot_tree slots, after) → n ≡ length tokens - length after → SpellsSlots tokens at (n - 1) (slots_tree slots)
  ok_spells slots n le e c = subst (λ m. SpellsSlots tokens at (m - 1) (slots_tree slots)) (sym c) (slots_spell tokens at after (map slot_tree slots) le (from_here _ e))

  pub ok_is : (slots : List Slot) (n : ℕ) (ss : SlotsTree) (last : ℕ) → at ≤ length tokens → list_at slot_at old ≡ Ok (map slot_tree slots, after) → n ≡ length tokens - length after → SpellsSlots tokens at last ss → (slots_tree slots ≡ ss) × (n - 1 ≡ last)
  ok_is slots n ss last le e c s = let t = slots_is tokens at last after (map slot_tree slots) ss le (from_here _ e) s in (t.0, ap (λ m. m - 1) c ∙ t.1)

  pub ok_some : (slots : List Slot) (n : ℕ) → at ≤ length tokens → list_at slot_at old ≡ Ok (map slot_tree slots, after) → n ≡ length tokens - length after → ((ss : SlotsTree) (last : ℕ) → SpellsSlots tokens at last ss → ⊥) → ⊥
  ok_some slots n le e c none = none (slots_tree slots) (n - 1) (ok_spells slots n le e c)

  pub bad_named : (n : ℕ) → at ≤ length tokens → list_at slot_at old ≡ Err after → n ≡ length tokens - length after → NamesBadSlot tokens at n
  bad_named n le e c = subst (NamesBadSlot tokens at) (sym c) (slots_bad tokens at after le (from_here _ e))

  pub bad_none : (ss : SlotsTree) (last : ℕ) → list_at slot_at old ≡ Err after → SpellsSlots tokens at last ss → ⊥
  bad_none ss last e s = slots_none tokens at last after ss (from_here _ e) s

pub ruleset ways = (ok_within, ok_fits, ok_more, bad_fits, ok_spells, ok_is, ok_some, bad_named, bad_none)
