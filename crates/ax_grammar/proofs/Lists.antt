-- Lists of elements up to the brace that closes them.
use Rattle.std.proofs.Common.{◌≡◌, ℕ, zero, suc, ◌+◌, ◌^◌, ◌<◌, ◌≤◌, lit<, Bool, true, false, cond, List, [], ◌∷◌, ◌++◌, length, Ok, Err, refl, sym, ◌∙◌, ap, append_assoc, arith}
use Rattle.std.specs.Prelude.{bytes_eq}
use Rattle.std.proofs.lemmas.List.{append-nil}
use Rattle.ax_grammar.specs.Keywords.{keyword_text}
use Rattle.ax_grammar.specs.Gives.{Stops}
use Rattle.ax_grammar.specs.Parsing.{Texts, Parsed, ◌>>=◌, takes_at, expect_at, list_step, list_at, braced_at}
use Rattle.ax_tokens.specs.declared.stopped.Stopped.{Stopped}
use Rattle.ax_tokens.specs.declared.stopped.Stopped.TheVariants.{Bad, OutOfMemory}
use Rattle.ax_grammar.specs.declared.keyword.Keyword.{Keyword}
use Rattle.ax_grammar.specs.declared.keyword.Keyword.TheVariants as Word
use Rattle.ax_grammar.proofs.Recursion.{Agree, Shrinks, IsGuarded, bind_ok, same_following, same_choice, rest_is, value_is, recursive_shrinks, recursive_is}

abbrev pub taking : Bool → Texts → Parsed Bool
taking b rest = Ok (b, rest)

-- ---- keywords leave less

taken : (b : Bool) (text : List ℕ) (rest : Texts) (c : Bool) (after : Texts) → cond b (taking true rest) (taking false (text ∷ rest)) ≡ taking c after
    → (length after ≤ length (text ∷ rest)) × (c ≡ true → length after < length (text ∷ rest))
taken true text rest c after e = let r : rest ≡ after = rest_is true c rest after e in (rw (← r) (omega arith), λ _. rw (← r) (omega arith))
taken false text rest c after e =
    let r : text ∷ rest ≡ after = rest_is false c (text ∷ rest) after e in
    let b : false ≡ c = value_is false c (text ∷ rest) after e in
    (rw (← r) (omega arith), λ h. absurd cc)

pub takes_keeps : (word : Keyword) (texts : Texts) (c : Bool) (after : Texts) → takes_at word texts ≡ Ok (c, after) → (length after ≤ length texts) × (c ≡ true → length after < length texts)
takes_keeps word [] c after e = absurd cc
takes_keeps word (text ∷ rest) c after e = taken (bytes_eq (keyword_text word) text) text rest c after e

abbrev expecting : Texts → Parsed (Unit {0})
expecting rest = Ok (tt, rest)

expected : (b : Bool) (text : List ℕ) (rest : Texts) (u : Unit {0}) (after : Texts) → cond b (expecting rest) (Err (text ∷ rest)) ≡ Ok (u, after) → length after < length (text ∷ rest)
expected true text rest u after e = let r : rest ≡ after = rest_is tt u rest after e in rw (← r) (omega arith)
expected false text rest u after e = absurd cc

pub expect_shrinks : (word : Keyword) → Shrinks (expect_at word)
expect_shrinks word [] u after e = absurd cc
expect_shrinks word (text ∷ rest) u after e = expected (bytes_eq (keyword_text word) text) text rest u after e

-- ---- a list's step

-- what follows the test for the closing brace
abbrev going : {A : Type 0} → (Texts → Parsed A) → (Texts → Parsed (List A)) → Texts → Parsed (List A)
going element others texts = element texts >>= λ first. others first.1 >>= λ rest. Ok (first.0 ∷ rest.0, rest.1)

abbrev nothing : {A : Type 0} → Texts → Parsed (List A)
nothing texts = Ok ([], texts)

going_agrees : {A : Type 0} (element : Texts → Parsed A) → Shrinks element → (k : ℕ) (p q : Texts → Parsed (List A)) → Agree k p q → Agree (suc k) (going element p) (going element q)
going_agrees element s k p q h texts lt =
    same_following (element texts) _ _ (λ first e. ap (λ r. r >>= λ rest. Ok (first.0 ∷ rest.0, rest.1)) (h first.1 (omega (arith, s texts first.0 first.1 e))))

going_shrinks : {A : Type 0} (element : Texts → Parsed A) → Shrinks element → (p : Texts → Parsed (List A)) → Shrinks p → Shrinks (going element p)
going_shrinks element s p t texts a rest e =
    let f = bind_ok (element texts) _ (a, rest) e in
    let g = bind_ok (p f.0.1) _ (a, rest) f.2 in
    let r = rest_is (f.0.0 ∷ g.0.0) a g.0.1 rest g.2 in
    omega (arith, s texts f.0.0 f.0.1 f.1, t f.0.1 g.0.0 g.0.1 g.1, ap length r)

choice_shrinks : {A : Type 0} (b : Bool) (after : Texts) (n : ℕ) (p : Texts → Parsed (List A)) → Shrinks p → length after ≤ n → (b ≡ true → length after < n) → (a : List A) (rest : Texts)
    → cond b (nothing after) (p after) ≡ Ok (a, rest) → length rest < n
choice_shrinks true after n p s le lt a rest e = let r = rest_is [] a after rest e in omega (arith, lt refl, ap length r)
choice_shrinks false after n p s le lt a rest e = omega (arith, s after a rest e)

pub list_guarded : {A : Type 0} (element : Texts → Parsed A) → Shrinks element → IsGuarded (list_step element)
list_guarded element s = record {
  agrees = λ k p q _ _ h texts lt.
      same_following (takes_at Word.Close texts) _ _ (λ c e. same_choice c.0 _ _ _ (λ _. going_agrees element s k p q h c.1 (omega (arith, (takes_keeps Word.Close texts c.0 c.1 e).0))));
  shrinks = λ p t texts a rest e.
      let f = bind_ok (takes_at Word.Close texts) _ (a, rest) e in
      let k = takes_keeps Word.Close texts f.0.0 f.0.1 f.1 in
      choice_shrinks f.0.0 f.0.1 (length texts) (going element p) (going_shrinks element s p t) k.0 k.1 a rest f.2;
}

pub list_shrinks : {A : Type 0} (element : Texts → Parsed A) → Shrinks element → Shrinks (list_at element)
unfolding list_at
list_shrinks element s = recursive_shrinks (list_step element) (list_guarded element s)

pub list_is : {A : Type 0} (element : Texts → Parsed A) → Shrinks element → (texts : Texts) → list_at element texts ≡ list_step element (list_at element) texts
unfolding list_at
list_is element s texts = recursive_is (list_step element) (list_guarded element s) texts

pub braced_shrinks : {A : Type 0} (element : Texts → Parsed A) → Shrinks element → Shrinks (braced_at element)
braced_shrinks element s texts a rest e =
    let f = bind_ok (expect_at Word.Open texts) _ (a, rest) e in
    omega (arith, expect_shrinks Word.Open texts f.0.0 f.0.1 f.1, list_shrinks element s f.0.1 a rest f.2)

-- ---- how many elements there are

-- elements and the texts that are left are fewer than 2^32, from the first element on
pub few_more : (n m k : ℕ) → (0 < n → n + m < 2 ^ 32) → m < 2 ^ 32 → k < m → n + 1 + k < 2 ^ 32
few_more zero m k h b lt = omega (arith, b, lt)
few_more (suc n) m k h b lt = omega (arith, h (omega arith), lt)

pub few_room : (n m : ℕ) → (0 < n → n + m < 2 ^ 32) → 0 < m → n < 4294967295
few_room zero m h lt = lit< tt
few_room (suc n) m h lt = omega (arith, h (omega arith), lt)

-- ---- a loop over elements

-- what was read before, and what is still read
abbrev pub with_front : {A : Type 0} → List A → Parsed (List A) → Parsed (List A)
with_front front read = read >>= λ x. Ok (front ++ x.0, x.1)

regroup : {A : Type 0} (front : List A) (a : A) (read : Parsed (List A)) → with_front front (read >>= λ x. Ok (a ∷ x.0, x.1)) ≡ with_front (front ++ a ∷ []) read
regroup front a (Ok x) = ap (λ xs. Ok (xs, x.1)) (sym (append_assoc front (a ∷ []) x.0))
regroup front a (Err rest) = refl

pub list_goes_on : {A : Type 0} (element : Texts → Parsed A) (front : List A) (texts between after : Texts) (a : A) (total : Parsed (List A)) → Shrinks element
    → takes_at Word.Close texts ≡ Ok (false, between) → element between ≡ Ok (a, after)
    → with_front front (list_at element texts) ≡ total → with_front (front ++ a ∷ []) (list_at element after) ≡ total
list_goes_on element front texts between after a total s opens one so_far =
    sym (ap (with_front front) (list_is element s texts ∙ ap (λ r. r >>= λ c. cond c.0 (nothing c.1) (going element (list_at element) c.1)) opens ∙ ap (λ r. r >>= λ first. list_at element first.1 >>= λ rest. Ok (first.0 ∷ rest.0, rest.1)) one)
    ∙ regroup front a (list_at element after))
    ∙ so_far

pub list_ends : {A : Type 0} (element : Texts → Parsed A) (front : List A) (texts after : Texts) (total : Parsed (List A)) → Shrinks element
    → takes_at Word.Close texts ≡ Ok (true, after) → with_front front (list_at element texts) ≡ total → total ≡ Ok (front, after)
list_ends element front texts after total s closes so_far =
    sym so_far ∙ ap (with_front front) (list_is element s texts ∙ ap (λ r. r >>= λ c. cond c.0 (nothing c.1) (going element (list_at element) c.1)) closes) ∙ ap (λ xs. Ok (xs, after)) (append-nil front)

pub list_stops_before : {A : Type 0} (element : Texts → Parsed A) (front : List A) (texts after : Texts) (total : Parsed (List A)) (stopped : Stopped) → Shrinks element
    → Stops stopped after (takes_at Word.Close texts) → with_front front (list_at element texts) ≡ total → Stops stopped after total
list_stops_before element front texts after total Bad s stops so_far =
    sym so_far ∙ ap (with_front front) (list_is element s texts ∙ ap (λ r. r >>= λ c. cond c.0 (nothing c.1) (going element (list_at element) c.1)) stops)
list_stops_before element front texts after total OutOfMemory s stops so_far = tt

pub list_stops_within : {A : Type 0} (element : Texts → Parsed A) (front : List A) (texts between after : Texts) (total : Parsed (List A)) (stopped : Stopped) → Shrinks element
    → takes_at Word.Close texts ≡ Ok (false, between) → Stops stopped after (element between) → with_front front (list_at element texts) ≡ total → Stops stopped after total
list_stops_within element front texts between after total Bad s opens stops so_far =
    sym so_far ∙ ap (with_front front) (list_is element s texts ∙ ap (λ r. r >>= λ c. cond c.0 (nothing c.1) (going element (list_at element) c.1)) opens ∙ ap (λ r. r >>= λ first. list_at element first.1 >>= λ rest. Ok (first.0 ∷ rest.0, rest.1)) stops)
list_stops_within element front texts between after total OutOfMemory s opens stops so_far = tt

-- lists of elements that agree
pub list_agrees : {A : Type 0} (k : ℕ) (p q : Texts → Parsed A) → Shrinks p → Shrinks q → Agree k p q → Agree k (list_at p) (list_at q)
list_agrees zero p q s t h texts lt = absurd (omega arith)
list_agrees (suc k) p q s t h texts lt =
    list_is p s texts
    ∙ same_following (takes_at Word.Close texts) _ _ (λ c e. same_choice c.0 _ _ _ (λ _.
    let le = (takes_keeps Word.Close texts c.0 c.1 e).0 in
    same_following (p c.1) _ _ (λ first e'. ap (λ r. r >>= λ rest. Ok (first.0 ∷ rest.0, rest.1))
    (list_agrees k p q s t (λ x l. h x (omega arith)) first.1 (omega (arith, le, s c.1 first.0 first.1 e'))))
    ∙ ap (λ r. r >>= λ first. list_at q first.1 >>= λ rest. Ok (first.0 ∷ rest.0, rest.1)) (h c.1 (omega (arith, le)))))
    ∙ sym (list_is q t texts)

pub braced_agrees : {A : Type 0} (k : ℕ) (p q : Texts → Parsed A) → Shrinks p → Shrinks q → Agree k p q → Agree k (braced_at p) (braced_at q)
braced_agrees k p q s t h texts lt =
    same_following (expect_at Word.Open texts) _ _ (λ c e. list_agrees k p q s t h c.1 (omega (arith, expect_shrinks Word.Open texts c.0 c.1 e)))

-- ---- lists in braces

pub braced_stops_before : {A : Type 0} (element : Texts → Parsed A) → Shrinks element → (old start texts after : Texts) (front : List A) (stopped : Stopped)
    → expect_at Word.Open old ≡ Ok (tt, start) → with_front front (list_at element texts) ≡ list_at element start → Stops stopped after (takes_at Word.Close texts)
    → Stops stopped after (braced_at element old)
braced_stops_before element s old start texts after front stopped opens so_far stops =
    rw opens (list_stops_before element front texts after (list_at element start) stopped s stops so_far)

pub braced_stops_within : {A : Type 0} (element : Texts → Parsed A) → Shrinks element → (old start texts between after : Texts) (front : List A) (stopped : Stopped)
    → expect_at Word.Open old ≡ Ok (tt, start) → with_front front (list_at element texts) ≡ list_at element start → takes_at Word.Close texts ≡ Ok (false, between) → Stops stopped after (element between)
    → Stops stopped after (braced_at element old)
braced_stops_within element s old start texts between after front stopped opens so_far goes stops =
    rw opens (list_stops_within element front texts between after (list_at element start) stopped s goes stops so_far)

pub braced_ends : {A : Type 0} (element : Texts → Parsed A) → Shrinks element → (old start texts after : Texts) (front : List A)
    → expect_at Word.Open old ≡ Ok (tt, start) → with_front front (list_at element texts) ≡ list_at element start → takes_at Word.Close texts ≡ Ok (true, after)
    → braced_at element old ≡ Ok (front, after)
braced_ends element s old start texts after front opens so_far closes =
    rw opens (list_ends element front texts after (list_at element start) s closes so_far)
