-- The pieces of a text between its slashes are the names of the path that it spells.
use Rattle.std.proofs.Common.{◌≡◌, ℕ, ◌+◌, ◌<◌, ◌≤◌, ◌==◌, Bool, true, false, cond, List, [], ◌∷◌, ◌++◌, length, take, drop, get_or, refl, sym, ◌∙◌, ap, subst, arith, append_assoc, append-nil, add-one, drop-cons, length-append, Option, None, Some, MatchOption}
use Rattle.std.proofs.lemmas.Bool.{ne_eqb, eqb-true}
use Rattle.std.proofs.lemmas.List.{drop_all, take_all, take_more}
use Rattle.std.specs.List.{AllByRecursion, list_all}
use Rattle.std.proofs.lemmas.Bool.Decides.{nat_tests}
use Rattle.ax_format.proofs.FittingShapes.{both}
use Rattle.ax_format.specs.Characters.{IsName, is_name_octet}
use Rattle.ax_format.specs.Paths.{joined, IsPathOf, onto, pieces}

-- ---- pieces

onto_onto : (a b : List ℕ) (ps : List (List ℕ)) → onto a (onto b ps) ≡ onto (a ++ b) ps
onto_onto a b [] = refl
onto_onto a b (p ∷ ps) = ap (λ x. x ∷ ps) (sym (append_assoc a b p))

onto_nothing : (x : ℕ) (b : Bool) (ps : List (List ℕ)) → onto [] (cond b ([] ∷ ps) (onto (x ∷ []) ps)) ≡ cond b ([] ∷ ps) (onto (x ∷ []) ps)
onto_nothing x true ps = refl
onto_nothing x false ps = onto_onto [] (x ∷ []) ps

pub front_none : (t : List ℕ) → pieces t ≡ onto (take 0 t) (pieces (drop 0 t))
front_none [] = refl
front_none (x ∷ t) = sym (onto_nothing x (x == 47) (pieces t))

other_piece : (x : ℕ) (t : List ℕ) → (x == 47) ≡ false → pieces (x ∷ t) ≡ onto (x ∷ []) (pieces t)
other_piece x t e = rw e refl

some_pieces : (t : List ℕ) → pieces t ≡ [] → ⊥
some_pieces [] e = cc
some_pieces (x ∷ t) e = never (x == 47) (pieces t) e
  where
    never_onto : (ps : List (List ℕ)) → onto (x ∷ []) ps ≡ [] → ⊥
    never_onto [] e = cc
    never_onto (p ∷ ps) e = cc

    never : (b : Bool) (ps : List (List ℕ)) → cond b ([] ∷ ps) (onto (x ∷ []) ps) ≡ [] → ⊥
    never true ps e = cc
    never false ps e = never_onto ps e

-- ---- joined again

joined_slash : (n : List ℕ) (ps : List (List ℕ)) → (ps ≡ [] → ⊥) → joined (n ∷ ps) ≡ n ++ 47 ∷ joined ps
joined_slash n [] some = absurd (some refl)
joined_slash n (p ∷ ps) some = refl

joined_onto : (x : ℕ) (ps : List (List ℕ)) → joined (onto (x ∷ []) ps) ≡ x ∷ joined ps
joined_onto x [] = refl
joined_onto x (p ∷ []) = refl
joined_onto x (p ∷ q ∷ ps) = refl

joined_by : (x : ℕ) (t : List ℕ) (b : Bool) → (x == 47) ≡ b → joined (pieces t) ≡ t → joined (cond b ([] ∷ pieces t) (onto (x ∷ []) (pieces t))) ≡ x ∷ t
joined_by x t true e ih = joined_slash [] (pieces t) (some_pieces t) ∙ (λ i. sym (eqb-true x 47 e) i ∷ ih i)
joined_by x t false e ih = joined_onto x (pieces t) ∙ ap (λ y. x ∷ y) ih

joined_pieces : (t : List ℕ) → joined (pieces t) ≡ t
joined_pieces [] = refl
joined_pieces (x ∷ t) = joined_by x t (x == 47) refl (joined_pieces t)

-- ---- names have no slash

no_slash : (x : ℕ) → is_name_octet x ≡ true → (x == 47) ≡ false
no_slash x e = grind (arith, nat_tests)

alone : (n : List ℕ) → list_all is_name_octet n ≡ true → pieces n ≡ n ∷ []
alone [] e = refl
alone (x ∷ n) e = let s = both (is_name_octet x) (list_all is_name_octet n) e in other_piece x n (no_slash x s.0) ∙ ap (onto (x ∷ [])) (alone n s.1)

in_front : (n t : List ℕ) → list_all is_name_octet n ≡ true → pieces (n ++ 47 ∷ t) ≡ n ∷ pieces t
in_front [] t e = refl
in_front (x ∷ n) t e = let s = both (is_name_octet x) (list_all is_name_octet n) e in other_piece x (n ++ 47 ∷ t) (no_slash x s.0) ∙ ap (onto (x ∷ [])) (in_front n t s.1)

pieces_joined : (ns : List (List ℕ)) → 0 < length ns → AllByRecursion IsName ns → pieces (joined ns) ≡ ns
pieces_joined [] some h = absurd (omega arith)
pieces_joined (n ∷ []) some h = alone n h.0.2
pieces_joined (n ∷ m ∷ ns) some h = in_front n (joined (m ∷ ns)) h.0.2 ∙ ap (λ ps. n ∷ ps) (pieces_joined (m ∷ ns) (omega arith) h.1)

-- ---- the walk to the first slash

pub passed : (t : List ℕ) (at : ℕ) → at < length t → (get_or t at 0 ≡ 47 → ⊥) → pieces t ≡ onto (take at t) (pieces (drop at t)) → pieces t ≡ onto (take (at + 1) t) (pieces (drop (at + 1) t))
passed t at within ne h =
    let x = get_or t at 0 in
    let split : drop at t ≡ x ∷ drop (at + 1) t = drop-cons t at 0 within ∙ ap (λ n. x ∷ drop n t) (sym (add-one at)) in
    let long : take (at + 1) t ≡ take at t ++ x ∷ [] = take_more t at 0 within in
    h ∙ ap (λ d. onto (take at t) (pieces d)) split ∙ ap (onto (take at t)) (other_piece x (drop (at + 1) t) (ne_eqb x 47 ne))
    ∙ onto_onto (take at t) (x ∷ []) (pieces (drop (at + 1) t)) ∙ ap (λ f. onto f (pieces (drop (at + 1) t))) (sym long)

pub reached : (t front more : List ℕ) (at : ℕ) → at < length t → get_or t at 0 ≡ 47 → front ≡ take at t → more ≡ drop (at + 1) t → pieces t ≡ onto (take at t) (pieces (drop at t)) → pieces t ≡ front ∷ pieces more
reached t front more at within is f m h =
    let split : drop at t ≡ 47 ∷ drop (at + 1) t = drop-cons t at 0 within ∙ (λ i. is i ∷ drop (sym (add-one at) i) t) in
    h ∙ ap (λ d. onto (take at t) (pieces d)) split ∙ ap (λ a. a ∷ pieces (drop (at + 1) t)) (append-nil (take at t)) ∙ (λ i. sym f i ∷ pieces (sym m i))

pub no_slash_left : (t : List ℕ) (at : ℕ) → length t ≤ at → pieces t ≡ onto (take at t) (pieces (drop at t)) → pieces t ≡ t ∷ []
no_slash_left t at past h =
    h ∙ ap (λ d. onto (take at t) (pieces d)) (drop_all at t past) ∙ ap (λ a. a ∷ []) (append-nil (take at t) ∙ take_all at t past)

pub ruleset fronts = (front_none, passed, reached, no_slash_left)

-- ---- whole texts

all_append : (ms ns : List (List ℕ)) → AllByRecursion IsName ms → AllByRecursion IsName ns → AllByRecursion IsName (ms ++ ns)
all_append [] ns h g = g
all_append (m ∷ ms) ns h g = (h.0, all_append ms ns h.1 g)

one_of_all : (ms ns : List (List ℕ)) (n : List ℕ) → AllByRecursion IsName (ms ++ n ∷ ns) → IsName n
one_of_all [] ns n h = h.0
one_of_all (m ∷ ms) ns n h = one_of_all ms ns n h.1

pub path_found : (t : List ℕ) (names : List (List ℕ)) (front rest : List ℕ) → pieces t ≡ names ++ pieces rest → pieces rest ≡ front ∷ [] → AllByRecursion IsName names → IsName front → IsPathOf t (names ++ front ∷ [])
path_found t names front rest e f all is =
    let whole : pieces t ≡ names ++ front ∷ [] = e ∙ ap (λ x. names ++ x) f in record {
      some = omega (arith, length-append names (front ∷ []));
      named = all_append names (front ∷ []) all (is, tt);
      spelled = ap joined (sym whole) ∙ joined_pieces t;
    }

pub no_path : (t : List ℕ) (names : List (List ℕ)) (front rest : List ℕ) (more : List (List ℕ)) → pieces t ≡ names ++ pieces rest → pieces rest ≡ front ∷ more → (IsName front → ⊥)
    → (ns : List (List ℕ)) → IsPathOf t ns → ⊥
no_path t names front rest more e f ne ns h =
    let same : ns ≡ names ++ front ∷ more = sym (pieces_joined ns h.some h.named) ∙ ap pieces h.spelled ∙ e ∙ ap (λ x. names ++ x) f in
    ne (one_of_all names more front (subst (AllByRecursion IsName) same h.named))

pub one_more : (t : List ℕ) (names : List (List ℕ)) (front rest more : List ℕ) → pieces t ≡ names ++ pieces rest → pieces rest ≡ front ∷ pieces more → pieces t ≡ (names ++ front ∷ []) ++ pieces more
one_more t names front rest more e f = e ∙ ap (λ x. names ++ x) f ∙ sym (append_assoc names (front ∷ []) (pieces more))

pub named_more : (names : List (List ℕ)) (front : List ℕ) → AllByRecursion IsName names → IsName front → AllByRecursion IsName (names ++ front ∷ [])
named_more names front all is = all_append names (front ∷ []) all (is, tt)

-- the first piece of a text, whether others follow it or not
pub begins : {A : Type 0} (o : Option A) (t front : List ℕ) (following : A → List ℕ) → MatchOption o (pieces t ≡ front ∷ []) (λ a. pieces t ≡ front ∷ pieces (following a)) → (more : List (List ℕ)) × (pieces t ≡ front ∷ more)
begins None t front following e = ([], e)
begins (Some a) t front following e = (pieces (following a), e)

pub ruleset texts = (path_found, no_path, one_more, named_more)
