-- A path that leads to a kind stands once among the named paths.
use Rattle.std.proofs.Common.{◌≡◌, ℕ, ◌+◌, Bool, true, false, cond, ◌&&◌, ◌||◌, bytes_eq, is_some, List, [], ◌∷◌, ◌++◌, map, Some, None, option_and_then, refl, ◌∙◌, ap, arith}
use Rattle.ax_relation.proofs.Distinct.{Distinct, SlotsDistinct}
use Rattle.ax_relation.proofs.NamedOnce.{own_name, not_again}
use Rattle.ax_relation.proofs.SameKinds.{bytes_same, both}
use Rattle.ax_relation.specs.Fates.{is_path}
use Rattle.ax_format.specs.Named.{paths_of, slot_paths, kind_at}
use Rattle.ax_format.specs.Flaws.{is_among}
use Rattle.ax_format.specs.Naming.{found_or, slot_named}
use Rattle.ax_format.specs.Tree.{KindTree, fixed, extended, counted, by_fx, explicit, compound, SlotsTree, no_slots, slot_and, spare_slot, subitem}

-- ---- counts

-- how often a path stands in the list
abbrev pub path_times : List (List ℕ) → List (List (List ℕ)) → ℕ
path_times path [] = 0
path_times path (other ∷ paths) = cond (is_path path other) (path_times path paths + 1) (path_times path paths)

differ_back : (a b : List ℕ) → bytes_eq a b ≡ false → bytes_eq b a ≡ false
differ_back a b e = by (bytes_eq b a) refl
  where
    by : (c : Bool) → bytes_eq b a ≡ c → c ≡ false
    by true q = let same = ap (bytes_eq a) (bytes_same b a q) ∙ own_name a in cc
    by false q = refl

pub path_is : (a b : List (List ℕ)) → is_path a b ≡ true → a ≡ b
path_is [] [] e = refl
path_is [] (n ∷ b) e = cc
path_is (m ∷ a) [] e = cc
path_is (m ∷ a) (n ∷ b) e =
    let t = both (bytes_eq m n) (is_path a b) e in
    let p = bytes_same m n t.0 in
    let q = path_is a b t.1 in λ i. p i ∷ q i

times_append : (path : List (List ℕ)) (xs ys : List (List (List ℕ))) → path_times path (xs ++ ys) ≡ path_times path xs + path_times path ys
times_append path [] ys = omega arith
times_append path (x ∷ xs) ys = by (is_path path x) (times_append path xs ys)
  where
    by : (b : Bool) → path_times path (xs ++ ys) ≡ path_times path xs + path_times path ys
        → cond b (path_times path (xs ++ ys) + 1) (path_times path (xs ++ ys)) ≡ cond b (path_times path xs + 1) (path_times path xs) + path_times path ys
    by true h = omega arith
    by false h = h

-- among paths below a name
times_below : (name own : List ℕ) (names : List (List ℕ)) (xs : List (List (List ℕ))) → path_times (name ∷ names) (map (λ path. own ∷ path) xs) ≡ cond (bytes_eq name own) (path_times names xs) 0
times_below name own names xs = by (bytes_eq name own) refl xs
  where
    by : (b : Bool) → bytes_eq name own ≡ b → (xs : List (List (List ℕ))) → path_times (name ∷ names) (map (λ path. own ∷ path) xs) ≡ cond b (path_times names xs) 0
    by true e [] = refl
    by true e (x ∷ xs) = λ i. cond (e i && is_path names x) (by true e xs i + 1) (by true e xs i)
    by false e [] = refl
    by false e (x ∷ xs) = (λ i. cond (e i && is_path names x) (path_times (name ∷ names) (map (λ path. own ∷ path) xs) + 1) (path_times (name ∷ names) (map (λ path. own ∷ path) xs))) ∙ by false e xs

none_empty : (ss : SlotsTree) → path_times [] (slot_paths ss) ≡ 0
none_empty no_slots = refl
none_empty (slot_and spare_slot ss) = none_empty ss
none_empty (slot_and (subitem name k) ss) = times_append [] (map (λ path. name ∷ path) (paths_of k)) (slot_paths ss) ∙ (λ i. named (paths_of k) i + none_empty ss i)
  where
    named : (xs : List (List (List ℕ))) → path_times [] (map (λ path. name ∷ path) xs) ≡ 0
    named [] = refl
    named (x ∷ xs) = named xs

-- a name that no slot has
none_named : (n : ℕ) (name : List ℕ) (names : List (List ℕ)) (ss : SlotsTree) → slot_named n name ss ≡ None → path_times (name ∷ names) (slot_paths ss) ≡ 0
none_named n name names no_slots e = refl
none_named n name names (slot_and spare_slot ss) e = none_named (n + 1) name names ss e
none_named n name names (slot_and (subitem own k) ss) e =
    times_append (name ∷ names) (map (λ path. own ∷ path) (paths_of k)) (slot_paths ss) ∙ by (bytes_eq own name) refl (λ f. none_named (n + 1) name names ss f) e
  where
    by : (b : Bool) → bytes_eq own name ≡ b → (slot_named (n + 1) name ss ≡ None → path_times (name ∷ names) (slot_paths ss) ≡ 0)
        → found_or (cond b (Some k) None) n (slot_named (n + 1) name ss) ≡ None
        → path_times (name ∷ names) (map (λ path. own ∷ path) (paths_of k)) + path_times (name ∷ names) (slot_paths ss) ≡ 0
    by true q later e = cc
    by false q later e = (λ i. (times_below name own names (paths_of k) ∙ ap (λ b. cond b (path_times names (paths_of k)) 0) (differ_back own name q)) i + later e i)

this_or_later : (n : ℕ) (earlier : List (List ℕ)) (own name : List ℕ) (names : List (List ℕ)) (k : KindTree) (ss : SlotsTree) → SlotsDistinct (own ∷ earlier) ss
    → (is_some (kind_at names k) ≡ true → path_times names (paths_of k) ≡ 1)
    → (is_some (option_and_then (λ s. kind_at names s.1) (slot_named (n + 1) name ss)) ≡ true → path_times (name ∷ names) (slot_paths ss) ≡ 1)
    → (b : Bool) → bytes_eq own name ≡ b → is_some (option_and_then (λ s. kind_at names s.1) (found_or (cond b (Some k) None) n (slot_named (n + 1) name ss))) ≡ true
    → path_times (name ∷ names) (map (λ path. own ∷ path) (paths_of k)) + path_times (name ∷ names) (slot_paths ss) ≡ 1
this_or_later n earlier own name names k ss d here later true q e =
    let same : bytes_eq name own ≡ true = ap (bytes_eq name) (bytes_same own name q) ∙ own_name name in
    let again : is_among name (own ∷ earlier) ≡ true = ap (λ b. b || is_among name earlier) same in
    let first = times_below name own names (paths_of k) ∙ ap (λ b. cond b (path_times names (paths_of k)) 0) same ∙ here e in
    let rest = none_named (n + 1) name names ss (not_again (n + 1) name (own ∷ earlier) ss again d) in omega arith
this_or_later n earlier own name names k ss d here later false q e =
    let first = times_below name own names (paths_of k) ∙ ap (λ b. cond b (path_times names (paths_of k)) 0) (differ_back own name q) in
    let rest = later e in omega arith

-- a path that leads to a kind stands once among those from there on
mutual
  path_once : (names : List (List ℕ)) (k : KindTree) → Distinct k → is_some (kind_at names k) ≡ true → path_times names (paths_of k) ≡ 1
  path_once [] (compound ss) d e = ap (λ n. n + 1) (none_empty ss)
  path_once (name ∷ names) (compound ss) d e = slot_once 1 [] name names ss d e
  path_once [] (fixed f) d e = refl
  path_once [] (extended last ps) d e = refl
  path_once [] (counted size k) d e = refl
  path_once [] (by_fx f) d e = refl
  path_once [] explicit d e = refl
  path_once (name ∷ names) _ d e = cc

  pub slot_once : (n : ℕ) (earlier : List (List ℕ)) (name : List ℕ) (names : List (List ℕ)) (ss : SlotsTree) → SlotsDistinct earlier ss
      → is_some (option_and_then (λ s. kind_at names s.1) (slot_named n name ss)) ≡ true → path_times (name ∷ names) (slot_paths ss) ≡ 1
  slot_once n earlier name names no_slots d e = cc
  slot_once n earlier name names (slot_and spare_slot ss) d e = slot_once (n + 1) earlier name names ss d e
  slot_once n earlier name names (slot_and (subitem own k) ss) d e =
      times_append (name ∷ names) (map (λ path. own ∷ path) (paths_of k)) (slot_paths ss)
      ∙ this_or_later n earlier own name names k ss d.2 (path_once names k d.1) (slot_once (n + 1) (own ∷ earlier) name names ss d.2) (bytes_eq own name) refl e
