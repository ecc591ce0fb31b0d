-- What a record's conversion misses, key by key, those below an absent place skipped.
use Rattle.std.proofs.Common.{◌≡◌, ℕ, zero, suc, ◌+◌, ◌≤◌, ◌==◌, nat_eq, Bool, true, false, cond, ◌&&◌, not, is_none, is_some, List, [], ◌∷◌, ◌++◌, length, take, drop, Option, Some, None, option_and_then, refl, sym, ◌∙◌, ap, arith, subst, append_assoc, append-nil}
use Rattle.std.proofs.lemmas.Bool.{eqb-true, eq-eqb}
use Rattle.std.proofs.lemmas.List.{drop_all}
use Rattle.std.specs.Cmp.Lexicographic.{pointwise}
use Rattle.std.specs.List.{AllByRecursion, starts_with}
use Rattle.ax_relation.proofs.SameKinds.{both}
use Rattle.ax_format.specs.At.{slot_value}
use Rattle.ax_format.specs.Placed.{has_part, has_part_where}
use Rattle.ax_format.specs.Specification.{SpecTree}
use Rattle.ax_format.specs.Tree.{ValueTree, number, member_values, part_values, occurrences, content_octets, marked, EntriesTree}
use Rattle.ax_format.specs.declared.place.Place.{Place}
use Rattle.ax_relation.specs.Standing.{value_below}
use Rattle.ax_relation.specs.declared.relation.RelationPath.{RelationPath}
use Rattle.ax_rescale.proofs.WatchLists.{At}
use Rattle.ax_rescale.specs.Watching.{begins, stands, path_missed, path_misses, record_misses, target_of}
use Rattle.ax_rescale.specs.declared.miss.Miss.{Miss}
use Rattle.ax_rescale.specs.declared.watches.Watch.{Watch}

-- ---- nothing stands below where nothing stands

record Front (ns ms : List ℕ) : Type 0 where
  rest : List ℕ
  is : ms ≡ ns ++ rest

front_of : (ns ms : List ℕ) → pointwise nat_eq ns (take (length ns) ms) ≡ true → Front ns ms
front_of [] ms e = record { rest = ms; is = refl }
front_of (n ∷ ns) [] e = cc
front_of (n ∷ ns) (m ∷ ms) e =
    let p = both (nat_eq n m) (pointwise nat_eq ns (take (length ns) ms)) e in
    let f = front_of ns ms p.1 in record { rest = f.rest; is = λ i. eqb-true m n (turned n m p.0) i ∷ f.is i }
  where
    turned : (a b : ℕ) → nat_eq a b ≡ true → (b == a) ≡ true
    turned a b e = eq-eqb b a (sym (eqb-true a b e))

further : (ns ms : List ℕ) (v : ValueTree) → value_below ns v ≡ None → value_below (ns ++ ms) v ≡ None
further [] ms v e = cc
further (n ∷ ns) ms (marked es) e = by (λ w f. further ns ms w f) (slot_value n es) e
  where
    by : ((w : ValueTree) → value_below ns w ≡ None → value_below (ns ++ ms) w ≡ None) → (o : Option ValueTree) → option_and_then (value_below ns) o ≡ None → option_and_then (value_below (ns ++ ms)) o ≡ None
    by later None e = refl
    by later (Some w) e = later w e
further (n ∷ ns) ms (number m) e = refl
further (n ∷ ns) ms (member_values vs) e = refl
further (n ∷ ns) ms (part_values ls) e = refl
further (n ∷ ns) ms (occurrences vs) e = refl
further (n ∷ ns) ms (content_octets bs) e = refl

absent_below : (front place : Place) (es : EntriesTree) → begins front place ≡ true → value_below (front.frn ∷ front.steps) (marked es) ≡ None → value_below (place.frn ∷ place.steps) (marked es) ≡ None
absent_below front place es b e =
    let p = both (front.frn == place.frn) (starts_with nat_eq place.steps front.steps) b in
    let f = front_of front.steps place.steps p.1 in
    subst (λ l. value_below l (marked es) ≡ None) (λ i. eqb-true front.frn place.frn p.0 i ∷ sym f.is i) (further (front.frn ∷ front.steps) f.rest (marked es) e)

-- ---- keys that are absent

module _ (old new : SpecTree) (n : ℕ) (es made : EntriesTree) where
  not_missed : (p : RelationPath) (target : Option Place) → value_below (p.old.frn ∷ p.old.steps) (marked es) ≡ None → path_misses n es made p target ≡ []
  not_missed p target e = by (is_none p.new) (stands target made) (value_below (p.old.frn ∷ p.old.steps) (marked es)) e
    where
      by : (b c : Bool) (o : Option ValueTree) → o ≡ None → cond {A = List Miss} ((b && has_part_where p.part o) && not c) (record { record_at = n; path = p.text; unconverted = is_some target } ∷ []) [] ≡ []
      by true c None e = refl
      by false c None e = refl
      by b c (Some v) e = cc

  skipped : (front : Place) (k : ℕ) (ps : List RelationPath) → value_below (front.frn ∷ front.steps) (marked es) ≡ None → AllByRecursion (λ (q : RelationPath). begins front q.old ≡ true) (take k ps)
      → record_misses old new n es made ps ≡ record_misses old new n es made (drop k ps)
  skipped front zero ps e h = refl
  skipped front (suc k) [] e h = refl
  skipped front (suc k) (q ∷ ps) e h =
      ap (λ l. l ++ record_misses old new n es made ps) (not_missed q (target_of old new q) (absent_below front q.old es h.0 e)) ∙ skipped front k ps e h.1

  -- ---- one key of those that are watched

  drop_more : (i k : ℕ) (ps : List RelationPath) → drop (i + k) ps ≡ drop k (drop i ps)
  drop_more zero k ps = ap (λ j. drop j ps) (let e : 0 + k ≡ k = omega arith in e)
  drop_more (suc i) k [] = ap (λ j. drop j []) (let e : suc i + k ≡ suc (i + k) = omega arith in e) ∙ sym (none k)
    where
      none : (k : ℕ) → drop {A = RelationPath} k [] ≡ []
      none zero = refl
      none (suc k) = refl
  drop_more (suc i) k (p ∷ ps) = ap (λ j. drop j (p ∷ ps)) (let e : suc i + k ≡ suc (i + k) = omega arith in e) ∙ drop_more i k ps

  module _ (w : Watch) (ps : List RelationPath) (i : ℕ) (misses all : List Miss) (a : At old new w ps i) (h : misses ++ record_misses old new n es made (drop i ps) ≡ all) where
    -- what this key adds comes before what the later ones do
    next_is : (new' : List Miss) → new' ≡ misses ++ path_misses n es made a.path (target_of old new a.path) → new' ++ record_misses old new n es made (drop (i + 1) ps) ≡ all
    next_is new' e =
        (λ j. e j ++ record_misses old new n es made (a.next j)) ∙ append_assoc misses (path_misses n es made a.path (target_of old new a.path)) (record_misses old new n es made a.later)
        ∙ ap (λ l. misses ++ l) (sym (ap (record_misses old new n es made) a.here)) ∙ h

    -- a value stands there, and this is found of it
    told : (v : ValueTree) → value_below (w.path.now.old.frn ∷ w.path.now.old.steps) (marked es) ≡ Some v
        → path_missed a.path (target_of old new a.path) es made ≡ ((is_none w.path.now.new && has_part w.path.now.part v) && not (stands w.target made))
    told v e =
        (λ j. path_missed (sym a.watched.path j) (sym a.watched.target j) es made)
        ∙ ap (λ o. (is_none w.path.now.new && has_part_where w.path.now.part o) && not (stands w.target made)) e

    pub missed_step : (v : ValueTree) (b : Bool) (new' : List Miss) → value_below (w.path.now.old.frn ∷ w.path.now.old.steps) (marked es) ≡ Some v
        → b ≡ ((is_none w.path.now.new && has_part w.path.now.part v) && not (stands w.target made)) → b ≡ true
        → new' ≡ misses ++ record { record_at = n; path = w.path.now.text; unconverted = is_some w.target } ∷ [] → new' ++ record_misses old new n es made (drop (i + 1) ps) ≡ all
    missed_step v b new' e is t m =
        next_is new' (m ∙ ap (λ l. misses ++ l)
        ((λ j. record { record_at = n; path = (a.watched.path j).text; unconverted = is_some (a.watched.target j) } ∷ [])
        ∙ sym (ap (λ c. cond c (record { record_at = n; path = a.path.text; unconverted = is_some (target_of old new a.path) } ∷ []) []) (told v e ∙ sym is ∙ t))))

    pub kept_step : (v : ValueTree) (b : Bool) → value_below (w.path.now.old.frn ∷ w.path.now.old.steps) (marked es) ≡ Some v
        → b ≡ ((is_none w.path.now.new && has_part w.path.now.part v) && not (stands w.target made)) → b ≡ false → misses ++ record_misses old new n es made (drop (i + 1) ps) ≡ all
    kept_step v b e is f =
        next_is misses (sym (append-nil misses) ∙ ap (λ l. misses ++ l)
        (sym (ap (λ c. cond c (record { record_at = n; path = a.path.text; unconverted = is_some (target_of old new a.path) } ∷ []) []) (told v e ∙ sym is ∙ f))))

    pub absent_step : value_below (w.path.now.old.frn ∷ w.path.now.old.steps) (marked es) ≡ None → misses ++ record_misses old new n es made (drop (i + 1 + w.skip) ps) ≡ all
    absent_step e =
        let at = subst (λ (p : RelationPath). value_below (p.old.frn ∷ p.old.steps) (marked es) ≡ None) a.watched.path e in
        ap (λ l. misses ++ l) (ap (record_misses old new n es made) (drop_more (i + 1) w.skip ps ∙ ap (drop w.skip) a.next) ∙ sym (skipped a.path.old w.skip a.later at a.watched.below))
        ∙ ap (λ l. l ++ record_misses old new n es made a.later) (sym (append-nil misses ∙ refl))
        ∙ next_is' at
      where
        next_is' : value_below (a.path.old.frn ∷ a.path.old.steps) (marked es) ≡ None → (misses ++ []) ++ record_misses old new n es made a.later ≡ all
        next_is' at =
            append_assoc misses [] (record_misses old new n es made a.later)
            ∙ ap (λ l. misses ++ (l ++ record_misses old new n es made a.later)) (sym (not_missed a.path (target_of old new a.path) at))
            ∙ ap (λ l. misses ++ l) (sym (ap (record_misses old new n es made) a.here)) ∙ h

  pub all_found : (ps : List RelationPath) (i : ℕ) (misses all : List Miss) → length ps ≤ i → misses ++ record_misses old new n es made (drop i ps) ≡ all → misses ≡ all
  all_found ps i misses all past h = sym (append-nil misses) ∙ ap (λ l. misses ++ l) (sym (ap (record_misses old new n es made) (drop_all i ps past))) ∙ h
