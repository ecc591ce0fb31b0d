-- The names that a set holds, after one more.
use Rattle.std.proofs.Common.{◌≡◌, ℕ, Bool, true, false, not, if◌then◌else◌, ◌||◌, List, [], ◌∷◌, ◌++◌, map, bytes_eq, refl, sym, ◌∙◌, ap, Bor, nat_eq}
use Rattle.std.specs.List.{list_any}
use Rattle.std.proofs.lemmas.Slice.Eq.{bytes_eq-Decides}
use Rattle.std.specs.Cmp.Lexicographic.{pointwise}
use Rattle.ax_check.specs.Names.{AreSame}
use Rattle.ax_format.specs.Flaws.{is_among}
use Rattle.indexmap.specs.IndexSet.{insert_key}

abbrev same_octets : Bor (List ℕ) → Bor (List ℕ) → Bool
same_octets a b = pointwise nat_eq a.now b.now

-- the set's test of a name is that of the names
among : (k : Bor (List ℕ)) (keys : List (Bor (List ℕ))) → list_any (same_octets k) keys ≡ is_among k.now (map (λ b. b.now) keys)
among k [] = refl
among k (x ∷ keys) = ap (λ b. same_octets k x || b) (among k keys)

pub has_name : (name : List ℕ) (keys : List (Bor (List ℕ))) → list_any (λ k. bytes_eq name k.now) keys ≡ is_among name (map (λ b. b.now) keys)
has_name name [] = refl
has_name name (x ∷ keys) = ap (λ b. bytes_eq name x.now || b) (has_name name keys)

not_not : (b : Bool) → not (not b) ≡ b
not_not true = refl
not_not false = refl

pub was_known : (k : Bor (List ℕ)) (keys : List (Bor (List ℕ))) (new : Bool) → new ≡ not (list_any (same_octets k) keys) → not new ≡ is_among k.now (map (λ b. b.now) keys)
was_known k keys new e = ap not e ∙ not_not (list_any (same_octets k) keys) ∙ among k keys

mapped : (keys : List (Bor (List ℕ))) (k : Bor (List ℕ)) → map (λ b. b.now) (keys ++ k ∷ []) ≡ map (λ b. b.now) keys ++ k.now ∷ []
mapped [] k = refl
mapped (x ∷ keys) k = ap (λ l. x.now ∷ l) (mapped keys k)

among_last : (name k : List ℕ) (names : List (List ℕ)) → is_among name (names ++ k ∷ []) ≡ is_among name (k ∷ names)
among_last name k [] = refl
among_last name k (x ∷ names) = ap (λ b. bytes_eq name x || b) (among_last name k names) ∙ swapped (bytes_eq name x) (bytes_eq name k) (is_among name names)
  where
    swapped : (a b c : Bool) → (a || (b || c)) ≡ (b || (a || c))
    swapped true true c = refl
    swapped true false c = refl
    swapped false true c = refl
    swapped false false c = refl

bytes_same : (a b : List ℕ) → bytes_eq a b ≡ true → a ≡ b
bytes_same a b e = (bytes_eq-Decides a b).0 e

-- a name that is there adds nothing
there_already : (name k : List ℕ) (names : List (List ℕ)) → is_among k names ≡ true → is_among name names ≡ is_among name (k ∷ names)
there_already name k names e = by (bytes_eq name k) refl
  where
    by : (b : Bool) → bytes_eq name k ≡ b → is_among name names ≡ (bytes_eq name k || is_among name names)
    by true t = ap (λ x. is_among x names) (bytes_same name k t) ∙ e ∙ ap (λ b. b || is_among name names) (sym t)
    by false t = ap (λ b. b || is_among name names) (sym t)

added_by : (b : Bool) (k : Bor (List ℕ)) (keys : List (Bor (List ℕ))) → list_any (same_octets k) keys ≡ b
    → AreSame (map (λ x. x.now) (if b then keys else keys ++ k ∷ [])) (k.now ∷ map (λ x. x.now) keys)
added_by true k keys e = record { same = λ name. there_already name k.now (map (λ x. x.now) keys) (sym (among k keys) ∙ e) }
added_by false k keys e = record { same = λ name. ap (is_among name) (mapped keys k) ∙ among_last name k.now (map (λ x. x.now) keys) }

pub is_added : (k : Bor (List ℕ)) (keys new : List (Bor (List ℕ))) → new ≡ insert_key same_octets keys k → AreSame (map (λ x. x.now) new) (k.now ∷ map (λ x. x.now) keys)
is_added k keys new e = record { same = λ name. ap (λ l. is_among name (map (λ x. x.now) l)) e ∙ (added_by (list_any (same_octets k) keys) k keys refl).same name }

pub ruleset sets = (was_known, is_added)
