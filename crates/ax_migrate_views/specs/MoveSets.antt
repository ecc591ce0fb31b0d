-- Paths, moves and what is shared make sets too, and a list without members is empty in one way.
use mathlib.Core.Path.{sym, ◌∙◌, ap, subst, path_j'}
use Rattle.std.specs.Prelude.{◌≡◌, ℕ, Bool, List, [], ◌∷◌, Option}
use Rattle.std.specs.Coded.{Coded, Coded-set, code_by, coded×, coded_ℕ, coded_bool, coded_list, coded_option}
use Rattle.ax_migrate_views.specs.TreeSets.{IsSetOf, copied_set}
use Rattle.ax_format.specs.declared.place.Place.{Place}
use Rattle.ax_relation.specs.Moves.{MoveTree, move_from, MovesTree, no_moves, move_and}
use Rattle.ax_relation.specs.declared.known.Sharing.{Sharing}
use Rattle.ax_relation.specs.declared.relation.RelationPath.{RelationPath}

-- ---- no members

abbrev IsEmpty : {A : Type 0} → List A → Type 0
IsEmpty [] = Unit {0}
IsEmpty (x ∷ xs) = ⊥

abbrev empty_same : {A : Type 0} (xs : List A) → IsEmpty xs → xs ≡ []
empty_same [] e = λ i. []
empty_same (x ∷ xs) e = absurd e

abbrev is_empty : {A : Type 0} (xs : List A) → xs ≡ [] → IsEmpty xs
is_empty xs p = subst IsEmpty (sym p) tt

IsEmpty-prop : {A : Type 0} (xs : List A) → IsProp (IsEmpty xs)
IsEmpty-prop [] a b = λ i. a
IsEmpty-prop (x ∷ xs) a b = absurd a

said_again : {A : Type 0} (xs : List A) (p : xs ≡ []) → empty_same xs (is_empty xs p) ≡ p
said_again xs p = path_j' (λ xs p. empty_same xs (is_empty xs p) ≡ p) (λ i j. []) p

pub empty_prop : {A : Type 0} (xs : List A) → IsProp (xs ≡ [])
empty_prop xs a b = sym (said_again xs a) ∙ ap (empty_same xs) (IsEmpty-prop xs (is_empty xs a) (is_empty xs b)) ∙ said_again xs b

-- ---- records of numbers

place_code : Coded Place
place_code = code_by (ℕ × List ℕ) (coded× coded_ℕ (coded_list coded_ℕ)) (λ p. (p.frn, p.steps)) (λ q. record { frn = q.0; steps = q.1 }) (λ p i. p)

path_code : Coded RelationPath
path_code = code_by (List ℕ × (Option ℕ × (Place × Option Place))) (coded× (coded_list coded_ℕ) (coded× (coded_option coded_ℕ) (coded× place_code (coded_option place_code)))) (λ p. (p.text, (p.part, (p.old, p.new)))) (λ q. record { text = q.0; part = q.1.0; old = q.1.1.0; new = q.1.1.1 }) (λ p i. p)

pub paths_set : IsSetOf (List RelationPath)
paths_set = Coded-set (coded_list path_code)

pub sharing_set : IsSetOf Sharing
sharing_set = Coded-set (code_by (Bool × ℕ) (coded× coded_bool coded_ℕ) (λ s. (s.path, s.parts)) (λ q. record { path = q.0; parts = q.1 }) (λ s i. s))

-- ---- moves

data Copy : Type 0 where
  a_move : ℕ → ℕ → ℕ → Copy → Copy
  nothing : Copy
  one_and : Copy → Copy → Copy
  deriving IsSet as Copy_set

abbrev mutual
  move_copy : MoveTree → Copy
  move_copy (move_from s t c below) = a_move s t c (moves_copy below)

  moves_copy : MovesTree → Copy
  moves_copy no_moves = nothing
  moves_copy (move_and m ms) = one_and (move_copy m) (moves_copy ms)

-- what a copy is of; of a copy of another sort, anything
abbrev mutual
  move_back : Copy → MoveTree
  move_back (a_move s t c x) = move_from s t c (moves_back x)
  move_back _ = move_from 0 0 0 no_moves

  moves_back : Copy → MovesTree
  moves_back (one_and x y) = move_and (move_back x) (moves_back y)
  moves_back _ = no_moves

mutual
  move_same : (m : MoveTree) → move_back (move_copy m) ≡ m
  move_same (move_from s t c below) = λ i. move_from s t c (moves_same below i)

  moves_same : (ms : MovesTree) → moves_back (moves_copy ms) ≡ ms
  moves_same no_moves = λ i. no_moves
  moves_same (move_and m ms) = λ i. move_and (move_same m i) (moves_same ms i)

abbrev list_copy : List MoveTree → Copy
list_copy [] = nothing
list_copy (m ∷ ms) = one_and (move_copy m) (list_copy ms)

abbrev list_back : Copy → List MoveTree
list_back (one_and x y) = move_back x ∷ list_back y
list_back _ = []

list_same : (ms : List MoveTree) → list_back (list_copy ms) ≡ ms
list_same [] = λ i. []
list_same (m ∷ ms) = λ i. move_same m i ∷ list_same ms i

pub move_list_set : IsSetOf (List MoveTree)
move_list_set = copied_set list_copy list_back list_same (Copy_set (Coded-set coded_ℕ))
