-- What is known of moves, one move after the other.
use Rattle.std.proofs.Common.{◌≡◌, ℕ, zero, suc, ◌+◌, ◌<◌, ◌≤◌, ◌⊎◌, inl, inr, List, [], ◌∷◌, ◌++◌, length, drop, get_or, Some, None, sym, ◌∙◌, ap, arith, subst, append_assoc, append-nil}
use Rattle.std.proofs.lemmas.Bool.{cases_eq, lt-ltb}
use Rattle.std.proofs.lemmas.List.{drop_all}
use Rattle.ax_relation.specs.Moves.{MoveTree, move_from, MovesTree, no_moves, move_and}
use Rattle.ax_relation.specs.PlainMoves.{move_tree, moves_tree}
use Rattle.ax_relation.specs.declared.moves.Move.{Move, out-Move}
use Rattle.ax_moves.proofs.Entries.{move_is}
use Rattle.ax_moves.proofs.PlacesThere.{at_is, at_within}
use Rattle.ax_moves.specs.BySlot.{ArePlaces, place_from}
use Rattle.ax_moves.specs.KnownMoves.{AreFirst, FindsEach, Knows, KnowsBelow, KnowsOf, move_at}
use Rattle.ax_moves.specs.declared.known_moves.KnownMoves.{KnownMoves}
use Rattle.ax_format.proofs.Namings.{from_place}

-- ---- each the first from its slot

pub first_none : (ms : MovesTree) → AreFirst 0 ms
first_none ms i s t c below lt e = absurd (omega arith)

same_old : (a b c d e f : ℕ) (x y : MovesTree) → move_from a b c x ≡ move_from d e f y → a ≡ d
same_old a b c d e f x y h = cc

pub first_next : (moves : List Move) (n : ℕ) (one : Move) → n < length moves → one ≡ get_or moves n one → place_from 1 (out-Move one).old (moves_tree moves) ≡ n + 1 → AreFirst n (moves_tree moves) → AreFirst (n + 1) (moves_tree moves)
first_next moves n one within is place h i s t c below lt e = by (cases_eq i n)
  where
    by : (i ≡ n) ⊎ (i ≡ n → ⊥) → place_from 1 s (moves_tree moves) ≡ i + 1
    by (inl f) =
        let found : move_at n (moves_tree moves) ≡ Some (move_tree one) = at_is moves n one within is in
        let same : Some (move_tree one) ≡ Some (move_from s t c below) = sym found ∙ ap (λ k. move_at k (moves_tree moves)) (sym f) ∙ e in
        let own : move_tree one ≡ move_from s t c below = cc in
        let old : (out-Move one).old ≡ s = same_old (out-Move one).old (out-Move one).new (out-Move one).parts s t c (moves_tree (out-Move one).below) below (sym (move_is one) ∙ own) in
        ap (λ k. place_from 1 k (moves_tree moves)) (sym old) ∙ place ∙ ap (λ k. k + 1) (sym f)
    by (inr d) = h i s t c below (omega (arith, lt, d)) e

pub finds_each : (moves : List Move) (places : List ℕ) → length moves ≤ 126 → ArePlaces moves 127 places → AreFirst (length moves) (moves_tree moves) → FindsEach (moves_tree moves) places
finds_each moves places few a f = record {
  size = a.size;
  at = a.at;
  first = λ i s t c below e. f i s t c below (at_within moves i (move_from s t c below) e) e;
  few = λ i m e. (let lt = at_within moves i m e in lt-ltb i 126 (omega (arith, lt, few)));
}

-- ---- what is known of the moves below each

pub knows_first : (m : MoveTree) (ms : MovesTree) (k : KnownMoves) (ks : List KnownMoves) → KnowsOf m k → KnowsBelow ms ks → KnowsBelow (move_and m ms) (k ∷ ks)
knows_first (move_from s t c below) ms k ks h g = (h.0, h.1, g)

pub knows_at : (ms : MovesTree) (ks : List KnownMoves) (i : ℕ) (m : MoveTree) → KnowsBelow ms ks → move_at i ms ≡ Some m → (i < length ks) × ((k : KnownMoves) → k ≡ get_or ks i k → KnowsOf m k)
knows_at no_moves ks i m h e = absurd (let no : None ≡ Some m = e in cc)
knows_at (move_and (move_from s t c below) ms) [] i m h e = absurd h
knows_at (move_and (move_from s t c below) ms) (k ∷ ks) zero m h e =
    (omega arith, λ x is. subst (λ t. KnowsOf t x) (let same : Some (move_from s t c below) ≡ Some m = e in let own : move_from s t c below ≡ m = cc in own) (subst (Knows below) (sym is) (h.0, h.1)))
knows_at (move_and (move_from s t c below) ms) (k ∷ ks) (suc i) m h e = let r = knows_at ms ks i m h.2 e in (omega (arith, r.0), r.1)

-- of a move of a list
pub known_at : (moves : List Move) (ks : List KnownMoves) (i : ℕ) (one : Move) → KnowsBelow (moves_tree moves) ks → i < length moves → one ≡ get_or moves i one → (i < length ks) × ((k : KnownMoves) → k ≡ get_or ks i k → KnowsOf (move_tree one) k)
known_at moves ks i one h within is = knows_at (moves_tree moves) ks i (move_tree one) h (at_is moves i one within is)

pub known_below : (one : Move) (k : KnownMoves) → KnowsOf (move_tree one) k → Knows (moves_tree (out-Move one).below) k
known_below one k h = subst (λ t. KnowsOf t k) (move_is one) h

pub known_of : (one : Move) (k : KnownMoves) → Knows (moves_tree (out-Move one).below) k → KnowsOf (move_tree one) k
known_of one k h = subst (λ t. KnowsOf t k) (sym (move_is one)) h

-- ---- one after the other

-- with what is known of the moves from index i on, each is known
abbrev pub KnowsUpto : List Move → ℕ → List KnownMoves → Type 0
KnowsUpto moves i ks = (rest : List KnownMoves) → KnowsBelow (moves_tree (drop i moves)) rest → KnowsBelow (moves_tree moves) (ks ++ rest)

pub known_none : (moves : List Move) (ks : List KnownMoves) → ks ≡ [] → KnowsUpto moves 0 ks
known_none moves ks e rest h = subst (λ x. KnowsBelow (moves_tree moves) (x ++ rest)) (sym e) h

pub known_next : (moves : List Move) (i : ℕ) (one : Move) (k : KnownMoves) (ks new : List KnownMoves) → i < length moves → one ≡ get_or moves i one → KnowsOf (move_tree one) k → new ≡ ks ++ k ∷ [] → KnowsUpto moves i ks → KnowsUpto moves (i + 1) new
known_next moves i one k ks new within is own put h rest g =
    let here : KnowsBelow (moves_tree (drop i moves)) (k ∷ rest) = subst (λ xs. KnowsBelow (moves_tree xs) (k ∷ rest)) (sym (from_place moves i one within is)) (knows_first (move_tree one) (moves_tree (drop (i + 1) moves)) k rest own g) in
    subst (KnowsBelow (moves_tree moves)) (sym (append_assoc ks (k ∷ []) rest) ∙ ap (λ x. x ++ rest) (sym put)) (h (k ∷ rest) here)

pub known_all : (moves : List Move) (i : ℕ) (ks : List KnownMoves) → length moves ≤ i → KnowsUpto moves i ks → KnowsBelow (moves_tree moves) ks
known_all moves i ks past h = subst (KnowsBelow (moves_tree moves)) (append-nil ks) (h [] (subst (λ xs. KnowsBelow (moves_tree xs) []) (sym (drop_all i moves past)) tt))
