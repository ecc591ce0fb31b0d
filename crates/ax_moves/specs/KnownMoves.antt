-- Moves of a record or a compound by the places that they have in order, and those from marked slots.
use Rattle.std.specs.Prelude.{◌≡◌, ℕ, zero, suc, ◌+◌, ◌-◌, ◌<◌, nat_lt, true, IsTrue, List, [], ◌∷◌, ◌++◌, length, get_or, Option, Some, None, IfSome}
use Rattle.std.specs.Coded.{Coded-set, coded_ℕ, coded_bool}
use Rattle.ax_relation.specs.Moves.{MoveTree, move_from, MovesTree, no_moves, move_and}
use Rattle.ax_relation.specs.PlainMoves.{moves_tree}
use Rattle.ax_relation.specs.declared.moves.Move.{Move}
use Rattle.ax_moves.specs.BySlot.{ArePlaces, ArePlaces-prop, KeepSlots, KeepSlots-prop, StayInSlots, StayInSlots-prop, ascends, place_from, found_canon, found_marks}
use Rattle.ax_moves.specs.Octets.{with_slot}
use Rattle.ax_moves.specs.Subitems.{StayWithout, StayWithout-prop}
use Rattle.ax_moves.specs.declared.by_slot.SlotMoves.{SlotMoves}
use Rattle.ax_moves.specs.declared.known_moves.KnownMoves.{KnownMoves, out-KnownMoves}
use Rattle.ax_format.specs.At.{slot_value}
use Rattle.ax_format.specs.Tree.{SlotsTree, EntriesTree}
use Rattle.ax_codec.specs.declared.node.Node.{Node}

-- ---- places in order, from 1 on

-- the move of that index, from 0 on
abbrev pub move_at : ℕ → MovesTree → Option MoveTree
move_at i no_moves = None
move_at zero (move_and m ms) = Some m
move_at (suc i) (move_and m ms) = move_at i ms

-- each of the first n moves is the first from its slot
abbrev pub AreFirst : ℕ → MovesTree → Type 0
AreFirst n ms = (i s t c : ℕ) (below : MovesTree) → i < n → move_at i ms ≡ Some (move_from s t c below) → place_from 1 s ms ≡ i + 1

-- by old slot below 127 the place of the one move from it, of 126 at most, and 0 where there is none
pub record FindsEach (ms : MovesTree) (places : List ℕ) : Type 0 where
  pub size : length places ≡ 127
  pub at : (s : ℕ) → s < 127 → get_or places s 0 ≡ place_from 1 s ms
  pub first : (i s t c : ℕ) (below : MovesTree) → move_at i ms ≡ Some (move_from s t c below) → place_from 1 s ms ≡ i + 1
  pub few : (i : ℕ) (m : MoveTree) → move_at i ms ≡ Some m → IsTrue (nat_lt i 126)

-- ---- what marked slots make

-- the set with the places of the moves from these slots
abbrev pub with_places : List ℕ → List ℕ → List ℕ → List ℕ
with_places [] places set = set
with_places (s ∷ slots) places set = with_places slots places (with_slot (get_or places s 0) set)

-- the set with the new slots of the moves at these places
abbrev pub places_marks : List ℕ → MovesTree → EntriesTree → List ℕ → List ℕ
places_marks [] ms es set = set
places_marks (p ∷ ps) ms es set = places_marks ps ms es (found_marks (move_at (p - 1) ms) es set)

-- the entries of the moves at these places, in their order
abbrev pub places_canon : List ℕ → MovesTree → SlotsTree → EntriesTree → List ℕ
places_canon [] ms ss es = []
places_canon (p ∷ ps) ms ss es = found_canon (move_at (p - 1) ms) ss es ++ places_canon ps ms ss es

-- the move makes no entry
abbrev pub IsAbsent : EntriesTree → Option MoveTree → Type 0
IsAbsent es None = Unit {0}
IsAbsent es (Some (move_from s t c below)) = slot_value s es ≡ None

-- no other move makes an entry than those at places of this set
abbrev pub AreOthersAbsent : List ℕ → MovesTree → EntriesTree → Type 0
AreOthersAbsent set ms es = (i : ℕ) → get_or set i 0 ≡ 0 → IsAbsent es (move_at i ms)

-- ---- what is known of moves

abbrev pub Finds : MovesTree → KnownMoves → Type 0
Finds ms k = IfSome (out-KnownMoves k).places (λ places. FindsEach ms places.items)

-- of each of these moves, what is known of those below it
abbrev pub KnowsBelow : MovesTree → List KnownMoves → Type 0
KnowsBelow no_moves ks = Unit {0}
KnowsBelow (move_and (move_from s t c below) ms) [] = ⊥
KnowsBelow (move_and (move_from s t c below) ms) (k ∷ ks) = Finds below k × KnowsBelow below (out-KnownMoves k).below × KnowsBelow ms ks

-- of these moves, and of those below each
abbrev pub Knows : MovesTree → KnownMoves → Type 0
Knows ms k = Finds ms k × KnowsBelow ms (out-KnownMoves k).below

-- of the moves below a move
abbrev pub KnowsOf : MoveTree → KnownMoves → Type 0
KnowsOf (move_from s t c below) k = Knows below k

pub FindsEach-prop : (ms : MovesTree) (places : List ℕ) → IsProp (FindsEach ms places)
FindsEach-prop ms places a b = λ i. record {
  size = Coded-set coded_ℕ (length places) 127 a.size b.size i;
  at = λ s lt. Coded-set coded_ℕ (get_or places s 0) (place_from 1 s ms) (a.at s lt) (b.at s lt) i;
  first = λ n s t c below e. Coded-set coded_ℕ (place_from 1 s ms) (n + 1) (a.first n s t c below e) (b.first n s t c below e) i;
  few = λ n m e. Coded-set coded_bool (nat_lt n 126) true (a.few n m e) (b.few n m e) i;
}

some_prop : {A : Type 0} (P : A → Type 0) → ((x : A) → IsProp (P x)) → (o : Option A) → IsProp (IfSome o P)
some_prop P each None a b = λ i. a
some_prop P each (Some x) a b = each x a b

Finds-prop : (ms : MovesTree) (k : KnownMoves) → IsProp (Finds ms k)
Finds-prop ms k = some_prop (λ places. FindsEach ms places.items) (λ places. FindsEach-prop ms places.items) (out-KnownMoves k).places

KnowsBelow-prop : (ms : MovesTree) (ks : List KnownMoves) → IsProp (KnowsBelow ms ks)
KnowsBelow-prop no_moves ks a b = λ i. a
KnowsBelow-prop (move_and (move_from s t c below) ms) [] a b = absurd a
KnowsBelow-prop (move_and (move_from s t c below) ms) (k ∷ ks) a b = λ i. (Finds-prop below k a.0 b.0 i, KnowsBelow-prop below (out-KnownMoves k).below a.1 b.1 i, KnowsBelow-prop ms ks a.2 b.2 i)

pub Knows-prop : (ms : MovesTree) (k : KnownMoves) → IsProp (Knows ms k)
Knows-prop ms k a b = λ i. (Finds-prop ms k a.0 b.0 i, KnowsBelow-prop ms (out-KnownMoves k).below a.1 b.1 i)

-- ---- of a record

-- what is kept of the moves of records of these slots
pub record KnowsMoves (nodes : List Node) (links : List ℕ) (moves : List Move) (known : SlotMoves) : Type 0 where
  pub ordered : IsTrue known.ordered → IsTrue (ascends 1 (moves_tree moves))
  pub places : ArePlaces moves 127 known.places.items
  pub stays : StayInSlots nodes links moves 127 known.stays.items
  pub leaving : StayWithout nodes links moves 127 known.leaving.items
  pub kept : IfSome known.kept (KeepSlots moves)
  pub by_place : Knows (moves_tree moves) known.by_place

pub KnowsMoves-prop : (nodes : List Node) (links : List ℕ) (moves : List Move) (known : SlotMoves) → IsProp (KnowsMoves nodes links moves known)
KnowsMoves-prop nodes links moves known a b = λ i. record {
  ordered = λ said. Coded-set coded_bool (ascends 1 (moves_tree moves)) true (a.ordered said) (b.ordered said) i;
  places = ArePlaces-prop moves 127 known.places.items a.places b.places i;
  stays = StayInSlots-prop nodes links moves 127 known.stays.items a.stays b.stays i;
  leaving = StayWithout-prop nodes links moves 127 known.leaving.items a.leaving b.leaving i;
  kept = KeepSlots-prop moves known.kept a.kept b.kept i;
  by_place = Knows-prop (moves_tree moves) known.by_place a.by_place b.by_place i;
}
