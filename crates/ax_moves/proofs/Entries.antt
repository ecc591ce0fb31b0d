-- Moves and entries, one at a time.
use Rattle.std.proofs.Common.{◌≡◌, ℕ, ◌+◌, ◌-◌, ◌<◌, ◌≤◌, List, [], ◌++◌, length, drop, get_or, Option, Some, None, refl, sym, ◌∙◌, ap, arith, subst, append_assoc, append-nil}
use Rattle.std.proofs.lemmas.List.{drop_all}
use Rattle.ax_relation.specs.Moves.{MoveTree, move_from, MovesTree, move_and}
use Rattle.ax_relation.specs.PlainMoves.{move_step, move_tree, moves_tree}
use Rattle.ax_relation.specs.declared.moves.Move.{Move, out-Move, fold_out-Move}
use Rattle.ax_moves.proofs.LaidBits.{lays_none, lays_more}
use Rattle.ax_moves.specs.Laying.{Lays}
use Rattle.ax_moves.specs.Octets.{marks_by, field_by, spelled_where, canon_by, value_canon_by, entries_canon_by, move_canon, move_marks}
use Rattle.ax_moves.specs.Wholes.{slots_in}
use Rattle.ax_format.proofs.Namings.{from_place}
use Rattle.ax_format.specs.At.{slot_value}
use Rattle.ax_format.specs.Lengths.{kind_after}
use Rattle.ax_format.specs.Tree.{KindTree, SlotsTree, ValueTree, marked, EntriesTree}
use Rattle.ax_fspec.specs.declared.mask.SlotMask.{SlotMask}
use Rattle.ax_fspec.specs.Reading.{kind_read}
use Rattle.ax_codec.specs.Table.{record_kind_at}
use Rattle.ax_codec.specs.declared.codec.Codec.{Codec}
use Rattle.ax_codec.specs.declared.node.Node.{Node}
use Rattle.ax_codec.specs.declared.node.Node.TheVariants as Of
use Rattle.ax_walk.proofs.ItemSteps.{is_marked}
use Rattle.ax_walk.proofs.NodeKinds.{is_compound}
use Rattle.ax_walk.specs.Placing.{entries_there}
use Rattle.ax_walk.specs.Shown.{item_kind, item_value}
use Rattle.ax_walk.specs.Values.{value_in, entries_in}
use Rattle.ax_walk.specs.declared.item.ItemView.{ItemView}

-- ---- marks

pub one_mark : (m : MoveTree) (ms : MovesTree) (es : EntriesTree) (marks : List ℕ) → marks_by (move_and m ms) es marks ≡ marks_by ms es (move_marks m es marks)
one_mark (move_from s t c below) ms es marks = refl

pub mark_next : (moves : List Move) (i : ℕ) (one : Move) (es : EntriesTree) (set new all : List ℕ) → i < length moves → one ≡ get_or moves i one → new ≡ move_marks (move_tree one) es set
    → marks_by (moves_tree (drop i moves)) es set ≡ all → marks_by (moves_tree (drop (i + 1) moves)) es new ≡ all
mark_next moves i one es set new all within is e h =
    ap (marks_by (moves_tree (drop (i + 1) moves)) es) e ∙ sym (one_mark (move_tree one) (moves_tree (drop (i + 1) moves)) es set) ∙ ap (λ ms. marks_by (moves_tree ms) es set) (sym (from_place moves i one within is)) ∙ h

pub marks_last : (moves : List Move) (i : ℕ) (es : EntriesTree) (set all : List ℕ) → length moves ≤ i → marks_by (moves_tree (drop i moves)) es set ≡ all → set ≡ all
marks_last moves i es set all past h = sym (ap (λ ms. marks_by (moves_tree ms) es set) (drop_all i moves past)) ∙ h

pub ruleset marks = (mark_next, marks_last)

-- ---- entries

-- the entries of the moves before place i are laid
pub record LaidSoFar (moves : List Move) (i : ℕ) (ss : SlotsTree) (es : EntriesTree) (at end : ℕ) (old now : List ℕ) : Type 0 where
  pub front : List ℕ
  pub laid : Lays front at end old now
  pub whole : front ++ entries_canon_by (moves_tree (drop i moves)) ss es ≡ entries_canon_by (moves_tree moves) ss es

pub none_laid : (moves : List Move) (ss : SlotsTree) (es : EntriesTree) (at : ℕ) (output : List ℕ) → at < 4294967296 → LaidSoFar moves 0 ss es at at output output
none_laid moves ss es at output few = record { front = []; laid = lays_none at output (omega arith); whole = refl }

pub one_entry : (m : MoveTree) (ms : MovesTree) (ss : SlotsTree) (es : EntriesTree) → entries_canon_by (move_and m ms) ss es ≡ move_canon m ss es ++ entries_canon_by ms ss es
one_entry (move_from s t c below) ms ss es = refl

pub one_laid : (moves : List Move) (i : ℕ) (one : Move) (ss : SlotsTree) (es : EntriesTree) (at end n : ℕ) (old now new : List ℕ) → i < length moves → one ≡ get_or moves i one → LaidSoFar moves i ss es at end old now → Lays (move_canon (move_tree one) ss es) end n now new
    → LaidSoFar moves (i + 1) ss es at n old new
one_laid moves i one ss es at end n old now new within is h l =
    let b = move_canon (move_tree one) ss es in
    let rest = entries_canon_by (moves_tree (drop (i + 1) moves)) ss es in record {
      front = h.front ++ b;
      laid = lays_more h.front b (h.front ++ b) at end n old now new refl h.laid l;
      whole = append_assoc h.front b rest ∙ ap (λ x. h.front ++ x) (sym (one_entry (move_tree one) (moves_tree (drop (i + 1) moves)) ss es) ∙ ap (λ ms. entries_canon_by (moves_tree ms) ss es) (sym (from_place moves i one within is))) ∙ h.whole;
    }

pub all_laid : (moves : List Move) (i : ℕ) (ss : SlotsTree) (es : EntriesTree) (at end : ℕ) (old now : List ℕ) → length moves ≤ i → LaidSoFar moves i ss es at end old now → Lays (entries_canon_by (moves_tree moves) ss es) at end old now
all_laid moves i ss es at end old now past h =
    subst (λ b. Lays b at end old now) (sym (append-nil h.front) ∙ ap (λ x. h.front ++ x) (sym (ap (λ ms. entries_canon_by (moves_tree ms) ss es) (drop_all i moves past))) ∙ h.whole) h.laid

-- ---- values

pub nothing_there : (o : Option KindTree) (rule : KindTree → ValueTree → List ℕ) → spelled_where o None rule ≡ []
nothing_there None rule = refl
nothing_there (Some k) rule = refl

-- a move by its fields
pub move_is : (m : Move) → move_tree m ≡ move_from (out-Move m).old (out-Move m).new (out-Move m).parts (moves_tree (out-Move m).below)
move_is m = fold_out-Move MoveTree move_step m

pub nothing_moves : (m : Move) (ss : SlotsTree) (es : EntriesTree) → slot_value (out-Move m).old es ≡ None → move_canon (move_tree m) ss es ≡ []
nothing_moves m ss es e =
    ap (λ t. move_canon t ss es) (move_is m) ∙ ap (λ o. spelled_where (kind_after ((out-Move m).old - 1) ss) o (value_canon_by (out-Move m).parts (moves_tree (out-Move m).below))) e
    ∙ nothing_there (kind_after ((out-Move m).old - 1) ss) (value_canon_by (out-Move m).parts (moves_tree (out-Move m).below))

pub nothing_laid : (b : List ℕ) (at : ℕ) (output : List ℕ) → b ≡ [] → at < 4294967296 → Lays b at at output output
nothing_laid b at output e few = subst (λ b. Lays b at at output output) (sym e) (lays_none at output (omega arith))

-- a record's or a compound's value as it moves
pub whole_canon : (c : ℕ) (ms : MovesTree) (nodes : List Node) (links octets : List ℕ) (k : KindTree) → k ≡ record_kind_at nodes links
    → value_canon_by c ms k (value_in k octets) ≡ field_by ms (entries_in (value_in k octets)) ++ entries_canon_by ms (slots_in k) (entries_in (value_in k octets))
unfolding record_kind_at
whole_canon c ms nodes links octets k e =
    subst (λ k. value_canon_by c ms k (value_in k octets) ≡ field_by ms (entries_in (value_in k octets)) ++ entries_canon_by ms (slots_in k) (entries_in (value_in k octets))) (sym e)
    (ap (value_canon_by c ms (record_kind_at nodes links)) (is_marked nodes links octets) ∙ own (entries_in (value_in (record_kind_at nodes links) octets)))
  where
    own : (es : EntriesTree) → value_canon_by c ms (record_kind_at nodes links) (marked es) ≡ field_by ms es ++ entries_canon_by ms (slots_in (record_kind_at nodes links)) es
    own es = refl

-- that of a record by its entries
pub record_canon : (ms : MovesTree) (nodes : List Node) (links : List ℕ) (es : EntriesTree) → field_by ms es ++ entries_canon_by ms (slots_in (record_kind_at nodes links)) es ≡ canon_by ms (record_kind_at nodes links) (marked es)
unfolding record_kind_at
record_canon ms nodes links es = refl

module _ (item : ItemView) (one : Node) (at : one ≡ get_or item.codec.now.nodes (item.link - 1) one) where
  -- what its places show is its value as it moves
  pub compound_there : (c : ℕ) (ms : MovesTree) (mask : SlotMask) (links found body : List ℕ) (codec : Codec) → one ≡ Of.Compound mask links → links ≡ found → item.body.now ≡ body → item.codec.now ≡ codec
      → field_by ms (entries_there codec.nodes found body 0) ++ entries_canon_by ms (slots_in (record_kind_at codec.nodes found)) (entries_there codec.nodes found body 0) ≡ value_canon_by c ms (item_kind item) (item_value item)
  unfolding value_in kind_read
  compound_there c ms mask links found body codec e f g h =
      let kind = is_compound item.codec.now.nodes item.link one item.codec.now.table item.item.some item.item.within at mask links links e refl in
      sym (ap (λ k. value_canon_by c ms k (value_in k item.body.now)) kind ∙ whole_canon c ms item.codec.now.nodes links item.body.now (record_kind_at item.codec.now.nodes links) refl
      ∙ (λ i. field_by ms (entries_there (h i).nodes (f i) (g i) 0) ++ entries_canon_by ms (slots_in (record_kind_at (h i).nodes (f i))) (entries_there (h i).nodes (f i) (g i) 0)))
