-- Slots that stay, one after the other.
use Rattle.std.proofs.Common.{◌≡◌, ℕ, zero, suc, ◌+◌, ◌-◌, ◌<◌, ◌≤◌, false, List, [], ◌∷◌, length, map, drop, get_or, refl, sym, ◌∙◌, ap, arith, subst}
use Rattle.std.proofs.lemmas.List.{drop_all, get_or_default, length-map}
use Rattle.ax_bits.specs.Bits.{bits}
use Rattle.ax_relation.specs.Moves.{MoveTree, MovesTree}
use Rattle.ax_relation.specs.PlainMoves.{move_step, move_tree, moves_tree}
use Rattle.ax_relation.specs.declared.moves.Move.{Move, out-Move, fold_out-Move}
use Rattle.ax_fspec.specs.declared.mask.SlotMask.{SlotMask}
use Rattle.ax_moves.proofs.KeptWhole.{leaf_canon, whole_stays}
use Rattle.ax_moves.specs.Keeping.{IsLeaf, KeepsAll, MovesWhole, StaysIn}
use Rattle.ax_moves.specs.Octets.{value_canon_by}
use Rattle.ax_format.proofs.CanonSpells.{spells_shape}
use Rattle.ax_format.proofs.Namings.{from_place}
use Rattle.ax_format.specs.Canonical.{canon}
use Rattle.ax_format.specs.InBounds.{InBounds}
use Rattle.ax_format.specs.Shape.{Shape}
use Rattle.ax_format.specs.Tree.{KindTree, compound, SlotsTree, slots_of, ValueTree, marked}
use Rattle.ax_format.specs.declared.kind.LastPart.{LastPart}
use Rattle.ax_codec.specs.Meaning.{Meaning, linked_part, linked_slot, linked_slots, meanings}
use Rattle.ax_codec.specs.Table.{IsTable, kind_at, record_kind_at}
use Rattle.ax_codec.specs.declared.node.Node.{Node}
use Rattle.ax_codec.specs.declared.node.Node.TheVariants as Of
use Rattle.ax_walk.proofs.ItemSteps.{is_marked}
use Rattle.ax_walk.proofs.NodeKinds.{is_element, is_group, no_part, is_extended, is_counted, is_by_fx, is_explicit, is_compound}
use Rattle.ax_walk.proofs.Spelled.{value_spelled}
use Rattle.ax_walk.specs.Shown.{item_kind, item_value}
use Rattle.ax_walk.specs.Values.{ItemInBounds, IsItemOf, IsOne, value_in, entries_in}
use Rattle.ax_walk.specs.declared.item.ItemView.{ItemView}

-- ---- leaves

pub leaf_kind : (c : ℕ) (ns : List Node) (link : ℕ) (one : Node) → IsTable ns → 0 < link → link ≤ length ns → one ≡ get_or ns (link - 1) one → (n : Node) → one ≡ n
    → ((w : ℕ) (links : List ℕ) → one ≡ Of.Part w links → ⊥) → ((mask : SlotMask) (links : List ℕ) → one ≡ Of.Compound mask links → ⊥) → ((last : LastPart) (links : List ℕ) → one ≡ Of.Extended last links → ⊥) → IsLeaf c (kind_at ns link)
leaf_kind c ns link one table some within at (Of.Element w) e p d x = subst (IsLeaf c) (sym (is_element ns link one table some within at w e)) tt
leaf_kind c ns link one table some within at (Of.Group w links) e p d x = subst (IsLeaf c) (sym (is_group ns link one table some within at w links e)) tt
leaf_kind c ns link one table some within at (Of.Part w links) e p d x = absurd (p w links e)
leaf_kind c ns link one table some within at (Of.Extended last links) e p d x = absurd (x last links e)
leaf_kind c ns link one table some within at (Of.Counted size inner) e p d x = subst (IsLeaf c) (sym (is_counted ns link one table some within at size inner e)) tt
leaf_kind c ns link one table some within at (Of.ByFx inner) e p d x = subst (IsLeaf c) (sym (is_by_fx ns link one table some within at inner e)) tt
leaf_kind c ns link one table some within at Of.Explicit e p d x = subst (IsLeaf c) (sym (is_explicit ns link one table some within at e)) tt
leaf_kind c ns link one table some within at (Of.Compound mask links) e p d x = absurd (d mask links e)

pub extended_leaf : (c : ℕ) (ns : List Node) (link : ℕ) (one : Node) → IsTable ns → 0 < link → link ≤ length ns → one ≡ get_or ns (link - 1) one → (last : LastPart) (links : List ℕ) → one ≡ Of.Extended last links → length links ≤ c → IsLeaf c (kind_at ns link)
extended_leaf c ns link one table some within at last links e few = subst (IsLeaf c) (sym (is_extended ns link one table some within at last links links e refl)) (omega (arith, few, length-map links (linked_part (meanings ns))))

-- each value of such a kind stays
pub leaf_stays : (c : ℕ) (ns : List Node) (link : ℕ) (ms : MovesTree) → IsLeaf c (kind_at ns link) → MovesWhole ns link c ms
leaf_stays c ns link ms h v bounds = leaf_canon c ms (kind_at ns link) v h

pub move_stays : (slot : ℕ) (k : KindTree) (m : Move) → (out-Move m).old ≡ slot → (out-Move m).new ≡ slot → IsLeaf (out-Move m).parts k → StaysIn slot k (move_tree m)
move_stays slot k m e f h = subst (StaysIn slot k) (sym (fold_out-Move MoveTree move_step m)) (e, f, h)

-- ---- slots

-- what is left decides whether all stays
abbrev pub LeftKeeps : List Node → List ℕ → List Move → ℕ → ℕ → Type 0
LeftKeeps nodes links moves index next =
    KeepsAll (index + 1) (slots_of (map (linked_slot (meanings nodes)) (drop index links))) (moves_tree (drop next moves)) → KeepsAll 1 (slots_of (map (linked_slot (meanings nodes)) links)) (moves_tree moves)

spare_keeps : (ms : List Meaning) (t link : ℕ) (links : List ℕ) (moves : MovesTree) → link ≡ 0 → KeepsAll (t + 1) (slots_of (map (linked_slot ms) links)) moves → KeepsAll t (slots_of (map (linked_slot ms) (link ∷ links))) moves
spare_keeps ms t zero links moves e h = h
spare_keeps ms t (suc i) links moves e h = absurd (omega arith)

sub_keeps : (nodes : List Node) (t link : ℕ) (links : List ℕ) (m : Move) (moves : List Move) → 0 < link → StaysIn t (kind_at nodes link) (move_tree m)
    → KeepsAll (t + 1) (slots_of (map (linked_slot (meanings nodes)) links)) (moves_tree moves) → KeepsAll t (slots_of (map (linked_slot (meanings nodes)) (link ∷ links))) (moves_tree (m ∷ moves))
unfolding kind_at
sub_keeps nodes t zero links m moves some s h = absurd (omega arith)
sub_keeps nodes t (suc i) links m moves some s h = (s, h)

module _ (nodes : List Node) (links : List ℕ) (moves : List Move) (index next : ℕ) (within : index < length links) (h : LeftKeeps nodes links moves index next) where
  rest_is : drop index links ≡ get_or links index 0 ∷ drop (index + 1) links
  rest_is = from_place links index (get_or links index 0) within (get_or_default links index 0 (get_or links index 0) within)

  pub spare_next : get_or links index 0 ≡ 0 → LeftKeeps nodes links moves (index + 1) next
  spare_next e k = h (subst (λ xs. KeepsAll (index + 1) (slots_of (map (linked_slot (meanings nodes)) xs)) (moves_tree (drop next moves))) (sym rest_is) (spare_keeps (meanings nodes) (index + 1) (get_or links index 0) (drop (index + 1) links) (moves_tree (drop next moves)) e k))

  pub sub_next : (m : Move) → next < length moves → m ≡ get_or moves next m → 0 < get_or links index 0 → StaysIn (index + 1) (kind_at nodes (get_or links index 0)) (move_tree m) → LeftKeeps nodes links moves (index + 1) (next + 1)
  sub_next m few is some s k =
      let moved = from_place moves next m few is in
      h (subst (λ xs. KeepsAll (index + 1) (slots_of (map (linked_slot (meanings nodes)) xs)) (moves_tree (drop next moves))) (sym rest_is)
      (subst (λ xs. KeepsAll (index + 1) (slots_of (map (linked_slot (meanings nodes)) (get_or links index 0 ∷ drop (index + 1) links))) (moves_tree xs)) (sym moved)
      (sub_keeps nodes (index + 1) (get_or links index 0) (drop (index + 1) links) m (drop (next + 1) moves) some s k)))

pub keeps_last : (nodes : List Node) (links : List ℕ) (moves : List Move) (index next : ℕ) → length links ≤ index → length moves ≤ next → LeftKeeps nodes links moves index next → KeepsAll 1 (slots_of (map (linked_slot (meanings nodes)) links)) (moves_tree moves)
keeps_last nodes links moves index next past end h =
    h (subst (λ xs. KeepsAll (index + 1) (slots_of (map (linked_slot (meanings nodes)) xs)) (moves_tree (drop next moves))) (sym (drop_all index links past))
    (subst (λ (ms : List Move). KeepsAll (index + 1) (slots_of (map (linked_slot (meanings nodes)) [])) (moves_tree ms)) (sym (drop_all next moves end)) tt))

-- ---- a compound

marked_stays : (ss : SlotsTree) (ms : MovesTree) → KeepsAll 1 ss ms → (c : ℕ) (v : ValueTree) → InBounds (compound ss) → Shape (compound ss) v → value_canon_by c ms (compound ss) v ≡ canon (compound ss) v
marked_stays ss ms keeps c (marked es) bounds shape = whole_stays ss ms es keeps shape bounds.0 bounds.1
marked_stays ss ms keeps c _ bounds shape = absurd shape

pub kind_stays : (ns : List Node) (link : ℕ) (one : Node) → IsTable ns → 0 < link → link ≤ length ns → one ≡ get_or ns (link - 1) one → (ms : MovesTree) (mask : SlotMask) (links found : List ℕ) → one ≡ Of.Compound mask links → found ≡ links
    → KeepsAll 1 (slots_of (linked_slots (meanings ns) found)) ms → (c : ℕ) → MovesWhole ns link c ms
unfolding record_kind_at
kind_stays ns link one table some within at ms mask links found e f keeps c v bounded shape =
    let kind : kind_at ns link ≡ record_kind_at ns found = is_compound ns link one table some within at mask links found e f in
    subst (λ x. value_canon_by c ms x v ≡ canon x v) (sym kind) (marked_stays (slots_of (linked_slots (meanings ns) found)) ms keeps c v (subst InBounds kind bounded) (subst (λ x. Shape x v) kind shape))

module _ (item : ItemView) (one : Node) (at : one ≡ get_or item.codec.now.nodes (item.link - 1) one) where
  pub compound_stays : (ms : MovesTree) (mask : SlotMask) (links found : List ℕ) → one ≡ Of.Compound mask links → found ≡ links → item.by_fx ≡ false → KeepsAll 1 (slots_of (linked_slots (meanings item.codec.now.nodes) found)) ms
      → (c : ℕ) → value_canon_by c ms (item_kind item) (item_value item) ≡ canon (item_kind item) (item_value item)
  unfolding record_kind_at
  compound_stays ms mask links found e f whole keeps c =
      let ns = item.codec.now.nodes in
      let body = item.body.now in
      let k = record_kind_at ns found in
      let kind : item_kind item ≡ record_kind_at ns found = is_compound ns item.link one item.codec.now.table item.item.some item.item.within at mask links found e f in
      let bounds = subst InBounds kind (subst (λ fx. ItemInBounds fx (item_kind item)) whole item.item.bounds) in
      let own = subst (λ x. IsOne x body) kind (subst (λ fx. IsItemOf fx (item_kind item) body) whole item.item.one) in
      let es = entries_in (value_in k body) in
      let is = is_marked ns found body in
      let shape = subst (Shape k) is (spells_shape k (value_in k body) (bits body) (value_spelled k body bounds own)) in
      let stays = whole_stays (slots_of (linked_slots (meanings ns) found)) ms es keeps shape bounds.0 bounds.1 in
      subst (λ x. value_canon_by c ms x (value_in x body) ≡ canon x (value_in x body)) (sym kind) (ap (value_canon_by c ms k) is ∙ stays ∙ sym (ap (canon k) is))

  -- a value that is neither a compound nor extended
  pub leaf_canon_by : (c : ℕ) (ms : MovesTree) → item.by_fx ≡ false → ((mask : SlotMask) (links : List ℕ) → one ≡ Of.Compound mask links → ⊥) → ((last : LastPart) (links : List ℕ) → one ≡ Of.Extended last links → ⊥)
      → value_canon_by c ms (item_kind item) (item_value item) ≡ canon (item_kind item) (item_value item)
  leaf_canon_by c ms whole d x =
      let ns = item.codec.now.nodes in
      let table = item.codec.now.table in
      let leaf = leaf_kind c ns item.link one table item.item.some item.item.within at one refl (λ w links e. no_part item.by_fx ns item.link one table item.item.some item.item.within at w links e item.item.bounds) d x in
      let bounds = subst (λ fx. ItemInBounds fx (item_kind item)) whole item.item.bounds in
      let own = subst (λ fx. IsItemOf fx (item_kind item) item.body.now) whole item.item.one in
      leaf_stays c ns item.link ms leaf (item_value item) bounds (spells_shape (item_kind item) (item_value item) (bits item.body.now) (value_spelled (item_kind item) item.body.now bounds own))
