-- Which subitems may not remain, and compounds without these.
use Rattle.std.proofs.Common.{◌≡◌, ℕ, zero, suc, ◌+◌, ◌-◌, ◌<◌, ◌≤◌, ◌⊎◌, inl, inr, Bool, false, IsTrue, List, [], ◌∷◌, ◌++◌, length, map, get_or, set, Option, Some, None, IfSome, sym, ◌∙◌, ap, arith, subst, length-append}
use Rattle.std.proofs.lemmas.Bool.{cases_eq}
use Rattle.std.proofs.lemmas.List.{get_or-set_other, get_or-set_same, get_or_append_left, get_or_at, get_or_default, length-set}
use Rattle.ax_bits.specs.Bits.{bits}
use Rattle.ax_fspec.specs.Marks.{IsMarked, no_marks}
use Rattle.ax_fspec.specs.declared.mask.SlotMask.{SlotMask}
use Rattle.ax_relation.specs.Moves.{move_from, MovesTree}
use Rattle.ax_relation.specs.PlainMoves.{move_tree, moves_tree}
use Rattle.ax_relation.specs.declared.moves.Move.{Move, out-Move}
use Rattle.ax_moves.proofs.Entries.{move_is}
use Rattle.ax_moves.proofs.KeptSlots.{stays_there}
use Rattle.ax_moves.proofs.MovedMarks.{size_none}
use Rattle.ax_moves.proofs.MovesBySlot.{found_from, place_found, tree_at}
use Rattle.ax_moves.proofs.SubitemsStay.{remaining_stay}
use Rattle.ax_moves.specs.BySlot.{IsFrom, StayInSlots, found_canon, found_move, place_from}
use Rattle.ax_moves.specs.Lost.{NoneShared}
use Rattle.ax_moves.specs.Octets.{value_canon_by}
use Rattle.ax_moves.specs.Subitems.{LacksIn, OthersAre, OthersRemain, StayWithout, StaysWithout}
use Rattle.ax_moves.specs.Wholes.{whole_entries, whole_slots}
use Rattle.ax_format.proofs.CanonSpells.{spells_shape}
use Rattle.ax_format.specs.At.{slot_value}
use Rattle.ax_format.specs.Canonical.{canon}
use Rattle.ax_format.specs.InBounds.{InBounds}
use Rattle.ax_format.specs.Shape.{Shape}
use Rattle.ax_format.specs.Tree.{slots_of, marked, EntriesTree}
use Rattle.ax_codec.specs.Meaning.{linked_slots, meanings}
use Rattle.ax_codec.specs.Table.{IsTable, SlotLinksWithin, kind_at, record_kind_at}
use Rattle.ax_codec.specs.declared.node.Node.{Node}
use Rattle.ax_codec.specs.declared.node.Node.TheVariants as Of
use Rattle.ax_walk.proofs.NodeKinds.{is_compound}
use Rattle.ax_walk.proofs.Spelled.{value_spelled}
use Rattle.ax_walk.specs.Placing.{HoldsValue, window_octets, window_value}
use Rattle.ax_walk.specs.Values.{IsOne, value_in}
use Rattle.ax_walk.specs.declared.places.PlacedSlots.{PlacedSlots}
use Rattle.ax_walk.specs.declared.places.Window.{Window}

-- ---- one slot

pub link_within : (n : ℕ) (links : List ℕ) (i : ℕ) → SlotLinksWithin n links → get_or links i 0 ≤ n
link_within n [] i h = omega arith
link_within n (l ∷ links) zero h = h.0
link_within n (l ∷ links) (suc i) h = link_within n links i h.1

-- the first move from a slot, by its place
pub place_there : (moves : List Move) (slot place : ℕ) → place ≡ place_from 1 slot (moves_tree moves) → 0 < place → (one : Move) → one ≡ get_or moves (place - 1) one → place - 1 < length moves → found_move slot (moves_tree moves) ≡ Some (move_tree one)
place_there moves slot place is some one at within =
    (place_found 1 slot (map move_tree moves) (place - 1) (omega arith) (sym is ∙ (let e : place ≡ 1 + (place - 1) = omega (arith, some) in e))).1 (move_tree one) (tree_at moves (place - 1) one within at)

pub stays_as : (moves : List Move) (slot : ℕ) (one : Move) → found_move slot (moves_tree moves) ≡ Some (move_tree one) → (out-Move one).new ≡ slot → found_move slot (moves_tree moves) ≡ Some (move_from slot slot (out-Move one).parts (moves_tree (out-Move one).below))
stays_as moves slot one found new =
    let m = out-Move one in
    let old : m.old ≡ slot = subst (IsFrom slot) (move_is one) (found_from slot (moves_tree moves) (move_tree one) found) in
    found ∙ ap (λ t. Some t) (move_is one) ∙ (λ i. Some (move_from (old i) (new i) m.parts (moves_tree m.below)))

-- ---- one slot after the other

pub none_leave : (P : ℕ → Type 0) (leaving : List ℕ) → leaving ≡ no_marks → OthersAre P 1 leaving
none_leave P leaving e = record { size = ap length e ∙ size_none; at = λ s some lt. absurd (omega (arith, some, lt)) }

pub leave_next : (P : ℕ → Type 0) (n : ℕ) (leaving new : List ℕ) → 1 ≤ n → n ≤ 126 → OthersAre P n leaving → new ≡ set leaving (n - 1) 1 → OthersAre P (n + 1) new
leave_next P n leaving new some few h put = record {
  size = ap length put ∙ length-set leaving (n - 1) 1 ∙ h.size;
  at = λ s one lt not. by s one lt not (cases_eq s n);
}
  where
    mark : get_or new (n - 1) 0 ≡ 1
    mark = ap (λ x. get_or x (n - 1) 0) put ∙ get_or-set_same leaving (n - 1) 1 0 (omega (arith, some, few, h.size))

    by : (s : ℕ) → 1 ≤ s → s < n + 1 → (IsMarked new s → ⊥) → (s ≡ n) ⊎ (s ≡ n → ⊥) → P s
    by s one lt not (inl e) = absurd (not (omega (arith, one), ap (λ k. get_or new (k - 1) 0) e ∙ mark))
    by s one lt not (inr d) =
        h.at s one (omega (arith, lt, d)) (λ m. not (m.0, ap (λ x. get_or x (s - 1) 0) put ∙ get_or-set_other leaving (n - 1) (s - 1) 1 0 (λ f. d (omega (arith, some, one, f))) ∙ m.1))

pub remain_next : (P : ℕ → Type 0) (n : ℕ) (leaving : List ℕ) → OthersAre P n leaving → P n → OthersAre P (n + 1) leaving
remain_next P n leaving h own = record {
  size = h.size;
  at = λ s one lt not. by s one lt not (cases_eq s n);
}
  where
    by : (s : ℕ) → 1 ≤ s → s < n + 1 → (IsMarked leaving s → ⊥) → (s ≡ n) ⊎ (s ≡ n → ⊥) → P s
    by s one lt not (inl e) = subst P (sym e) own
    by s one lt not (inr d) = h.at s one (omega (arith, lt, d)) not

pub none_without : (nodes : List Node) (links : List ℕ) (moves : List Move) (leaving : List (Option (List ℕ))) → leaving ≡ [] → StayWithout nodes links moves 0 leaving
none_without nodes links moves leaving e = record { size = ap length e; at = λ s lt. absurd (omega (arith, lt)) }

pub without_next : (nodes : List Node) (links : List ℕ) (moves : List Move) (n : ℕ) (leaving new : List (Option (List ℕ))) (one : Option (List ℕ)) → StayWithout nodes links moves n leaving → new ≡ leaving ++ one ∷ [] → IfSome one (StaysWithout nodes links (moves_tree moves) n)
    → StayWithout nodes links moves (n + 1) new
without_next nodes links moves n leaving new one h put own = record {
  size = ap length put ∙ length-append leaving (one ∷ []) ∙ (let e : length leaving + 1 ≡ n + 1 = omega (arith, h.size) in e);
  at = λ s lt. subst (Says s) (ap (λ x. get_or x s None) (sym put)) (by s (cases_eq s n) lt);
}
  where
    Says : ℕ → Option (List ℕ) → Type 0
    Says s o = IfSome o (StaysWithout nodes links (moves_tree moves) s)

    by : (s : ℕ) → (s ≡ n) ⊎ (s ≡ n → ⊥) → s < n + 1 → Says s (get_or (leaving ++ one ∷ []) s None)
    by s (inl e) lt =
        let is : get_or (leaving ++ one ∷ []) s None ≡ one = get_or_at leaving one [] None s (h.size ∙ sym e) in
        subst (Says s) (sym is) (subst (λ k. Says k one) (sym e) own)
    by s (inr d) lt =
        let less : s < n = omega (arith, lt, d) in
        subst (Says s) (sym (get_or_append_left leaving (one ∷ []) None s (omega (arith, h.size, less)))) (h.at s less)

pub ruleset leaving = (none_without, without_next)

-- ---- a compound

pub subitems_stay : (ns : List Node) (link : ℕ) (one : Node) → IsTable ns → 0 < link → link ≤ length ns → one ≡ get_or ns (link - 1) one → (ms : MovesTree) (mask : SlotMask) (links found : List ℕ) → one ≡ Of.Compound mask links → found ≡ links
    → (leaving : List ℕ) → OthersRemain ns found ms 127 leaving → (c : ℕ) (octets marks : List ℕ) (entries : EntriesTree) → InBounds (kind_at ns link) → IsOne (kind_at ns link) octets → value_in (kind_at ns link) octets ≡ marked entries
    → length marks ≡ 126 → ((t : ℕ) → (IsMarked marks t → ⊥) → slot_value t entries ≡ None) → NoneShared marks leaving → value_canon_by c ms (kind_at ns link) (value_in (kind_at ns link) octets) ≡ canon (kind_at ns link) (value_in (kind_at ns link) octets)
unfolding record_kind_at
subitems_stay ns link one table some within at ms mask links found e f leaving h c octets marks entries bounded whole is size others apart =
    let k = record_kind_at ns found in
    let kind : kind_at ns link ≡ record_kind_at ns found = is_compound ns link one table some within at mask links found e f in
    let bounds = subst InBounds kind bounded in
    let own = subst (λ x. IsOne x octets) kind whole in
    let value : value_in k octets ≡ marked entries = ap (λ x. value_in x octets) (sym kind) ∙ is in
    let shape = subst (Shape k) value (spells_shape k (value_in k octets) (bits octets) (value_spelled k octets bounds own)) in
    let stays = remaining_stay (slots_of (linked_slots (meanings ns) found)) ms entries marks leaving size others apart h.at shape bounds.0 bounds.1 in
    subst (λ x. value_canon_by c ms x (value_in x octets) ≡ canon x (value_in x octets)) (sym kind) (ap (value_canon_by c ms k) value ∙ stays ∙ sym (ap (canon k) value))

-- what the move makes of a value that stays
pub copied_there : (w : PlacedSlots) (moves : List Move) (stays : List Bool) (leaving : List (Option (List ℕ))) (slot : ℕ) (window : Window) (set : Option (List ℕ)) → StayInSlots w.codec.now.nodes w.slots.now moves 127 stays → StayWithout w.codec.now.nodes w.slots.now moves 127 leaving
    → set ≡ get_or leaving slot set → HoldsValue w.codec.now.nodes w.slots.now w.body.now slot window → slot_value slot (whole_entries w) ≡ Some (window_value w.codec.now.nodes w.slots.now w.body.now slot window) → IsTrue window.least
    → IsTrue (get_or stays slot false) ⊎ LacksIn w slot set → found_canon (found_move slot (moves_tree moves)) (whole_slots w) (whole_entries w) ≡ bits (window_octets window w.body.now)
copied_there w moves stays leaving slot window set stay known at there value least (inl said) = stays_there w moves stays slot window stay there value least said
copied_there w moves stays leaving slot window set stay known at there value least (inr l) =
    let ns = w.codec.now.nodes in
    let v = window_value ns w.slots.now w.body.now slot window in
    let here : get_or leaving slot None ≡ Some l.leaving = get_or_default leaving slot None set (omega (arith, known.size, there.small)) ∙ sym at ∙ l.is in
    let own : StaysWithout ns w.slots.now (moves_tree moves) slot l.leaving = subst (λ (o : Option (List ℕ)). IfSome o (StaysWithout ns w.slots.now (moves_tree moves) slot)) here (known.at slot there.small) in
    let same : Some v ≡ Some (marked l.entries) = sym value ∙ l.value in
    let is : v ≡ marked l.entries = cc in
    own (whole_entries w) l.entries (window_octets window w.body.now) l.marks there.link there.bounds there.one is l.size l.others l.apart value ∙ there.least least
