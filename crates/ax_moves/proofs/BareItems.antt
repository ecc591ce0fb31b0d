-- Which subitems a compound has, by its presence field alone.
use Rattle.std.proofs.Common.{◌≡◌, ℕ, zero, suc, ◌+◌, ◌-◌, ◌<◌, ◌==◌, List, [], ◌∷◌, ◌++◌, length, get_or, true, false, Option, Some, None, IfNone, is_some, refl, sym, ◌∙◌, ap, arith, subst, append-nil}
use Rattle.ax_bits.specs.Bits.{AreBits, bits}
use Rattle.ax_fspec.proofs.Walks.{no_next_slot}
use Rattle.ax_fspec.specs.Fields.{MarksSlots, least_field}
use Rattle.ax_fspec.specs.Marks.{IsMarked, common_marks, no_marks, slots_of}
use Rattle.ax_fspec.specs.declared.mask.SlotMask.{SlotMask}
use Rattle.ax_format.proofs.Places.{none_marked_at}
use Rattle.ax_format.specs.At.{slot_value}
use Rattle.ax_format.specs.Reader.{both}
use Rattle.ax_format.specs.Tree.{marked, EntriesTree}
use Rattle.ax_format.specs.Tree as Tree
use Rattle.ax_fspec.proofs.Marking.{marks_bits}
use Rattle.ax_fspec.specs.Reading.{entries_at}
use Rattle.ax_relation.specs.Moves.{MoveTree, move_from, MovesTree}
use Rattle.ax_moves.proofs.Entries.{record_canon}
use Rattle.ax_moves.proofs.PlacesThere.{all_absent_canon, all_absent_marks}
use Rattle.ax_moves.proofs.TellingSteps.{all_passed, none_shared, run_there}
use Rattle.ax_moves.specs.Bare.{HasNoneOf, HasOnly, IsBare}
use Rattle.ax_moves.specs.KnownMoves.{IsAbsent, move_at}
use Rattle.ax_moves.specs.Lost.{AreRuns, KeyRuns, IsPassed, losses_below}
use Rattle.ax_moves.specs.Octets.{field_by, entries_canon_by, value_canon_by}
use Rattle.ax_moves.specs.Wholes.{slots_in}
use Rattle.ax_moves.specs.declared.lost.LostKey.{LostKey}
use Rattle.ax_moves.specs.declared.lost.Run.{Run}
use Rattle.ax_codec.specs.Meaning.{meanings, linked_slots}
use Rattle.ax_codec.specs.Table.{record_kind_at}
use Rattle.ax_codec.specs.declared.node.Node.{Node}
use Rattle.ax_codec.specs.declared.node.Node.TheVariants as Of
use Rattle.ax_walk.proofs.EarlyItems.{not_read}
use Rattle.ax_walk.proofs.Found.{compound_one, entries_are}
use Rattle.ax_walk.proofs.ItemSteps.{is_marked}
use Rattle.ax_walk.proofs.NodeKinds.{compound_mask, is_compound}
use Rattle.ax_walk.specs.Shown.{item_value}
use Rattle.ax_walk.specs.Values.{entries_in, value_in}
use Rattle.ax_walk.specs.declared.item.ItemView.{ItemView}

-- ---- slots that aren't marked have no entry

bit_at : (ms : List ℕ) (i : ℕ) → AreBits ms → get_or ms i 0 < 2
bit_at [] i h = omega arith
bit_at (m ∷ ms) zero h = h.0
bit_at (m ∷ ms) (suc i) h = bit_at ms i h.1

zero_at : (m : ℕ) → m < 2 → (m ≡ 1 → ⊥) → m ≡ 0
zero_at zero lt d = refl
zero_at (suc zero) lt d = absurd (d refl)
zero_at (suc (suc m)) lt d = absurd (omega arith)

pub none_there : (ms : List ℕ) (s : ℕ) → AreBits ms → (IsMarked ms s → ⊥) → (i : ℕ) → s ≡ 1 + i → get_or ms i 0 ≡ 0
none_there ms s bit not i e =
    zero_at (get_or ms i 0) (bit_at ms i bit) (λ one. not (omega (arith, e), ap (λ j. get_or ms j 0) (let f : s - 1 ≡ i = omega (arith, e) in f) ∙ one))

pub has_only : (item : ItemView) (one : Node) → one ≡ get_or item.codec.now.nodes (item.link - 1) one → (mask : SlotMask) (links octets marks : List ℕ) (here : ℕ) → one ≡ Of.Compound mask links → octets ≡ item.body.now → MarksSlots mask octets 0 here marks → HasOnly item marks
unfolding entries_at value_in
has_only item one at mask links octets marks here e body h =
    let ns = item.codec.now.nodes in
    let own = compound_mask ns item.link one item.codec.now.table item.item.some item.item.within at mask links links e refl in
    let read_here = subst (λ x. MarksSlots mask x 0 here marks) body h in
    let whole = compound_one item.codec.now item.link item.by_fx item.body.now one item.item at mask links links e refl in
    let kind = is_compound ns item.link one item.codec.now.table item.item.some item.item.within at mask links links e refl in
    let es = entries_in (value_in (record_kind_at ns links) item.body.now) in
    let are = entries_are ns links mask item.body.now own whole marks here read_here in record {
      links = links;
      kind = kind;
      entries = es;
      value = ap (λ k. value_in k item.body.now) kind ∙ is_marked ns links item.body.now;
      others = λ s not. ap (slot_value s) (sym are) ∙ not_read 1 (Tree.slots_of (linked_slots (meanings ns) links)) marks _ s (none_there marks s (marks_bits mask item.body.now marks 0 here read_here) not);
      size = h.size;
    }

-- ---- no subitems

pub unmarked : (marks : List ℕ) → slots_of marks ≡ [] → (s : ℕ) → IsMarked marks s → ⊥
unmarked marks e s m =
    let none = no_next_slot 1 marks e in
    let z = none_marked_at marks (s - 1) none in let one = m.1 in omega arith

pub absent : (es : EntriesTree) → ((s : ℕ) → slot_value s es ≡ None) → (o : Option MoveTree) → IsAbsent es o
absent es none None = tt
absent es none (Some (move_from s t c below)) = none s

field_none : least_field no_marks ≡ bits (0 ∷ [])
unfolding least_field no_marks
field_none = refl

nothing_moves : (ms : MovesTree) (nodes : List Node) (links : List ℕ) (es : EntriesTree) → ((s : ℕ) → slot_value s es ≡ None) → field_by ms es ++ entries_canon_by ms (slots_in (record_kind_at nodes links)) es ≡ bits (0 ∷ [])
nothing_moves ms nodes links es none =
    let field : field_by ms es ≡ bits (0 ∷ []) = ap least_field (all_absent_marks ms es no_marks (λ i. absent es none (move_at i ms))) ∙ field_none in
    let rest = all_absent_canon ms (slots_in (record_kind_at nodes links)) es (λ i. absent es none (move_at i ms)) in
    (λ i. field i ++ rest i) ∙ append-nil (bits (0 ∷ []))

bare : (item : ItemView) (marks : List ℕ) → HasOnly item marks → slots_of marks ≡ [] → IsBare item
bare item marks h none c ms =
    let nodes = item.codec.now.nodes in
    (λ i. value_canon_by c ms (h.kind i) (h.value i)) ∙ sym (record_canon ms nodes h.links h.entries) ∙ nothing_moves ms nodes h.links h.entries (λ s. h.others s (unmarked marks none s))

pub has_none : (item : ItemView) (marks : List ℕ) (o : Option ℕ) → HasOnly item marks → IfNone o (slots_of marks ≡ []) → is_some o ≡ false → IsBare item
has_none item marks None h none is = bare item marks h none
has_none item marks (Some s) h none is = absurd (let no : true ≡ false = is in cc)

pub none_of : (item : ItemView) (marks slots both : List ℕ) (o : Option ℕ) → HasOnly item marks → both ≡ common_marks marks slots → IfNone o (slots_of both ≡ []) → is_some o ≡ false → HasNoneOf item slots
none_of item marks slots both None h e none is = record { marks = marks; only = h; apart = none_shared marks slots both e none }
none_of item marks slots both (Some s) h e none is = absurd (let no : true ≡ false = is in cc)

-- ---- what is lost of it

pub some_there : (keys : List LostKey) → (length keys == 0) ≡ false → 0 < length keys
some_there [] e = absurd (let no : true ≡ false = e in cc)
some_there (k ∷ keys) e = omega arith

-- nothing of keys that are below other slots, by what is known of the first and those behind
pub only_loses : (item : ItemView) (d : ℕ) (keys : List LostKey) (k : LostKey) (r : Run) (marks : List ℕ) → HasOnly item marks → AreRuns keys → 0 < length keys → k ≡ get_or keys 0 k → d < length k.runs.items → r ≡ get_or k.runs.items d r → IsPassed r (length keys - 1) marks
    → (n : ℕ) → losses_below n d (item_value item) keys ≡ []
only_loses item d [] k r marks h runs some first within is passed n = absurd (omega (arith, some))
only_loses item d (x ∷ later) k r marks h runs some first within is passed n =
    let e : x ∷ later ≡ k ∷ later = ap (λ y. y ∷ later) (sym first) in
    let own : KeyRuns k later = subst (λ y. KeyRuns y later) (sym first) runs.0 in
    let behind : length (x ∷ later) - 1 ≡ length later = omega arith in
    ap (λ v. losses_below n d v (x ∷ later)) h.value
    ∙ all_passed n d h.entries (x ∷ later) later k e r (run_there k later d r own within is) marks h.others (subst (λ m. IsPassed r m marks) behind passed)
