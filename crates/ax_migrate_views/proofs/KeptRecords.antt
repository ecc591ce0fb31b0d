-- A record of which each item stays is its own migrated one, and loses nothing.
use Rattle.std.proofs.Common.{◌≡◌, ℕ, zero, suc, ◌+◌, ◌-◌, ◌*◌, ◌<◌, ◌≤◌, ◌⊎◌, inl, inr, Bool, false, IsTrue, Option, Some, None, IfSome, IfNone, is_some, true, List, [], ◌∷◌, ◌++◌, drop, get_or, set, refl, sym, ◌∙◌, ap, arith, subst}
use Rattle.std.proofs.lemmas.Bool.{cases_eq}
use Rattle.std.proofs.lemmas.List.{get_or-set_other}
use Rattle.ax_bits.specs.Bits.{bits}
use Rattle.ax_fspec.specs.Fields.{MarksSlots}
use Rattle.ax_fspec.specs.Marks.{IsMarked, common_marks, slots_of}
use Rattle.ax_format.proofs.CanonSpells.{spells_shape}
use Rattle.ax_format.specs.At.{slot_value}
use Rattle.ax_format.specs.Canonical.{canon}
use Rattle.ax_format.specs.InBounds.{InBounds, SlotsInBounds}
use Rattle.ax_format.specs.Lengths.{kind_after}
use Rattle.ax_format.specs.Placed.{has_part, has_part_where}
use Rattle.ax_format.specs.Reader.{Read, got, failed, after}
use Rattle.ax_format.specs.Shape.{Shape}
use Rattle.ax_format.specs.Tree.{KindTree, SlotsTree, no_slots, slot_and, spare_slot, subitem, ValueTree, marked, EntriesTree}
use Rattle.ax_format.specs.Tree as Tree
use Rattle.ax_moves.proofs.BareItems.{none_there, unmarked}
use Rattle.ax_moves.proofs.ItemParts.{few_canon, few_octets}
use Rattle.ax_moves.proofs.LostRuns.{below_none, below_there, no_loss, record_lost}
use Rattle.ax_moves.proofs.Slots.{table_kind}
use Rattle.ax_moves.proofs.SubitemsStay.{RemainsHere, is_few, is_in, those_stay}
use Rattle.ax_moves.proofs.TellingSteps.{none_shared}
use Rattle.ax_moves.proofs.ToldLines.{told_nothing}
use Rattle.ax_migration.specs.Finding.{record_losses}
use Rattle.ax_migration.specs.Losing.{lost_lines}
use Rattle.ax_moves.specs.BySlot.{ascends, run_octets}
use Rattle.ax_migrate_views.specs.Kept.{HasFew, HasFewThere, IsElsewhere, IsKeptAt, IsKeptRecord, IsPast, IsPastPart, KeepsRecords, OfEach, OthersStay, ShortStay, StaysShort}
use Rattle.ax_moves.specs.Laying.{Gathers}
use Rattle.ax_moves.specs.Lost.{AreRuns, LeadsBy, is_below, key_path, key_paths, losses_below}
use Rattle.ax_moves.specs.Octets.{canon_by, value_canon_by}
use Rattle.ax_moves.specs.Wholes.{slots_in}
use Rattle.ax_migrate_views.specs.declared.kept.KeptSlots.{KeptSlots}
use Rattle.ax_moves.specs.declared.lost.LostKey.{LostKey}
use Rattle.ax_fspec.proofs.Marking.{field_read, marks_bits}
use Rattle.ax_fspec.specs.Reading.{Gets, entries_at, kind_read}
use Rattle.ax_relation.specs.Moves.{MovesTree}
use Rattle.ax_relation.specs.PlainMoves.{moves_tree}
use Rattle.ax_relation.specs.Standing.{value_below}
use Rattle.ax_relation.specs.declared.moves.Move.{Move}
use Rattle.ax_relation.specs.declared.relation.RelationPath.{RelationPath}
use Rattle.ax_codec.specs.Meaning.{linked_slots, meanings}
use Rattle.ax_codec.specs.Table.{kind_at, record_kind_at}
use Rattle.ax_codec.specs.declared.codec.Codec.{Codec}
use Rattle.ax_codec.specs.declared.node.Node.{Node}
use Rattle.ax_walk.proofs.EarlyItems.{not_read}
use Rattle.ax_walk.proofs.ItemSteps.{is_marked}
use Rattle.ax_walk.proofs.Spelled.{value_spelled}
use Rattle.ax_walk.specs.Noted.{IsLeastRecord}
use Rattle.ax_walk.specs.Placing.{entries_there}
use Rattle.ax_walk.specs.RecordsAt.{IsRecordAt}
use Rattle.ax_walk.specs.Shown.{item_kind, item_value}
use Rattle.ax_walk.specs.Values.{IsRecord, entries_found, entries_in, value_in, value_read}
use Rattle.ax_walk.specs.declared.record.RecordView.{RecordView}

-- ---- the kind of a slot

slot_bounds : (ss : SlotsTree) (i : ℕ) (k : KindTree) → kind_after i ss ≡ Some k → SlotsInBounds ss → InBounds k
slot_bounds no_slots i k e h = absurd (let no : None ≡ Some k = e in cc)
slot_bounds (slot_and spare_slot ss) zero k e h = absurd (let no : None ≡ Some k = e in cc)
slot_bounds (slot_and spare_slot ss) (suc i) k e h = slot_bounds ss i k e h
slot_bounds (slot_and (subitem name l) ss) zero k e h = subst InBounds (let same : l ≡ k = cc in same) h.0
slot_bounds (slot_and (subitem name l) ss) (suc i) k e h = slot_bounds ss i k e h.1

kind_bounds : (nodes : List Node) (links : List ℕ) (s : ℕ) → InBounds (record_kind_at nodes links) → 0 < get_or links (s - 1) 0 → InBounds (kind_at nodes (get_or links (s - 1) 0))
unfolding record_kind_at
kind_bounds nodes links s bounds some =
    let link = get_or links (s - 1) 0 in
    slot_bounds (Tree.slots_of (linked_slots (meanings nodes) links)) (s - 1) (kind_at nodes link) (table_kind nodes links (s - 1) link refl some) bounds.2

-- ---- records

module _ (codec : Codec) (ms : MovesTree) (keys : List LostKey) (kept : KeptSlots) (all : OthersStay codec.nodes codec.slots ms keys 127 kept.leaving) (short : ShortStay codec.nodes codec.slots ms keys 127 kept.short.items)
    (octets : List ℕ) (es : EntriesTree) (h : IsKeptRecord codec kept octets es) where
  abbrev link_of : ℕ → ℕ
  link_of s = get_or codec.slots (s - 1) 0

  abbrev ss : SlotsTree
  ss = slots_in (record_kind_at codec.nodes codec.slots)

  -- the item of a slot that is short
  module _ (s : ℕ) (own : IsMarked h.marks s) (f : HasFew codec es s (get_or kept.short.items s 0)) where
    short_slot : IsTrue (ascends 1 ms) × StaysShort codec.nodes codec.slots ms s (get_or kept.short.items s 0) × OfEach (IsPast s (get_or kept.short.items s 0)) keys
    short_slot = short.at s (is_few h.marks s h.size own) (omega (arith, f.few))

    item_node : StaysShort codec.nodes codec.slots ms s (get_or kept.short.items s 0) → (Node)
    item_node t = t.node

    kind_is : item_kind f.item ≡ kind_at codec.nodes (link_of s)
    kind_is = λ i. kind_at (f.slot.codec_is i).nodes (f.slot.link_is i)

    short_here : RemainsHere ss ms es s
    short_here =
        let t = short_slot.1 in record {
          parts = t.parts;
          below = t.below;
          kind = kind_at codec.nodes (link_of s);
          found = t.own.found;
          is = table_kind codec.nodes codec.slots (s - 1) (link_of s) refl t.own.some;
          whole = λ v e shape. (
              let same : Some (item_value f.item) ≡ Some v = sym f.value ∙ e in
              let value : item_value f.item ≡ v = cc in
              let at : t.node ≡ get_or f.item.codec.now.nodes (f.item.link - 1) t.node = t.at ∙ (λ i. get_or (sym f.slot.codec_is i).nodes (sym f.slot.link_is i - 1) t.node) in
              let own_canon = few_canon f.item t.node at t.last t.part_links t.part_links t.is refl t.parts t.below (omega (arith, f.few, t.few)) in
              subst (λ x. value_canon_by t.parts t.below (kind_at codec.nodes (link_of s)) x ≡ canon (kind_at codec.nodes (link_of s)) x) value
              (subst (λ k. value_canon_by t.parts t.below k (item_value f.item) ≡ canon k (item_value f.item)) kind_is own_canon));
        }

  there : (s : ℕ) → IsMarked h.marks s → IsTrue (ascends 1 ms) × RemainsHere ss ms es s
  there s m = by (is_in kept.leaving s)
    where
      by : IsMarked kept.leaving s ⊎ (IsMarked kept.leaving s → ⊥) → IsTrue (ascends 1 ms) × RemainsHere ss ms es s
      by (inl l) = ((short_slot s m (h.short s m l)).0, short_here s m (h.short s m l))
      by (inr d) =
          let o = all.at s (let some = m.0 in omega (arith, some)) (is_few h.marks s h.size m) d in
          let t = o.1 in (
            o.0,
            record {
              parts = t.parts;
              below = t.below;
              kind = kind_at codec.nodes (link_of s);
              found = t.own.found;
              is = table_kind codec.nodes codec.slots (s - 1) (link_of s) refl t.own.some;
              whole = λ v e shape. t.whole v (kind_bounds codec.nodes codec.slots s codec.records.bounds t.own.some) shape;
            },
          )

  pub record_stays : canon_by ms (record_kind_at codec.nodes codec.slots) (marked es) ≡ canon (record_kind_at codec.nodes codec.slots) (marked es)
  unfolding record_kind_at
  record_stays =
      let k = record_kind_at codec.nodes codec.slots in
      let bounds : InBounds k = codec.records.bounds in
      let shape : Shape k (marked es) = subst (Shape k) h.value (spells_shape k (value_in k octets) (bits octets) (value_spelled k octets bounds h.one)) in
      those_stay (Tree.slots_of (linked_slots (meanings codec.nodes) codec.slots)) ms es h.marks h.others there shape bounds.0 bounds.1

  -- ---- keys

  leads_by : (p : RelationPath) → LeadsBy 0 p.old.frn p
  leads_by p = record { rest = refl }

  no_part : (s n : ℕ) (f : HasFew codec es s n) (o : Option ℕ) → IsPastPart n o → has_part o (item_value f.item) ≡ false
  no_part s n f None past = absurd past
  no_part s n f (Some part) past = few_octets f.item part (omega (arith, f.few, past))

  past_absent : (s n : ℕ) (f : HasFew codec es s n) (p : RelationPath) → p.old.frn ≡ s → (p.old.steps ≡ []) × IsPastPart n p.part → is_below 0 (marked es) p ≡ false
  past_absent s n f p own past =
      let value : slot_value p.old.frn es ≡ Some (item_value f.item) = ap (λ t. slot_value t es) own ∙ f.value in
      below_there 0 p.old.frn p es (item_value f.item) value (leads_by p)
      ∙ ap (λ steps. has_part_where p.part (value_below steps (item_value f.item))) past.0 ∙ no_part s n f p.part past.1

  key_absent : (k : LostKey) → ((s : ℕ) → 1 ≤ s → s < 127 → (IsMarked kept.leaving s → ⊥) → IsElsewhere s k) → ((s : ℕ) → s < 127 → 0 < get_or kept.short.items s 0 → IsPast s (get_or kept.short.items s 0) k) → is_below 0 (marked es) (key_path k) ≡ false
  key_absent k elsewhere past = by (is_in h.marks s) (is_in kept.leaving s)
    where
      p : RelationPath
      p = key_path k

      s : ℕ
      s = p.old.frn

      by : IsMarked h.marks s ⊎ (IsMarked h.marks s → ⊥) → IsMarked kept.leaving s ⊎ (IsMarked kept.leaving s → ⊥) → is_below 0 (marked es) p ≡ false
      by (inr none) l = below_none 0 s p es (h.others s none) (leads_by p)
      by (inl m) (inr d) = absurd (elsewhere s (let some = m.0 in omega (arith, some)) (is_few h.marks s h.size m) d refl)
      by (inl m) (inl l) =
          let f = h.short s m l in
          let some : 0 < get_or kept.short.items s 0 = omega (arith, f.few) in
          past_absent s (get_or kept.short.items s 0) f p refl (past s (is_few h.marks s h.size m) some refl some)

  each_absent : (ks : List LostKey) → ((s : ℕ) → 1 ≤ s → s < 127 → (IsMarked kept.leaving s → ⊥) → OfEach (IsElsewhere s) ks) → ((s : ℕ) → s < 127 → 0 < get_or kept.short.items s 0 → OfEach (IsPast s (get_or kept.short.items s 0)) ks)
      → OfEach (λ k. is_below 0 (marked es) (key_path k) ≡ false) ks
  each_absent [] elsewhere past = tt
  each_absent (k ∷ ks) elsewhere past = (
    key_absent k (λ s some few d. (elsewhere s some few d).0) (λ s few some. (past s few some).0),
    each_absent ks (λ s some few d. (elsewhere s some few d).1) (λ s few some. (past s few some).1),
  )

  pub record_lossless : OfEach (λ k. is_below 0 (marked es) (key_path k) ≡ false) keys
  record_lossless = each_absent keys (λ s some few d. (all.at s some few d).2) (λ s few some. (short.at s few some).2)

pub keeps_records : (codec : Codec) (moves : List Move) (keys : List LostKey) (kept : KeptSlots) → OthersStay codec.nodes codec.slots (moves_tree moves) keys 127 kept.leaving → ShortStay codec.nodes codec.slots (moves_tree moves) keys 127 kept.short.items → KeepsRecords codec moves keys kept
keeps_records codec moves keys kept all short = record {
  size = short.size;
  stays = λ octets es h. record_stays codec (moves_tree moves) keys kept all short octets es h;
  lossless = λ octets es h. record_lossless codec (moves_tree moves) keys kept all short octets es h;
}

pub keeps_by : (codec : Codec) (moves : List Move) (keys : List LostKey) (kept : KeptSlots) (nodes : List Node) (links : List ℕ) (found : List Move) → nodes ≡ codec.nodes → links ≡ codec.slots → found ≡ moves
    → OthersStay nodes links (moves_tree found) keys 127 kept.leaving → ShortStay nodes links (moves_tree found) keys 127 kept.short.items → KeepsRecords codec moves keys kept
keeps_by codec moves keys kept nodes links found e f g all short =
    let own : OthersStay codec.nodes codec.slots (moves_tree moves) keys 127 kept.leaving × ShortStay codec.nodes codec.slots (moves_tree moves) keys 127 kept.short.items
    = subst (λ ms. Both codec.nodes codec.slots ms) g (subst (λ ls. Both codec.nodes ls found) f (subst (λ ns. Both ns links found) e (all, short))) in
    keeps_records codec moves keys kept own.0 own.1
  where
    Both : List Node → List ℕ → List Move → Type 0
    Both ns ls ms = OthersStay ns ls (moves_tree ms) keys 127 kept.leaving × ShortStay ns ls (moves_tree ms) keys 127 kept.short.items

-- no keys, none lost
pub no_keys : (codec : Codec) (moves : List Move) (keys : List LostKey) (kept : KeptSlots) → KeepsRecords codec moves keys kept → KeepsRecords codec moves [] kept
no_keys codec moves keys kept h = record { size = h.size; stays = h.stays; lossless = λ octets es r. tt }

pub nothing_lost : (n : ℕ) (es : EntriesTree) (ks : List LostKey) → OfEach (λ k. is_below 0 (marked es) (key_path k) ≡ false) ks → losses_below n 0 (marked es) ks ≡ []
nothing_lost n es [] h = refl
nothing_lost n es (k ∷ ks) h = λ i. no_loss n 0 (marked es) k h.0 i ++ nothing_lost n es ks h.1 i

-- ---- which slots are marked

after_found : (n : ℕ) (r : Read EntriesTree) → entries_in (value_read (after n (λ es. marked es) r)) ≡ entries_found r
after_found n (got es m y) = refl
after_found n (failed p c) = refl

-- a slot that the presence field doesn't mark has no entry
pub unmarked_none : (codec : Codec) (body : List ℕ) (at end here : ℕ) (octets marks : List ℕ) → IsRecordAt codec body at end octets → MarksSlots codec.mask body at here marks → (s : ℕ) → (IsMarked marks s → ⊥)
    → slot_value s (entries_in (value_in (record_kind_at codec.nodes codec.slots) octets)) ≡ None
unfolding record_kind_at entries_at
unmarked_none codec body at end here octets marks r m s not =
    let f = field_read (linked_slots (meanings codec.nodes) codec.slots) codec.mask body marks at here codec.records.mask m in
    let tree = Tree.slots_of (linked_slots (meanings codec.nodes) codec.slots) in
    ap (λ x. slot_value s (entries_in (value_read x))) (sym r.read.got ∙ f.same) ∙ ap (slot_value s) (after_found (8 * (here - at)) (entries_at tree marks body here))
    ∙ not_read 1 tree marks (bits (drop here body)) s (none_there marks s (marks_bits codec.mask body marks at here m) not)

-- ---- the one slot of two sets

common_there : (a b : List ℕ) (i : ℕ) → get_or a i 0 ≡ 1 → get_or b i 0 ≡ 1 → get_or (common_marks a b) i 0 ≡ 1
common_there [] b i x y = absurd (omega (arith, x))
common_there (m ∷ a) [] i x y = absurd (omega (arith, y))
common_there (m ∷ a) (n ∷ b) zero x y = omega (arith, x, y)
common_there (m ∷ a) (n ∷ b) (suc i) x y = common_there a b i x y

pub only_one : (a b both left : List ℕ) (t : ℕ) → both ≡ common_marks a b → 1 ≤ t → left ≡ set both (t - 1) 0 → slots_of left ≡ [] → (s : ℕ) → IsMarked a s → IsMarked b s → s ≡ t
only_one a b both left t e some is none s x y = by (cases_eq s t)
  where
    by : (s ≡ t) ⊎ (s ≡ t → ⊥) → s ≡ t
    by (inl same) = same
    by (inr d) =
        let there : get_or both (s - 1) 0 ≡ 1 = ap (λ ms. get_or ms (s - 1) 0) e ∙ common_there a b (s - 1) x.1 y.1 in
        let first = x.0 in
        let still : get_or left (s - 1) 0 ≡ 1 = ap (λ ms. get_or ms (s - 1) 0) is ∙ get_or-set_other both (t - 1) (s - 1) 0 0 (λ f. d (omega (arith, f, some, first))) ∙ there in
        absurd (unmarked left none s (first, still))

-- the entry of each slot of two sets is short, where they have but one slot in common, if any
short_each : (codec : Codec) (kept : KeptSlots) (es : EntriesTree) (marks both left : List ℕ) (first second : Option ℕ) → both ≡ common_marks marks kept.leaving
    → IfSome first (λ t. left ≡ set both (t - 1) 0) → IfNone first (slots_of both ≡ []) → IfSome first (λ t. (1 ≤ t) × (t ≤ 126)) → IfNone second (slots_of left ≡ []) → is_some second ≡ false
    → IfSome first (λ t. HasFew codec es t (get_or kept.short.items t 0)) → (s : ℕ) → IsMarked marks s → IsMarked kept.leaving s → HasFew codec es s (get_or kept.short.items s 0)
short_each codec kept es marks both left None second e is none within last alone few s m l = absurd (none_shared marks kept.leaving both e none s m l)
short_each codec kept es marks both left (Some t) None e is none within last alone few s m l =
    subst (λ n. HasFew codec es n (get_or kept.short.items n 0)) (sym (only_one marks kept.leaving both left t e within.0 is last s m l)) few
short_each codec kept es marks both left (Some t) (Some u) e is none within last alone few s m l = absurd (let never : true ≡ false = alone in cc)

-- what is read after the presence field of a record
record Behind (r : Read EntriesTree) (v : ValueTree) (n m : ℕ) (z : List ℕ) : Type 0 where
  es : EntriesTree
  is : r ≡ got es (m - n) z
  value : v ≡ marked es
  forwards : n ≤ m

behind : (n m : ℕ) (z : List ℕ) (v : ValueTree) (r : Read EntriesTree) → after n (λ es. marked es) r ≡ got v m z → Behind r v n m z
behind n m z v (got es k y) e =
    let value : marked es ≡ v = cc in
    let size : n + k ≡ m = cc in
    let rest : y ≡ z = cc in record {
      es = es;
      is = (λ i. got es ((let own : k ≡ m - n = omega (arith, size) in own) i) (rest i));
      value = sym value;
      forwards = omega (arith, size);
    }
behind n m z v (failed p c) e = absurd (let no : ◌≡◌ {A = Read ValueTree} (failed (n + p) c) (got v m z) = e in cc)

-- the item of a slot that was found before its record was read
found_few : (codec : Codec) (body : List ℕ) (at end here : ℕ) (octets marks : List ℕ) (s n : ℕ) → IsRecordAt codec body at end octets → MarksSlots codec.mask body at here marks → HasFewThere codec marks body here s n
    → HasFew codec (entries_in (value_in (record_kind_at codec.nodes codec.slots) octets)) s n
unfolding record_kind_at
found_few codec body at end here octets marks s n r m f =
    let c = field_read (linked_slots (meanings codec.nodes) codec.slots) codec.mask body marks at here codec.records.mask m in
    let tree = Tree.slots_of (linked_slots (meanings codec.nodes) codec.slots) in
    let value = value_in (record_kind_at codec.nodes codec.slots) octets in
    let b = behind (8 * (here - at)) (8 * (end - at)) (bits (drop end body)) value (entries_at tree marks body here) (sym c.same ∙ r.read.got) in
    let size : 8 * (end - at) - 8 * (here - at) ≡ 8 * (end - here) = omega (arith, b.forwards, m.begins, r.read.forwards) in
    let gets : Gets (entries_at tree marks body here) body here end b.es = record {
      forwards = omega (arith, b.forwards, m.begins, r.read.forwards);
      within = r.read.within;
      got = b.is ∙ ap (λ k. got b.es k (bits (drop end body))) size;
    } in record {
      item = f.item;
      slot = f.slot;
      value = ap (λ v. slot_value s (entries_in v)) b.value ∙ sym (f.there.value end b.es gets);
      few = f.few;
    }

found_few_if : (codec : Codec) (body : List ℕ) (at end here : ℕ) (octets marks short : List ℕ) (first : Option ℕ) → IsRecordAt codec body at end octets → MarksSlots codec.mask body at here marks
    → IfSome first (λ s. HasFewThere codec marks body here s (get_or short s 0)) → IfSome first (λ s. HasFew codec (entries_in (value_in (record_kind_at codec.nodes codec.slots) octets)) s (get_or short s 0))
found_few_if codec body at end here octets marks short None r m f = tt
found_few_if codec body at end here octets marks short (Some s) r m f = found_few codec body at end here octets marks s (get_or short s 0) r m f

pub kept_at : (codec : Codec) (kept : KeptSlots) (body : List ℕ) (at end here : ℕ) (view : RecordView) (marks both left short : List ℕ) (first second : Option ℕ) (least : Bool) → view.codec.now ≡ codec → IsRecordAt codec body at end view.body.now → IsLeastRecord codec view.body.now least → IsTrue least
    → MarksSlots codec.mask body at here marks → both ≡ common_marks marks kept.leaving → IfSome first (λ t. left ≡ set both (t - 1) 0) → IfNone first (slots_of both ≡ []) → IfSome first (λ t. (1 ≤ t) × (t ≤ 126)) → IfNone second (slots_of left ≡ []) → is_some second ≡ false
    → short ≡ kept.short.items → IfSome first (λ t. HasFewThere codec marks body here t (get_or short t 0)) → IsKeptAt codec kept body at end
kept_at codec kept body at end here view marks both left short first second least own r spelled said m e is none within last alone same few =
    let octets = view.body.now in
    let es = entries_in (value_in (record_kind_at codec.nodes codec.slots) octets) in
    let there = found_few_if codec body at end here octets marks kept.short.items first r m (subst (λ xs. IfSome first (λ t. HasFewThere codec marks body here t (get_or xs t 0))) same few) in record {
      octets = octets;
      here = r;
      least = spelled said;
      entries = es;
      kept_record = record {
        one = subst (λ c. IsRecord c octets) own view.record_octets;
        value = is_marked codec.nodes codec.slots octets;
        marks = marks;
        size = m.size;
        others = unmarked_none codec body at end here octets marks r m;
        short = short_each codec kept es marks both left first second e is none within last alone there;
      };
    }

pub few_of : (codec : Codec) (marks body : List ℕ) (at : ℕ) (o : Option ℕ) (slot : ℕ) (short : List ℕ) → o ≡ Some slot → HasFewThere codec marks body at slot (get_or short slot 0) → IfSome o (λ s. HasFewThere codec marks body at s (get_or short s 0))
few_of codec marks body at o slot short is few = subst (λ (x : Option ℕ). IfSome x (λ s. HasFewThere codec marks body at s (get_or short s 0))) (sym is) few

-- ---- a record of a body

module _ (codec : Codec) (moves : List Move) (keys : List LostKey) (kept : KeptSlots) (body : List ℕ) (here next : ℕ) (k : IsKeptAt codec kept body here next) (r : KeepsRecords codec moves keys kept) where
  pub kept_read : Gets (kind_read (record_kind_at codec.nodes codec.slots) body here) body here next (marked k.entries)
  kept_read = subst (Gets (kind_read (record_kind_at codec.nodes codec.slots) body here) body here next) k.kept_record.value k.here.read

  kept_there : entries_there codec.nodes codec.slots body here ≡ k.entries
  kept_there = ap (λ x. entries_in (value_read x)) kept_read.got

  pub kept_own : canon_by (moves_tree moves) (record_kind_at codec.nodes codec.slots) (marked (entries_there codec.nodes codec.slots body here)) ≡ bits (run_octets here next body)
  kept_own =
      let kind = record_kind_at codec.nodes codec.slots in
      ap (λ es. canon_by (moves_tree moves) kind (marked es)) kept_there ∙ r.stays k.octets k.entries k.kept_record ∙ ap (canon kind) (sym k.kept_record.value) ∙ k.least ∙ ap bits k.here.window

  pub kept_told : (block number at : ℕ) (lines : List ℕ) → AreRuns keys → at < 4294967296 → Gathers (lost_lines block (record_losses number (entries_there codec.nodes codec.slots body here) (key_paths keys))) at at lines lines
  kept_told block number at lines runs few =
      let none : record_losses number (entries_there codec.nodes codec.slots body here) (key_paths keys) ≡ []
      = ap (λ es. record_losses number es (key_paths keys)) kept_there ∙ sym (record_lost number k.entries keys runs) ∙ nothing_lost number k.entries keys (r.lossless k.octets k.entries k.kept_record) in
      told_nothing (lost_lines block (record_losses number (entries_there codec.nodes codec.slots body here) (key_paths keys))) at lines (ap (lost_lines block) none) few
