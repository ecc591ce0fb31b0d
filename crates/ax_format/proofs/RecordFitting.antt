-- Records over the UAP and blocks: the tests say what the definitions do.
use Rattle.std.proofs.Common.{◌≡◌, ℕ, suc, ◌+◌, ◌<◌, ◌≤◌, ◌==◌, List, [], ◌∷◌, length, map, drop, get_or, Bool, true, false, ◌&&◌, Some, None, refl, sym, ◌∙◌, ap, arith, add-one, drop-cons}
use Rattle.std.specs.List.{AllByRecursion, list_all}
use Rattle.std.specs.Option.{option_map}
use Rattle.std.proofs.lemmas.List.{drop_all, length-map}
use Rattle.std.proofs.lemmas.Bool.Decides.{nat_tests}
use Rattle.std.proofs.lemmas.Bool.{ne_eqb, eq-eqb}
use Rattle.ax_format.proofs.FittingShapes.{both, join, fits_shape, shape_fits}
use Rattle.ax_format.proofs.Lookups.{uap_slot_tree}
use Rattle.ax_format.specs.Bodies.{RecordShape}
use Rattle.ax_format.specs.Fitting.{kind_fits, entries_fit}
use Rattle.ax_format.specs.Lookup.{item_of_slot}
use Rattle.ax_format.specs.OfCode.{record_fits}
use Rattle.ax_format.specs.Plain.{entry_step, value_step, entry_tree, item_tree, kind_tree, entries_tree, spec_tree, record_tree, records_tree, value_tree}
use Rattle.ax_format.specs.Specification.{uap_slot, slot_of_item, record_kind}
use Rattle.ax_format.specs.Tree.{KindTree, SlotTree, SlotsTree, no_slots, slot_and, spare_slot, subitem, slots_of, EntriesTree, no_entries, entry_and, ValueTree, marked}
use Rattle.ax_format.specs.declared.record.Record.{Record}
use Rattle.ax_format.specs.declared.spec.Item.{Item}
use Rattle.ax_format.specs.declared.spec.Spec.{Spec}
use Rattle.ax_format.specs.declared.spec.UapSlot.{UapSlot}
use Rattle.ax_format.specs.declared.value.Entry.{Entry, fold_out-Entry}

-- ---- one slot

entry_is : (e : Entry) → entry_tree e ≡ (e.slot, value_tree e.value)
entry_is e = fold_out-Entry ValueTree (ℕ × ValueTree) value_step entry_step e

-- the first entry and those after it
pub entries_split : (e : Entry) (es later : List Entry) → es ≡ e ∷ later → entries_tree es ≡ entry_and e.slot (value_tree e.value) (entries_tree later)
entries_split e es later is = ap entries_tree is ∙ ap (λ p. entry_and p.0 p.1 (entries_tree later)) (entry_is e)

-- without entries a slot has none
pub nothing : (n : ℕ) (slot : SlotTree) (ss : SlotsTree) → entries_fit n (slot_and slot ss) no_entries ≡ entries_fit (n + 1) ss no_entries
nothing n spare_slot ss = refl
nothing n (subitem name k) ss = refl

-- the first entry is of another slot
pub other : (n t : ℕ) (v : ValueTree) (es : EntriesTree) (slot : SlotTree) (ss : SlotsTree) → (t ≡ n → ⊥)
    → entries_fit n (slot_and slot ss) (entry_and t v es) ≡ entries_fit (n + 1) ss (entry_and t v es)
other n t v es spare_slot ss ne = refl
other n t v es (subitem name k) ss ne = rw (ne_eqb t n ne) refl

-- the first entry is of this slot
pub here : (n t : ℕ) (v : ValueTree) (es : EntriesTree) (name : List ℕ) (k : KindTree) (ss : SlotsTree) → t ≡ n
    → entries_fit n (slot_and (subitem name k) ss) (entry_and t v es) ≡ (kind_fits k v && entries_fit (n + 1) ss es)
here n t v es name k ss e = rw (eq-eqb t n e) refl

pub spare_is : (items : List Item) (slot : UapSlot) → item_of_slot (Some slot) items ≡ None → uap_slot (map item_tree items) slot ≡ spare_slot
spare_is items slot e = uap_slot_tree items slot ∙ ap (λ o. slot_of_item (option_map item_tree o)) e

pub item_is : (items : List Item) (slot : UapSlot) (item : Item) → item_of_slot (Some slot) items ≡ Some item → uap_slot (map item_tree items) slot ≡ subitem item.name (kind_tree item.kind)
item_is items slot item e = uap_slot_tree items slot ∙ ap (λ o. slot_of_item (option_map item_tree o)) e

-- the first entry is of this slot, and fits the slot's item or doesn't
pub here_found : (items : List Item) (slot : UapSlot) (item : Item) (n : ℕ) (e : Entry) (es later : List Entry) (ss : SlotsTree)
    → es ≡ e ∷ later → item_of_slot (Some slot) items ≡ Some item → e.slot ≡ n → kind_fits (kind_tree item.kind) (value_tree e.value) ≡ true
    → entries_fit n (slot_and (uap_slot (map item_tree items) slot) ss) (entries_tree es) ≡ entries_fit (n + 1) ss (entries_tree later)
here_found items slot item n e es later ss is found at fit =
    let t = entries_tree later in
    ap (entries_fit n (slot_and (uap_slot (map item_tree items) slot) ss)) (entries_split e es later is)
    ∙ ap (λ s. entries_fit n (slot_and s ss) (entry_and e.slot (value_tree e.value) t)) (item_is items slot item found)
    ∙ here n e.slot (value_tree e.value) t item.name (kind_tree item.kind) ss at ∙ ap (λ b. b && entries_fit (n + 1) ss t) fit

pub here_refused : (items : List Item) (slot : UapSlot) (item : Item) (n : ℕ) (e : Entry) (es later : List Entry) (ss : SlotsTree)
    → es ≡ e ∷ later → item_of_slot (Some slot) items ≡ Some item → e.slot ≡ n → kind_fits (kind_tree item.kind) (value_tree e.value) ≡ false
    → entries_fit n (slot_and (uap_slot (map item_tree items) slot) ss) (entries_tree es) ≡ false
here_refused items slot item n e es later ss is found at fit =
    let t = entries_tree later in
    ap (entries_fit n (slot_and (uap_slot (map item_tree items) slot) ss)) (entries_split e es later is)
    ∙ ap (λ s. entries_fit n (slot_and s ss) (entry_and e.slot (value_tree e.value) t)) (item_is items slot item found)
    ∙ here n e.slot (value_tree e.value) t item.name (kind_tree item.kind) ss at ∙ ap (λ b. b && entries_fit (n + 1) ss t) fit

-- no entry is left, the first one is of another slot, or the slot has no item
pub no_entry : (n : ℕ) (slot : SlotTree) (es : List Entry) (ss : SlotsTree) → length es ≡ 0 → entries_fit n (slot_and slot ss) (entries_tree es) ≡ entries_fit (n + 1) ss (entries_tree es)
no_entry n slot [] ss e = nothing n slot ss
no_entry n slot (x ∷ es) ss e = absurd (cc)

pub other_entry : (n : ℕ) (slot : SlotTree) (e : Entry) (es later : List Entry) (ss : SlotsTree) → es ≡ e ∷ later → (e.slot ≡ n → ⊥)
    → entries_fit n (slot_and slot ss) (entries_tree es) ≡ entries_fit (n + 1) ss (entries_tree es)
other_entry n slot e es later ss is ne =
    let i = entries_split e es later is in
    ap (entries_fit n (slot_and slot ss)) i ∙ other n e.slot (value_tree e.value) (entries_tree later) slot ss ne ∙ sym (ap (entries_fit (n + 1) ss) i)

pub no_item : (items : List Item) (slot : UapSlot) (n : ℕ) (es : List Entry) (ss : SlotsTree) → item_of_slot (Some slot) items ≡ None
    → entries_fit n (slot_and (uap_slot (map item_tree items) slot) ss) (entries_tree es) ≡ entries_fit (n + 1) ss (entries_tree es)
no_item items slot n es ss none = ap (λ s. entries_fit n (slot_and s ss) (entries_tree es)) (spare_is items slot none)

-- ---- all slots

-- the slots from place i on are the one there and those after it
pub slots_from : (items : List Item) (ss : List UapSlot) (i : ℕ) (s : UapSlot) → i < length ss → s ≡ get_or ss i s
    → slots_of (map (uap_slot (map item_tree items)) (drop i ss)) ≡ slot_and (uap_slot (map item_tree items) s) (slots_of (map (uap_slot (map item_tree items)) (drop (i + 1) ss)))
slots_from items ss i s within e =
    let f = uap_slot (map item_tree items) in
    ap (λ x. slots_of (map f x)) (drop-cons ss i s within ∙ ap (λ x. x ∷ drop (suc i) ss) (sym e)) ∙ ap (λ n. slot_and (f s) (slots_of (map f (drop n ss)))) (sym (add-one i))

no_slots_from : (n : ℕ) (es : List Entry) → entries_fit n no_slots (entries_tree es) ≡ (length es == 0)
no_slots_from n [] = refl
no_slots_from n (e ∷ es) = let h : 0 < length (e ∷ es) = omega arith in grind (arith, nat_tests)

-- after the last slot there is no entry
pub slots_end : (items : List Item) (ss : List UapSlot) (i n : ℕ) (es : List Entry) → length ss ≤ i
    → entries_fit n (slots_of (map (uap_slot (map item_tree items)) (drop i ss))) (entries_tree es) ≡ (length es == 0)
slots_end items ss i n es past = rw (drop_all i ss past) (no_slots_from n es)

-- the slot at place i refuses the entries, or takes those that it has
pub slot_refuses : (items : List Item) (ss : List UapSlot) (i n : ℕ) (s : UapSlot) (es : List Entry) (b : Bool) → i < length ss → s ≡ get_or ss i s
    → ((t : SlotsTree) → entries_fit n (slot_and (uap_slot (map item_tree items) s) t) (entries_tree es) ≡ false)
    → b ≡ entries_fit n (slots_of (map (uap_slot (map item_tree items)) (drop i ss))) (entries_tree es) → false ≡ b
slot_refuses items ss i n s es b within e refused is = sym (is ∙ ap (λ x. entries_fit n x (entries_tree es)) (slots_from items ss i s within e) ∙ refused _)

pub slot_takes : (items : List Item) (ss : List UapSlot) (i n : ℕ) (s : UapSlot) (es later : List Entry) (b : Bool) → i < length ss → s ≡ get_or ss i s
    → ((t : SlotsTree) → entries_fit n (slot_and (uap_slot (map item_tree items) s) t) (entries_tree es) ≡ entries_fit (n + 1) t (entries_tree later))
    → b ≡ entries_fit n (slots_of (map (uap_slot (map item_tree items)) (drop i ss))) (entries_tree es)
    → b ≡ entries_fit (n + 1) (slots_of (map (uap_slot (map item_tree items)) (drop (i + 1) ss))) (entries_tree later)
slot_takes items ss i n s es later b within e taken is = is ∙ ap (λ x. entries_fit n x (entries_tree es)) (slots_from items ss i s within e) ∙ taken _

-- ---- blocks

pub all_to : (spec : Spec) (rs : List Record) → list_all (record_fits spec) rs ≡ true → AllByRecursion (RecordShape (spec_tree spec)) (records_tree rs)
all_to spec [] e = tt
all_to spec (r ∷ rs) e =
    let s = both (record_fits spec r) (list_all (record_fits spec) rs) e in
    (record { shape = fits_shape (record_kind (spec_tree spec)) (marked (record_tree r)) s.0 }, all_to spec rs s.1)

pub all_from : (spec : Spec) (rs : List Record) → AllByRecursion (RecordShape (spec_tree spec)) (records_tree rs) → list_all (record_fits spec) rs ≡ true
all_from spec [] h = refl
all_from spec (r ∷ rs) h = join (record_fits spec r) (list_all (record_fits spec) rs) (shape_fits (record_kind (spec_tree spec)) (marked (record_tree r)) h.0.shape) (all_from spec rs h.1)

pub counted : (rs : List Record) → length (records_tree rs) ≡ length rs
counted rs = length-map rs record_tree

pub ruleset blocks = (all_to, all_from, counted)
