-- The items of the slots of the UAP are the slots of a record.
use Rattle.std.proofs.Common.{◌≡◌, ℕ, suc, ◌+◌, ◌-◌, ◌<◌, ◌≤◌, Bool, true, false, bytes_eq, cond, List, [], ◌∷◌, ◌++◌, length, map, take, slice_get, get_or, Option, Some, None, option_map, refl, sym, ◌∙◌, ap, subst, arith}
use Rattle.std.proofs.lemmas.List.{map-append, take_more, take_all}
use Rattle.std.specs.Borrow.{Bor}
use Rattle.std.specs.Option.{option_copied}
use Rattle.ax_edition.specs.Numbers.{numbered, item_number, CountsItems}
use Rattle.ax_edition.specs.SlotItems.{item_slot, items_tree}
use Rattle.ax_edition.specs.declared.numbers.Numbers.{Numbers}
use Rattle.ax_format.proofs.Lookups.{uap_slot_tree}
use Rattle.ax_format.specs.Lookup.{item_named, item_of_slot}
use Rattle.ax_format.specs.Plain.{item_tree, spec_tree}
use Rattle.ax_format.specs.Specification.{slot_of_item, uap_slot, record_slots}
use Rattle.ax_format.specs.Tree.{SlotTree, slots_of}
use Rattle.ax_format.specs.declared.spec.Item.{Item}
use Rattle.ax_format.specs.declared.spec.Spec.{Spec}
use Rattle.ax_format.specs.declared.spec.UapSlot.{UapSlot}
use Rattle.ax_format.specs.declared.spec.UapSlot.TheVariants as Uap

-- ---- the item of a number

-- the number that was found leads to the target, and where none was found there is no target
abbrev Leads : ℕ → Option Item → List Item → Option ℕ → Type 0
Leads n target items None = target ≡ None
Leads n target items (Some t) = (i : ℕ) × (t ≡ n + i) × (slice_get items i ≡ target)

number_leads : (n : ℕ) (name : List ℕ) (items : List Item) → Leads n (item_named name items) items (item_number n name items)
number_leads n name [] = refl
number_leads n name (item ∷ items) = by (item_named name items) (bytes_eq item.name name) (item_number (n + 1) name items) (number_leads (n + 1) name items)
  where
    by : (rest : Option Item) (b : Bool) (o : Option ℕ) → Leads (n + 1) rest items o → Leads n (cond b (Some item) rest) (item ∷ items) (cond b (Some n) o)
    by rest true o h = (0, omega arith, refl)
    by rest false None h = h
    by rest false (Some t) h = (suc h.0, (let q = h.1 in omega (arith, q)), h.2)

leads : (name : List ℕ) (items : List Item) (numbers : Numbers) (o : Option ℕ) → CountsItems 1 items numbers → o ≡ numbered numbers name → Leads 1 (item_named name items) items o
leads name items numbers o c e =
    let P : Option ℕ → Type 0 = λ x. Leads 1 (item_named name items) items x in subst P (sym (e ∙ c.counts name)) (number_leads 1 name items)

module _ (slot : UapSlot) (name : List ℕ) (items : List Item) (numbers : Numbers) (is : slot ≡ Uap.Item name) (c : CountsItems 1 items numbers) where
  pub no_item : None ≡ numbered numbers name → None ≡ item_of_slot (Some slot) items
  no_item e = sym (leads name items numbers None c e) ∙ ap (λ s. item_of_slot (Some s) items) (sym is)

  pub no_zero : (t : ℕ) → Some t ≡ numbered numbers name → t ≡ 0 → None ≡ item_of_slot (Some slot) items
  no_zero t e z =
      let h = leads name items numbers (Some t) c e in
      let q = h.1 in absurd (omega (arith, q, z))

  pub some_item : (t : ℕ) (o : Option Item) → Some t ≡ numbered numbers name → o ≡ slice_get items (t - 1) → o ≡ item_of_slot (Some slot) items
  some_item t o e a =
      let h = leads name items numbers (Some t) c e in
      let q = h.1 in
      let i : t - 1 ≡ h.0 = omega (arith, q) in a ∙ ap (slice_get items) i ∙ h.2 ∙ ap (λ s. item_of_slot (Some s) items) (sym is)

pub ruleset by_number = (no_item, no_zero, some_item)

-- ---- slots of the UAP

slot_is : (o : Option (Bor Item)) → item_slot o ≡ slot_of_item (option_map item_tree (option_copied o))
slot_is None = refl
slot_is (Some item) = refl

pub uap_begin : (items : List Item) (slots : List UapSlot) → map item_slot [] ≡ map (uap_slot (map item_tree items)) (take 0 slots)
uap_begin items slots = refl

pub uap_step : (items : List Item) (i : ℕ) (slots : List UapSlot) (slot : UapSlot) (o : Option (Bor Item)) (made new : List (Option (Bor Item))) → i < length slots → slot ≡ get_or slots i slot
    → option_copied o ≡ item_of_slot (Some slot) items → new ≡ made ++ o ∷ [] → map item_slot made ≡ map (uap_slot (map item_tree items)) (take i slots)
    → map item_slot new ≡ map (uap_slot (map item_tree items)) (take (i + 1) slots)
uap_step items i slots slot o made new within is e n h =
    let rule : UapSlot → SlotTree = uap_slot (map item_tree items) in
    let one : item_slot o ≡ rule slot = slot_is o ∙ ap (λ x. slot_of_item (option_map item_tree x)) e ∙ sym (uap_slot_tree items slot) in
    ap (map item_slot) n ∙ map-append item_slot made (o ∷ []) ∙ (λ j. h j ++ one j ∷ []) ∙ sym (map-append rule (take i slots) (slot ∷ []))
    ∙ ap (map rule) (sym (take_more slots i slot within ∙ ap (λ x. take i slots ++ x ∷ []) (sym is)))

pub uap_end : (spec : Spec) (i : ℕ) (made : List (Option (Bor Item))) → length spec.uap ≤ i → map item_slot made ≡ map (uap_slot (map item_tree spec.items)) (take i spec.uap)
    → items_tree made ≡ record_slots (spec_tree spec)
uap_end spec i made past h = ap slots_of (h ∙ ap (map (uap_slot (map item_tree spec.items))) (take_all i spec.uap past))

pub ruleset walk = (uap_begin, uap_step, uap_end)
