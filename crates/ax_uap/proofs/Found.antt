-- The item at a slot's place is the slot's item.
use Rattle.std.proofs.Common.{◌≡◌, ◌∙◌, ℕ, ◌-◌, ◌<◌, zero, suc, List, [], ◌∷◌, length, Some, None, refl, sym, ap, arith}
use Rattle.std.specs.List.{slice_get}
use Rattle.std.specs.Str.{bytes_eq}
use Rattle.std.proofs.lemmas.List.Folds.{find_at}
use Rattle.ax_format.specs.Lookup.{item_of_slot, item_of_frn}
use Rattle.ax_format.specs.declared.spec.Item.{Item}
use Rattle.ax_format.specs.declared.spec.UapSlot.{UapSlot}
use Rattle.ax_format.specs.declared.spec.UapSlot.TheVariants as Uap
use Rattle.ax_uap.specs.Places.{place_of_slot, uap_places}

past : {A : Type 0} (xs : List A) → slice_get xs (length xs) ≡ None
past [] = refl
past (x ∷ xs) = past xs

at_place : (items : List Item) (slot : UapSlot) → slice_get items (place_of_slot items slot) ≡ item_of_slot (Some slot) items
at_place items Uap.Spare = past items
at_place items (Uap.Item name) = sym (find_at (λ item. bytes_eq item.name name) items)

pub its_item : (i place : ℕ) (slots : List UapSlot) (items : List Item) → slice_get (uap_places slots items) i ≡ Some place → slice_get items place ≡ item_of_frn (suc i) slots items
its_item i place [] items some = absurd (let h : None ≡ Some place = some in cc)
its_item zero place (slot ∷ slots) items some = let h : Some (place_of_slot items slot) ≡ Some place = some in let same : place_of_slot items slot ≡ place = cc in ap (slice_get items) (sym same) ∙ at_place items slot
its_item (suc i) place (slot ∷ slots) items some = its_item i place slots items some

-- the item at the place that stands for a field reference number
pub item_at : (frn place : ℕ) (slots : List UapSlot) (items : List Item) → 0 < frn → slice_get (uap_places slots items) (frn - 1) ≡ Some place → slice_get items place ≡ item_of_frn frn slots items
item_at zero place slots items some found = absurd (omega (arith, some))
item_at (suc i) place slots items some found = its_item i place slots items (let same : suc i - 1 ≡ i = omega arith in rw (← same) found)
