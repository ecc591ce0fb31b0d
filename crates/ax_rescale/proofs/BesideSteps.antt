-- Steps in two editions, one at a time.
use Rattle.std.proofs.Common.{◌≡◌, ℕ, zero, suc, ◌+◌, ◌-◌, ◌<◌, ◌≤◌, true, false, cond, List, [], ◌∷◌, ◌++◌, length, map, drop, get_or, Option, Some, None, option_map, option_and_then, refl, sym, ◌∙◌, ap, arith, append_assoc, append-nil, length-append}
use Rattle.std.proofs.lemmas.List.{drop_all}
use Rattle.std.specs.Prelude.{slice_get}
use Rattle.std.specs.Borrow.{Bor}
use Rattle.std.specs.Option.{option_copied}
use Rattle.ax_edition.specs.Index.{found}
use Rattle.ax_edition.specs.SlotItems.{item_slot, items_tree}
use Rattle.ax_format.proofs.Namings.{from_place}
use Rattle.ax_format.specs.Placed.{place_from}
use Rattle.ax_format.specs.Plain.{kind_tree, slot_tree, slots_tree}
use Rattle.ax_format.specs.Tree.{KindTree, fixed, extended, counted, by_fx, explicit, compound, SlotTree, SlotsTree, slots_of}
use Rattle.ax_format.specs.declared.kind.Kind.{Kind}
use Rattle.ax_format.specs.declared.kind.Slot.{Slot}
use Rattle.ax_format.specs.declared.kind.Slot.TheVariants.{Spare, Sub}
use Rattle.ax_format.specs.declared.name.Name.{Name}
use Rattle.ax_rescale.proofs.EntrySteps.{spare_is, sub_is}
use Rattle.ax_rescale.specs.Alike.{is_alike}
use Rattle.ax_rescale.specs.Besides.{named_kind, step_tree}
use Rattle.ax_rescale.specs.declared.beside.SlotPair.{SlotPair}
use Rattle.ax_format.specs.declared.spec.Item.{Item}
use Rattle.ax_rescale.specs.Beside.{named_in, nth_named, slot_numbered, StepBeside, step_between, step_beside, Beside, beside_under, beside, alike_where}

-- ---- a slot by its number

nth_is : {A : Type 0} (tree : A → SlotTree) (n : ℕ) (xs : List A) → nth_named n (slots_of (map tree xs)) ≡ option_and_then (λ x. named_in (tree x)) (slice_get xs n)
nth_is tree n [] = refl
nth_is tree zero (x ∷ xs) = refl
nth_is tree (suc n) (x ∷ xs) = nth_is tree n xs

pub numbered_is : {A : Type 0} (tree : A → SlotTree) (s : ℕ) (xs : List A) (o : Option A) → (s ≡ 0 → ⊥) → slice_get xs (s - 1) ≡ o → slot_numbered s (slots_of (map tree xs)) ≡ option_and_then (λ x. named_in (tree x)) o
numbered_is tree zero xs o some e = absurd (some refl)
numbered_is tree (suc n) xs o some e =
    let same : n ≡ suc n - 1 = omega arith in
    nth_is tree n xs ∙ ap (option_and_then (λ x. named_in (tree x))) (ap (slice_get xs) same ∙ e)

module _ {A : Type 0} (tree : A → SlotTree) (s : ℕ) (xs : List A) (got : Option (Bor A)) (some : s ≡ 0 → ⊥) (value : option_copied got ≡ slice_get xs (s - 1)) where
  not_there : got ≡ None → slot_numbered s (slots_of (map tree xs)) ≡ None
  not_there e = numbered_is tree s xs None some (sym value ∙ ap option_copied e)

  there : (b : Bor A) → got ≡ Some b → slot_numbered s (slots_of (map tree xs)) ≡ named_in (tree b.now)
  there b e = numbered_is tree s xs (Some b.now) some (sym value ∙ ap option_copied e)

abbrev Named : Type 0
Named = Option (Bor Name × Bor Kind)

module _ (s : ℕ) (xs : List Slot) (got : Option (Bor Slot)) where
  pub none_at : (r : Named) → (s ≡ 0 → ⊥) → got ≡ None → option_copied got ≡ slice_get xs (s - 1) → r ≡ None → option_map named_kind r ≡ slot_numbered s (slots_tree xs)
  none_at r some e value is = ap (option_map named_kind) is ∙ sym (not_there slot_tree s xs got some value e)

  pub sub_at : (b : Bor Slot) (name : Name) (k : Kind) → (s ≡ 0 → ⊥) → got ≡ Some b → option_copied got ≡ slice_get xs (s - 1) → b.now ≡ Sub name k → Some (name, kind_tree k) ≡ slot_numbered s (slots_tree xs)
  sub_at b name k some e value is = sym (there slot_tree s xs got some value b e ∙ ap named_in (sub_is b.now name k is))

  pub spare_at : (b : Bor Slot) → (s ≡ 0 → ⊥) → got ≡ Some b → option_copied got ≡ slice_get xs (s - 1) → b.now ≡ Spare → None ≡ slot_numbered s (slots_tree xs)
  spare_at b some e value is = sym (there slot_tree s xs got some value b e ∙ ap named_in (spare_is b.now is))

module _ (s : ℕ) (xs : List (Option (Bor Item))) (got : Option (Bor (Option (Bor Item)))) where
  pub no_item_at : (r : Named) → (s ≡ 0 → ⊥) → got ≡ None → option_copied got ≡ slice_get xs (s - 1) → r ≡ None → option_map named_kind r ≡ slot_numbered s (items_tree xs)
  no_item_at r some e value is = ap (option_map named_kind) is ∙ sym (not_there item_slot s xs got some value e)

  pub item_at : (b : Bor (Option (Bor Item))) (item : Bor Item) → (s ≡ 0 → ⊥) → got ≡ Some b → option_copied got ≡ slice_get xs (s - 1) → b.now ≡ Some item
      → Some (item.now.name, kind_tree item.now.kind) ≡ slot_numbered s (items_tree xs)
  item_at b item some e value is = sym (there item_slot s xs got some value b e ∙ ap (λ o. named_in (item_slot o)) is)

  pub spare_item_at : (b : Bor (Option (Bor Item))) → (s ≡ 0 → ⊥) → got ≡ Some b → option_copied got ≡ slice_get xs (s - 1) → b.now ≡ None → None ≡ slot_numbered s (items_tree xs)
  spare_item_at b some e value is = sym (there item_slot s xs got some value b e ∙ ap (λ o. named_in (item_slot o)) is)

pub none_numbered : (s : ℕ) (ss : SlotsTree) → s ≡ 0 → None ≡ slot_numbered s ss
none_numbered s ss e = ap (λ n. slot_numbered n ss) (sym e)

-- ---- kinds

pub both_compounds : (s : ℕ) (k l : KindTree) (ss ts : SlotsTree) (o : Option StepBeside) → k ≡ compound ss → l ≡ compound ts → o ≡ step_between s ss ts → o ≡ step_beside s k l
both_compounds s k l ss ts o p q e = e ∙ (λ i. step_beside s (sym p i) (sym q i))

pub no_old : (s : ℕ) (k l : KindTree) → ((ss : SlotsTree) → k ≡ compound ss → ⊥) → None ≡ step_beside s k l
no_old s (compound ss) l not = absurd (not ss refl)
no_old s (fixed f) l not = refl
no_old s (extended last ps) l not = refl
no_old s (counted size k) l not = refl
no_old s (by_fx f) l not = refl
no_old s explicit l not = refl

pub no_new : (s : ℕ) (k l : KindTree) → ((ts : SlotsTree) → l ≡ compound ts → ⊥) → None ≡ step_beside s k l
no_new s (compound ss) (compound ts) not = absurd (not ts refl)
no_new s (compound ss) (fixed f) not = refl
no_new s (compound ss) (extended last ps) not = refl
no_new s (compound ss) (counted size k) not = refl
no_new s (compound ss) (by_fx f) not = refl
no_new s (compound ss) explicit not = refl
no_new s (fixed f) l not = refl
no_new s (extended last ps) l not = refl
no_new s (counted size k) l not = refl
no_new s (by_fx f) l not = refl
no_new s explicit l not = refl

pub ruleset kinds = (both_compounds, no_old, no_new)

-- ---- all steps

abbrev pub beside_after : List ℕ → Beside → Beside
beside_after numbers b = record { numbers = numbers ++ b.numbers; old = b.old; new = b.new }

-- what is found after so many steps, in front of which stand these numbers
pub record Leads (k l : KindTree) (steps : List ℕ) (i : ℕ) (made : List ℕ) (k' l' : KindTree) : Type 0 where
  pub counted : length made ≡ i
  pub leads : beside steps k l ≡ option_map (beside_after made) (beside (drop i steps) k' l')

same_option : (o : Option Beside) → o ≡ option_map (beside_after []) o
same_option None = refl
same_option (Some b) = refl

pub leads_start : (k l : KindTree) (steps made : List ℕ) → made ≡ [] → Leads k l steps 0 made k l
leads_start k l steps made e = record { counted = ap (λ (x : List ℕ). length x) e; leads = same_option (beside steps k l) ∙ ap (λ (x : List ℕ). option_map (beside_after x) (beside steps k l)) (sym e) }

one_step : (s : ℕ) (steps : List ℕ) (k l : KindTree) (o : Option StepBeside) → step_beside s k l ≡ o → beside (s ∷ steps) k l ≡ option_and_then (λ b. option_map (beside_under b.number) (beside steps b.old b.new)) o
one_step s steps k l o e = ap (option_and_then (λ b. option_map (beside_under b.number) (beside steps b.old b.new))) e

module _ (k l : KindTree) (steps : List ℕ) (i : ℕ) (made : List ℕ) (k' l' : KindTree) where
  next_step : (s : ℕ) (o : Option StepBeside) → Leads k l steps i made k' l' → i < length steps → s ≡ get_or steps i s → step_beside s k' l' ≡ o
      → beside steps k l ≡ option_map (beside_after made) (option_and_then (λ b. option_map (beside_under b.number) (beside (drop (i + 1) steps) b.old b.new)) o)
  next_step s o h within is e = h.leads ∙ ap (option_map (beside_after made)) (ap (λ (x : List ℕ). beside x k' l') (from_place steps i s within is) ∙ one_step s (drop (i + 1) steps) k' l' o e)

  pub leads_none : (s : ℕ) → Leads k l steps i made k' l' → i < length steps → s ≡ get_or steps i s → step_beside s k' l' ≡ None → beside steps k l ≡ None
  leads_none s h within is e = next_step s None h within is e

  moved_on : (n : ℕ) (made' : List ℕ) (o : Option Beside) → made' ≡ made ++ n ∷ [] → option_map (beside_after made) (option_map (beside_under n) o) ≡ option_map (beside_after made') o
  moved_on n made' None e = refl
  moved_on n made' (Some b) e = λ j. Some (record { numbers = (sym (append_assoc made (n ∷ []) b.numbers) ∙ ap (λ (x : List ℕ). x ++ b.numbers) (sym e)) j; old = b.old; new = b.new })

  pub leads_next : (s : ℕ) (next : SlotPair) (made' : List ℕ) → Leads k l steps i made k' l' → i < length steps → s ≡ get_or steps i s → step_beside s k' l' ≡ Some (step_tree next) → made' ≡ made ++ next.number ∷ []
      → Leads k l steps (i + 1) made' (kind_tree next.old.now) (kind_tree next.new.now)
  leads_next s next made' h within is e pushed = record {
    counted = ap (λ (x : List ℕ). length x) pushed ∙ length-append made (next.number ∷ []) ∙ ap (λ n. n + 1) h.counted;
    leads = next_step s (Some (step_tree next)) h within is e ∙ moved_on next.number made' (beside (drop (i + 1) steps) (kind_tree next.old.now) (kind_tree next.new.now)) pushed;
  }

  pub leads_end : Leads k l steps i made k' l' → length steps ≤ i → beside steps k l ≡ Some (record { numbers = made; old = k'; new = l' })
  leads_end h past = h.leads ∙ ap (λ (x : List ℕ). option_map (beside_after made) (beside x k' l')) (drop_all i steps past) ∙ (λ j. Some (record { numbers = append-nil made j; old = k'; new = l' }))

-- ---- the place that is found

pub at_steps : (items steps : List ℕ) (k l : KindTree) (o : Option Beside) → items ≡ steps → beside items k l ≡ o → beside steps k l ≡ o
at_steps items steps k l o e h = ap (λ (x : List ℕ). beside x k l) (sym e) ∙ h

module _ (first : SlotPair) (o : Option StepBeside) (begins : Some (step_tree first) ≡ o) (steps : List ℕ) where
  from_first : (found : Option Beside) → beside steps (kind_tree first.old.now) (kind_tree first.new.now) ≡ found
      → option_and_then alike_where (option_and_then (λ b. option_map (beside_under b.number) (beside steps b.old b.new)) o) ≡ option_and_then alike_where (option_map (beside_under first.number) found)
  from_first found e =
      ap (λ x. option_and_then alike_where (option_and_then (λ b. option_map (beside_under b.number) (beside steps b.old b.new)) x)) (sym begins)
      ∙ ap (λ x. option_and_then alike_where (option_map (beside_under first.number) x)) e

  pub no_place : beside steps (kind_tree first.old.now) (kind_tree first.new.now) ≡ None → None ≡ option_and_then alike_where (option_and_then (λ b. option_map (beside_under b.number) (beside steps b.old b.new)) o)
  no_place e = sym (from_first None e)

  module _ (made : List ℕ) (k' l' : KindTree) (e : beside steps (kind_tree first.old.now) (kind_tree first.new.now) ≡ Some (record { numbers = made; old = k'; new = l' })) where
    pub no_alike_place : is_alike k' l' ≡ false → None ≡ option_and_then alike_where (option_and_then (λ b. option_map (beside_under b.number) (beside steps b.old b.new)) o)
    no_alike_place f = sym (from_first _ e ∙ ap (λ b. cond b (Some (place_from (first.number ∷ made))) None) f)

    pub alike_place : is_alike k' l' ≡ true → Some (record { frn = first.number; steps = made }) ≡ option_and_then alike_where (option_and_then (λ b. option_map (beside_under b.number) (beside steps b.old b.new)) o)
    alike_place t = sym (from_first _ e ∙ ap (λ b. cond b (Some (place_from (first.number ∷ made))) None) t)
