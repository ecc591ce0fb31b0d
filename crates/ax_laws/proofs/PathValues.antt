-- What stands at a named path: a kind whose scales are sound, and an entry of that kind.
use Rattle.std.proofs.Common.{◌≡◌, ℕ, ◌+◌, Bool, true, false, cond, bytes_eq, List, [], ◌∷◌, map, Option, Some, None, option_and_then, refl, sym, ◌∙◌, ap, subst}
use Rattle.std.specs.List.{AllByRecursion}
use Rattle.ax_format.specs.At.{slot_value}
use Rattle.ax_format.specs.Flaws.{NoFlaw}
use Rattle.ax_format.specs.Named.{NamedEntry, own_entry, kind_at, entry_at}
use Rattle.ax_format.specs.Naming.{found_or, kind_named, slot_named}
use Rattle.ax_format.specs.Specification.{ItemTree, SpecTree, first_named, slot_of_item, uap_slot, record_kind}
use Rattle.ax_format.specs.Tree.{KindTree, compound, SlotTree, SlotsTree, no_slots, slot_and, spare_slot, subitem, slots_of, ValueTree, marked}
use Rattle.ax_format.specs.declared.spec.UapSlot.{UapSlot}
use Rattle.ax_format.specs.declared.spec.UapSlot.TheVariants as Uap
use Rattle.ax_rescale.proofs.ScaledKinds.{without_flaw_scaled}
use Rattle.ax_rescale.specs.Scales.{Scaled, SlotScaled, SlotsScaled}

-- ---- scales

found_scaled : (name : List ℕ) (items : List ItemTree) → AllByRecursion (λ (item : ItemTree). Scaled item.kind) items → SlotScaled (slot_of_item (first_named name items))
found_scaled name [] h = tt
found_scaled name (item ∷ items) h = by (bytes_eq item.name name) (found_scaled name items h.1)
  where
    by : (b : Bool) → SlotScaled (slot_of_item (first_named name items)) → SlotScaled (slot_of_item (cond b (Some item) (first_named name items)))
    by true later = h.0
    by false later = later

uap_scaled : (items : List ItemTree) (uap : List UapSlot) → AllByRecursion (λ (item : ItemTree). Scaled item.kind) items → SlotsScaled (slots_of (map (uap_slot items) uap))
uap_scaled items [] h = tt
uap_scaled items (Uap.Spare ∷ uap) h = (tt, uap_scaled items uap h)
uap_scaled items (Uap.Item name ∷ uap) h = (found_scaled name items h, uap_scaled items uap h)

slot_kind_scaled : (n : ℕ) (name : List ℕ) (ss : SlotsTree) (s : ℕ × KindTree) → slot_named n name ss ≡ Some s → SlotsScaled ss → Scaled s.1
slot_kind_scaled n name no_slots s e h = cc
slot_kind_scaled n name (slot_and slot ss) s e h = by slot h.0 (λ f. slot_kind_scaled (n + 1) name ss s f h.1) e
  where
    here : (b : Bool) (k : KindTree) → Scaled k → (slot_named (n + 1) name ss ≡ Some s → Scaled s.1) → found_or (cond b (Some k) None) n (slot_named (n + 1) name ss) ≡ Some s → Scaled s.1
    here true k scaled later f = let P : (ℕ × KindTree) → Type 0 = λ x. Scaled x.1 in let same : ◌≡◌ {A = ℕ × KindTree} (n, k) s = cc in subst P same scaled
    here false k scaled later f = later f

    by : (slot : SlotTree) → SlotScaled slot → (slot_named (n + 1) name ss ≡ Some s → Scaled s.1) → found_or (kind_named name slot) n (slot_named (n + 1) name ss) ≡ Some s → Scaled s.1
    by spare_slot scaled later f = later f
    by (subitem own k) scaled later f = here (bytes_eq own name) k scaled later f

path_scaled : (names : List (List ℕ)) (k l : KindTree) → Scaled k → kind_at names k ≡ Some l → Scaled l
path_scaled [] k l h e = let same : k ≡ l = cc in subst Scaled same h
path_scaled (name ∷ names) (compound ss) l h e = by (slot_named 1 name ss) refl (λ s f g. path_scaled names s.1 l f g) e
  where
    by : (o : Option (ℕ × KindTree)) → slot_named 1 name ss ≡ o → ((s : ℕ × KindTree) → Scaled s.1 → kind_at names s.1 ≡ Some l → Scaled l) → option_and_then (λ s. kind_at names s.1) o ≡ Some l → Scaled l
    by None f later g = absurd cc
    by (Some s) f later g = later s (slot_kind_scaled 1 name ss s f h) g
path_scaled (name ∷ names) k l h e = absurd cc

pub kind_scaled : (spec : SpecTree) (names : List (List ℕ)) (k : KindTree) → NoFlaw spec → kind_at names (record_kind spec) ≡ Some k → Scaled k
kind_scaled spec names k clean e = path_scaled names (record_kind spec) k (uap_scaled spec.items spec.uap (without_flaw_scaled spec clean)) e

-- ---- the entry

pub entry_is : (names : List (List ℕ)) (k : KindTree) (v : ValueTree) (l : KindTree) (entry : NamedEntry) → entry_at None names k v ≡ Some entry → kind_at names k ≡ Some l → (value : ValueTree) × (entry ≡ own_entry l value)
entry_is [] k v l entry e f =
    let here : own_entry k v ≡ entry = cc in
    let same : k ≡ l = cc in (v, sym here ∙ ap (λ x. own_entry x v) same)
entry_is (name ∷ names) (compound ss) (marked es) l entry e f = by (slot_named 1 name ss) (λ s v g h. entry_is names s.1 v l entry g h) e f
  where
    by_value : (s : ℕ × KindTree) (o : Option ValueTree) → ((v : ValueTree) → entry_at None names s.1 v ≡ Some entry → (value : ValueTree) × (entry ≡ own_entry l value)) → option_and_then (entry_at None names s.1) o ≡ Some entry → (value : ValueTree) × (entry ≡ own_entry l value)
    by_value s None later g = absurd cc
    by_value s (Some v) later g = later v g

    by : (o : Option (ℕ × KindTree)) → ((s : ℕ × KindTree) (v : ValueTree) → entry_at None names s.1 v ≡ Some entry → kind_at names s.1 ≡ Some l → (value : ValueTree) × (entry ≡ own_entry l value))
        → option_and_then (λ s. option_and_then (entry_at None names s.1) (slot_value s.0 es)) o ≡ Some entry → option_and_then (λ s. kind_at names s.1) o ≡ Some l → (value : ValueTree) × (entry ≡ own_entry l value)
    by None later g h = absurd cc
    by (Some s) later g h = by_value s (slot_value s.0 es) (λ v k. later s v k h) g
entry_is (name ∷ names) k v l entry e f = absurd cc
