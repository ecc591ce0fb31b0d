-- Slots by name and entries by number.
use Rattle.std.proofs.Common.{◌≡◌, ℕ, ◌+◌, ◌<◌, ◌≤◌, ◌==◌, Bool, true, false, cond, bytes_eq, List, Option, Some, None, refl, ◌∙◌, ap, arith}
use Rattle.std.proofs.lemmas.Bool.{eq-eqb, ne_eqb}
use Rattle.ax_relation.specs.Moved.{entry_where}
use Rattle.ax_format.specs.At.{slot_value}
use Rattle.ax_format.specs.Naming.{found_or, slot_named}
use Rattle.ax_format.specs.Tree.{KindTree, SlotsTree, no_slots, slot_and, spare_slot, subitem, ValueTree, EntriesTree, entry_and}

pub equal : (t s : ℕ) → t ≡ s → (t == s) ≡ true
equal t s e = eq-eqb t s e

pub less : (s t : ℕ) → s < t → (t == s) ≡ false
less s t h = ne_eqb t s (λ e. absurd (omega arith))

pub found_is : (p q : ℕ × KindTree) → Some p ≡ Some q → (p.0 ≡ q.0) × (p.1 ≡ q.1)
found_is p q e =
    let h : p ≡ q = cc in (ap (λ x. x.0) h, ap (λ x. x.1) h)

pub more : (t s : ℕ) → t < s → (t == s) ≡ false
more t s h = ne_eqb t s (λ e. absurd (omega arith))

-- what is found has at least the first slot's number
pub named_from : (n : ℕ) (name : List ℕ) (ts : SlotsTree) (t : ℕ) (l : KindTree) → slot_named n name ts ≡ Some (t, l) → n ≤ t
named_from n name no_slots t l e = cc
named_from n name (slot_and spare_slot ts) t l e = let h = named_from (n + 1) name ts t l e in omega arith
named_from n name (slot_and (subitem own k) ts) t l e = by (bytes_eq own name) (λ f. named_from (n + 1) name ts t l f) e
  where
    by : (b : Bool) → (slot_named (n + 1) name ts ≡ Some (t, l) → n + 1 ≤ t) → found_or (cond b (Some k) None) n (slot_named (n + 1) name ts) ≡ Some (t, l) → n ≤ t
    by true later e = let h = (found_is (n, k) (t, l) e).0 in omega arith
    by false later e = let h = later e in omega arith

pub value_here : (t : ℕ) (v : ValueTree) (es : EntriesTree) → slot_value t (entry_and t v es) ≡ Some v
value_here t v es = ap (λ b. cond b (Some v) (slot_value t es)) (equal t t refl)

pub value_later : (s t : ℕ) (o : Option ValueTree) (es : EntriesTree) → t < s → slot_value s (entry_where t o es) ≡ slot_value s es
value_later s t None es h = refl
value_later s t (Some v) es h = ap (λ b. cond b (Some v) (slot_value s es)) (ne_eqb t s (λ e. absurd (omega arith)))

pub value_before : (s t : ℕ) (o : Option ValueTree) (es : EntriesTree) → s < t → slot_value s es ≡ None → slot_value s (entry_where t o es) ≡ None
value_before s t None es h none = none
value_before s t (Some v) es h none = ap (λ b. cond b (Some v) (slot_value s es)) (less s t h) ∙ none

pub value_put : (t : ℕ) (o : Option ValueTree) (es : EntriesTree) → slot_value t es ≡ None → slot_value t (entry_where t o es) ≡ o
value_put t None es none = none
value_put t (Some v) es none = value_here t v es
