-- Slot numbers to which names lead in the one edition lead in the other where the names do.
use Rattle.std.proofs.Common.{◌≡◌, ℕ, suc, ◌+◌, Bool, true, false, cond, bytes_eq, List, [], ◌∷◌, Option, Some, None, option_map, option_and_then, refl, sym, ◌∙◌, ap, arith}
use Rattle.ax_relation.proofs.Lookups.{found_is}
use Rattle.ax_relation.proofs.SameKinds.{bytes_same}
use Rattle.ax_format.specs.Named.{kind_at}
use Rattle.ax_format.specs.Naming.{found_or, slot_named}
use Rattle.ax_format.specs.Placed.{steps_at}
use Rattle.ax_format.specs.Tree.{KindTree, fixed, extended, counted, by_fx, explicit, compound, SlotsTree, no_slots, slot_and, spare_slot, subitem}
use Rattle.ax_rescale.specs.Beside.{nth_named, slot_numbered, found_beside, step_beside, Beside, beside_under, beside}

-- ---- one slot

record Nth (n : ℕ) (name : List ℕ) (ss : SlotsTree) (s : ℕ × KindTree) : Type 0 where
  before : ℕ
  counted : s.0 ≡ n + before
  is : nth_named before ss ≡ Some (name, s.1)

nth_of : (n : ℕ) (name : List ℕ) (ss : SlotsTree) (s : ℕ × KindTree) → slot_named n name ss ≡ Some s → Nth n name ss s
nth_of n name no_slots s e = cc
nth_of n name (slot_and spare_slot ss) s e = let h = nth_of (n + 1) name ss s e in record { before = suc h.before; counted = let c = h.counted in omega (arith, c); is = h.is }
nth_of n name (slot_and (subitem own k) ss) s e = by (bytes_eq own name) refl e (λ f. nth_of (n + 1) name ss s f)
  where
    by : (b : Bool) → bytes_eq own name ≡ b → found_or (cond b (Some k) None) n (slot_named (n + 1) name ss) ≡ Some s → (slot_named (n + 1) name ss ≡ Some s → Nth (n + 1) name ss s) → Nth n name (slot_and (subitem own k) ss) s
    by true q e later =
        let f = found_is (n, k) s e in
        record { before = 0; counted = sym f.0 ∙ omega arith; is = λ i. Some (bytes_same own name q i, f.1 i) }
    by false q e later = let h = later e in record { before = suc h.before; counted = let c = h.counted in omega (arith, c); is = h.is }

numbered_named : (name : List ℕ) (ss : SlotsTree) (s : ℕ × KindTree) → slot_named 1 name ss ≡ Some s → slot_numbered s.0 ss ≡ Some (name, s.1)
numbered_named name ss s e =
    let h = nth_of 1 name ss s e in
    let c : s.0 ≡ suc h.before = let d = h.counted in omega (arith, d) in ap (λ n. slot_numbered n ss) c ∙ h.is

step_named : (name : List ℕ) (ss ts : SlotsTree) (s : ℕ × KindTree) → slot_named 1 name ss ≡ Some s → step_beside s.0 (compound ss) (compound ts) ≡ option_map (found_beside s.1) (slot_named 1 name ts)
step_named name ss ts s e = ap (option_and_then (λ (o : List ℕ × KindTree). option_map (found_beside o.1) (slot_named 1 o.0 ts))) (numbered_named name ss s e)

-- ---- all names

-- where the names lead in the new edition, if they do
abbrev pub led : KindTree → Option (List ℕ) → Option KindTree → Option Beside
led k (Some numbers) (Some l) = Some (record { numbers = numbers; old = k; new = l })
led k _ _ = None

led_nowhere : (k : KindTree) (o : Option KindTree) → led k None o ≡ None
led_nowhere k o = refl

led_under : (n : ℕ) (k : KindTree) (o : Option (List ℕ)) (p : Option KindTree) → option_map (beside_under n) (led k o p) ≡ led k (option_map (λ steps. n ∷ steps) o) p
led_under n k None p = refl
led_under n k (Some numbers) None = refl
led_under n k (Some numbers) (Some l) = refl

module _ (name : List ℕ) (names : List (List ℕ)) (kind : KindTree) (below : (k l : KindTree) (numbers : List ℕ) → steps_at names k ≡ Some numbers → kind_at names k ≡ Some kind → beside numbers k l ≡ led kind (steps_at names l) (kind_at names l)) where
  in_slots : (ss ts : SlotsTree) (s : ℕ × KindTree) (steps : List ℕ) → slot_named 1 name ss ≡ Some s → steps_at names s.1 ≡ Some steps → kind_at names s.1 ≡ Some kind → (o : Option (ℕ × KindTree)) → slot_named 1 name ts ≡ o
      → option_and_then (λ b. option_map (beside_under b.number) (beside steps b.old b.new)) (option_map (found_beside s.1) o) ≡ led kind (option_and_then (λ t. option_map (λ ms. t.0 ∷ ms) (steps_at names t.1)) o) (option_and_then (λ t. kind_at names t.1) o)
  in_slots ss ts s steps found st kd None e = refl
  in_slots ss ts s steps found st kd (Some t) e = ap (option_map (beside_under t.0)) (below s.1 t.1 steps st kd) ∙ led_under t.0 kind (steps_at names t.1) (kind_at names t.1)

  in_kinds : (ss : SlotsTree) (l : KindTree) (s : ℕ × KindTree) (steps : List ℕ) → slot_named 1 name ss ≡ Some s → steps_at names s.1 ≡ Some steps → kind_at names s.1 ≡ Some kind
      → beside (s.0 ∷ steps) (compound ss) l ≡ led kind (steps_at (name ∷ names) l) (kind_at (name ∷ names) l)
  in_kinds ss (compound ts) s steps found st kd =
      ap (option_and_then (λ b. option_map (beside_under b.number) (beside steps b.old b.new))) (step_named name ss ts s found) ∙ in_slots ss ts s steps found st kd (slot_named 1 name ts) refl
  in_kinds ss (fixed g) s steps found st kd = refl
  in_kinds ss (extended last qs) s steps found st kd = refl
  in_kinds ss (counted size l) s steps found st kd = refl
  in_kinds ss (by_fx g) s steps found st kd = refl
  in_kinds ss explicit s steps found st kd = refl

  by_steps : (ss : SlotsTree) (l : KindTree) (numbers : List ℕ) (s : ℕ × KindTree) (o : Option (List ℕ)) → slot_named 1 name ss ≡ Some s → steps_at names s.1 ≡ o → option_map (λ ms. s.0 ∷ ms) o ≡ Some numbers → kind_at names s.1 ≡ Some kind
      → beside numbers (compound ss) l ≡ led kind (steps_at (name ∷ names) l) (kind_at (name ∷ names) l)
  by_steps ss l numbers s None found st e kd = cc
  by_steps ss l numbers s (Some steps) found st e kd =
      let same : s.0 ∷ steps ≡ numbers = cc in ap (λ x. beside x (compound ss) l) (sym same) ∙ in_kinds ss l s steps found st kd

  by_found : (ss : SlotsTree) (l : KindTree) (numbers : List ℕ) (o : Option (ℕ × KindTree)) → slot_named 1 name ss ≡ o → option_and_then (λ s. option_map (λ ms. s.0 ∷ ms) (steps_at names s.1)) o ≡ Some numbers
      → option_and_then (λ s. kind_at names s.1) o ≡ Some kind → beside numbers (compound ss) l ≡ led kind (steps_at (name ∷ names) l) (kind_at (name ∷ names) l)
  by_found ss l numbers None found e f = cc
  by_found ss l numbers (Some s) found e f = by_steps ss l numbers s (steps_at names s.1) found refl e f

pub beside_named : (names : List (List ℕ)) (kind k l : KindTree) (numbers : List ℕ) → steps_at names k ≡ Some numbers → kind_at names k ≡ Some kind → beside numbers k l ≡ led kind (steps_at names l) (kind_at names l)
beside_named [] kind k l numbers e f =
    let none : [] ≡ numbers = cc in
    let same : k ≡ kind = cc in ap (λ x. beside x k l) (sym none) ∙ (λ i. Some (record { numbers = []; old = same i; new = l }))
beside_named (name ∷ names) kind (compound ss) l numbers e f = by_found name names kind (λ k l numbers. beside_named names kind k l numbers) ss l numbers (slot_named 1 name ss) refl e f
beside_named (name ∷ names) kind (fixed g) l numbers e f = cc
beside_named (name ∷ names) kind (extended last ps) l numbers e f = cc
beside_named (name ∷ names) kind (counted size k) l numbers e f = cc
beside_named (name ∷ names) kind (by_fx g) l numbers e f = cc
beside_named (name ∷ names) kind explicit l numbers e f = cc
