-- The converted record has the new edition's shape.
use Rattle.std.proofs.Common.{◌≡◌, ℕ, ◌+◌, Bool, true, false, cond, List, Option, Some, None, option_and_then, refl, subst}
use Rattle.ax_relation.proofs.CommonParts.{first_shape}
use Rattle.ax_relation.proofs.MovedShape.{slot_shape, in_front}
use Rattle.ax_relation.proofs.SameKinds.{same_kinds}
use Rattle.ax_relation.proofs.SameShape.{same_shape}
use Rattle.ax_format.specs.At.{slot_value}
use Rattle.ax_format.specs.Bodies.{RecordShape}
use Rattle.ax_format.specs.Naming.{slot_named}
use Rattle.ax_format.specs.Shape.{Shape, EntriesShape}
use Rattle.ax_format.specs.Shared.{is_shared_kind}
use Rattle.ax_format.specs.Specification.{SpecTree, record_slots}
use Rattle.ax_format.specs.Tree.{KindTree, fixed, extended, counted, by_fx, explicit, compound, SlotsTree, no_slots, slot_and, spare_slot, subitem, ValueTree, part_values, marked, EntriesTree}
use Rattle.ax_rescale.proofs.AlikeKinds.{alike_kinds}
use Rattle.ax_rescale.proofs.ConversionNamed.{source_value, new_value}
use Rattle.ax_rescale.proofs.ConvertedShape.{converted_shape}
use Rattle.ax_rescale.proofs.ValueFunction.{is_value}
use Rattle.ax_rescale.specs.Alike.{is_alike}
use Rattle.ax_rescale.specs.ConvertedRecord.{slot_gets, passes, passing_entries, converted_record}
use Rattle.ax_rescale.specs.ConvertedValue.{converted_value}

new_shape : (name : List ℕ) (l : KindTree) (ss : SlotsTree) (es : EntriesTree) → EntriesShape 1 ss es → ((k : KindTree) (w : ValueTree) → is_shared_kind k l ≡ true → Shape k w → Shape l (passes l k w))
    → (v : ValueTree) → new_value name l ss es ≡ Some v → Shape l v
new_shape name l ss es h shape v e = by_slot (slot_named 1 name ss) refl e
  where
    by_gets : (k : KindTree) (w : ValueTree) (b c : Bool) → is_shared_kind k l ≡ b → is_alike k l ≡ c → Shape k w → cond b (Some (passes l k w)) (cond c (converted_value k l w) None) ≡ Some v → Shape l v
    by_gets k w true c shared alike at e =
        let w_is : passes l k w ≡ v = cc in
        let P : ValueTree → Type 0 = λ x. Shape l x in subst P w_is (shape k w shared at)
    by_gets k w false true shared alike at e = converted_shape k l w v (alike_kinds k l alike) at (is_value k l w v e)
    by_gets k w false false shared alike at e = cc

    by_value : (s : ℕ × KindTree) (o : Option ValueTree) → slot_named 1 name ss ≡ Some s → slot_value s.0 es ≡ o → option_and_then (λ w. slot_gets s.1 l w (passes l s.1 w)) o ≡ Some v → Shape l v
    by_value s None found at e = cc
    by_value s (Some w) found at e = by_gets s.1 w (is_shared_kind s.1 l) (is_alike s.1 l) refl refl (slot_shape 1 name ss es s.0 s.1 w found h at) e

    by_slot : (o : Option (ℕ × KindTree)) → slot_named 1 name ss ≡ o → option_and_then (source_value l es) o ≡ Some v → Shape l v
    by_slot None found e = cc
    by_slot (Some s) found e = by_value s (slot_value s.0 es) found refl e

mutual
  passes_shape : (l k : KindTree) (v : ValueTree) → is_shared_kind k l ≡ true → Shape k v → Shape l (passes l k v)
  passes_shape (compound ts) (compound ss) (marked es) e h = passing_shape 1 ts ss es h
  passes_shape (compound ts) (compound ss) _ e h = absurd h
  passes_shape (fixed g) (fixed f) v e h = same_shape (fixed f) (fixed g) v (same_kinds (fixed f) (fixed g) e) h
  passes_shape (extended last qs) (extended other ps) (part_values ls) e h = first_shape ps qs ls e h
  passes_shape (extended last qs) (extended other ps) _ e h = absurd h
  passes_shape (counted size l) (counted other k) v e h = same_shape (counted other k) (counted size l) v (same_kinds (counted other k) (counted size l) e) h
  passes_shape (by_fx g) (by_fx f) v e h = same_shape (by_fx f) (by_fx g) v (same_kinds (by_fx f) (by_fx g) e) h
  passes_shape explicit explicit v e h = h
  passes_shape _ _ v e h = cc

  passing_shape : (n : ℕ) (ts ss : SlotsTree) (es : EntriesTree) → EntriesShape 1 ss es → EntriesShape n ts (passing_entries n ts ss es)
  passing_shape n no_slots ss es h = tt
  passing_shape n (slot_and spare_slot ts) ss es h = passing_shape (n + 1) ts ss es h
  passing_shape n (slot_and (subitem name l) ts) ss es h =
      in_front n name l ts (new_value name l ss es) (passing_entries (n + 1) ts ss es) (new_shape name l ss es h (λ k w. passes_shape l k w)) (passing_shape (n + 1) ts ss es h)

pub record_shape : (old new : SpecTree) (es : EntriesTree) → RecordShape old es → RecordShape new (converted_record old new es)
record_shape old new es h = record { shape = passing_shape 1 (record_slots new) (record_slots old) es h.shape }
