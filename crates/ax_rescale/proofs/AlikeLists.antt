-- Lists of unlike lengths aren't alike.
use Rattle.std.proofs.Common.{◌≡◌, ◌≢◌, suc, List, [], ◌∷◌, length, Bool, true, false, ◌&&◌, refl, ap}
use Rattle.ax_format.specs.Plain.{member_tree, members_tree, slot_tree, slots_tree}
use Rattle.ax_format.specs.Same.{is_same_member, are_same_members, is_same_slot, are_same_slots}
use Rattle.ax_format.specs.declared.kind.Member.{Member}
use Rattle.ax_format.specs.declared.kind.Slot.{Slot}
use Rattle.ax_rescale.specs.Alike.{unscaled_member, unscaled_members, unscaled_slot, unscaled_slots}

and_false : (b c : Bool) → false ≡ c → false ≡ b && c
and_false true c e = e
and_false false c e = refl

pub members : (ms ns : List Member) → length ms ≢ length ns → false ≡ are_same_members (unscaled_members (members_tree ms)) (unscaled_members (members_tree ns))
members [] [] ne = absurd (ne refl)
members [] (n ∷ ns) ne = refl
members (m ∷ ms) [] ne = refl
members (m ∷ ms) (n ∷ ns) ne = and_false (is_same_member (unscaled_member (member_tree m)) (unscaled_member (member_tree n))) (are_same_members (unscaled_members (members_tree ms)) (unscaled_members (members_tree ns))) (members ms ns (λ e. ne (ap suc e)))

pub slots : (ss ts : List Slot) → length ss ≢ length ts → false ≡ are_same_slots (unscaled_slots (slots_tree ss)) (unscaled_slots (slots_tree ts))
slots [] [] ne = absurd (ne refl)
slots [] (t ∷ ts) ne = refl
slots (s ∷ ss) [] ne = refl
slots (s ∷ ss) (t ∷ ts) ne = and_false (is_same_slot (unscaled_slot (slot_tree s)) (unscaled_slot (slot_tree t))) (are_same_slots (unscaled_slots (slots_tree ss)) (unscaled_slots (slots_tree ts))) (slots ss ts (λ e. ne (ap suc e)))
