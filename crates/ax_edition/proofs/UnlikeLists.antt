-- Lists of unlike lengths are not the same.
use Rattle.std.proofs.Common.{◌≡◌, ◌≢◌, suc, List, [], ◌∷◌, length, map, Bool, true, false, ◌&&◌, refl, ◌∙◌, ap}
use Rattle.ax_format.specs.Plain.{member_tree, members_tree, part_tree, slot_tree, slots_tree}
use Rattle.ax_format.specs.declared.kind.Member.{Member}
use Rattle.ax_format.specs.declared.kind.Part.{Part}
use Rattle.ax_format.specs.declared.kind.Slot.{Slot}
use Rattle.ax_format.specs.Same.{is_same_member, are_same_members, are_same_parts, is_same_slot, are_same_slots}

and_false : (b : Bool) → false ≡ b && false
and_false true = refl
and_false false = refl

pub members : (ms ns : List Member) → length ms ≢ length ns → false ≡ are_same_members (members_tree ms) (members_tree ns)
members [] [] ne = absurd (ne refl)
members [] (n ∷ ns) ne = refl
members (m ∷ ms) [] ne = refl
members (m ∷ ms) (n ∷ ns) ne = and_false (is_same_member (member_tree m) (member_tree n)) ∙ ap (λ b. is_same_member (member_tree m) (member_tree n) && b) (members ms ns (λ e. ne (ap suc e)))

pub parts : (ps qs : List Part) → length ps ≢ length qs → false ≡ are_same_parts (map part_tree ps) (map part_tree qs)
parts [] [] ne = absurd (ne refl)
parts [] (q ∷ qs) ne = refl
parts (p ∷ ps) [] ne = refl
parts (p ∷ ps) (q ∷ qs) ne = and_false (are_same_members (part_tree p) (part_tree q)) ∙ ap (λ b. are_same_members (part_tree p) (part_tree q) && b) (parts ps qs (λ e. ne (ap suc e)))

pub slots : (ss ts : List Slot) → length ss ≢ length ts → false ≡ are_same_slots (slots_tree ss) (slots_tree ts)
slots [] [] ne = absurd (ne refl)
slots [] (t ∷ ts) ne = refl
slots (s ∷ ss) [] ne = refl
slots (s ∷ ss) (t ∷ ts) ne = and_false (is_same_slot (slot_tree s) (slot_tree t)) ∙ ap (λ b. is_same_slot (slot_tree s) (slot_tree t) && b) (slots ss ts (λ e. ne (ap suc e)))
