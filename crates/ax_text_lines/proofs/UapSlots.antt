-- The slots of a UAP, one after the other.
use Rattle.std.proofs.Common.{◌≡◌, ℕ, ◌+◌, ◌<◌, List, [], ◌∷◌, ◌++◌, length, take, map, arith, refl, sym, ◌∙◌, ap}
use Rattle.std.proofs.lemmas.List.{map-append, take_more}
use Rattle.ax_format.specs.Plain.{spec_tree}
use Rattle.ax_format.specs.Tree.{SlotTree}
use Rattle.ax_format.specs.declared.spec.Spec.{Spec}
use Rattle.ax_fspec.proofs.RecordSlots.{frn_at, frn_count}
use Rattle.ax_fspec.specs.Reading.{record_slot_list, slot_of_frn}
use Rattle.ax_text_lines.specs.HeldText.{text_slot}
use Rattle.ax_text_lines.specs.declared.held.TextSlot.{TextSlot}

pub item_held : (spec : Spec) (i : ℕ) (made later : List TextSlot) (one : TextSlot) → i < length spec.uap → map text_slot made ≡ take i (record_slot_list (spec_tree spec)) → text_slot one ≡ slot_of_frn (i + 1) spec → later ≡ made ++ one ∷ []
    → map text_slot later ≡ take (i + 1) (record_slot_list (spec_tree spec))
item_held spec i made later one lt h e is =
    let all : List SlotTree = record_slot_list (spec_tree spec) in
    let s : SlotTree = slot_of_frn (i + 1) spec in
    let here : take (i + 1) all ≡ take i all ++ s ∷ [] = take_more all i s (omega (arith, frn_count spec)) ∙ ap (λ x. take i all ++ x ∷ []) (sym (frn_at spec i (i + 1) lt refl)) in
    ap (map text_slot) is ∙ map-append text_slot made (one ∷ []) ∙ (λ k. h k ++ e k ∷ []) ∙ sym here
