-- The flaws of expansions as the code finds them, and what holds of an expansion without any.
use Rattle.std.proofs.Common.{◌≡◌, ℕ, Bool, false, List, ◌++◌, length, map, sym, ◌∙◌, ap, append-nil}
use Rattle.std.proofs.lemmas.List.{length-map}
use Rattle.ax_format.proofs.Bounds.{count_of_slots}
use Rattle.ax_format.specs.Flaws.{flaw_where}
use Rattle.ax_format.specs.Paths.{at, three_digits}
use Rattle.ax_format.specs.Plain.{slot_tree, slots_tree}
use Rattle.ax_format.specs.Tree.{slot_count}
use Rattle.ax_format.specs.declared.flaw.Flaw.{Flaw}
use Rattle.ax_format.specs.declared.flaw.FlawKind.TheVariants.{TooManySlots}
use Rattle.ax_format.specs.declared.kind.Slot.{Slot}
use Rattle.ax_expand.specs.Expansion.{re, expansion_tree, has_too_few_marks, mark_flaws}
use Rattle.ax_expand.specs.declared.expansion.Expansion.{Expansion}

-- the slots of the code are those of its tree
pub slots_counted : (slots : List Slot) → length slots ≡ slot_count (slots_tree slots)
slots_counted slots = sym (count_of_slots (map slot_tree slots) ∙ length-map slots slot_tree)

pub marks_enough : (x : Expansion) (found : List Flaw) (n : ℕ) (few : Bool) → n ≡ length x.slots → few ≡ has_too_few_marks x.form n → few ≡ false → found ≡ found ++ mark_flaws (expansion_tree x)
marks_enough x found n few count is unmet =
    let none : has_too_few_marks x.form (slot_count (slots_tree x.slots)) ≡ false = ap (has_too_few_marks x.form) (sym (count ∙ slots_counted x.slots)) ∙ sym is ∙ unmet in
    sym (append-nil found) ∙ ap (λ b. found ++ flaw_where b TooManySlots (at (three_digits x.category) re)) (sym none)
