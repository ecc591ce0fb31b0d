-- The slots of an expansion without flaw are in bounds, and its form has a mark for each of them.
use Rattle.std.proofs.Common.{◌≡◌, ℕ, ◌*◌, ◌≤◌, ◌&&◌, Bool, true, false, List, [], ◌∷◌, ◌++◌, refl, sym, subst}
use Rattle.std.proofs.lemmas.Bool.{both_ways, ltb-false, le-leb}
use Rattle.std.specs.Prelude.{nat_le, nat_lt}
use Rattle.ax_format.proofs.Bounds.{record_bounds, bounds_sound}
use Rattle.ax_format.specs.Flaws.{flaw_where, flaws_of}
use Rattle.ax_format.specs.InBounds.{InBounds}
use Rattle.ax_format.specs.Paths.{at, three_digits}
use Rattle.ax_format.specs.Plain.{slots_tree}
use Rattle.ax_format.specs.Sound.{Sound}
use Rattle.ax_format.specs.Tree.{SlotsTree, slot_count, compound}
use Rattle.ax_format.specs.declared.flaw.Flaw.{Flaw}
use Rattle.ax_format.specs.declared.flaw.FlawKind.{FlawKind}
use Rattle.ax_format.specs.declared.flaw.FlawKind.TheVariants.{TooManySlots}
use Rattle.ax_expand.specs.Expansion.{ExpansionTree, re, wrapped, has_too_few_marks, mark_flaws, NoExpansionFlaw, HasNoExpansionFlaw}
use Rattle.ax_expand.specs.Fields.{HasMarks}
use Rattle.ax_expand.specs.declared.expansion.Expansion.{Expansion}
use Rattle.ax_expand.specs.declared.form.Form.{Form}
use Rattle.ax_expand.specs.declared.form.Form.TheVariants.{Fx, Fixed}

both_empty : (a b : List Flaw) → a ++ b ≡ [] → (a ≡ []) × (b ≡ [])
both_empty [] b e = (refl, e)
both_empty (x ∷ a) b e = absurd cc

not_held : (b : Bool) (kind : FlawKind) (path : List ℕ) → flaw_where b kind path ≡ [] → b ≡ false
not_held true kind path e = absurd cc
not_held false kind path e = refl

first_false : (b c : Bool) → (b && c) ≡ false → c ≡ true → b ≡ false
first_false true c e f = absurd (both_ways c e f)
first_false false c e f = refl

pub tree_bounds : (x : ExpansionTree) → NoExpansionFlaw x → InBounds (compound x.slots)
tree_bounds x h =
    let parts = both_empty (flaws_of (wrapped x)) (mark_flaws x) h.none in
    let item = record_bounds (wrapped x) (record { none = parts.0 }) in
    item.2.0

form_marks : (form : Form) (ss : SlotsTree) → has_too_few_marks form (slot_count ss) ≡ false → slot_count ss ≤ 126 → HasMarks form ss
form_marks Fx ss e few = tt
form_marks (Fixed n) ss e few = ltb-false (8 * n) (slot_count ss) (first_false (nat_lt (8 * n) (slot_count ss)) (nat_le (slot_count ss) 126) e (le-leb (slot_count ss) 126 few))

pub tree_marks : (x : ExpansionTree) → NoExpansionFlaw x → HasMarks x.form x.slots
tree_marks x h =
    let parts = both_empty (flaws_of (wrapped x)) (mark_flaws x) h.none in
    form_marks x.form x.slots (not_held (has_too_few_marks x.form (slot_count x.slots)) TooManySlots (at (three_digits x.category) re) parts.1) (tree_bounds x h).1

pub tree_sound : (x : ExpansionTree) → NoExpansionFlaw x → Sound (compound x.slots)
tree_sound x h = bounds_sound (compound x.slots) (tree_bounds x h)

-- ---- of the code's types, as they are reached

pub slots_in_bounds : (x y : Expansion) → x ≡ y → HasNoExpansionFlaw y → InBounds (compound (slots_tree x.slots))
slots_in_bounds x y e h = tree_bounds _ (subst HasNoExpansionFlaw (sym e) h)

pub form_has_marks : (x y : Expansion) → x ≡ y → HasNoExpansionFlaw y → HasMarks x.form (slots_tree x.slots)
form_has_marks x y e h = tree_marks _ (subst HasNoExpansionFlaw (sym e) h)

pub ruleset bounds = (slots_in_bounds, form_has_marks)
