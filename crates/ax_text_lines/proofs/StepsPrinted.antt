-- TemplateSteps printed one after the other.
use Rattle.std.proofs.Common.{◌≡◌, ℕ, ◌+◌, ◌*◌, ◌^◌, ◌<◌, ◌≤◌, List, [], ◌∷◌, ◌++◌, Option, Some, None, length, take, drop, get_or, decimal, IfSome, refl, sym, ◌∙◌, ap, arith, subst, append_assoc, append-nil}
use Rattle.std.proofs.lemmas.List.{drop-drop, drop_all}
use Rattle.ax_bits.proofs.Pieces.{number-word}
use Rattle.ax_bits.specs.Bits.{number_of, word}
use Rattle.ax_format.specs.InBounds.{IsWidth, FixedInBounds, MembersInBounds}
use Rattle.ax_format.specs.Lengths.{capped}
use Rattle.ax_format.specs.Reader.{fixed_value, members_value}
use Rattle.ax_format.specs.Sizes.{longest_body}
use Rattle.ax_format.specs.Tree.{FixedTree, MembersTree, ValueTree, fixed, named, subitem}
use Rattle.ax_format.specs.Widths.{width, members_width}
use Rattle.ax_text_form.proofs.Printed.{both_put, from_place}
use Rattle.ax_text_form.specs.Printing.{after_spaces, Puts}
use Rattle.ax_text_form.specs.Slots.{slot_onto}
use Rattle.ax_text_form.specs.ValueText.{one_onto, fixed_onto, part_onto}
use Rattle.ax_text_lines.proofs.Digits.{put_twice}
use Rattle.ax_text_lines.proofs.TemplateTexts.{printed_before, width_before, bounds_before, bounds_behind, steps_are, steps_bounds, steps_width, fixed_put, named_bounds, named_width, named_put, part_bounds, part_width, part_put}
use Rattle.ax_text_lines.specs.Templates.{Template, ends, fixed_template, member_template, part_template, printed, template_width, TemplateInBounds, with_number, step_then, steps_then, template_of, whole_template, number_width, number_text, NumberInBounds, AreSteps}
use Rattle.ax_text_lines.specs.declared.templates.TemplateStep.{TemplateStep}
use Rattle.ax_text_lines.specs.declared.templates.TemplateSteps.{TemplateSteps}

-- ---- a number

pub digits_put : (b : List ℕ) (at w n : ℕ) (old new : List ℕ) → n < 2 ^ w → word w n ≡ take w (drop at b) → new ≡ old ++ decimal n → new ≡ old ++ decimal (number_of (take w (drop at b)))
digits_put b at w n old new lt e p = p ∙ ap (λ n. old ++ decimal n) (sym (number-word w n lt) ∙ ap number_of e)

pub none_put : (b old : List ℕ) (o : Option ℕ) → o ≡ None → old ≡ old ++ number_text o b
none_put b old o is = sym (append-nil old) ∙ ap (λ o. old ++ number_text o b) (sym is)

pub some_put : (b old new : List ℕ) (o : Option ℕ) (w : ℕ) → o ≡ Some w → new ≡ old ++ decimal (number_of (take w b)) → new ≡ old ++ number_text o b
some_put b old new o w is e = e ∙ ap (λ o. old ++ number_text o b) (sym is)

pub none_wide : (o : Option ℕ) (at : ℕ) → o ≡ None → at ≡ at + number_width o
none_wide o at is = (let e : at ≡ at + 0 = omega arith in e) ∙ ap (λ o. at + number_width o) (sym is)

pub some_wide : (o : Option ℕ) (w at : ℕ) → o ≡ Some w → at + w ≡ at + number_width o
some_wide o w at is = ap (λ o. at + number_width o) (sym is)

pub some_bounds : (o : Option ℕ) (w : ℕ) → o ≡ Some w → NumberInBounds o → IsWidth w
some_bounds o w is h = subst NumberInBounds is h

pub some_within : (o : Option ℕ) (w at n : ℕ) → o ≡ Some w → at + number_width o ≤ n → at + w ≤ n
some_within o w at n is h = subst (λ o. at + number_width o ≤ n) is h

pub ruleset ways = (none_put, some_put, none_wide, some_wide, some_bounds, some_within)

-- ---- a step

pub ruleset step = (put_twice)

pub with_printed : (xs : List ℕ) (o : Option ℕ) (r : Template) (b : List ℕ) → printed (with_number xs o r) b ≡ (xs ++ number_text o b) ++ printed r (drop (number_width o) b)
with_printed xs None r b = printed_before xs r b ∙ ap (λ t. t ++ printed r b) (sym (append-nil xs))
with_printed xs (Some w) r b = sym (append_assoc xs (decimal (number_of (take w b))) (printed r (drop w b)))

pub with_width : (xs : List ℕ) (o : Option ℕ) (r : Template) → template_width (with_number xs o r) ≡ number_width o + template_width r
with_width xs None r = width_before xs r ∙ (let e : template_width r ≡ 0 + template_width r = omega arith in e)
with_width xs (Some w) r = refl

pub with_bounds : (xs : List ℕ) (o : Option ℕ) (r : Template) → TemplateInBounds (with_number xs o r) → NumberInBounds o × TemplateInBounds r
with_bounds xs None r h = (tt, bounds_behind xs r h)
with_bounds xs (Some w) r h = h

with_in_bounds : (xs : List ℕ) (o : Option ℕ) (r : Template) → NumberInBounds o → TemplateInBounds r → TemplateInBounds (with_number xs o r)
with_in_bounds xs None r n h = bounds_before xs r h
with_in_bounds xs (Some w) r n h = (n, h)

-- ---- steps so far

-- the steps before place i are printed, with their numbers from bit start up to bit at
pub record StepsPrinted (all : List TemplateStep) (i : ℕ) (b : List ℕ) (start at : ℕ) (old now : List ℕ) : Type 0 where
  pub bounds : TemplateInBounds (template_of (drop i all))
  pub width : at + template_width (template_of (drop i all)) ≡ start + template_width (template_of all)
  pub text : now ++ printed (template_of (drop i all)) (drop at b) ≡ old ++ printed (template_of all) (drop start b)

pub steps_begun : (all : List TemplateStep) (b : List ℕ) (start : ℕ) (out : List ℕ) → TemplateInBounds (template_of all) → StepsPrinted all 0 b start start out out
steps_begun all b start out h = record { bounds = h; width = refl; text = refl }

module _ (all : List TemplateStep) (i : ℕ) (s : TemplateStep) (b : List ℕ) (start at : ℕ) (old now : List ℕ) (h : StepsPrinted all i b start at old now) (lt : i < length all) (e : s ≡ get_or all i s) where
  from : template_of (drop i all) ≡ step_then s (template_of (drop (i + 1) all))
  from = ap template_of (from_place all i s lt e)

  parts : NumberInBounds s.number × TemplateInBounds (template_of (drop (i + 1) all))
  parts = with_bounds (take s.literal.count s.literal.octets) s.number (template_of (drop (i + 1) all)) (subst TemplateInBounds from h.bounds)

  wide : template_width (template_of (drop i all)) ≡ number_width s.number + template_width (template_of (drop (i + 1) all))
  wide = ap template_width from ∙ with_width (take s.literal.count s.literal.octets) s.number (template_of (drop (i + 1) all))

  pub step_bounds : NumberInBounds s.number
  step_bounds = parts.0

  pub step_within : at + number_width s.number ≤ start + template_width (template_of all)
  step_within = omega (arith, wide, h.width)

  pub steps_go_on : (next : ℕ) (new : List ℕ) → new ≡ now ++ (take s.literal.count s.literal.octets ++ number_text s.number (drop at b)) → next ≡ at + number_width s.number → StepsPrinted all (i + 1) b start next old new
  steps_go_on next new p g =
      let xs = take s.literal.count s.literal.octets in
      let later = template_of (drop (i + 1) all) in
      let text = xs ++ number_text s.number (drop at b) in
      let place : drop (number_width s.number) (drop at b) ≡ drop next b = drop-drop (number_width s.number) at b ∙ ap (λ k. drop k b) (sym g) in
      let one : printed (template_of (drop i all)) (drop at b) ≡ text ++ printed later (drop next b) = ap (λ t. printed t (drop at b)) from ∙ with_printed xs s.number later (drop at b) ∙ ap (λ c. text ++ printed later c) place in
      record {
        bounds = parts.1;
        width = omega (arith, wide, h.width, g);
        text = ap (λ t. t ++ printed later (drop next b)) p ∙ append_assoc now text (printed later (drop next b)) ∙ ap (λ t. now ++ t) (sym one) ∙ h.text;
      }

pub steps_over : (all : List TemplateStep) (i : ℕ) (b : List ℕ) (start at : ℕ) (old now : List ℕ) → StepsPrinted all i b start at old now → length all ≤ i → now ≡ old ++ printed (template_of all) (drop start b)
steps_over all i b start at old now h past = sym (append-nil now) ∙ ap (λ ss. now ++ printed (template_of ss) (drop at b)) (sym (drop_all i all past)) ∙ h.text

pub ruleset loops = (steps_begun, step_bounds, step_within, steps_go_on, steps_over)

-- ---- the octets after the steps

pub printed_tail : (ss : List TemplateStep) (xs b : List ℕ) → printed (steps_then ss (ends xs)) b ≡ printed (template_of ss) b ++ xs
printed_tail [] xs b = refl
printed_tail (s ∷ ss) xs b =
    let lit = take s.literal.count s.literal.octets in
    let text = lit ++ number_text s.number b in
    let later = drop (number_width s.number) b in
    with_printed lit s.number (steps_then ss (ends xs)) b ∙ ap (λ t. text ++ t) (printed_tail ss xs later)
    ∙ sym (append_assoc text (printed (template_of ss) later) xs) ∙ ap (λ t. t ++ xs) (sym (with_printed lit s.number (template_of ss) b))

pub width_tail : (ss : List TemplateStep) (xs : List ℕ) → template_width (template_of ss) ≡ template_width (steps_then ss (ends xs))
width_tail [] xs = refl
width_tail (s ∷ ss) xs =
    let lit = take s.literal.count s.literal.octets in
    with_width lit s.number (template_of ss) ∙ ap (λ n. number_width s.number + n) (width_tail ss xs) ∙ sym (with_width lit s.number (steps_then ss (ends xs)))

bounds_tail : (ss : List TemplateStep) (xs : List ℕ) → TemplateInBounds (steps_then ss (ends xs)) → TemplateInBounds (template_of ss)
bounds_tail [] xs h = tt
bounds_tail (s ∷ ss) xs h =
    let lit = take s.literal.count s.literal.octets in
    let both = with_bounds lit s.number (steps_then ss (ends xs)) h in with_in_bounds lit s.number (template_of ss) both.0 (bounds_tail ss xs both.1)

module _ (s : TemplateSteps) (ss : List TemplateStep) (same : ss ≡ s.steps) where
  abbrev tail : List ℕ
  tail = take s.tail.count s.tail.octets

  pub whole_bounds : TemplateInBounds (whole_template s) → TemplateInBounds (template_of ss)
  whole_bounds h = subst (λ ss. TemplateInBounds (template_of ss)) (sym same) (bounds_tail s.steps tail h)

  pub whole_wide : (w : ℕ) → template_width (whole_template s) ≡ w → template_width (template_of ss) ≡ w
  whole_wide w e = ap (λ ss. template_width (template_of ss)) same ∙ width_tail s.steps tail ∙ e

  pub whole_put : (b first mid last : List ℕ) (at n m : ℕ) → take n mid ≡ take at first ++ printed (template_of ss) b → take m last ≡ take n mid ++ take s.tail.count s.tail.octets → take m last ≡ take at first ++ printed (whole_template s) b
  whole_put b first mid last at n m p q =
      put_twice first mid last (printed (template_of ss) b) tail at n m p q ∙ ap (λ t. take at first ++ t) (ap (λ ss. printed (template_of ss) b ++ tail) same ∙ sym (printed_tail s.steps tail b))

pub ruleset wholes = (whole_bounds, whole_wide, whole_put)

-- ---- what is held of a fixed kind, and of a part

module _ (f : FixedTree) (o : Option TemplateSteps) (ss : TemplateSteps) (made : IfSome o (λ ss. AreSteps (fixed_template f (ends [])) ss)) (is : o ≡ Some ss) where
  fixed_steps : whole_template ss ≡ fixed_template f (ends [])
  fixed_steps = steps_are (fixed_template f (ends [])) ss (subst (λ o. IfSome o (λ ss. AreSteps (fixed_template f (ends [])) ss)) is made)

  pub held_bounds : FixedInBounds f → TemplateInBounds (whole_template ss)
  held_bounds h = steps_bounds f ss fixed_steps h

  pub held_wide : (at n w : ℕ) → w ≡ capped (width f) → at + width f ≤ 8 * n → n ≤ longest_body → template_width (whole_template ss) ≡ w
  held_wide at n w wide within long = steps_width f ss fixed_steps ∙ omega (arith, wide, within, long)

  pub held_put : (b old new : List ℕ) → new ≡ old ++ printed (whole_template ss) b → Puts after_spaces (fixed_onto f (fixed_value f b)) old new
  held_put b old new e = fixed_put f ss b old new fixed_steps e

module _ (p : MembersTree) (o : Option TemplateSteps) (ss : TemplateSteps) (made : IfSome o (λ ss. AreSteps (part_template p (ends [])) ss)) (is : o ≡ Some ss) where
  part_steps : whole_template ss ≡ part_template p (ends [])
  part_steps = steps_are (part_template p (ends [])) ss (subst (λ o. IfSome o (λ ss. AreSteps (part_template p (ends [])) ss)) is made)

  pub held_part_bounds : MembersInBounds p → TemplateInBounds (whole_template ss)
  held_part_bounds h = part_bounds p ss part_steps h

  pub held_part_wide : (at n w : ℕ) → w ≡ capped (members_width p) → at + members_width p ≤ 8 * n → n ≤ longest_body → template_width (whole_template ss) ≡ w
  held_part_wide at n w wide within long = part_width p ss part_steps ∙ omega (arith, wide, within, long)

  pub held_part_put : (b old new : List ℕ) → new ≡ old ++ printed (whole_template ss) b → Puts after_spaces (part_onto p (members_value p b)) old new
  held_part_put b old new e = part_put p ss b old new part_steps e

module _ (name : List ℕ) (f : FixedTree) (o : Option TemplateSteps) (ss : TemplateSteps) (made : IfSome o (λ ss. AreSteps (member_template (named name f) (ends [])) ss)) (is : o ≡ Some ss) where
  named_steps : whole_template ss ≡ member_template (named name f) (ends [])
  named_steps = steps_are (member_template (named name f) (ends [])) ss (subst (λ o. IfSome o (λ ss. AreSteps (member_template (named name f) (ends [])) ss)) is made)

  pub held_named_bounds : FixedInBounds f → TemplateInBounds (whole_template ss)
  held_named_bounds h = named_bounds name f ss named_steps h

  pub held_named_wide : (at n w : ℕ) → w ≡ capped (width f) → at + width f ≤ 8 * n → n ≤ longest_body → template_width (whole_template ss) ≡ w
  held_named_wide at n w wide within long = named_width name f ss named_steps ∙ omega (arith, wide, within, long)

  pub held_named_put : (b old new : List ℕ) → new ≡ old ++ printed (whole_template ss) b → Puts after_spaces (slot_onto (subitem name (fixed f)) (fixed_value f b)) old new
  held_named_put b old new e = named_put name f ss b old new named_steps e

-- a name, and the value after it
pub name_put : (name : List ℕ) (f : FixedTree) (v : ValueTree) (old mid new : List ℕ) → Puts after_spaces (one_onto name) old mid → Puts after_spaces (fixed_onto f v) mid new → Puts after_spaces (slot_onto (subitem name (fixed f)) v) old new
name_put name f v old mid new p q = both_put (one_onto name) (fixed_onto f v) old mid new p q

pub ruleset held_named = (held_named_bounds, held_named_put, name_put)

pub ruleset held = (held_bounds, held_put)

pub ruleset held_part = (held_part_bounds, held_part_put)
