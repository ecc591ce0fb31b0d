-- Templates that are put together, piece after piece.
use Rattle.std.proofs.Common.{◌≡◌, ℕ, ◌+◌, ◌<◌, ◌≤◌, List, [], ◌∷◌, ◌++◌, Some, None, length, take, drop, get_or, refl, sym, ◌∙◌, ap, subst, append_assoc, append-nil}
use Rattle.std.proofs.lemmas.List.{drop_all}
use Rattle.ax_format.specs.Plain.{member_tree, members_tree}
use Rattle.ax_format.specs.Tree.{FixedTree, group, MembersTree, named}
use Rattle.ax_format.specs.declared.kind.Member.{Member}
use Rattle.ax_format.specs.declared.kind.Member.TheVariants.{Spare}
use Rattle.ax_text_form.proofs.Printed.{from_place}
use Rattle.ax_text_form.specs.ValueText.{opening, closing, spare_word, part_word}
use Rattle.ax_text_lines.proofs.FixedPrinted.{spare_tree}
use Rattle.ax_text_lines.specs.Drafts.{drafted, Adds}
use Rattle.ax_text_lines.specs.Templates.{Template, ends, and_number, before, text_then, number_then, fixed_template, member_template, members_template, part_template, with_number, step_then, steps_then, whole_template}
use Rattle.ax_text_lines.specs.declared.templates.Draft.{Draft}
use Rattle.ax_text_lines.specs.declared.templates.TemplateStep.{TemplateStep}
use Rattle.ax_text_lines.specs.declared.templates.TemplateSteps.{TemplateSteps}
use Rattle.ax_values.proofs.FixedRead.{members_from}

-- ---- octets in front

pub before_none : (r : Template) → before [] r ≡ r
before_none (ends xs) = refl
before_none (and_number xs w r) = refl

pub before_both : (xs ys : List ℕ) (r : Template) → before (xs ++ ys) r ≡ before xs (before ys r)
before_both xs ys (ends zs) = ap ends (append_assoc xs ys zs)
before_both xs ys (and_number zs w r) = ap (λ t. and_number t w r) (append_assoc xs ys zs)

pub one_step : (made new : List TemplateStep) (s : TemplateStep) (r : Template) → new ≡ made ++ s ∷ [] → steps_then new r ≡ steps_then made (step_then s r)
one_step made new s r e = ap (λ ss. steps_then ss r) e ∙ by made
  where
    by : (made : List TemplateStep) → steps_then (made ++ s ∷ []) r ≡ steps_then made (step_then s r)
    by [] = refl
    by (m ∷ made) = ap (step_then m) (by made)

-- ---- pieces

pub adds_both : (f g : Template → Template) (a b c : Draft) → Adds f a b → Adds g b c → Adds (λ r. f (g r)) a c
adds_both f g a b c h k = record { add = λ r. k.add r ∙ h.add (g r) }

pub adds_none : (a : Draft) → Adds (λ r. r) a a
adds_none a = record { add = λ r. refl }

pub octet_added : (old mid new : Draft) (x : ℕ) → Adds (λ r. r) old mid → new.steps ≡ mid.steps → take new.literal.count new.literal.octets ≡ take mid.literal.count mid.literal.octets ++ x ∷ [] → Adds (before (x ∷ [])) old new
octet_added old mid new x h s e = record {
  add = λ r. (λ i. steps_then (s i) (before (e i) r)) ∙ ap (steps_then mid.steps) (before_both (take mid.literal.count mid.literal.octets) (x ∷ []) r) ∙ h.add (before (x ∷ []) r);
}

-- a step of octets alone is the same
pub step_same : (old new : Draft) → ((r : Template) → steps_then new.steps r ≡ steps_then old.steps (with_number (take old.literal.count old.literal.octets) None r)) → new.literal.count ≡ 0 → Adds (λ r. r) old new
step_same old new h e = record {
  add = λ r. ap (λ n. steps_then new.steps (before (take n new.literal.octets) r)) e ∙ h (before (take 0 new.literal.octets) r) ∙ ap (λ r. steps_then old.steps (before (take old.literal.count old.literal.octets) r)) (before_none r);
}

pub number_added : (old mid new : Draft) (w : ℕ) → Adds (before (0x20 ∷ [])) old mid → ((r : Template) → steps_then new.steps r ≡ steps_then mid.steps (with_number (take mid.literal.count mid.literal.octets) (Some w) r)) → new.literal.count ≡ 0 → Adds (number_then w) old new
number_added old mid new w h k e = record {
  add = λ r. ap (λ n. steps_then new.steps (before (take n new.literal.octets) r)) e ∙ k (before (take 0 new.literal.octets) r)
      ∙ (λ i. steps_then mid.steps (and_number (sym (append-nil (take mid.literal.count mid.literal.octets)) i) w (before_none r i)))
      ∙ h.add (and_number [] w r);
}

-- what is drafted, with its octets as they stand after its steps
pub tail_kept : (draft : Draft) (steps : List TemplateStep) → steps ≡ draft.steps → steps_then steps (ends (take draft.literal.count draft.literal.octets)) ≡ drafted draft (ends [])
tail_kept draft steps e = (λ i. steps_then (e i) (ends (sym (append-nil (take draft.literal.count draft.literal.octets)) i)))

pub draft_begun : (draft : Draft) → draft.steps ≡ [] → draft.literal.count ≡ 0 → (r : Template) → drafted draft r ≡ r
draft_begun draft none e r = (λ i. steps_then (none i) (before (take (e i) draft.literal.octets) r)) ∙ before_none r

-- all steps of a template that was appended to nothing
pub whole_made : (f : Template → Template) (first all : Draft) (ss : TemplateSteps) → ((r : Template) → drafted first r ≡ r) → Adds f first all → whole_template ss ≡ drafted all (ends []) → whole_template ss ≡ f (ends [])
whole_made f first all ss none h is = is ∙ h.add (ends []) ∙ none (f (ends []))

pub ruleset begun = (draft_begun)

pub ruleset same = (adds_none, step_same)

pub ruleset octets = (octet_added)

pub ruleset numbers = (number_added)

pub ruleset tails = (tail_kept)

pub ruleset whole = (whole_made)

-- ---- the octets of a text

-- those before place i are appended, after a space
pub record TextDrafted (text : List ℕ) (i : ℕ) (old now : Draft) : Type 0 where
  pub left : (r : Template) → drafted now (before (drop i text) r) ≡ drafted old (text_then text r)

pub text_begun : (text : List ℕ) (old now : Draft) → Adds (before (0x20 ∷ [])) old now → TextDrafted text 0 old now
text_begun text old now h = record { left = λ r. h.add (before text r) ∙ ap (drafted old) (sym (before_both (0x20 ∷ []) text r)) }

pub text_goes_on : (text : List ℕ) (i x : ℕ) (old now new : Draft) → TextDrafted text i old now → i < length text → x ≡ get_or text i x → Adds (before (x ∷ [])) now new → TextDrafted text (i + 1) old new
text_goes_on text i x old now new h lt e a = record {
  left = λ r. a.add (before (drop (i + 1) text) r) ∙ ap (drafted now) (sym (before_both (x ∷ []) (drop (i + 1) text) r) ∙ ap (λ xs. before xs r) (sym (from_place text i x lt e))) ∙ h.left r;
}

pub text_over : (text : List ℕ) (i : ℕ) (old now : Draft) → TextDrafted text i old now → length text ≤ i → Adds (text_then text) old now
text_over text i old now h past = record { add = λ r. ap (drafted now) (sym (before_none r) ∙ ap (λ xs. before xs r) (sym (drop_all i text past))) ∙ h.left r }

pub ruleset texts = (text_begun, text_goes_on, text_over)

-- ---- members

pub record MembersDrafted (all : List Member) (i : ℕ) (old now : Draft) : Type 0 where
  pub left : (r : Template) → drafted now (members_template (members_tree (drop i all)) r) ≡ drafted old (members_template (members_tree all) r)

pub members_begun : (all : List Member) (draft : Draft) → MembersDrafted all 0 draft draft
members_begun all draft = record { left = λ r. refl }

pub members_go_on : (all : List Member) (i : ℕ) (m : Member) (old now new : Draft) → MembersDrafted all i old now → i < length all → m ≡ get_or all i m → Adds (member_template (member_tree m)) now new → MembersDrafted all (i + 1) old new
members_go_on all i m old now new h lt e a = record {
  left = λ r. a.add (members_template (members_tree (drop (i + 1) all)) r) ∙ ap (λ ms. drafted now (members_template ms r)) (sym (members_from all i m lt e)) ∙ h.left r;
}

pub members_over : (all : List Member) (i : ℕ) (old now : Draft) → MembersDrafted all i old now → length all ≤ i → Adds (members_template (members_tree all)) old now
members_over all i old now h past = record { add = λ r. ap (λ ms. drafted now (members_template (members_tree ms) r)) (sym (drop_all i all past)) ∙ h.left r }

pub spare_drafted : (m : Member) (w : ℕ) (old mid new : Draft) → m ≡ Spare w → Adds (text_then spare_word) old mid → Adds (number_then w) mid new → Adds (member_template (member_tree m)) old new
spare_drafted m w old mid new is h k = subst (λ m. Adds (member_template m) old new) (sym (ap member_tree is ∙ spare_tree w)) (adds_both (text_then spare_word) (number_then w) old mid new h k)

pub named_drafted : (name : List ℕ) (f : FixedTree) (old mid new : Draft) → Adds (text_then name) old mid → Adds (fixed_template f) mid new → Adds (member_template (named name f)) old new
named_drafted name f old mid new h k = adds_both (text_then name) (fixed_template f) old mid new h k

pub group_drafted : (ms : MembersTree) (a b c d : Draft) → Adds (text_then opening) a b → Adds (members_template ms) b c → Adds (text_then closing) c d → Adds (fixed_template (group ms)) a d
group_drafted ms a b c d h k l = record { add = λ r. l.add r ∙ k.add (text_then closing r) ∙ h.add (members_template ms (text_then closing r)) }

pub part_drafted : (p : MembersTree) (a b c d e : Draft) → Adds (text_then part_word) a b → Adds (text_then opening) b c → Adds (members_template p) c d → Adds (text_then closing) d e → Adds (part_template p) a e
part_drafted p a b c d e h o k l =
    record { add = λ r. l.add r ∙ k.add (text_then closing r) ∙ o.add (members_template p (text_then closing r)) ∙ h.add (text_then opening (members_template p (text_then closing r))) }

pub ruleset groups = (group_drafted)

pub ruleset of_member = (named_drafted, spare_drafted)

pub ruleset named_whole = (named_drafted, whole_made)

pub ruleset of_part = (part_drafted)

pub ruleset members = (members_begun, members_over)
