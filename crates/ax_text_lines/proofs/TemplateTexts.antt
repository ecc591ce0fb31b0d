-- What is printed by a template is the text of the value that the bits spell.
use Rattle.std.proofs.Common.{◌≡◌, ℕ, ◌+◌, List, [], ◌∷◌, ◌++◌, take, drop, decimal, refl, sym, ◌∙◌, ap, arith, subst, append_assoc}
use Rattle.std.proofs.lemmas.List.{drop-drop}
use Rattle.ax_bits.specs.Bits.{number_of}
use Rattle.ax_format.specs.InBounds.{FixedInBounds, MembersInBounds}
use Rattle.ax_format.specs.Reader.{fixed_value, members_value}
use Rattle.ax_format.specs.Tree.{FixedTree, element, group, MembersTree, no_members, member_and, named, spare, fixed, subitem}
use Rattle.ax_format.specs.Widths.{width, members_width}
use Rattle.ax_text_form.specs.Printing.{after_spaces, Puts}
use Rattle.ax_text_form.specs.Slots.{slot_onto}
use Rattle.ax_text_form.specs.ValueText.{Texts, opening, closing, spare_word, part_word, fixed_onto, members_onto, part_onto}
use Rattle.ax_text_lines.specs.Templates.{Template, ends, and_number, before, text_then, number_then, fixed_template, member_template, members_template, part_template, printed, template_width, TemplateInBounds, whole_template, numbers_of, end_of, AreSteps}
use Rattle.ax_text_lines.specs.declared.templates.TemplateSteps.{TemplateSteps}

-- ---- templates by their lists

from_lists : List (List ℕ × ℕ) → List ℕ → Template
from_lists [] xs = ends xs
from_lists (n ∷ ns) xs = and_number n.0 n.1 (from_lists ns xs)

again : (t : Template) → from_lists (numbers_of t) (end_of t) ≡ t
unfolding from_lists
again (ends xs) = refl
again (and_number xs w r) = ap (and_number xs w) (again r)

pub are_steps : (t : Template) (ss : TemplateSteps) → whole_template ss ≡ t → AreSteps t ss
are_steps t ss e = (ap numbers_of e, ap end_of e)

pub steps_are : (t : Template) (ss : TemplateSteps) → AreSteps t ss → whole_template ss ≡ t
steps_are t ss h = sym (again (whole_template ss)) ∙ (λ i. from_lists (h.0 i) (h.1 i)) ∙ again t

pub ruleset found = (are_steps)

-- ---- octets in front

pub printed_before : (xs : List ℕ) (r : Template) (b : List ℕ) → printed (before xs r) b ≡ xs ++ printed r b
printed_before xs (ends ys) b = refl
printed_before xs (and_number ys w r) b = append_assoc xs ys (decimal (number_of (take w b)) ++ printed r (drop w b))

pub width_before : (xs : List ℕ) (r : Template) → template_width (before xs r) ≡ template_width r
width_before xs (ends ys) = refl
width_before xs (and_number ys w r) = refl

pub bounds_before : (xs : List ℕ) (r : Template) → TemplateInBounds r → TemplateInBounds (before xs r)
bounds_before xs (ends ys) h = tt
bounds_before xs (and_number ys w r) h = h

pub bounds_behind : (xs : List ℕ) (r : Template) → TemplateInBounds (before xs r) → TemplateInBounds r
bounds_behind xs (ends ys) h = tt
bounds_behind xs (and_number ys w r) h = h

-- ---- the text of a value

-- what is printed, and texts after it, are these texts
abbrev Prints : Template → List ℕ → Texts → Texts → Type 0
Prints r b rest texts = printed r b ++ after_spaces rest ≡ after_spaces texts

text_prints : (text : List ℕ) (r : Template) (b : List ℕ) (rest texts : Texts) → Prints r b rest texts → Prints (text_then text r) b rest (text ∷ texts)
text_prints text r b rest texts h = ap (λ t. t ++ after_spaces rest) (printed_before (0x20 ∷ text) r b) ∙ append_assoc (0x20 ∷ text) (printed r b) (after_spaces rest) ∙ ap (λ t. 0x20 ∷ (text ++ t)) h

number_prints : (w : ℕ) (r : Template) (b : List ℕ) (rest texts : Texts) → Prints r (drop w b) rest texts → Prints (number_then w r) b rest (decimal (number_of (take w b)) ∷ texts)
number_prints w r b rest texts h = ap (λ t. 0x20 ∷ t) (append_assoc (decimal (number_of (take w b))) (printed r (drop w b)) (after_spaces rest) ∙ ap (λ t. decimal (number_of (take w b)) ++ t) h)

mutual
  pub fixed_prints : (f : FixedTree) (r : Template) (b : List ℕ) (rest texts : Texts) → Prints r (drop (width f) b) rest texts → Prints (fixed_template f r) b rest (fixed_onto f (fixed_value f b) texts)
  fixed_prints (element w c) r b rest texts h = number_prints w r b rest texts h
  fixed_prints (group ms) r b rest texts h =
      text_prints opening (members_template ms (text_then closing r)) b rest (members_onto ms (members_value ms b) (closing ∷ texts))
      (members_prints ms (text_then closing r) b rest (closing ∷ texts) (text_prints closing r (drop (members_width ms) b) rest texts h))

  pub members_prints : (ms : MembersTree) (r : Template) (b : List ℕ) (rest texts : Texts) → Prints r (drop (members_width ms) b) rest texts → Prints (members_template ms r) b rest (members_onto ms (members_value ms b) texts)
  members_prints no_members r b rest texts h = h
  members_prints (member_and (named name f) ms) r b rest texts h =
      let later = drop (width f) b in
      let ts = members_onto ms (members_value ms later) texts in
      text_prints name (fixed_template f (members_template ms r)) b rest (fixed_onto f (fixed_value f b) ts)
      (fixed_prints f (members_template ms r) b rest ts (members_prints ms r later rest texts (ap (λ c. printed r c ++ after_spaces rest) (drop-drop (members_width ms) (width f) b) ∙ h)))
  members_prints (member_and (spare w) ms) r b rest texts h =
      let later = drop w b in
      let ts = members_onto ms (members_value ms later) texts in
      text_prints spare_word (number_then w (members_template ms r)) b rest (decimal (number_of (take w b)) ∷ ts)
      (number_prints w (members_template ms r) b rest ts (members_prints ms r later rest texts (ap (λ c. printed r c ++ after_spaces rest) (drop-drop (members_width ms) w b) ∙ h)))

part_prints : (p : MembersTree) (r : Template) (b : List ℕ) (rest texts : Texts) → Prints r (drop (members_width p) b) rest texts → Prints (part_template p r) b rest (part_onto p (members_value p b) texts)
part_prints p r b rest texts h =
    let inner = members_template p (text_then closing r) in
    let ts = members_onto p (members_value p b) (closing ∷ texts) in
    text_prints part_word (text_then opening inner) b rest (opening ∷ ts) (text_prints opening inner b rest ts (members_prints p (text_then closing r) b rest (closing ∷ texts) (text_prints closing r (drop (members_width p) b) rest texts h)))

steps_put : (t : Template) (ss : TemplateSteps) (onto : Texts → Texts) (b old new : List ℕ) → ((rest : Texts) → Prints t b rest (onto rest)) → whole_template ss ≡ t → new ≡ old ++ printed (whole_template ss) b → Puts after_spaces onto old new
steps_put t ss onto b old new h is e = record {
  put = λ rest. ap (λ t. t ++ after_spaces rest) (e ∙ ap (λ t. old ++ printed t b) is) ∙ append_assoc old (printed t b) (after_spaces rest) ∙ ap (λ t. old ++ t) (h rest);
}

pub fixed_put : (f : FixedTree) (ss : TemplateSteps) (b old new : List ℕ) → whole_template ss ≡ fixed_template f (ends []) → new ≡ old ++ printed (whole_template ss) b → Puts after_spaces (fixed_onto f (fixed_value f b)) old new
fixed_put f ss b old new is e = steps_put (fixed_template f (ends [])) ss (fixed_onto f (fixed_value f b)) b old new (λ rest. fixed_prints f (ends []) b rest rest refl) is e

-- a name and the value of a fixed kind
pub named_put : (name : List ℕ) (f : FixedTree) (ss : TemplateSteps) (b old new : List ℕ) → whole_template ss ≡ member_template (named name f) (ends []) → new ≡ old ++ printed (whole_template ss) b → Puts after_spaces (slot_onto (subitem name (fixed f)) (fixed_value f b)) old new
named_put name f ss b old new is e =
    steps_put (member_template (named name f) (ends [])) ss (slot_onto (subitem name (fixed f)) (fixed_value f b)) b old new
    (λ rest. text_prints name (fixed_template f (ends [])) b rest (fixed_onto f (fixed_value f b) rest) (fixed_prints f (ends []) b rest rest refl)) is e

pub part_put : (p : MembersTree) (ss : TemplateSteps) (b old new : List ℕ) → whole_template ss ≡ part_template p (ends []) → new ≡ old ++ printed (whole_template ss) b → Puts after_spaces (part_onto p (members_value p b)) old new
part_put p ss b old new is e = steps_put (part_template p (ends [])) ss (part_onto p (members_value p b)) b old new (λ rest. part_prints p (ends []) b rest rest refl) is e

-- ---- widths

mutual
  fixed_wide : (f : FixedTree) (r : Template) → template_width (fixed_template f r) ≡ width f + template_width r
  fixed_wide (element w c) r = refl
  fixed_wide (group ms) r =
      width_before (0x20 ∷ opening) (members_template ms (text_then closing r)) ∙ members_wide ms (text_then closing r) ∙ ap (λ n. members_width ms + n) (width_before (0x20 ∷ closing) r)

  members_wide : (ms : MembersTree) (r : Template) → template_width (members_template ms r) ≡ members_width ms + template_width r
  members_wide no_members r = let e : template_width r ≡ 0 + template_width r = omega arith in e
  members_wide (member_and (named name f) ms) r =
      let a = width_before (0x20 ∷ name) (fixed_template f (members_template ms r)) in
      let b = fixed_wide f (members_template ms r) in
      let c = members_wide ms r in
      omega (arith, a, b, c)
  members_wide (member_and (spare w) ms) r =
      let a = width_before (0x20 ∷ spare_word) (number_then w (members_template ms r)) in
      let c = members_wide ms r in
      omega (arith, a, c)

part_wide : (p : MembersTree) (r : Template) → template_width (part_template p r) ≡ members_width p + template_width r
part_wide p r =
    let inner = members_template p (text_then closing r) in
    width_before (0x20 ∷ part_word) (text_then opening inner) ∙ width_before (0x20 ∷ opening) inner ∙ members_wide p (text_then closing r) ∙ ap (λ n. members_width p + n) (width_before (0x20 ∷ closing) r)

mutual
  fixed_bounds : (f : FixedTree) (r : Template) → FixedInBounds f → TemplateInBounds r → TemplateInBounds (fixed_template f r)
  fixed_bounds (element w c) r h t = (h, t)
  fixed_bounds (group ms) r h t = bounds_before (0x20 ∷ opening) (members_template ms (text_then closing r)) (members_bounds ms (text_then closing r) h (bounds_before (0x20 ∷ closing) r t))

  members_bounds : (ms : MembersTree) (r : Template) → MembersInBounds ms → TemplateInBounds r → TemplateInBounds (members_template ms r)
  members_bounds no_members r h t = t
  members_bounds (member_and (named name f) ms) r h t =
      bounds_before (0x20 ∷ name) (fixed_template f (members_template ms r)) (fixed_bounds f (members_template ms r) h.0 (members_bounds ms r h.1 t))
  members_bounds (member_and (spare w) ms) r h t = bounds_before (0x20 ∷ spare_word) (number_then w (members_template ms r)) (h.0, members_bounds ms r h.1 t)

-- of steps that are a kind's

pub steps_bounds : (f : FixedTree) (ss : TemplateSteps) → whole_template ss ≡ fixed_template f (ends []) → FixedInBounds f → TemplateInBounds (whole_template ss)
steps_bounds f ss is h = subst TemplateInBounds (sym is) (fixed_bounds f (ends []) h tt)

pub steps_width : (f : FixedTree) (ss : TemplateSteps) → whole_template ss ≡ fixed_template f (ends []) → template_width (whole_template ss) ≡ width f
steps_width f ss is = ap template_width is ∙ fixed_wide f (ends []) ∙ (let e : width f + 0 ≡ width f = omega arith in e)

pub named_bounds : (name : List ℕ) (f : FixedTree) (ss : TemplateSteps) → whole_template ss ≡ member_template (named name f) (ends []) → FixedInBounds f → TemplateInBounds (whole_template ss)
named_bounds name f ss is h = subst TemplateInBounds (sym is) (bounds_before (0x20 ∷ name) (fixed_template f (ends [])) (fixed_bounds f (ends []) h tt))

pub named_width : (name : List ℕ) (f : FixedTree) (ss : TemplateSteps) → whole_template ss ≡ member_template (named name f) (ends []) → template_width (whole_template ss) ≡ width f
named_width name f ss is = ap template_width is ∙ width_before (0x20 ∷ name) (fixed_template f (ends [])) ∙ fixed_wide f (ends []) ∙ (let e : width f + 0 ≡ width f = omega arith in e)

pub part_bounds : (p : MembersTree) (ss : TemplateSteps) → whole_template ss ≡ part_template p (ends []) → MembersInBounds p → TemplateInBounds (whole_template ss)
part_bounds p ss is h =
    let inner = members_template p (text_then closing (ends [])) in
    subst TemplateInBounds (sym is) (bounds_before (0x20 ∷ part_word) (text_then opening inner) (bounds_before (0x20 ∷ opening) inner (members_bounds p (text_then closing (ends [])) h tt)))

pub part_width : (p : MembersTree) (ss : TemplateSteps) → whole_template ss ≡ part_template p (ends []) → template_width (whole_template ss) ≡ members_width p
part_width p ss is = ap template_width is ∙ part_wide p (ends []) ∙ (let e : members_width p + 0 ≡ members_width p = omega arith in e)
