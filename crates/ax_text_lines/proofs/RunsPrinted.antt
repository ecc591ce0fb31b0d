-- Steps printed out of one word.
use Rattle.std.proofs.Common.{◌≡◌, ℕ, ◌+◌, ◌-◌, ◌*◌, ◌/◌, ◌%◌, ◌^◌, ◌<◌, ◌≤◌, List, ◌++◌, Option, Some, None, length, take, drop, get_or, decimal, refl, sym, ◌∙◌, ap, arith, subst, append_assoc, append-nil}
use Rattle.std.proofs.lemmas.List.{take-take, drop-take, take_at, drop_at, take_all, drop_all}
use Rattle.std.proofs.lemmas.Nat.{div-mul-add, div_below, pow_pos, pow-add}
use Rattle.ax_bits.proofs.Pieces.{word-split, word-low, number-word}
use Rattle.ax_bits.proofs.Words.{length-word}
use Rattle.ax_bits.specs.Bits.{number_of, word}
use Rattle.ax_format.specs.InBounds.{IsWidth}
use Rattle.ax_text_form.proofs.Printed.{from_place}
use Rattle.ax_text_lines.proofs.StepsPrinted.{none_put, some_put, some_bounds, with_printed, with_width, with_bounds}
use Rattle.ax_text_lines.specs.Templates.{Template, ends, and_number, printed, template_width, TemplateInBounds, step_then, template_of, number_width, number_text, NumberInBounds}
use Rattle.ax_text_lines.specs.declared.templates.TemplateStep.{TemplateStep}

-- ---- the bits of a word

-- the first w bits of a word of a + w, and the others
pub word_front : (w n r : ℕ) → w + r ≡ 64 → take w (word 64 n) ≡ word w (n / 2 ^ r)
word_front w n r e =
    ap (λ k. take w (word k n)) (sym e) ∙ ap (take w) (word-split w r n) ∙ take_at (word w (n / 2 ^ r)) (word r n) w (length-word w (n / 2 ^ r))

pub word_back : (w n r : ℕ) → w + r ≡ 64 → drop w (word 64 n) ≡ word r n
word_back w n r e =
    ap (λ k. drop w (word k n)) (sym e) ∙ ap (drop w) (word-split w r n) ∙ drop_at (word w (n / 2 ^ r)) (word r n) w (length-word w (n / 2 ^ r))

-- what a shift moves to the front
pub moved_front : (w n r : ℕ) → w + r ≡ 64 → take r (word 64 (n * 2 ^ w % 2 ^ 64)) ≡ word r n
moved_front w n r e =
    let one : 0 < 2 ^ w = pow_pos w in
    let same : n * 2 ^ w / 2 ^ w ≡ n = ap (λ k. k / 2 ^ w) (let z : n * 2 ^ w ≡ n * 2 ^ w + 0 = omega arith in z) ∙ div-mul-add n (2 ^ w) 0 one in
    ap (take r) (word-low 64 (n * 2 ^ w)) ∙ word_front r (n * 2 ^ w) w (omega (arith, e)) ∙ ap (word r) same

-- the number of the first w bits
pub front_below : (w n : ℕ) → w ≤ 64 → n < 2 ^ 64 → n / 2 ^ (64 - w) < 2 ^ w
front_below w n le lt =
    let e : w + (64 - w) ≡ 64 = omega (arith, le) in
    let below : n < 2 ^ w * 2 ^ (64 - w) = subst (λ k. n < k) (ap (λ k. 2 ^ k) (sym e) ∙ pow-add 2 w (64 - w)) lt in
    div_below n (2 ^ (64 - w)) (2 ^ w) (pow_pos (64 - w)) below

pub number_in_front : (w n : ℕ) → w ≤ 64 → n < 2 ^ 64 → number_of (take w (word 64 n)) ≡ n / 2 ^ (64 - w)
number_in_front w n le lt =
    let e : w + (64 - w) ≡ 64 = omega (arith, le) in
    ap number_of (word_front w n (64 - w) e) ∙ number-word w (n / 2 ^ (64 - w)) (front_below w n le lt)

-- ---- a template of the front of bits

pub printed_front : (t : Template) (n : ℕ) (b : List ℕ) → template_width t ≤ n → printed t (take n b) ≡ printed t b
printed_front (ends xs) n b le = refl
printed_front (and_number xs w r) n b le =
    let short : w ≤ n = omega (arith, le) in
    let e : n ≡ w + (n - w) = omega (arith, short) in
    let number : take w (take n b) ≡ take w b = take-take w n b short in
    let later : drop w (take n b) ≡ take (n - w) (drop w b) = ap (λ k. drop w (take k b)) e ∙ drop-take w (n - w) b in
    (λ i. xs ++ (decimal (number_of (number i)) ++ printed r (later i))) ∙ ap (λ t. xs ++ (decimal (number_of (take w b)) ++ t)) (printed_front r (n - w) (drop w b) (omega (arith, le)))

-- bits that are the same as far as the template goes
pub printed_same : (t : Template) (n : ℕ) (b c : List ℕ) → template_width t ≤ n → take n b ≡ take n c → printed t b ≡ printed t c
printed_same t n b c le e = sym (printed_front t n b le) ∙ ap (printed t) e ∙ printed_front t n c le

-- ---- a number

-- the bits of a number as the first ones of a word
pub first_there : (w x : ℕ) (bits : List ℕ) → w ≤ 56 → word w x ≡ bits → take w (word 64 (x * 2 ^ (64 - w) % 2 ^ 64)) ≡ bits
first_there w x bits le e = moved_front (64 - w) x w (omega (arith, le)) ∙ e

-- those of 56 and others of them
pub first_of_more : (w x : ℕ) (b : List ℕ) → w ≤ 56 → word 56 x ≡ take 56 b → take w (word 64 (x * 2 ^ 8 % 2 ^ 64)) ≡ take w b
first_of_more w x b le e =
    let n = x * 2 ^ 8 % 2 ^ 64 in
    sym (take-take w 56 (word 64 n) le) ∙ ap (take w) (first_there 56 x (take 56 b) (omega arith) e) ∙ take-take w 56 b le

pub ruleset firsts = (first_there, first_of_more)

pub none_moved : (o : Option ℕ) (n : ℕ) → o ≡ None → take (64 - number_width o) (word 64 n) ≡ drop (number_width o) (word 64 n)
none_moved o n is = subst (λ o. take (64 - number_width o) (word 64 n) ≡ drop (number_width o) (word 64 n)) (sym is) (take_all 64 (word 64 n) (omega (arith, length-word 64 n)))

pub some_moved : (o : Option ℕ) (w n : ℕ) → o ≡ Some w → number_width o ≤ 56 → take (64 - number_width o) (word 64 (n * 2 ^ w % 2 ^ 64)) ≡ drop (number_width o) (word 64 n)
some_moved o w n is le =
    let few : w ≤ 56 = subst (λ o. number_width o ≤ 56) is le in
    subst (λ o. take (64 - number_width o) (word 64 (n * 2 ^ w % 2 ^ 64)) ≡ drop (number_width o) (word 64 n)) (sym is) (moved_front w n (64 - w) (omega (arith, few)) ∙ sym (word_back w n (64 - w) (omega (arith, few))))

-- the bits of a number that is there are no more than its word has
pub some_short : (o : Option ℕ) (w : ℕ) → o ≡ Some w → number_width o ≤ 56 → w < 64
some_short o w is le = let few : w ≤ 56 = subst (λ o. number_width o ≤ 56) is le in omega (arith, few)

pub some_few : (o : Option ℕ) (w : ℕ) → o ≡ Some w → NumberInBounds o → number_width o ≤ 56 → (1 ≤ w) × (w ≤ 56)
some_few o w is h le = (let some : IsWidth w = some_bounds o w is h in omega (arith, some), subst (λ o. number_width o ≤ 56) is le)

pub ruleset ways = (none_put, some_put, none_moved, some_moved, some_short, some_few)

-- ---- steps so far

-- the steps before place i are printed, and the bits of the others are the first ones of the word
pub record RunPrinted (all : List TemplateStep) (i run left : ℕ) (old now : List ℕ) : Type 0 where
  pub bounds : TemplateInBounds (template_of (drop i all))
  pub width : template_width (template_of (drop i all)) ≤ 56
  pub text : now ++ printed (template_of (drop i all)) (word 64 left) ≡ old ++ printed (template_of all) (word 64 run)

pub run_begun : (all : List TemplateStep) (run : ℕ) (out : List ℕ) → TemplateInBounds (template_of all) → template_width (template_of all) ≤ 56 → RunPrinted all 0 run run out out
run_begun all run out h le = record { bounds = h; width = le; text = refl }

module _ (all : List TemplateStep) (i : ℕ) (s : TemplateStep) (run left : ℕ) (old now : List ℕ) (h : RunPrinted all i run left old now) (lt : i < length all) (e : s ≡ get_or all i s) where
  from : template_of (drop i all) ≡ step_then s (template_of (drop (i + 1) all))
  from = ap template_of (from_place all i s lt e)

  parts : NumberInBounds s.number × TemplateInBounds (template_of (drop (i + 1) all))
  parts = with_bounds (take s.literal.count s.literal.octets) s.number (template_of (drop (i + 1) all)) (subst TemplateInBounds from h.bounds)

  wide : template_width (template_of (drop i all)) ≡ number_width s.number + template_width (template_of (drop (i + 1) all))
  wide = ap template_width from ∙ with_width (take s.literal.count s.literal.octets) s.number (template_of (drop (i + 1) all))

  pub run_step_bounds : NumberInBounds s.number
  run_step_bounds = parts.0

  pub run_step_few : number_width s.number ≤ 56
  run_step_few = omega (arith, wide, h.width)

  pub run_goes_on : (next : ℕ) (new : List ℕ) → new ≡ now ++ (take s.literal.count s.literal.octets ++ number_text s.number (word 64 left))
      → take (64 - number_width s.number) (word 64 next) ≡ drop (number_width s.number) (word 64 left) → RunPrinted all (i + 1) run next old new
  run_goes_on next new p g =
      let xs = take s.literal.count s.literal.octets in
      let w = number_width s.number in
      let later = template_of (drop (i + 1) all) in
      let text = xs ++ number_text s.number (word 64 left) in
      let fits : template_width later ≤ 64 - w = omega (arith, wide, h.width) in
      let rest : printed later (word 64 next) ≡ printed later (drop w (word 64 left)) = sym (printed_front later (64 - w) (word 64 next) fits) ∙ ap (printed later) g in
      let one : printed (template_of (drop i all)) (word 64 left) ≡ text ++ printed later (word 64 next)
      = ap (λ t. printed t (word 64 left)) from ∙ with_printed xs s.number later (word 64 left) ∙ ap (λ t. text ++ t) (sym rest) in
      record {
        bounds = parts.1;
        width = omega (arith, wide, h.width);
        text = ap (λ t. t ++ printed later (word 64 next)) p ∙ append_assoc now text (printed later (word 64 next)) ∙ ap (λ t. now ++ t) (sym one) ∙ h.text;
      }

pub run_over : (all : List TemplateStep) (i run left : ℕ) (old now : List ℕ) → RunPrinted all i run left old now → length all ≤ i → now ≡ old ++ printed (template_of all) (word 64 run)
run_over all i run left old now h past = sym (append-nil now) ∙ ap (λ ss. now ++ printed (template_of ss) (word 64 left)) (sym (drop_all i all past)) ∙ h.text

pub ruleset loops = (run_begun, run_step_bounds, run_step_few, run_goes_on, run_over)

-- ---- all of them

pub run_put : (t : Template) (w run : ℕ) (b old new : List ℕ) → template_width t ≡ w → take w (word 64 run) ≡ take w b → new ≡ old ++ printed t (word 64 run) → new ≡ old ++ printed t b
run_put t w run b old new e same p = p ∙ ap (λ x. old ++ x) (printed_same t w (word 64 run) b (omega (arith, e)) same)
