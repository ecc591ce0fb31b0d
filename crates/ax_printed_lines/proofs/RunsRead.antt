-- What templates print, read from the front of octets.
use Rattle.std.proofs.Common.{◌≡◌, ℕ, ◌+◌, ◌-◌, ◌*◌, ◌/◌, ◌^◌, ◌<◌, ◌≤◌, List, [], ◌∷◌, ◌++◌, Some, length, take, drop, get_or, decimal, refl, sym, ◌∙◌, ap, arith, subst, append_assoc, append-nil, lit<, pow-add, length-drop, take-add}
use Rattle.std.proofs.lemmas.List.{take_at, drop_at, drop_all, take_all}
use Rattle.std.proofs.lemmas.Nat.{xor_shr}
use Rattle.std.proofs.Math.Nat.{pow-le-pow_right, mul_assoc}
use Rattle.std.specs.Int.RustNames.{bit_xor}
use Rattle.ax_bits.specs.Bits.{word, bits, number_of, AreOctets}
use Rattle.ax_bits.proofs.Pieces.{word-joined, number-word, bits-injective, take-bits}
use Rattle.ax_bits.proofs.Steps.{joined_below}
use Rattle.ax_bits.proofs.Words.{length-word}
use Rattle.ax_printed_lines.proofs.Fronts.{octets_front, xor_none}
use Rattle.ax_printed_lines.specs.Runs.{IsRead, IsReadBehind}
use Rattle.ax_text_form.proofs.Printed.{from_place}
use Rattle.ax_text_lines.proofs.StepsPrinted.{printed_tail, width_tail}
use Rattle.ax_text_lines.specs.Templates.{Template, ends, and_number, printed, template_width, with_number, steps_then, template_of, whole_template}
use Rattle.ax_text_lines.specs.declared.templates.TemplateStep.{TemplateStep}
use Rattle.ax_text_lines.specs.declared.templates.TemplateSteps.{TemplateSteps}

-- ---- octets that begin alike

-- two numbers of eight octets that differ in none of the bits of the first n octets
pub fronts_alike : (n : ℕ) (octets wanted : List ℕ) (a b : ℕ) → AreOctets octets → AreOctets wanted → word (8 * n) (a / 2 ^ (64 - 8 * n)) ≡ take (8 * n) (bits octets) → word (8 * n) (b / 2 ^ (64 - 8 * n)) ≡ take (8 * n) (bits wanted) → bit_xor a b / 2 ^ (64 - 8 * n) ≡ 0 → take n octets ≡ take n wanted
fronts_alike n octets wanted a b p q e f none =
    let k = 64 - 8 * n in
    let same : a / 2 ^ k ≡ b / 2 ^ k = xor_none (a / 2 ^ k) (b / 2 ^ k) (sym (xor_shr a b k) ∙ none) in
    bits-injective (take n octets) (take n wanted) (octets_front n octets p) (octets_front n wanted q) (sym (take-bits n octets) ∙ sym e ∙ ap (word (8 * n)) same ∙ f ∙ take-bits n wanted)

-- the first a octets are the same, and k behind them
pub longer_alike : (a k n : ℕ) (xs ys : List ℕ) → n ≡ a + k → a ≤ length xs → a ≤ length ys → take a xs ≡ take a ys → take k (take (length xs - a) (drop a xs)) ≡ take k (take (length ys - a) (drop a ys)) → take n xs ≡ take n ys
longer_alike a k n xs ys e p q front back =
    let all : (zs : List ℕ) → take (length zs - a) (drop a zs) ≡ drop a zs = λ zs. take_all (length zs - a) (drop a zs) (omega (arith, length-drop a zs)) in
    ap (λ m. take m xs) e ∙ take-add a k xs ∙ (λ i. front i ++ (ap (take k) (sym (all xs)) ∙ back ∙ ap (take k) (all ys)) i) ∙ sym (take-add a k ys) ∙ sym (ap (λ m. take m ys) e)

pub ruleset fronts = (fronts_alike)

-- ---- steps so far

-- the bits of a number in front of others, and what is printed of them
number_printed : (xs : List ℕ) (w m : ℕ) (r : Template) (c : List ℕ) → m < 2 ^ w → printed (and_number xs w r) (word w m ++ c) ≡ (xs ++ decimal m) ++ printed r c
number_printed xs w m r c lt =
    let front : take w (word w m ++ c) ≡ word w m = take_at (word w m) c w (length-word w m) in
    let back : drop w (word w m ++ c) ≡ c = drop_at (word w m) c w (length-word w m) in
    (λ i. xs ++ (decimal (number_of (front i)) ++ printed r (back i))) ∙ ap (λ n. xs ++ (decimal n ++ printed r c)) (number-word w m lt) ∙ sym (append_assoc xs (decimal m) (printed r c))

-- the steps before place i are read, and their numbers stand behind the first
pub record StepsRead (all : List TemplateStep) (i used first n : ℕ) (octets left : List ℕ) : Type 0 where
  pub front : List ℕ
  pub width : ℕ
  pub more : ℕ
  pub value : n ≡ first * 2 ^ width + more
  pub below : more < 2 ^ width
  pub small : n < 2 ^ (used + width)
  pub whole : width + template_width (template_of (drop i all)) ≡ template_width (template_of all)
  pub split : octets ≡ front ++ left
  pub text : (c : List ℕ) → printed (template_of all) (word width more ++ c) ≡ front ++ printed (template_of (drop i all)) c

pub steps_begun : (all : List TemplateStep) (used first : ℕ) (octets : List ℕ) → first < 2 ^ used → StepsRead all 0 used first first octets octets
steps_begun all used first octets lt = record {
  front = [];
  width = 0;
  more = 0;
  value = omega arith;
  below = omega arith;
  small = subst (λ w. first < 2 ^ w) (let e : used ≡ used + 0 = omega arith in e) lt;
  whole = omega arith;
  split = refl;
  text = λ c. refl;
}

module _ (all : List TemplateStep) (i : ℕ) (s : TemplateStep) (used first n : ℕ) (octets left : List ℕ) (h : StepsRead all i used first n octets left) (lt : i < length all) (e : s ≡ get_or all i s) (w : ℕ) (is : s.number ≡ Some w) where
  abbrev pub lit : List ℕ
  lit = take s.literal.count s.literal.octets

  from : template_of (drop i all) ≡ and_number lit w (template_of (drop (i + 1) all))
  from = ap template_of (from_place all i s lt e) ∙ ap (λ o. with_number lit o (template_of (drop (i + 1) all))) is

  wide : template_width (template_of (drop i all)) ≡ w + template_width (template_of (drop (i + 1) all))
  wide = ap template_width from

  pub step_narrow : used + template_width (template_of all) ≤ 56 → w ≤ 56
  step_narrow few = omega (arith, wide, h.whole, few)

  pub step_fits : (m : ℕ) → used + template_width (template_of all) ≤ 56 → m < 2 ^ w → n * 2 ^ w + m < 2 ^ 64
  step_fits m few lt =
      let a : n * 2 ^ w + m < 2 ^ (used + h.width + w) = joined_below (used + h.width) w n m h.small lt in
      let b : 2 ^ (used + h.width + w) ≤ 2 ^ 64 = pow-le-pow_right (lit< tt) (let k : used + h.width + w ≤ 64 = omega (arith, wide, h.whole, few) in k) in
      omega (arith, a, b)

  pub steps_go_on : (m next : ℕ) (later : List ℕ) → left ≡ lit ++ (decimal m ++ later) → m < 2 ^ w → next ≡ n * 2 ^ w + m → StepsRead all (i + 1) used first next octets later
  steps_go_on m next later p less v = record {
    front = h.front ++ (lit ++ decimal m);
    width = h.width + w;
    more = h.more * 2 ^ w + m;
    value = v ∙ ap (λ k. k * 2 ^ w + m) h.value
        ∙ (let k : (first * 2 ^ h.width + h.more) * 2 ^ w + m ≡ first * 2 ^ h.width * 2 ^ w + (h.more * 2 ^ w + m) = omega arith in k)
        ∙ ap (λ k. k + (h.more * 2 ^ w + m)) (mul_assoc first (2 ^ h.width) (2 ^ w) ∙ ap (λ k. first * k) (sym (pow-add 2 h.width w)));
    below = joined_below h.width w h.more m h.below less;
    small = subst (λ k. k < 2 ^ (used + (h.width + w))) (sym v) (subst (λ k. n * 2 ^ w + m < 2 ^ k) (let k : used + h.width + w ≡ used + (h.width + w) = omega arith in k) (joined_below (used + h.width) w n m h.small less));
    whole = omega (arith, wide, h.whole);
    split = h.split ∙ ap (λ t. h.front ++ t) (p ∙ sym (append_assoc lit (decimal m) later)) ∙ sym (append_assoc h.front (lit ++ decimal m) later);
    text = λ c. (
        ap (λ b. printed (template_of all) (b ++ c)) (word-joined h.width w h.more m less) ∙ ap (printed (template_of all)) (append_assoc (word h.width h.more) (word w m) c) ∙ h.text (word w m ++ c)
        ∙ ap (λ t. h.front ++ printed t (word w m ++ c)) from ∙ ap (λ t. h.front ++ t) (number_printed lit w m (template_of (drop (i + 1) all)) c less) ∙ sym (append_assoc h.front (lit ++ decimal m) (printed (template_of (drop (i + 1) all)) c))
        );
  }

pub steps_over : (all : List TemplateStep) (i used first n : ℕ) (octets left : List ℕ) → StepsRead all i used first n octets left → length all ≤ i → IsReadBehind (template_of all) first n octets left
steps_over all i used first n octets left h past =
    let none : drop i all ≡ [] = drop_all i all past in
    let wide : h.width ≡ template_width (template_of all) = (let k : h.width ≡ h.width + 0 = omega arith in k) ∙ ap (λ ss. h.width + template_width (template_of ss)) (sym none) ∙ h.whole in
    let text : printed (template_of all) (word h.width h.more) ≡ h.front =
    ap (printed (template_of all)) (sym (append-nil (word h.width h.more))) ∙ h.text [] ∙ ap (λ ss. h.front ++ printed (template_of ss) []) none ∙ append-nil h.front in record {
      more = h.more;
      value = h.value ∙ ap (λ w. first * 2 ^ w + h.more) wide;
      read = record {
        below = subst (λ w. h.more < 2 ^ w) wide h.below;
        text = h.split ∙ ap (λ t. t ++ left) (sym text ∙ ap (λ w. printed (template_of all) (word w h.more)) wide);
      };
    }

pub ruleset loops = (steps_begun, step_narrow, step_fits, steps_go_on, steps_over)

-- ---- a whole template

module _ (steps : TemplateSteps) (all later : List TemplateStep) (s : TemplateStep) (same : all ≡ steps.steps) (cons : all ≡ s ∷ later) (w : ℕ) (is : s.number ≡ Some w) where
  abbrev tail : List ℕ
  tail = take steps.tail.count steps.tail.octets

  abbrev head : List ℕ
  head = take s.literal.count s.literal.octets

  whole : whole_template steps ≡ and_number head w (steps_then later (ends tail))
  whole = ap (λ ss. steps_then ss (ends tail)) (sym same ∙ cons) ∙ ap (λ o. with_number head o (steps_then later (ends tail))) is

  whole_wide : template_width (whole_template steps) ≡ w + template_width (template_of later)
  whole_wide = ap template_width whole ∙ ap (λ n. w + n) (sym (width_tail later tail))

  pub first_narrow : template_width (whole_template steps) ≤ 56 → w ≤ 56
  first_narrow few = omega (arith, whole_wide, few)

  pub later_few : template_width (whole_template steps) ≤ 56 → w + template_width (template_of later) ≤ 56
  later_few few = omega (arith, whole_wide, few)

  pub whole_read : (octets following rest ended left : List ℕ) (first n : ℕ) → first < 2 ^ w → 32 ∷ octets ≡ head ++ (decimal first ++ following) → IsReadBehind (template_of later) first n following rest → rest ≡ tail ++ ended → ended ≡ 32 ∷ left
      → IsRead (whole_template steps) n (32 ∷ octets) (32 ∷ left)
  whole_read octets following rest ended left first n less p r t z =
      let v = template_width (template_of later) in
      let m = r.more in
      let number : word (template_width (whole_template steps)) n ≡ word w first ++ word v m = ap (λ k. word k n) whole_wide ∙ ap (word (w + v)) r.value ∙ word-joined w v first m r.read.below in
      let text : printed (whole_template steps) (word w first ++ word v m) ≡ (head ++ decimal first) ++ (printed (template_of later) (word v m) ++ tail) =
      ap (λ k. printed k (word w first ++ word v m)) whole ∙ number_printed head w first (steps_then later (ends tail)) (word v m) less ∙ ap (λ k. (head ++ decimal first) ++ k) (printed_tail later tail (word v m)) in
      let behind : following ≡ (printed (template_of later) (word v m) ++ tail) ++ (32 ∷ left) =
      r.read.text ∙ ap (λ k. printed (template_of later) (word v m) ++ k) (t ∙ ap (λ k. tail ++ k) z) ∙ sym (append_assoc (printed (template_of later) (word v m)) tail (32 ∷ left)) in record {
        below = subst (λ k. n < 2 ^ k) (sym whole_wide) (subst (λ k. k < 2 ^ (w + v)) (sym r.value) (joined_below w v first m less r.read.below));
        text = p ∙ sym (append_assoc head (decimal first) following) ∙ ap (λ k. (head ++ decimal first) ++ k) behind ∙ sym (append_assoc (head ++ decimal first) (printed (template_of later) (word v m) ++ tail) (32 ∷ left))
            ∙ ap (λ k. k ++ (32 ∷ left)) (sym text ∙ ap (printed (whole_template steps)) (sym number));
      }

pub ruleset wholes = (first_narrow, later_few, whole_read)
