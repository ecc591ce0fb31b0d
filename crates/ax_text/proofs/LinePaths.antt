-- Paths under others, and the lines of counts.
use Rattle.std.proofs.Common.{◌≡◌, ℕ, ◌+◌, ◌-◌, ◌≤◌, List, [], ◌∷◌, ◌++◌, length, take, drop, codes, decimal, refl, sym, ◌∙◌, ap, arith, append_assoc, append-nil, length-append}
use Rattle.std.proofs.lemmas.Fmt.{decimal_digit}
use Rattle.std.proofs.lemmas.List.{take_at, drop_at, drop-drop}
use Rattle.ax_format.specs.Paths.{at}
use Rattle.ax_text_form.specs.Printing.{as_lines, Puts}
use Rattle.ax_text_form.specs.ShowText.{count_line, occurrence}
use Rattle.ax_text_form.specs.ValueText.{one_onto}
use Rattle.ax_text_form.proofs.Pieces.{line_put}

pub named : (path name padded made : List ℕ) (count : ℕ) → take count padded ≡ name → made ≡ path ++ (codes "/" ++ take count padded) → made ≡ at path name
named path name padded made count is e = e ∙ ap (λ name. path ++ (codes "/" ++ name)) is ∙ sym (append_assoc path (codes "/") name)

pub numbered : (path made : List ℕ) (n : ℕ) → made ≡ path ++ (codes "[" ++ (decimal n ++ codes "]")) → made ≡ occurrence path n
numbered path made n e = e ∙ sym (append_assoc (path ++ codes "[") (decimal n) (codes "]") ∙ append_assoc path (codes "[") (decimal n ++ codes "]"))

-- a count, in the line that says that there are none
module _ (old mid path word : List ℕ) (end : ℕ) (p : Puts as_lines (one_onto (count_line path word 0)) old mid) (e : end ≡ length mid) where
  abbrev front : List ℕ
  front = path ++ codes " " ++ word ++ codes " "

  mid_is : mid ≡ (old ++ front) ++ (0x30 ∷ 0x0A ∷ [])
  mid_is = sym (append-nil mid) ∙ p.put [] ∙ ap (λ t. old ++ t) (append_assoc front (decimal 0) (0x0A ∷ []) ∙ ap (λ d. front ++ (d ++ 0x0A ∷ [])) (decimal_digit 0 (omega arith))) ∙ sym (append_assoc old front (0x30 ∷ 0x0A ∷ []))

  long : end ≡ length (old ++ front) + 2
  long = omega (arith, e, ap length mid_is, length-append (old ++ front) (0x30 ∷ 0x0A ∷ []))

  pub count_within : (2 ≤ end) × (end ≤ length mid)
  count_within = (omega (arith, long), omega (arith, e))

  before : take (end - 2) mid ≡ old ++ front
  before = (λ i. take (let d : end - 2 ≡ length (old ++ front) = omega (arith, long) in d i) (mid_is i)) ∙ take_at (old ++ front) (0x30 ∷ 0x0A ∷ []) (length (old ++ front)) refl

  following : drop (end - 1) mid ≡ 0x0A ∷ []
  following = (λ i. drop (let d : end - 1 ≡ length (old ++ front) + 1 = omega (arith, long) in d i) (mid_is i)) ∙ sym (drop-drop 1 (length (old ++ front)) ((old ++ front) ++ (0x30 ∷ 0x0A ∷ [])))
      ∙ ap (λ t. drop 1 t) (drop_at (old ++ front) (0x30 ∷ 0x0A ∷ []) (length (old ++ front)) refl)

  pub count_put : (n : ℕ) (new : List ℕ) → new ≡ take (end - 2) mid ++ (decimal n ++ drop (end - 1) mid) → Puts as_lines (one_onto (count_line path word n)) old new
  count_put n new is =
      line_put old (old ++ count_line path word n) new (count_line path word n) refl
      (is ∙ (λ i. before i ++ (decimal n ++ following i)) ∙ append_assoc old front (decimal n ++ 0x0A ∷ []) ∙ ap (λ t. old ++ t) (sym (append_assoc front (decimal n) (0x0A ∷ []))) ∙ sym (append_assoc old (count_line path word n) (0x0A ∷ [])))
