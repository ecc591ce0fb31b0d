-- Lines of elements of few bits.
use Rattle.std.proofs.Common.{◌≡◌, ℕ, zero, suc, ◌+◌, ◌<◌, List, [], ◌∷◌, ◌++◌, length, get_or, refl, sym, ◌∙◌, ap, arith, inl, inr, append-nil, length-append, add-one}
use Rattle.std.proofs.lemmas.List.{get_or_append_left, get_or_push, get_or_default}
use Rattle.std.proofs.lemmas.Bool.{cases_lt}
use Rattle.ax_format.specs.Paths.{at}
use Rattle.ax_format.specs.declared.content.Content.{Content}
use Rattle.ax_text_form.specs.Printing.{as_lines, Puts}
use Rattle.ax_text_form.specs.Remarks.{remark}
use Rattle.ax_text_form.specs.ShowText.{number_line}
use Rattle.ax_text_form.specs.ValueText.{one_onto}
use Rattle.ax_held_kinds.specs.Lines.{line_end, line_ends}

-- a line that was put under an empty path on an empty listing
pub line_alone : (name path old new : List ℕ) (w n : ℕ) (c : Content) → path ≡ [] → old ≡ [] → Puts as_lines (one_onto (number_line (at path name) n ++ remark w c n)) old new → new ≡ line_end name w c n
line_alone name path old new w n c e f p =
    sym (append-nil new) ∙ p.put [] ∙ (λ i. f i ++ as_lines (one_onto (number_line (at (e i) name) n ++ remark w c n) []))

pub line_more : (name : List ℕ) (w n : ℕ) (c : Content) (lines new : List (List ℕ)) (line : List ℕ) → lines ≡ line_ends name w c n → line ≡ line_end name w c n → new ≡ lines ++ line ∷ [] → new ≡ line_ends name w c (n + 1)
line_more name w n c lines new line h e f = f ∙ (λ i. h i ++ e i ∷ []) ∙ ap (line_ends name w c) (sym (add-one n))

pub length_ends : (name : List ℕ) (w : ℕ) (c : Content) (n : ℕ) → length (line_ends name w c n) ≡ n
length_ends name w c zero = refl
length_ends name w c (suc n) = let h = length_ends name w c n in let l = length-append (line_ends name w c n) (line_end name w c n ∷ []) in omega (arith, h, l)

pub end_at : (name : List ℕ) (w : ℕ) (c : Content) (count n : ℕ) → n < count → get_or (line_ends name w c count) n [] ≡ line_end name w c n
end_at name w c zero n lt = absurd (omega arith)
end_at name w c (suc count) n lt =
    elim (cases_lt n count) [
      | inl less ↦ get_or_append_left (line_ends name w c count) (line_end name w c count ∷ []) [] n (let l = length_ends name w c count in omega (arith, l)) ∙ end_at name w c count n less
      | inr ge ↦ let same : count ≡ n = omega arith in
          get_or_push (line_ends name w c count) (line_end name w c count) [] n (length_ends name w c count ∙ same) ∙ ap (line_end name w c) same
    ]

pub ruleset ends = (line_alone, line_more)

pub line_there : (name : List ℕ) (w : ℕ) (c : Content) (lines : List (List ℕ)) (count n : ℕ) → lines ≡ line_ends name w c count → n < count → n < length lines
line_there name w c lines count n e lt = let l : length lines ≡ count = ap length e ∙ length_ends name w c count in omega (arith, l, lt)

pub line_found : (name : List ℕ) (w : ℕ) (c : Content) (lines : List (List ℕ)) (count n : ℕ) (line : List ℕ) → lines ≡ line_ends name w c count → n < count → line ≡ get_or lines n line → line ≡ line_end name w c n
line_found name w c lines count n line e lt is = is ∙ get_or_default lines n line [] (line_there name w c lines count n e lt) ∙ ap (λ xs. get_or xs n []) e ∙ end_at name w c count n lt

pub ruleset lookups = (line_there, line_found)
