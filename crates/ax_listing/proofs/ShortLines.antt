-- Lines of elements of few bits, put after their paths.
use Rattle.std.proofs.Common.{◌≡◌, ℕ, List, [], ◌∷◌, ◌++◌, codes, decimal, sym, ◌∙◌, ap, append_assoc}
use Rattle.ax_held_kinds.specs.Lines.{line_end}
use Rattle.ax_format.specs.Paths.{at}
use Rattle.ax_format.specs.declared.content.Content.{Content}
use Rattle.ax_text_form.specs.Printing.{as_lines, Puts}
use Rattle.ax_text_form.specs.Remarks.{remark}
use Rattle.ax_text_form.specs.ShowText.{number_line, element_line}
use Rattle.ax_text_form.specs.ValueText.{one_onto}

-- a path and then the line without it is the whole line
whole_line : (path name : List ℕ) (w n : ℕ) (c : Content) → path ++ line_end name w c n ≡ element_line w c (at path name) n ++ 0x0A ∷ []
whole_line path name w n c =
    sym (append_assoc path (number_line (at [] name) n ++ remark w c n) (0x0A ∷ []))
    ∙ ap (λ t. t ++ 0x0A ∷ []) (sym (append_assoc path (number_line (at [] name) n) (remark w c n)) ∙ ap (λ t. t ++ remark w c n) front)
  where
    front : path ++ number_line (at [] name) n ≡ number_line (at path name) n
    front =
        sym (append_assoc path (codes "/" ++ name ++ codes " = ") (decimal n))
        ∙ ap (λ t. t ++ decimal n) (sym (append_assoc path (codes "/" ++ name) (codes " = ")) ∙ ap (λ t. t ++ codes " = ") (sym (append_assoc path (codes "/") name)))

pub short_put : (path name line old new : List ℕ) (w n m : ℕ) (c : Content) → new ≡ old ++ (path ++ line) → line ≡ line_end name w c n → n ≡ m → Puts as_lines (one_onto (element_line w c (at path name) m)) old new
short_put path name line old new w n m c e is same = record {
  put = λ rest. ap (λ t. t ++ as_lines rest) (e ∙ ap (λ t. old ++ (path ++ t)) (is ∙ ap (line_end name w c) same) ∙ ap (λ t. old ++ t) (whole_line path name w m c))
      ∙ append_assoc old (element_line w c (at path name) m ++ 0x0A ∷ []) (as_lines rest) ∙ ap (λ t. old ++ t) (append_assoc (element_line w c (at path name) m) (0x0A ∷ []) (as_lines rest));
}

pub ruleset shorts = (short_put)
