-- What is printed, text after text.
use Rattle.std.specs.Prelude.{◌≡◌, ℕ, List, [], ◌∷◌, ◌++◌}
use Rattle.ax_tokens.specs.Octets.{line_feed}
use Rattle.ax_text_form.specs.ValueText.{Texts}
use Rattle.ax_text_form.specs.declared.lister.Lister.{Lister}
use Rattle.ax_text_form.specs.declared.printer.TreePrinter.{TreePrinter}

-- each text after a space
abbrev pub after_spaces : Texts → List ℕ
after_spaces [] = []
after_spaces (text ∷ texts) = 0x20 ∷ (text ++ after_spaces texts)

-- each text with a line feed after it
abbrev pub as_lines : Texts → List ℕ
as_lines [] = []
as_lines (text ∷ texts) = text ++ line_feed ∷ as_lines texts

-- texts were printed in that form: with any others after them, the output is the old one and all of these
pub record Puts (form : Texts → List ℕ) (onto : Texts → Texts) (old new : List ℕ) : Type 0 where
  pub put : (rest : Texts) → new ++ form rest ≡ old ++ form (onto rest)

-- these texts were put on the output of a printer, each after a space
abbrev pub PutsTexts : (Texts → Texts) → TreePrinter → TreePrinter → Type 0
PutsTexts onto old new = Puts after_spaces onto old.out.items new.out.items

-- these lines were put on a listing
abbrev pub PutsLines : (Texts → Texts) → Lister → Lister → Type 0
PutsLines onto old new = Puts as_lines onto old.out.octets new.out.octets
