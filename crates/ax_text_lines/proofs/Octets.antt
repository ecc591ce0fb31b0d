-- Tokens put after a space.
use Rattle.std.proofs.Common.{◌≡◌, ℕ, List, [], ◌∷◌, ◌++◌, refl, sym, ◌∙◌, append_assoc}
use Rattle.ax_text_form.proofs.Printed.{text_put}
use Rattle.ax_text_form.specs.Printing.{after_spaces, Puts}
use Rattle.ax_text_form.specs.ValueText.{one_onto}

pub token_put : (old new text : List ℕ) → new ≡ old ++ 0x20 ∷ text → Puts after_spaces (one_onto text) old new
token_put old new text e = text_put old (old ++ 0x20 ∷ []) new text refl (e ∙ sym (append_assoc old (0x20 ∷ []) text))

pub octet_put : (old new : List ℕ) (octet : ℕ) → new ≡ old ++ 0x20 ∷ octet ∷ [] → Puts after_spaces (one_onto (octet ∷ [])) old new
octet_put old new octet e = token_put old new (octet ∷ []) e
