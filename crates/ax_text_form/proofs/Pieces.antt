-- Pieces that are written one after the other.
use Rattle.std.proofs.Common.{Result, take, drop, set, length, arith, ◌+◌, ◌-◌, ◌<◌, ◌≤◌, ◌≡◌, ℕ, List, [], ◌∷◌, ◌++◌, codes, decimal, sym, ◌∙◌, ap, append_assoc}
use Rattle.std.specs.Result.{OnOk}
use Rattle.std.proofs.lemmas.Fmt.{decimal_digit}
use Rattle.std.proofs.lemmas.List.{take-append-drop, take-set, drop-set}
use Rattle.std.proofs.lemmas.Result.{on_ok_weaker}
use Rattle.ax_format.specs.Paths.{at}
use Rattle.ax_text_form.specs.Printing.{as_lines, Puts}
use Rattle.ax_text_form.specs.ShowText.{number_line, count_line, content_line}
use Rattle.ax_text_form.specs.ValueText.{one_onto, hex_text}

-- what follows from what a last call did
pub last_put : {T E P Q : Type 0} (r : Result T E) → OnOk r P → (P → Q) → OnOk r Q
last_put r p f = on_ok_weaker r f p

pub two_pieces : (old a b x y : List ℕ) → a ≡ old ++ x → b ≡ a ++ y → b ≡ old ++ (x ++ y)
two_pieces old a b x y e f = f ∙ ap (λ t. t ++ y) e ∙ append_assoc old x y

pub three_pieces : (old a b c x y z : List ℕ) → a ≡ old ++ x → b ≡ a ++ y → c ≡ b ++ z → c ≡ old ++ (x ++ y ++ z)
three_pieces old a b c x y z e f g = two_pieces old b c (x ++ y) z (two_pieces old a b x y e f) g

pub ruleset pieces = (two_pieces, three_pieces)

pub ruleset made = (two_pieces, three_pieces)

-- what was written, and a line feed
pub line_put : (old mid new line : List ℕ) → mid ≡ old ++ line → new ≡ mid ++ 0x0A ∷ [] → Puts as_lines (one_onto line) old new
line_put old mid new line e f = record { put = λ rest. ap (λ t. t ++ as_lines rest) (f ∙ ap (λ t. t ++ 0x0A ∷ []) e) ∙ append_assoc (old ++ line) (0x0A ∷ []) (as_lines rest) ∙ append_assoc old line (0x0A ∷ as_lines rest) }

-- four texts, bracketed from the right, and from the left
four : (a b c d : List ℕ) → a ++ (b ++ (c ++ d)) ≡ a ++ b ++ c ++ d
four a b c d = sym (append_assoc (a ++ b) c d ∙ append_assoc a b (c ++ d))

-- two pieces and a line feed
pub two_put : (old a b c x y : List ℕ) → a ≡ old ++ x → b ≡ a ++ y → c ≡ b ++ 0x0A ∷ [] → Puts as_lines (one_onto (x ++ y)) old c
two_put old a b c x y e f g = line_put old b c (x ++ y) (two_pieces old a b x y e f) g

pub content_put : (old a b c d path octets : List ℕ) → a ≡ old ++ path → b ≡ a ++ codes " octets " → c ≡ b ++ hex_text octets → d ≡ c ++ 0x0A ∷ [] → Puts as_lines (one_onto (content_line path octets)) old d
content_put old a b c d path octets e f g h = line_put old c d (content_line path octets) (three_pieces old a b c path (codes " octets ") (hex_text octets) e f g) h

-- ---- numbers

-- a path, a name under it and its number
named : (path name digits : List ℕ) → path ++ (codes "/" ++ (name ++ (codes " = " ++ digits))) ≡ at path name ++ codes " = " ++ digits
named path name digits = four path (codes "/") name (codes " = " ++ digits) ∙ sym (append_assoc (path ++ codes "/" ++ name) (codes " = ") digits)

-- the name is the first octets of others
pub spare_put : (old mid new path padded : List ℕ) (count n : ℕ) → take count padded ≡ codes "spare" → mid ≡ old ++ (path ++ (codes "/" ++ (take count padded ++ (codes " = " ++ decimal n)))) → new ≡ mid ++ 0x0A ∷ []
    → Puts as_lines (one_onto (number_line (at path (codes "spare")) n)) old new
spare_put old mid new path padded count n is e f =
    line_put old mid new (number_line (at path (codes "spare")) n) (e ∙ ap (λ name. old ++ (path ++ (codes "/" ++ (name ++ (codes " = " ++ decimal n))))) is ∙ ap (λ t. old ++ t) (named path (codes "spare") (decimal n))) f

pub wide_spare_put : (old a b c new path : List ℕ) (n : ℕ) → a ≡ old ++ path → b ≡ a ++ (codes "/" ++ (codes "spare" ++ codes " = ")) → c ≡ b ++ decimal n → new ≡ c ++ 0x0A ∷ [] → Puts as_lines (one_onto (number_line (at path (codes "spare")) n)) old new
wide_spare_put old a b c new path n e f g h =
    line_put old c new (number_line (at path (codes "spare")) n) (three_pieces old a b c path (codes "/" ++ (codes "spare" ++ codes " = ")) (decimal n) e f g ∙ ap (λ t. old ++ t) (append_assoc path (codes "/spare = ") (decimal n) ∙ named path (codes "spare") (decimal n))) h

-- the front of the line of a number under a path
pub named_put : (old new path name padded : List ℕ) (count n : ℕ) → take count padded ≡ name → new ≡ old ++ (path ++ (codes "/" ++ (take count padded ++ (codes " = " ++ decimal n)))) → new ≡ old ++ number_line (at path name) n
named_put old new path name padded count n is e = e ∙ ap (λ name. old ++ (path ++ (codes "/" ++ (name ++ (codes " = " ++ decimal n))))) is ∙ ap (λ t. old ++ t) (named path name (decimal n))

-- that front, a remark and the line feed
pub element_put : (old mid new front remark : List ℕ) → mid ≡ old ++ front → new ≡ mid ++ (remark ++ 0x0A ∷ []) → Puts as_lines (one_onto (front ++ remark)) old new
element_put old mid new front remark e f = line_put old (mid ++ remark) new (front ++ remark) (ap (λ t. t ++ remark) e ∙ append_assoc old front remark) (f ∙ sym (append_assoc mid remark (0x0A ∷ [])))

pub none_put : (old mid new path word : List ℕ) → mid ≡ old ++ path → new ≡ mid ++ (codes " " ++ (word ++ codes " 0\n")) → Puts as_lines (one_onto (count_line path word 0)) old new
none_put old mid new path word e f =
    line_put old (mid ++ (codes " " ++ (word ++ codes " 0"))) new (count_line path word 0) (ap (λ t. t ++ (codes " " ++ (word ++ codes " 0"))) e ∙ append_assoc old path (codes " " ++ (word ++ codes " 0")) ∙ ap (λ t. old ++ t) (four path (codes " ") word (codes " 0") ∙ tail))
    (f ∙ ap (λ t. mid ++ (codes " " ++ t)) (sym (append_assoc word (codes " 0") (0x0A ∷ []))) ∙ sym (append_assoc mid (codes " " ++ (word ++ codes " 0")) (0x0A ∷ [])))
  where
    tail : path ++ codes " " ++ word ++ codes " 0" ≡ count_line path word 0
    tail = sym (append_assoc (path ++ codes " " ++ word) (codes " ") (codes "0")) ∙ ap (λ d. path ++ codes " " ++ word ++ codes " " ++ d) (sym (decimal_digit 0 (omega arith)))

-- ---- a count, in place of one digit

set_split : (xs : List ℕ) (i y : ℕ) → i < length xs → set xs i y ≡ take i xs ++ y ∷ drop (i + 1) xs
set_split xs i y lt = sym (take-append-drop i (set xs i y)) ∙ (λ k. take-set xs i y k ++ drop-set xs i y lt k)

pub digit_set : (old new : List ℕ) (end n : ℕ) → 2 ≤ end → end ≤ length old → n < 10 → new ≡ set old (end - 2) (48 + n) → new ≡ take (end - 2) old ++ (decimal n ++ drop (end - 1) old)
digit_set old new end n some within lt e =
    let next : (end - 2) + 1 ≡ end - 1 = omega arith in
    e ∙ set_split old (end - 2) (48 + n) (omega arith) ∙ ap (λ k. take (end - 2) old ++ ((48 + n) ∷ drop k old)) next ∙ ap (λ d. take (end - 2) old ++ (d ++ drop (end - 1) old)) (sym (decimal_digit n lt))
