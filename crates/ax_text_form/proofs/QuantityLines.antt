-- Lines of quantities, by ends of their fractions that were made.
use Rattle.std.proofs.Common.{◌≡◌, ℕ, zero, suc, ◌/◌, ◌^◌, ◌<◌, List, [], ◌∷◌, ◌++◌, length, get_or, refl, sym, ◌∙◌, ap, arith, inl, inr, codes, decimal, append_assoc, length-append}
use Rattle.std.proofs.lemmas.Bool.{cases_lt}
use Rattle.std.proofs.lemmas.List.{get_or_append_left, get_or_push, get_or_default}
use Rattle.ax_text_form.specs.FractionEnds.{fraction_end, fraction_ends}
use Rattle.ax_text_form.specs.Remarks.{quoted, common_divisor, reduced_text}
use Rattle.ax_text_form.proofs.Pieces.{two_pieces, three_pieces}

-- a text, and then what is in quotes and the end of the line
tail : (text q : List ℕ) → text ++ (codes " " ++ q ++ 0x0A ∷ []) ≡ text ++ codes " " ++ q ++ 0x0A ∷ []
tail text q = sym (append_assoc (text ++ codes " ") q (0x0A ∷ []) ∙ append_assoc text (codes " ") (q ++ 0x0A ∷ []))

pub end_put : (old a b c unit : List ℕ) (den : ℕ) → a ≡ old ++ 0x2F ∷ [] → b ≡ a ++ decimal den → c ≡ b ++ (codes " " ++ quoted unit ++ 0x0A ∷ []) → c ≡ old ++ fraction_end unit den
end_put old a b c unit den e f g = three_pieces old a b c (codes "/") (decimal den) (codes " " ++ quoted unit ++ 0x0A ∷ []) e f g ∙ ap (λ t. old ++ t) (tail (codes "/" ++ decimal den) (quoted unit))

pub ruleset ends = (end_put)

-- ---- ends that were made

length_ends : (unit : List ℕ) (den n : ℕ) → length (fraction_ends unit den n) ≡ n
length_ends unit den zero = refl
length_ends unit den (suc n) = let h = length_ends unit den n in let l = length-append (fraction_ends unit den n) (fraction_end unit (den / 2 ^ n) ∷ []) in omega (arith, h, l)

end_at : (unit : List ℕ) (den count n : ℕ) → n < count → get_or (fraction_ends unit den count) n [] ≡ fraction_end unit (den / 2 ^ n)
end_at unit den zero n lt = absurd (omega arith)
end_at unit den (suc count) n lt =
    elim (cases_lt n count) [
      | inl less ↦ get_or_append_left (fraction_ends unit den count) (fraction_end unit (den / 2 ^ count) ∷ []) [] n (let l = length_ends unit den count in omega (arith, l)) ∙ end_at unit den count n less
      | inr ge ↦ let same : count ≡ n = omega arith in
          get_or_push (fraction_ends unit den count) (fraction_end unit (den / 2 ^ count)) [] n (length_ends unit den count ∙ same) ∙ ap (λ n. fraction_end unit (den / 2 ^ n)) same
    ]

-- one more was made
pub end_more : (unit : List ℕ) (den n : ℕ) (ends new : List (List ℕ)) (end : List ℕ) → length ends ≡ n → ends ≡ fraction_ends unit den (length ends) → end ≡ fraction_end unit (den / 2 ^ n) → new ≡ ends ++ end ∷ [] → new ≡ fraction_ends unit den (length new)
end_more unit den n ends new end l h e f =
    let made : new ≡ fraction_ends unit den (suc n) = f ∙ (λ i. (h ∙ ap (fraction_ends unit den) l) i ++ e i ∷ []) in
    let long : length new ≡ suc n = ap length made ∙ length_ends unit den (suc n) in
    made ∙ ap (fraction_ends unit den) (sym long)

pub ruleset makes = (end_more)

-- ---- fractions

-- a numerator and what comes after it
whole : (x y q : List ℕ) → x ++ (codes "/" ++ y ++ codes " " ++ q ++ 0x0A ∷ []) ≡ x ++ codes "/" ++ y ++ codes " " ++ q ++ 0x0A ∷ []
whole x y q =
    let t = codes " " ++ q ++ 0x0A ∷ [] in
    ap (λ r. x ++ r) (sym (tail (codes "/" ++ y) q)) ∙ sym (append_assoc x (codes "/" ++ y) t) ∙ ap (λ r. r ++ t) (sym (append_assoc x (codes "/") y)) ∙ tail (x ++ codes "/" ++ y) q

pub by_end : (old new end unit : List ℕ) (made : List (List ℕ)) (n den t : ℕ) → made ≡ fraction_ends unit den (length made) → t < length made → end ≡ get_or made t end → 2 ^ t ≡ common_divisor den n den → new ≡ old ++ (decimal (n / 2 ^ t) ++ end)
    → new ≡ old ++ (reduced_text n den ++ codes " " ++ quoted unit ++ 0x0A ∷ [])
by_end old new end unit made n den t h lt is two e =
    let found : end ≡ fraction_end unit (den / 2 ^ t) = is ∙ get_or_default made t end [] lt ∙ ap (λ xs. get_or xs t []) h ∙ end_at unit den (length made) t lt in
    e ∙ ap (λ r. old ++ (decimal (n / 2 ^ t) ++ r)) found ∙ ap (λ r. old ++ r) (whole (decimal (n / 2 ^ t)) (decimal (den / 2 ^ t)) (quoted unit))
    ∙ ap (λ d. old ++ (decimal (n / d) ++ codes "/" ++ decimal (den / d) ++ codes " " ++ quoted unit ++ 0x0A ∷ [])) two

pub by_parts : (old a new text unit : List ℕ) → a ≡ old ++ text → new ≡ a ++ (codes " " ++ quoted unit ++ 0x0A ∷ []) → new ≡ old ++ (text ++ codes " " ++ quoted unit ++ 0x0A ∷ [])
by_parts old a new text unit e f = two_pieces old a new text (codes " " ++ quoted unit ++ 0x0A ∷ []) e f ∙ ap (λ t. old ++ t) (tail text (quoted unit))

pub ruleset lines = (by_end, by_parts)
