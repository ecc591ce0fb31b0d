-- Tokens that are printed with one space between are the tokens of that text.
use Rattle.std.proofs.Common.{◌≡◌, ℕ, ◌+◌, List, [], ◌∷◌, ◌++◌, length, refl, sym, ap, append_assoc, append-nil, subst}
use Rattle.ax_tokens.specs.Octets.{line_feed, is_separator, is_word_octet}
use Rattle.ax_tokens.specs.Gap.{IsGap, no_octet, separator}
use Rattle.ax_tokens.specs.Depth.{IsWithin}
use Rattle.ax_tokens.specs.Lexing.{MayFollow, AreTokensWithGaps, Lexes, AreTokensOf}
use Rattle.ax_tokens.specs.Printing.{AreTokenTexts, spaced, placed}
use Rattle.ax_tokens.specs.declared.token.TokenKind.{TokenKind}
use Rattle.ax_tokens.specs.declared.token.TokenKind.TheVariants.{Word, Str, Open, Close}

-- what follows the last token: nothing, or a line feed
data Ending : List ℕ → Type 0 where
  none : Ending []
  line : Ending (line_feed ∷ [])

ending_gap : (end : List ℕ) → Ending end → IsGap [] end
unfolding is_separator
ending_gap end none = no_octet
ending_gap end line = separator line_feed [] refl no_octet

ending_follows : (kind : TokenKind) (end : List ℕ) → Ending end → MayFollow kind (end ++ [])
unfolding is_word_octet
ending_follows Word end none = tt
ending_follows Word end line = refl
ending_follows Str end h = tt
ending_follows Open end h = tt
ending_follows Close end h = tt

space_gap : (rest : List ℕ) → IsGap rest (0x20 ∷ [])
unfolding is_separator
space_gap rest = separator 0x20 [] refl no_octet

space_follows : (kind : TokenKind) (rest : List ℕ) → MayFollow kind (0x20 ∷ rest)
unfolding is_word_octet
space_follows Word rest = refl
space_follows Str rest = tt
space_follows Open rest = tt
space_follows Close rest = tt

-- the octets of at least one token, and the ending
abbrev printed : List (TokenKind × List ℕ) → List ℕ → List ℕ
printed ts end = spaced ts ++ end

printed_more : (t u : TokenKind × List ℕ) (ts : List (TokenKind × List ℕ)) (end : List ℕ) → printed (t ∷ u ∷ ts) end ≡ t.1 ++ ((0x20 ∷ []) ++ printed (u ∷ ts) end)
printed_more t u ts end = append_assoc t.1 (0x20 ∷ spaced (u ∷ ts)) end

placed_lex : (at : ℕ) (t : TokenKind × List ℕ) (ts : List (TokenKind × List ℕ)) (end : List ℕ) → Ending end → AreTokenTexts (t ∷ ts) → AreTokensWithGaps at (placed at (t ∷ ts)) (printed (t ∷ ts) end) []
placed_lex at t [] end h texts = (end, [], ap (λ x. t.1 ++ x) (sym (append-nil end)), refl, refl, texts.0, ending_follows t.0 end h, ending_gap end h, refl)
placed_lex at t (u ∷ ts) end h texts =
    let rest = printed (u ∷ ts) end in
    (0x20 ∷ [], rest, printed_more t u ts end, refl, refl, texts.0, space_follows t.0 (rest ++ []), space_gap (rest ++ []), placed_lex (at + length t.1 + 1) u ts end h texts.1)

lexes_printed : (ts : List (TokenKind × List ℕ)) (end : List ℕ) → Ending end → AreTokenTexts ts → Lexes (placed 0 ts) (printed ts end) []
lexes_printed [] end h texts = record { gap = end; more = []; split = sym (append-nil end); first_gap = ending_gap end h; each_token = refl }
lexes_printed (t ∷ ts) end h texts = record { gap = []; more = printed (t ∷ ts) end; split = refl; first_gap = no_octet; each_token = placed_lex 0 t ts end h texts }

pub printed_line : (ts : List (TokenKind × List ℕ)) (limit : ℕ) → AreTokenTexts ts → IsWithin limit (placed 0 ts) → AreTokensOf (spaced ts ++ line_feed ∷ []) limit (placed 0 ts)
printed_line ts limit texts within = record { lexed = lexes_printed ts (line_feed ∷ []) line texts; within = within }

pub printed_text : (ts : List (TokenKind × List ℕ)) (limit : ℕ) → AreTokenTexts ts → IsWithin limit (placed 0 ts) → AreTokensOf (spaced ts) limit (placed 0 ts)
printed_text ts limit texts within =
    let h = lexes_printed ts [] none texts in
    record { lexed = subst (λ x. Lexes (placed 0 ts) x []) (append-nil (spaced ts)) h; within = within }
