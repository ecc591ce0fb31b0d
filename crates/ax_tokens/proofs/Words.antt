-- One word.
use Rattle.std.proofs.Common.{◌≡◌, ℕ, List, [], ◌∷◌, drop, refl, sym, ◌∙◌, ap, subst, zero, suc, Some}
use Rattle.std.specs.Prelude.{slice_get}
use Rattle.ax_tokens.specs.PlainToken.{PlainToken}
use Rattle.ax_tokens.specs.Stopping.{Texts, StopsAt, IsNotFirst, Word, One, texts_of}
use Rattle.ax_tokens.proofs.Stops.{one_stops, same_stops}

-- a reader that wants one word stops at the texts
pub word_stops : (word : List ℕ) (texts : Texts) → IsNotFirst (λ text. text ≡ word) texts → StopsAt (Word word) texts texts
word_stops word texts n = same_stops (One (λ text. text ≡ word)) (Word word) texts texts (λ t m. m.1 ∙ ap (λ w. w ∷ []) m.2) (λ t e. (word, e, refl)) (one_stops (λ text. text ≡ word) word refl texts n)

pub not_first : (Passes : List ℕ → Type 0) (texts : Texts) (text : List ℕ) → texts ≡ text ∷ drop 1 texts → (Passes text → ⊥) → IsNotFirst Passes texts
not_first Passes texts text e n = subst (IsNotFirst Passes) (sym e) n

pub none_first : (Passes : List ℕ → Type 0) (texts : Texts) → texts ≡ [] → IsNotFirst Passes texts
none_first Passes texts e = subst (IsNotFirst Passes) (sym e) tt

pub other_word : (word text : List ℕ) (texts : Texts) → texts ≡ text ∷ drop 1 texts → (text ≡ word → ⊥) → StopsAt (Word word) texts texts
other_word word text texts e n = word_stops word texts (not_first (λ t. t ≡ word) texts text e n)

pub no_word : (word : List ℕ) (texts : Texts) → texts ≡ [] → StopsAt (Word word) texts texts
no_word word texts e = word_stops word texts (none_first (λ t. t ≡ word) texts e)

pub ruleset expected = (other_word, no_word)

pub ruleset taken = not_first

-- the text of a token is the first of those from it on
token_first : (tokens : List PlainToken) (at : ℕ) (t : PlainToken) → slice_get tokens at ≡ Some t → drop at (texts_of tokens) ≡ t.text ∷ drop 1 (drop at (texts_of tokens))
token_first [] at t e = cc
token_first (u ∷ tokens) zero t e = let same : u ≡ t = cc in ap (λ x. x.text ∷ texts_of tokens) same
token_first (u ∷ tokens) (suc at) t e = token_first tokens at t e

pub next_text : (tokens : List PlainToken) (at : ℕ) (now : Texts) (t : PlainToken) → drop at (texts_of tokens) ≡ now → slice_get tokens at ≡ Some t → now ≡ t.text ∷ drop 1 now
next_text tokens at now t e h = subst (λ x. x ≡ t.text ∷ drop 1 x) e (token_first tokens at t h)
