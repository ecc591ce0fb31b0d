-- How texts are read from left to right. A reader answers what it read and the texts after it, or the texts from the
-- bad one on. Only private calls are seen as readers; what they read is said by the spelling.
use Rattle.std.specs.Prelude.{◌≡◌, ◌<◌, ℕ, zero, suc, Bool, true, false, if◌then◌else◌, bytes_eq, List, [], ◌∷◌, length, Option, Some, None, Result, Ok, Err}
use Rattle.ax_grammar.specs.Keywords.{keyword_text}
use Rattle.ax_grammar.specs.declared.keyword.Keyword.{Keyword}
use Rattle.ax_grammar.specs.declared.keyword.Keyword.TheVariants as Word

-- the texts that are left
abbrev pub Texts : Type 0
Texts = List (List ℕ)

-- what was read and the texts after it, or the texts from the bad one on
abbrev pub Parsed : Type 0 → Type 0
Parsed A = Result (A × Texts) Texts

infixl 10 ◌>>=◌
-- what follows a reader, where that did not stop
abbrev pub ◌>>=◌ : {A B : Type 0} → Result A Texts → (A → Result B Texts) → Result B Texts
(Ok x) >>= f = f x
(Err rest) >>= f = Err rest

-- where it reads something, fewer texts are left
abbrev pub LeavesLess : {A : Type 0} → (Texts → Parsed A) → Type 0
LeavesLess {A} read = (texts : Texts) (a : A) (rest : Texts) → read texts ≡ Ok (a, rest) → length rest < length texts

-- ---- one text

-- the text in front stands for that, or for nothing
abbrev pub one_of : {A : Type 0} → Option A → List ℕ → Texts → Parsed A
one_of None text rest = Err (text ∷ rest)
one_of (Some a) text rest = Ok (a, rest)

-- a text that stands for something
abbrev pub one_at : {A : Type 0} → (List ℕ → Option A) → Texts → Parsed A
one_at test [] = Err []
one_at test (text ∷ rest) = one_of (test text) text rest

-- the text of a keyword
abbrev pub expect_at : Keyword → Texts → Parsed (Unit {0})
expect_at word [] = Err []
expect_at word (text ∷ rest) = if bytes_eq (keyword_text word) text then Ok (tt, rest) else Err (text ∷ rest)

-- whether the text of a keyword comes; it is read if so
abbrev pub takes_at : Keyword → Texts → Parsed Bool
takes_at word [] = Err []
takes_at word (text ∷ rest) = if bytes_eq (keyword_text word) text then Ok (true, rest) else Ok (false, text ∷ rest)

-- ---- recursion

-- a reader that calls itself, at most that many times one in another
unfoldable pub within : {A : Type 0} → ((Texts → Parsed A) → Texts → Parsed A) → ℕ → Texts → Parsed A
within step zero texts = Err texts
within step (suc n) texts = step (within step n) texts

-- each call is after a text more, so one call for each text, and one for none, are enough
unfoldable pub recursive : {A : Type 0} → ((Texts → Parsed A) → Texts → Parsed A) → Texts → Parsed A
recursive step texts = within step (suc (length texts)) texts

-- ---- lists

-- one element, and then the others
abbrev pub list_step : {A : Type 0} → (Texts → Parsed A) → (Texts → Parsed (List A)) → Texts → Parsed (List A)
list_step element others texts = do
  closes ← takes_at Word.Close texts
  if closes.0 then Ok ([], closes.1) else (do
    first ← element closes.1
    rest ← others first.1
    Ok (first.0 ∷ rest.0, rest.1))

-- elements up to the brace that closes them
unfoldable pub list_at : {A : Type 0} → (Texts → Parsed A) → Texts → Parsed (List A)
list_at element = recursive (list_step element)

-- elements in braces
abbrev pub braced_at : {A : Type 0} → (Texts → Parsed A) → Texts → Parsed (List A)
braced_at element texts = do
  opens ← expect_at Word.Open texts
  list_at element opens.1

-- ---- all of the texts

-- nothing is left
abbrev pub end_at : Texts → Parsed (Unit {0})
end_at [] = Ok (tt, [])
end_at (text ∷ rest) = Err (text ∷ rest)

-- what a reader reads, and nothing after it
abbrev pub all_of : {A : Type 0} → (Texts → Parsed A) → Texts → Parsed A
all_of read texts = do
  a ← read texts
  end ← end_at a.1
  Ok (a.0, end.1)
