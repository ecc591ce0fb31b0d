-- Languages of lists of texts, and where a reader of one stops.
use Rattle.std.specs.Prelude.{◌≡◌, ℕ, List, [], ◌∷◌, ◌++◌, map, Result, Ok, Err}
use Rattle.ax_tokens.specs.PlainToken.{PlainToken}
use Rattle.ax_tokens.specs.declared.stopped.Stopped.{Stopped}
use Rattle.ax_tokens.specs.declared.stopped.Stopped.TheVariants.{Bad, OutOfMemory}
use Rattle.std.specs.List.{AllByRecursion}

abbrev pub Texts : Type 0
Texts = List (List ℕ)

-- the first of the texts with others after it; nothing where there is none
abbrev pub first_with : Texts → Texts → Texts
first_with [] more = []
first_with (text ∷ after) more = text ∷ more

-- a reader of the language read a front of the old texts and stopped at the new ones. The front begins a member of the
-- language, which is written out. No member, and none's beginning, is read from the front and the text at which it
-- stopped, whatever follows; where it stopped at the end, none is read from the front alone.
pub record StopsAt (L : Texts → Type 0) (old new : Texts) : Type 0 where
  pub front : Texts
  pub split : old ≡ front ++ new
  pub rest : Texts
  pub begins : L (front ++ rest)
  pub refuses : (member following more : Texts) → L member → member ++ following ≡ front ++ first_with new more → ⊥

-- the first of the texts doesn't pass, or there is none
abbrev pub IsNotFirst : (List ℕ → Type 0) → Texts → Type 0
IsNotFirst Passes [] = Unit {0}
IsNotFirst Passes (text ∷ rest) = Passes text → ⊥

-- the texts of tokens
abbrev pub texts_of : List PlainToken → Texts
texts_of tokens = map (λ t. t.text) tokens

-- ---- what a call of a reader gives

-- it stops, unless memory ran out
abbrev pub Stops : Stopped → (Texts → Type 0) → Texts → Texts → Type 0
Stops Bad L old new = StopsAt L old new
Stops OutOfMemory L old new = Unit {0}

-- a member of the language that stood in front, or where the reader stops
abbrev pub Reads : {X : Type 0} → (X → Texts) → (Texts → Type 0) → Result X Stopped → Texts → Texts → Type 0
Reads spelled L (Ok x) old new = L (spelled x) × (old ≡ spelled x ++ new)
Reads spelled L (Err stopped) old new = Stops stopped L old new

-- ---- languages

-- one text
abbrev pub Word : List ℕ → Texts → Type 0
Word word texts = texts ≡ word ∷ []

-- a text that passes
abbrev pub One : (List ℕ → Type 0) → Texts → Type 0
One Passes texts = (text : List ℕ) × (texts ≡ text ∷ []) × Passes text

-- a member of one language and after it one of another
abbrev pub Then : (Texts → Type 0) → (Texts → Type 0) → Texts → Type 0
Then L M texts = (a : Texts) × (b : Texts) × (texts ≡ a ++ b) × L a × M b

-- lists of texts one after another
abbrev pub joined : List Texts → Texts
joined [] = []
joined (texts ∷ more) = texts ++ joined more

-- members one after another, and the text that closes them
abbrev pub Closed : (Texts → Type 0) → List ℕ → Texts → Type 0
Closed L close texts = (members : List Texts) × AllByRecursion L members × (texts ≡ joined members ++ close ∷ [])
