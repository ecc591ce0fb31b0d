-- How the members of a language go on from texts that were read, and what a call of the reader gives.
use Rattle.std.specs.Prelude.{◌≡◌, [], ◌∷◌, ◌++◌, Result, Ok, Err}
use Rattle.ax_tokens.specs.Stopping.{Texts, Stops}
use Rattle.ax_tokens.specs.declared.stopped.Stopped.{Stopped}

-- the other texts begin with the same text as the first ones, or neither has a text
abbrev pub BeginAlike : Texts → Texts → Type 0
BeginAlike [] more = more ≡ []
BeginAlike (text ∷ now) more = (y : Texts) × (more ≡ text ∷ y)

-- no text is left to read
abbrev pub Done : Texts → Type 0
Done texts = texts ≡ []

-- Of the old texts a front was read, and these are left. What may follow the front in a member of L are the members of M,
-- and no member of L ends inside the front, or otherwise than by a member of M, where the first text after the front is
-- the one that is left.
pub record Continues (L M : Texts → Type 0) (old now : Texts) : Type 0 where
  pub front : Texts
  pub split : old ≡ front ++ now
  pub member : (rest : Texts) → M rest → L (front ++ rest)
  pub following : (member x y : Texts) → BeginAlike now y → L member → member ++ x ≡ front ++ y → (rest : Texts) × (member ≡ front ++ rest) × M rest

-- the texts of what has the shape
abbrev pub Spelled : {X : Type 0} → (X → Type 0) → (X → Texts) → Texts → Type 0
Spelled R spell texts = (x : _) × R x × (texts ≡ spell x)

-- x has the shape, its texts stood in front, and no other texts of that language did
pub record IsRead {X : Type 0} (R : X → Type 0) (spell : X → Texts) (x : X) (old new : Texts) : Type 0 where
  pub shape : R x
  pub split : old ≡ spell x ++ new
  pub whole : Continues (Spelled R spell) Done old new

-- what a call gives: something whose texts stood in front, or where the reader stops
abbrev pub Gives : {T X : Type 0} → (T → X) → (X → Type 0) → (X → Texts) → Result T Stopped → Texts → Texts → Type 0
Gives tree R spell (Ok t) old new = IsRead R spell (tree t) old new
Gives tree R spell (Err stopped) old new = Stops stopped (Spelled R spell) old new
