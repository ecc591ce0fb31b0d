-- Single tokens of expressions.
use Rattle.std.proofs.Common.{◌≡◌, ℕ, Bool, true, false, cond, List, [], ◌∷◌, drop, Some, None, refl, sym, ◌∙◌, ap, subst, codes, lit<, lit≤, pos}
use Rattle.std.specs.Prelude.{Option, bytes_eq, find, decimal}
use Rattle.std.proofs.lemmas.Slice.Eq.{bytes_eq-Decides}
use Rattle.ax_tokens.specs.Stopping.{Texts, StopsAt, IsNotFirst, One}
use Rattle.ax_tokens.proofs.Stops.{one_stops}
use Rattle.ax_tokens.proofs.Words.{not_first, none_first}
use Rattle.ax_expressions.specs.Words.{op_text, ops, op_of, keyword_text, keywords, keyword_of, IsPath, IsPathText, IsIntText, IsOpText, IsKeyword}
use Rattle.ax_expressions.specs.declared.expr.FullPath.{FullPath}
use Rattle.ax_expressions.specs.declared.expr.Op.{Op}
use Rattle.ax_expressions.specs.declared.expr.Op.TheVariants.{Equal, Unequal, Less, LessOrEqual, Greater, GreaterOrEqual}
use Rattle.ax_expressions.specs.declared.words.FilterKeyword.{FilterKeyword}
use Rattle.ax_expressions.specs.declared.words.FilterKeyword.TheVariants as Word

-- ---- a path

abbrev sample : FullPath
sample = record { category = 0; names = codes "A" ∷ [] }

sample_is : IsPath sample
sample_is = record { category = lit< tt; some = lit< tt; named = ((lit≤ tt, lit≤ tt, refl), tt) }

no_path : (texts : Texts) → IsNotFirst IsPathText texts → StopsAt (One IsPathText) texts texts
no_path texts n = one_stops IsPathText (codes "000/A") (sample, sample_is, refl) texts n

pub path_refused : (texts : Texts) (text : List ℕ) → texts ≡ text ∷ drop 1 texts → (IsPathText text → ⊥) → StopsAt (One IsPathText) texts texts
path_refused texts text e n = no_path texts (not_first IsPathText texts text e n)

pub path_ends : (texts : Texts) → texts ≡ [] → StopsAt (One IsPathText) texts texts
path_ends texts e = no_path texts (none_first IsPathText texts e)

pub split_at : (texts : Texts) (text other : List ℕ) → texts ≡ text ∷ drop 1 texts → text ≡ other → texts ≡ other ∷ drop 1 texts
split_at texts text other e h = e ∙ ap (λ t. t ∷ drop 1 texts) h

pub ruleset path_steps = (path_refused, path_ends, split_at)

-- ---- a whole number

pub int_refused : (texts : Texts) (text : List ℕ) → texts ≡ text ∷ drop 1 texts → (IsIntText text → ⊥) → StopsAt (One IsIntText) texts texts
int_refused texts text e n = one_stops IsIntText (decimal 0) (pos 0, lit< tt, refl) texts (not_first IsIntText texts text e n)

pub int_ends : (texts : Texts) → texts ≡ [] → StopsAt (One IsIntText) texts texts
int_ends texts e = one_stops IsIntText (decimal 0) (pos 0, lit< tt, refl) texts (none_first IsIntText texts e)

pub ruleset int_steps = (int_refused, int_ends, split_at)

-- ---- a comparison

abbrev some : {A : Type 0} → A → Option A
some x = Some x

find_case : {A : Type 0} (p : A → Bool) (y x : A) (ys : List A) (b : Bool) → p y ≡ b → cond b (Some y) (find p ys) ≡ Some x → (find p ys ≡ Some x → p x ≡ true) → p x ≡ true
find_case p y x ys true q h next = let same : y ≡ x = cc in subst (λ z. p z ≡ true) same q
find_case p y x ys false q h next = next h

-- what find found passes
find_passes : {A : Type 0} (p : A → Bool) (xs : List A) (x : A) → find p xs ≡ Some x → p x ≡ true
find_passes p [] x e = absurd cc
find_passes p (y ∷ ys) x e = find_case p y x ys (p y) refl e (find_passes p ys x)

pub op_back : (op : Op) → op_of (op_text op) ≡ Some op
unfolding op_of
op_back Equal = refl
op_back Unequal = refl
op_back Less = refl
op_back LessOrEqual = refl
op_back Greater = refl
op_back GreaterOrEqual = refl

no_op : (text : List ℕ) → op_of text ≡ None → IsOpText text → ⊥
no_op text n (op, e) = let bad : some op ≡ None = sym (op_back op) ∙ ap op_of (sym e) ∙ n in cc

op_is : (text : List ℕ) (op : Op) → op_of text ≡ Some op → text ≡ op_text op
unfolding op_of
op_is text op e = sym ((bytes_eq-Decides (op_text op) text).0 (find_passes (λ op. bytes_eq (op_text op) text) ops op e))

pub op_refused : (texts : Texts) (text : List ℕ) → texts ≡ text ∷ drop 1 texts → op_of text ≡ None → StopsAt (One IsOpText) texts texts
op_refused texts text e n = one_stops IsOpText (codes "=") (Equal, refl) texts (not_first IsOpText texts text e (no_op text n))

pub op_ends : (texts : Texts) → texts ≡ [] → StopsAt (One IsOpText) texts texts
op_ends texts e = one_stops IsOpText (codes "=") (Equal, refl) texts (none_first IsOpText texts e)

pub op_read : (op : Op) → One IsOpText (op_text op ∷ [])
op_read op = (op_text op, refl, (op, refl))

pub op_split : (texts : Texts) (text : List ℕ) (op : Op) → texts ≡ text ∷ drop 1 texts → op_of text ≡ Some op → texts ≡ op_text op ∷ drop 1 texts
op_split texts text op e h = e ∙ ap (λ t. t ∷ drop 1 texts) (op_is text op h)

pub ruleset op_steps = (op_refused, op_ends, op_read, op_split)

-- ---- the first word

keyword_back : (word : FilterKeyword) → keyword_of (keyword_text word) ≡ Some word
unfolding keyword_of
keyword_back Word.All = refl
keyword_back Word.Any = refl
keyword_back Word.Not = refl
keyword_back Word.Present = refl
keyword_back Word.Is = refl

keyword_is : (text : List ℕ) (word : FilterKeyword) → keyword_of text ≡ Some word → text ≡ keyword_text word
unfolding keyword_of
keyword_is text word e = sym ((bytes_eq-Decides (keyword_text word) text).0 (find_passes (λ word. bytes_eq (keyword_text word) text) keywords word e))

no_keyword : (text : List ℕ) → keyword_of text ≡ None → IsKeyword text → ⊥
no_keyword text n (word, e) = let bad : some word ≡ None = sym (keyword_back word) ∙ ap keyword_of (sym e) ∙ n in cc

pub keyword_refused : (texts : Texts) (text : List ℕ) → texts ≡ text ∷ drop 1 texts → keyword_of text ≡ None → IsNotFirst IsKeyword texts
keyword_refused texts text e n = not_first IsKeyword texts text e (no_keyword text n)

pub keyword_ends : (texts : Texts) → texts ≡ [] → IsNotFirst IsKeyword texts
keyword_ends texts e = none_first IsKeyword texts e

pub keyword_split : (texts : Texts) (text : List ℕ) (word : FilterKeyword) → texts ≡ text ∷ drop 1 texts → keyword_of text ≡ Some word → texts ≡ keyword_text word ∷ drop 1 texts
keyword_split texts text word e h = e ∙ ap (λ t. t ∷ drop 1 texts) (keyword_is text word h)

pub ruleset keyword_steps = (keyword_refused, keyword_ends, keyword_split)
