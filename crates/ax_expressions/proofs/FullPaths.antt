-- Paths with their category.
use Rattle.std.proofs.Common.{◌≡◌, ℕ, ◌+◌, ◌/◌, ◌%◌, ◌<◌, ◌==◌, true, false, List, [], ◌∷◌, ◌++◌, length, get_or, refl, sym, ◌∙◌, ap, subst, arith}
use Rattle.std.specs.List.{AllByRecursion, list_all}
use Rattle.std.proofs.lemmas.Bool.{and_parts}
use Rattle.std.proofs.lemmas.Bool.Decides.{nat_tests}
use Rattle.ax_format.specs.Characters.{IsName, is_name_octet}
use Rattle.ax_format.specs.Paths.{joined, three_digits, path_text, IsPathOf, onto, pieces}
use Rattle.ax_expressions.specs.Words.{IsPath, path_word, IsPathText}
use Rattle.ax_expressions.specs.declared.expr.FullPath.{FullPath}

-- the category and the names of a path stand on either side of the first slash
split_text : (category : ℕ) (names : List (List ℕ)) → 0 < length names → path_text category names ≡ three_digits category ++ 47 ∷ joined names
split_text category [] lt = absurd (omega arith)
split_text category (name ∷ names) lt = refl

pub split_word : (path : FullPath) → IsPath path → path_word path ≡ three_digits path.category ++ 47 ∷ joined path.names
split_word path is = split_text path.category path.names is.some

parts : (a b c x y z : ℕ) (s t : List ℕ) → a ∷ b ∷ c ∷ 47 ∷ s ≡ x ∷ y ∷ z ∷ 47 ∷ t → (a ∷ b ∷ c ∷ [] ≡ x ∷ y ∷ z ∷ []) × (s ≡ t)
parts a b c x y z s t e = (cc, cc)

of_names : (path : FullPath) → IsPath path → IsPathOf (joined path.names) path.names
of_names path is = record { some = is.some; named = is.named; spelled = refl }

abbrev parts_of : (a b c : ℕ) (rest : List ℕ) → (p : IsPathText (a ∷ b ∷ c ∷ 47 ∷ rest)) → (a ∷ b ∷ c ∷ [] ≡ three_digits p.0.category) × (rest ≡ joined p.0.names)
parts_of a b c rest (path, is, e) = parts a b c _ _ _ rest _ (e ∙ split_word path is)

pub no_category : (a b c : ℕ) (rest : List ℕ) → ((n : ℕ) → n < 256 → a ∷ b ∷ c ∷ [] ≡ three_digits n → ⊥) → IsPathText (a ∷ b ∷ c ∷ 47 ∷ rest) → ⊥
no_category a b c rest none p = none p.0.category p.1.category (parts_of a b c rest p).0

pub no_names : (a b c : ℕ) (rest : List ℕ) → ((names : List (List ℕ)) → IsPathOf rest names → ⊥) → IsPathText (a ∷ b ∷ c ∷ 47 ∷ rest) → ⊥
no_names a b c rest none p = none p.0.names (subst (λ t. IsPathOf t p.0.names) (sym (parts_of a b c rest p).1) (of_names p.0 p.1))

pub is_path : (path : FullPath) (rest : List ℕ) → path.category < 256 → IsPathOf rest path.names → IsPath path
is_path path rest lt is = record { category = lt; some = is.some; named = is.named }

pub is_word : (path : FullPath) (a b c : ℕ) (rest : List ℕ) → a ∷ b ∷ c ∷ [] ≡ three_digits path.category → IsPathOf rest path.names → a ∷ b ∷ c ∷ 47 ∷ rest ≡ path_word path
is_word path a b c rest e is =
    ap (λ d. d ++ 47 ∷ rest) e ∙ ap (λ t. three_digits path.category ++ 47 ∷ t) (sym is.spelled) ∙ sym (split_text path.category path.names is.some)

pub ruleset paths = (no_category, no_names, is_path, is_word)

-- ---- a text is that of one path

other_piece : (x : ℕ) (t : List ℕ) → (x == 47) ≡ false → pieces (x ∷ t) ≡ onto (x ∷ []) (pieces t)
other_piece x t e = rw e refl

no_slash : (x : ℕ) → is_name_octet x ≡ true → (x == 47) ≡ false
no_slash x e = grind (arith, nat_tests)

alone : (name : List ℕ) → list_all is_name_octet name ≡ true → pieces name ≡ name ∷ []
alone [] e = refl
alone (x ∷ name) e = let s = and_parts _ _ e in other_piece x name (no_slash x s.0) ∙ ap (onto (x ∷ [])) (alone name s.1)

in_front : (name t : List ℕ) → list_all is_name_octet name ≡ true → pieces (name ++ 47 ∷ t) ≡ name ∷ pieces t
in_front [] t e = refl
in_front (x ∷ name) t e = let s = and_parts _ _ e in other_piece x (name ++ 47 ∷ t) (no_slash x s.0) ∙ ap (onto (x ∷ [])) (in_front name t s.1)

pieces_joined : (names : List (List ℕ)) → 0 < length names → AllByRecursion IsName names → pieces (joined names) ≡ names
pieces_joined [] some all = absurd (omega arith)
pieces_joined (n ∷ []) some all = alone n all.0.2
pieces_joined (n ∷ m ∷ names) some all = in_front n (joined (m ∷ names)) all.0.2 ∙ ap (λ ps. n ∷ ps) (pieces_joined (m ∷ names) (omega arith) all.1)

same_category : (n m : ℕ) → n < 256 → m < 256 → three_digits n ≡ three_digits m → n ≡ m
same_category n m a b e =
    let first : 48 + n / 100 ≡ 48 + m / 100 = ap (λ t. get_or t 0 0) e in
    let second : 48 + n / 10 % 10 ≡ 48 + m / 10 % 10 = ap (λ t. get_or t 1 0) e in
    let third : 48 + n % 10 ≡ 48 + m % 10 = ap (λ t. get_or t 2 0) e in
    omega (arith, a, b, first, second, third)

pub same_path : (p q : FullPath) → IsPath p → IsPath q → path_word p ≡ path_word q → p ≡ q
same_path p q i j e =
    let split = parts _ _ _ _ _ _ _ _ (sym (split_word p i) ∙ e ∙ split_word q j) in
    let category : p.category ≡ q.category = same_category p.category q.category i.category j.category split.0 in
    let names : p.names ≡ q.names = sym (pieces_joined p.names i.some i.named) ∙ ap pieces split.1 ∙ pieces_joined q.names j.some j.named in
    (λ k. record { category = category k; names = names k })
