-- The first file of a name, one file after another.
use Rattle.std.proofs.Common.{◌≡◌, ℕ, ◌+◌, ◌<◌, ◌≤◌, Bool, true, false, cond, List, ◌∷◌, Some, None, option_map, length, map, drop, get_or, sym, ◌∙◌, ap}
use Rattle.std.proofs.lemmas.List.{at_drop_more, at_drop_all}
use Rattle.std.specs.List.{find}
use Rattle.std.specs.Str.{bytes_eq}
use Rattle.ax_endpoints.specs.Files.{File, octets_of}

-- of files whose first has that name, or doesn't
first_of_name : (b : Bool) (name : List ℕ) (f : File) (fs : List File) → b ≡ bytes_eq f.name name
    → octets_of name (f ∷ fs) ≡ cond b (Some f.octets) (octets_of name fs)
first_of_name true name f fs e = ap (λ b. option_map (λ one. one.octets) (cond b (Some f) (find (λ one. bytes_eq one.name name) fs))) (sym e)
first_of_name false name f fs e = ap (λ b. option_map (λ one. one.octets) (cond b (Some f) (find (λ one. bytes_eq one.name name) fs))) (sym e)

-- the files from i on, by whether the one at i has the name
step_on : {X : Type 0} (of : X → File) (xs : List X) (i : ℕ) (x : X) (name : List ℕ) (b : Bool) → i < length xs → x ≡ get_or xs i x → b ≡ bytes_eq (of x).name name
    → octets_of name (map of (drop i xs)) ≡ cond b (Some (of x).octets) (octets_of name (map of (drop (i + 1) xs)))
step_on of xs i x name b lt is same =
    at_drop_more (λ rest. octets_of name (map of rest)) xs i x lt
    ∙ ap (λ y. octets_of name (map of (y ∷ drop (i + 1) xs))) (sym is)
    ∙ first_of_name b name (of x) (map of (drop (i + 1) xs)) same

-- the file at i has the name, and those in front don't
pub found_here : {X : Type 0} (of : X → File) (xs : List X) (i : ℕ) (x : X) (name : List ℕ) → i < length xs → x ≡ get_or xs i x → true ≡ bytes_eq (of x).name name
    → octets_of name (map of xs) ≡ octets_of name (map of (drop i xs)) → octets_of name (map of xs) ≡ Some (of x).octets
found_here of xs i x name lt is same so_far = so_far ∙ step_on of xs i x name true lt is same

-- the files as far as i don't have the name
pub not_here : {X : Type 0} (of : X → File) (xs : List X) (i : ℕ) (x : X) (name : List ℕ) → i < length xs → x ≡ get_or xs i x → false ≡ bytes_eq (of x).name name
    → octets_of name (map of xs) ≡ octets_of name (map of (drop i xs)) → octets_of name (map of xs) ≡ octets_of name (map of (drop (i + 1) xs))
not_here of xs i x name lt is other so_far = so_far ∙ step_on of xs i x name false lt is other

-- no file has the name
pub nowhere : {X : Type 0} (of : X → File) (xs : List X) (i : ℕ) (name : List ℕ) → length xs ≤ i
    → octets_of name (map of xs) ≡ octets_of name (map of (drop i xs)) → octets_of name (map of xs) ≡ None
nowhere of xs i name end so_far = so_far ∙ at_drop_all (λ rest. octets_of name (map of rest)) xs i end
