-- The files up to one, as the loop walks over them.
use Rattle.std.proofs.Common.{◌≡◌, ℕ, ◌+◌, List, [], ◌∷◌, ◌++◌, Bool, IsTrue, Option, None, length, refl, sym, ◌∙◌, ap, subst, append_assoc, append-nil, length-append}
use Rattle.ax_endpoints.specs.Files.{File}
use Rattle.ax_format.specs.Specification.{SpecTree, spec_of}
use Rattle.ax_endpoints.specs.Told.{number_after}
use Rattle.ax_load.specs.Languages.{category_files}
use Rattle.ax_load.specs.Loading.{GivesSpec, LoadsIn, EachGives, taken_by, AreNewAfter, FilesGive}

abbrev each_more : (files : Option (List File)) (names : List (List ℕ)) (specs : List SpecTree) (name : List ℕ) (spec : SpecTree) → EachGives files names specs → GivesSpec files name spec → EachGives files (names ++ name ∷ []) (specs ++ spec ∷ [])
each_more files [] [] name spec h g = (g, tt)
each_more files [] (s ∷ specs) name spec h g = absurd h
each_more files (n ∷ names) [] name spec h g = absurd h
each_more files (n ∷ names) (s ∷ specs) name spec h g = (h.0, each_more files names specs name spec h.1 g)

-- the octets of one more load come to those of the others
taken_more : (files : Option (List File)) (names : List (List ℕ)) (specs : List SpecTree) (name : List ℕ) (spec : SpecTree) (h : EachGives files names specs) (g : GivesSpec files name spec) (t : ℕ)
    → taken_by files (names ++ name ∷ []) (specs ++ spec ∷ []) (each_more files names specs name spec h g) t ≡ number_after (taken_by files names specs h t) (length g.octets)
taken_more files [] [] name spec h g t = refl
taken_more files [] (s ∷ specs) name spec h g t = absurd h
taken_more files (n ∷ names) [] name spec h g t = absurd h
taken_more files (n ∷ names) (s ∷ specs) name spec h g t = taken_more files names specs name spec h.1 g (number_after t (length h.0.octets))

new_more : (before specs : List SpecTree) (spec : SpecTree) → AreNewAfter before specs → spec_of spec.category (before ++ specs) ≡ None → AreNewAfter before (specs ++ spec ∷ [])
new_more before [] spec h fresh = (subst (λ x. spec_of spec.category x ≡ None) (append-nil before) fresh, tt)
new_more before (s ∷ specs) spec h fresh =
    (h.0, new_more (before ++ s ∷ []) specs spec h.1 (subst (λ x. spec_of spec.category x ≡ None) (sym (append_assoc before (s ∷ []) specs)) fresh))

-- the first i names are these, they give the catalogue, those are left, and the number of octets taken rose so
pub record Passed (distinct : Bool) (files : Option (List File)) (names : List (List ℕ)) (i : ℕ) (before : List SpecTree) (left : List (List ℕ)) (t t' : ℕ) : Type 0 where
  pub earlier : List (List ℕ)
  pub split : names ≡ earlier ++ left
  pub counted : i ≡ length earlier
  pub give : FilesGive distinct files earlier before
  pub taken : t' ≡ taken_by files earlier before give.each t

pub none_passed : (distinct : Bool) (files : Option (List File)) (names : List (List ℕ)) (t : ℕ) → Passed distinct files names 0 [] names t t
none_passed distinct files names t = record { earlier = []; split = refl; counted = refl; give = record { each = tt; categories = λ want. tt }; taken = refl }

pub one_passed : (distinct : Bool) (files : Option (List File)) (names : List (List ℕ)) (i : ℕ) (before : List SpecTree) (name : List ℕ) (more : List (List ℕ)) (spec : SpecTree) (t t' t'' : ℕ) → Passed distinct files names i before (name ∷ more) t t' → LoadsIn category_files files t' t'' name spec → (IsTrue distinct → spec_of spec.category before ≡ None)
    → Passed distinct files names (i + 1) (before ++ spec ∷ []) more t t''
one_passed distinct files names i before name more spec t t' t'' p loads fresh = record {
  earlier = p.earlier ++ name ∷ [];
  split = p.split ∙ sym (append_assoc p.earlier (name ∷ []) more);
  counted = ap (λ n. n + 1) p.counted ∙ sym (length-append p.earlier (name ∷ []));
  give = record { each = each_more files p.earlier before name spec p.give.each loads.gives; categories = λ want. new_more [] before spec (p.give.categories want) (fresh want) };
  taken = loads.number ∙ ap (λ n. number_after n (length loads.gives.octets)) p.taken ∙ sym (taken_more files p.earlier before name spec p.give.each loads.gives t);
}
