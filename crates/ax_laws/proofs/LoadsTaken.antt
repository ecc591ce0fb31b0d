-- What loads took before the one that takes too many octets.
use Rattle.std.proofs.Common.{◌≡◌, ℕ, ◌+◌, ◌<◌, Bool, List, [], ◌∷◌, Option, None, length, refl, sym, ◌∙◌, ap, subst, suc}
use Rattle.std.specs.List.{AllZip}
use Rattle.ax_endpoints.specs.Changes.{LibraryCounts}
use Rattle.ax_endpoints.specs.Files.{File}
use Rattle.ax_endpoints.specs.Told.{number_after}
use Rattle.ax_format.specs.Specification.{SpecTree}
use Rattle.ax_load.specs.FileAnswers.{IsAccepted}
use Rattle.ax_load.specs.Languages.{category_files}
use Rattle.ax_load.specs.Loading.{EachGives, EndsAtFile, by_file, by_category, FilesEnd, from_load, taken_by}
use Rattle.ax_load.specs.declared.fault.LoadStop.TheVariants.{SpecRefused}
use Rattle.ax_load.specs.declared.fault.SpecFault.TheVariants.{TooLarge}
use Rattle.ax_laws.specs.Loads.{taken_with, TakesTooMany}

-- the octets that the files gave
abbrev given : (files : Option (List File)) (names : List (List ℕ)) (specs : List SpecTree) → EachGives files names specs → List (List ℕ)
given files [] specs each = []
given files (name ∷ names) [] each = []
given files (name ∷ names) (spec ∷ specs) each = each.0.octets ∷ given files names specs each.1

given_accepted : (files : Option (List File)) (names : List (List ℕ)) (specs : List SpecTree) (each : EachGives files names specs) → AllZip IsAccepted (given files names specs each) specs
given_accepted files [] [] each = tt
given_accepted files [] (spec ∷ specs) each = absurd each
given_accepted files (name ∷ names) [] each = absurd each
given_accepted files (name ∷ names) (spec ∷ specs) each = (each.0.accepted, given_accepted files names specs each.1)

given_length : (files : Option (List File)) (names : List (List ℕ)) (specs : List SpecTree) (each : EachGives files names specs) → length (given files names specs each) ≡ length names
given_length files [] specs each = refl
given_length files (name ∷ names) [] each = absurd each
given_length files (name ∷ names) (spec ∷ specs) each = ap suc (given_length files names specs each.1)

given_taken : (files : Option (List File)) (names : List (List ℕ)) (specs : List SpecTree) (each : EachGives files names specs) (t : ℕ) → taken_by files names specs each t ≡ taken_with (given files names specs each) t
given_taken files [] specs each t = refl
given_taken files (name ∷ names) [] each t = absurd each
given_taken files (name ∷ names) (spec ∷ specs) each t = given_taken files names specs each.1 (number_after t (length each.0.octets))

module _ (distinct : Bool) (c : LibraryCounts) (names : List (List ℕ)) (n : ℕ) (h : FilesEnd distinct None c names (SpecRefused n TooLarge)) where
  by_its_load : EndsAtFile distinct None (from_load c (taken_by None h.earlier h.before h.give.each c.taken)) h.before h.name (length h.earlier) (SpecRefused n TooLarge) → TakesTooMany c n
  by_its_load (by_file (is, many)) = record {
    loads = given None h.earlier h.before h.give.each;
    specs = h.before;
    each = given_accepted None h.earlier h.before h.give.each;
    number = given_length None h.earlier h.before h.give.each ∙ sym is;
    more = subst (λ t. t + 1048576 < c.taken') (given_taken None h.earlier h.before h.give.each c.taken) many;
  }
  by_its_load (by_category want category is twice) = absurd cc

  pub too_many_by_itself : TakesTooMany c n
  too_many_by_itself = by_its_load h.ends
