-- Two files, whatever their categories.
use Rattle.std.proofs.Common.{◌≡◌, ℕ, ◌≤◌, ◌⊎◌, inl, inr, false, IsTrue, List, [], ◌∷◌, Option, Some, None, Result, Ok, Err, IfErr, refl, sym, subst, arith}
use Rattle.std.specs.Result.{IsErrAnd}
use Rattle.ax_endpoints.proofs.Ends.{Rose-later}
use Rattle.ax_endpoints.specs.Changes.{LibraryCounts}
use Rattle.ax_endpoints.specs.Files.{File, Lacks, TooMany}
use Rattle.ax_endpoints.specs.Told.{Rose}
use Rattle.ax_format.specs.Specification.{SpecTree}
use Rattle.ax_load.specs.Languages.{Language, category_files}
use Rattle.ax_load.specs.Loading.{GivesSpec, LoadsIn, AreNewAfter, FilesGive, FilesEnd, StopsAtFile, IsRefusedFile, by_file}
use Rattle.ax_load.specs.declared.fault.LoadStop.{LoadStop}
use Rattle.ax_load.specs.declared.fault.LoadStop.TheVariants.{SpecRefused, CategoryTwice, LoadFault, OutOfMemory}
use Rattle.ax_load.specs.declared.fault.SpecFault.{SpecFault}
use Rattle.ax_load.specs.declared.fault.SpecFault.TheVariants.{TooLarge, BadByte, TooDeep, BadToken, Flawed}
use Rattle.ax_load.specs.FileAnswers.{largest_file}

-- ---- the faults that a later part of a call counts, the whole call does

abbrev pub counts : ℕ → ℕ → ℕ → ℕ → LibraryCounts
counts faults faults' taken taken' = record { faults = faults; faults' = faults'; taken = taken; taken' = taken' }

module _ {T : Type 0} (language : Language T) (files : Option (List File)) (name : List ℕ) (f f' f'' t t' : ℕ) (rose : f ≤ f') where
  refused_over : (fault : SpecFault) → IsRefusedFile language files (counts f' f'' t t') name fault → IsRefusedFile language files (counts f f'' t t') name fault
  refused_over TooLarge h = h
  refused_over (BadByte at) h = h
  refused_over (TooDeep token) h = h
  refused_over (BadToken token) h = h
  refused_over (Flawed flaws) h = h

  failed_over : Rose f' f'' ⊎ Lacks files name → Rose f f'' ⊎ Lacks files name
  failed_over (inl h) = inl (Rose-later rose h)
  failed_over (inr lacks) = inr lacks

  pub stops_over : (i : ℕ) (stop : LoadStop) → StopsAtFile language files (counts f' f'' t t') name i stop → StopsAtFile language files (counts f f'' t t') name i stop
  stops_over i (LoadFault n) h = (h.0, failed_over h.1)
  stops_over i (SpecRefused n fault) h = (h.0, refused_over fault h.1)
  stops_over i OutOfMemory h = tt
  stops_over i (CategoryTwice n category) h = absurd h

-- a stop of one load, as the whole call counts its faults, from the number on that was taken before the load
pub stops_from : {T : Type 0} (language : Language T) (files files' : Option (List File)) (name : List ℕ) (i : ℕ) (stop : LoadStop) (f f' f'' t t' t'' : ℕ) → files' ≡ files → f ≤ f' → t' ≡ t
    → StopsAtFile language files' (counts f' f'' t' t'') name i stop → StopsAtFile language files (counts f f'' t t'') name i stop
stops_from language files files' name i stop f f' f'' t t' t'' same rose is k =
    stops_over language files name f f' f'' t t'' rose i stop (subst (λ n. StopsAtFile language files (counts f' f'' n t'') name i stop) is (subst (λ x. StopsAtFile language x (counts f' f'' t' t'') name i stop) same k))

-- ---- the files

pub free : (before specs : List SpecTree) → IsTrue false → AreNewAfter before specs
free before specs want = absurd (cc)

pub two_give : (files files' : Option (List File)) (first second : List ℕ) (one other : SpecTree) (t t' t'' : ℕ) → LoadsIn category_files files t t' first one → files' ≡ files → LoadsIn category_files files' t' t'' second other
    → FilesGive false files (first ∷ second ∷ []) (one ∷ other ∷ [])
two_give files files' first second one other t t' t'' h same k = record { each = (h.gives, (subst (λ x. GivesSpec x second other) same k.gives, tt)); categories = free [] (one ∷ other ∷ []) }

pub first_ends : (files : Option (List File)) (c : LibraryCounts) (first second : List ℕ) (stop : LoadStop) → StopsAtFile category_files files c first 0 stop → FilesEnd false files c (first ∷ second ∷ []) stop
first_ends files c first second stop h =
    record { earlier = []; name = first; more = second ∷ []; split = refl; before = []; give = record { each = tt; categories = free [] [] }; ends = by_file h }

pub second_ends : (files files' : Option (List File)) (first second : List ℕ) (one : SpecTree) (stop : LoadStop) (f f' f'' t t' t'' : ℕ) → LoadsIn category_files files t t' first one → files' ≡ files → f ≤ f'
    → StopsAtFile category_files files' (counts f' f'' t' t'') second 1 stop → FilesEnd false files (counts f f'' t t'') (first ∷ second ∷ []) stop
second_ends files files' first second one stop f f' f'' t t' t'' h same rose k = record {
  earlier = first ∷ [];
  name = second;
  more = [];
  split = refl;
  before = one ∷ [];
  give = record { each = (h.gives, tt); categories = free [] (one ∷ []) };
  ends = by_file (stops_from category_files files files' second 1 stop f f' f'' _ t' t'' same rose h.number k);
}

-- a stop that was passed on
pub passed_on : {B : Type 0} (r : Result B LoadStop) (stop : LoadStop) (P : LoadStop → Type 0) → IsErrAnd r (λ e. e ≡ stop) → P stop → IfErr r P
passed_on (Ok b) stop P is h = tt
passed_on (Err e) stop P is h = subst P (sym is) h

pub ruleset two_files = (two_give, first_ends, second_ends)
