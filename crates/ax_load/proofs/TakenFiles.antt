-- What is taken from a library as one file is loaded after another.
use Rattle.std.proofs.Common.{◌≡◌, ℕ, ◌+◌, ◌⊎◌, inl, inr, List, [], ◌∷◌, ◌++◌, Option, Some, None, Result, Ok, Err, length, take, refl, sym, ◌∙◌, ap, subst, append_assoc, length-append}
use Rattle.std.proofs.Math.Seq.{take-append_seam}
use Rattle.std.specs.Result.{IsErrAnd}
use Rattle.ax_check.specs.declared.catalogue.AddError.{AddError}
use Rattle.ax_check.specs.declared.catalogue.AddError.TheVariants as AddErrorOf
use Rattle.ax_load.specs.Adding.{stop_of_adding}
use Rattle.ax_load.specs.Counting.{octet_count, taken_after, TookFiles, TookAt, TookThrough, UnlessLoadFault}
use Rattle.ax_load.specs.Languages.{Language}
use Rattle.ax_load.specs.Loading.{StopsAtFile}
use Rattle.ax_load.specs.declared.fault.LoadStop.{LoadStop}
use Rattle.ax_load.specs.declared.fault.LoadStop.TheVariants.{SpecRefused, CategoryTwice, LoadFault, OutOfMemory}
use Rattle.ax_load.specs.declared.fault.SpecFault.TheVariants.{TooLarge, BadByte, TooDeep, BadToken, Flawed}
use Rattle.ax_endpoints.specs.Changes.{LibraryCounts}
use Rattle.ax_endpoints.specs.Files.{File, octets_of}
use Rattle.ax_endpoints.specs.Told.{number_after}

-- ---- the first names

take_front : (names earlier left : List (List ℕ)) (i : ℕ) → names ≡ earlier ++ left → i ≡ length earlier → take i names ≡ earlier
take_front names earlier left i split counted = ap (take i) split ∙ ap (λ n. take n (earlier ++ left)) counted ∙ take-append_seam earlier left

pub take_more : (names earlier more : List (List ℕ)) (name : List ℕ) (i : ℕ) → names ≡ earlier ++ (name ∷ more) → i ≡ length earlier → take (i + 1) names ≡ take i names ++ name ∷ []
take_more names earlier more name i split counted =
    take_front names (earlier ++ name ∷ []) more (i + 1) (split ∙ sym (append_assoc earlier (name ∷ []) more)) (ap (λ n. n + 1) counted ∙ sym (length-append earlier (name ∷ [])))
    ∙ ap (λ x. x ++ name ∷ []) (sym (take_front names earlier (name ∷ more) i split counted))

-- ---- a file more

taken_snoc : (files : List File) (names : List (List ℕ)) (name : List ℕ) (t : ℕ) → taken_after files (names ++ name ∷ []) t ≡ number_after (taken_after files names t) (octet_count (octets_of name files))
taken_snoc files [] name t = refl
taken_snoc files (n ∷ names) name t = taken_snoc files names name (number_after t (octet_count (octets_of n files)))

pub took_nothing : (told : Option (List File)) (t : ℕ) → TookFiles told t t []
took_nothing None t = tt
took_nothing (Some files) t = refl

pub took_more : (told : Option (List File)) (names : List (List ℕ)) (name : List ℕ) (t t' t'' : ℕ) → TookFiles told t t' names → TookFiles told t' t'' (name ∷ []) → TookFiles told t t'' (names ++ name ∷ [])
took_more None names name t t' t'' h k = tt
took_more (Some files) names name t t' t'' h k = k ∙ ap (λ n. number_after n (octet_count (octets_of name files))) h ∙ sym (taken_snoc files names name t)

took_on : (told : Option (List File)) (names : List (List ℕ)) (t t' t'' : ℕ) → TookFiles told t t' names → TookFiles told t' t'' [] → TookFiles told t t'' names
took_on None names t t' t'' h k = tt
took_on (Some files) names t t' t'' h k = k ∙ h

-- ---- the file that ends the run

module _ (files files' : Option (List File)) (names : List (List ℕ)) (name : List ℕ) (i file t t' t'' : ℕ) (same : files' ≡ files) (at : file ≡ i) (more : take (i + 1) names ≡ take i names ++ name ∷ []) (took : TookFiles files t t' (take i names)) where
  before : TookFiles files' t' t'' [] → TookFiles files t t'' (take i names)
  before h = took_on files (take i names) t t' t'' took (subst (λ x. TookFiles x t' t'' []) same h)

  pub through : TookFiles files' t' t'' (name ∷ []) → TookFiles files t t'' (take (i + 1) names)
  through h = subst (TookFiles files t t'') (sym more) (took_more files (take i names) name t t' t'' took (subst (λ x. TookFiles x t' t'' (name ∷ [])) same h))

  before_at : (n : ℕ) → n ≡ file → TookFiles files' t' t'' [] → TookFiles files t t'' (take n names)
  before_at n is h = subst (λ m. TookFiles files t t'' (take m names)) (sym (is ∙ at)) (before h)

  through_at : (n : ℕ) → n ≡ file → TookFiles files' t' t'' (name ∷ []) → TookFiles files t t'' (take (n + 1) names)
  through_at n is h = subst (λ m. TookFiles files t t'' (take (m + 1) names)) (sym (is ∙ at)) (through h)

  memory_at : TookFiles files' t' t'' [] ⊎ TookFiles files' t' t'' (name ∷ []) → (n : ℕ) × TookFiles files t t'' (take n names)
  memory_at (inl h) = (i, before h)
  memory_at (inr h) = (i + 1, through h)

  pub stop_took : {T : Type 0} (language : Language T) (c : LibraryCounts) (stop : LoadStop) → StopsAtFile language files' c name file stop → TookAt files' t' t'' name stop → TookThrough files t t'' names stop
  stop_took language c (LoadFault n) h k = before_at n h.0 k
  stop_took language c (SpecRefused n TooLarge) h k = before_at n h.0 k
  stop_took language c (SpecRefused n (BadByte at)) h k = through_at n h.0 k
  stop_took language c (SpecRefused n (TooDeep token)) h k = through_at n h.0 k
  stop_took language c (SpecRefused n (BadToken token)) h k = through_at n h.0 k
  stop_took language c (SpecRefused n (Flawed flaws)) h k = through_at n h.0 k
  stop_took language c (CategoryTwice n category) h k = absurd h
  stop_took language c OutOfMemory h k = memory_at k

  pub adding_took : (error : AddError) (stop : LoadStop) → stop ≡ stop_of_adding file error → TookFiles files' t' t'' (name ∷ []) → TookThrough files t t'' names stop
  adding_took (AddErrorOf.CategoryTwice category) stop is k = subst (TookThrough files t t'' names) (sym is) (through_at file refl k)
  adding_took AddErrorOf.OutOfMemory stop is k = subst (TookThrough files t t'' names) (sym is) (i + 1, through k)

-- ---- counts of faults

pub unless_of : {A : Type 0} (r : Result A LoadStop) (P : Type 0) → P → UnlessLoadFault r P
unless_of (Ok a) P h = h
unless_of (Err (LoadFault n)) P h = tt
unless_of (Err (SpecRefused n fault)) P h = h
unless_of (Err (CategoryTwice n category)) P h = h
unless_of (Err OutOfMemory) P h = h

-- a stop that was passed on, where nothing was counted before it
pub unless_on : (A : Type 0) {B : Type 0} (r : Result B LoadStop) (stop : LoadStop) (f f' f'' : ℕ) → IsErrAnd r (λ e. e ≡ stop) → f' ≡ f → UnlessLoadFault {A = A} (Err stop) (f'' ≡ f') → UnlessLoadFault r (f'' ≡ f)
unless_on A (Ok b) stop f f' f'' is same h = absurd is
unless_on A {B} (Err e) stop f f' f'' is same h = by e (subst (λ s. UnlessLoadFault {A = A} (Err s) (f'' ≡ f')) (sym is) h)
  where
    by : (e : LoadStop) → UnlessLoadFault {A = A} (Err e) (f'' ≡ f') → UnlessLoadFault {A = B} (Err e) (f'' ≡ f)
    by (LoadFault n) h = tt
    by (SpecRefused n fault) h = h ∙ same
    by (CategoryTwice n category) h = h ∙ same
    by OutOfMemory h = h ∙ same
