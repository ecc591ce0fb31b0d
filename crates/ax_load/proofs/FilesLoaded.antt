-- The files of a command line, loaded one after another.
use Rattle.std.proofs.Common.{◌≡◌, ℕ, suc, ◌+◌, ◌<◌, ◌≤◌, List, [], ◌∷◌, ◌++◌, Bool, IsTrue, Option, None, IsSome, length, take, drop, get_or, refl, sym, ◌∙◌, ap, subst, drop-cons, add-one, length-append, arith}
use Rattle.ax_endpoints.specs.Files.{File}
use Rattle.ax_check.specs.Adding.{WhyRefused}
use Rattle.ax_check.specs.declared.catalogue.AddError.{AddError}
use Rattle.ax_check.specs.declared.catalogue.AddError.TheVariants as AddErrorOf
use Rattle.ax_format.specs.Plain.{spec_tree, catalogue_tree}
use Rattle.ax_format.specs.Specification.{spec_of}
use Rattle.ax_format.specs.declared.spec.Spec.{Spec}
use Rattle.ax_endpoints.specs.Changes.{LibraryCounts}
use Rattle.ax_load.specs.Languages.{category_files}
use Rattle.ax_load.specs.Loading.{GivesSpec, LoadsIn, StopsAtFile, from_load, taken_by, EndsAtFile, FilesEnd, by_file, by_category}
use Rattle.std.proofs.Math.Seq.{take-length}
use Rattle.ax_load.proofs.TwoFiles.{counts, stops_from}
use Rattle.ax_load.proofs.TakenFiles.{take_more, took_nothing, through, stop_took, adding_took}
use Rattle.ax_load.specs.Adding.{stop_of_adding}
use Rattle.ax_load.specs.Counting.{TookFiles, TookAt, TookThrough}
use Rattle.ax_load.proofs.Passes.{Passed, none_passed, one_passed}
use Rattle.ax_load.specs.declared.fault.LoadStop.{LoadStop}
use Rattle.ax_load.specs.declared.fault.LoadStop.TheVariants.{CategoryTwice, OutOfMemory}

-- the first i files gave the catalogue, and these names are left
pub record Loaded (distinct : Bool) (files files' : Option (List File)) (names left : List (List ℕ)) (i file : ℕ) (catalogue : List Spec) (f f' t t' : ℕ) : Type 0 where
  pub pass : Passed distinct files names i (catalogue_tree catalogue) left t t'
  pub number : file ≡ i
  pub keeps : files' ≡ files
  pub faults : f ≤ f'
  pub taken : t ≤ t'
  pub quiet : f' ≡ f
  pub took : TookFiles files t t' (take i names)
  pub unasked : names ≡ [] → t' ≡ t

pub none_loaded : (distinct : Bool) (files : Option (List File)) (names : List (List ℕ)) (catalogue : List Spec) (f t : ℕ) → catalogue ≡ [] → Loaded distinct files files names names 0 0 catalogue f f t t
none_loaded distinct files names catalogue f t is = record {
  pass = subst (λ s. Passed distinct files names 0 (catalogue_tree s) names t t) (sym is) (none_passed distinct files names t);
  number = refl;
  keeps = refl;
  faults = omega arith;
  taken = omega arith;
  quiet = refl;
  took = took_nothing files t;
  unasked = λ none. refl;
}

-- there is a name
not_none : (names earlier more : List (List ℕ)) (name : List ℕ) → names ≡ earlier ++ (name ∷ more) → names ≡ [] → ⊥
not_none names earlier more name split none =
    let e : length (earlier ++ (name ∷ more)) ≡ 0 = ap length (sym split ∙ none) in
    let all : length (earlier ++ (name ∷ more)) ≡ length earlier + suc (length more) = length-append earlier (name ∷ more) in
    absurd (omega arith)

pub names_left : (xs : List (List ℕ)) (i : ℕ) (x name : List ℕ) → i < length xs → x ≡ get_or xs i x → name ≡ x → drop i xs ≡ name ∷ drop (i + 1) xs
names_left xs i x name within is same = drop-cons xs i x within ∙ ap (λ n. get_or xs i x ∷ drop n xs) (sym (add-one i)) ∙ ap (λ y. y ∷ drop (i + 1) xs) (sym (same ∙ is))

tree_after : (catalogue : List Spec) (one : Spec) → catalogue_tree (catalogue ++ one ∷ []) ≡ catalogue_tree catalogue ++ spec_tree one ∷ []
tree_after [] one = refl
tree_after (s ∷ more) one = ap (λ t. spec_tree s ∷ t) (tree_after more one)

pub one_loaded : (distinct : Bool) (files files' files'' : Option (List File)) (names left : List (List ℕ)) (name : List ℕ) (more : List (List ℕ)) (i file : ℕ) (catalogue new : List Spec) (one : Spec) (f f' f'' t t' t'' : ℕ)
    → Loaded distinct files files' names left i file catalogue f f' t t' → left ≡ name ∷ more → LoadsIn category_files files' t' t'' name (spec_tree one) → (IsTrue distinct → spec_of one.category (catalogue_tree catalogue) ≡ None)
    → new ≡ catalogue ++ one ∷ [] → files'' ≡ files' → f' ≤ f'' → t' ≤ t'' → f'' ≡ f' → TookFiles files' t' t'' (name ∷ []) → Loaded distinct files files'' names more (i + 1) (file + 1) new f f'' t t''
one_loaded distinct files files' files'' names left name more i file catalogue new one f f' f'' t t' t'' l is loads none new_is same lf lt still took = record {
  pass = subst (λ s. Passed distinct files names (i + 1) s more t t'') (sym (ap catalogue_tree new_is ∙ tree_after catalogue one))
      (one_passed distinct files names i (catalogue_tree catalogue) name more (spec_tree one) t t' t'' (subst (λ x. Passed distinct files names i (catalogue_tree catalogue) x t t') is l.pass) (subst (λ x. LoadsIn category_files x t' t'' name (spec_tree one)) l.keeps loads) none);
  number = ap (λ n. n + 1) l.number;
  keeps = same ∙ l.keeps;
  faults = let a = l.faults in omega arith;
  taken = let a = l.taken in omega arith;
  quiet = still ∙ l.quiet;
  took = through files files' names name i i t t' t'' l.keeps refl (take_more names l.pass.earlier more name i (l.pass.split ∙ ap (λ x. l.pass.earlier ++ x) is) l.pass.counted) l.took took;
  unasked = λ none. absurd (not_none names l.pass.earlier more name (l.pass.split ∙ ap (λ x. l.pass.earlier ++ x) is) none);
}

-- what was taken through the file that ends the run
module _ (distinct : Bool) (files files' : Option (List File)) (names left : List (List ℕ)) (name : List ℕ) (more : List (List ℕ)) (i file : ℕ) (catalogue : List Spec) (f f' t t' t'' : ℕ) (l : Loaded distinct files files' names left i file catalogue f f' t t') (is : left ≡ name ∷ more) where
  one_more : take (i + 1) names ≡ take i names ++ name ∷ []
  one_more = take_more names l.pass.earlier more name i (l.pass.split ∙ ap (λ x. l.pass.earlier ++ x) is) l.pass.counted

  pub file_took : (c : LibraryCounts) (stop : LoadStop) → StopsAtFile category_files files' c name file stop → TookAt files' t' t'' name stop → TookThrough files t t'' names stop
  file_took c stop h k = stop_took files files' names name i file t t' t'' l.keeps l.number one_more l.took category_files c stop h k

  pub add_took : (error : AddError) (stop : LoadStop) → stop ≡ stop_of_adding file error → TookFiles files' t' t'' (name ∷ []) → TookThrough files t t'' names stop
  add_took error stop same k = adding_took files files' names name i file t t' t'' l.keeps l.number one_more l.took error stop same k

-- all of them
pub all_took : (files : Option (List File)) (names : List (List ℕ)) (i t t' : ℕ) → i ≡ length names → TookFiles files t t' (take i names) → TookFiles files t t' names
all_took files names i t t' is h = subst (TookFiles files t t') (ap (λ n. take n names) is ∙ take-length names) h

-- the file after those that passed ends the run
pub ends_there : (distinct : Bool) (files files' : Option (List File)) (names left : List (List ℕ)) (name : List ℕ) (more : List (List ℕ)) (i file : ℕ) (catalogue : List Spec) (f f' f'' t t' t'' : ℕ) (outcome : LoadStop)
    → Loaded distinct files files' names left i file catalogue f f' t t' → left ≡ name ∷ more → EndsAtFile distinct files (counts f f'' t' t'') (catalogue_tree catalogue) name file outcome → FilesEnd distinct files (counts f f'' t t'') names outcome
ends_there distinct files files' names left name more i file catalogue f f' f'' t t' t'' outcome l is ends = record {
  earlier = l.pass.earlier;
  name = name;
  more = more;
  split = l.pass.split ∙ ap (λ x. l.pass.earlier ++ x) is;
  before = catalogue_tree catalogue;
  give = l.pass.give;
  ends = subst (λ n. EndsAtFile distinct files (counts f f'' n t'') (catalogue_tree catalogue) name (length l.pass.earlier) outcome) l.pass.taken
      (subst (λ n. EndsAtFile distinct files (counts f f'' t' t'') (catalogue_tree catalogue) name n outcome) (l.number ∙ l.pass.counted) ends);
}

-- by itself
pub file_ends_there : (distinct : Bool) (files files' : Option (List File)) (names left : List (List ℕ)) (name : List ℕ) (more : List (List ℕ)) (i file : ℕ) (catalogue : List Spec) (f f' f'' t t' t'' : ℕ) (outcome : LoadStop)
    → Loaded distinct files files' names left i file catalogue f f' t t' → left ≡ name ∷ more → StopsAtFile category_files files' (counts f' f'' t' t'') name file outcome → FilesEnd distinct files (counts f f'' t t'') names outcome
file_ends_there distinct files files' names left name more i file catalogue f f' f'' t t' t'' outcome l is h =
    ends_there distinct files files' names left name more i file catalogue f f' f'' t t' t'' outcome l is (by_file (stops_from category_files files files' name file outcome f f' f'' t' t' t'' l.keeps l.faults refl h))

twice_ends : (distinct : Bool) (files files' : Option (List File)) (names left : List (List ℕ)) (name : List ℕ) (more : List (List ℕ)) (i file : ℕ) (catalogue : List Spec) (one : Spec) (category f f' f'' t t' t'' : ℕ)
    → Loaded distinct files files' names left i file catalogue f f' t t' → left ≡ name ∷ more → GivesSpec files' name (spec_tree one) → category ≡ one.category
    → IsTrue distinct → IsSome (spec_of one.category (catalogue_tree catalogue)) → FilesEnd distinct files (counts f f'' t t'') names (CategoryTwice file category)
twice_ends distinct files files' names left name more i file catalogue one category f f' f'' t t' t'' l is gives same want twice =
    ends_there distinct files files' names left name more i file catalogue f f' f'' t t' t'' (CategoryTwice file category) l is (by_category want category refl (record {
      spec = spec_tree one;
      gives = subst (λ x. GivesSpec x name (spec_tree one)) l.keeps gives;
      is = same;
      twice = subst (λ x. IsSome (spec_of x (catalogue_tree catalogue))) (sym same) twice;
    }))

memory_ends : (distinct : Bool) (files files' : Option (List File)) (names left : List (List ℕ)) (name : List ℕ) (more : List (List ℕ)) (i file : ℕ) (catalogue : List Spec) (f f' f'' t t' t'' : ℕ)
    → Loaded distinct files files' names left i file catalogue f f' t t' → left ≡ name ∷ more → FilesEnd distinct files (counts f f'' t t'') names OutOfMemory
memory_ends distinct files files' names left name more i file catalogue f f' f'' t t' t'' l is = ends_there distinct files files' names left name more i file catalogue f f' f'' t t' t'' OutOfMemory l is (by_file tt)

pub adding_ends : (distinct : Bool) (files files' : Option (List File)) (names left : List (List ℕ)) (name : List ℕ) (more : List (List ℕ)) (i file : ℕ) (catalogue : List Spec) (one : Spec) (f f' f'' t t' t'' : ℕ) (error : AddError) (outcome : LoadStop)
    → Loaded distinct files files' names left i file catalogue f f' t t' → left ≡ name ∷ more → GivesSpec files' name (spec_tree one) → IsTrue distinct → WhyRefused catalogue one error → outcome ≡ stop_of_adding file error → FilesEnd distinct files (counts f f'' t t'') names outcome
adding_ends distinct files files' names left name more i file catalogue one f f' f'' t t' t'' (AddErrorOf.CategoryTwice category) outcome l is gives want why same =
    subst (λ x. FilesEnd distinct files (counts f f'' t t'') names x) (sym same) (twice_ends distinct files files' names left name more i file catalogue one category f f' f'' t t' t'' l is gives why.0 want why.1)
adding_ends distinct files files' names left name more i file catalogue one f f' f'' t t' t'' AddErrorOf.OutOfMemory outcome l is gives want why same =
    subst (λ x. FilesEnd distinct files (counts f f'' t t'') names x) (sym same) (memory_ends distinct files files' names left name more i file catalogue f f' f'' t t' t'' l is)
