-- Words ask for one line, and over its files that is one task.
use Rattle.std.proofs.Common.{◌≡◌, List, [], ◌∷◌, ℕ, Option, Some, sym, subst}
use Rattle.std.specs.List.{AllByRecursion}
use Rattle.ax_grammar.proofs.Ranges.{numbers_in_range}
use Rattle.ax_load.specs.Loading.{EachGives}
use Rattle.ax_format.specs.Specification.{SpecTree}
use Rattle.ax_endpoints.specs.Files.{File}
use Rattle.ax_words.proofs.Once.{once as shape_once}
use Rattle.ax_app.proofs.FileNesting.{spec_named}
use Rattle.ax_app.proofs.GivenOnce.{line_gives_once}
pub use Rattle.ax_app.proofs.Rows.{IsGood}
use Rattle.ax_app.proofs.Rows.{IsGoodSpec, sound}
use Rattle.ax_app.specs.Given.{LineGives, files_of}
use Rattle.ax_app.specs.Loaded.{AreInRange}
use Rattle.ax_app.specs.Rows.{IsTask}
use Rattle.ax_app.specs.Running.{Does}
use Rattle.ax_app.specs.Tasks.{Task}

pub does_once : (words : List (List ℕ)) (files : List File) (task other : Task) → Does words (Some files) task → Does words (Some files) other → task ≡ other
does_once words files task other h k =
    let same : h.what ≡ k.what = shape_once words h.what k.what h.shape k.shape in
    let given : k.given ≡ h.given = line_gives_once h.what files k.given h.given (subst (λ w. LineGives w (Some files) k.given) (sym same) k.give) h.give in
    (sound h.what).one h.given task other h.is (subst (λ g. IsTask h.what g other) given (subst (λ w. IsTask w k.given other) (sym same) k.is))

-- ---- the specifications that files give

good_specs : (files : Option (List File)) (names : List (List ℕ)) (specs : List SpecTree) → EachGives files names specs → AllByRecursion IsGoodSpec specs
good_specs files [] [] gives = tt
good_specs files [] (spec ∷ specs) gives = absurd gives
good_specs files (name ∷ names) [] gives = absurd gives
good_specs files (name ∷ names) (spec ∷ specs) gives = ((record { none = gives.0.accepted.sound }, spec_named spec gives.0.accepted.spelled.in_range), good_specs files names specs gives.1)

pub good_task : (words : List (List ℕ)) (files : Option (List File)) (task : Task) → Does words files task → IsGood task
good_task words files task d = (sound d.what).good d.given task (good_specs files (files_of d.what) d.given.specs d.give.specs.each) d.is

pub in_range : (files : Option (List File)) (names : List (List ℕ)) (specs : List SpecTree) → EachGives files names specs → AreInRange specs
in_range files [] [] gives = tt
in_range files [] (spec ∷ specs) gives = absurd gives
in_range files (name ∷ names) [] gives = absurd gives
in_range files (name ∷ names) (spec ∷ specs) gives = (numbers_in_range spec gives.0.accepted.spelled.in_range, in_range files names specs gives.1)
