-- Words, files and an input have an answer.
use Rattle.std.proofs.Common.{◌≡◌, ◌≢◌, ℕ, ◌<◌, ◌==◌, ◌⊎◌, inl, inr, Bool, true, false, List, [], ◌∷◌, length, Option, Some, None, refl, sym, subst}
use Rattle.std.specs.List.{AllByRecursion}
use Rattle.std.proofs.lemmas.Bool.{eqb-true, eqb-false}
use Rattle.ax_app.proofs.FileNesting.{spec_named}
use Rattle.ax_app.specs.Answer.{Answer, by_words, by_files, by_refusal, by_task}
use Rattle.ax_app.specs.Given.{Given, GivesExpansion, LineGives, LineEnds, in_specs, in_expansion, files_of, takes_distinct, expansion_of}
use Rattle.ax_app.specs.Rows.{check_text, help_text, version_text, show_command, text_command, filters, refused, IsEditionsTask, answers_each, other_category, OverEditions, IsExpandTask, expands, unused, of_another, IsTask}
use Rattle.ax_app.specs.Running.{Does}
use Rattle.ax_app.specs.Salvages.{outcome_of_salvage}
use Rattle.ax_app.specs.Tasks.{Task, writes, each_block, builds, salvages, refuses}
use Rattle.ax_bits.specs.Bits.{AreOctets}
use Rattle.ax_blocks.specs.BlockCommands.{canon_command}
use Rattle.ax_blocks.specs.Commands.{BlockCommand, output_of, report_of}
use Rattle.ax_blocks.specs.Ending.{longest_input}
use Rattle.ax_build_work.specs.BuildCommand.{build_command}
use Rattle.ax_command.specs.Outcomes.{outcome_of_stop, outcome_of_end, outcome_of_lines, outcome_of_refusal}
use Rattle.ax_command.specs.declared.outcome.Outcome.{Outcome}
use Rattle.ax_command.specs.declared.outcome.Outcome.TheVariants.{Usage, Done}
use Rattle.ax_command.specs.declared.outcome.Refusal.TheVariants.{FilterRefused, OtherCategory, ExpansionUnused}
use Rattle.ax_convert_work.specs.ConvertCommand.{convert_command}
use Rattle.ax_endpoints.specs.Changes.{none_counted}
use Rattle.ax_endpoints.specs.Files.{File}
use Rattle.ax_expand.specs.Expansion.{ExpansionTree}
use Rattle.ax_expand_work.specs.ExpandCommand.{re_frn, expand_command}
use Rattle.ax_filter_work.specs.FilterCommand.{filter_command}
use Rattle.ax_format.specs.Flaws.{NoFlaw}
use Rattle.ax_format.specs.Specification.{SpecTree}
use Rattle.ax_laws.proofs.BuiltThere.{line_answered}
use Rattle.ax_laws.proofs.FilesThere.{GiveOrEnd, give_or_end, expansion_gives_or_stops}
use Rattle.ax_laws.proofs.FiltersRead.{FilterOrRefused, filter_or_refused}
use Rattle.ax_laws.proofs.LineAnswersThere.{lines_there}
use Rattle.ax_laws.proofs.StreamThere.{stream_there}
use Rattle.ax_laws.proofs.TrialThere.{trial_there}
use Rattle.ax_laws.proofs.WordsRead.{line_or_none}
use Rattle.ax_lines.specs.Commands as Lines
use Rattle.ax_lines.specs.Ending as LinesEnding
use Rattle.ax_lines.specs.Ending.{longest_line}
use Rattle.ax_load.specs.Languages.{expansion_files}
use Rattle.ax_load.specs.Loading.{GivesIn, EachGives, FilesGive, StopsAtFile}
use Rattle.ax_load.specs.declared.fault.LoadStop.{LoadStop}
use Rattle.ax_load.specs.declared.fault.LoadStop.TheVariants as LoadStopOf
use Rattle.ax_migration.specs.Commands.{migrate_command}
use Rattle.ax_salvage.proofs.OneSalvage.{one_salvage}
use Rattle.ax_text_form.specs.Names.{IsNamed}
use Rattle.ax_words.specs.Words.{IsInBounds, HasShape, HasNoShape}
use Rattle.ax_words.specs.declared.line.Line.{Line}
use Rattle.ax_words.specs.declared.line.Line.TheVariants.{Check, Canon, Show, Text, Build, Filter, Migrate, Trial, Salvage, Expand, Convert, Help, Version}

-- ---- the files of a line

abbrev GiveOrEndLine : Line → List File → Type 0
GiveOrEndLine what files = ((given : Given) × LineGives what (Some files) given) ⊎ ((stop : LoadStop) × LineEnds what (Some files) none_counted stop × (stop ≢ LoadStopOf.OutOfMemory))

module _ (what : Line) (files : List File) (specs : List SpecTree) (give : FilesGive (takes_distinct what) (Some files) (files_of what) specs) where
  by_expansion_file : (name : List ℕ) → expansion_of what ≡ Some name → ((x : ExpansionTree) × GivesIn expansion_files (Some files) name x) ⊎ ((stop : LoadStop) × StopsAtFile expansion_files (Some files) none_counted name (length (files_of what)) stop × (stop ≢ LoadStopOf.OutOfMemory))
      → GiveOrEndLine what files
  by_expansion_file name e (inl (x, gives)) = inl (record { specs = specs; expansion = Some x }, record { specs = give; expansion = subst (λ o. GivesExpansion o (Some files) (Some x)) (sym e) gives })
  by_expansion_file name e (inr (stop, h, never)) = inr (stop, in_expansion name e specs give h, never)

  by_expansion : (o : Option (List ℕ)) → expansion_of what ≡ o → GiveOrEndLine what files
  by_expansion None e = inl (record { specs = specs; expansion = None }, record { specs = give; expansion = subst (λ o. GivesExpansion o (Some files) None) (sym e) tt })
  by_expansion (Some name) e = by_expansion_file name e (expansion_gives_or_stops files none_counted name (length (files_of what)))

by_specs : (what : Line) (files : List File) → GiveOrEnd (takes_distinct what) files none_counted (files_of what) → GiveOrEndLine what files
by_specs what files (inl (specs, give)) = by_expansion what files specs give (expansion_of what) refl
by_specs what files (inr (stop, h, never)) = inr (stop, in_specs h, never)

line_gives_or_ends : (what : Line) (files : List File) → GiveOrEndLine what files
line_gives_or_ends what files = by_specs what files (give_or_end (takes_distinct what) files none_counted (files_of what))

-- ---- what files give is without flaw

abbrev IsGoodSpec : SpecTree → Type 0
IsGoodSpec spec = NoFlaw spec × IsNamed spec × (spec.category < 256)

good_specs : (files : Option (List File)) (names : List (List ℕ)) (specs : List SpecTree) → EachGives files names specs → AllByRecursion IsGoodSpec specs
good_specs files [] [] gives = tt
good_specs files [] (spec ∷ specs) gives = absurd gives
good_specs files (name ∷ names) [] gives = absurd gives
good_specs files (name ∷ names) (spec ∷ specs) gives =
    ((record { none = gives.0.accepted.sound }, spec_named spec gives.0.accepted.spelled.in_range, gives.0.accepted.spelled.in_range.category), good_specs files names specs gives.1)

all_clean : (specs : List SpecTree) → AllByRecursion IsGoodSpec specs → AllByRecursion NoFlaw specs
all_clean [] good = tt
all_clean (spec ∷ specs) good = (good.0.0, all_clean specs good.1)

all_named : (specs : List SpecTree) → AllByRecursion IsGoodSpec specs → AllByRecursion (λ spec. NoFlaw spec × IsNamed spec) specs
all_named [] good = tt
all_named (spec ∷ specs) good = ((good.0.0, good.0.1), all_named specs good.1)

-- ---- the task

abbrev IsClean : Task → Type 0
IsClean (writes count text) = Unit {0}
IsClean (each_block c) = AllByRecursion NoFlaw c.catalogue
IsClean (builds catalogue) = AllByRecursion (λ spec. NoFlaw spec × IsNamed spec) catalogue
IsClean (salvages catalogue) = AllByRecursion NoFlaw catalogue
IsClean (refuses refusal) = Unit {0}

abbrev HasTask : Line → List SpecTree → Option ExpansionTree → Type 0
HasTask what specs expansion = (task : Task) × IsTask what (record { specs = specs; expansion = expansion }) task × IsClean task

same_or_other : (n m : ℕ) → (n ≡ m) ⊎ (n ≡ m → ⊥)
same_or_other n m = by (n == m) refl
  where
    by : (b : Bool) → (n == m) ≡ b → (n ≡ m) ⊎ (n ≡ m → ⊥)
    by true e = inl (eqb-true n m e)
    by false e = inr (eqb-false n m e)

filter_task : (expression : List ℕ) (files : List (List ℕ)) (specs : List SpecTree) (expansion : Option ExpansionTree) → AllByRecursion IsGoodSpec specs → FilterOrRefused specs expression → HasTask (Filter expression files) specs expansion
filter_task expression files specs expansion good (inl (e, h)) = (each_block (filter_command e specs), filters e h refl, all_clean specs good)
filter_task expression files specs expansion good (inr (fault, h)) = (refuses (FilterRefused fault), refused fault h refl, tt)

editions_task : (command : SpecTree → SpecTree → BlockCommand) (old new : SpecTree) → AllByRecursion NoFlaw (command old new).catalogue → (old.category ≡ new.category) ⊎ (old.category ≡ new.category → ⊥) → (task : Task) × IsEditionsTask command old new task × IsClean task
editions_task command old new clean (inl same) = (each_block (command old new), answers_each same refl, clean)
editions_task command old new clean (inr differs) = (refuses (OtherCategory old.category new.category), other_category differs refl, tt)

expand_task : (spec : SpecTree) (x : ExpansionTree) → NoFlaw spec → (spec.category ≡ x.category) ⊎ (spec.category ≡ x.category → ⊥) → (o : Option ℕ) → re_frn spec ≡ o → (task : Task) × IsExpandTask spec x task × IsClean task
expand_task spec x clean (inl same) (Some frn) e = (each_block (expand_command spec frn x), expands same frn e refl, (clean, tt))
expand_task spec x clean (inl same) None e = (refuses (ExpansionUnused spec.category), unused same e refl, tt)
expand_task spec x clean (inr differs) o e = (refuses (OtherCategory spec.category x.category), of_another differs refl, tt)

-- of a line that takes two editions
two_specs : (command : SpecTree → SpecTree → BlockCommand) → ((old new : SpecTree) → (command old new).catalogue ≡ old ∷ []) → (files : Option (List File)) (first second : List ℕ) (specs : List SpecTree) → EachGives files (first ∷ second ∷ []) specs → AllByRecursion IsGoodSpec specs
    → (task : Task) × OverEditions command specs task × IsClean task
two_specs command under files first second [] gives good = absurd gives
two_specs command under files first second (old ∷ []) gives good = absurd gives.1
two_specs command under files first second (old ∷ new ∷ []) gives good =
    let j = editions_task command old new (subst (AllByRecursion NoFlaw) (sym (under old new)) (good.0.0, tt)) (same_or_other old.category new.category) in
    (j.0, record { old = old; new = new; two = refl; is = j.1 }, j.2)
two_specs command under files first second (old ∷ new ∷ more ∷ specs) gives good = absurd gives.1.1

-- one row for each command
task_there : (what : Line) (files : List File) (specs : List SpecTree) (expansion : Option ExpansionTree) → IsInBounds what → EachGives (Some files) (files_of what) specs → GivesExpansion (expansion_of what) (Some files) expansion → AllByRecursion IsGoodSpec specs
    → HasTask what specs expansion
task_there (Check file) files [] expansion bounds gives more good = absurd gives
task_there (Check file) files (spec ∷ []) expansion bounds gives more good = (writes 0 (check_text spec), record { spec = spec; one = refl; is = refl }, tt)
task_there (Check file) files (spec ∷ other ∷ specs) expansion bounds gives more good = absurd gives.1
task_there (Canon names) files specs expansion bounds gives more good = (each_block (canon_command specs), refl, all_clean specs good)
task_there (Show names) files specs expansion bounds gives more good = (each_block (show_command specs), refl, all_clean specs good)
task_there (Text names) files specs expansion bounds gives more good = (each_block (text_command specs), refl, all_clean specs good)
task_there (Build names) files specs expansion bounds gives more good = (builds specs, refl, all_named specs good)
task_there (Filter expression names) files specs expansion bounds gives more good = filter_task expression names specs expansion good (filter_or_refused specs expression)
task_there (Migrate old new) files specs expansion bounds gives more good = two_specs migrate_command (λ a b. refl) (Some files) old new specs gives good
task_there (Trial file seed count) files [] expansion bounds gives more good = absurd gives
task_there (Trial file seed count) files (spec ∷ []) expansion bounds gives more good =
    let t = trial_there spec good.0.0 good.0.2 seed count bounds.1 in (writes count t.0, record { spec = spec; one = refl; is = record { line = t.0; trial = t.1; is = refl } }, tt)
task_there (Trial file seed count) files (spec ∷ other ∷ specs) expansion bounds gives more good = absurd gives.1
task_there (Salvage names) files specs expansion bounds gives more good = (salvages specs, refl, all_clean specs good)
task_there (Expand file name) files [] expansion bounds gives more good = absurd gives
task_there (Expand file name) files (spec ∷ []) (Some x) bounds gives more good =
    let j = expand_task spec x good.0.0 (same_or_other spec.category x.category) (re_frn spec) refl in (j.0, record { spec = spec; x = x; one = refl; expansion = refl; is = j.1 }, j.2)
task_there (Expand file name) files (spec ∷ []) None bounds gives more good = absurd more
task_there (Expand file name) files (spec ∷ other ∷ specs) expansion bounds gives more good = absurd gives.1
task_there (Convert old new) files specs expansion bounds gives more good = two_specs convert_command (λ a b. refl) (Some files) old new specs gives good
task_there Help files specs expansion bounds gives more good = (writes 0 help_text, refl, tt)
task_there Version files specs expansion bounds gives more good = (writes 0 version_text, refl, tt)

-- ---- the answer

abbrev HasAnswer : List (List ℕ) → List File → List ℕ → Type 0
HasAnswer words files input = (outcome : Outcome) × (written : List ℕ) × (reported : List ℕ) × Answer words files input outcome written reported

module _ (words : List (List ℕ)) (files : List File) (input : List ℕ) (are : AreOctets input) where
  by_its_task : (task : Task) → Does words (Some files) task → IsClean task → HasAnswer words files input
  by_its_task (writes count text) does clean = (Done count, text, [], by_task (writes count text) does (record { done = refl; written_is = refl; reported_is = refl }))
  by_its_task (each_block c) does clean =
      let s = stream_there c longest_input input are clean in
      (outcome_of_end s.1, output_of c 0 s.0, report_of c 0 s.0, by_task (each_block c) does (record { blocks = s.0; end = s.1; answers = s.2; is = refl; written_is = refl; reported_is = refl }))
  by_its_task (builds catalogue) does clean =
      let l = lines_there (build_command catalogue) longest_line LinesEnding.longest_input input (λ number line. line_answered catalogue clean line) in
      (outcome_of_lines l.2, Lines.output_of l.1, [], by_task (builds catalogue) does (record { lines = l.0; answers = l.1; end = l.2; ends = l.3; is = refl; written_is = refl; reported_is = refl }))
  by_its_task (salvages catalogue) does clean =
      let s = (one_salvage catalogue input longest_input are clean).some in
      (outcome_of_salvage s.0, s.1, s.2, by_task (salvages catalogue) does (record { end = s.0; salvaged = s.3; is = refl }))
  by_its_task (refuses refusal) does clean = (outcome_of_refusal refusal, [], [], by_refusal refusal does refl refl refl)

  by_its_files : (what : Line) → HasShape words what → GiveOrEndLine what files → HasAnswer words files input
  by_its_files what shape (inl (given, give)) =
      let good = good_specs (Some files) (files_of what) given.specs give.specs.each in
      let j = task_there what files given.specs given.expansion shape.in_bounds give.specs.each give.expansion good in
      by_its_task j.0 (record { what = what; shape = shape; given = given; give = give; is = j.1 }) j.2
  by_its_files what shape (inr (stop, ends, never)) = (outcome_of_stop stop, [], [], by_files stop (record { what = what; shape = shape; ends = ends }) never refl refl refl)

  by_its_words : ((what : Line) × HasShape words what) ⊎ HasNoShape words → HasAnswer words files input
  by_its_words (inl (what, shape)) = by_its_files what shape (line_gives_or_ends what files)
  by_its_words (inr none) = (Usage, [], [], by_words none refl refl refl)

pub some_answer : (words : List (List ℕ)) (files : List File) (input : List ℕ) → AreOctets input → (outcome : Outcome) × (written : List ℕ) × (reported : List ℕ) × Answer words files input outcome written reported
some_answer words files input are = by_its_words words files input are (line_or_none words)
