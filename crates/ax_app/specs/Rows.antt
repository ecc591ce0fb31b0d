-- The commands. A command is one row of `row_of`: its files, its task over what they give, and what may come of it.
use Rattle.std.specs.Prelude.{◌≡◌, ℕ, Bool, true, false, List, [], ◌∷◌, ◌++◌, codes, Some, None}
use Rattle.ax_command.specs.Accepted.{accepted_line}
use Rattle.ax_command.specs.declared.outcome.JobStop.{JobStop}
use Rattle.ax_command.specs.declared.outcome.Refusal.{Refusal}
use Rattle.ax_command.specs.declared.outcome.Refusal.TheVariants.{FilterRefused, OtherCategory, ExpansionUnused}
use Rattle.ax_convert_work.specs.ConvertCommand.{convert_command}
use Rattle.ax_expand.specs.Expansion.{ExpansionTree}
use Rattle.ax_expand_work.specs.ExpandCommand.{re_frn, expand_command}
use Rattle.ax_expressions.specs.Texts.{IsFilterText, IsRefused}
use Rattle.ax_expressions.specs.Tree.{ExprTree}
use Rattle.ax_expressions.specs.declared.stop.FilterFault.{FilterFault}
use Rattle.ax_filter_work.specs.FilterCommand.{filter_command}
use Rattle.ax_grammar.specs.Spelling.{printed}
use Rattle.ax_migration.specs.Commands.{migrate_command}
use Rattle.ax_format.specs.Specification.{SpecTree}
use Rattle.ax_blocks.specs.BlockCommands.{canon_command}
use Rattle.ax_blocks.specs.Commands.{BlockCommand}
use Rattle.ax_blocks.specs.Made.{tree_command}
use Rattle.ax_text_form.specs.BlockText.{BlockLine, OpaqueLine}
use Rattle.ax_text_form.specs.ShowText.{ShowText, OpaqueShown}
use Rattle.ax_trial.specs.Trial.{IsTrial}
use Rattle.ax_app.specs.NamedFiles.{NamedFiles, no_file, one_file, catalogue, editions, with_expansion, Given}
use Rattle.ax_app.specs.Tasks.{Task, writes, each_block, builds, salvages, refuses, IsStoppedBy}
use Rattle.ax_words.specs.declared.line.Line.{Line}
use Rattle.ax_words.specs.declared.line.Line.TheVariants.{Check, Canon, Show, Text, Build, Filter, Migrate, Trial, Salvage, Expand, Convert, Help, Version}

-- what may come of a command that doesn't come of each
pub record Licence : Type 0 where
  -- memory may be wanting once it reads
  pub takes_memory : Bool
  -- a line of a block, or of a count of blocks, may fail
  pub reports_blocks : Bool
  -- a block may be refused for the length of a record in the new edition
  pub refuses_lengths : Bool
  -- a line of the input may be refused
  pub reads_lines : Bool
  -- it may be refused so before its input
  pub refuses : Refusal → Bool

-- none of it
abbrev pub quiet : Licence
quiet = record { takes_memory = false; reports_blocks = false; refuses_lengths = false; reads_lines = false; refuses = λ refusal. false }

pub record CommandRow : Type 1 where
  pub files : NamedFiles
  -- its task over what its files give
  pub IsTask : Given → Task → Type 0
  pub may : Licence

-- ---- rows of one form

-- over a catalogue
abbrev pub over_catalogue : List (List ℕ) → (List SpecTree → Task) → Licence → CommandRow
over_catalogue files task may = record { files = catalogue files; IsTask = λ given t. t ≡ task given.specs; may = may }

pub record OverOne (IsTask : SpecTree → Task → Type 0) (specs : List SpecTree) (task : Task) : Type 0 where
  pub spec : SpecTree
  pub one : specs ≡ spec ∷ []
  pub is : IsTask spec task

-- over one specification
abbrev pub over_one : List ℕ → (SpecTree → Task → Type 0) → CommandRow
over_one file IsTask = record { files = one_file file; IsTask = λ given t. OverOne IsTask given.specs t; may = quiet }

-- over two editions, each by its command: of one category it answers each block; two of different categories it refuses
pub data IsEditionsTask (command : SpecTree → SpecTree → BlockCommand) (old new : SpecTree) (task : Task) : Type 0 where
  answers_each : old.category ≡ new.category → task ≡ each_block (command old new) → IsEditionsTask command old new task
  other_category : (old.category ≡ new.category → ⊥) → task ≡ refuses (OtherCategory old.category new.category) → IsEditionsTask command old new task

pub record OverEditions (command : SpecTree → SpecTree → BlockCommand) (specs : List SpecTree) (task : Task) : Type 0 where
  pub old : SpecTree
  pub new : SpecTree
  pub two : specs ≡ old ∷ new ∷ []
  pub is : IsEditionsTask command old new task

abbrev pub is_of_categories : Refusal → Bool
is_of_categories (OtherCategory old new) = true
is_of_categories (ExpansionUnused category) = false
is_of_categories (FilterRefused fault) = false

abbrev pub over_editions : List ℕ → List ℕ → (SpecTree → SpecTree → BlockCommand) → Bool → CommandRow
over_editions old new command memory = record {
  files = editions old new;
  IsTask = λ given t. OverEditions command given.specs t;
  may = record { takes_memory = memory; reports_blocks = true; refuses_lengths = true; reads_lines = false; refuses = is_of_categories };
}

-- over no file: it writes a text
abbrev pub writes_text : List ℕ → CommandRow
writes_text text = record { files = no_file; IsTask = λ given t. t ≡ writes 0 text; may = quiet }

-- ---- what single commands do

-- what `check` writes: the line of the accepted file, and the specification printed
abbrev pub check_text : SpecTree → List ℕ
check_text spec = accepted_line spec ++ printed spec

abbrev pub IsCheckTask : SpecTree → Task → Type 0
IsCheckTask spec task = task ≡ writes 0 (check_text spec)

-- `show`: the listing of each block, by its number
abbrev pub show_command : List SpecTree → BlockCommand
show_command specs = tree_command (λ number spec block. ShowText spec block number) (λ number category content. OpaqueShown number category content) specs

-- `text`: the line of each block
abbrev pub text_command : List SpecTree → BlockCommand
text_command specs = tree_command (λ number spec block. BlockLine spec block) (λ number category content. OpaqueLine category content) specs

-- `filter`: over the specifications of its files its expression is a filter, or is refused
pub data IsFilterTask (expression : List ℕ) (specs : List SpecTree) (task : Task) : Type 0 where
  filters : (e : ExprTree) → IsFilterText specs expression e → task ≡ each_block (filter_command e specs) → IsFilterTask expression specs task
  refused : (fault : FilterFault) → IsRefused specs expression fault → task ≡ refuses (FilterRefused fault) → IsFilterTask expression specs task

abbrev pub is_of_expression : Refusal → Bool
is_of_expression (FilterRefused fault) = true
is_of_expression (OtherCategory old new) = false
is_of_expression (ExpansionUnused category) = false

abbrev pub filters_by : List ℕ → List (List ℕ) → CommandRow
filters_by expression files = record { files = catalogue files; IsTask = λ given t. IsFilterTask expression given.specs t; may = record quiet { refuses = is_of_expression } }

-- `trial`: the line of so many blocks made from the seed over its file
pub record IsTrialTask (seed count : ℕ) (spec : SpecTree) (task : Task) : Type 0 where
  pub line : List ℕ
  pub trial : IsTrial spec seed count line
  pub is : task ≡ writes count line

-- `expand`: of a category file and an expansion of one category, where the UAP has an item RE of kind explicit, it answers each
-- block; else it refuses, first for the categories
pub data IsExpandTask (spec : SpecTree) (x : ExpansionTree) (task : Task) : Type 0 where
  expands : spec.category ≡ x.category → (frn : ℕ) → re_frn spec ≡ Some frn → task ≡ each_block (expand_command spec frn x) → IsExpandTask spec x task
  unused : spec.category ≡ x.category → re_frn spec ≡ None → task ≡ refuses (ExpansionUnused spec.category) → IsExpandTask spec x task
  of_another : (spec.category ≡ x.category → ⊥) → task ≡ refuses (OtherCategory spec.category x.category) → IsExpandTask spec x task

pub record ExpandsBy (given : Given) (task : Task) : Type 0 where
  pub spec : SpecTree
  pub x : ExpansionTree
  pub one : given.specs ≡ spec ∷ []
  pub expansion : given.expansion ≡ Some x
  pub is : IsExpandTask spec x task

abbrev pub is_of_expansion : Refusal → Bool
is_of_expansion (OtherCategory old new) = true
is_of_expansion (ExpansionUnused category) = true
is_of_expansion (FilterRefused fault) = false

abbrev pub expands_by : List ℕ → List ℕ → CommandRow
expands_by spec expansion = record {
  files = with_expansion spec expansion;
  IsTask = ExpandsBy;
  may = record quiet { takes_memory = true; reports_blocks = true; refuses = is_of_expansion };
}

-- `--help`: the shapes of the commands
abbrev pub help_text : List ℕ
help_text = codes "asterix check SPEC\nasterix canon SPEC...\nasterix show SPEC...\nasterix text SPEC...\nasterix build SPEC...\nasterix filter EXPR SPEC...\nasterix migrate OLD NEW\nasterix trial SPEC SEED COUNT\nasterix salvage SPEC...\nasterix expand SPEC EXPANSION\nasterix convert OLD NEW\n"

abbrev pub version_text : List ℕ
version_text = codes "asterix 1\n"

-- ---- one row for each command

abbrev pub row_of : Line → CommandRow
row_of (Check file) = over_one file IsCheckTask
row_of (Canon files) = over_catalogue files (λ specs. each_block (canon_command specs)) quiet
row_of (Show files) = over_catalogue files (λ specs. each_block (show_command specs)) (record quiet { takes_memory = true })
row_of (Text files) = over_catalogue files (λ specs. each_block (text_command specs)) (record quiet { takes_memory = true })
row_of (Build files) = over_catalogue files builds (record quiet { takes_memory = true; reads_lines = true })
row_of (Filter expression files) = filters_by expression files
row_of (Migrate old new) = over_editions old new migrate_command false
row_of (Trial file seed count) = over_one file (IsTrialTask seed count)
row_of (Salvage files) = over_catalogue files salvages (record quiet { reports_blocks = true })
row_of (Expand spec expansion) = expands_by spec expansion
row_of (Convert old new) = over_editions old new convert_command true
row_of Help = writes_text help_text
row_of Version = writes_text version_text

-- the task of a line, over what its files give
abbrev pub IsTask : Line → Given → Task → Type 0
IsTask line given task = (row_of line).IsTask given task

-- it is a refusal, or memory was wanting before anything was taken or written
abbrev pub IsStopped : Line → Given → JobStop → Type 0
IsStopped line given stop = IsStoppedBy ((row_of line).IsTask given) stop
