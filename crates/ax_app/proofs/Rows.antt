-- What each row of the commands owes: over what its files give it has one task, whose catalogue is good, and which keeps to the row's
-- licence.
use Rattle.std.proofs.Common.{◌≡◌, ℕ, ◌<◌, ◌⊎◌, inl, inr, Bool, IsTrue, List, [], ◌∷◌, Some, None, length, refl, sym, ◌∙◌, ap, subst, arith}
use Rattle.std.specs.List.{AllByRecursion}
use Rattle.ax_blocks.specs.Commands.{BlockCommand, gives, too_long}
use Rattle.ax_blocks.specs.Streams.{Reports, RefusesLength}
use Rattle.ax_command.specs.declared.outcome.Refusal.TheVariants.{FilterRefused}
use Rattle.ax_expand.specs.Expansion.{ExpansionTree}
use Rattle.ax_expand_work.specs.ExpandCommand.{expand_command, expand_answer}
use Rattle.ax_expressions.proofs.TextStops.{filter_once, refused_once, filter_not_refused}
use Rattle.ax_filter_work.specs.FilterCommand.{filter_command}
use Rattle.ax_format.specs.Blocks.{BlockTree, read_block, opaque_block}
use Rattle.ax_format.specs.Flaws.{NoFlaw}
use Rattle.ax_format.specs.Specification.{SpecTree}
use Rattle.ax_text_form.specs.Names.{IsNamed}
use Rattle.ax_trial.proofs.Once.{trial_once}
use Rattle.ax_words.specs.declared.line.Line.{Line}
use Rattle.ax_words.specs.declared.line.Line.TheVariants.{Check, Canon, Show, Text, Build, Filter, Migrate, Trial, Salvage, Expand, Convert, Help, Version}
use Rattle.ax_app.specs.NamedFiles.{Given}
use Rattle.ax_app.specs.Rows.{Licence, quiet, CommandRow, over_catalogue, over_one, over_editions, writes_text, filters_by, expands_by, row_of, IsTrialTask, IsFilterTask, filters, refused, IsEditionsTask, answers_each, other_category, OverEditions, IsExpandTask, expands, unused, of_another, ExpandsBy}
use Rattle.ax_app.specs.Tasks.{Task, writes, each_block, builds, salvages, refuses}

-- ---- what a row owes

-- without flaw, and its names are names
abbrev pub IsGoodSpec : SpecTree → Type 0
IsGoodSpec spec = NoFlaw spec × IsNamed spec

-- so are the specifications under which blocks are built or judged
abbrev pub IsGood : Task → Type 0
IsGood (writes count text) = Unit {0}
IsGood (each_block c) = Unit {0}
IsGood (builds catalogue) = AllByRecursion IsGoodSpec catalogue
IsGood (salvages catalogue) = AllByRecursion IsGoodSpec catalogue
IsGood (refuses refusal) = Unit {0}

abbrev pub NeverReports : BlockCommand → Type 0
NeverReports c = Reports c → ⊥

abbrev pub NeverTooLong : BlockCommand → Type 0
NeverTooLong c = (number count : ℕ) → RefusesLength c number count → ⊥

-- the task keeps to the licence
abbrev pub Keeps : Licence → Task → Type 0
Keeps may (writes count text) = Unit {0}
Keeps may (each_block c) = (IsTrue may.reports_blocks ⊎ NeverReports c) × (IsTrue may.refuses_lengths ⊎ NeverTooLong c)
Keeps may (builds catalogue) = IsTrue may.reads_lines
Keeps may (salvages catalogue) = IsTrue may.reports_blocks
Keeps may (refuses refusal) = IsTrue (may.refuses refusal)

pub record IsSound (row : CommandRow) : Type 0 where
  pub one : (given : Given) (t u : Task) → row.IsTask given t → row.IsTask given u → t ≡ u
  pub good : (given : Given) (t : Task) → AllByRecursion IsGoodSpec given.specs → row.IsTask given t → IsGood t
  pub keeps : (given : Given) (t : Task) → row.IsTask given t → Keeps row.may t

-- ---- a command that gives octets and no line for each block

record IsSilent (c : BlockCommand) : Type 0 where
  octets : ℕ → BlockTree → List ℕ
  answer : (number : ℕ) (block : BlockTree) → c.answer number block ≡ gives [] (octets number block)

no_line : (c : BlockCommand) → IsSilent c → NeverReports c
no_line c s h =
    let e : gives [] (s.octets h.number h.block) ≡ gives h.lines h.octets = sym (s.answer h.number h.block) ∙ h.answer in
    let none : [] ≡ h.lines = cc in
    let some : 0 < length h.lines = h.some in
    absurd (omega (arith, ap length none))

no_length : (c : BlockCommand) → IsSilent c → NeverTooLong c
no_length c s number count h = let e : gives [] (s.octets number h.block) ≡ too_long count = sym (s.answer number h.block) ∙ h.answer in absurd (cc)

silent_keeps : (may : Licence) (c : BlockCommand) → IsSilent c → Keeps may (each_block c)
silent_keeps may c s = (inr (no_line c s), inr (no_length c s))

-- ---- rows of one form

catalogue_sound : (files : List (List ℕ)) (task : List SpecTree → Task) (may : Licence) → ((specs : List SpecTree) → AllByRecursion IsGoodSpec specs → IsGood (task specs)) → ((specs : List SpecTree) → Keeps may (task specs))
    → IsSound (over_catalogue files task may)
catalogue_sound files task may good keeps = record {
  one = λ given t u h k. h ∙ sym k;
  good = λ given t specs h. subst IsGood (sym h) (good given.specs specs);
  keeps = λ given t h. subst (Keeps may) (sym h) (keeps given.specs);
}

-- each block by a command without lines
each_sound : (files : List (List ℕ)) (command : List SpecTree → BlockCommand) (may : Licence) → ((specs : List SpecTree) → IsSilent (command specs)) → IsSound (over_catalogue files (λ specs. each_block (command specs)) may)
each_sound files command may silent = catalogue_sound files (λ specs. each_block (command specs)) may (λ specs good. tt) (λ specs. silent_keeps may (command specs) (silent specs))

text_sound : (text : List ℕ) → IsSound (writes_text text)
text_sound text = record { one = λ given t u h k. h ∙ sym k; good = λ given t specs h. subst IsGood (sym h) tt; keeps = λ given t h. subst (Keeps quiet) (sym h) tt }

-- the task is a text
record IsText (t : Task) : Type 0 where
  count : ℕ
  text : List ℕ
  is : t ≡ writes count text

-- of one specification it is one text
one_sound : (file : List ℕ) (IsIt : SpecTree → Task → Type 0) → ((spec : SpecTree) (t u : Task) → IsIt spec t → IsIt spec u → t ≡ u) → ((spec : SpecTree) (t : Task) → IsIt spec t → IsText t) → IsSound (over_one file IsIt)
one_sound file IsIt once text = record {
  one = λ given t u h k.
      let e : h.spec ∷ [] ≡ k.spec ∷ [] = sym h.one ∙ k.one in
      let s : k.spec ≡ h.spec = cc in once h.spec t u h.is (subst (λ x. IsIt x u) s k.is);
  good = λ given t specs h. subst IsGood (sym (text h.spec t h.is).is) tt;
  keeps = λ given t h. subst (Keeps quiet) (sym (text h.spec t h.is).is) tt;
}

editions_once : (command : SpecTree → SpecTree → BlockCommand) (old new : SpecTree) (t u : Task) → IsEditionsTask command old new t → IsEditionsTask command old new u → t ≡ u
editions_once command old new t u (answers_each same is) (answers_each also to) = is ∙ sym to
editions_once command old new t u (answers_each same is) (other_category differ to) = absurd (differ same)
editions_once command old new t u (other_category differ is) (answers_each same to) = absurd (differ same)
editions_once command old new t u (other_category differ is) (other_category also to) = is ∙ sym to

over_editions_once : (command : SpecTree → SpecTree → BlockCommand) (specs : List SpecTree) (t u : Task) → OverEditions command specs t → OverEditions command specs u → t ≡ u
over_editions_once command specs t u h k =
    let e : h.old ∷ h.new ∷ [] ≡ k.old ∷ k.new ∷ [] = sym h.two ∙ k.two in
    let old : k.old ≡ h.old = cc in
    let new : k.new ≡ h.new = cc in
    editions_once command h.old h.new t u h.is (subst (λ s. IsEditionsTask command h.old s u) new (subst (λ s. IsEditionsTask command s k.new u) old k.is))

module _ (old new : List ℕ) (command : SpecTree → SpecTree → BlockCommand) (memory : Bool) where
  editions_good : (a b : SpecTree) (t : Task) → IsEditionsTask command a b t → IsGood t
  editions_good a b t (answers_each same is) = subst IsGood (sym is) tt
  editions_good a b t (other_category differ is) = subst IsGood (sym is) tt

  editions_keep : (a b : SpecTree) (t : Task) → IsEditionsTask command a b t → Keeps (over_editions old new command memory).may t
  editions_keep a b t (answers_each same is) = subst (Keeps (over_editions old new command memory).may) (sym is) (inl refl, inl refl)
  editions_keep a b t (other_category differ is) = subst (Keeps (over_editions old new command memory).may) (sym is) refl

  editions_sound : IsSound (over_editions old new command memory)
  editions_sound = record {
    one = λ given t u h k. over_editions_once command given.specs t u h k;
    good = λ given t specs h. editions_good h.old h.new t h.is;
    keeps = λ given t h. editions_keep h.old h.new t h.is;
  }

-- ---- single rows

trial_task_once : (seed count : ℕ) (spec : SpecTree) (t u : Task) → IsTrialTask seed count spec t → IsTrialTask seed count spec u → t ≡ u
trial_task_once seed count spec t u h k = h.is ∙ ap (writes count) (trial_once spec seed count h.line k.line h.trial k.trial) ∙ sym k.is

module _ (expression : List ℕ) where
  filter_task_once : (specs : List SpecTree) (t u : Task) → IsFilterTask expression specs t → IsFilterTask expression specs u → t ≡ u
  filter_task_once specs t u (filters e h is) (filters f k to) = is ∙ ap (λ x. each_block (filter_command x specs)) (filter_once specs expression e f h k) ∙ sym to
  filter_task_once specs t u (filters e h is) (refused fault k to) = absurd (filter_not_refused specs expression e fault h k)
  filter_task_once specs t u (refused fault h is) (filters f k to) = absurd (filter_not_refused specs expression f fault k h)
  filter_task_once specs t u (refused fault h is) (refused next k to) = is ∙ ap (λ x. refuses (FilterRefused x)) (refused_once specs expression fault next h k) ∙ sym to

  filter_good : (specs : List SpecTree) (t : Task) → IsFilterTask expression specs t → IsGood t
  filter_good specs t (filters e h is) = subst IsGood (sym is) tt
  filter_good specs t (refused fault h is) = subst IsGood (sym is) tt

  filter_keeps : (files : List (List ℕ)) (specs : List SpecTree) (t : Task) → IsFilterTask expression specs t → Keeps (filters_by expression files).may t
  filter_keeps files specs t (filters e h is) = subst (Keeps (filters_by expression files).may) (sym is) (silent_keeps (filters_by expression files).may (filter_command e specs) (record { octets = _; answer = λ number block. refl }))
  filter_keeps files specs t (refused fault h is) = subst (Keeps (filters_by expression files).may) (sym is) refl

  filter_sound : (files : List (List ℕ)) → IsSound (filters_by expression files)
  filter_sound files = record {
    one = λ given t u h k. filter_task_once given.specs t u h k;
    good = λ given t specs h. filter_good given.specs t h;
    keeps = λ given t h. filter_keeps files given.specs t h;
  }

-- it refuses no length
expand_never_refuses : (spec : SpecTree) (frn : ℕ) (x : ExpansionTree) (number count : ℕ) (block : BlockTree) → expand_answer frn x number block ≡ too_long count → ⊥
expand_never_refuses spec frn x number count (read_block category records) e = absurd (cc)
expand_never_refuses spec frn x number count (opaque_block category content) e = absurd (cc)

expand_task_once : (spec : SpecTree) (x : ExpansionTree) (t u : Task) → IsExpandTask spec x t → IsExpandTask spec x u → t ≡ u
expand_task_once spec x t u (expands same frn stands is) (expands also next here to) =
    let e : Some frn ≡ Some next = sym stands ∙ here in let f : frn ≡ next = cc in is ∙ ap (λ n. each_block (expand_command spec n x)) f ∙ sym to
expand_task_once spec x t u (expands same frn stands is) (unused also none to) = let e : Some frn ≡ None = sym stands ∙ none in absurd (cc)
expand_task_once spec x t u (expands same frn stands is) (of_another differ to) = absurd (differ same)
expand_task_once spec x t u (unused same none is) (expands also frn stands to) = let e : Some frn ≡ None = sym stands ∙ none in absurd (cc)
expand_task_once spec x t u (unused same none is) (unused also nor to) = is ∙ sym to
expand_task_once spec x t u (unused same none is) (of_another differ to) = absurd (differ same)
expand_task_once spec x t u (of_another differ is) (expands same frn stands to) = absurd (differ same)
expand_task_once spec x t u (of_another differ is) (unused same none to) = absurd (differ same)
expand_task_once spec x t u (of_another differ is) (of_another also to) = is ∙ sym to

expands_once : (given : Given) (t u : Task) → ExpandsBy given t → ExpandsBy given u → t ≡ u
expands_once given t u h k =
    let e : h.spec ∷ [] ≡ k.spec ∷ [] = sym h.one ∙ k.one in
    let s : k.spec ≡ h.spec = cc in
    let f : Some h.x ≡ Some k.x = sym h.expansion ∙ k.expansion in
    let x : k.x ≡ h.x = cc in
    expand_task_once h.spec h.x t u h.is (subst (λ y. IsExpandTask h.spec y u) x (subst (λ s. IsExpandTask s k.x u) s k.is))

module _ (name expansion : List ℕ) where
  expand_good : (spec : SpecTree) (x : ExpansionTree) (t : Task) → IsExpandTask spec x t → IsGood t
  expand_good spec x t (expands same frn stands is) = subst IsGood (sym is) tt
  expand_good spec x t (unused same none is) = subst IsGood (sym is) tt
  expand_good spec x t (of_another differ is) = subst IsGood (sym is) tt

  expand_keeps : (spec : SpecTree) (x : ExpansionTree) (t : Task) → IsExpandTask spec x t → Keeps (expands_by name expansion).may t
  expand_keeps spec x t (expands same frn stands is) = subst (Keeps (expands_by name expansion).may) (sym is) (inl refl, inr (λ number count h. expand_never_refuses spec frn x number count h.block h.answer))
  expand_keeps spec x t (unused same none is) = subst (Keeps (expands_by name expansion).may) (sym is) refl
  expand_keeps spec x t (of_another differ is) = subst (Keeps (expands_by name expansion).may) (sym is) refl

  expand_sound : IsSound (expands_by name expansion)
  expand_sound = record {
    one = λ given t u h k. expands_once given t u h k;
    good = λ given t specs h. expand_good h.spec h.x t h.is;
    keeps = λ given t h. expand_keeps h.spec h.x t h.is;
  }

-- ---- one row for each command

pub sound : (line : Line) → IsSound (row_of line)
sound (Check file) = one_sound file _ (λ spec t u h k. h ∙ sym k) (λ spec t h. record { count = 0; text = _; is = h })
sound (Canon files) = each_sound files _ _ (λ specs. record { octets = _; answer = λ number block. refl })
sound (Show files) = each_sound files _ _ (λ specs. record { octets = _; answer = λ number block. refl })
sound (Text files) = each_sound files _ _ (λ specs. record { octets = _; answer = λ number block. refl })
sound (Build files) = catalogue_sound files _ _ (λ specs good. good) (λ specs. refl)
sound (Filter expression files) = filter_sound expression files
sound (Migrate old new) = editions_sound old new _ _
sound (Trial file seed count) = one_sound file _ (trial_task_once seed count) (λ spec t h. record { count = count; text = h.line; is = h.is })
sound (Salvage files) = catalogue_sound files _ _ (λ specs good. good) (λ specs. refl)
sound (Expand spec expansion) = expand_sound spec expansion
sound (Convert old new) = editions_sound old new _ _
sound Help = text_sound _
sound Version = text_sound _
