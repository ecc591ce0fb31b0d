-- A run, stage by stage.
use Rattle.std.proofs.Common.{◌≡◌, ℕ, ◌-◌, ◌^◌, ◌<◌, ◌≤◌, ◌⊎◌, inl, inr, Bool, List, [], Option, Some, Result, Ok, Err, length, refl, sym, ◌∙◌, ap, subst, arith}
use Rattle.std.proofs.Math.Nat.{eq-or-lt_of_le}
use Rattle.ax_bits.specs.Bits.{AreOctets}
use Rattle.ax_build_work.proofs.Once.{build_once}
use Rattle.ax_build_work.specs.BuildCommand.{build_command}
use Rattle.ax_lines.specs.declared.text_fault.TextFault.{TextFault}
use Rattle.ax_command.specs.Lines.{lines_of}
use Rattle.ax_command.specs.Outcomes.{outcome_of_stop, outcome_of_end, outcome_of_lines, outcome_of_job_stop}
use Rattle.ax_command.specs.declared.outcome.JobStop.{JobStop}
use Rattle.ax_command.specs.declared.outcome.JobStop.TheVariants as JobStopOf
use Rattle.ax_command.specs.declared.outcome.Outcome.{Outcome}
use Rattle.ax_command.specs.declared.outcome.Outcome.TheVariants.{Usage, Done, WriteFault, OutOfMemory}
use Rattle.ax_lines.proofs.AnswersOnce.{lines_complete}
use Rattle.ax_lines.specs.Commands as Lines
use Rattle.ax_lines.specs.Commands.{LineAnswer}
use Rattle.ax_lines.specs.Completing as OfLinesDone
use Rattle.ax_lines.specs.Ending.{longest_line}
use Rattle.ax_lines.specs.Runs as OfLines
use Rattle.ax_lines.specs.declared.end.LinesEnd.{LinesEnd}
use Rattle.ax_lines.specs.declared.end.LinesEnd.TheVariants as LinesEndOf
use Rattle.ax_load.specs.Languages.{Language, category_files, expansion_files}
use Rattle.ax_load.specs.Loading.{StopsAtFile, EndsAtFile, by_file, by_category, IsRefusedFile, from_load, taken_by}
use Rattle.ax_load.specs.declared.fault.LoadStop.{LoadStop}
use Rattle.ax_load.specs.declared.fault.LoadStop.TheVariants as LoadStopOf
use Rattle.ax_load.specs.declared.fault.SpecFault.{SpecFault}
use Rattle.ax_load.specs.declared.fault.SpecFault.TheVariants.{TooLarge, BadByte, TooDeep, BadToken, Flawed}
use Rattle.ax_format.specs.Specification.{SpecTree}
use Rattle.ax_endpoints.proofs.Ends.{with_end-nil, Rose-later}
use Rattle.ax_endpoints.specs.Changes.{none_counted, LibraryCounts, SourceChange, SinkChange, IsUntouched, Gains, GainsNothing, GainsPart, Wrote}
use Rattle.ax_endpoints.specs.Files.{File}
use Rattle.ax_endpoints.specs.Told.{Rose, with_end}
use Rattle.ax_endpoints.specs.declared.sinks.SinkFailed.{SinkFailed}
use Rattle.ax_format.specs.Blocks.{BlockTree}
use Rattle.ax_salvage.specs.Runs.{SalvageAnswers, SalvageStops}
use Rattle.ax_salvage.specs.declared.salvaging.SalvageEnd.{SalvageEnd}
use Rattle.ax_blocks.proofs.Completes.{IsDoneWithBlocks, stream_completes}
use Rattle.ax_blocks.specs.Commands.{BlockCommand, output_of, report_of}
use Rattle.ax_blocks.specs.Ending.{longest_input}
use Rattle.ax_blocks.specs.Streams.{IsIdle, ToldRun, reading, writing, reporting, for_memory}
use Rattle.ax_blocks.specs.declared.end.StreamEnd.{StreamEnd}
use Rattle.ax_blocks.specs.declared.end.StreamEnd.TheVariants as EndOf
use Rattle.ax_words.specs.Words.{HasNoShape, JudgesWords}
use Rattle.ax_words.specs.declared.error.WordsError.{WordsError}
use Rattle.ax_words.specs.declared.error.WordsError.TheVariants as WordsErrorOf
use Rattle.ax_words.specs.declared.line.Line.{Line}
use Rattle.ax_app.proofs.Ends.{IsEarly, stop_is_early, job_stop_is_early, no_usage_of_blocks, no_usage_of_lines, no_usage_of_salvage, done_of_blocks, done_of_lines, done_of_salvage}
use Rattle.ax_words.proofs.Once.{once as shape_once}
use Rattle.ax_app.proofs.GivenOnce.{line_ends_for_memory}
use Rattle.ax_app.proofs.Once.{does_once, IsGood, good_task}
use Rattle.ax_app.proofs.SalvagedWhole.{salvage_completes, salvage_reads}
use Rattle.ax_app.specs.Answer.{by_words, by_files, by_refusal, by_task}
use Rattle.ax_app.specs.Completing.{NoFaultCounted, HasWhole, IsDoneWith}
use Rattle.ax_app.specs.Given.{LineGives, LineEnds, in_specs, in_expansion, files_of, takes_distinct}
use Rattle.ax_app.specs.Headline.{Headline, answered, stopped_at_words, stopped_at_files, stopped_before_input, stopped_in_task, IsHindrance, of_library, of_memory}
use Rattle.ax_app.specs.Tasks.{Task, writes, each_block, builds, salvages, refuses, ReadsInput, TextEnds, written, cut, no_memory, TaskRuns}
use Rattle.ax_app.specs.Salvages.{outcome_of_salvage}
use Rattle.ax_app.specs.Running.{Does, StopsAtFiles, StopsBeforeInput, Runs, at_words, no_words, at_files, before_input, in_task, Causes}

-- ---- usage

pub no_shape : (words : List (List ℕ)) (error : WordsError) → error ≡ WordsErrorOf.Usage → JudgesWords words (Err error) → HasNoShape words
no_shape words error is h = subst (λ e. JudgesWords words (Err e)) is h

no_usage_of_text : (count : ℕ) (text : List ℕ) (o : SinkChange) (outcome : Outcome) → TextEnds count text o outcome → outcome ≡ Usage → ⊥
no_usage_of_text count text o outcome (written is h still) e = absurd (let x : Done count ≡ Usage = sym is ∙ e in cc)
no_usage_of_text count text o outcome (cut is h once) e = absurd (let x : WriteFault ≡ Usage = sym is ∙ e in cc)
no_usage_of_text count text o outcome (no_memory is h still) e = absurd (let x : OutOfMemory ≡ Usage = sym is ∙ e in cc)

no_usage_in_task : (task : Task) (i : SourceChange) (o r : SinkChange) (outcome : Outcome) → TaskRuns task i o r outcome → outcome ≡ Usage → ⊥
no_usage_in_task (writes count text) i o r outcome h e = no_usage_of_text count text o outcome h.ends e
no_usage_in_task (each_block c) i o r outcome h e = no_usage_of_blocks h.end (sym h.is ∙ e)
no_usage_in_task (builds catalogue) i o r outcome h e = no_usage_of_lines h.end (sym h.is ∙ e)
no_usage_in_task (salvages catalogue) i o r outcome h e = no_usage_of_salvage h.end (sym h.is ∙ e)
no_usage_in_task (refuses refusal) i o r outcome h e = h

pub usage_only : (words : List (List ℕ)) (files : Option (List File)) (c : LibraryCounts) (i : SourceChange) (o r : SinkChange) (outcome : Outcome) → Runs words files c i o r outcome → outcome ≡ Usage → HasNoShape words
usage_only words files c i o r outcome (at_words none is unasked idle) e = none
usage_only words files c i o r outcome (no_words is unasked idle) e = absurd (let x : OutOfMemory ≡ Usage = sym is ∙ e in cc)
usage_only words files c i o r outcome (at_files stop h loads is idle) e = absurd (subst IsEarly (sym is ∙ e) (stop_is_early stop))
usage_only words files c i o r outcome (before_input stop h loads is idle) e = absurd (subst IsEarly (sym is ∙ e) (job_stop_is_early stop))
usage_only words files c i o r outcome (in_task task d loads h) e = absurd (no_usage_in_task task i o r outcome h e)

pub usage_there : (words : List (List ℕ)) (files : Option (List File)) (c : LibraryCounts) (i : SourceChange) (o r : SinkChange) (outcome : Outcome) → Runs words files c i o r outcome → HasNoShape words → (outcome ≡ Usage) ⊎ (outcome ≡ OutOfMemory)
usage_there words files c i o r outcome (at_words none is unasked idle) e = inl is
usage_there words files c i o r outcome (no_words is unasked idle) e = inr is
usage_there words files c i o r outcome (at_files stop h loads is idle) e = absurd (e h.what h.shape)
usage_there words files c i o r outcome (before_input stop h loads is idle) e = absurd (e h.what h.shape)
usage_there words files c i o r outcome (in_task task d loads h) e = absurd (e d.what d.shape)

-- ---- the told headline: files

-- whatever is counted, where no fault of the library is
refused_uncounted : {T : Type 0} (language : Language T) (files : List File) (c d : LibraryCounts) (name : List ℕ) (fault : SpecFault) → IsRefusedFile language (Some files) c name fault → IsRefusedFile language (Some files) d name fault
refused_uncounted language files c d name TooLarge h = h
refused_uncounted language files c d name (BadByte at) h = h
refused_uncounted language files c d name (TooDeep token) h = h
refused_uncounted language files c d name (BadToken token) h = h
refused_uncounted language files c d name (Flawed flaws) h = h

-- what ends the run so does it by itself, and not for want of memory; or a fault of the library or want of memory does
pub record ByItself (stop : LoadStop) (Ends : Type 0) : Type 0 where
  pub ends : Ends
  pub not_memory : stop ≡ LoadStopOf.OutOfMemory → ⊥

by_itself : {T : Type 0} (language : Language T) (files : List File) (c d : LibraryCounts) (t : ℕ) (name : List ℕ) (i : ℕ) (stop : LoadStop) → StopsAtFile language (Some files) (from_load c t) name i stop
    → IsHindrance c stop ⊎ ByItself stop (StopsAtFile language (Some files) d name i stop)
by_itself language files c d t name i (LoadStopOf.LoadFault n) (is, inl rose) = inl (of_library n refl rose)
by_itself language files c d t name i (LoadStopOf.LoadFault n) (is, inr lacks) = inr (record { ends = (is, inr lacks); not_memory = λ e. absurd (cc) })
by_itself language files c d t name i (LoadStopOf.SpecRefused n fault) h = inr (record { ends = (h.0, refused_uncounted language files (from_load c t) d name fault h.1); not_memory = λ e. absurd (cc) })
by_itself language files c d t name i LoadStopOf.OutOfMemory h = inl (of_memory refl)
by_itself language files c d t name i (LoadStopOf.CategoryTwice n category) h = absurd h

-- so it is of what ends by that
itself_on : (c : LibraryCounts) (stop : LoadStop) (A B : Type 0) → (A → B) → IsHindrance c stop ⊎ ByItself stop A → IsHindrance c stop ⊎ ByItself stop B
itself_on c stop A B on (inl hindered) = inl hindered
itself_on c stop A B on (inr b) = inr (record { ends = on b.ends; not_memory = b.not_memory })

twice_is_not_memory : (stop : LoadStop) (i category : ℕ) → stop ≡ LoadStopOf.CategoryTwice i category → stop ≡ LoadStopOf.OutOfMemory → ⊥
twice_is_not_memory stop i category is memory = absurd (cc)

at_file : (distinct : Bool) (files : List File) (c d : LibraryCounts) (t : ℕ) (before : List SpecTree) (name : List ℕ) (i : ℕ) (stop : LoadStop) → EndsAtFile distinct (Some files) (from_load c t) before name i stop
    → IsHindrance c stop ⊎ ByItself stop (EndsAtFile distinct (Some files) d before name i stop)
at_file distinct files c d t before name i stop (by_file h) = itself_on c stop _ _ (λ s. by_file s) (by_itself category_files files c d t name i stop h)
at_file distinct files c d t before name i stop (by_category want category is twice) = inr (record { ends = by_category want category is twice; not_memory = twice_is_not_memory stop i category is })

pub at_files_of : (what : Line) (files : List File) (c : LibraryCounts) (stop : LoadStop) → LineEnds what (Some files) c stop → IsHindrance c stop ⊎ ByItself stop (LineEnds what (Some files) none_counted stop)
at_files_of what files c stop (in_specs h) =
    itself_on c stop _ _ (λ e. in_specs (record { earlier = h.earlier; name = h.name; more = h.more; split = h.split; before = h.before; give = h.give; ends = e }))
    (at_file (takes_distinct what) files c _ _ h.before h.name (length h.earlier) stop h.ends)
at_files_of what files c stop (in_expansion name is specs gives h) = itself_on c stop _ _ (λ e. in_expansion name is specs gives e)
    (by_itself expansion_files files c (from_load none_counted (taken_by (Some files) (files_of what) specs gives.each none_counted.taken)) (taken_by (Some files) (files_of what) specs gives.each c.taken) name (length (files_of what)) stop h)

pub files_headline : (words : List (List ℕ)) (files : List File) (c : LibraryCounts) (input : List ℕ) (i : SourceChange) (o r : SinkChange) (outcome : Outcome) (stop : LoadStop) (h : StopsAtFiles words (Some files) c stop) → outcome ≡ outcome_of_stop stop → IsIdle i o r
    → IsHindrance c stop ⊎ ByItself stop (LineEnds h.what (Some files) none_counted stop) → Headline words files c input i o r outcome
files_headline words files c input i o r outcome stop h is idle (inl hindered) = stopped_at_files stop h hindered is idle
files_headline words files c input i o r outcome stop h is idle (inr b) =
    answered [] [] (by_files stop (record { what = h.what; shape = h.shape; ends = b.ends }) b.not_memory is refl refl) (idle.out ∙ sym (with_end-nil o.held)) (idle.report ∙ sym (with_end-nil r.held))

-- ---- the told headline: tasks

pub text_headline : (words : List (List ℕ)) (files : List File) (c : LibraryCounts) (input : List ℕ) (i : SourceChange) (o r : SinkChange) (outcome : Outcome) (count : ℕ) (text : List ℕ) → Does words (Some files) (writes count text)
    → IsUntouched i → GainsNothing r → TextEnds count text o outcome → Headline words files c input i o r outcome
text_headline words files c input i o r outcome count text d idle none (written done h quiet) =
    answered text [] (by_task (writes count text) d (record { done = done; written_is = refl; reported_is = refl })) h (none ∙ sym (with_end-nil r.held))
text_headline words files c input i o r outcome count text d idle none (cut e h once) = stopped_in_task (writes count text) d (record { ends = inl (e, h); untouched = idle; report = none })
text_headline words files c input i o r outcome count text d idle none (no_memory e h still) = stopped_in_task (writes count text) d (record { ends = inr (e, h); untouched = idle; report = none })

pub blocks_headline : (words : List (List ℕ)) (files : List File) (c : LibraryCounts) (input : List ℕ) (i : SourceChange) (o r : SinkChange) (outcome : Outcome) (k : BlockCommand) (end : StreamEnd) → Does words (Some files) (each_block k)
    → outcome ≡ outcome_of_end end → ToldRun k longest_input input i.left' o r end → Headline words files c input i o r outcome
blocks_headline words files c input i o r outcome k end d is (inl a) =
    answered _ _ (by_task (each_block k) d (record { blocks = a.blocks; end = end; answers = a.answers; is = is; written_is = refl; reported_is = refl })) a.out a.report
blocks_headline words files c input i o r outcome k end d is (inr stops) = stopped_in_task (each_block k) d (record { end = end; stops = stops; is = is })

pub lines_headline : (words : List (List ℕ)) (files : List File) (c : LibraryCounts) (input : List ℕ) (i : SourceChange) (o r : SinkChange) (outcome : Outcome) (catalogue : List SpecTree) (end : LinesEnd TextFault) → Does words (Some files) (builds catalogue)
    → outcome ≡ outcome_of_lines end → GainsNothing r → OfLines.ToldRun (build_command catalogue) longest_line longest_input input i.left' o end → Headline words files c input i o r outcome
lines_headline words files c input i o r outcome catalogue end d is none (inl a) =
    answered _ [] (by_task (builds catalogue) d (record { lines = a.lines; answers = a.answers; end = end; ends = a.ends; is = is; written_is = refl; reported_is = refl })) a.out (none ∙ sym (with_end-nil r.held))
lines_headline words files c input i o r outcome catalogue end d is none (inr stops) = stopped_in_task (builds catalogue) d (record { end = end; stops = stops; is = is; report = none })

pub salvage_headline : (words : List (List ℕ)) (files : List File) (c : LibraryCounts) (input : List ℕ) (i : SourceChange) (o r : SinkChange) (outcome : Outcome) (catalogue : List SpecTree) (end : SalvageEnd) → Does words (Some files) (salvages catalogue)
    → outcome ≡ outcome_of_salvage end → SalvageAnswers catalogue longest_input input i.left' o r end ⊎ SalvageStops catalogue longest_input input i.left' o r end → Headline words files c input i o r outcome
salvage_headline words files c input i o r outcome catalogue end d is (inl a) = answered a.out a.report (by_task (salvages catalogue) d (record { end = end; salvaged = a.salvaged; is = is })) a.wrote a.reported
salvage_headline words files c input i o r outcome catalogue end d is (inr stops) = stopped_in_task (salvages catalogue) d (record { end = end; stops = stops; is = is })

task_headline : (words : List (List ℕ)) (files : List File) (c : LibraryCounts) (input : List ℕ) (i : SourceChange) (o r : SinkChange) (outcome : Outcome) (task : Task) → AreOctets input → i.left ≡ Some input
    → Does words (Some files) task → TaskRuns task i o r outcome → Headline words files c input i o r outcome
task_headline words files c input i o r outcome (writes count text) octets left d h = text_headline words files c input i o r outcome count text d h.untouched h.report h.ends
task_headline words files c input i o r outcome (each_block k) octets left d h = blocks_headline words files c input i o r outcome k h.end d h.is (h.runs.told input octets left)
task_headline words files c input i o r outcome (builds catalogue) octets left d h = lines_headline words files c input i o r outcome catalogue h.end d h.is h.report (h.runs.told input left)
task_headline words files c input i o r outcome (salvages catalogue) octets left d h = salvage_headline words files c input i o r outcome catalogue h.end d h.is (h.runs.told input octets left)
task_headline words files c input i o r outcome (refuses refusal) octets left d h = absurd h

pub before_headline : (words : List (List ℕ)) (files : List File) (c : LibraryCounts) (input : List ℕ) (i : SourceChange) (o r : SinkChange) (outcome : Outcome) (stop : JobStop) → StopsBeforeInput words (Some files) stop → outcome ≡ outcome_of_job_stop stop → IsIdle i o r
    → Headline words files c input i o r outcome
before_headline words files c input i o r outcome (JobStopOf.Refused refusal) h is idle =
    answered [] [] (by_refusal refusal (record { what = h.what; shape = h.shape; given = h.given; give = h.give; is = h.stopped }) is refl refl) (idle.out ∙ sym (with_end-nil o.held)) (idle.report ∙ sym (with_end-nil r.held))
before_headline words files c input i o r outcome JobStopOf.OutOfMemory h is idle = stopped_before_input h is idle

told_headline : (words : List (List ℕ)) (files : List File) (c : LibraryCounts) (input : List ℕ) (i : SourceChange) (o r : SinkChange) (outcome : Outcome) → AreOctets input → i.left ≡ Some input
    → Runs words (Some files) c i o r outcome → Headline words files c input i o r outcome
told_headline words files c input i o r outcome octets left (at_words none is unasked idle) = answered [] [] (by_words none is refl refl) (idle.out ∙ sym (with_end-nil o.held)) (idle.report ∙ sym (with_end-nil r.held))
told_headline words files c input i o r outcome octets left (no_words is unasked idle) = stopped_at_words is idle
told_headline words files c input i o r outcome octets left (at_files stop h loads is idle) =
    files_headline words files c input i o r outcome stop h is idle (at_files_of h.what files c stop h.ends)
told_headline words files c input i o r outcome octets left (before_input stop h loads is idle) = before_headline words files c input i o r outcome stop h is idle
told_headline words files c input i o r outcome octets left (in_task task d loads h) = task_headline words files c input i o r outcome task octets left d h

pub headline : (words : List (List ℕ)) (told : Option (List File)) (files : List File) (c : LibraryCounts) (input : List ℕ) (i : SourceChange) (o r : SinkChange) (outcome : Outcome) → told ≡ Some files → AreOctets input → i.left ≡ Some input
    → Runs words told c i o r outcome → Headline words files c input i o r outcome
headline words told files c input i o r outcome is octets left runs = told_headline words files c input i o r outcome octets left (subst (λ t. Runs words t c i o r outcome) is runs)

-- ---- completeness

text_completes : (count : ℕ) (text : List ℕ) (o r : SinkChange) (outcome : Outcome) → GainsNothing r → (Rose o.faults o.faults' → ⊥) → TextEnds count text o outcome → IsDoneWith outcome count o r text []
text_completes count text o r outcome none quiet (written is h still) = inr (is, h, none ∙ sym (with_end-nil r.held))
text_completes count text o r outcome none quiet (cut is h once) = absurd (quiet h.rose)
text_completes count text o r outcome none quiet (no_memory is h still) = inl is

blocks_complete : (k : BlockCommand) (blocks : List BlockTree) (o r : SinkChange) (end : StreamEnd) (outcome : Outcome) → outcome ≡ outcome_of_end end → (end ≡ EndOf.OutOfMemory) ⊎ IsDoneWithBlocks k blocks o r end
    → IsDoneWith outcome (length blocks) o r (output_of k 0 blocks) (report_of k 0 blocks)
blocks_complete k blocks o r end outcome is (inl memory) = inl (is ∙ ap outcome_of_end memory)
blocks_complete k blocks o r end outcome is (inr d) = inr (is ∙ ap outcome_of_end d.done, d.out, d.report)

lines_done : (answers : List (LineAnswer TextFault)) (o r : SinkChange) (end : LinesEnd TextFault) (outcome : Outcome) → outcome ≡ outcome_of_lines end → GainsNothing r → (end ≡ LinesEndOf.OutOfMemory) ⊎ OfLinesDone.IsDoneWith answers o end
    → IsDoneWith outcome (Lines.results_of answers) o r (Lines.output_of answers) []
lines_done answers o r end outcome is none (inl memory) = inl (is ∙ ap outcome_of_lines memory)
lines_done answers o r end outcome is none (inr d) = inr (is ∙ ap outcome_of_lines d.done, d.out, none ∙ sym (with_end-nil r.held))

-- the same count, octets and lines
same_whole : (outcome : Outcome) (n count : ℕ) (o r : SinkChange) (text all lines said : List ℕ) → count ≡ n → all ≡ text → said ≡ lines → IsDoneWith outcome n o r text lines → IsDoneWith outcome count o r all said
same_whole outcome n count o r text all lines said a b c (inl memory) = inl memory
same_whole outcome n count o r text all lines said a b c (inr (done, out, report)) = inr (done ∙ ap Done (sym a), out ∙ ap (with_end o.held) (sym b), report ∙ ap (with_end r.held) (sym c))

module _ (input : List ℕ) (i : SourceChange) (o r : SinkChange) (outcome : Outcome) (count : ℕ) (all said : List ℕ) (octets : AreOctets input) (left : i.left ≡ Some input) (source : Rose i.faults i.faults' → ⊥) (out : Rose o.faults o.faults' → ⊥) (report : Rose r.faults r.faults' → ⊥) where
  task_completes : (task : Task) → IsGood task → HasWhole task input count all said → TaskRuns task i o r outcome → IsDoneWith outcome count o r all said
  task_completes (writes blocks text) good can h = same_whole outcome blocks count o r text all [] said can.count_is can.written_is can.reported_is (text_completes blocks text o r outcome h.report out h.ends)
  task_completes (each_block k) good can h =
      same_whole outcome (length can.blocks) count o r (output_of k 0 can.blocks) all (report_of k 0 can.blocks) said can.count_is can.written_is can.reported_is
      (blocks_complete k can.blocks o r h.end outcome h.is (stream_completes k longest_input input can.blocks i o r h.end can.spelled can.within can.given octets left source out report h.runs))
  task_completes (builds catalogue) good can h =
      same_whole outcome (Lines.results_of can.answers) count o r (Lines.output_of can.answers) all [] said can.count_is can.written_is can.reported_is
      (lines_done can.answers o r h.end outcome h.is h.report
      (lines_complete (build_command catalogue) longest_line longest_input longest_line longest_input i o h.end refl refl h.runs (build_once catalogue good) input can.lines can.answers left can.lined can.answered source out))
  task_completes (salvages catalogue) good can h = salvage_completes catalogue input i o r h.end outcome count all said good octets left source out report h.runs h.is can
  task_completes (refuses refusal) good can h = absurd can

-- a task with a whole result isn't refused
not_refused : (words : List (List ℕ)) (files : List File) (input : List ℕ) (task : Task) (count : ℕ) (all said : List ℕ) (stop : JobStop) → Does words (Some files) task → HasWhole task input count all said → StopsBeforeInput words (Some files) stop → stop ≡ JobStopOf.OutOfMemory
not_refused words files input task count all said (JobStopOf.Refused refusal) d can h =
    let same : task ≡ refuses refusal = does_once words files task (refuses refusal) d (record { what = h.what; shape = h.shape; given = h.given; give = h.give; is = h.stopped }) in
    absurd (subst (λ j. HasWhole j input count all said) same can)
not_refused words files input task count all said JobStopOf.OutOfMemory d can h = refl

run_completes : (words : List (List ℕ)) (files : List File) (c : LibraryCounts) (input : List ℕ) (i : SourceChange) (o r : SinkChange) (outcome : Outcome) (task : Task) (count : ℕ) (all said : List ℕ) → AreOctets input → i.left ≡ Some input
    → (Rose c.faults c.faults' → ⊥) → (Rose i.faults i.faults' → ⊥) → (Rose o.faults o.faults' → ⊥) → (Rose r.faults r.faults' → ⊥) → Does words (Some files) task → HasWhole task input count all said → Runs words (Some files) c i o r outcome
    → IsDoneWith outcome count o r all said
run_completes words files c input i o r outcome task count all said octets left library source out report d can (at_words none is unasked idle) = absurd (none d.what d.shape)
run_completes words files c input i o r outcome task count all said octets left library source out report d can (no_words is unasked idle) = inl is
run_completes words files c input i o r outcome task count all said octets left library source out report d can (at_files stop h loads is idle) =
    let same : d.what ≡ h.what = shape_once words d.what h.what d.shape h.shape in
    let memory : stop ≡ LoadStopOf.OutOfMemory = line_ends_for_memory h.what files c d.given stop library (subst (λ w. LineGives w (Some files) d.given) same d.give) h.ends in
    inl (is ∙ ap outcome_of_stop memory)
run_completes words files c input i o r outcome task count all said octets left library source out report d can (before_input stop h loads is idle) =
    inl (is ∙ ap outcome_of_job_stop (not_refused words files input task count all said stop d can h))
run_completes words files c input i o r outcome task count all said octets left library source out report d can (in_task other k loads h) =
    let same : other ≡ task = does_once words files other task k d in
    task_completes input i o r outcome count all said octets left source out report task (good_task words (Some files) task d) can (subst (λ j. TaskRuns j i o r outcome) same h)

-- ---- Done of a command that reads its input

blocks_read : (k : BlockCommand) (input : List ℕ) (i : SourceChange) (o r : SinkChange) (end : StreamEnd) (count : ℕ) → end ≡ EndOf.Done count → ToldRun k longest_input input i.left' o r end → i.left' ≡ Some []
blocks_read k input i o r end count is (inl a) = a.read count is
blocks_read k input i o r end count is (inr (reading e s)) = absurd (let x : EndOf.Done count ≡ EndOf.ReadFault = sym is ∙ e in cc)
blocks_read k input i o r end count is (inr (writing e s)) = absurd (let x : EndOf.Done count ≡ EndOf.WriteFault = sym is ∙ e in cc)
blocks_read k input i o r end count is (inr (reporting e s)) = absurd (let x : EndOf.Done count ≡ EndOf.ReportFault = sym is ∙ e in cc)
blocks_read k input i o r end count is (inr (for_memory e s)) = absurd (let x : EndOf.Done count ≡ EndOf.OutOfMemory = sym is ∙ e in cc)

lines_read : (catalogue : List SpecTree) (input : List ℕ) (i : SourceChange) (o : SinkChange) (end : LinesEnd TextFault) (count : ℕ) → end ≡ LinesEndOf.Done count → OfLines.ToldRun (build_command catalogue) longest_line longest_input input i.left' o end → i.left' ≡ Some []
lines_read catalogue input i o end count is (inl a) = a.read count is
lines_read catalogue input i o end count is (inr (OfLines.reading e s)) = absurd (let x : ◌≡◌ {A = LinesEnd TextFault} (LinesEndOf.Done count) LinesEndOf.ReadFault = sym is ∙ e in cc)
lines_read catalogue input i o end count is (inr (OfLines.writing e s)) = absurd (let x : ◌≡◌ {A = LinesEnd TextFault} (LinesEndOf.Done count) LinesEndOf.WriteFault = sym is ∙ e in cc)
lines_read catalogue input i o end count is (inr (OfLines.for_memory e s)) = absurd (let x : ◌≡◌ {A = LinesEnd TextFault} (LinesEndOf.Done count) LinesEndOf.OutOfMemory = sym is ∙ e in cc)

task_reads : (task : Task) (input : List ℕ) (i : SourceChange) (o r : SinkChange) (outcome : Outcome) (count : ℕ) → AreOctets input → i.left ≡ Some input → ReadsInput task → outcome ≡ Done count → TaskRuns task i o r outcome → i.left' ≡ Some []
task_reads (writes blocks text) input i o r outcome count octets left reads done h = absurd reads
task_reads (each_block k) input i o r outcome count octets left reads done h = blocks_read k input i o r h.end count (done_of_blocks h.end count (sym h.is ∙ done)) (h.runs.told input octets left)
task_reads (builds catalogue) input i o r outcome count octets left reads done h = lines_read catalogue input i o h.end count (done_of_lines h.end count (sym h.is ∙ done)) (h.runs.told input left)
task_reads (salvages catalogue) input i o r outcome count octets left reads done h = salvage_reads catalogue input i o r h.end count (done_of_salvage h.end count (sym h.is ∙ done)) (h.runs.told input octets left)
task_reads (refuses refusal) input i o r outcome count octets left reads done h = absurd reads

done_reads : (words : List (List ℕ)) (files : List File) (c : LibraryCounts) (input : List ℕ) (i : SourceChange) (o r : SinkChange) (outcome : Outcome) (task : Task) (count : ℕ) → AreOctets input → i.left ≡ Some input
    → Does words (Some files) task → ReadsInput task → outcome ≡ Done count → Runs words (Some files) c i o r outcome → i.left' ≡ Some []
done_reads words files c input i o r outcome task count octets left d reads done (at_words none is unasked idle) = absurd (let x : Usage ≡ Done count = sym is ∙ done in cc)
done_reads words files c input i o r outcome task count octets left d reads done (no_words is unasked idle) = absurd (let x : OutOfMemory ≡ Done count = sym is ∙ done in cc)
done_reads words files c input i o r outcome task count octets left d reads done (at_files stop h loads is idle) = absurd (subst IsEarly (sym is ∙ done) (stop_is_early stop))
done_reads words files c input i o r outcome task count octets left d reads done (before_input stop h loads is idle) = absurd (subst IsEarly (sym is ∙ done) (job_stop_is_early stop))
done_reads words files c input i o r outcome task count octets left d reads done (in_task other h loads runs) =
    let same : other ≡ task = does_once words files other task h d in
    task_reads task input i o r outcome count octets left reads done (subst (λ j. TaskRuns j i o r outcome) same runs)

-- ---- the report, with the lines of the outcome last

pub lines_after : (o : SinkChange) (result : Result Unit SinkFailed) (lines : List ℕ) → Wrote o result lines → (Gains o lines × (o.faults' ≡ o.faults)) ⊎ GainsPart o lines
lines_after o (Ok u) lines w = inl (w.whole, w.quiet)
lines_after o (Err e) lines w = inr w.part

-- ---- the whole report

-- what rose stays risen
later_or_same : (a b c : ℕ) → a ≤ b → b ≤ c → b ≡ 2 ^ 64 - 1 → (a ≡ c) ⊎ (a < c) → Rose a c
later_or_same a b c le more last (inl same) = inr (omega (arith, le, more, last, same))
later_or_same a b c le more last (inr less) = inl less

pub Rose-on : (a b c : ℕ) → a ≤ b → b ≤ c → Rose a b → Rose a c
Rose-on a b c le more (inl less) = inl (omega arith)
Rose-on a b c le more (inr last) = later_or_same a b c le more last (eq-or-lt_of_le {n = a} {m = c} (omega arith))

pub causes_on : (i : SourceChange) (o : SinkChange) (held between held' : Option (List ℕ)) (faults counted faults' : ℕ) (outcome : Outcome) → faults ≤ counted → counted ≤ faults'
    → Causes i o (record { held = held; held' = between; faults = faults; faults' = counted }) outcome → Causes i o (record { held = held; held' = held'; faults = faults; faults' = faults' }) outcome
causes_on i o held between held' faults counted faults' outcome a b h = record { read = h.read; write = h.write; report = λ e. Rose-on faults counted faults' a b (h.report e); too_long = h.too_long }

no_lines : (held between held' : Option (List ℕ)) (faults counted faults' : ℕ) (said : List ℕ) (result : Result Unit SinkFailed) → faults ≤ counted → (Rose faults faults' → ⊥) → between ≡ with_end held said
    → Wrote (record { held = between; held' = held'; faults = counted; faults' = faults' }) result [] → held' ≡ with_end held said
no_lines held between held' faults counted faults' said (Ok u) a quiet e w = w.whole ∙ with_end-nil between ∙ e
no_lines held between held' faults counted faults' said (Err f) a quiet e w = absurd (quiet (Rose-later a w.part.rose))

done_after : (o : SinkChange) (held between held' : Option (List ℕ)) (faults counted faults' count : ℕ) (all said : List ℕ) (outcome : Outcome) (result : Result Unit SinkFailed) → faults ≤ counted → (Rose faults faults' → ⊥)
    → Wrote (record { held = between; held' = held'; faults = counted; faults' = faults' }) result (lines_of outcome)
    → IsDoneWith outcome count o (record { held = held; held' = between; faults = faults; faults' = counted }) all said → IsDoneWith outcome count o (record { held = held; held' = held'; faults = faults; faults' = faults' }) all said
done_after o held between held' faults counted faults' count all said outcome result a quiet w (inl memory) = inl memory
done_after o held between held' faults counted faults' count all said outcome result a quiet w (inr (done, out, report)) =
    let none : lines_of outcome ≡ [] = ap lines_of done in
    inr (done, out, no_lines held between held' faults counted faults' said result a quiet report (subst (λ l. Wrote (record { held = between; held' = held'; faults = counted; faults' = faults' }) result l) none w))

pub completes : (words : List (List ℕ)) (told : Option (List File)) (files : List File) (c : LibraryCounts) (input : List ℕ) (i : SourceChange) (o : SinkChange) (held between held' : Option (List ℕ)) (faults counted faults' : ℕ) (outcome : Outcome) (result : Result Unit SinkFailed)
    (task : Task) (count : ℕ) (all said : List ℕ) → faults ≤ counted → counted ≤ faults' → Wrote (record { held = between; held' = held'; faults = counted; faults' = faults' }) result (lines_of outcome)
    → Runs words told c i o (record { held = held; held' = between; faults = faults; faults' = counted }) outcome
    → AreOctets input → told ≡ Some files → i.left ≡ Some input → NoFaultCounted c i o (record { held = held; held' = held'; faults = faults; faults' = faults' }) → Does words (Some files) task → HasWhole task input count all said
    → IsDoneWith outcome count o (record { held = held; held' = held'; faults = faults; faults' = faults' }) all said
completes words told files c input i o held between held' faults counted faults' outcome result task count all said a b w runs octets is left quiet d can =
    done_after o held between held' faults counted faults' count all said outcome result a quiet.report w
    (run_completes words files c input i o (record { held = held; held' = between; faults = faults; faults' = counted }) outcome task count all said octets left quiet.library quiet.source quiet.out
    (λ rose. quiet.report (Rose-on faults counted faults' a b rose)) d can (subst (λ t. Runs words t c i o (record { held = held; held' = between; faults = faults; faults' = counted }) outcome) is runs))

pub reads_all : (words : List (List ℕ)) (told : Option (List File)) (files : List File) (c : LibraryCounts) (input : List ℕ) (i : SourceChange) (o r : SinkChange) (outcome : Outcome) (task : Task) (count : ℕ) → told ≡ Some files → AreOctets input → i.left ≡ Some input
    → Does words (Some files) task → ReadsInput task → outcome ≡ Done count → Runs words told c i o r outcome → i.left' ≡ Some []
reads_all words told files c input i o r outcome task count is octets left d reads done runs =
    done_reads words files c input i o r outcome task count octets left d reads done (subst (λ t. Runs words t c i o r outcome) is runs)
