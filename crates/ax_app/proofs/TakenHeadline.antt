-- The headline of the octets that were taken, whether the source tells them or not.
use Rattle.std.proofs.Common.{◌≡◌, ℕ, List, [], Option, Some, None, refl, sym, ◌∙◌, subst, arith}
use Rattle.ax_command.specs.declared.outcome.Outcome.{Outcome}
use Rattle.ax_endpoints.proofs.Ends.{with_end-nil}
use Rattle.ax_endpoints.specs.Changes.{LibraryCounts, SourceChange, SinkChange, IsUntouched}
use Rattle.ax_endpoints.specs.Files.{File}
use Rattle.ax_endpoints.specs.Told.{with_front}
use Rattle.ax_blocks.specs.Streams.{IsIdle}
use Rattle.ax_app.proofs.Stages.{text_headline, blocks_headline, lines_headline, salvage_headline, before_headline, files_headline, at_files_of}
use Rattle.ax_app.specs.Answer.{by_words}
use Rattle.ax_app.specs.Headline.{Headline, answered, stopped_at_words, as_told, HeadlineOfTaken}
use Rattle.ax_app.specs.Tasks.{Task, writes, each_block, builds, salvages, refuses, TaskRuns}
use Rattle.ax_app.specs.Running.{Does, Runs, at_words, no_words, at_files, before_input, in_task}

no_front : (left : Option (List ℕ)) → left ≡ with_front [] left
no_front None = refl
no_front (Some rest) = refl

-- no octet was taken
untouched_as_told : (i : SourceChange) → IsUntouched i → IsUntouched (as_told i [])
untouched_as_told i h = record { left = refl; taken = h.taken }

idle_as_told : (i : SourceChange) (o r : SinkChange) → IsIdle i o r → IsIdle (as_told i []) o r
idle_as_told i o r h = record {
  untouched = untouched_as_told i h.untouched;
  out = h.out;
  report = h.report;
  source_quiet = h.source_quiet;
  out_quiet = h.out_quiet;
  report_quiet = h.report_quiet;
}

none_taken : (words : List (List ℕ)) (files : List File) (c : LibraryCounts) (i : SourceChange) (o r : SinkChange) (outcome : Outcome) → IsUntouched i → Headline words files c [] (as_told i []) o r outcome → HeadlineOfTaken words files c i o r outcome
none_taken words files c i o r outcome h headline = record {
  octets = [];
  gives = sym h.left ∙ no_front i.left';
  number = (let same : i.taken' ≡ i.taken = h.taken in omega arith);
  headline = headline;
}

task_taken : (words : List (List ℕ)) (files : List File) (c : LibraryCounts) (i : SourceChange) (o r : SinkChange) (outcome : Outcome) (task : Task) → Does words (Some files) task → TaskRuns task i o r outcome → HeadlineOfTaken words files c i o r outcome
task_taken words files c i o r outcome (writes count text) d h =
    none_taken words files c i o r outcome h.untouched (text_headline words files c [] (as_told i []) o r outcome count text d (untouched_as_told i h.untouched) h.report h.ends)
task_taken words files c i o r outcome (each_block k) d h =
    let t = h.runs.over_taken in
    record { octets = t.octets; gives = t.took.gives; number = t.took.counted; headline = blocks_headline words files c t.octets (as_told i t.octets) o r outcome k h.end d h.is t.run }
task_taken words files c i o r outcome (builds catalogue) d h =
    let t = h.runs.over_taken in
    record { octets = t.octets; gives = t.took.gives; number = t.took.number; headline = lines_headline words files c t.octets (as_told i t.octets) o r outcome catalogue h.end d h.is h.report t.run }
task_taken words files c i o r outcome (salvages catalogue) d h =
    let t = h.runs.over_taken in
    record { octets = t.octets; gives = t.took.gives; number = t.took.counted; headline = salvage_headline words files c t.octets (as_told i t.octets) o r outcome catalogue h.end d h.is t.run }
task_taken words files c i o r outcome (refuses refusal) d h = absurd h

over_files : (words : List (List ℕ)) (files : List File) (c : LibraryCounts) (i : SourceChange) (o r : SinkChange) (outcome : Outcome) → Runs words (Some files) c i o r outcome → HeadlineOfTaken words files c i o r outcome
over_files words files c i o r outcome (at_words none is unasked idle) =
    none_taken words files c i o r outcome idle.untouched (answered [] [] (by_words none is refl refl) (idle.out ∙ sym (with_end-nil o.held)) (idle.report ∙ sym (with_end-nil r.held)))
over_files words files c i o r outcome (no_words is unasked idle) = none_taken words files c i o r outcome idle.untouched (stopped_at_words is (idle_as_told i o r idle))
over_files words files c i o r outcome (at_files stop h loads is idle) =
    none_taken words files c i o r outcome idle.untouched (files_headline words files c [] (as_told i []) o r outcome stop h is (idle_as_told i o r idle) (at_files_of h.what files c stop h.ends))
over_files words files c i o r outcome (before_input stop h loads is idle) =
    none_taken words files c i o r outcome idle.untouched (before_headline words files c [] (as_told i []) o r outcome stop h is (idle_as_told i o r idle))
over_files words files c i o r outcome (in_task task d loads h) = task_taken words files c i o r outcome task d h

pub taken_headline : (words : List (List ℕ)) (told : Option (List File)) (files : List File) (c : LibraryCounts) (i : SourceChange) (o r : SinkChange) (outcome : Outcome) → told ≡ Some files → Runs words told c i o r outcome → HeadlineOfTaken words files c i o r outcome
taken_headline words told files c i o r outcome is runs = over_files words files c i o r outcome (subst (λ t. Runs words t c i o r outcome) is runs)
