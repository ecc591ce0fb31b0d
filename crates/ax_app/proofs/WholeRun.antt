-- All that is said of a run, from what it did before the lines of its outcome and from their write.
use Rattle.std.proofs.Common.{ℕ, List, Option, Result}
use Rattle.ax_command.specs.Lines.{lines_of}
use Rattle.ax_command.specs.declared.outcome.Outcome.{Outcome}
use Rattle.ax_endpoints.specs.Changes.{LibraryCounts, SourceChange, SinkChange, Wrote}
use Rattle.ax_endpoints.specs.Files.{File}
use Rattle.ax_endpoints.specs.declared.sinks.SinkFailed.{SinkFailed}
use Rattle.ax_app.proofs.Causing.{causes}
use Rattle.ax_app.proofs.Loads.{counted}
use Rattle.ax_app.proofs.OwnOutcomes.{of_its_command, later_on}
use Rattle.ax_app.proofs.Stages.{headline, usage_only, usage_there, causes_on, completes, reads_all, lines_after}
use Rattle.ax_app.proofs.TakenHeadline.{taken_headline}
use Rattle.ax_app.specs.Gateway.{Obeys, IsRun}

pub is_run : (words : List (List ℕ)) (files : Option (List File)) (k : LibraryCounts) (i : SourceChange) (o : SinkChange) (held between held' : Option (List ℕ)) (faults middle faults' : ℕ) (outcome : Outcome) (result : Result Unit SinkFailed)
    → Obeys words (record { files = files; library = k; io = record { source = i; out = o; report = record { held = held; held' = between; faults = faults; faults' = middle } } }) outcome
    → Wrote (record { held = between; held' = held'; faults = middle; faults' = faults' }) result (lines_of outcome)
    → IsRun words (record { files = files; library = k; io = record { source = i; out = o; report = record { held = held; held' = held'; faults = faults; faults' = faults' } } }) outcome
is_run words files k i o held between held' faults middle faults' outcome result obeys wrote = record {
  split = record {
    between = between;
    counted = middle;
    from_start = obeys.later.report;
    to_end = wrote.later;
    lines_after = lines_after (record { held = between; held' = held'; faults = middle; faults' = faults' }) result (lines_of outcome) wrote;
    once = wrote.once;
  };
  headline = λ told input octets is left. headline _ _ told _ input _ _ _ _ is octets left obeys.runs;
  headline_of_taken = λ told is. taken_headline _ _ told _ _ _ _ _ is obeys.runs;
  runs = obeys.runs;
  counts = counted _ _ _ _ _ _ _ obeys.runs;
  usage = usage_only _ _ _ _ _ _ _ obeys.runs;
  no_shape = usage_there _ _ _ _ _ _ _ obeys.runs;
  causes = causes_on _ _ _ _ _ _ _ _ _ obeys.later.report wrote.later (causes _ _ _ _ _ _ _ obeys.runs);
  of_its_command = of_its_command _ _ _ _ _ _ _ obeys.runs;
  memory = obeys.first;
  later = later_on _ _ _ _ _ _ _ _ _ wrote.later obeys.later;
  reads_all = λ told input task blocks octets is left d reads done. reads_all _ _ told _ input _ _ _ _ task blocks is octets left d reads done obeys.runs;
  completes = λ told input task count written reported octets is left quiet d can.
      completes _ _ told _ input _ _ _ _ _ _ _ _ _ _ task count written reported obeys.later.report wrote.later wrote obeys.runs octets is left quiet d can;
}
