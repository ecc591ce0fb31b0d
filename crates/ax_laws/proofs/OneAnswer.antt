-- Words, files and an input have one answer.
use Rattle.std.proofs.Common.{◌≡◌, ℕ, inl, inr, List, Some, sym, ◌∙◌, ap, subst, arith}
use Rattle.ax_build_work.proofs.Once.{build_once}
use Rattle.ax_build_work.specs.BuildCommand.{build_command}
use Rattle.ax_command.specs.Outcomes.{outcome_of_stop, outcome_of_end, outcome_of_lines, outcome_of_refusal}
use Rattle.ax_command.specs.declared.outcome.Outcome.{Outcome}
use Rattle.ax_command.specs.declared.outcome.Refusal.{Refusal}
use Rattle.ax_lines.proofs.AnswersOnce as OfLines
use Rattle.ax_lines.specs.Commands as LineAnswers
use Rattle.ax_lines.specs.Ending as Lines
use Rattle.ax_lines.specs.Ending.{longest_line}
use Rattle.ax_load.specs.declared.fault.LoadStop.{LoadStop}
use Rattle.ax_load.specs.declared.fault.LoadStop.TheVariants as LoadStopOf
use Rattle.ax_endpoints.specs.Changes.{none_counted}
use Rattle.ax_endpoints.specs.Files.{File}
use Rattle.ax_endpoints.specs.Told.{Rose}
use Rattle.ax_salvage.proofs.OneSalvage.{salvaged_once}
use Rattle.ax_blocks.proofs.AnswersOnce.{answers_once}
use Rattle.ax_blocks.specs.Commands.{output_of, report_of}
use Rattle.ax_blocks.specs.Ending.{longest_input}
use Rattle.ax_words.proofs.Once.{once as shape_once}
use Rattle.ax_app.proofs.GivenOnce.{line_ends_for_memory, line_ends_once}
use Rattle.ax_app.proofs.Once.{does_once, IsGood, good_task}
use Rattle.ax_app.specs.Answer.{Answer, by_words, by_files, by_refusal, by_task}
use Rattle.ax_app.specs.Given.{LineGives, LineEnds}
use Rattle.ax_app.specs.Running.{Does, StopsAtFiles}
use Rattle.ax_app.specs.Salvages.{outcome_of_salvage}
use Rattle.ax_app.specs.Tasks.{Task, writes, each_block, builds, salvages, refuses, TaskAnswers}

none_rose : Rose 0 0 → ⊥
none_rose (inl r) = omega arith
none_rose (inr r) = omega arith

-- ---- tasks

abbrev Same : Outcome → Outcome → List ℕ → List ℕ → List ℕ → List ℕ → Type 0
Same outcome next written others reported more = (outcome ≡ next) × (written ≡ others) × (reported ≡ more)

same_task : (task : Task) (input : List ℕ) (outcome next : Outcome) (written others reported more : List ℕ) → IsGood task → TaskAnswers task input outcome written reported → TaskAnswers task input next others more → Same outcome next written others reported more
same_task (writes count text) input outcome next written others reported more good h k = (h.done ∙ sym k.done, h.written_is ∙ sym k.written_is, h.reported_is ∙ sym k.reported_is)
same_task (each_block c) input outcome next written others reported more good h k =
    let same : (h.end ≡ k.end) × (h.blocks ≡ k.blocks) = answers_once c longest_input input h.blocks k.blocks h.end k.end h.answers k.answers in
    (h.is ∙ ap outcome_of_end same.0 ∙ sym k.is, h.written_is ∙ ap (output_of c 0) same.1 ∙ sym k.written_is, h.reported_is ∙ ap (report_of c 0) same.1 ∙ sym k.reported_is)
same_task (builds catalogue) input outcome next written others reported more good h k =
    let same : (h.lines ≡ k.lines) × (h.answers ≡ k.answers) × (h.end ≡ k.end)
    = OfLines.answers_once (build_command catalogue) (build_once catalogue good) longest_line Lines.longest_input input h.lines k.lines h.answers k.answers h.end k.end h.ends k.ends in
    (h.is ∙ ap outcome_of_lines same.2 ∙ sym k.is, h.written_is ∙ ap LineAnswers.output_of same.1 ∙ sym k.written_is, h.reported_is ∙ sym k.reported_is)
same_task (salvages catalogue) input outcome next written others reported more good h k =
    let same : (h.end ≡ k.end) × (written ≡ others) × (reported ≡ more) = salvaged_once catalogue input longest_input h.end k.end written others reported more h.salvaged k.salvaged in
    (h.is ∙ ap outcome_of_salvage same.0 ∙ sym k.is, same.1, same.2)
same_task (refuses refusal) input outcome next written others reported more good h k = absurd h

refusal_once : (refusal next : Refusal) → refuses refusal ≡ refuses next → refusal ≡ next
refusal_once refusal next e = cc

refused_or_done : (words : List (List ℕ)) (files : List File) (input : List ℕ) (refusal : Refusal) (task : Task) (outcome : Outcome) (written reported : List ℕ) → Does words (Some files) (refuses refusal) → Does words (Some files) task → TaskAnswers task input outcome written reported → ⊥
refused_or_done words files input refusal task outcome written reported d k h = subst (λ j. TaskAnswers j input outcome written reported) (does_once words files task (refuses refusal) k d) h

same_refusal : (words : List (List ℕ)) (files : List File) (refusal next : Refusal) (outcome other : Outcome) (written others reported more : List ℕ) → Does words (Some files) (refuses refusal) → Does words (Some files) (refuses next)
    → outcome ≡ outcome_of_refusal refusal → other ≡ outcome_of_refusal next → written ≡ others → reported ≡ more → (outcome ≡ other) × (written ≡ others) × (reported ≡ more)
same_refusal words files refusal next outcome other written others reported more d k is to w r =
    let same : refusal ≡ next = refusal_once refusal next (does_once words files (refuses refusal) (refuses next) d k) in
    (is ∙ ap outcome_of_refusal same ∙ sym to, w, r)

-- ---- files

same_files : (words : List (List ℕ)) (files : List File) (stop next : LoadStop) (outcome other : Outcome) (written others reported more : List ℕ) → StopsAtFiles words (Some files) none_counted stop → StopsAtFiles words (Some files) none_counted next
    → (stop ≡ LoadStopOf.OutOfMemory → ⊥) → (next ≡ LoadStopOf.OutOfMemory → ⊥) → outcome ≡ outcome_of_stop stop → other ≡ outcome_of_stop next → written ≡ others → reported ≡ more → (outcome ≡ other) × (written ≡ others) × (reported ≡ more)
same_files words files stop next outcome other written others reported more h k never nor is to w r =
    let same = shape_once words h.what k.what h.shape k.shape in
    let ends : LineEnds h.what (Some files) none_counted next = subst (λ v. LineEnds v (Some files) none_counted next) (sym same) k.ends in
    (is ∙ ap outcome_of_stop (line_ends_once h.what files none_counted stop next none_rose never nor h.ends ends) ∙ sym to, w, r)

files_or_task : (words : List (List ℕ)) (files : List File) (stop : LoadStop) (task : Task) → StopsAtFiles words (Some files) none_counted stop → (stop ≡ LoadStopOf.OutOfMemory → ⊥) → Does words (Some files) task → ⊥
files_or_task words files stop task h never d =
    let same = shape_once words d.what h.what d.shape h.shape in
    never (line_ends_for_memory h.what files none_counted d.given stop none_rose (subst (λ v. LineGives v (Some files) d.given) same d.give) h.ends)

-- ---- all

pub one_answer : (words : List (List ℕ)) (files : List File) (input : List ℕ) (outcome other : Outcome) (written others reported more : List ℕ) → Answer words files input outcome written reported → Answer words files input other others more
    → (outcome ≡ other) × (written ≡ others) × (reported ≡ more)
one_answer words files input outcome other written others reported more (by_words never is w r) (by_words also to w' r') = (is ∙ sym to, w ∙ sym w', r ∙ sym r')
one_answer words files input outcome other written others reported more (by_words never is w r) (by_files stop h some to w' r') = absurd (never h.what h.shape)
one_answer words files input outcome other written others reported more (by_words never is w r) (by_refusal f d to w' r') = absurd (never d.what d.shape)
one_answer words files input outcome other written others reported more (by_words never is w r) (by_task task d h) = absurd (never d.what d.shape)
one_answer words files input outcome other written others reported more (by_files stop h some is w r) (by_words never to w' r') = absurd (never h.what h.shape)
one_answer words files input outcome other written others reported more (by_files stop h some is w r) (by_files next k nor to w' r') = same_files words files stop next outcome other written others reported more h k some nor is to (w ∙ sym w') (r ∙ sym r')
one_answer words files input outcome other written others reported more (by_files stop h some is w r) (by_refusal f k to w' r') = absurd (files_or_task words files stop (refuses f) h some k)
one_answer words files input outcome other written others reported more (by_refusal f d is w r) (by_words never to w' r') = absurd (never d.what d.shape)
one_answer words files input outcome other written others reported more (by_refusal f d is w r) (by_files stop k some to w' r') = absurd (files_or_task words files stop (refuses f) k some d)
one_answer words files input outcome other written others reported more (by_refusal f d is w r) (by_refusal g k to w' r') = same_refusal words files f g outcome other written others reported more d k is to (w ∙ sym w') (r ∙ sym r')
one_answer words files input outcome other written others reported more (by_refusal f d is w r) (by_task task k h) = absurd (refused_or_done words files input f task other others more d k h)
one_answer words files input outcome other written others reported more (by_files stop h some is w r) (by_task task d k) = absurd (files_or_task words files stop task h some d)
one_answer words files input outcome other written others reported more (by_task task d h) (by_words never to w' r') = absurd (never d.what d.shape)
one_answer words files input outcome other written others reported more (by_task task d h) (by_files stop k some to w' r') = absurd (files_or_task words files stop task k some d)
one_answer words files input outcome other written others reported more (by_task task d h) (by_refusal f k to w' r') = absurd (refused_or_done words files input f task outcome written reported k d h)
one_answer words files input outcome other written others reported more (by_task task d h) (by_task next d' k) =
    let same : next ≡ task = does_once words files next task d' d in
    same_task task input outcome other written others reported more (good_task words (Some files) task d) h (subst (λ j. TaskAnswers j input other others more) same k)
