-- What `salvage` is done with, where the frames of the input are whole and no count of faults rose.
use Rattle.std.proofs.Common.{◌≡◌, ℕ, ◌⊎◌, inl, inr, suc, List, [], ◌∷◌, ◌++◌, Some, length, refl, sym, ◌∙◌, ap, subst}
use Rattle.std.specs.List.{AllByRecursion}
use Rattle.ax_bits.specs.Bits.{AreOctets}
use Rattle.ax_command.specs.declared.outcome.Outcome.{Outcome}
use Rattle.ax_format.proofs.StreamsApart.{found_in}
use Rattle.ax_format.specs.Flaws.{NoFlaw}
use Rattle.ax_format.specs.Framing.{RawTree, Framed, whole}
use Rattle.ax_format.specs.Specification.{SpecTree}
use Rattle.ax_endpoints.specs.Changes.{SourceChange, SinkChange}
use Rattle.ax_endpoints.specs.Told.{Rose, with_end}
use Rattle.ax_salvage.proofs.Blocks.{all_judged, raws_of_judged}
use Rattle.ax_salvage.proofs.OneSalvage.{salvaged_once}
use Rattle.ax_salvage.specs.Runs.{IsCaused, SalvageAnswers, SalvageRuns, SalvageStops, reading, writing, reporting, tallying}
use Rattle.ax_salvage.specs.Salvaged.{Salvaged, all_saved, refused_lines}
use Rattle.ax_salvage.specs.Tallying.{tally_lines}
use Rattle.ax_salvage.specs.Verdicts.{judge_all}
use Rattle.ax_salvage.specs.declared.salvaging.SalvageEnd.{SalvageEnd}
use Rattle.ax_salvage.specs.declared.salvaging.SalvageEnd.TheVariants as EndOf
use Rattle.ax_blocks.specs.Ending.{longest_input}
use Rattle.ax_text_form.specs.Names.{IsNamed}
use Rattle.ax_app.specs.Completing.{WholeFrames, IsDoneWith}
use Rattle.ax_app.specs.Salvages.{outcome_of_salvage}

clean : (catalogue : List SpecTree) → AllByRecursion (λ spec. NoFlaw spec × IsNamed spec) catalogue → AllByRecursion NoFlaw catalogue
clean [] good = tt
clean (spec ∷ catalogue) good = (good.0.0, clean catalogue good.1)

many : (catalogue : List SpecTree) (raws : List RawTree) → length (judge_all catalogue raws) ≡ length raws
many catalogue [] = refl
many catalogue (raw ∷ raws) = ap suc (many catalogue raws)

-- whole frames have one salvage, whatever the bodies
salvaged_whole : (catalogue : List SpecTree) (input : List ℕ) (raws : List RawTree) → AllByRecursion NoFlaw catalogue → Framed input longest_input raws whole
    → Salvaged catalogue input longest_input (EndOf.Done (length raws)) (all_saved (judge_all catalogue raws)) (refused_lines 0 (judge_all catalogue raws) ++ tally_lines (judge_all catalogue raws))
salvaged_whole catalogue input raws good framed = record {
  blocks = judge_all catalogue raws;
  framing = whole;
  framed = subst (λ rs. Framed input longest_input rs whole) (sym (raws_of_judged catalogue raws)) framed;
  judged = all_judged catalogue (λ category spec known. (found_in category catalogue spec good known).0) raws framed.front framed.blocks;
  out_is = refl;
  report_is = refl;
  end_is = ap EndOf.Done (sym (many catalogue raws));
}

never_stops : (catalogue : List SpecTree) (input : List ℕ) (i : SourceChange) (o r : SinkChange) (end : SalvageEnd) → (Rose i.faults i.faults' → ⊥) → (Rose o.faults o.faults' → ⊥) → (Rose r.faults r.faults' → ⊥)
    → IsCaused longest_input i o r end → SalvageStops catalogue longest_input input i.left' o r end → ⊥
never_stops catalogue input i o r end source out report caused (reading e s) = source (subst (IsCaused longest_input i o r) e caused)
never_stops catalogue input i o r end source out report caused (writing e s) = out (subst (IsCaused longest_input i o r) e caused)
never_stops catalogue input i o r end source out report caused (reporting e s) = report (subst (IsCaused longest_input i o r) e caused)
never_stops catalogue input i o r end source out report caused (tallying e s) = report (subst (IsCaused longest_input i o r) e caused)

pub salvage_completes : (catalogue : List SpecTree) (input : List ℕ) (i : SourceChange) (o r : SinkChange) (end : SalvageEnd) (outcome : Outcome) (count : ℕ) (written reported : List ℕ) → AllByRecursion (λ spec. NoFlaw spec × IsNamed spec) catalogue
    → AreOctets input → i.left ≡ Some input → (Rose i.faults i.faults' → ⊥) → (Rose o.faults o.faults' → ⊥) → (Rose r.faults r.faults' → ⊥) → SalvageRuns catalogue longest_input i o r end → outcome ≡ outcome_of_salvage end
    → WholeFrames catalogue input count written reported → IsDoneWith outcome count o r written reported
salvage_completes catalogue input i o r end outcome count written reported good octets left source out report runs is can =
    by (runs.told input octets left)
  where
    by : SalvageAnswers catalogue longest_input input i.left' o r end ⊎ SalvageStops catalogue longest_input input i.left' o r end → IsDoneWith outcome count o r written reported
    by (inl a) =
        let whole_is = salvaged_whole catalogue input can.raws (clean catalogue good) can.framed in
        let same = salvaged_once catalogue input longest_input end (EndOf.Done (length can.raws)) a.out _ a.report _ a.salvaged whole_is in
        inr (is ∙ ap outcome_of_salvage (same.0 ∙ ap EndOf.Done (sym can.count_is)), a.wrote ∙ ap (with_end o.held) (same.1 ∙ sym can.written_is), a.reported ∙ ap (with_end r.held) (same.2 ∙ sym can.reported_is))
    by (inr stops) = absurd (never_stops catalogue input i o r end source out report runs.caused stops)

-- Done has read all
pub salvage_reads : (catalogue : List SpecTree) (input : List ℕ) (i : SourceChange) (o r : SinkChange) (end : SalvageEnd) (count : ℕ) → end ≡ EndOf.Done count
    → SalvageAnswers catalogue longest_input input i.left' o r end ⊎ SalvageStops catalogue longest_input input i.left' o r end → i.left' ≡ Some []
salvage_reads catalogue input i o r end count is (inl a) = a.read count is
salvage_reads catalogue input i o r end count is (inr (reading e s)) = absurd (let x : EndOf.Done count ≡ EndOf.ReadFault = sym is ∙ e in cc)
salvage_reads catalogue input i o r end count is (inr (writing e s)) = absurd (let x : EndOf.Done count ≡ EndOf.WriteFault = sym is ∙ e in cc)
salvage_reads catalogue input i o r end count is (inr (reporting e s)) = absurd (let x : EndOf.Done count ≡ EndOf.ReportFault = sym is ∙ e in cc)
salvage_reads catalogue input i o r end count is (inr (tallying e s)) = absurd (let x : EndOf.Done count ≡ EndOf.ReportFault = sym is ∙ e in cc)
