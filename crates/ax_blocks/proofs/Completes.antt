-- Where nothing stands in the way, a run over an input that spells blocks is done with all of them, or memory is wanting.
use Rattle.std.proofs.Common.{◌≡◌, ℕ, ◌+◌, ◌≤◌, ◌⊎◌, inl, inr, List, ◌++◌, Some, length, ◌∙◌, ap, subst, arith}
use Rattle.ax_bits.specs.Bits.{AreOctets}
use Rattle.ax_format.proofs.EndsOnce.{ends_once}
use Rattle.ax_format.proofs.InputSteps.{ends_well}
use Rattle.ax_format.specs.Blocks.{BlockTree, SpellsStream}
use Rattle.ax_format.specs.Ends.{Ends, by_framing}
use Rattle.ax_format.specs.Framing.{whole}
use Rattle.ax_endpoints.specs.Changes.{SourceChange, SinkChange, Gains}
use Rattle.ax_endpoints.specs.Told.{Rose, with_end}
use Rattle.ax_blocks.proofs.Prefixes.{prefix_given}
use Rattle.ax_blocks.specs.Commands.{BlockCommand, IsGiven, AreGiven, output_of, report_of}
use Rattle.ax_blocks.specs.Ending.{stream_end}
use Rattle.ax_blocks.specs.Streams.{StreamAnswers, reading, writing, reporting, for_memory, ToldRun, StreamRuns, IsCaused}
use Rattle.ax_blocks.specs.declared.end.StreamEnd.{StreamEnd}
use Rattle.ax_blocks.specs.declared.end.StreamEnd.TheVariants as EndOf

-- done with these blocks and their results
pub record IsDoneWithBlocks (c : BlockCommand) (blocks : List BlockTree) (o r : SinkChange) (end : StreamEnd) : Type 0 where
  pub done : end ≡ EndOf.Done (length blocks)
  pub out : Gains o (output_of c 0 blocks)
  pub report : Gains r (report_of c 0 blocks)

module _ (c : BlockCommand) (limit : ℕ) (input : List ℕ) (blocks : List BlockTree) (spelled : SpellsStream c.catalogue blocks input) (within : length input ≤ limit) (given : AreGiven c 0 blocks) where
  none_before : (n : ℕ) → 0 + n ≡ n
  none_before n = omega arith

  -- the input has these blocks and no others
  pub answered_once : (others : List BlockTree) (end : StreamEnd) → StreamAnswers c limit input others end → (end ≡ EndOf.Done (length blocks)) × (others ≡ blocks)
  answered_once others end (inl e) =
      let w : Ends c.catalogue input limit blocks (by_framing whole) = (ends_well c.catalogue input limit blocks).1 (spelled, within) in
      let same : (others ≡ blocks) × (e.end ≡ by_framing whole) = ends_once c.catalogue input limit others blocks e.end (by_framing whole) e.ends w in
      (e.is ∙ ap (λ b. stream_end (length b) e.end) same.0 ∙ ap (λ x. stream_end (length blocks) x) same.1, same.0)
  answered_once others end (inr e) =
      let split : input ≡ e.octets ++ (e.front ++ e.after) = e.begins.split ∙ ap (λ x. e.octets ++ x) e.next.split in
      let some : IsGiven (c.answer (0 + length others) e.block) = prefix_given c 0 others blocks e.block e.octets e.front e.after input split e.begins.spelled e.next.spelled spelled given in
      absurd (subst IsGiven e.answer (subst (λ n. IsGiven (c.answer n e.block)) (none_before (length others)) some))

  module _ (i : SourceChange) (o r : SinkChange) (end : StreamEnd) (caused : IsCaused limit i o r end) (source : Rose i.faults i.faults' → ⊥) (out : Rose o.faults o.faults' → ⊥) (report : Rose r.faults r.faults' → ⊥) where
    told_completes : ToldRun c limit input i.left' o r end → (end ≡ EndOf.OutOfMemory) ⊎ IsDoneWithBlocks c blocks o r end
    told_completes (inl a) =
        let same = answered_once a.blocks end a.answers in
        inr (record { done = same.0; out = a.out ∙ ap (λ b. with_end o.held (output_of c 0 b)) same.1; report = a.report ∙ ap (λ b. with_end r.held (report_of c 0 b)) same.1 })
    told_completes (inr (reading is s)) = absurd (source (subst (IsCaused limit i o r) is caused))
    told_completes (inr (writing is s)) = absurd (out (subst (IsCaused limit i o r) is caused))
    told_completes (inr (reporting is s)) = absurd (report (subst (IsCaused limit i o r) is caused))
    told_completes (inr (for_memory is s)) = inl is

pub stream_completes : (c : BlockCommand) (limit : ℕ) (input : List ℕ) (blocks : List BlockTree) (i : SourceChange) (o r : SinkChange) (end : StreamEnd) → SpellsStream c.catalogue blocks input → length input ≤ limit → AreGiven c 0 blocks
    → AreOctets input → i.left ≡ Some input → (Rose i.faults i.faults' → ⊥) → (Rose o.faults o.faults' → ⊥) → (Rose r.faults r.faults' → ⊥) → StreamRuns c limit i o r end
    → (end ≡ EndOf.OutOfMemory) ⊎ IsDoneWithBlocks c blocks o r end
stream_completes c limit input blocks i o r end spelled within given octets left source out report run =
    told_completes c limit input blocks spelled within given i o r end run.caused source out report (run.told input octets left)
