-- What the made-up command does with one block.
use Rattle.std.proofs.Common.{◌≡◌, ℕ, ◌<◌, ◌≤◌, ◌==◌, Bool, true, false, List, [], Option, Result, Ok, Err, if◌then◌else◌, length, refl, sym, ◌∙◌, ap, arith}
use Rattle.std.proofs.lemmas.Bool.{eqb-true}
use Rattle.ax_format.specs.Blocks.{opaque_block}
use Rattle.ax_format.specs.CanonicalOctets.{framed}
use Rattle.ax_format.specs.Ends.{RawSpells}
use Rattle.ax_format.specs.Framing.{RawTree}
use Rattle.ax_endpoints.specs.Changes.{SinkChange, Wrote}
use Rattle.ax_endpoints.specs.declared.sinks.SinkFailed.{SinkFailed}
use Rattle.ax_run_tests.specs.Categories.{answer_to, category_command, category_line}
use Rattle.ax_blocks.proofs.OpaqueBlocks.{raw_framed}
use Rattle.ax_blocks.specs.Commands.{BlockAnswer, gives, too_long}
use Rattle.ax_blocks.proofs.Taken.{takes_after_lines, takes_cut_line, takes_too_long}
use Rattle.ax_blocks.specs.BlockTaking.{GivesFor, Takes, WritesOctets}
use Rattle.ax_blocks.specs.declared.work.WorkStop.{WorkStop}
use Rattle.ax_blocks.specs.declared.work.WorkStop.TheVariants.{TooLong, ReportFault}

opaque_spells : (raw : RawTree) → length raw.body ≤ 65532 → 1 ≤ length raw.body → RawSpells [] raw (opaque_block raw.category raw.body)
opaque_spells raw few some = record {
  octets = framed raw.category raw.body;
  framed = raw_framed raw.category raw.body few;
  spelled = record { unknown = refl; framed = raw_framed raw.category raw.body few; some = omega arith };
}

by_test : (b : Bool) (category : ℕ) (long short : BlockAnswer) → (b ≡ true → category ≡ 255) → (category ≡ 255 → ⊥) → (if b then long else short) ≡ short
by_test true category long short is other = absurd (other (is refl))
by_test false category long short is other = refl

answers : (mark : List ℕ) (category : ℕ) → (category ≡ 255 → ⊥) → answer_to mark category ≡ gives (category_line category) mark
answers mark category other = by_test (category == 255) category (too_long 70000) (gives (category_line category) mark) (eqb-true category 255) other

category_gives : (mark : List ℕ) (raw : RawTree) (number : ℕ) → length raw.body ≤ 65532 → 1 ≤ length raw.body → (raw.category ≡ 255 → ⊥) → GivesFor (category_command mark) number raw (category_line raw.category) mark
category_gives mark raw number few some other = record { block = opaque_block raw.category raw.body; spells = opaque_spells raw few some; answer = answers mark raw.category other }

pub category_written : (mark : List ℕ) (raw : RawTree) (number : ℕ) (o r : SinkChange) (u : Unit) (result : Result Unit WorkStop) → length raw.body ≤ 65532 → 1 ≤ length raw.body → (raw.category ≡ 255 → ⊥) → Wrote r (Ok u) (category_line raw.category)
    → WritesOctets o mark result → Takes (category_command mark) number raw o r result
category_written mark raw number o r u result few some other s w = takes_after_lines (category_command mark) number raw o r (category_line raw.category) mark u result (category_gives mark raw number few some other) s w

pub category_cut : (mark : List ℕ) (raw : RawTree) (number : ℕ) (r : SinkChange) (held : Option (List ℕ)) (faults : ℕ) (e : SinkFailed) → length raw.body ≤ 65532 → 1 ≤ length raw.body → (raw.category ≡ 255 → ⊥) → Wrote r (Err e) (category_line raw.category)
    → Takes (category_command mark) number raw (record { held = held; held' = held; faults = faults; faults' = faults }) r (Err ReportFault)
category_cut mark raw number r held faults e few some other s = takes_cut_line (category_command mark) number raw r held faults (category_line raw.category) mark e (category_gives mark raw number few some other) s

pub category_too_long : (mark : List ℕ) (raw : RawTree) (number : ℕ) (held shown : Option (List ℕ)) (fails flaws : ℕ) → length raw.body ≤ 65532 → 1 ≤ length raw.body → raw.category ≡ 255
    → Takes (category_command mark) number raw (record { held = held; held' = held; faults = fails; faults' = fails }) (record { held = shown; held' = shown; faults = flaws; faults' = flaws }) (Err (TooLong 70000))
category_too_long mark raw number held shown fails flaws few some is =
    takes_too_long (category_command mark) number raw held shown fails flaws (opaque_block raw.category raw.body) 70000 (opaque_spells raw few some) (ap (answer_to mark) is)

pub ruleset category_takes = (category_written, category_cut, category_too_long)
