-- What is made of one block.
use Rattle.std.proofs.Common.{◌≡◌, ℕ, ◌<◌, ◌≤◌, List, [], Option, Some, None, Result, Err, length, sym, ◌∙◌, ap}
use Rattle.ax_format.specs.Blocks.{BlockTree, read_block, opaque_block}
use Rattle.ax_format.specs.CanonicalOctets.{framed}
use Rattle.ax_format.specs.Framing.{RawTree}
use Rattle.ax_format.specs.Specification.{SpecTree, spec_of}
use Rattle.ax_format.specs.declared.fault.BodyFault.{BodyFault}
use Rattle.ax_endpoints.specs.Changes.{SinkChange}
use Rattle.ax_blocks.proofs.BlockSteps.{short_fault}
use Rattle.ax_blocks.proofs.OpaqueBlocks.{raw_framed}
use Rattle.ax_blocks.proofs.Taken.{takes_silently, takes_fault, takes_nothing}
use Rattle.ax_blocks.specs.Commands.{gives}
use Rattle.ax_blocks.specs.Made.{IsMadeOf, IsMadeRead, NothingMade, NothingMadeRead, IsWithinBody, over, tree_command}
use Rattle.ax_blocks.specs.BlockTaking.{Takes, WritesOctets}
use Rattle.ax_blocks.specs.declared.making.BlockStop.{BlockStop}
use Rattle.ax_blocks.specs.declared.making.BlockStop.TheVariants as BlockStopOf
use Rattle.ax_blocks.specs.declared.work.WorkStop.{WorkStop}
use Rattle.ax_blocks.specs.declared.work.WorkStop.TheVariants.{Fault, OutOfMemory}

pub read_stop : (catalogue : List SpecTree) (raw : RawTree) (spec : SpecTree) (stop : BlockStop) → spec_of raw.category catalogue ≡ Some spec → NothingMadeRead spec raw stop → NothingMade catalogue raw stop
read_stop catalogue raw spec (BlockStopOf.Fault f) known h = record { spec = spec; known = known; fails = h }
read_stop catalogue raw spec BlockStopOf.OutOfMemory known h = tt

pub short_stop : (raw : RawTree) (spec : SpecTree) (stop : BlockStop) → length raw.body ≤ 65532 → NothingMadeRead spec raw stop → IsWithinBody stop
short_stop raw spec (BlockStopOf.Fault f) few h = short_fault spec raw.body f.bit f.cause few h
short_stop raw spec BlockStopOf.OutOfMemory few h = tt

module _ (of_read : ℕ → SpecTree → BlockTree → List ℕ) (of_opaque : ℕ → ℕ → List ℕ → List ℕ) (catalogue : List SpecTree) (number : ℕ) where
  pub read_made : (raw : RawTree) (spec : SpecTree) (octets : List ℕ) → length raw.body ≤ 65532 → spec_of raw.category catalogue ≡ Some spec → IsMadeRead (of_read number) spec raw octets → IsMadeOf of_read of_opaque catalogue number raw octets
  read_made raw spec octets few known h = record {
    block = read_block raw.category h.records;
    spells = record {
      octets = framed raw.category raw.body;
      framed = raw_framed raw.category raw.body few;
      spelled = record { spec = spec; known = known; body = raw.body; framed = raw_framed raw.category raw.body few; spelled = h.spelled };
    };
    is = h.is ∙ ap (λ o. over (of_read number) o (read_block raw.category h.records)) (sym known);
  }

  pub opaque_made : (raw : RawTree) (octets : List ℕ) → length raw.body ≤ 65532 → 0 < length raw.body → spec_of raw.category catalogue ≡ None → octets ≡ of_opaque number raw.category raw.body → IsMadeOf of_read of_opaque catalogue number raw octets
  opaque_made raw octets few some unknown is = record {
    block = opaque_block raw.category raw.body;
    spells = record {
      octets = framed raw.category raw.body;
      framed = raw_framed raw.category raw.body few;
      spelled = record { unknown = unknown; framed = raw_framed raw.category raw.body few; some = some };
    };
    is = is;
  }

  pub tree_taken : (raw : RawTree) (o : SinkChange) (held : Option (List ℕ)) (faults : ℕ) (octets laid : List ℕ) (result : Result Unit WorkStop) → IsMadeOf of_read of_opaque catalogue number raw octets → laid ≡ octets → WritesOctets o laid result
      → Takes (tree_command of_read of_opaque catalogue) number raw o (record { held = held; held' = held; faults = faults; faults' = faults }) result
  tree_taken raw o held faults octets laid result h is w =
      takes_silently (tree_command of_read of_opaque catalogue) number raw o held faults laid result (record { block = h.block; spells = h.spells; answer = ap (gives []) (sym (is ∙ h.is)) }) w

  pub tree_fails : (raw : RawTree) (held shown : Option (List ℕ)) (fails flaws : ℕ) (f : BodyFault) → NothingMade catalogue raw (BlockStopOf.Fault f) → IsWithinBody (BlockStopOf.Fault f)
      → Takes (tree_command of_read of_opaque catalogue) number raw (record { held = held; held' = held; faults = fails; faults' = fails }) (record { held = shown; held' = shown; faults = flaws; faults' = flaws }) (Err (Fault f))
  tree_fails raw held shown fails flaws f h short = takes_fault (tree_command of_read of_opaque catalogue) number raw held shown fails flaws f h short

  pub tree_memory : (raw : RawTree) (held shown : Option (List ℕ)) (fails flaws : ℕ)
      → Takes (tree_command of_read of_opaque catalogue) number raw (record { held = held; held' = held; faults = fails; faults' = fails }) (record { held = shown; held' = shown; faults = flaws; faults' = flaws }) (Err OutOfMemory)
  tree_memory raw held shown fails flaws = takes_nothing (tree_command of_read of_opaque catalogue) number raw held shown fails flaws

pub ruleset tree_takes = (tree_taken, tree_fails, tree_memory)
