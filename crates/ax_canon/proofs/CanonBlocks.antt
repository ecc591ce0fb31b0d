-- What `canon` over views does with one block.
use Rattle.std.proofs.Common.{◌≡◌, ℕ, ◌≤◌, ◌++◌, List, Option, Some, None, Result, Err, length, take, sym, ◌∙◌, ap, arith, length-take-le}
use Rattle.std.proofs.lemmas.List.{take-append-le, take-take}
use Rattle.ax_format.specs.Blocks.{read_block}
use Rattle.ax_format.specs.CanonicalOctets.{canon_block, framed}
use Rattle.ax_format.specs.Framing.{RawTree}
use Rattle.ax_format.specs.Specification.{SpecTree}
use Rattle.ax_format.specs.declared.fault.BodyFault.{BodyFault}
use Rattle.ax_endpoints.specs.Changes.{SinkChange}
use Rattle.ax_blocks.proofs.BlockSteps.{known_category, short_fault}
use Rattle.ax_blocks.proofs.MadeBlocks.{read_made, opaque_made, tree_taken, tree_fails}
use Rattle.ax_blocks.specs.BlockCommands.{canon_command}
use Rattle.ax_blocks.specs.BlockTaking.{Takes, WritesOctets}
use Rattle.ax_blocks.specs.declared.work.WorkStop.{WorkStop}
use Rattle.ax_blocks.specs.declared.work.WorkStop.TheVariants.{Fault}
use Rattle.ax_codec.specs.Standing.{StandForEach, codec_of}
use Rattle.ax_codec.specs.declared.codec.Codec.{Codec}
use Rattle.ax_walk.specs.Views.{SpellsSome, FailsThere}
use Rattle.ax_canon.proofs.CodecsOf.{stands_there, none_there}
use Rattle.ax_canon.specs.Laid.{LaysCanonical}

-- ---- a block

pub canon_within : (codecs : List Codec) (catalogue : List SpecTree) (raw : RawTree) (codec : Codec) (count : ℕ) (output : List ℕ) → StandForEach codecs catalogue → codec_of raw.category codecs ≡ Some codec → SpellsSome codec raw.body
    → LaysCanonical codec raw.body count output → count ≤ 65535
canon_within codecs catalogue raw codec count output h found spells l =
    let s = stands_there codecs catalogue raw.category codec h found in
    let r = spells.spells s.spec s.compiled.clean s.compiled.stands in
    (l.block s.spec r.0 s.compiled.clean s.compiled.stands r.1).within

module _ (codecs : List Codec) (catalogue : List SpecTree) (number : ℕ) (raw : RawTree) (held : Option (List ℕ)) (faults : ℕ) (h : StandForEach codecs catalogue) where
  pub canon_laid : (codec : Codec) (o : SinkChange) (count : ℕ) (output laid : List ℕ) (result : Result Unit WorkStop) → codec_of raw.category codecs ≡ Some codec → length raw.body ≤ 65532 → SpellsSome codec raw.body → LaysCanonical codec raw.body count output → laid ≡ take count output → WritesOctets o laid result
      → Takes (canon_command catalogue) number raw o (record { held = held; held' = held; faults = faults; faults' = faults }) result
  canon_laid codec o count output laid result found few spells l is w =
      let s = stands_there codecs catalogue raw.category codec h found in
      let r = spells.spells s.spec s.compiled.clean s.compiled.stands in
      let same : s.spec.category ≡ raw.category = known_category raw.category catalogue s.spec s.known in
      let block = (l.block s.spec r.0 s.compiled.clean s.compiled.stands r.1).laid in
      tree_taken _ _ catalogue number raw o held faults (take count output) laid result
      (read_made (λ number spec block. canon_block spec block) (λ number category content. framed category content) catalogue number raw s.spec (take count output) few s.known (record { records = r.0; spelled = r.1; is = block ∙ ap (λ n. canon_block s.spec (read_block n r.0)) same })) is w

  pub canon_fails : (codec : Codec) (f : BodyFault) (shown : Option (List ℕ)) (flaws : ℕ) → codec_of raw.category codecs ≡ Some codec → length raw.body ≤ 65532 → FailsThere codec raw.body f
      → Takes (canon_command catalogue) number raw (record { held = held; held' = held; faults = faults; faults' = faults }) (record { held = shown; held' = shown; faults = flaws; faults' = flaws }) (Err (Fault f))
  canon_fails codec f shown flaws found few fails =
      let s = stands_there codecs catalogue raw.category codec h found in
      let e = fails.fails s.spec s.compiled.clean s.compiled.stands in
      tree_fails _ _ catalogue number raw held shown faults flaws f (record { spec = s.spec; known = s.known; fails = e }) (short_fault s.spec raw.body f.bit f.cause few e)

  pub opaque_laid : (o : SinkChange) (count : ℕ) (output laid : List ℕ) (result : Result Unit WorkStop) → codec_of raw.category codecs ≡ None → length raw.body ≤ 65532 → 1 ≤ length raw.body → take count output ≡ framed raw.category raw.body → laid ≡ take count output → WritesOctets o laid result
      → Takes (canon_command catalogue) number raw o (record { held = held; held' = held; faults = faults; faults' = faults }) result
  opaque_laid o count output laid result none few some block is w =
      tree_taken _ _ catalogue number raw o held faults (take count output) laid result
      (opaque_made (λ number spec block. canon_block spec block) (λ number category content. framed category content) catalogue number raw (take count output) few some (none_there codecs catalogue raw.category h none) block) is w

pub ruleset canon_takes = (canon_laid, canon_within, canon_fails, opaque_laid)

-- ---- the front of the output, as it stands in the vector again

front_of : (n len : ℕ) (output after : List ℕ) → n ≤ length output → n ≤ len → take n (take len (output ++ after)) ≡ take n output
front_of n len output after a b = take-take n len (output ++ after) b ∙ take-append-le n output after a

pub in_place : (n len : ℕ) (output after : List ℕ) → n ≤ 65535 → length output ≡ 65535 → 65535 ≤ len → take n (take len (output ++ after)) ≡ take n output
in_place n len output after within room enough = front_of n len output after (omega arith) (omega arith)

pub front_length : (n : ℕ) (slice output : List ℕ) → take n slice ≡ take n output → n ≤ 65535 → length output ≡ 65535 → n ≡ length (take n slice)
front_length n slice output is within room = sym (ap length is ∙ length-take-le n output (omega arith))
