-- What `filter` over views does with one block.
use Rattle.std.proofs.Common.{◌≡◌, ℕ, ◌≤◌, List, [], Option, Some, None, Result, Ok, Err, length, take, refl, ◌∙◌, ap}
use Rattle.ax_filter.specs.Matching.{filtered}
use Rattle.ax_expressions.specs.Tree.{ExprTree}
use Rattle.ax_filter_work.specs.FilterCommand.{filter_command}
use Rattle.ax_filter_work.specs.Laid.{LaysMatching}
use Rattle.ax_format.specs.Blocks.{read_block}
use Rattle.ax_format.specs.Framing.{RawTree}
use Rattle.ax_format.specs.Specification.{SpecTree}
use Rattle.ax_format.specs.declared.fault.BodyFault.{BodyFault}
use Rattle.ax_endpoints.specs.Changes.{SinkChange}
use Rattle.ax_blocks.proofs.BlockSteps.{known_category, short_fault}
use Rattle.ax_blocks.proofs.MadeBlocks.{read_made, opaque_made, tree_taken, tree_fails}
use Rattle.ax_blocks.proofs.Taken.{nothing_written}
use Rattle.ax_blocks.specs.BlockTaking.{Takes, WritesOctets}
use Rattle.ax_blocks.specs.declared.work.WorkStop.{WorkStop}
use Rattle.ax_blocks.specs.declared.work.WorkStop.TheVariants.{Fault}
use Rattle.ax_codec.specs.Standing.{StandForEach, codec_of}
use Rattle.ax_codec.specs.declared.codec.Codec.{Codec}
use Rattle.ax_walk.specs.Views.{SpellsSome, FailsThere}
use Rattle.ax_canon.proofs.CodecsOf.{stands_there, none_there}

pub matching_within : (e : ExprTree) (codecs : List Codec) (catalogue : List SpecTree) (raw : RawTree) (codec : Codec) (count : ℕ) (output : List ℕ) → StandForEach codecs catalogue → codec_of raw.category codecs ≡ Some codec → SpellsSome codec raw.body
    → LaysMatching catalogue e codec raw.body count output → count ≤ 65535
matching_within e codecs catalogue raw codec count output h found spells l =
    let s = stands_there codecs catalogue raw.category codec h found in
    let r = spells.spells s.spec s.compiled.clean s.compiled.stands in
    (l.block s.spec r.0 s.compiled.clean s.compiled.stands r.1).within

module _ (e : ExprTree) (codecs : List Codec) (catalogue : List SpecTree) (number : ℕ) (raw : RawTree) (held : Option (List ℕ)) (faults : ℕ) (h : StandForEach codecs catalogue) where
  pub matching_taken : (codec : Codec) (o : SinkChange) (count : ℕ) (output laid : List ℕ) (result : Result Unit WorkStop) → codec_of raw.category codecs ≡ Some codec → length raw.body ≤ 65532 → SpellsSome codec raw.body → LaysMatching catalogue e codec raw.body count output → laid ≡ take count output
      → WritesOctets o laid result → Takes (filter_command e catalogue) number raw o (record { held = held; held' = held; faults = faults; faults' = faults }) result
  matching_taken codec o count output laid result found few spells l is w =
      let s = stands_there codecs catalogue raw.category codec h found in
      let r = spells.spells s.spec s.compiled.clean s.compiled.stands in
      let same : s.spec.category ≡ raw.category = known_category raw.category catalogue s.spec s.known in
      let block = (l.block s.spec r.0 s.compiled.clean s.compiled.stands r.1).laid in
      tree_taken _ _ catalogue number raw o held faults (take count output) laid result
      (read_made (λ number spec block. filtered catalogue e spec block) (λ number category content. []) catalogue number raw s.spec (take count output) few s.known (record { records = r.0; spelled = r.1; is = block ∙ ap (λ n. filtered catalogue e s.spec (read_block n r.0)) same })) is w

  pub matching_fails : (codec : Codec) (fault : BodyFault) (shown : Option (List ℕ)) (flaws : ℕ) → codec_of raw.category codecs ≡ Some codec → length raw.body ≤ 65532 → FailsThere codec raw.body fault
      → Takes (filter_command e catalogue) number raw (record { held = held; held' = held; faults = faults; faults' = faults }) (record { held = shown; held' = shown; faults = flaws; faults' = flaws }) (Err (Fault fault))
  matching_fails codec fault shown flaws found few f =
      let s = stands_there codecs catalogue raw.category codec h found in
      let fails = f.fails s.spec s.compiled.clean s.compiled.stands in
      tree_fails _ _ catalogue number raw held shown faults flaws fault (record { spec = s.spec; known = s.known; fails = fails }) (short_fault s.spec raw.body fault.bit fault.cause few fails)

  pub opaque_dropped : (u : Unit) (shown : Option (List ℕ)) (flaws : ℕ) → codec_of raw.category codecs ≡ None → length raw.body ≤ 65532 → 1 ≤ length raw.body
      → Takes (filter_command e catalogue) number raw (record { held = held; held' = held; faults = faults; faults' = faults }) (record { held = shown; held' = shown; faults = flaws; faults' = flaws }) (Ok u)
  opaque_dropped u shown flaws none few some =
      tree_taken _ _ catalogue number raw (record { held = held; held' = held; faults = faults; faults' = faults }) shown flaws [] [] (Ok u)
      (opaque_made (λ number spec block. filtered catalogue e spec block) (λ number category content. []) catalogue number raw [] few some (none_there codecs catalogue raw.category h none) refl) refl (nothing_written held faults u)
