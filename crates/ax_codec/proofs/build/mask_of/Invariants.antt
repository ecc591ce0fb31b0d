use Rattle.std.proofs.Common.{◌≡◌, List}
use Rattle.ax_codec.specs.Meaning.{Meaning, linked_slots}
use Rattle.ax_fspec.proofs.Marking.{MaskSoFar}
use Rattle.ax_codec.proofs.build.mask_of.Given as goal

abbrev pub invariant-loop-link : goal.invariant-loop-link
invariant-loop-link l = record {
  number : l.number ≡ l.link-index;
  mask : (ms : List Meaning) → MaskSoFar (linked_slots ms l.links) l.link-index l.defined;
}
