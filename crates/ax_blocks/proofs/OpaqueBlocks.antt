-- The frame of an opaque block.
use Rattle.std.proofs.Common.{◌≤◌, ℕ, List, length, arith}
use Rattle.ax_format.proofs.CanonFramed.{framed_is, length-framed}
use Rattle.ax_format.specs.Blocks.{IsFramed}
use Rattle.ax_format.specs.CanonicalOctets.{framed}

pub raw_framed : (category : ℕ) (body : List ℕ) → length body ≤ 65532 → IsFramed category body (framed category body)
raw_framed category body few = framed_is category body (omega (arith, length-framed category body))
