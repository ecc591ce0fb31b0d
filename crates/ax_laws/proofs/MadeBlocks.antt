-- Made blocks at the limit.
use Rattle.std.proofs.Common.{◌≡◌, ℕ, ◌+◌, Bool, List, [], ◌∷◌, length, ap, arith}
use Rattle.std.proofs.lemmas.Bool.{lt-ltb, le-ltb}
use Rattle.std.specs.Prelude.{if◌then◌else◌}
use Rattle.ax_format.specs.CanonicalOctets.{framed}
use Rattle.ax_vectors.specs.Made.{block_of}

pub whole : (category : ℕ) (body : List ℕ) → length body ≡ 65532 → block_of category body ≡ framed category body
whole category body e = ap (λ b. if b then framed category (0 ∷ []) else framed category body) (le-ltb 65535 (3 + length body) (omega (arith, e)))

pub replaced : (category : ℕ) (body : List ℕ) → length body ≡ 65533 → block_of category body ≡ framed category (0 ∷ [])
replaced category body e = ap (λ b. if b then framed category (0 ∷ []) else framed category body) (lt-ltb 65535 (3 + length body) (omega (arith, e)))
