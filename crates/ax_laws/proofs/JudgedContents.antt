-- What is read of a content is what it is.
use Rattle.std.proofs.Common.{◌≡◌, ℕ, List, [], ◌∷◌, refl, arith}
use Rattle.ax_bits.proofs.Words.{bits-AreBits}
use Rattle.ax_bits.specs.Bits.{bits}
use Rattle.ax_expand.proofs.Contents.{spelled_of, trailing_of, inside_of}
use Rattle.ax_expand.proofs.ExpansionBounds.{tree_sound}
use Rattle.ax_expand.specs.Expansion.{ExpansionTree, NoExpansionFlaw}
use Rattle.ax_expand.specs.Reading.{content_read}
use Rattle.ax_expand_work.specs.Judging.{IsJudged, judge, judged_read}
use Rattle.ax_format.specs.Reader.{Read, got, failed}
use Rattle.ax_format.specs.Tree.{ValueTree}

of_read : (x : ExpansionTree) (content : List ℕ) (found : Read ValueTree) → NoExpansionFlaw x → content_read x.form x.slots (bits content) ≡ found → IsJudged x content (judged_read found)
of_read x content (got v n []) h e = spelled_of x.form x.slots (bits content) v n (tree_sound x h) (bits-AreBits content) e
of_read x content (got v n (b ∷ rest)) h e = trailing_of x.form x.slots (bits content) v n (b ∷ rest) (tree_sound x h) (bits-AreBits content) (omega arith) e
of_read x content (failed p c) h e = inside_of x.form x.slots (bits content) p c (tree_sound x h) (bits-AreBits content) e

pub judged : (x : ExpansionTree) (content : List ℕ) → NoExpansionFlaw x → IsJudged x content (judge x content)
judged x content h = of_read x content (content_read x.form x.slots (bits content)) h refl
