-- What a content of RE is found to be, as a function: the value that its octets spell, or its first fault.
use Rattle.std.specs.Prelude.{ℕ, List, [], ◌∷◌}
use Rattle.ax_bits.specs.Bits.{bits}
use Rattle.ax_expand.specs.Content.{SpellsContent, FailsContent, content_cause}
use Rattle.ax_expand.specs.Expansion.{ExpansionTree}
use Rattle.ax_expand.specs.Reading.{content_read}
use Rattle.ax_expand.specs.declared.fault.ContentCause.{ContentCause}
use Rattle.ax_expand.specs.declared.fault.ContentCause.TheVariants.{TrailingOctets}
use Rattle.ax_format.specs.Reader.{Read, got, failed}
use Rattle.ax_format.specs.Tree.{ValueTree}

-- it spells this value, or it has this fault at this bit
pub data Judged : Type 0 where
  spelled : ValueTree → Judged
  faulty : ℕ → ContentCause → Judged

abbrev pub IsJudged : ExpansionTree → List ℕ → Judged → Type 0
IsJudged x content (spelled v) = SpellsContent x.form x.slots v (bits content)
IsJudged x content (faulty p c) = FailsContent x.form x.slots (bits content) p c

-- ---- as a function

abbrev pub judged_read : Read ValueTree → Judged
judged_read (got v n []) = spelled v
judged_read (got v n (b ∷ rest)) = faulty n TrailingOctets
judged_read (failed p c) = faulty p (content_cause c)

abbrev pub judge : ExpansionTree → List ℕ → Judged
judge x content = judged_read (content_read x.form x.slots (bits content))
