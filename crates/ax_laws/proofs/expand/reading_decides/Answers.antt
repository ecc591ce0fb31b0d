use Rattle.ax_bits.proofs.Words.{bits-AreBits}
use Rattle.ax_bits.specs.Bits.{bits}
use Rattle.ax_expand.proofs.Contents.{spelled_of, trailing_of, inside_of}
use Rattle.ax_expand.proofs.ExpansionBounds.{tree_sound}
use Rattle.ax_laws.proofs.expand.reading_decides.Goals as goal

pub returns-clause-spelled : goal.returns-clause-spelled
returns-clause-spelled c = λ x octets v n h e. spelled_of x.form x.slots (bits octets) v n (tree_sound x h) (bits-AreBits octets) e

pub returns-clause-trails : goal.returns-clause-trails
returns-clause-trails c = λ x octets v n rest h some e. trailing_of x.form x.slots (bits octets) v n rest (tree_sound x h) (bits-AreBits octets) some e

pub returns-clause-fails : goal.returns-clause-fails
returns-clause-fails c = λ x octets p cause h e. inside_of x.form x.slots (bits octets) p cause (tree_sound x h) (bits-AreBits octets) e
