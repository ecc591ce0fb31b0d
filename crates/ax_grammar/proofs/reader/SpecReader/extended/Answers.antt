use Rattle.ax_grammar.proofs.Recursive.{part_shrinks}
use Rattle.ax_grammar.proofs.reader.SpecReader.extended.Goals as goal

pub braced-requires : goal.braced-requires
braced-requires c = part_shrinks
