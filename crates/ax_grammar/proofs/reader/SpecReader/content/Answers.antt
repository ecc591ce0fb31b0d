use Rattle.ax_grammar.proofs.Recursive.{entry_shrinks}
use Rattle.ax_grammar.proofs.reader.SpecReader.content.Goals as goal

pub braced-requires : goal.braced-requires
braced-requires c = entry_shrinks
