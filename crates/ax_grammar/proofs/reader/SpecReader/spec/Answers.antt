use Rattle.ax_grammar.proofs.Recursive.{item_shrinks, uap_slot_shrinks}
use Rattle.ax_grammar.proofs.reader.SpecReader.spec.Goals as goal

pub braced-requires : goal.braced-requires
braced-requires c = item_shrinks

pub braced-requires-2 : goal.braced-requires-2
braced-requires-2 c = uap_slot_shrinks
