use Rattle.std.proofs.Common.{◌+◌, drop, map, arith}
use Rattle.std.proofs.lemmas.List.Concat.{flat_map-cons}
use Rattle.ax_format.specs.Plain.{item_tree}
use Rattle.ax_grammar.specs.Spelling.{item_texts}
use Rattle.ax_grammar.proofs.Printed.{owes_less, next_item, items_texts}
use Rattle.ax_grammar.proofs.printer.Printer.items.Goals as goal

pub loop-item-preserved : goal.loop-item-preserved
loop-item-preserved c =
    owes_less items_texts (λ i. item_texts (item_tree i)) (λ i is. flat_map-cons item_texts (item_tree i) (map item_tree is)) (items_texts c.args.items.now) (drop c.loop-item.item-index c.args.items.now) (drop (c.loop-item.item-index + 1) c.args.items.now) c.item-item.result c.args.self.now c.loop-item.self c.item.new.self
    (next_item c.args.items.now c.as_slice-item-items.result.now c.loop-item.item-index c.item-item.result c.as_slice-item-items.ensures.members (omega arith) c.item-item.is) c.item.ensures c.loop-item.invariant
