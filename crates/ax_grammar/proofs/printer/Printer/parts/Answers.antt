use Rattle.std.proofs.Common.{◌+◌, drop, map, arith}
use Rattle.std.proofs.lemmas.List.Concat.{flat_map-cons}
use Rattle.ax_format.specs.Plain.{part_tree}
use Rattle.ax_grammar.specs.Spelling.{part_texts}
use Rattle.ax_grammar.proofs.Printed.{owes_less, next_item, parts_texts}
use Rattle.ax_grammar.proofs.printer.Printer.parts.Goals as goal

pub loop-part-preserved : goal.loop-part-preserved
loop-part-preserved c =
    owes_less parts_texts (λ p. part_texts (part_tree p)) (λ p ps. flat_map-cons part_texts (part_tree p) (map part_tree ps)) (parts_texts c.args.parts.now) (drop c.loop-part.part-index c.args.parts.now) (drop (c.loop-part.part-index + 1) c.args.parts.now) c.part-item.result c.args.self.now c.loop-part.self c.part.new.self
    (next_item c.args.parts.now c.as_slice-part-items.result.now c.loop-part.part-index c.part-item.result c.as_slice-part-items.ensures.members (omega arith) c.part-item.is) c.part.ensures c.loop-part.invariant
