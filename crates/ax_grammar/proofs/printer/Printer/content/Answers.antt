use Rattle.std.proofs.Common.{ap}
use Rattle.std.specs.List.{flat_map}
use Rattle.ax_grammar.specs.Spelling.{entry_texts, content_texts}
use Rattle.ax_grammar.specs.declared.keyword.Keyword.TheVariants as Word
use Rattle.ax_grammar.proofs.Printed.{print_block}
use Rattle.ax_grammar.proofs.printer.Printer.content.Goals as goal

pub returns-in-Table : goal.returns-in-Table
returns-in-Table c =
    print_block Word.Table (flat_map entry_texts c.in-Table.entries) (content_texts c.args.content.now) c.args.self.now c.open.new.self c.entries.new.self c.word-in-Table.new.self
    (ap content_texts c.in-Table.is) c.open.ensures c.entries.ensures c.word-in-Table.ensures
