use Rattle.std.proofs.Common.{refl}
use Rattle.ax_format.specs.Plain.{part_tree, members_tree}
use Rattle.ax_grammar.specs.Spelling.{part_texts, members_texts}
use Rattle.ax_grammar.specs.declared.keyword.Keyword.TheVariants as Word
use Rattle.ax_grammar.proofs.Printed.{print_block}
use Rattle.ax_grammar.proofs.printer.Printer.part.Goals as goal

pub returns : goal.returns
returns c =
    print_block Word.Part (members_texts (members_tree c.args.part.now.members)) (part_texts (part_tree c.args.part.now)) c.args.self.now c.open.new.self c.members.new.self c.word.new.self
    refl c.open.ensures c.members.ensures c.word.ensures
