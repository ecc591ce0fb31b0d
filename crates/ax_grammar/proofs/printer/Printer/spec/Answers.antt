use Rattle.std.proofs.Common.{[], ◌∷◌, ◌++◌, refl}
use Rattle.std.specs.List.{flat_map}
use Rattle.ax_format.specs.Plain.{spec_tree}
use Rattle.ax_format.specs.Paths.{three_digits}
use Rattle.ax_grammar.specs.Keywords.{keyword_text}
use Rattle.ax_grammar.specs.Prints.{Prints}
use Rattle.ax_grammar.specs.Spelling.{quoted, block, item_texts, uap_slot_texts}
use Rattle.ax_grammar.specs.declared.keyword.Keyword.TheVariants as Word
use Rattle.ax_grammar.proofs.Printed.{print_then, print_block}
use Rattle.ax_grammar.proofs.printer.Printer.spec.Goals as goal

pub returns : goal.returns
returns c =
    let spec = spec_tree c.args.spec.now in
    let last = c.word-3.new.self in
    let items_texts = flat_map item_texts spec.items in
    let uap_texts = flat_map uap_slot_texts spec.uap in
    let items = block Word.Items items_texts in
    let uap = block Word.Uap uap_texts in
    let category = three_digits spec.category ∷ [] in
    let word = keyword_text Word.Edition ∷ [] in
    let edition = quoted spec.edition ∷ [] in
    let items_out : Prints items c.text.new.self c.word-2.new.self = print_block Word.Items items_texts items c.text.new.self c.open.new.self c.items.new.self c.word-2.new.self refl c.open.ensures c.items.ensures c.word-2.ensures in
    let uap_out : Prints uap c.word-2.new.self last = print_block Word.Uap uap_texts uap c.word-2.new.self c.open-2.new.self c.uap.new.self last refl c.open-2.ensures c.uap.ensures c.word-3.ensures in
    let lists : Prints (items ++ uap) c.text.new.self last = print_then items uap c.text.new.self c.word-2.new.self last items_out uap_out in
    let from_edition : Prints (edition ++ items ++ uap) c.word.new.self last = print_then edition (items ++ uap) c.word.new.self c.text.new.self last c.text.ensures lists in
    let from_word : Prints (word ++ edition ++ items ++ uap) c.category.new.self last = print_then word (edition ++ items ++ uap) c.category.new.self c.word.new.self last c.word.ensures from_edition in
    print_then category (word ++ edition ++ items ++ uap) c.args.self.now c.category.new.self last c.category.ensures from_word
