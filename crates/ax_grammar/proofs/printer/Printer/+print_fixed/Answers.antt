use Rattle.std.proofs.Common.{◌∷◌, decimal, rules, ◌+◌, drop, refl, ap, ◌∙◌, arith}
use Rattle.ax_format.specs.Plain.{fixed_tree, member_tree, members_tree}
use Rattle.ax_grammar.specs.Keywords.{keyword_text}
use Rattle.ax_grammar.specs.Spelling.{content_texts, fixed_texts, member_texts, members_texts}
use Rattle.ax_grammar.specs.declared.keyword.Keyword.TheVariants as Word
use Rattle.ax_grammar.proofs.Printed.{print_first, print_block, owes_less, next_item, members_texts_of}
use Rattle.ax_format.proofs.VariantTrees.{element_tree, group_tree}
use Rattle.ax_grammar.proofs.printer.Printer.+print_fixed.Goals as goal

pub fixed-returns-in-Element : goal.fixed-returns-in-Element
fixed-returns-in-Element t c =
    let width = c.in-Element.width in
    let content = content_texts c.in-Element.content in
    print_first (keyword_text Word.Element) (decimal width ∷ content) (fixed_texts (fixed_tree c.args.fixed.now)) c.args.self.now c.word.new.self c.content.new.self (ap fixed_texts (ap fixed_tree c.in-Element.is ∙ element_tree width c.in-Element.content)) c.word.ensures
    (print_first (decimal width) content (decimal width ∷ content) c.word.new.self c.number.new.self c.content.new.self refl (search rules) c.content.ensures)

pub fixed-returns-in-Group : goal.fixed-returns-in-Group
fixed-returns-in-Group t c =
    print_block Word.Group (members_texts (members_tree c.in-Group.members)) (fixed_texts (fixed_tree c.args.fixed.now)) c.args.self.now c.open.new.self c.members.new.self c.word-in-Group.new.self
    (ap fixed_texts (ap fixed_tree c.in-Group.is ∙ group_tree c.in-Group.members)) c.open.ensures c.members.ensures c.word-in-Group.ensures

pub members-loop-member-preserved : goal.members-loop-member-preserved
members-loop-member-preserved t c =
    owes_less members_texts_of (λ m. member_texts (member_tree m)) (λ m ms. refl) (members_texts_of c.args.members.now) (drop c.loop-member.member-index c.args.members.now) (drop (c.loop-member.member-index + 1) c.args.members.now) c.member-item.result c.args.self.now c.loop-member.self c.member.new.self
    (next_item c.args.members.now c.as_slice-member-items.result.now c.loop-member.member-index c.member-item.result c.as_slice-member-items.ensures.members (omega arith) c.member-item.is) c.member.ensures c.loop-member.invariant
