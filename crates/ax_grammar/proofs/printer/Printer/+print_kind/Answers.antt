use Rattle.std.proofs.Common.{◌≡◌, sym, subst, ◌+◌, drop, refl, ap, ◌∙◌, arith, rules}
use Rattle.ax_grammar.specs.Keywords.{keyword_text}
use Rattle.ax_format.specs.Plain.{fixed_tree, kind_tree, slot_tree, slots_tree}
use Rattle.ax_grammar.specs.Prints.{Prints}
use Rattle.ax_grammar.specs.Spelling.{extended_word, counted_word, fixed_texts, kind_texts, slot_texts, slots_texts}
use Rattle.ax_grammar.specs.declared.keyword.Keyword.TheVariants as Word
use Rattle.ax_grammar.proofs.Printed.{print_block, print_first, owes_less, next_item, parts_texts, slots_texts_of}
use Rattle.ax_format.proofs.VariantTrees.{extended_tree, counted_tree, by_fx_tree, compound_tree, fixed_kind_tree}
use Rattle.ax_grammar.proofs.printer.Printer.+print_kind.Goals as goal

pub kind-returns-in-Fixed : goal.kind-returns-in-Fixed
kind-returns-in-Fixed t c =
    let texts : kind_texts (kind_tree c.args.kind.now) ≡ fixed_texts (fixed_tree c.in-Fixed.fixed) = ap kind_texts (ap kind_tree c.in-Fixed.is ∙ fixed_kind_tree c.in-Fixed.fixed) in
    subst (λ t. Prints t c.args.self.now c.fixed.new.self) (sym texts) c.fixed.ensures

pub kind-returns-in-Extended : goal.kind-returns-in-Extended
kind-returns-in-Extended t c =
    print_block (extended_word c.in-Extended.last) (parts_texts c.in-Extended.parts) (kind_texts (kind_tree c.args.kind.now)) c.args.self.now c.open.new.self c.parts.new.self c.word.new.self
    (ap kind_texts (ap kind_tree c.in-Extended.is ∙ extended_tree c.in-Extended.last c.in-Extended.parts)) (search rules) c.parts.ensures c.word.ensures

pub kind-returns-in-Counted : goal.kind-returns-in-Counted
kind-returns-in-Counted t c =
    print_block (counted_word c.in-Counted.size) (kind_texts (kind_tree c.in-Counted.inner.value)) (kind_texts (kind_tree c.args.kind.now)) c.args.self.now c.open-in-Counted.new.self c.kind.new.self c.word-in-Counted.new.self
    (ap kind_texts (ap kind_tree c.in-Counted.is ∙ counted_tree c.in-Counted.size c.in-Counted.inner)) (search rules) (search rules) c.word-in-Counted.ensures

pub kind-returns-in-ByFx : goal.kind-returns-in-ByFx
kind-returns-in-ByFx t c =
    print_first (keyword_text Word.ByFx) (fixed_texts (fixed_tree c.in-ByFx.fixed)) (kind_texts (kind_tree c.args.kind.now)) c.args.self.now c.word-in-ByFx.new.self c.fixed-in-ByFx.new.self
    (ap kind_texts (ap kind_tree c.in-ByFx.is ∙ by_fx_tree c.in-ByFx.fixed)) c.word-in-ByFx.ensures c.fixed-in-ByFx.ensures

pub kind-returns-in-Compound : goal.kind-returns-in-Compound
kind-returns-in-Compound t c =
    print_block Word.Compound (slots_texts (slots_tree c.in-Compound.slots)) (kind_texts (kind_tree c.args.kind.now)) c.args.self.now c.open-in-Compound.new.self c.slots.new.self c.word-in-Compound.new.self
    (ap kind_texts (ap kind_tree c.in-Compound.is ∙ compound_tree c.in-Compound.slots)) c.open-in-Compound.ensures c.slots.ensures c.word-in-Compound.ensures

pub slots-loop-slot-preserved : goal.slots-loop-slot-preserved
slots-loop-slot-preserved t c =
    owes_less slots_texts_of (λ s. slot_texts (slot_tree s)) (λ s ss. refl) (slots_texts_of c.args.slots.now) (drop c.loop-slot.slot-index c.args.slots.now) (drop (c.loop-slot.slot-index + 1) c.args.slots.now) c.slot-item.result c.args.self.now c.loop-slot.self c.slot.new.self
    (next_item c.args.slots.now c.as_slice-slot-items.result.now c.loop-slot.slot-index c.slot-item.result c.as_slice-slot-items.ensures.members (omega arith) c.slot-item.is) c.slot.ensures c.loop-slot.invariant
