use Rattle.std.proofs.Common.{◌≡◌, rules, length}
use Rattle.ax_bits.specs.Bits.{bits}
use Rattle.ax_bits.specs.Out.{loan}
use Rattle.ax_format.specs.Plain.{slots_tree, entries_tree}
use Rattle.ax_format.specs.Tree.{marked}
use Rattle.ax_expand.proofs.Writing.{filled}
use Rattle.ax_expand.specs.Content.{CanonContent}
use Rattle.ax_expand.proofs.encode.write_over.Goals as goal

pub returns : goal.returns
returns c =
    let content = CanonContent c.args.form (slots_tree c.args.slots.now) (marked (entries_tree c.args.entries.now)) in
    let f : bits c.write_content.new.out.buffer.now ≡ content = filled c.over-out.result c.write_content.new.out (length c.args.buffer.now) content c.over-out.ensures.written c.over-out.ensures.room c.requires.length c.write_content.ensures in
    let l : loan c.write_content.new.out ≡ loan c.over-out.result = c.write_content.ensures.loan in
    search rules
