use Rattle.std.proofs.Common.{map}
use Rattle.ax_format.specs.Plain.{part_tree, lists_tree}
use Rattle.ax_text_form.specs.ShowText.{parts_lines}
use Rattle.ax_text.proofs.ListedValues.{PartsLeft}
use Rattle.ax_text.proofs.kinds.list_parts.Given as goal

abbrev pub invariant-loop-part : goal.invariant-loop-part
invariant-loop-part l = PartsLeft l.path (parts_lines (map part_tree l.parts) l.path (lists_tree l.lists)) l.fn.lister.out.octets l.lister.out.octets l.part-iterator.a.rest.now l.part-iterator.b.rest.now
