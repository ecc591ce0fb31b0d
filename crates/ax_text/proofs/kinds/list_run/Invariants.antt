use Rattle.std.proofs.Common.{◌≡◌, drop}
use Rattle.ax_format.specs.Plain.{fixed_tree, values_tree}
use Rattle.ax_format.specs.Shape.{FixedShape}
use Rattle.ax_text_form.specs.ShowText.{fixed_lines, each_lines}
use Rattle.ax_text.proofs.ListedValues.{EachLeft}
use Rattle.ax_text.proofs.kinds.list_run.Given as goal

abbrev pub invariant-loop-value : goal.invariant-loop-value
invariant-loop-value l = record {
  counted : l.number ≡ l.value-index;
  left : EachLeft (FixedShape (fixed_tree l.fixed)) (fixed_lines (fixed_tree l.fixed)) l.path (each_lines (fixed_lines (fixed_tree l.fixed)) l.path 0 (values_tree l.values)) l.fn.lister.out.octets l.lister.out.octets
      l.value-index (drop l.value-index l.values);
}
