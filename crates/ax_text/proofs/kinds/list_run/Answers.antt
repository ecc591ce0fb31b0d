use Rattle.std.proofs.Common.{◌≡◌, ◌+◌, ◌<◌, ◌≤◌, ℕ, rules, length, get_or, subst, ap, ◌∙◌}
use Rattle.ax_format.specs.Plain.{fixed_tree, values_tree}
use Rattle.ax_format.specs.Shape.{FixedShape}
use Rattle.ax_text_form.specs.ShowText.{fixed_lines, each_lines, occurrence}
use Rattle.ax_text.proofs.ListedValues.{each_next, each_ended}
use Rattle.ax_text.proofs.kinds.list_run.Goals as goal

pub loop-value-preserved : goal.loop-value-preserved
loop-value-preserved c =
    let all = c.args.values.now in
    let f = fixed_tree c.args.fixed.now in
    let path = c.args.path.now in
    let i : ℕ = c.loop-value.value-index in
    let v = c.value-item.result in
    let same = c.as_slice-value-items.ensures.members in
    record {
      counted = ap (λ n. n + 1) c.loop-value.invariant.counted;
      left = each_next (FixedShape f) (fixed_lines f) path (each_lines (fixed_lines f) path 0 (values_tree all)) c.args.lister.now.out.octets c.loop-value.lister.out.octets i all v c.in_ok-inner.inner c.list_fixed.new.lister.out.octets c.loop-value.invariant.left
          (subst (λ xs. i < length xs) same c.loop-value-test.true) (subst (λ xs. v ≡ get_or xs i v) same c.value-item.is) (c.in_ok-inner.ensures ∙ ap (occurrence path) c.loop-value.invariant.counted) (search rules);
    }

pub returns : goal.returns
returns c =
    let all = c.args.values.now in
    let f = fixed_tree c.args.fixed.now in
    let path = c.args.path.now in
    each_ended (FixedShape f) (fixed_lines f) path (each_lines (fixed_lines f) path 0 (values_tree all)) c.args.lister.now.out.octets c.loop-value.lister.out.octets c.loop-value.value-index all c.loop-value.invariant.left
    (subst (λ xs. length xs ≤ c.loop-value.value-index) c.as_slice-value-items.ensures.members c.loop-value-test.false)
