use Rattle.std.proofs.Common.{◌≡◌, ◌+◌, ◌<◌, ℕ, ◌∷◌, [], length, map, get_or, take, arith, subst, sym, ap, ◌∙◌, length-append}
use Rattle.std.proofs.lemmas.List.{length-map}
use Rattle.ax_format.specs.Plain.{part_tree}
use Rattle.ax_codec.proofs.Compiling.{narrow_part, parts_next}
use Rattle.ax_codec.specs.Bare.{bare_members}
use Rattle.ax_codec.specs.Making.{AreMade}
use Rattle.ax_codec.specs.Meaning.{linked_part}
use Rattle.ax_fspec.proofs.Marking.{map_at}
use Rattle.ax_codec.proofs.build.add_parts.Goals as goal

pub add_part-requires-clause-width : goal.add_part-requires-clause-width
add_part-requires-clause-width c =
    let all = c.args.parts.now in
    let i : ℕ = c.loop-part.part-index in
    let s = c.part-item.result in
    let same = c.as_slice-part-items.ensures.members in
    let within : i < length all = subst (λ xs. i < length xs) same c.loop-part-test.true in
    let is : s ≡ get_or all i s = subst (λ xs. s ≡ get_or xs i s) same c.part-item.is in
    let size : length (map part_tree all) ≡ length all = length-map all part_tree in
    narrow_part (map part_tree all) i (part_tree s) c.requires.widths (omega arith) (map_at part_tree all i s is)

pub loop-part-preserved : goal.loop-part-preserved
loop-part-preserved c =
    let all = c.args.parts.now in
    let i : ℕ = c.loop-part.part-index in
    let s = c.part-item.result in
    let same = c.as_slice-part-items.ensures.members in
    let within : i < length all = subst (λ xs. i < length xs) same c.loop-part-test.true in
    let is : s ≡ get_or all i s = subst (λ xs. s ≡ get_or xs i s) same c.part-item.is in
    record {
      made = subst (λ links. AreMade linked_part c.args.nodes.now c.add_part.new.nodes links (map bare_members (map part_tree (take (i + 1) all)))) (sym c.in_ok-push.ensures.ok)
          (parts_next c.args.nodes.now c.loop-part.nodes c.add_part.new.nodes c.loop-part.links i c.in_ok-link.link all s within is c.loop-part.invariant.made c.in_ok-link.ensures);
      count = ap length c.in_ok-push.ensures.ok ∙ length-append c.loop-part.links (c.in_ok-link.link ∷ []) ∙ ap (λ n. n + 1) c.loop-part.invariant.count;
    }
