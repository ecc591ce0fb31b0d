use denote.Param.Weighed.{at_most}
use Rattle.ax_format.proofs.kind.Member.TheLaws.{the_size}
use Rattle.std.proofs.Common.{◌≡◌, ◌+◌, ◌<◌, ℕ, length, map, get_or, take, ◌∷◌, [], length-append, arith, subst, sym, ap, ◌∙◌}
use Rattle.ax_format.specs.Plain.{fixed_tree, member_tree, members_tree}
use Rattle.ax_format.specs.Tree.{group}
use Rattle.ax_format.specs.Widths.{width, members_width}
use Rattle.ax_codec.proofs.Compiling.{group_node, group_made, member_wide, members_next, ok_map}
use Rattle.ax_codec.specs.Bare.{bare_fixed, bare_member}
use Rattle.ax_codec.specs.Making.{IsMade, AreMade}
use Rattle.ax_codec.specs.Meaning.{a_fixed, linked_member}
use Rattle.ax_fspec.proofs.Marking.{map_at}
use Rattle.std.proofs.lemmas.List.{length-map}
use Rattle.ax_format.proofs.VariantTrees.{group_tree}
use Rattle.ax_codec.proofs.build.+add_fixed.Goals as goal

pub add_fixed-add-requires-in-Group-clause-node : goal.add_fixed-add-requires-in-Group-clause-node
add_fixed-add-requires-in-Group-clause-node t c =
    let is : fixed_tree c.args.fixed.now ≡ group (members_tree c.in-Group.members) = ap fixed_tree c.in-Group.is ∙ group_tree c.in-Group.members in
    let wide : width (fixed_tree c.args.fixed.now) ≡ members_width (members_tree c.in-Group.members) = ap width is in
    group_node c.args.nodes.now c.add_members.new.nodes c.in_ok-links-in-Group.links (map member_tree c.in-Group.members) c.in_ok-links-in-Group.ensures c.width.result (omega (arith, c.width.ensures, wide, c.requires.width))

pub add_fixed-returns-in_ok-links-in-Group : goal.add_fixed-returns-in_ok-links-in-Group
add_fixed-returns-in_ok-links-in-Group t c =
    let is : fixed_tree c.args.fixed.now ≡ group (members_tree c.in-Group.members) = ap fixed_tree c.in-Group.is ∙ group_tree c.in-Group.members in
    ok_map c.add-in-Group.result c.add-in-Group.ensures (λ link made.
    subst (λ f. IsMade c.args.nodes.now c.add-in-Group.new.nodes link (a_fixed (bare_fixed f))) (sym is)
    (group_made c.args.nodes.now c.add_members.new.nodes c.in_ok-links-in-Group.links (map member_tree c.in-Group.members) c.in_ok-links-in-Group.ensures c.add-in-Group.new.nodes c.width.result link made))

pub add_members-add_member-requires : goal.add_members-add_member-requires
add_members-add_member-requires t c =
    let all = c.args.members.now in
    let i : ℕ = c.loop-member.member-index in
    let s = c.member-item.result in
    let same = c.as_slice-member-items.ensures.members in
    let within : i < length all = subst (λ xs. i < length xs) same c.loop-member-test.true in
    let is : s ≡ get_or all i s = subst (λ xs. s ≡ get_or xs i s) same c.member-item.is in
    let small = at_most the_size all i s within in
    let same_size : the_size s ≡ the_size (get_or all i s) = ap the_size is in
    let size : length (map member_tree all) ≡ length all = length-map all member_tree in
    let narrow = member_wide (map member_tree all) i (member_tree s) (omega arith) (map_at member_tree all i s is) in
    (omega (arith, small, same_size, c.decreases), (c.loop-member.invariant.made.grows.table, omega (arith, narrow, c.requires.width)))

pub add_members-loop-member-preserved : goal.add_members-loop-member-preserved
add_members-loop-member-preserved t c =
    let all = c.args.members.now in
    let i : ℕ = c.loop-member.member-index in
    let s = c.member-item.result in
    let same = c.as_slice-member-items.ensures.members in
    let within : i < length all = subst (λ xs. i < length xs) same c.loop-member-test.true in
    let is : s ≡ get_or all i s = subst (λ xs. s ≡ get_or xs i s) same c.member-item.is in
    record {
      made = subst (λ links. AreMade linked_member c.args.nodes.now c.add_member.new.nodes links (map bare_member (map member_tree (take (i + 1) all)))) (sym c.in_ok-push.ensures.ok)
          (members_next c.args.nodes.now c.loop-member.nodes c.add_member.new.nodes c.loop-member.links i c.in_ok-link.link all s within is c.loop-member.invariant.made c.in_ok-link.ensures);
      count = ap length c.in_ok-push.ensures.ok ∙ length-append c.loop-member.links (c.in_ok-link.link ∷ []) ∙ ap (λ n. n + 1) c.loop-member.invariant.count;
    }
