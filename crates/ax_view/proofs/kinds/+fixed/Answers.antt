use Rattle.std.proofs.Common.{◌≡◌, ℕ, ◌+◌, ◌-◌, ◌<◌, [], ◌∷◌, length, get_or, length-append, subst, sym, ap, ◌∙◌, arith}
use Rattle.ax_format.specs.Plain.{fixed_tree, member_tree}
use Rattle.ax_format.specs.declared.kind.Fixed.TheVariants.{Group}
use Rattle.ax_format.specs.declared.kind.Member.TheVariants.{Named}
use Rattle.ax_codec.specs.Bare.{bare_fixed, bare_member}
use Rattle.ax_codec.specs.Meaning.{meanings, linked, linked_member, fixed_of}
use Rattle.ax_view.proofs.LinkedKinds.{link_within, member_made, element_made, group_links, group_falls, group_made, no_fixed_made}
use Rattle.ax_view.proofs.LinkedLists.{one_more}
use Rattle.ax_walk.proofs.MarkedSteps.{greatest_at}
use Rattle.ax_view.proofs.kinds.+fixed.Goals as goal

pub fixed_of_link-members_of_links-requires : goal.fixed_of_link-members_of_links-requires
fixed_of_link-members_of_links-requires t c =
    let ns = c.args.codec.now.nodes in
    let one = c.index-as_slice-link.result in
    let at : one ≡ get_or ns (c.args.link - 1) one = subst (λ ns. one ≡ get_or ns (c.args.link - 1) one) c.as_slice.ensures.members c.index-as_slice-link.is in
    let falls = group_falls ns c.args.link one c.args.codec.now.table c.requires.link.0 c.requires.link.1 at c.in-Group.width c.in-Group.members c.in-Group.is in
    (omega (arith, falls, c.decreases), group_links ns c.args.link one c.args.codec.now.table c.requires.link.0 c.requires.link.1 at c.in-Group.width c.in-Group.members c.in-Group.is)

pub fixed_of_link-returns-in-Element : goal.fixed_of_link-returns-in-Element
fixed_of_link-returns-in-Element t c =
    let ns = c.args.codec.now.nodes in
    let one = c.index-as_slice-link.result in
    let at : one ≡ get_or ns (c.args.link - 1) one = subst (λ ns. one ≡ get_or ns (c.args.link - 1) one) c.as_slice.ensures.members c.index-as_slice-link.is in
    element_made ns c.args.link one c.args.codec.now.table c.requires.link.0 c.requires.link.1 at c.in-Element.width c.in-Element.is

pub fixed_of_link-returns-in_ok-members-in-Group : goal.fixed_of_link-returns-in_ok-members-in-Group
fixed_of_link-returns-in_ok-members-in-Group t c =
    let ns = c.args.codec.now.nodes in
    let one = c.index-as_slice-link.result in
    let at : one ≡ get_or ns (c.args.link - 1) one = subst (λ ns. one ≡ get_or ns (c.args.link - 1) one) c.as_slice.ensures.members c.index-as_slice-link.is in
    group_made ns c.args.link one c.args.codec.now.table c.requires.link.0 c.requires.link.1 at c.in-Group.width c.in-Group.members c.in-Group.is c.in_ok-members-in-Group.members c.in_ok-members-in-Group.ensures

pub fixed_of_link-returns-in_default : goal.fixed_of_link-returns-in_default
fixed_of_link-returns-in_default t c =
    let ns = c.args.codec.now.nodes in
    let one = c.index-as_slice-link.result in
    let at : one ≡ get_or ns (c.args.link - 1) one = subst (λ ns. one ≡ get_or ns (c.args.link - 1) one) c.as_slice.ensures.members c.index-as_slice-link.is in
    subst (λ made. bare_fixed (fixed_tree (Group made)) ≡ fixed_of (linked (meanings ns) c.args.link)) (sym c.new.ensures)
    (no_fixed_made ns c.args.link one c.args.codec.now.table c.requires.link.0 c.requires.link.1 at c.in_default.not-Element (λ w links. c.in_default.not-Group w links))

pub members_of_links-fixed_of_link-requires : goal.members_of_links-fixed_of_link-requires
members_of_links-fixed_of_link-requires t c =
    let links = c.args.links.now in
    let i : ℕ = c.loop-link.link-index in
    let same = c.as_slice-link-items.ensures.members in
    let link : ℕ = get_or c.as_slice-link-items.result.now i 0 in
    let is : link ≡ get_or links i 0 = ap (λ xs. get_or xs i 0) same in
    let within : i < length links = subst (λ xs. i < length xs) same c.loop-link-test.true in
    let b = link_within (length c.args.codec.now.nodes) links i c.requires.links within in
    let le = greatest_at links i 0 within in
    (omega (arith, le, is, c.decreases), (omega (arith, b.0, is), omega (arith, b.1, is)))

pub members_of_links-loop-link-preserved : goal.members_of_links-loop-link-preserved
members_of_links-loop-link-preserved t c =
    let ms = meanings c.args.codec.now.nodes in
    let links = c.args.links.now in
    let i : ℕ = c.loop-link.link-index in
    let same = c.as_slice-link-items.ensures.members in
    let link : ℕ = get_or c.as_slice-link-items.result.now i 0 in
    let is : link ≡ get_or links i 0 = ap (λ xs. get_or xs i 0) same in
    let within : i < length links = subst (λ xs. i < length xs) same c.loop-link-test.true in
    let one = Named c.unnamed.result c.in_ok-fixed.fixed in
    record {
      made = one_more member_tree bare_member (linked_member ms) links i c.loop-link.made c.loop-link.invariant.made link one c.push.new.self within is c.in_ok-push.ensures.ok (member_made c.unnamed.result c.in_ok-fixed.fixed ms link c.in_ok-fixed.ensures);
      count = ap length c.in_ok-push.ensures.ok ∙ length-append c.loop-link.made (one ∷ []) ∙ ap (λ n. n + 1) c.loop-link.invariant.count;
    }
