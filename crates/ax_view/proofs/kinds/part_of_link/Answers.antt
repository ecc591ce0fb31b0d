use Rattle.std.proofs.Common.{◌≡◌, ◌-◌, map, get_or, subst, sym}
use Rattle.ax_format.specs.Plain.{member_tree}
use Rattle.ax_format.specs.Tree.{members_of}
use Rattle.ax_codec.specs.Bare.{bare_members}
use Rattle.ax_codec.specs.Meaning.{meanings, linked_part}
use Rattle.ax_view.proofs.LinkedKinds.{part_links, part_made, no_part_made}
use Rattle.ax_view.proofs.kinds.part_of_link.Goals as goal

pub members_of_links-requires : goal.members_of_links-requires
members_of_links-requires c =
    let ns = c.args.codec.now.nodes in
    let one = c.index-as_slice-link.result in
    let at : one ≡ get_or ns (c.args.link - 1) one = subst (λ ns. one ≡ get_or ns (c.args.link - 1) one) c.as_slice.ensures.members c.index-as_slice-link.is in
    record { links = part_links ns c.args.link one c.args.codec.now.table c.requires.link.0 c.requires.link.1 at c.in-Part.width c.in-Part.members c.in-Part.is }

pub returns-in_ok-members-in-Part : goal.returns-in_ok-members-in-Part
returns-in_ok-members-in-Part c =
    let ns = c.args.codec.now.nodes in
    let one = c.index-as_slice-link.result in
    let at : one ≡ get_or ns (c.args.link - 1) one = subst (λ ns. one ≡ get_or ns (c.args.link - 1) one) c.as_slice.ensures.members c.index-as_slice-link.is in
    part_made ns c.args.link one c.args.codec.now.table c.requires.link.0 c.requires.link.1 at c.in-Part.width c.in-Part.members c.in-Part.is c.in_ok-members-in-Part.members c.in_ok-members-in-Part.ensures

pub returns-in_default : goal.returns-in_default
returns-in_default c =
    let ns = c.args.codec.now.nodes in
    let one = c.index-as_slice-link.result in
    let at : one ≡ get_or ns (c.args.link - 1) one = subst (λ ns. one ≡ get_or ns (c.args.link - 1) one) c.as_slice.ensures.members c.index-as_slice-link.is in
    subst (λ made. bare_members (members_of (map member_tree made)) ≡ linked_part (meanings ns) c.args.link) (sym c.new.ensures) (no_part_made ns c.args.link one c.args.codec.now.table c.requires.link.0 c.requires.link.1 at (λ w links. c.in_default.not-Part w links))
