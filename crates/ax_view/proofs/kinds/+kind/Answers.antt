use Rattle.std.proofs.Common.{◌≡◌, ℕ, ◌-◌, ◌<◌, length, get_or, subst, sym, ap, arith}
use Rattle.ax_format.specs.Plain.{kind_tree}
use Rattle.ax_format.specs.declared.kind.Kind.TheVariants.{Compound}
use Rattle.ax_codec.specs.Bare.{bare_kind}
use Rattle.ax_codec.specs.Table.{kind_at}
use Rattle.ax_view.proofs.LinkedKinds.{element_kind, group_kind, part_kind, extended_links, extended_kind, counted_link, counted_kind, by_fx_link, by_fx_kind, explicit_kind, compound_links, compound_falls, compound_kind, sub_made}
use Rattle.ax_walk.proofs.MarkedSteps.{greatest_at, within_at}
use Rattle.ax_view.proofs.kinds.+kind.Goals as goal

pub kind_of_link-parts_of_links-requires : goal.kind_of_link-parts_of_links-requires
kind_of_link-parts_of_links-requires t c =
    let ns = c.args.codec.now.nodes in
    let one = c.index-as_slice-link.result in
    let at : one ≡ get_or ns (c.args.link - 1) one = subst (λ ns. one ≡ get_or ns (c.args.link - 1) one) c.as_slice.ensures.members c.index-as_slice-link.is in
    record { links = extended_links ns c.args.link one c.args.codec.now.table c.requires.link.0 c.requires.link.1 at c.in-Extended.last c.in-Extended.parts c.in-Extended.is }

pub kind_of_link-kind_of_link-requires : goal.kind_of_link-kind_of_link-requires
kind_of_link-kind_of_link-requires t c =
    let ns = c.args.codec.now.nodes in
    let one = c.index-as_slice-link.result in
    let at : one ≡ get_or ns (c.args.link - 1) one = subst (λ ns. one ≡ get_or ns (c.args.link - 1) one) c.as_slice.ensures.members c.index-as_slice-link.is in
    let b = counted_link ns c.args.link one c.args.codec.now.table c.requires.link.0 c.requires.link.1 at c.in-Counted.counter c.in-Counted.inner c.in-Counted.is in
    (omega (arith, b.2, c.decreases), (b.0, b.1))

pub kind_of_link-fixed_of_link-requires-in-ByFx : goal.kind_of_link-fixed_of_link-requires-in-ByFx
kind_of_link-fixed_of_link-requires-in-ByFx t c =
    let ns = c.args.codec.now.nodes in
    let one = c.index-as_slice-link.result in
    let at : one ≡ get_or ns (c.args.link - 1) one = subst (λ ns. one ≡ get_or ns (c.args.link - 1) one) c.as_slice.ensures.members c.index-as_slice-link.is in
    record { link = by_fx_link ns c.args.link one c.args.codec.now.table c.requires.link.0 c.requires.link.1 at c.in-ByFx.inner c.in-ByFx.is }

pub kind_of_link-slots_of_links-requires : goal.kind_of_link-slots_of_links-requires
kind_of_link-slots_of_links-requires t c =
    let ns = c.args.codec.now.nodes in
    let one = c.index-as_slice-link.result in
    let at : one ≡ get_or ns (c.args.link - 1) one = subst (λ ns. one ≡ get_or ns (c.args.link - 1) one) c.as_slice.ensures.members c.index-as_slice-link.is in
    let falls = compound_falls ns c.args.link one c.args.codec.now.table c.requires.link.0 c.requires.link.1 at c.in-Compound.mask c.in-Compound.slots c.in-Compound.is in
    (omega (arith, falls, c.decreases), compound_links ns c.args.link one c.args.codec.now.table c.requires.link.0 c.requires.link.1 at c.in-Compound.mask c.in-Compound.slots c.in-Compound.is)

pub kind_of_link-returns-in_ok-fixed_of_link-in-Element : goal.kind_of_link-returns-in_ok-fixed_of_link-in-Element
kind_of_link-returns-in_ok-fixed_of_link-in-Element t c =
    let ns = c.args.codec.now.nodes in
    let one = c.index-as_slice-link.result in
    let at : one ≡ get_or ns (c.args.link - 1) one = subst (λ ns. one ≡ get_or ns (c.args.link - 1) one) c.as_slice.ensures.members c.index-as_slice-link.is in
    element_kind ns c.args.link one c.args.codec.now.table c.requires.link.0 c.requires.link.1 at c.in-Element.width c.in-Element.is c.in_ok-fixed_of_link-in-Element.field-0 c.in_ok-fixed_of_link-in-Element.ensures

pub kind_of_link-returns-in_ok-fixed_of_link-in-Group : goal.kind_of_link-returns-in_ok-fixed_of_link-in-Group
kind_of_link-returns-in_ok-fixed_of_link-in-Group t c =
    let ns = c.args.codec.now.nodes in
    let one = c.index-as_slice-link.result in
    let at : one ≡ get_or ns (c.args.link - 1) one = subst (λ ns. one ≡ get_or ns (c.args.link - 1) one) c.as_slice.ensures.members c.index-as_slice-link.is in
    group_kind ns c.args.link one c.args.codec.now.table c.requires.link.0 c.requires.link.1 at c.in-Group.width c.in-Group.members c.in-Group.is c.in_ok-fixed_of_link-in-Group.field-0 c.in_ok-fixed_of_link-in-Group.ensures

pub kind_of_link-returns-in-Part : goal.kind_of_link-returns-in-Part
kind_of_link-returns-in-Part t c =
    let ns = c.args.codec.now.nodes in
    let one = c.index-as_slice-link.result in
    let at : one ≡ get_or ns (c.args.link - 1) one = subst (λ ns. one ≡ get_or ns (c.args.link - 1) one) c.as_slice.ensures.members c.index-as_slice-link.is in
    subst (λ made. bare_kind (kind_tree (Compound made)) ≡ kind_at ns c.args.link) (sym c.new.ensures) (part_kind ns c.args.link one c.args.codec.now.table c.requires.link.0 c.requires.link.1 at c.in-Part.width c.in-Part.members c.in-Part.is)

pub kind_of_link-returns-in_ok-parts-in-Extended : goal.kind_of_link-returns-in_ok-parts-in-Extended
kind_of_link-returns-in_ok-parts-in-Extended t c =
    let ns = c.args.codec.now.nodes in
    let one = c.index-as_slice-link.result in
    let at : one ≡ get_or ns (c.args.link - 1) one = subst (λ ns. one ≡ get_or ns (c.args.link - 1) one) c.as_slice.ensures.members c.index-as_slice-link.is in
    extended_kind ns c.args.link one c.args.codec.now.table c.requires.link.0 c.requires.link.1 at c.in-Extended.last c.in-Extended.parts c.in-Extended.is c.in_ok-parts-in-Extended.parts c.in_ok-parts-in-Extended.ensures

pub kind_of_link-returns-in_ok-inner-in-Counted : goal.kind_of_link-returns-in_ok-inner-in-Counted
kind_of_link-returns-in_ok-inner-in-Counted t c =
    let ns = c.args.codec.now.nodes in
    let one = c.index-as_slice-link.result in
    let at : one ≡ get_or ns (c.args.link - 1) one = subst (λ ns. one ≡ get_or ns (c.args.link - 1) one) c.as_slice.ensures.members c.index-as_slice-link.is in
    counted_kind ns c.args.link one c.args.codec.now.table c.requires.link.0 c.requires.link.1 at c.in-Counted.counter c.in-Counted.inner c.in-Counted.is c.in_ok-kind-in-Counted.kind c.in_ok-inner-in-Counted.inner c.in_ok-inner-in-Counted.ensures.ok c.in_ok-kind-in-Counted.ensures

pub kind_of_link-returns-in_ok-fixed_of_link-in-ByFx : goal.kind_of_link-returns-in_ok-fixed_of_link-in-ByFx
kind_of_link-returns-in_ok-fixed_of_link-in-ByFx t c =
    let ns = c.args.codec.now.nodes in
    let one = c.index-as_slice-link.result in
    let at : one ≡ get_or ns (c.args.link - 1) one = subst (λ ns. one ≡ get_or ns (c.args.link - 1) one) c.as_slice.ensures.members c.index-as_slice-link.is in
    by_fx_kind ns c.args.link one c.args.codec.now.table c.requires.link.0 c.requires.link.1 at c.in-ByFx.inner c.in-ByFx.is c.in_ok-fixed_of_link-in-ByFx.field-0 c.in_ok-fixed_of_link-in-ByFx.ensures

pub kind_of_link-returns-in-Explicit : goal.kind_of_link-returns-in-Explicit
kind_of_link-returns-in-Explicit t c =
    let ns = c.args.codec.now.nodes in
    let one = c.index-as_slice-link.result in
    let at : one ≡ get_or ns (c.args.link - 1) one = subst (λ ns. one ≡ get_or ns (c.args.link - 1) one) c.as_slice.ensures.members c.index-as_slice-link.is in
    explicit_kind ns c.args.link one c.args.codec.now.table c.requires.link.0 c.requires.link.1 at c.in-Explicit.is

pub kind_of_link-returns-in_ok-slots-in-Compound : goal.kind_of_link-returns-in_ok-slots-in-Compound
kind_of_link-returns-in_ok-slots-in-Compound t c =
    let ns = c.args.codec.now.nodes in
    let one = c.index-as_slice-link.result in
    let at : one ≡ get_or ns (c.args.link - 1) one = subst (λ ns. one ≡ get_or ns (c.args.link - 1) one) c.as_slice.ensures.members c.index-as_slice-link.is in
    compound_kind ns c.args.link one c.args.codec.now.table c.requires.link.0 c.requires.link.1 at c.in-Compound.mask c.in-Compound.slots c.in-Compound.is c.in_ok-slots-in-Compound.slots c.in_ok-slots-in-Compound.ensures

pub slot_of_link-returns : goal.slot_of_link-returns
slot_of_link-returns t c = sub_made c.unnamed.result c.in_ok-kind.kind c.args.codec.now.nodes c.args.link (omega (arith, c.if-link-eq0.false)) c.in_ok-kind.ensures

pub slots_of_links-slot_of_link-requires : goal.slots_of_links-slot_of_link-requires
slots_of_links-slot_of_link-requires t c =
    let links = c.args.links.now in
    let i : ℕ = c.loop-link.link-index in
    let same = c.as_slice-link-items.ensures.members in
    let link : ℕ = get_or c.as_slice-link-items.result.now i 0 in
    let is : link ≡ get_or links i 0 = ap (λ xs. get_or xs i 0) same in
    let within : i < length links = subst (λ xs. i < length xs) same c.loop-link-test.true in
    let b = within_at (length c.args.codec.now.nodes) links i 0 c.requires.links within in
    let le = greatest_at links i 0 within in
    (omega (arith, le, is, c.decreases), omega (arith, b, is))
