use Rattle.std.proofs.Common.{◌≡◌, ℕ, ◌++◌, ◌∷◌, [], List, length, get_or, ◌∙◌, ap, arith, rules, refl}
use Rattle.std.proofs.lemmas.List.{length_push}
use Rattle.std.proofs.lemmas.Result.{err_from_is_err_and}
use Rattle.ax_format.specs.declared.kind.Member.{Member}
use Rattle.ax_block_reader.proofs.FixedWays.{element_way, element_read, open_way, inside_way, group_read, readable_element, readable_group, name_way, value_way, named_read, readable_named, spare_way, bits_way, spare_read}
use Rattle.ax_block_reader.proofs.MemberWays.{no_member_read, member_readable, member_lacks, member_more_read, close_lacks, members_read}
use Rattle.ax_block_reader.proofs.fixed.+fixed_value.Goals as goal

pub fixed_value-number-requires : goal.fixed_value-number-requires
fixed_value-number-requires t c = readable_element c.args.fixed.now _ _ c.in-Element.is c.requires

pub fixed_value-returns-in_err-number-in-Element-clause-gives : goal.fixed_value-returns-in_err-number-in-Element-clause-gives
fixed_value-returns-in_err-number-in-Element-clause-gives t c =
    let p = err_from_is_err_and c.from_residual.result c.from_residual.ensures.1 in
    rw (p.1, p.2) (element_way c.args.fixed.now _ _ _ _ _ c.in-Element.is c.in_err-number-in-Element.ensures.reads)

pub fixed_value-returns-in_ok-number-in-Element-clause-gives : goal.fixed_value-returns-in_ok-number-in-Element-clause-gives
fixed_value-returns-in_ok-number-in-Element-clause-gives t c = element_read c.args.fixed.now _ _ _ _ _ c.in-Element.is c.in_ok-number-in-Element.ensures.below c.in_ok-number-in-Element.ensures.reads.1

pub fixed_value-returns-in_err-expect-in-Group-clause-gives : goal.fixed_value-returns-in_err-expect-in-Group-clause-gives
fixed_value-returns-in_err-expect-in-Group-clause-gives t c =
    let p = err_from_is_err_and c.from_residual-in_err-expect-in-Group.result c.from_residual-in_err-expect-in-Group.ensures.1 in
    rw (p.1, p.2) (open_way c.args.fixed.now _ _ _ _ c.in-Group.is c.in_err-expect-in-Group.ensures.reads)

pub fixed_value-member_values-requires : goal.fixed_value-member_values-requires
fixed_value-member_values-requires t c = (omega (arith, c.in_ok-expect-in-Group.ensures.moves), readable_group c.args.fixed.now _ c.in-Group.is c.requires)

pub fixed_value-returns-in_err-values-in-Group-clause-gives : goal.fixed_value-returns-in_err-values-in-Group-clause-gives
fixed_value-returns-in_err-values-in-Group-clause-gives t c =
    let p = err_from_is_err_and c.from_residual-in_err-values-in-Group.result c.from_residual-in_err-values-in-Group.ensures.1 in
    rw (p.1, p.2) (inside_way c.args.fixed.now _ _ _ _ _ c.in-Group.is c.in_ok-expect-in-Group.ensures.reads.1 c.in_err-values-in-Group.ensures.gives)

pub fixed_value-returns-in_ok-values-in-Group-clause-gives : goal.fixed_value-returns-in_ok-values-in-Group-clause-gives
fixed_value-returns-in_ok-values-in-Group-clause-gives t c = group_read c.args.fixed.now _ _ _ _ _ c.in-Group.is c.in_ok-expect-in-Group.ensures.reads.1 c.in_ok-values-in-Group.ensures.gives

pub member_value-returns-in_err-expect-in-Named-clause-gives : goal.member_value-returns-in_err-expect-in-Named-clause-gives
member_value-returns-in_err-expect-in-Named-clause-gives t c =
    let p = err_from_is_err_and c.from_residual.result c.from_residual.ensures.1 in
    rw (p.1, p.2) (name_way c.args.member.now _ _ _ _ _ _ c.in-Named.is c.octets.ensures.octets c.in_err-expect-in-Named.ensures.reads)

pub member_value-fixed_value-requires : goal.member_value-fixed_value-requires
member_value-fixed_value-requires t c = (omega (arith, c.in_ok-expect-in-Named.ensures.moves), readable_named c.args.member.now _ _ c.in-Named.is c.requires)

pub member_value-returns-in_err-value-in-Named-clause-gives : goal.member_value-returns-in_err-value-in-Named-clause-gives
member_value-returns-in_err-value-in-Named-clause-gives t c =
    let p = err_from_is_err_and c.from_residual-in_err-value-in-Named.result c.from_residual-in_err-value-in-Named.ensures.1 in
    rw (p.1, p.2) (value_way c.args.member.now _ _ _ _ _ _ _ c.in-Named.is c.octets.ensures.octets c.in_ok-expect-in-Named.ensures.reads.1 c.in_err-value-in-Named.ensures.gives)

pub member_value-returns-in_ok-value-in-Named-clause-gives : goal.member_value-returns-in_ok-value-in-Named-clause-gives
member_value-returns-in_ok-value-in-Named-clause-gives t c = named_read c.args.member.now _ _ _ _ _ _ _ c.in-Named.is c.octets.ensures.octets c.in_ok-expect-in-Named.ensures.reads.1 c.in_ok-value-in-Named.ensures.gives

pub member_value-returns-in_err-expect-in-Spare-clause-gives : goal.member_value-returns-in_err-expect-in-Spare-clause-gives
member_value-returns-in_err-expect-in-Spare-clause-gives t c =
    let p = err_from_is_err_and c.from_residual-in_err-expect-in-Spare.result c.from_residual-in_err-expect-in-Spare.ensures.1 in
    rw (p.1, p.2) (spare_way c.args.member.now _ _ _ _ c.in-Spare.is c.in_err-expect-in-Spare.ensures.reads)

pub member_value-returns-in_err-number-in-Spare-clause-gives : goal.member_value-returns-in_err-number-in-Spare-clause-gives
member_value-returns-in_err-number-in-Spare-clause-gives t c =
    let p = err_from_is_err_and c.from_residual-in_err-number-in-Spare.result c.from_residual-in_err-number-in-Spare.ensures.1 in
    rw (p.1, p.2) (bits_way c.args.member.now _ _ _ _ _ c.in-Spare.is c.in_ok-expect-in-Spare.ensures.reads.1 c.in_err-number-in-Spare.ensures.reads)

pub member_value-returns-in_ok-number-in-Spare-clause-gives : goal.member_value-returns-in_ok-number-in-Spare-clause-gives
member_value-returns-in_ok-number-in-Spare-clause-gives t c =
    spare_read c.args.member.now c.in-Spare.width c.in_ok-number-in-Spare.number _ _ _ c.in-Spare.is c.in_ok-number-in-Spare.ensures.below c.in_ok-expect-in-Spare.ensures.reads.1 c.in_ok-number-in-Spare.ensures.reads.1

-- the member at a place of the slice is that of the list
at_place : (slice list : List Member) (i : ℕ) (m : Member) → slice ≡ list → m ≡ get_or slice i m → m ≡ get_or list i m
at_place slice list i m e is = is ∙ ap (λ s. get_or s i m) e

pub member_values-loop-member-init : goal.member_values-loop-member-init
member_values-loop-member-init t c = record { read = no_member_read _ _ _ _ c.in_ok-values.ensures refl c.requires; count = ap length c.in_ok-values.ensures; less = omega arith }

pub member_values-member_value-requires : goal.member_values-member_value-requires
member_values-member_value-requires t c =
    (search rules, member_readable c.args.members.now c.loop-member.member-index c.member-item.result (omega (arith, ap length c.as_slice-member-items.ensures.members)) (at_place _ _ _ _ c.as_slice-member-items.ensures.members c.member-item.is) _ _ _ c.loop-member.invariant.read)

pub member_values-returns-in_err-value-clause-gives : goal.member_values-returns-in_err-value-clause-gives
member_values-returns-in_err-value-clause-gives t c =
    let p = err_from_is_err_and c.from_residual-in_err-value.result c.from_residual-in_err-value.ensures.1 in
    rw (p.1, p.2) (member_lacks c.args.members.now c.loop-member.member-index c.member-item.result (omega (arith, ap length c.as_slice-member-items.ensures.members)) (at_place _ _ _ _ c.as_slice-member-items.ensures.members c.member-item.is) _ _ _ _ _ c.loop-member.invariant.read c.in_err-value.ensures.gives)

pub member_values-loop-member-preserved : goal.member_values-loop-member-preserved
member_values-loop-member-preserved t c =
    let pushed : c.push.new.self ≡ c.loop-member.values ++ c.in_ok-value.value ∷ [] = c.in_ok-push.ensures.ok in
    record {
      read = member_more_read c.args.members.now c.loop-member.member-index c.member-item.result (omega (arith, ap length c.as_slice-member-items.ensures.members)) (at_place _ _ _ _ c.as_slice-member-items.ensures.members c.member-item.is) _ _ _ _ _ _ c.loop-member.invariant.read c.in_ok-value.ensures.gives pushed;
      count = omega (arith, ap length pushed, length_push c.loop-member.values c.in_ok-value.value, c.loop-member.invariant.count);
      less = omega (arith, c.in_ok-value.ensures.moves, c.loop-member.invariant.less);
    }

pub member_values-returns-in_err-expect-clause-gives : goal.member_values-returns-in_err-expect-clause-gives
member_values-returns-in_err-expect-clause-gives t c =
    let p = err_from_is_err_and c.from_residual-in_err-expect.result c.from_residual-in_err-expect.ensures.1 in
    rw (p.1, p.2) (close_lacks c.args.members.now c.loop-member.member-index (omega (arith, ap length c.as_slice-member-items.ensures.members)) _ _ _ _ _ c.loop-member.invariant.read c.in_err-expect.ensures.reads)

pub member_values-returns-clause-gives : goal.member_values-returns-clause-gives
member_values-returns-clause-gives t c = members_read c.args.members.now c.loop-member.member-index (omega (arith, ap length c.as_slice-member-items.ensures.members)) c.loop-member.values _ _ _ c.loop-member.invariant.read c.in_ok-expect.ensures.reads.1
