use Rattle.std.proofs.Common.{◌≡◌, ◌<◌, length, get_or, ap, subst, sym, ◌∙◌, decimal, drop, take}
use Rattle.ax_bits.specs.Bits.{bits, number_of}
use Rattle.ax_format.specs.Plain.{member_tree}
use Rattle.ax_format.specs.Tree.{member_and, no_members}
use Rattle.ax_text_form.proofs.Printed.{both_put}
use Rattle.ax_text_form.specs.Printing.{after_spaces, Puts}
use Rattle.ax_text_form.specs.ValueText.{one_onto, spare_word}
use Rattle.ax_text_lines.specs.Prints.{members_read_onto}
use Rattle.ax_text_lines.proofs.FixedPrinted.{printed_more, spare_tree}
use Rattle.ax_text_lines.proofs.fixed.+print_fixed.Goals as goal

pub print_members-loop-member-preserved : goal.print_members-loop-member-preserved
print_members-loop-member-preserved t c =
    let all = c.args.members.now in
    let i = c.loop-member.member-index in
    let m = c.member-item.result in
    let same = c.as_slice-member-items.ensures.members in
    let within : i < length all = subst (λ xs. i < length xs) same c.loop-member-test.true in
    let is : m ≡ get_or all i m = subst (λ xs. m ≡ get_or xs i m) same c.member-item.is in
    printed_more all i m (bits c.args.body.now) c.args.at.now c.loop-member.at c.print_member.new.at c.args.line.now.octets c.loop-member.line.octets c.print_member.new.line.octets c.loop-member.invariant within is c.in_ok-print_member.ensures.text c.in_ok-print_member.ensures.at

pub print_member-returns-in_ok-print_number-in-Spare-clause-text : goal.print_member-returns-in_ok-print_number-in-Spare-clause-text
print_member-returns-in_ok-print_number-in-Spare-clause-text t c =
    let b = drop c.args.at.now (bits c.args.body.now) in
    subst (λ m. Puts after_spaces (members_read_onto (member_and m no_members) b) c.args.line.now.octets c.print_number.new.line.octets) (sym (ap member_tree c.in-Spare.is ∙ spare_tree c.in-Spare.width))
    (both_put (one_onto spare_word) (one_onto (decimal (number_of (take c.in-Spare.width b)))) c.args.line.now.octets c.text.new.self.octets c.print_number.new.line.octets c.in_ok-text-in-Spare.ensures.appended c.in_ok-print_number-in-Spare.ensures.text)
