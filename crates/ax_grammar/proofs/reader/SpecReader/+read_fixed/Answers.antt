use Rattle.std.proofs.Common.{◌≡◌, ◌++◌, ◌∷◌, [], length, map, ap, arith, rules}
use Rattle.std.proofs.lemmas.List.{length_push, map_push}
use Rattle.std.proofs.lemmas.Result.{err_from_is_err_and}
use Rattle.ax_format.specs.Plain.{member_tree}
use Rattle.ax_grammar.specs.Parsing.{list_at}
use Rattle.ax_grammar.specs.Rules.{member_at}
use Rattle.ax_format.proofs.VariantTrees.{element_tree}
use Rattle.ax_grammar.proofs.Cases.{element_read, group_gives}
use Rattle.ax_grammar.proofs.Lists.{list_goes_on, braced_stops_before, braced_stops_within, braced_ends}
use Rattle.ax_grammar.proofs.Recursive.{member_shrinks}
use Rattle.ax_grammar.proofs.reader.SpecReader.+read_fixed.Goals as goal

pub members-returns-in_err-takes : goal.members-returns-in_err-takes
members-returns-in_err-takes t c =
    let p = err_from_is_err_and c.from_residual-in_err-takes.result c.from_residual-in_err-takes.ensures.1 in
    rw (p.1, p.2) (braced_stops_before member_at member_shrinks c.args.self.now c.expect.new.self c.loop-members.self c.takes.new.self (map member_tree c.loop-members.members) c.in_err-takes.field-0.0 c.in_ok-expect.ensures.reads c.loop-members.invariant.read c.in_err-takes.ensures.reads)

pub members-returns-in_err-member : goal.members-returns-in_err-member
members-returns-in_err-member t c =
    let p = err_from_is_err_and c.from_residual-in_err-member.result c.from_residual-in_err-member.ensures.1 in
    rw (p.1, p.2) (braced_stops_within member_at member_shrinks c.args.self.now c.expect.new.self c.loop-members.self c.takes.new.self c.member.new.self (map member_tree c.loop-members.members) c.in_err-member.field-0.0 c.in_ok-expect.ensures.reads c.loop-members.invariant.read (search rules) c.in_err-member.ensures)

pub members-push-requires : goal.members-push-requires
members-push-requires t c = record { room = omega (arith, c.loop-members.invariant.few, c.in_ok-expect.ensures.moves, c.in_ok-expect.ensures.bound) }

pub members-loop-members-preserved : goal.members-loop-members-preserved
members-loop-members-preserved t c =
    let pushed : c.push.new.self ≡ c.loop-members.members ++ c.in_ok-member.member ∷ [] = c.in_ok-push.ensures.ok in
    let count = length_push c.loop-members.members c.in_ok-member.member in
    let views : map member_tree c.push.new.self ≡ map member_tree c.loop-members.members ++ member_tree c.in_ok-member.member ∷ [] = rw pushed (map_push _ c.loop-members.members c.in_ok-member.member) in
    record {
      read = rw views (list_goes_on member_at (map member_tree c.loop-members.members) c.loop-members.self c.takes.new.self c.member.new.self (member_tree c.in_ok-member.member) (list_at member_at c.expect.new.self) member_shrinks (search rules) c.in_ok-member.ensures c.loop-members.invariant.read);
      few = omega (arith, ap length pushed, count, c.loop-members.invariant.few, member_shrinks c.takes.new.self (member_tree c.in_ok-member.member) c.member.new.self c.in_ok-member.ensures, c.in_ok-takes.ensures.moves);
    }

pub members-loop-members-smaller : goal.members-loop-members-smaller
members-loop-members-smaller t c = omega (arith, member_shrinks c.takes.new.self (member_tree c.in_ok-member.member) c.member.new.self c.in_ok-member.ensures, c.in_ok-takes.ensures.moves)

pub members-returns : goal.members-returns
members-returns t c =
    braced_ends member_at member_shrinks c.args.self.now c.expect.new.self c.loop-members.self c.takes.new.self (map member_tree c.loop-members.members) c.in_ok-expect.ensures.reads c.loop-members.invariant.read (search rules)

pub fixed-returns-in_ok-content-in-Element : goal.fixed-returns-in_ok-content-in-Element
fixed-returns-in_ok-content-in-Element t c =
    element_read c.args.self.now c.skip.new.self c.width.new.self c.content.new.self c.in_ok-width-in-Element.width c.in_ok-content-in-Element.content _ (element_tree c.in_ok-width-in-Element.width c.in_ok-content-in-Element.content) (search rules) c.in_ok-width-in-Element.ensures c.in_ok-content-in-Element.ensures

pub fixed-returns-in-Group : goal.fixed-returns-in-Group
fixed-returns-in-Group t c = group_gives c.args.self.now c.skip-in-Group.new.self c.members.new.self c.members.result c.map.result (search rules) c.members.ensures c.map.ensures.cases
