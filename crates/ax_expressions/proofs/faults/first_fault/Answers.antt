use Rattle.std.proofs.Common.{arith, rules}
use Rattle.ax_format.specs.Plain.{catalogue_tree}
use Rattle.ax_tokens.specs.PlainToken.{plain_token}
use Rattle.ax_expressions.proofs.Leads.{found, no_fault, one_more, still_after, to_the_end}
use Rattle.ax_expressions.proofs.faults.first_fault.Goals as goal

pub returns-then-is_some : goal.returns-then-is_some
returns-then-is_some c =
    found (catalogue_tree c.args.catalogue.now) c.args.tokens.now c.loop-number.number c.args.end (plain_token c.in-Some.token.now) c.loop-number.after_is c.in_ok-fault.fault (search rules) (omega arith) (search rules) c.loop-number.invariant.after c.in_ok-fault.ensures
    c.loop-number.invariant.before

pub loop-number-preserved : goal.loop-number-preserved
loop-number-preserved c = record {
  before =
      one_more (catalogue_tree c.args.catalogue.now) c.args.tokens.now c.loop-number.number (plain_token c.in-Some.token.now) c.loop-number.after_is (search rules) c.loop-number.invariant.after
      (no_fault (catalogue_tree c.args.catalogue.now) c.in-Some.token.now.text.now c.loop-number.after_is c.loop-number.number c.in_ok-fault.fault (search rules) c.in_ok-fault.ensures)
      c.loop-number.invariant.before;
  after = still_after c.args.tokens.now c.loop-number.number (plain_token c.in-Some.token.now) c.eq-after_is.result (search rules) (search rules);
}

pub returns : goal.returns
returns c = to_the_end (catalogue_tree c.args.catalogue.now) _ c.loop-number.number c.args.end (omega arith) c.loop-number.invariant.before
