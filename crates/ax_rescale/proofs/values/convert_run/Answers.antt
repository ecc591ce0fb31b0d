use Rattle.std.proofs.Common.{length, ap, arith}
use Rattle.std.proofs.lemmas.List.{drop_all, length_push}
use Rattle.ax_format.proofs.Namings.{from_place}
use Rattle.ax_rescale.proofs.EachSteps.{each_ready, each_made, each_none, each_all}
use Rattle.ax_rescale.proofs.GroupSteps.{if_some, if_none}
use Rattle.ax_rescale.proofs.values.convert_run.Goals as goal

pub convert_fixed-requires-clause-shape : goal.convert_fixed-requires-clause-shape
convert_fixed-requires-clause-shape c = each_ready _ _ _ _ _ _ _ c.loop-value.invariant.1 (from_place _ _ _ c.loop-value-test.true c.value-item.is)

pub returns-in_default-clause-none : goal.returns-in_default-clause-none
returns-in_default-clause-none c =
    each_none _ _ _ _ _ _ _ c.loop-value.invariant.1 (from_place _ _ _ c.loop-value-test.true c.value-item.is) (if_none _ c.in_ok-one.field-0 c.in_default.is c.in_ok-one.ensures.none)

pub loop-value-preserved : goal.loop-value-preserved
loop-value-preserved c = (
  omega (arith, ap length c.in_ok-push.ensures.ok, length_push c.loop-value.made c.in-Some.one, c.loop-value.invariant.0),
  each_made _ _ _ _ _ _ _ c.loop-value.invariant.1 (from_place _ _ _ c.loop-value-test.true c.value-item.is) _ _ c.in_ok-push.ensures.ok (if_some _ c.in_ok-one.field-0 _ c.in-Some.is c.in_ok-one.ensures.some),
)

pub returns-clause-some : goal.returns-clause-some
returns-clause-some c = each_all _ _ _ _ _ c.loop-value.invariant.1 (drop_all _ _ c.loop-value-test.false)
