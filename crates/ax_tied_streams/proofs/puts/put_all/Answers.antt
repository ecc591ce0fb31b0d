use Rattle.std.proofs.Common.{◌+◌, arith, inl}
use Rattle.ax_tied_streams.proofs.Steps.{appends_all, appends_in_two}
use Rattle.ax_tied_streams.proofs.puts.put_all.Goals as goal

pub returns-then-count-lines : goal.returns-then-count-lines
returns-then-count-lines g c = let leading = c.args.leading in (
  leading + c.put-3.result,
  record {
    within = c.if-count-lines.true;
    lines = appends_in_two _ _ _ c.args.lines.now c.put-count.result leading c.put-3.result c.if-count-leading.false c.put-count.ensures.within c.put-count.ensures.adds c.put-3.ensures.adds;
    rest = omega (arith, c.if-count-lines.true);
  },
  inl (omega arith, appends_all _ _ c.args.octets.now c.put-2.result c.if-put-octets.false c.put-2.ensures.adds),
)
