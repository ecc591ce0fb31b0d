use Rattle.std.proofs.Common.{◌≡◌, ◌+◌, ◌∙◌, ap, arith, sym, suc}
use Rattle.ax_migration.specs.Losing.{lost_line}
use Rattle.ax_moves.proofs.TellingSteps.{leaf_skipped, line_told}
use Rattle.ax_moves.proofs.ToldLines.{told_same}
use Rattle.ax_walk.specs.Shown.{item_value}
use Rattle.ax_moves.proofs.telling.tell_parts.Goals as goal

pub loop-index-preserved-then-is_there : goal.loop-index-preserved-then-is_there
loop-index-preserved-then-is_there c =
    let k = c.index-keys-index.result in
    let line = told_same (lost_line c.args.lost.now.name.block c.args.lost.now.name.number c.as_slice.result.now) (lost_line c.args.lost.now.name.block c.args.lost.now.name.number k.path.now.text) c.loop-index.end c.tell_line-end.result c.loop-index.lines c.tell_line-end.new.lines
    (ap (lost_line c.args.lost.now.name.block c.args.lost.now.name.number) (sym c.as_slice.ensures.octets)) c.tell_line-end.ensures.told in
    record {
      told = line_told c.args.lost.now.name.block c.args.lost.now.name.number c.args.lost.now.depth (item_value c.args.item.now) c.args.lost.now.keys.now c.loop-index.index k c.args.at c.loop-index.end c.args.lines.now c.loop-index.lines c.loop-index.invariant.told c.loop-index-test.true c.index-keys-index.is
          c.tell_line-end.result c.tell_line-end.new.lines (sym c.is_there.ensures.there ∙ c.if-is_there.true) line;
      within = omega (arith, c.loop-index-test.true);
      counted = c.is_there.ensures.counted;
    }

pub loop-index-preserved : goal.loop-index-preserved
loop-index-preserved c =
    let index = c.loop-index.index in
    let passed = c.min-index.result in
    record {
      told = leaf_skipped c.args.lost.now.name.block c.args.lost.now.name.number c.args.lost.now.depth (item_value c.args.item.now) c.args.lost.now.keys.now index c.index-keys-index.result c.args.at c.loop-index.end c.args.lines.now c.loop-index.lines c.loop-index.invariant.told c.loop-index-test.true c.index-keys-index.is
          passed (index + 1 + passed) (let e : index + 1 + passed ≡ index + suc passed = omega arith in e) (sym c.is_there.ensures.there ∙ c.if-is_there.false) (omega (arith, c.min-index.ensures));
      within = omega (arith, c.loop-index-test.true, c.min-index.ensures);
      counted = c.is_there.ensures.counted;
    }
