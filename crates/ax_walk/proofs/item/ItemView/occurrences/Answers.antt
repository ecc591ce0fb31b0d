use Rattle.std.proofs.Common.{drop, false, refl, subst, sym, true}
use Rattle.ax_format.specs.Widths.{counter_octets}
use Rattle.ax_codec.specs.declared.node.Node.TheVariants as Of
use Rattle.ax_walk.proofs.ItemPieces.{fx_bounds, fx_link, fx_one, fx_values, inner_bounds, inner_link, inner_one, inner_values, no_occurrences, occurrences_by}
use Rattle.ax_walk.specs.Shown.{AreOccurrences, IsOccurrences}
use Rattle.ax_codec.specs.Table.{kind_at}
use Rattle.ax_walk.specs.Left.{occurrences_left, occurrences_shown}
use Rattle.ax_walk.specs.Pieces.{pieces}
use Rattle.ax_walk.proofs.item.ItemView.occurrences.Goals.{in-ByFx, in-Counted, in_default}
use Rattle.ax_walk.proofs.item.ItemView.occurrences.Goals as goal

pub counted-requires-clause-link : goal.counted-requires-clause-link
counted-requires-clause-link c = inner_link c.args.self.now.codec.now c.args.self.now.link c.args.self.now.by_fx c.args.self.now.body.now c.node.result.now c.args.self.now.item c.node.ensures c.in-Counted.counter c.in-Counted.inner c.in-Counted.is

pub counted-requires-clause-bounds : goal.counted-requires-clause-bounds
counted-requires-clause-bounds c = inner_bounds c.args.self.now.codec.now c.args.self.now.link c.args.self.now.by_fx c.args.self.now.body.now c.node.result.now c.args.self.now.item c.node.ensures c.in-Counted.counter c.in-Counted.inner c.in-Counted.is

pub counted-requires-clause-one : goal.counted-requires-clause-one
counted-requires-clause-one c = inner_one c.args.self.now.codec.now c.args.self.now.link c.args.self.now.by_fx c.args.self.now.body.now c.node.result.now c.args.self.now.item c.node.ensures c.in-Counted.counter c.in-Counted.inner c.in-Counted.is

pub by_fx-requires-clause-link : goal.by_fx-requires-clause-link
by_fx-requires-clause-link c = fx_link c.args.self.now.codec.now c.args.self.now.link c.args.self.now.by_fx c.args.self.now.body.now c.node.result.now c.args.self.now.item c.node.ensures c.in-ByFx.inner c.in-ByFx.is

pub by_fx-requires-clause-bounds : goal.by_fx-requires-clause-bounds
by_fx-requires-clause-bounds c = fx_bounds c.args.self.now.codec.now c.args.self.now.link c.args.self.now.by_fx c.args.self.now.body.now c.node.result.now c.args.self.now.item c.node.ensures c.in-ByFx.inner c.in-ByFx.is

pub by_fx-requires-clause-one : goal.by_fx-requires-clause-one
by_fx-requires-clause-one c = fx_one c.args.self.now.codec.now c.args.self.now.link c.args.self.now.by_fx c.args.self.now.body.now c.node.result.now c.args.self.now.item c.node.ensures c.in-ByFx.inner c.in-ByFx.is

pub returns : goal.returns
returns c = elim c.match-node.branch [
  | in-Counted w ↦ subst (λ m. IsOccurrences c.args.self.now (occurrences_shown m.0.now m.1.0 m.1.1.0 (pieces m.1.1.0 (kind_at m.0.now.nodes m.1.0) m.1.1.1.0 m.1.1.1.1.0.now))) (sym w.result-is)
      (occurrences_by c.args.self.now c.node.result.now c.args.self.now.item.some c.args.self.now.item.within c.node.ensures (occurrences_left w.counted.result) (Of.Counted w.in-Counted.counter w.in-Counted.inner) w.in-Counted.is
      (subst (λ vs. AreOccurrences c.args.self.now.codec.now w.in-Counted.inner false (drop (counter_octets w.in-Counted.counter) c.args.self.now.body.now) vs (occurrences_left w.counted.result)) (inner_values c.args.self.now.codec.now c.args.self.now.link c.args.self.now.by_fx c.args.self.now.body.now c.node.result.now c.args.self.now.item c.node.ensures w.in-Counted.counter w.in-Counted.inner w.in-Counted.is) w.counted.ensures))
  | in-ByFx w ↦ subst (λ m. IsOccurrences c.args.self.now (occurrences_shown m.0.now m.1.0 m.1.1.0 (pieces m.1.1.0 (kind_at m.0.now.nodes m.1.0) m.1.1.1.0 m.1.1.1.1.0.now))) (sym w.result-is)
      (occurrences_by c.args.self.now c.node.result.now c.args.self.now.item.some c.args.self.now.item.within c.node.ensures (occurrences_left w.by_fx.result) (Of.ByFx w.in-ByFx.inner) w.in-ByFx.is
      (subst (λ vs. AreOccurrences c.args.self.now.codec.now w.in-ByFx.inner true c.args.self.now.body.now vs (occurrences_left w.by_fx.result)) (fx_values c.args.self.now.codec.now c.args.self.now.link c.args.self.now.by_fx c.args.self.now.body.now c.node.result.now c.args.self.now.item c.node.ensures w.in-ByFx.inner w.in-ByFx.is) w.by_fx.ensures))
  | in_default w ↦ subst (λ m. IsOccurrences c.args.self.now (occurrences_shown m.0.now m.1.0 m.1.1.0 (pieces m.1.1.0 (kind_at m.0.now.nodes m.1.0) m.1.1.1.0 m.1.1.1.1.0.now))) (sym w.result-is)
      (no_occurrences c.args.self.now c.node.result.now c.args.self.now.item.some c.args.self.now.item.within c.node.ensures (occurrences_left w.none.result) c.node.result.now refl w.in_default.not-Counted w.in_default.not-ByFx w.none.ensures)
]
