use Rattle.std.proofs.Common.{◌≡◌, ◌<◌, length, arith, rules}
use Rattle.ax_uap.proofs.Categories.{still_clean}
use Rattle.ax_uap.proofs.Places.{placed_still, placed_more}
use Rattle.ax_uap.proofs.by_category.ByCategory.push.Goals as goal

pub invariant_of-self-then-self-category-eq0 : goal.invariant_of-self-then-self-category-eq0
invariant_of-self-then-self-category-eq0 g c =
    let each = c.self.inside.each.items in
    let new = c.push.new.self.items in
    let few : c.spec.result.now.category < 256 = search rules in
    let count : c.len.result ≡ length new = search rules in (
      still_clean g.T.OfSpec.of each new c.args.one c.self.invariant.0 c.requires c.in_ok-push.ensures.items,
      placed_more g.T.OfSpec.of each new c.args.one c.spec.result.now c.self.inside.places c.in_ok-push.ensures.items c.spec.ensures c.self.invariant.1 c.len.result c.if-self-category-eq0.true few count,
    )

pub invariant_of-self-else-self-category-eq0 : goal.invariant_of-self-else-self-category-eq0
invariant_of-self-else-self-category-eq0 g c =
    let each = c.self.inside.each.items in
    let new = c.push.new.self.items in (
      still_clean g.T.OfSpec.of each new c.args.one c.self.invariant.0 c.requires c.in_ok-push.ensures.items,
      placed_still g.T.OfSpec.of each new c.args.one c.spec.result.now c.self.inside.places c.in_ok-push.ensures.items c.spec.ensures c.self.invariant.1 c.if-self-category-eq0.false,
    )
