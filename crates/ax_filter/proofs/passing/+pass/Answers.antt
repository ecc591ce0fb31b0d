use Rattle.std.proofs.Common.{rules}
use Rattle.ax_expressions.proofs.Trees.{all_passes, some_pass, same_place}
use Rattle.ax_filter.proofs.passing.+pass.Goals as goal

pub passes-returns-in-All : goal.passes-returns-in-All
passes-returns-in-All g t c = all_passes _ _ _ _ _ c.in-All.is c.all_pass.ensures

pub passes-returns-in-Any : goal.passes-returns-in-Any
passes-returns-in-Any g t c = some_pass _ _ _ _ _ c.in-Any.is c.any_passes.ensures

pub passes-returns-then-own-category : goal.passes-returns-then-own-category
passes-returns-then-own-category g t c = same_place _ _ _ _ _ _ c.in-Present.is (search rules) c.stands.ensures
