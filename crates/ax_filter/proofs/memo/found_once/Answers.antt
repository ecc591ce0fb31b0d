use Rattle.std.proofs.Common.{arith, refl}
use Rattle.ax_filter.proofs.Memos.{recalls_one_more}
use Rattle.ax_expressions.specs.Plans.{finds}
use Rattle.ax_filter.proofs.memo.found_once.Goals as goal

pub returns-clause-answers : goal.returns-clause-answers
returns-clause-answers g c =
    recalls_one_more (finds c.args.one.now.questions.now (g.R.HasPlaces.entries c.args.one.now.record.now)) c.args.one.now.number c.args.answers.now _ c.args.question c.find-found.result refl (omega (arith, c.if-place-answers.false)) c.find-found.ensures c.requires.answers
