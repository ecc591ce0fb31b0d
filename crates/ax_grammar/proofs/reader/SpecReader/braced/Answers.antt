use Rattle.std.proofs.Common.{◌≡◌, ◌++◌, ◌∷◌, [], length, map, ap, arith, rules}
use Rattle.std.proofs.lemmas.List.{length_push, map_push}
use Rattle.std.proofs.lemmas.Result.{err_from_is_err_and}
use Rattle.ax_grammar.specs.Parsing.{list_at}
use Rattle.ax_grammar.proofs.Lists.{list_goes_on, braced_stops_before, braced_stops_within, braced_ends}
use Rattle.ax_grammar.proofs.reader.SpecReader.braced.Goals as goal

pub returns-in_err-takes : goal.returns-in_err-takes
returns-in_err-takes g c =
    let p = err_from_is_err_and c.from_residual-in_err-takes.result c.from_residual-in_err-takes.ensures.1 in
    rw (p.1, p.2) (braced_stops_before g.E.Braced.rule c.requires c.args.self.now c.expect.new.self c.loop-elements.self c.takes.new.self (map g.E.Braced.tree c.loop-elements.elements) c.in_err-takes.field-0.0 c.in_ok-expect.ensures.reads c.loop-elements.invariant.read c.in_err-takes.ensures.reads)

pub returns-in_err-element : goal.returns-in_err-element
returns-in_err-element g c =
    let p = err_from_is_err_and c.from_residual-in_err-element.result c.from_residual-in_err-element.ensures.1 in
    rw (p.1, p.2) (braced_stops_within g.E.Braced.rule c.requires c.args.self.now c.expect.new.self c.loop-elements.self c.takes.new.self c.read.new.reader (map g.E.Braced.tree c.loop-elements.elements) c.in_err-element.field-0.0 c.in_ok-expect.ensures.reads c.loop-elements.invariant.read (search rules) c.in_err-element.ensures)

pub push-requires : goal.push-requires
push-requires g c = record { room = omega (arith, c.loop-elements.invariant.few, c.in_ok-expect.ensures.moves, c.in_ok-expect.ensures.bound) }

pub loop-elements-preserved : goal.loop-elements-preserved
loop-elements-preserved g c =
    let pushed : c.push.new.self ≡ c.loop-elements.elements ++ c.in_ok-element.element ∷ [] = c.in_ok-push.ensures.ok in
    let count = length_push c.loop-elements.elements c.in_ok-element.element in
    let tree = g.E.Braced.tree in
    let views : map tree c.push.new.self ≡ map tree c.loop-elements.elements ++ tree c.in_ok-element.element ∷ [] = rw pushed (map_push _ c.loop-elements.elements c.in_ok-element.element) in
    record {
      read = rw views (list_goes_on g.E.Braced.rule (map tree c.loop-elements.elements) c.loop-elements.self c.takes.new.self c.read.new.reader (tree c.in_ok-element.element) (list_at g.E.Braced.rule c.expect.new.self) c.requires (search rules) c.in_ok-element.ensures c.loop-elements.invariant.read);
      few = omega (arith, ap length pushed, count, c.loop-elements.invariant.few, c.requires c.takes.new.self (tree c.in_ok-element.element) c.read.new.reader c.in_ok-element.ensures, c.in_ok-takes.ensures.moves);
    }

pub returns : goal.returns
returns g c =
    braced_ends g.E.Braced.rule c.requires c.args.self.now c.expect.new.self c.loop-elements.self c.takes.new.self (map g.E.Braced.tree c.loop-elements.elements) c.in_ok-expect.ensures.reads c.loop-elements.invariant.read (search rules)
