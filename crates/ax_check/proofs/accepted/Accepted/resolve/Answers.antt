use Rattle.std.proofs.Common.{◌≡◌, ◌∷◌, None, rules, sym, ◌∙◌, ap}
use Rattle.ax_check.proofs.Walks.{no_item}
use Rattle.ax_format.specs.Lookup.{item_named}
use Rattle.ax_check.proofs.accepted.Accepted.resolve.Goals as goal

pub returns-in_default-item : goal.returns-in_default-item
returns-in_default-item c =
    let path : c.args.path.now ≡ c.in-Some.name.now ∷ c.in-Some.names.now = search rules in
    let none : item_named c.in-Some.name.now c.spec-spec.result.now.items ≡ None = search rules in
    let same = ap (λ s. item_named c.in-Some.name.now s.items) c.spec-spec.ensures.spec in
    no_item c.args.self.now c.args.path.now c.in-Some.names.now c.in-Some.name.now path (sym same ∙ none)

pub returns-in_err-walk_kind : goal.returns-in_err-walk_kind
returns-in_err-walk_kind c = search rules
