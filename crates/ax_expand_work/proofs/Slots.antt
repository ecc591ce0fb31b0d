-- Where RE stands, as the code finds it.
use Rattle.std.proofs.Common.{◌≡◌, ℕ, Bool, true, false, List, Option, Some, None, option_map, sym, ◌∙◌, ap, if◌then◌else◌}
use Rattle.ax_expand.specs.Expansion.{re}
use Rattle.ax_expand_work.specs.ExpandCommand.{is_explicit, where_explicit, re_frn}
use Rattle.ax_format.proofs.Lookups.{named_tree}
use Rattle.ax_format.specs.Lookup.{item_named}
use Rattle.ax_format.specs.Naming.{frn_of}
use Rattle.ax_format.specs.Plain.{kind_tree, item_tree, spec_tree}
use Rattle.ax_format.specs.declared.spec.Item.{Item}
use Rattle.ax_format.specs.declared.spec.Spec.{Spec}

by_item : (spec : Spec) (name : List ℕ) (o : Option Item) → name ≡ re → o ≡ item_named name spec.items → re_frn (spec_tree spec) ≡ where_explicit (option_map item_tree o) (frn_of 1 name spec.uap)
by_item spec name o is e =
    ap (λ i. where_explicit i (frn_of 1 re spec.uap)) (named_tree re spec.items ∙ ap (λ n. option_map item_tree (item_named n spec.items)) (sym is) ∙ ap (option_map item_tree) (sym e))
    ∙ ap (λ n. where_explicit (option_map item_tree o) (frn_of 1 n spec.uap)) (sym is)

pub no_item : (spec : Spec) (name : List ℕ) (o : Option Item) → name ≡ re → o ≡ item_named name spec.items → o ≡ None → None ≡ re_frn (spec_tree spec)
no_item spec name o is e none = sym (by_item spec name None is (sym none ∙ e))

pub item_there : (spec : Spec) (name : List ℕ) (o : Option Item) (item : Item) (explicit : Bool) (frn : Option ℕ) → name ≡ re → o ≡ item_named name spec.items → o ≡ Some item → explicit ≡ is_explicit (kind_tree item.kind) → explicit ≡ true
    → frn ≡ frn_of 1 name spec.uap → frn ≡ re_frn (spec_tree spec)
item_there spec name o item explicit frn is e some kind holds found =
    found ∙ sym (ap (λ b. if b then frn_of 1 name spec.uap else None) (sym kind ∙ holds)) ∙ sym (by_item spec name (Some item) is (sym some ∙ e))

pub other_kind : (spec : Spec) (name : List ℕ) (o : Option Item) (item : Item) (explicit : Bool) → name ≡ re → o ≡ item_named name spec.items → o ≡ Some item → explicit ≡ is_explicit (kind_tree item.kind) → explicit ≡ false → None ≡ re_frn (spec_tree spec)
other_kind spec name o item explicit is e some kind fails = sym (ap (λ b. if b then frn_of 1 name spec.uap else None) (sym kind ∙ fails)) ∙ sym (by_item spec name (Some item) is (sym some ∙ e))

pub ruleset slots = (no_item, item_there, other_kind)
