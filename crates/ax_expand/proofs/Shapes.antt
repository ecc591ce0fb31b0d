-- The item RE of the specification that stands for an expansion, and the values of its kind.
use Rattle.std.proofs.Common.{◌≡◌, ◌↔◌, IsTrue, Bool, List, [], ◌∷◌, map, Some, None, slice_get, sym, ◌∙◌, ap, subst}
use Rattle.ax_format.proofs.FittingShapes.{fits_shape, shape_fits}
use Rattle.ax_format.specs.Fitting.{kind_fits}
use Rattle.ax_format.proofs.VariantTrees.{marked_value}
use Rattle.ax_format.specs.Plain.{item_tree, kind_tree, slots_tree, spec_tree, value_tree, entries_tree}
use Rattle.ax_format.specs.Shape.{Shape, EntriesShape}
use Rattle.ax_format.specs.Specification.{ItemTree}
use Rattle.ax_format.specs.Tree.{KindTree, ValueTree, compound}
use Rattle.ax_format.specs.declared.spec.Item.{Item}
use Rattle.ax_format.specs.declared.spec.Spec.{Spec}
use Rattle.ax_format.specs.declared.value.Entry.{Entry}
use Rattle.ax_format.specs.declared.value.Value.{Value}
use Rattle.ax_format.specs.declared.value.Value.TheVariants as ValueOf
use Rattle.ax_values.specs.Writing.{AreEntriesOf}
use Rattle.ax_expand.proofs.ExpansionBounds.{slots_in_bounds}
use Rattle.ax_expand.specs.Expansion.{wrapped_tree, HasNoExpansionFlaw}
use Rattle.ax_expand.specs.declared.expansion.Expansion.{Expansion}

first_is : (items : List Item) (item : Item) (one : ItemTree) → map item_tree items ≡ one ∷ [] → slice_get items 0 ≡ Some item → item_tree item ≡ one
first_is [] item one e f = absurd cc
first_is (i ∷ items) item one e f = let here : i ≡ item = cc in ap item_tree (sym here) ∙ heads (item_tree i) one (map item_tree items) [] e
  where
    heads : (a b : ItemTree) (xs ys : List ItemTree) → a ∷ xs ≡ b ∷ ys → a ≡ b
    heads a b xs ys e = cc

one_item : (items : List Item) (one : ItemTree) → map item_tree items ≡ one ∷ [] → slice_get items 0 ≡ None → ⊥
one_item [] one e f = cc
one_item (i ∷ items) one e f = cc

same_shape : (k l : KindTree) (v : ValueTree) (fits : Bool) → k ≡ l → fits ≡ kind_fits k v → IsTrue fits ↔ Shape l v
same_shape k l v fits e is = ((λ h. subst (λ k. Shape k v) e (fits_shape k v (sym is ∙ h))), (λ h. is ∙ shape_fits k v (subst (λ k. Shape k v) (sym e) h)))

pub item_fits : (spec : Spec) (x : Expansion) (item : Item) (v : ValueTree) (fits : Bool) → spec_tree spec ≡ wrapped_tree x → slice_get spec.items 0 ≡ Some item → fits ≡ kind_fits (kind_tree item.kind) v → IsTrue fits ↔ Shape (compound (slots_tree x.slots)) v
item_fits spec x item v fits e f is = same_shape (kind_tree item.kind) (compound (slots_tree x.slots)) v fits (ap (λ i. i.kind) (first_is spec.items item _ (ap (λ s. s.items) e) f)) is

pub has_item : (spec : Spec) (x : Expansion) → spec_tree spec ≡ wrapped_tree x → slice_get spec.items 0 ≡ None → ⊥
has_item spec x e f = one_item spec.items _ (ap (λ s. s.items) e) f

-- a value of the shape is entries of the slots
pub entries_of : (x y : Expansion) (value : Value) (entries : List Entry) → y ≡ x → HasNoExpansionFlaw x → Shape (compound (slots_tree x.slots)) (value_tree value) → value ≡ ValueOf.Compound entries → AreEntriesOf (slots_tree y.slots) (entries_tree entries)
entries_of x y value entries e h shape is =
    let bounds = slots_in_bounds y x e h in record {
      shape = subst (λ x. EntriesShape 1 (slots_tree x.slots) (entries_tree entries)) (sym e) (subst (λ v. Shape (compound (slots_tree x.slots)) v) (ap value_tree is ∙ marked_value entries) shape);
      some = bounds.0;
      few = bounds.1;
      bounds = bounds.2;
    }

pub ruleset shapes = (item_fits, has_item)
