-- The canonical spelling of an item's value, from its octets.
use Rattle.std.proofs.Common.{◌≡◌, ℕ, ◌-◌, ◌<◌, ◌≤◌, ◌⊎◌, inl, inr, false, List, length, get_or, refl, sym, ◌∙◌, ap, arith, subst}
use Rattle.ax_bits.specs.Bits.{bits}
use Rattle.ax_bits.specs.Out.{Appends}
use Rattle.ax_bits.specs.declared.output.Out.{Out}
use Rattle.ax_canon.specs.Rewriting.{Rewrites}
use Rattle.ax_fspec.specs.declared.mask.SlotMask.{SlotMask}
use Rattle.ax_format.specs.Canonical.{canon}
use Rattle.ax_format.specs.InBounds.{InBounds}
use Rattle.ax_format.specs.Reader.{read}
use Rattle.ax_format.specs.declared.kind.Counter.{Counter}
use Rattle.ax_format.specs.Tree.{KindTree, counted, ValueTree}
use Rattle.ax_format.specs.declared.fault.BodyFault.{BodyFault}
use Rattle.ax_fspec.specs.Reading.{Gets, FailsAt, IsMaskOf, kind_read}
use Rattle.ax_codec.specs.Meaning.{meanings, linked_slots}
use Rattle.ax_codec.specs.Table.{SlotLinksWithin, kind_at, record_kind_at}
use Rattle.ax_codec.specs.declared.node.Node.{Node}
use Rattle.ax_codec.specs.declared.node.Node.TheVariants as Of
use Rattle.ax_walk.proofs.NodeKinds.{is_element, is_group, is_part, is_extended, is_counted, counted_link, is_by_fx, is_explicit, is_compound, compound_links, compound_mask}
use Rattle.ax_walk.specs.Plain.{IsPlain}
use Rattle.ax_walk.proofs.Spelled.{leaf_canonical}
use Rattle.ax_walk.specs.Shown.{item_kind, item_value}
use Rattle.ax_walk.specs.Values.{IsAll, IsOne, IsItemOf, ItemInBounds, value_in, value_read}
use Rattle.ax_walk.specs.declared.item.ItemView.{ItemView}

-- what is written of all the octets is the spelling of their value
pub rewritten : (k : KindTree) (octets : List ℕ) (end : ℕ) (old new : Out) → IsOne k octets → Rewrites (canon k) (kind_read k octets 0) octets 0 end old new → Appends old new (canon k (value_in k octets))
unfolding kind_read value_in
rewritten k octets end old new one r = by r.state
  where
    by : ((v : ValueTree) × Gets (read k (bits octets)) octets 0 end v × Appends old new (canon k v)) ⊎ ((fault : BodyFault) × FailsAt (read k (bits octets)) 0 fault) → Appends old new (canon k (value_read (read k (bits octets))))
    by (inl (v, g, a)) = subst (λ v. Appends old new (canon k v)) (sym (ap value_read g.got)) a
    by (inr (fault, l)) = absurd (subst IsAll l.failed one.all)

module _ (item : ItemView) (whole : item.by_fx ≡ false) (one : Node) (at : one ≡ get_or item.codec.now.nodes (item.link - 1) one) where
  item_bounds : InBounds (item_kind item)
  item_bounds = subst (λ fx. ItemInBounds fx (item_kind item)) whole item.item.bounds

  item_one : IsOne (item_kind item) item.body.now
  item_one = subst (λ fx. IsItemOf fx (item_kind item) item.body.now) whole item.item.one

  written_as : (k : KindTree) (octets : List ℕ) (end : ℕ) (old new : Out) → item_kind item ≡ k → octets ≡ item.body.now → Rewrites (canon k) (kind_read k octets 0) octets 0 end old new → Appends old new (canon (item_kind item) (item_value item))
  written_as k octets end old new e f r =
      let same = subst (λ xs. Rewrites (canon k) (kind_read k xs 0) xs 0 end old new) f r in
      rewritten (item_kind item) item.body.now end old new item_one (subst (λ k. Rewrites (canon k) (kind_read k item.body.now 0) item.body.now 0 end old new) (sym e) same)

  module _ (ns : List Node) (same : ns ≡ item.codec.now.nodes) where
    -- ---- counted

    module _ (size : Counter) (inner : ℕ) (is : one ≡ Of.Counted size inner) where
      counted_is : item_kind item ≡ counted size (kind_at item.codec.now.nodes inner)
      counted_is = is_counted item.codec.now.nodes item.link one item.codec.now.table item.item.some item.item.within at size inner is

      pub inner_link : (0 < inner) × (inner ≤ length ns)
      inner_link =
          let l = counted_link item.codec.now.nodes item.link one item.codec.now.table item.item.some item.item.within at size inner is in
          (l.0, omega (arith, l.1, item.item.within, ap length same))

      pub inner_bounds : InBounds (kind_at ns inner)
      inner_bounds = let b : InBounds (counted size (kind_at item.codec.now.nodes inner)) = subst InBounds counted_is item_bounds in subst (λ ns. InBounds (kind_at ns inner)) (sym same) b

      pub counted_item : (octets : List ℕ) (end : ℕ) (old new : Out) → octets ≡ item.body.now → Rewrites (canon (counted size (kind_at ns inner))) (kind_read (counted size (kind_at ns inner)) octets 0) octets 0 end old new → Appends old new (canon (item_kind item) (item_value item))
      counted_item octets end old new f r = written_as (counted size (kind_at ns inner)) octets end old new (counted_is ∙ ap (λ ns. counted size (kind_at ns inner)) (sym same)) f r

    -- ---- compounds

    module _ (mask : SlotMask) (links found : List ℕ) (is : one ≡ Of.Compound mask links) (f : found ≡ links) where
      compound_is : item_kind item ≡ record_kind_at item.codec.now.nodes found
      compound_is = is_compound item.codec.now.nodes item.link one item.codec.now.table item.item.some item.item.within at mask links found is f

      pub item_links : SlotLinksWithin (length ns) found
      item_links = subst (λ ns. SlotLinksWithin (length ns) found) (sym same) (compound_links item.codec.now.nodes item.link one item.codec.now.table item.item.some item.item.within at mask links found is f)

      pub item_mask : IsMaskOf (linked_slots (meanings ns) found) mask
      item_mask = subst (λ ns. IsMaskOf (linked_slots (meanings ns) found) mask) (sym same) (compound_mask item.codec.now.nodes item.link one item.codec.now.table item.item.some item.item.within at mask links found is f)

      pub slots_bound : InBounds (record_kind_at ns found)
      slots_bound = subst (λ ns. InBounds (record_kind_at ns found)) (sym same) (subst InBounds compound_is item_bounds)

      pub compound_item : (octets : List ℕ) (end : ℕ) (old new : Out) → octets ≡ item.body.now → Rewrites (canon (record_kind_at ns found)) (kind_read (record_kind_at ns found) octets 0) octets 0 end old new → Appends old new (canon (item_kind item) (item_value item))
      compound_item octets end old new g r = written_as (record_kind_at ns found) octets end old new (compound_is ∙ ap (λ ns. record_kind_at ns found) (sym same)) g r

  -- ---- any other kind

  plain_node : (n : Node) → one ≡ n → ((size : Counter) (inner : ℕ) → one ≡ Of.Counted size inner → ⊥) → ((mask : SlotMask) (links : List ℕ) → one ≡ Of.Compound mask links → ⊥) → IsPlain (item_kind item)
  plain_node (Of.Element w) e c d = subst IsPlain (sym (is_element item.codec.now.nodes item.link one item.codec.now.table item.item.some item.item.within at w e)) tt
  plain_node (Of.Group w links) e c d = subst IsPlain (sym (is_group item.codec.now.nodes item.link one item.codec.now.table item.item.some item.item.within at w links e)) tt
  plain_node (Of.Part w links) e c d = absurd (is_part item.codec.now.nodes item.link one item.codec.now.table item.item.some item.item.within at w links e item_bounds)
  plain_node (Of.Extended last links) e c d = subst IsPlain (sym (is_extended item.codec.now.nodes item.link one item.codec.now.table item.item.some item.item.within at last links links e refl)) tt
  plain_node (Of.Counted size inner) e c d = absurd (c size inner e)
  plain_node (Of.ByFx inner) e c d = subst IsPlain (sym (is_by_fx item.codec.now.nodes item.link one item.codec.now.table item.item.some item.item.within at inner e)) tt
  plain_node Of.Explicit e c d = subst IsPlain (sym (is_explicit item.codec.now.nodes item.link one item.codec.now.table item.item.some item.item.within at e)) tt
  plain_node (Of.Compound mask links) e c d = absurd (d mask links e)

  pub plain_item : (octets : List ℕ) (old new : Out) → ((size : Counter) (inner : ℕ) → one ≡ Of.Counted size inner → ⊥) → ((mask : SlotMask) (links : List ℕ) → one ≡ Of.Compound mask links → ⊥) → octets ≡ item.body.now → Appends old new (bits octets)
      → Appends old new (canon (item_kind item) (item_value item))
  plain_item octets old new c d f a = subst (Appends old new) (ap bits f ∙ sym (leaf_canonical (item_kind item) item.body.now (plain_node one refl c d) item_bounds item_one)) a
