-- Numbers in items of fixed octets, where it is known where they stand.
use Rattle.std.proofs.Common.{◌≡◌, ℕ, zero, suc, ◌+◌, ◌-◌, ◌*◌, ◌^◌, ◌<◌, ◌≤◌, List, [], ◌∷◌, Some, None, length, take, drop, get_or, option_and_then, refl, sym, ◌∙◌, ap, arith, subst}
use Rattle.ax_bits.proofs.Pieces.{number-word}
use Rattle.ax_bits.specs.Bits.{bits, word, number_of}
use Rattle.ax_format.specs.At.{At, number_at, number_of_value, slot_value, value_at}
use Rattle.ax_format.specs.InBounds.{InBounds, FixedInBounds, SlotsInBounds}
use Rattle.ax_format.specs.Reader.{fixed_value}
use Rattle.ax_format.specs.Tree.{FixedTree, EntriesTree, element, fixed, slots_of}
use Rattle.ax_format.specs.Widths.{width}
use Rattle.ax_format.specs.declared.content.Content.TheVariants.{Raw}
use Rattle.ax_format.specs.declared.place.Place.{Place}
use Rattle.ax_codec.proofs.Tables.{link_means}
use Rattle.ax_codec.specs.Meaning.{fixed_bits, fixed_of, linked, linked_slots, meaning, meanings}
use Rattle.ax_codec.specs.Table.{IsTable, kind_at}
use Rattle.ax_codec.specs.declared.codec.Codec.{Codec}
use Rattle.ax_codec.specs.declared.node.Node.{Node}
use Rattle.ax_codec.specs.declared.node.Node.TheVariants as Of
use Rattle.ax_walk.proofs.Compounds.{slots_bounds}
use Rattle.ax_walk.proofs.ItemSteps.{ItemIn, fixed_room, fixed_whole, item_in}
use Rattle.ax_walk.proofs.MarkedSteps.{within_at}
use Rattle.ax_walk.proofs.NodeKinds.{is_element, is_group}
use Rattle.ax_walk.specs.FixedSpots.{IsFixedSpot, fixed_at, slot_link}
use Rattle.ax_walk.specs.Shown.{IsOfSlot, item_value}
use Rattle.ax_walk.specs.Spots.{FindsFixed}
use Rattle.ax_walk.specs.Values.{IsOne, value_in}
use Rattle.ax_walk.specs.declared.fixed_spot.FixedSpot.{FixedSpot}
use Rattle.ax_walk.specs.declared.item.ItemView.{ItemView}

-- ---- where it stands

bounds_at : (nodes : List Node) (links : List ℕ) (i : ℕ) → SlotsInBounds (slots_of (linked_slots (meanings nodes) links)) → 0 < get_or links i 0 → InBounds (kind_at nodes (get_or links i 0))
unfolding kind_at meanings
bounds_at nodes [] i h some = absurd (omega (arith, some))
bounds_at nodes (zero ∷ links) zero h some = absurd (omega (arith, some))
bounds_at nodes (suc l ∷ links) zero h some = h.0
bounds_at nodes (zero ∷ links) (suc i) h some = bounds_at nodes links i h some
bounds_at nodes (suc l ∷ links) (suc i) h some = bounds_at nodes links i h.1 some

module _ (codec : Codec) (place : Place) (nodes : List Node) (links : List ℕ) (one : Node) (n : nodes ≡ codec.nodes) (l : links ≡ codec.slots) (some : 0 < get_or links (place.frn - 1) 0)
    (there : place.frn - 1 < length links) (at : one ≡ get_or nodes (get_or links (place.frn - 1) 0 - 1) one) (wide : 0 < fixed_bits one) where
  abbrev link : ℕ
  link = get_or links (place.frn - 1) 0

  within : link ≤ length nodes
  within =
      subst (λ (ns : List Node). link ≤ length ns) (sym n)
      (subst (λ (ls : List ℕ). get_or ls (place.frn - 1) 0 ≤ length codec.nodes) (sym l)
      (within_at (length codec.nodes) codec.slots (place.frn - 1) 0 codec.records.within (subst (λ (ls : List ℕ). place.frn - 1 < length ls) l there)))

  table : IsTable nodes
  table = subst IsTable (sym n) codec.table

  slots : SlotsInBounds (slots_of (linked_slots (meanings nodes) links))
  slots =
      subst (λ (ls : List ℕ). SlotsInBounds (slots_of (linked_slots (meanings nodes) ls))) (sym l)
      (subst (λ (ns : List Node). SlotsInBounds (slots_of (linked_slots (meanings ns) codec.slots))) (sym n) (slots_bounds codec.nodes codec.slots codec.records.bounds))

  means : (node : Node) → one ≡ node → fixed_of (linked (meanings nodes) link) ≡ fixed_of (meaning (meanings nodes) node)
  means node e = ap fixed_of (link_means nodes link one table some within at ∙ ap (meaning (meanings nodes)) e)

  fixed_kind : (node : Node) → one ≡ node → 0 < fixed_bits node → kind_at nodes link ≡ fixed (fixed_of (linked (meanings nodes) link))
  fixed_kind (Of.Element w) e wide = is_element nodes link one table some within at w e ∙ ap (λ f. fixed f) (sym (means (Of.Element w) e))
  fixed_kind (Of.Group w members) e wide = is_group nodes link one table some within at w members e ∙ ap (λ f. fixed f) (sym (means (Of.Group w members) e))
  fixed_kind (Of.Part w members) e wide = absurd (omega (arith, wide))
  fixed_kind (Of.Extended last parts) e wide = absurd (omega (arith, wide))
  fixed_kind (Of.Counted size inner) e wide = absurd (omega (arith, wide))
  fixed_kind (Of.ByFx inner) e wide = absurd (omega (arith, wide))
  fixed_kind Of.Explicit e wide = absurd (omega (arith, wide))
  fixed_kind (Of.Compound mask inner) e wide = absurd (omega (arith, wide))

  in_bounds : InBounds (fixed (fixed_of (linked (meanings nodes) link)))
  in_bounds = subst InBounds (fixed_kind one refl wide) (bounds_at nodes links (place.frn - 1) slots some)

  pub fixed_bounds : FixedInBounds (fixed_of (linked (meanings nodes) link))
  fixed_bounds = in_bounds.2

  pub fixed_fits : 0 + width (fixed_of (linked (meanings nodes) link)) ≤ 524256
  fixed_fits = let b = in_bounds.1 in omega (arith, b)

  pub spot_known : (spot : FixedSpot) (last : ℕ) (ends : Node) → FindsFixed nodes (fixed_of (linked (meanings nodes) link)) 0 place.steps last spot.bit → ends ≡ get_or nodes (last - 1) ends → ends ≡ Of.Element spot.width → IsFixedSpot codec place spot
  spot_known spot last ends finds there e = record {
    item = subst (λ (ls : List ℕ). kind_at codec.nodes (get_or ls (place.frn - 1) 0) ≡ fixed (fixed_at codec (get_or ls (place.frn - 1) 0))) l
        (subst (λ (ns : List Node). kind_at ns link ≡ fixed (fixed_of (linked (meanings ns) link))) n (fixed_kind one refl wide));
    last = last;
    finds = subst (λ (ls : List ℕ). FindsFixed codec.nodes (fixed_at codec (get_or ls (place.frn - 1) 0)) 0 place.steps last spot.bit) l
        (subst (λ (ns : List Node). FindsFixed ns (fixed_of (linked (meanings ns) link)) 0 place.steps last spot.bit) n finds);
    number = subst (λ (ns : List Node). fixed_of (linked (meanings ns) last) ≡ element spot.width Raw) n (ap fixed_of (link_means nodes last ends table finds.some finds.within there ∙ ap (meaning (meanings nodes)) e));
  }

-- ---- in an item

module _ (codec : Codec) (place : Place) (spot : FixedSpot) (body : List ℕ) (known : IsFixedSpot codec place spot) (item : ItemIn codec.nodes (slot_link codec place.frn) body) where
  f : FixedTree
  f = fixed_at codec (slot_link codec place.frn)

  item_bounds : InBounds (fixed f)
  unfolding f
  item_bounds = subst InBounds known.item item.bounds

  one : IsOne (fixed f) body
  unfolding f
  one = subst (λ k. IsOne k body) known.item item.one

  spot_bounds : (1 ≤ spot.width) × (spot.width ≤ 128)
  spot_bounds = let b : FixedInBounds (element spot.width Raw) = subst FixedInBounds known.number known.finds.bounds in b

  spot_room : spot.bit + spot.width ≤ 8 * length body
  unfolding f
  spot_room =
      let r : spot.bit + width (element spot.width Raw) ≤ 0 + width f = subst (λ g. spot.bit + width g ≤ 0 + width f) known.number known.finds.room in
      let whole = fixed_room f body item_bounds one in
      omega (arith, r, whole)

  spot_number : (n : ℕ) → n < 2 ^ spot.width → word spot.width n ≡ take spot.width (drop spot.bit (bits body)) → number_at place.steps (value_in (kind_at codec.nodes (slot_link codec place.frn)) body) ≡ Some n
  unfolding f
  spot_number n lt spelled =
      let whole : value_in (kind_at codec.nodes (slot_link codec place.frn)) body ≡ fixed_value f (drop 0 (bits body)) = ap (λ k. value_in k body) known.item ∙ fixed_whole f body item_bounds one in
      let there : value_at place.steps (value_in (kind_at codec.nodes (slot_link codec place.frn)) body) ≡ Some (fixed_value (element spot.width Raw) (drop spot.bit (bits body))) =
      ap (value_at place.steps) whole ∙ known.finds.value (bits body) ∙ ap (λ g. Some (fixed_value g (drop spot.bit (bits body)))) known.number in
      ap (option_and_then number_of_value) there ∙ ap (λ m. Some m) (sym (ap number_of spelled) ∙ number-word spot.width n lt)

module _ (codec : Codec) (place : Place) (spot : FixedSpot) (known : IsFixedSpot codec place spot) (one : ItemView) (at : IsOfSlot codec codec.slots place.frn one) where
  in_slot : ItemIn codec.nodes (slot_link codec place.frn) one.body.now
  in_slot = subst (λ link. ItemIn codec.nodes link one.body.now) at.link_is (subst (λ x. ItemIn x.nodes one.link one.body.now) at.codec_is (item_in one.codec.now one.codec.now.nodes one.link one.by_fx one.body.now refl at.whole one.item))

  pub number_bounds : (1 ≤ spot.width) × (spot.width ≤ 128)
  number_bounds = spot_bounds codec place spot one.body.now known in_slot

  pub number_room : spot.bit + spot.width ≤ 8 * length one.body.now
  number_room = spot_room codec place spot one.body.now known in_slot

  value_is : item_value one ≡ value_in (kind_at codec.nodes (slot_link codec place.frn)) one.body.now
  value_is = λ i. value_in (kind_at (at.codec_is i).nodes (at.link_is i)) one.body.now

  pub number_there : (es : EntriesTree) (n : ℕ) → Some (item_value one) ≡ slot_value place.frn es → n < 2 ^ spot.width → word spot.width n ≡ take spot.width (drop spot.bit (bits one.body.now)) → Some n ≡ At es place
  number_there es n found lt spelled =
      sym (ap (λ v. option_and_then number_of_value (option_and_then (value_at place.steps) v)) (sym found) ∙ ap (number_at place.steps) value_is ∙ spot_number codec place spot one.body.now known in_slot n lt spelled)

pub number_missing : (place : Place) (es : EntriesTree) → None ≡ slot_value place.frn es → None ≡ At es place
number_missing place es found = ap (λ v. option_and_then number_of_value (option_and_then (value_at place.steps) v)) found
