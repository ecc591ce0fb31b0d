-- The kind that a link stands for, by the node that it leads to.
use Rattle.std.proofs.Common.{◌≡◌, ℕ, ◌+◌, ◌-◌, ◌*◌, ◌/◌, ◌%◌, ◌==◌, ◌<◌, ◌≤◌, true, false, cond, map, Bool, Option, Some, None, IfSome, IfNone, List, [], ◌∷◌, length, drop, get_or, refl, sym, ◌∙◌, ap, arith, subst}
use Rattle.std.proofs.lemmas.Bool.{eqb-true}
use Rattle.ax_bits.specs.Bits.{bits}
use Rattle.ax_format.specs.Reader.{fixed_value}
use Rattle.ax_format.specs.Canonical.{canon}
use Rattle.ax_format.specs.InBounds.{InBounds}
use Rattle.ax_format.specs.Tree.{FixedTree, element, group, KindTree, fixed, extended, counted, by_fx, explicit, compound, no_slots, slots_of}
use Rattle.ax_format.specs.Widths.{width}
use Rattle.ax_format.specs.declared.content.Content.TheVariants.{Raw}
use Rattle.ax_format.specs.declared.fault.BodyCause.TheVariants.{RunsOut}
use Rattle.ax_format.specs.declared.fault.BodyFault.{BodyFault}
use Rattle.ax_fspec.specs.declared.mask.SlotMask.{SlotMask}
use Rattle.ax_format.specs.declared.kind.Counter.{Counter}
use Rattle.ax_format.specs.declared.kind.LastPart.{LastPart}
use Rattle.ax_codec.proofs.NodeOctets.{node_there}
use Rattle.ax_codec.proofs.Tables.{kind_means, kind_right}
use Rattle.ax_codec.specs.Octets.{octets_of}
use Rattle.ax_codec.specs.Meaning.{meanings, linked, fixed_of, linked_members, linked_parts, linked_slots}
use Rattle.ax_codec.specs.Table.{IsTable, LinksWithin, SlotLinksWithin, IsNode, kind_at, record_kind_at}
use Rattle.ax_codec.specs.declared.node.Node.{Node}
use Rattle.ax_codec.specs.declared.node.Node.TheVariants as Of
use Rattle.ax_fspec.proofs.AtOctets.{fixed_gets, fixed_fails}
use Rattle.ax_fspec.specs.Reading.{FailsAt, IsMaskOf, kind_read}
use Rattle.ax_walk.proofs.MarkedSteps.{greatest, greatest_within}
use Rattle.ax_walk.proofs.Plain.{plain_walks}
use Rattle.ax_walk.specs.Values.{ItemInBounds}
use Rattle.ax_walk.specs.Walking.{Walks}

-- ---- one kind in place of another

module _ (body : List ℕ) (at : ℕ) (j k : KindTree) (e : j ≡ k) where
  pub end_as : (least : Bool) (r : Option ℕ) → IfSome r (λ end. Walks (canon k) (kind_read k body at) body at end least) → IfSome r (λ end. Walks (canon j) (kind_read j body at) body at end least)
  end_as least r h = subst (λ k. IfSome r (λ end. Walks (canon k) (kind_read k body at) body at end least)) (sym e) h

  pub fault_as : (fault : BodyFault) (r : Option ℕ) → IfNone r (FailsAt (kind_read k body at) at fault) → IfNone r (FailsAt (kind_read j body at) at fault)
  fault_as fault r h = subst (λ k. IfNone r (FailsAt (kind_read k body at) at fault)) (sym e) h

-- ---- fixed kinds

module _ (f : FixedTree) (body : List ℕ) (at w : ℕ) (is : w ≡ width f) where
  pub run_end : (least : Bool) (r : Option ℕ) → InBounds (fixed f) → IfSome r (λ end. (at ≤ end) × (end ≤ length body) × (w ≡ 8 * (end - at))) → IfSome r (λ end. Walks (canon (fixed f)) (kind_read (fixed f) body at) body at end least)
  run_end least (Some end) bounds h = plain_walks (fixed f) body at end (fixed_value f (drop (8 * at) (bits body))) least tt bounds (fixed_gets f body at end (fixed_value f (drop (8 * at) (bits body))) h.0 h.1 (sym h.2 ∙ is) refl)
  run_end least None bounds h = tt

  pub run_fault : (fault : BodyFault) (r : Option ℕ) → IfNone r (8 * (length body - at) < w) → IfNone r (fault ≡ record { cause = RunsOut; bit = 8 * at }) → IfNone r (FailsAt (kind_read (fixed f) body at) at fault)
  run_fault fault (Some end) h g = tt
  run_fault fault None h g = fixed_fails f body at fault (omega arith) (ap (λ f. f.cause) g) (ap (λ f. f.bit) g)

-- what holds whatever is said to be least
pub each_least : (k : KindTree) (body : List ℕ) (at : ℕ) (r : Option ℕ) → ((least : Bool) → IfSome r (λ end. Walks (canon k) (kind_read k body at) body at end least))
    → IfSome r (λ end. (least : Bool) → Walks (canon k) (kind_read k body at) body at end least)
each_least k body at (Some end) h = h
each_least k body at None h = tt

-- ---- by the node

pub links_more : (m n : ℕ) (links : List ℕ) → m ≤ n → LinksWithin m links → LinksWithin n links
links_more m n [] le h = tt
links_more m n (link ∷ links) le h = ((h.0.0, omega (arith, h.0.1)), links_more m n links le h.1)

slot_links_more : (m n : ℕ) (links : List ℕ) → m ≤ n → SlotLinksWithin m links → SlotLinksWithin n links
slot_links_more m n [] le h = tt
slot_links_more m n (link ∷ links) le h = (omega (arith, h.0), slot_links_more m n links le h.1)

module _ (ns : List Node) (link : ℕ) (one : Node) (table : IsTable ns) (some : 0 < link) (within : link ≤ length ns) (at : one ≡ get_or ns (link - 1) one) where
  pub is_element : (w : ℕ) → one ≡ Of.Element w → kind_at ns link ≡ fixed (element w Raw)
  is_element w e = kind_means ns link one (Of.Element w) table some within at e

  pub is_group : (w : ℕ) (links : List ℕ) → one ≡ Of.Group w links → kind_at ns link ≡ fixed (group (linked_members (meanings ns) links))
  is_group w links e = kind_means ns link one (Of.Group w links) table some within at e

  pub group_width : (w : ℕ) (links : List ℕ) → one ≡ Of.Group w links → w ≡ width (group (linked_members (meanings ns) links))
  group_width w links e = sym (kind_right ns link one (Of.Group w links) table some within at e).1

  pub is_part : (w : ℕ) (links : List ℕ) → one ≡ Of.Part w links → InBounds (kind_at ns link) → ⊥
  is_part w links e bounds = let b : InBounds (compound no_slots) = subst InBounds (kind_means ns link one (Of.Part w links) table some within at e) bounds in absurd (let lt : 0 < 0 = b.0 in omega arith)

  pub is_extended : (last : LastPart) (links found : List ℕ) → one ≡ Of.Extended last links → found ≡ links → kind_at ns link ≡ extended last (linked_parts (meanings ns) found)
  is_extended last links found e f = kind_means ns link one (Of.Extended last links) table some within at e ∙ ap (λ links. extended last (linked_parts (meanings ns) links)) (sym f)

  pub extended_links : (last : LastPart) (links found : List ℕ) → one ≡ Of.Extended last links → found ≡ links → LinksWithin (length ns) found
  extended_links last links found e f = subst (LinksWithin (length ns)) (sym f) (links_more (link - 1) (length ns) links (omega arith) (kind_right ns link one (Of.Extended last links) table some within at e))

  pub is_counted : (size : Counter) (inner : ℕ) → one ≡ Of.Counted size inner → kind_at ns link ≡ counted size (kind_at ns inner)
  unfolding kind_at
  is_counted size inner e = kind_means ns link one (Of.Counted size inner) table some within at e

  pub counted_link : (size : Counter) (inner : ℕ) → one ≡ Of.Counted size inner → (0 < inner) × (inner < link)
  counted_link size inner e = let r : IsNode (link - 1) (meanings ns) (Of.Counted size inner) = kind_right ns link one (Of.Counted size inner) table some within at e in (r.0, omega (arith, r.1))

  pub is_by_fx : (inner : ℕ) → one ≡ Of.ByFx inner → kind_at ns link ≡ by_fx (fixed_of (linked (meanings ns) inner))
  is_by_fx inner e = kind_means ns link one (Of.ByFx inner) table some within at e

  pub by_fx_link : (inner : ℕ) → one ≡ Of.ByFx inner → (0 < inner) × (inner ≤ length ns)
  by_fx_link inner e = let r : IsNode (link - 1) (meanings ns) (Of.ByFx inner) = kind_right ns link one (Of.ByFx inner) table some within at e in (r.0, omega (arith, r.1))

  pub is_explicit : one ≡ Of.Explicit → kind_at ns link ≡ explicit
  is_explicit e = kind_means ns link one Of.Explicit table some within at e

  pub is_compound : (mask : SlotMask) (links found : List ℕ) → one ≡ Of.Compound mask links → found ≡ links → kind_at ns link ≡ record_kind_at ns found
  unfolding record_kind_at
  is_compound mask links found e f = kind_means ns link one (Of.Compound mask links) table some within at e ∙ ap (λ links. compound (slots_of (linked_slots (meanings ns) links))) (sym f)

  pub compound_links : (mask : SlotMask) (links found : List ℕ) → one ≡ Of.Compound mask links → found ≡ links → SlotLinksWithin (length ns) found
  compound_links mask links found e f =
      let r : IsNode (link - 1) (meanings ns) (Of.Compound mask links) = kind_right ns link one (Of.Compound mask links) table some within at e in
      subst (SlotLinksWithin (length ns)) (sym f) (slot_links_more (link - 1) (length ns) links (omega arith) r.0)

  pub compound_mask : (mask : SlotMask) (links found : List ℕ) → one ≡ Of.Compound mask links → found ≡ links → IsMaskOf (linked_slots (meanings ns) found) mask
  compound_mask mask links found e f =
      let r : IsNode (link - 1) (meanings ns) (Of.Compound mask links) = kind_right ns link one (Of.Compound mask links) table some within at e in
      subst (λ links. IsMaskOf (linked_slots (meanings ns) links) mask) (sym f) r.1

  pub compound_falls : (mask : SlotMask) (links found : List ℕ) → one ≡ Of.Compound mask links → found ≡ links → 3 * greatest found + 2 < 3 * link
  compound_falls mask links found e f =
      let r : IsNode (link - 1) (meanings ns) (Of.Compound mask links) = kind_right ns link one (Of.Compound mask links) table some within at e in
      let g : greatest links ≤ link - 1 = greatest_within (link - 1) links r.0 in
      let same : greatest found ≡ greatest links = ap greatest f in omega arith

-- ---- the octets that stand beside the nodes

pub whole_of : (w n : ℕ) (b : Bool) → (w % 8 == 0) ≡ b → cond b (w / 8) 0 ≡ n → 0 < n → w ≡ 8 * n
whole_of w n true e h some = omega (arith, eqb-true (w % 8) 0 e)
whole_of w n false e h some = absurd (omega arith)

module _ (ns : List Node) (link : ℕ) (body : List ℕ) (at n : ℕ) (least : Bool) (table : IsTable ns) (some : 0 < link) (within : link ≤ length ns) (bounds : InBounds (kind_at ns link)) (pos : 0 < n) (fits : at + n ≤ length body) where
  fixed_walks : (f : FixedTree) → kind_at ns link ≡ fixed f → 8 * n ≡ width f → Walks (canon (kind_at ns link)) (kind_read (kind_at ns link) body at) body at (at + n) least
  fixed_walks f e w =
      end_as body at (kind_at ns link) (fixed f) e least (Some (at + n)) (run_end f body at (8 * n) w least (Some (at + n)) (subst InBounds e bounds) (omega arith, fits, omega arith))

  by_node : (one : Node) → one ≡ get_or ns (link - 1) one → octets_of one ≡ n → Walks (canon (kind_at ns link)) (kind_read (kind_at ns link) body at) body at (at + n) least
  by_node (Of.Element w) there e = fixed_walks (element w Raw) (is_element ns link (Of.Element w) table some within there w refl) (sym (whole_of w n (w % 8 == 0) refl e pos))
  by_node (Of.Group w links) there e =
      fixed_walks (group (linked_members (meanings ns) links)) (is_group ns link (Of.Group w links) table some within there w links refl)
      (sym (whole_of w n (w % 8 == 0) refl e pos) ∙ group_width ns link (Of.Group w links) table some within there w links refl)
  by_node (Of.Part w links) there e = absurd (let z : 0 ≡ n = e in omega arith)
  by_node (Of.Extended last links) there e = absurd (let z : 0 ≡ n = e in omega arith)
  by_node (Of.Counted size inner) there e = absurd (let z : 0 ≡ n = e in omega arith)
  by_node (Of.ByFx inner) there e = absurd (let z : 0 ≡ n = e in omega arith)
  by_node Of.Explicit there e = absurd (let z : 0 ≡ n = e in omega arith)
  by_node (Of.Compound mask links) there e = absurd (let z : 0 ≡ n = e in omega arith)

  pub octets_walk : (octets : List ℕ) → octets ≡ map octets_of ns → get_or octets (link - 1) 0 ≡ n → Walks (canon (kind_at ns link)) (kind_read (kind_at ns link) body at) body at (at + n) least
  octets_walk octets same e =
      let t = node_there ns (link - 1) (omega arith) in
      by_node t.one t.at (sym t.octets ∙ ap (λ xs. get_or xs (link - 1) 0) (sym same) ∙ e)

-- ---- an item's link leads to no part

part_closed : (fx : Bool) → ItemInBounds fx (compound no_slots) → ⊥
part_closed false h = let lt : 0 < 0 = h.0 in omega arith
part_closed true h = h

pub no_part : (fx : Bool) (ns : List Node) (link : ℕ) (one : Node) → IsTable ns → 0 < link → link ≤ length ns → one ≡ get_or ns (link - 1) one → (w : ℕ) (links : List ℕ) → one ≡ Of.Part w links → ItemInBounds fx (kind_at ns link) → ⊥
no_part fx ns link one table some within at w links e bounds = part_closed fx (subst (ItemInBounds fx) (kind_means ns link one (Of.Part w links) table some within at e) bounds)
