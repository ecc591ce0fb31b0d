-- Members that are looked for along a group.
use Rattle.std.proofs.Common.{◌≡◌, ℕ, zero, suc, ◌+◌, ◌-◌, ◌*◌, ◌^◌, ◌<◌, ◌≤◌, take, Option, Some, None, IfSome, IfNone, List, [], ◌∷◌, length, drop, get_or, refl, sym, ◌∙◌, ap, arith, subst, option_and_then}
use Rattle.std.proofs.lemmas.List.{drop-drop}
use Rattle.ax_bits.proofs.Pieces.{number-word}
use Rattle.ax_bits.specs.Bits.{bits, word, number_of}
use Rattle.ax_format.specs.Reader.{fixed_value, members_value}
use Rattle.ax_format.specs.InBounds.{FixedInBounds, MembersInBounds}
use Rattle.ax_format.specs.Tree.{number, FixedTree, element, group}
use Rattle.ax_format.specs.Widths.{width, members_width}
use Rattle.ax_format.specs.declared.content.Content.TheVariants.{Raw}
use Rattle.ax_codec.specs.Meaning.{meaning, meanings, linked, fixed_of, part_of, linked_members}
use Rattle.ax_codec.specs.Table.{IsTable, IsNode, LinksWithin}
use Rattle.ax_codec.specs.declared.node.Node.{Node}
use Rattle.ax_codec.specs.declared.node.Node.TheVariants as Of
use Rattle.ax_codec.proofs.Tables.{link_means, kind_right}
use Rattle.ax_walk.proofs.NodeKinds.{links_more}
use Rattle.ax_format.specs.At.{nth_value, value_at, number_of_value}
use Rattle.ax_walk.specs.Spots.{FindsMember, FindsNone, FindsFixed, FindsNothing}

-- the member that is looked for is the one of number n after `here`
pub record MembersLeft (nodes : List Node) (all left : List ℕ) (at here i n : ℕ) : Type 0 where
  pub links : LinksWithin (length nodes) left
  pub bounds : MembersInBounds (linked_members (meanings nodes) left)
  pub room : here + members_width (linked_members (meanings nodes) left) ≤ at + members_width (linked_members (meanings nodes) all)
  pub same : (b : List ℕ) → nth_value i (members_value (linked_members (meanings nodes) all) (drop at b)) ≡ nth_value n (members_value (linked_members (meanings nodes) left) (drop here b))

module _ (nodes : List Node) (all left later : List ℕ) (m at here i n : ℕ) (h : MembersLeft nodes all left at here i n) (e : left ≡ m ∷ later) where
  split : MembersLeft nodes all (m ∷ later) at here i n
  split = subst (λ left. MembersLeft nodes all left at here i n) e h

  pub member_within : (0 < m) × (m ≤ length nodes)
  member_within = split.links.0

  pub member_room : here + width (fixed_of (linked (meanings nodes) m)) ≤ at + members_width (linked_members (meanings nodes) all)
  member_room = let r = split.room in omega arith

  pub member_found : n ≡ 0 → FindsMember nodes (linked_members (meanings nodes) all) at i m here
  member_found z = record {
    some = split.links.0.0;
    within = split.links.0.1;
    bounds = split.bounds.0;
    room = member_room;
    value = λ b. split.same b ∙ ap (λ n. nth_value n (members_value (linked_members (meanings nodes) (m ∷ later)) (drop here b))) z;
  }

  pub members_next : (w : ℕ) → (n ≡ 0 → ⊥) → w ≡ width (fixed_of (linked (meanings nodes) m)) → MembersLeft nodes all later at (here + w) i (n - 1)
  members_next w some is = record {
    links = split.links.1;
    bounds = split.bounds.1;
    room = let r = split.room in omega arith;
    same = λ b. split.same b ∙ ap (λ n. nth_value n (members_value (linked_members (meanings nodes) (m ∷ later)) (drop here b))) (pred n some)
        ∙ ap (λ x. nth_value (n - 1) (members_value (linked_members (meanings nodes) later) x)) (ap (λ w. drop w (drop here b)) (sym is) ∙ drop-drop w here b);
  }
    where
      pred : (n : ℕ) → (n ≡ 0 → ⊥) → n ≡ suc (n - 1)
      pred n some = positive n some
        where
          positive : (n : ℕ) → (n ≡ 0 → ⊥) → n ≡ suc (n - 1)
          positive zero some = absurd (some refl)
          positive (suc n) some = omega arith

-- ---- down the groups

-- what is looked for stands at the steps that are left in what begins at bit `here`
pub record Down (nodes : List Node) (f : FixedTree) (link at here : ℕ) (steps left : List ℕ) : Type 0 where
  pub some : 0 < link
  pub within : link ≤ length nodes
  pub bounds : FixedInBounds (fixed_of (linked (meanings nodes) link))
  pub room : here + width (fixed_of (linked (meanings nodes) link)) ≤ at + width f
  pub same : (b : List ℕ) → value_at steps (fixed_value f (drop at b)) ≡ value_at left (fixed_value (fixed_of (linked (meanings nodes) link)) (drop here b))

pub down_first : (nodes : List Node) (first at : ℕ) (steps : List ℕ) → (0 < first) × (first ≤ length nodes) → FixedInBounds (fixed_of (linked (meanings nodes) first)) → Down nodes (fixed_of (linked (meanings nodes) first)) first at at steps steps
down_first nodes first at steps link bounds = record { some = link.0; within = link.1; bounds = bounds; room = omega arith; same = λ b. refl }

pub down_last : (nodes : List Node) (f : FixedTree) (link at here : ℕ) (steps left : List ℕ) → Down nodes f link at here steps left → left ≡ [] → FindsFixed nodes f at steps link here
down_last nodes f link at here steps left h e = record {
  some = h.some;
  within = h.within;
  bounds = h.bounds;
  room = h.room;
  value = λ b. h.same b ∙ ap (λ left. value_at left (fixed_value (fixed_of (linked (meanings nodes) link)) (drop here b))) e;
}

module _ (nodes : List Node) (f : FixedTree) (link at here : ℕ) (steps left : List ℕ) (one : Node) (table : IsTable nodes) (h : Down nodes f link at here steps left) (is : one ≡ get_or nodes (link - 1) one) where
  means : (node : Node) → one ≡ node → fixed_of (linked (meanings nodes) link) ≡ fixed_of (meaning (meanings nodes) node)
  means node e = ap fixed_of (link_means nodes link one table h.some h.within is ∙ ap (meaning (meanings nodes)) e)

  module _ (w : ℕ) (links found : List ℕ) (e : one ≡ Of.Group w links) (g : found ≡ links) where
    group_is : fixed_of (linked (meanings nodes) link) ≡ group (linked_members (meanings nodes) found)
    group_is = means (Of.Group w links) e ∙ ap (λ links. group (linked_members (meanings nodes) links)) (sym g)

    pub group_links : LinksWithin (length nodes) found
    group_links =
        let r : IsNode (link - 1) (meanings nodes) (Of.Group w links) = kind_right nodes link one (Of.Group w links) table h.some h.within is e in
        let le = h.within in subst (LinksWithin (length nodes)) (sym g) (links_more (link - 1) (length nodes) links (omega arith) r.0)

    pub group_bounds : MembersInBounds (linked_members (meanings nodes) found)
    group_bounds = subst FixedInBounds group_is h.bounds

    pub group_room : here + members_width (linked_members (meanings nodes) found) ≤ at + width f
    group_room = subst (λ g. here + width g ≤ at + width f) group_is h.room

    pub down_next : (step member bit : ℕ) (later : List ℕ) → left ≡ step ∷ later → FindsMember nodes (linked_members (meanings nodes) found) here step member bit → Down nodes f member at bit steps later
    down_next step member bit later l m = record {
      some = m.some;
      within = m.within;
      bounds = m.bounds;
      room = let r = m.room in let s = group_room in omega arith;
      same = λ b. h.same b ∙ ap (λ left. value_at left (fixed_value (fixed_of (linked (meanings nodes) link)) (drop here b))) l ∙ ap (λ g. value_at (step ∷ later) (fixed_value g (drop here b))) group_is
          ∙ ap (λ v. option_and_then (value_at later) v) (m.value b);
    }

    pub down_none : (step : ℕ) (later : List ℕ) → left ≡ step ∷ later → FindsNone (linked_members (meanings nodes) found) here step → FindsNothing f at steps
    down_none step later l m = record {
      none = λ b. h.same b ∙ ap (λ left. value_at left (fixed_value (fixed_of (linked (meanings nodes) link)) (drop here b))) l ∙ ap (λ g. value_at (step ∷ later) (fixed_value g (drop here b))) group_is
          ∙ ap (λ v. option_and_then (value_at later) v) (m.none b);
    }

  pub down_no_group : (step : ℕ) (later : List ℕ) → left ≡ step ∷ later → ((w : ℕ) (links : List ℕ) → one ≡ Of.Group w links → ⊥) → FindsNothing f at steps
  down_no_group step later l other = record { none = λ b. h.same b ∙ ap (λ left. value_at left (fixed_value (fixed_of (linked (meanings nodes) link)) (drop here b))) l ∙ none b one refl }
    where
      by : (b : List ℕ) (node : Node) → one ≡ node → value_at (step ∷ later) (fixed_value (fixed_of (meaning (meanings nodes) node)) (drop here b)) ≡ None → value_at (step ∷ later) (fixed_value (fixed_of (linked (meanings nodes) link)) (drop here b)) ≡ None
      by b node e h = ap (λ g. value_at (step ∷ later) (fixed_value g (drop here b))) (means node e) ∙ h

      none : (b : List ℕ) (node : Node) → one ≡ node → value_at (step ∷ later) (fixed_value (fixed_of (linked (meanings nodes) link)) (drop here b)) ≡ None
      none b (Of.Element w) e = by b (Of.Element w) e (in_number later)
        where
          in_number : (later : List ℕ) → value_at (step ∷ later) (number (number_of (take w (drop here b)))) ≡ None
          in_number [] = refl
          in_number (i ∷ later) = refl
      none b (Of.Group w links) e = absurd (other w links e)
      none b (Of.Part w links) e = by b (Of.Part w links) e refl
      none b (Of.Extended last links) e = by b (Of.Extended last links) e refl
      none b (Of.Counted size inner) e = by b (Of.Counted size inner) e refl
      none b (Of.ByFx inner) e = by b (Of.ByFx inner) e refl
      none b Of.Explicit e = by b Of.Explicit e refl
      none b (Of.Compound mask links) e = by b (Of.Compound mask links) e refl

-- ---- the number of an element

module _ (nodes : List Node) (link at : ℕ) (body : List ℕ) (one : Node) (table : IsTable nodes) (some : 0 < link) (within : link ≤ length nodes) (bounds : FixedInBounds (fixed_of (linked (meanings nodes) link)))
    (room : at + width (fixed_of (linked (meanings nodes) link)) ≤ 8 * length body) (is : one ≡ get_or nodes (link - 1) one) where
  fixed_means : (node : Node) → one ≡ node → fixed_of (linked (meanings nodes) link) ≡ fixed_of (meaning (meanings nodes) node)
  fixed_means node e = ap fixed_of (link_means nodes link one table some within is ∙ ap (meaning (meanings nodes)) e)

  pub no_element : ((w : ℕ) → one ≡ Of.Element w → ⊥) → None ≡ number_of_value (fixed_value (fixed_of (linked (meanings nodes) link)) (drop at (bits body)))
  no_element other = sym (none one refl)
    where
      by : (node : Node) → one ≡ node → number_of_value (fixed_value (fixed_of (meaning (meanings nodes) node)) (drop at (bits body))) ≡ None → number_of_value (fixed_value (fixed_of (linked (meanings nodes) link)) (drop at (bits body))) ≡ None
      by node e h = ap (λ f. number_of_value (fixed_value f (drop at (bits body)))) (fixed_means node e) ∙ h

      none : (node : Node) → one ≡ node → number_of_value (fixed_value (fixed_of (linked (meanings nodes) link)) (drop at (bits body))) ≡ None
      none (Of.Element w) e = absurd (other w e)
      none (Of.Group w links) e = by (Of.Group w links) e refl
      none (Of.Part w links) e = by (Of.Part w links) e refl
      none (Of.Extended last links) e = by (Of.Extended last links) e refl
      none (Of.Counted size inner) e = by (Of.Counted size inner) e refl
      none (Of.ByFx inner) e = by (Of.ByFx inner) e refl
      none Of.Explicit e = by Of.Explicit e refl
      none (Of.Compound mask links) e = by (Of.Compound mask links) e refl

  module _ (w : ℕ) (e : one ≡ Of.Element w) where
    pub element_bounds : (1 ≤ w) × (w ≤ 128)
    element_bounds = let b : FixedInBounds (element w Raw) = subst FixedInBounds (fixed_means (Of.Element w) e) bounds in b

    pub element_room : at + w ≤ 8 * length body
    element_room = subst (λ f. at + width f ≤ 8 * length body) (fixed_means (Of.Element w) e) room

    pub element_number : (n : ℕ) → n < 2 ^ w → word w n ≡ take w (drop at (bits body)) → Some n ≡ number_of_value (fixed_value (fixed_of (linked (meanings nodes) link)) (drop at (bits body)))
    element_number n lt spelled = ap (λ n. Some n) (sym (number-word w n lt) ∙ ap number_of spelled) ∙ sym (ap (λ f. number_of_value (fixed_value f (drop at (bits body)))) (fixed_means (Of.Element w) e))

pub none_left : (xs : List ℕ) → length xs ≡ 0 → xs ≡ []
none_left [] e = refl
none_left (x ∷ xs) e = absurd (omega arith)

-- ---- the members of a part

module _ (nodes : List Node) (link : ℕ) (one : Node) (table : IsTable nodes) (some : 0 < link) (within : link ≤ length nodes) (is : one ≡ get_or nodes (link - 1) one) where
  part_means : (node : Node) → one ≡ node → part_of (linked (meanings nodes) link) ≡ part_of (meaning (meanings nodes) node)
  part_means node e = ap part_of (link_means nodes link one table some within is ∙ ap (meaning (meanings nodes)) e)

  module _ (w : ℕ) (links found : List ℕ) (e : one ≡ Of.Part w links) (f : found ≡ links) where
    pub part_is : part_of (linked (meanings nodes) link) ≡ linked_members (meanings nodes) found
    part_is = part_means (Of.Part w links) e ∙ ap (linked_members (meanings nodes)) (sym f)

    pub part_links : LinksWithin (length nodes) found
    part_links =
        let r : IsNode (link - 1) (meanings nodes) (Of.Part w links) = kind_right nodes link one (Of.Part w links) table some within is e in
        subst (LinksWithin (length nodes)) (sym f) (links_more (link - 1) (length nodes) links (omega arith) r.0)

    pub part_bounds : MembersInBounds (part_of (linked (meanings nodes) link)) → MembersInBounds (linked_members (meanings nodes) found)
    part_bounds h = subst MembersInBounds part_is h

    pub part_room : (at n : ℕ) → at + members_width (part_of (linked (meanings nodes) link)) ≤ n → at + members_width (linked_members (meanings nodes) found) ≤ n
    part_room at n h = subst (λ ms. at + members_width ms ≤ n) part_is h

    pub part_found : (at i : ℕ) (r : Option (ℕ × ℕ)) → IfSome r (λ r. FindsMember nodes (linked_members (meanings nodes) found) at i r.0 r.1) → IfSome r (λ r. FindsMember nodes (part_of (linked (meanings nodes) link)) at i r.0 r.1)
    part_found at i r h = subst (λ ms. IfSome r (λ r. FindsMember nodes ms at i r.0 r.1)) (sym part_is) h

    pub part_none : (at i : ℕ) (r : Option (ℕ × ℕ)) → IfNone r (FindsNone (linked_members (meanings nodes) found) at i) → IfNone r (FindsNone (part_of (linked (meanings nodes) link)) at i)
    part_none at i r h = subst (λ ms. IfNone r (FindsNone ms at i)) (sym part_is) h

  pub no_part : (at i : ℕ) → ((w : ℕ) (links : List ℕ) → one ≡ Of.Part w links → ⊥) → FindsNone (part_of (linked (meanings nodes) link)) at i
  no_part at i other = none one refl
    where
      by : (node : Node) → one ≡ node → FindsNone (part_of (meaning (meanings nodes) node)) at i → FindsNone (part_of (linked (meanings nodes) link)) at i
      by node e h = subst (λ ms. FindsNone ms at i) (sym (part_means node e)) h

      none : (node : Node) → one ≡ node → FindsNone (part_of (linked (meanings nodes) link)) at i
      none (Of.Element w) e = by (Of.Element w) e (record { none = λ b. refl })
      none (Of.Group w links) e = by (Of.Group w links) e (record { none = λ b. refl })
      none (Of.Part w links) e = absurd (other w links e)
      none (Of.Extended last links) e = by (Of.Extended last links) e (record { none = λ b. refl })
      none (Of.Counted size inner) e = by (Of.Counted size inner) e (record { none = λ b. refl })
      none (Of.ByFx inner) e = by (Of.ByFx inner) e (record { none = λ b. refl })
      none Of.Explicit e = by Of.Explicit e (record { none = λ b. refl })
      none (Of.Compound mask links) e = by (Of.Compound mask links) e (record { none = λ b. refl })
