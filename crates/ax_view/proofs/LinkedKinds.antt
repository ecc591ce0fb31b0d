-- Kinds made of what links lead to, by the node that is there.
use Rattle.std.proofs.Common.{◌≡◌, ℕ, zero, suc, ◌-◌, ◌<◌, ◌≤◌, List, [], ◌∷◌, length, map, get_or, Box, Global, refl, sym, ◌∙◌, ap, arith}
use Rattle.ax_format.proofs.VariantTrees.{element_tree, group_tree, extended_tree, counted_tree, by_fx_tree, explicit_tree, compound_tree, fixed_kind_tree}
use Rattle.ax_format.specs.Plain.{fixed_step, member_step, fixed_tree, member_tree, part_tree, kind_step, slot_step, kind_tree, slot_tree}
use Rattle.ax_format.specs.Tree.{FixedTree, group, MemberTree, named, members_of, KindTree, fixed, extended, counted, by_fx, compound, SlotTree, subitem, slots_of}
use Rattle.ax_format.specs.declared.content.Content.TheVariants.{Raw}
use Rattle.ax_format.specs.declared.kind.Counter.{Counter}
use Rattle.ax_format.specs.declared.kind.Fixed.{Fixed}
use Rattle.ax_format.specs.declared.kind.Fixed.TheVariants as FixedOf
use Rattle.ax_format.specs.declared.kind.Kind.{Kind}
use Rattle.ax_format.specs.declared.kind.Kind.TheVariants as KindOf
use Rattle.ax_format.specs.declared.kind.LastPart.{LastPart}
use Rattle.ax_format.specs.declared.kind.Member.{Member, fold-roll-Member}
use Rattle.ax_format.specs.declared.kind.Fixed.TheOpen.{Member-F}
use Rattle.ax_format.specs.declared.kind.Member.TheVariants.{Named, rolls-Named}
use Rattle.ax_format.specs.declared.kind.Part.{Part}
use Rattle.ax_format.specs.declared.kind.Slot.{Slot, fold-roll-Slot}
use Rattle.ax_format.specs.declared.kind.Kind.TheOpen.{Slot-F}
use Rattle.ax_format.specs.declared.kind.Slot.TheVariants.{Sub, rolls-Sub}
use Rattle.ax_fspec.specs.declared.mask.SlotMask.{SlotMask}
use Rattle.ax_codec.proofs.BareKinds.{bare_members_of, bare_slots_of}
use Rattle.ax_codec.proofs.Tables.{link_means, kind_right}
use Rattle.ax_codec.specs.Bare.{bare_fixed, bare_member, bare_members, bare_kind, bare_slot}
use Rattle.ax_codec.specs.Meaning.{Meaning, meaning, meanings, linked, linked_member, linked_part, linked_parts, linked_slot, linked_slots, fixed_of, part_of, kind_of}
use Rattle.ax_codec.specs.Table.{IsTable, IsNode, LinksWithin, SlotLinksWithin, kind_at, record_kind_at}
use Rattle.ax_codec.specs.declared.node.Node.{Node}
use Rattle.ax_codec.specs.declared.node.Node.TheVariants as Of
use Rattle.ax_walk.proofs.MarkedSteps.{greatest, greatest_within}

-- ---- links of a list

as_slots : (n : ℕ) (links : List ℕ) → LinksWithin n links → SlotLinksWithin n links
as_slots n [] h = tt
as_slots n (link ∷ links) h = (h.0.1, as_slots n links h.1)

links_further : (m n : ℕ) (links : List ℕ) → m ≤ n → LinksWithin m links → LinksWithin n links
links_further m n [] le h = tt
links_further m n (link ∷ links) le h = ((h.0.0, omega (arith, h.0.1)), links_further m n links le h.1)

slots_further : (m n : ℕ) (links : List ℕ) → m ≤ n → SlotLinksWithin m links → SlotLinksWithin n links
slots_further m n [] le h = tt
slots_further m n (link ∷ links) le h = (omega (arith, h.0), slots_further m n links le h.1)

pub link_within : (n : ℕ) (links : List ℕ) (i : ℕ) → LinksWithin n links → i < length links → (0 < get_or links i 0) × (get_or links i 0 ≤ n)
link_within n [] i h lt = absurd (omega arith)
link_within n (link ∷ links) zero h lt = h.0
link_within n (link ∷ links) (suc i) h lt = link_within n links i h.1 (omega arith)

-- ---- members and slots

pub member_made : (name : List ℕ) (f : Fixed) (ms : List Meaning) (link : ℕ) → bare_fixed (fixed_tree f) ≡ fixed_of (linked ms link) → bare_member (member_tree (Named name f)) ≡ linked_member ms link
member_made name f ms link h = ap bare_member tree ∙ ap (λ f. named [] f) h
  where
    tree : member_tree (Named name f) ≡ named name (fixed_tree f)
    tree = ap member_tree (sym (rolls-Named name f)) ∙ fold-roll-Member FixedTree MemberTree fixed_step member_step (Member-F.Named name f)

slot_leads : (ms : List Meaning) (link : ℕ) → 0 < link → linked_slot ms link ≡ subitem [] (kind_of (linked ms link))
slot_leads ms zero some = absurd (omega arith)
slot_leads ms (suc i) some = refl

pub sub_made : (name : List ℕ) (k : Kind) (ns : List Node) (link : ℕ) → 0 < link → bare_kind (kind_tree k) ≡ kind_at ns link → bare_slot (slot_tree (Sub name k)) ≡ linked_slot (meanings ns) link
unfolding kind_at
sub_made name k ns link some h = ap bare_slot tree ∙ ap (λ k. subitem [] k) h ∙ sym (slot_leads (meanings ns) link some)
  where
    tree : slot_tree (Sub name k) ≡ subitem name (kind_tree k)
    tree = ap slot_tree (sym (rolls-Sub name k)) ∙ fold-roll-Slot KindTree SlotTree kind_step slot_step (Slot-F.Sub name k)

-- ---- by the node

module _ (ns : List Node) (link : ℕ) (one : Node) (table : IsTable ns) (some : 0 < link) (within : link ≤ length ns) (is : one ≡ get_or ns (link - 1) one) where
  means : (node : Node) → one ≡ node → linked (meanings ns) link ≡ meaning (meanings ns) node
  means node e = link_means ns link one table some within is ∙ ap (meaning (meanings ns)) e

  right : (node : Node) → one ≡ node → IsNode (link - 1) (meanings ns) node
  right node e = kind_right ns link one node table some within is e

  pub element_made : (w : ℕ) → one ≡ Of.Element w → bare_fixed (fixed_tree (FixedOf.Element w Raw)) ≡ fixed_of (linked (meanings ns) link)
  element_made w e = ap bare_fixed (element_tree w Raw) ∙ sym (ap fixed_of (means (Of.Element w) e))

  module _ (w : ℕ) (links : List ℕ) (e : one ≡ Of.Group w links) where
    pub group_links : LinksWithin (length ns) links
    group_links = let r : IsNode (link - 1) (meanings ns) (Of.Group w links) = right (Of.Group w links) e in links_further (link - 1) (length ns) links (omega arith) r.0

    pub group_falls : greatest links < link
    group_falls = let r : IsNode (link - 1) (meanings ns) (Of.Group w links) = right (Of.Group w links) e in let le = greatest_within (link - 1) links (as_slots (link - 1) links r.0) in omega arith

    pub group_made : (made : List Member) → map bare_member (map member_tree made) ≡ map (linked_member (meanings ns)) links → bare_fixed (fixed_tree (FixedOf.Group made)) ≡ fixed_of (linked (meanings ns) link)
    group_made made h = ap bare_fixed (group_tree made) ∙ ap (λ ms. group ms) (sym (bare_members_of (map member_tree made)) ∙ ap members_of h) ∙ sym (ap fixed_of (means (Of.Group w links) e))

  pub no_fixed_made : ((w : ℕ) → one ≡ Of.Element w → ⊥) → ((w : ℕ) (links : List ℕ) → one ≡ Of.Group w links → ⊥) → bare_fixed (fixed_tree (FixedOf.Group [])) ≡ fixed_of (linked (meanings ns) link)
  no_fixed_made a b = ap bare_fixed (group_tree []) ∙ none one refl
    where
      none : (node : Node) → one ≡ node → bare_fixed (group (members_of [])) ≡ fixed_of (linked (meanings ns) link)
      none (Of.Element w) e = absurd (a w e)
      none (Of.Group w links) e = absurd (b w links e)
      none (Of.Part w links) e = sym (ap fixed_of (means (Of.Part w links) e))
      none (Of.Extended last links) e = sym (ap fixed_of (means (Of.Extended last links) e))
      none (Of.Counted size inner) e = sym (ap fixed_of (means (Of.Counted size inner) e))
      none (Of.ByFx inner) e = sym (ap fixed_of (means (Of.ByFx inner) e))
      none Of.Explicit e = sym (ap fixed_of (means Of.Explicit e))
      none (Of.Compound mask links) e = sym (ap fixed_of (means (Of.Compound mask links) e))

  -- ---- parts

  module _ (w : ℕ) (links : List ℕ) (e : one ≡ Of.Part w links) where
    pub part_links : LinksWithin (length ns) links
    part_links = let r : IsNode (link - 1) (meanings ns) (Of.Part w links) = right (Of.Part w links) e in links_further (link - 1) (length ns) links (omega arith) r.0

    pub part_made : (made : List Member) → map bare_member (map member_tree made) ≡ map (linked_member (meanings ns)) links → bare_members (members_of (map member_tree made)) ≡ linked_part (meanings ns) link
    part_made made h = sym (bare_members_of (map member_tree made)) ∙ ap members_of h ∙ sym (ap part_of (means (Of.Part w links) e))

  pub no_part_made : ((w : ℕ) (links : List ℕ) → one ≡ Of.Part w links → ⊥) → bare_members (members_of []) ≡ linked_part (meanings ns) link
  no_part_made a = none one refl
    where
      none : (node : Node) → one ≡ node → bare_members (members_of []) ≡ linked_part (meanings ns) link
      none (Of.Element w) e = sym (ap part_of (means (Of.Element w) e))
      none (Of.Group w links) e = sym (ap part_of (means (Of.Group w links) e))
      none (Of.Part w links) e = absurd (a w links e)
      none (Of.Extended last links) e = sym (ap part_of (means (Of.Extended last links) e))
      none (Of.Counted size inner) e = sym (ap part_of (means (Of.Counted size inner) e))
      none (Of.ByFx inner) e = sym (ap part_of (means (Of.ByFx inner) e))
      none Of.Explicit e = sym (ap part_of (means Of.Explicit e))
      none (Of.Compound mask links) e = sym (ap part_of (means (Of.Compound mask links) e))

  -- ---- kinds

  as_kind : (node : Node) → one ≡ node → kind_of (meaning (meanings ns) node) ≡ kind_at ns link
  unfolding kind_at
  as_kind node e = sym (ap kind_of (means node e))

  pub element_kind : (w : ℕ) → one ≡ Of.Element w → (f : Fixed) → bare_fixed (fixed_tree f) ≡ fixed_of (linked (meanings ns) link) → bare_kind (kind_tree (KindOf.Fixed f)) ≡ kind_at ns link
  element_kind w e f h = ap bare_kind (fixed_kind_tree f) ∙ ap (λ f. fixed f) (h ∙ ap fixed_of (means (Of.Element w) e)) ∙ as_kind (Of.Element w) e

  pub group_kind : (w : ℕ) (links : List ℕ) → one ≡ Of.Group w links → (f : Fixed) → bare_fixed (fixed_tree f) ≡ fixed_of (linked (meanings ns) link) → bare_kind (kind_tree (KindOf.Fixed f)) ≡ kind_at ns link
  group_kind w links e f h = ap bare_kind (fixed_kind_tree f) ∙ ap (λ f. fixed f) (h ∙ ap fixed_of (means (Of.Group w links) e)) ∙ as_kind (Of.Group w links) e

  pub part_kind : (w : ℕ) (links : List ℕ) → one ≡ Of.Part w links → bare_kind (kind_tree (KindOf.Compound [])) ≡ kind_at ns link
  part_kind w links e = ap bare_kind (compound_tree []) ∙ as_kind (Of.Part w links) e

  module _ (last : LastPart) (links : List ℕ) (e : one ≡ Of.Extended last links) where
    pub extended_links : LinksWithin (length ns) links
    extended_links = let r : IsNode (link - 1) (meanings ns) (Of.Extended last links) = right (Of.Extended last links) e in links_further (link - 1) (length ns) links (omega arith) r

    pub extended_kind : (made : List Part) → map bare_members (map part_tree made) ≡ linked_parts (meanings ns) links → bare_kind (kind_tree (KindOf.Extended last made)) ≡ kind_at ns link
    extended_kind made h = ap bare_kind (extended_tree last made) ∙ ap (λ ps. extended last ps) h ∙ as_kind (Of.Extended last links) e

  module _ (size : Counter) (inner : ℕ) (e : one ≡ Of.Counted size inner) where
    pub counted_link : (0 < inner) × (inner ≤ length ns) × (inner < link)
    counted_link = let r : IsNode (link - 1) (meanings ns) (Of.Counted size inner) = right (Of.Counted size inner) e in (r.0, omega (arith, r.1), omega (arith, r.1))

    pub counted_kind : (k : Kind) (made : Box Kind Global) → made.value ≡ k → bare_kind (kind_tree k) ≡ kind_at ns inner → bare_kind (kind_tree (KindOf.Counted size made)) ≡ kind_at ns link
    unfolding kind_at
    counted_kind k made b h = ap bare_kind (counted_tree size made) ∙ ap (λ k. counted size k) (ap (λ k. bare_kind (kind_tree k)) b ∙ h) ∙ as_kind (Of.Counted size inner) e

  module _ (inner : ℕ) (e : one ≡ Of.ByFx inner) where
    pub by_fx_link : (0 < inner) × (inner ≤ length ns)
    by_fx_link = let r : IsNode (link - 1) (meanings ns) (Of.ByFx inner) = right (Of.ByFx inner) e in (r.0, omega (arith, r.1))

    pub by_fx_kind : (f : Fixed) → bare_fixed (fixed_tree f) ≡ fixed_of (linked (meanings ns) inner) → bare_kind (kind_tree (KindOf.ByFx f)) ≡ kind_at ns link
    by_fx_kind f h = ap bare_kind (by_fx_tree f) ∙ ap (λ f. by_fx f) h ∙ as_kind (Of.ByFx inner) e

  pub explicit_kind : one ≡ Of.Explicit → bare_kind (kind_tree KindOf.Explicit) ≡ kind_at ns link
  explicit_kind e = ap bare_kind explicit_tree ∙ as_kind Of.Explicit e

  module _ (mask : SlotMask) (links : List ℕ) (e : one ≡ Of.Compound mask links) where
    pub compound_links : SlotLinksWithin (length ns) links
    compound_links = let r : IsNode (link - 1) (meanings ns) (Of.Compound mask links) = right (Of.Compound mask links) e in slots_further (link - 1) (length ns) links (omega arith) r.0

    pub compound_falls : greatest links < link
    compound_falls = let r : IsNode (link - 1) (meanings ns) (Of.Compound mask links) = right (Of.Compound mask links) e in let le = greatest_within (link - 1) links r.0 in omega arith

    pub compound_kind : (made : List Slot) → map bare_slot (map slot_tree made) ≡ linked_slots (meanings ns) links → bare_kind (kind_tree (KindOf.Compound made)) ≡ kind_at ns link
    compound_kind made h = ap bare_kind (compound_tree made) ∙ ap (λ ss. compound ss) (sym (bare_slots_of (map slot_tree made)) ∙ ap slots_of h) ∙ as_kind (Of.Compound mask links) e

-- the kind of records
pub record_made : (ns : List Node) (links : List ℕ) (made : List Slot) → map bare_slot (map slot_tree made) ≡ linked_slots (meanings ns) links → bare_kind (kind_tree (KindOf.Compound made)) ≡ record_kind_at ns links
unfolding record_kind_at
record_made ns links made h = ap bare_kind (compound_tree made) ∙ ap (λ ss. compound ss) (sym (bare_slots_of (map slot_tree made)) ∙ ap slots_of h)
