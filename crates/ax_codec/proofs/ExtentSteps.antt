-- Extents by nodes: parts of one octet, one after another, and occurrences of fixed octets.
use Rattle.std.proofs.Common.{◌≡◌, ℕ, zero, suc, ◌+◌, ◌-◌, ◌==◌, ◌<◌, ◌≤◌, ◌⊎◌, inl, inr, cond, List, [], ◌∷◌, ◌++◌, length, length-append, map, get_or, refl, sym, ◌∙◌, ap, subst, arith}
use Rattle.std.proofs.lemmas.Bool.{eq-eqb, ne_eqb}
use Rattle.std.proofs.lemmas.List.{length-map}
use Rattle.ax_format.specs.Tree.{MembersTree}
use Rattle.ax_format.specs.Widths.{members_width, fx_width}
use Rattle.ax_format.specs.declared.kind.Counter.{Counter}
use Rattle.ax_format.specs.declared.kind.Counter.TheVariants.{One}
use Rattle.ax_format.specs.declared.kind.LastPart.{LastPart}
use Rattle.ax_codec.proofs.Tables.{kind_means, kind_right, link_right, link_means}
use Rattle.ax_codec.proofs.Growing.{links_far, slot_links_far}
use Rattle.ax_codec.proofs.NodeOctets.{node_there}
use Rattle.ax_codec.specs.Extents.{AreExtents, counted_extent, kind_extent, leading_octets, parts_extent, octets_extent, occurrences_extent, whole_octets}
use Rattle.ax_codec.specs.Meaning.{Meaning, kind_of, linked, linked_part, linked_parts, meaning, meanings}
use Rattle.ax_codec.specs.Octets.{octets_of}
use Rattle.ax_codec.specs.Table.{IsTable, IsNode, kind_at}
use Rattle.ax_codec.specs.declared.extent.Extent.{Extent}
use Rattle.ax_codec.specs.declared.extent.Extent.TheVariants.{OctetParts, Occurrences, ByNode}
use Rattle.ax_codec.specs.declared.node.Node.{Node}
use Rattle.ax_codec.specs.declared.node.Node.TheVariants as Of

-- ---- parts

part_counts : (last : LastPart) (p : MembersTree) (ps : List MembersTree) → members_width p ≡ 7 → fx_width last (length ps) ≡ 1 → leading_octets last (p ∷ ps) ≡ suc (leading_octets last ps)
part_counts last p ps seven one = λ i. cond (eq-eqb (members_width p) 7 seven i) (cond (eq-eqb (fx_width last (length ps)) 1 one i) (suc (leading_octets last ps)) 0) 0

wide_stops : (last : LastPart) (p : MembersTree) (ps : List MembersTree) → (members_width p ≡ 7 → ⊥) → leading_octets last (p ∷ ps) ≡ 0
wide_stops last p ps wide = λ i. cond (ne_eqb (members_width p) 7 wide i) (cond (fx_width last (length ps) == 1) (suc (leading_octets last ps)) 0) 0

bare_stops : (last : LastPart) (p : MembersTree) (ps : List MembersTree) → members_width p ≡ 7 → (fx_width last (length ps) ≡ 1 → ⊥) → leading_octets last (p ∷ ps) ≡ 0
bare_stops last p ps seven bare = λ i. cond (eq-eqb (members_width p) 7 seven i) (cond (ne_eqb (fx_width last (length ps)) 1 bare i) (suc (leading_octets last ps)) 0) 0

-- one part more
module _ (ns : List Node) (last : LastPart) (all left : List ℕ) (count part : ℕ) (later : List ℕ) (is : left ≡ part ∷ later) (same : leading_octets last (linked_parts (meanings ns) all) ≡ count + leading_octets last (linked_parts (meanings ns) left))
    (w fx : ℕ) (bits_of : w ≡ members_width (linked_part (meanings ns) part)) (fxs : fx ≡ fx_width last (length later)) where
  bits : fx ≡ fx_width last (length (linked_parts (meanings ns) later))
  bits = fxs ∙ ap (fx_width last) (sym (length-map later (linked_part (meanings ns))))

  split : leading_octets last (linked_parts (meanings ns) all) ≡ count + leading_octets last (linked_part (meanings ns) part ∷ linked_parts (meanings ns) later)
  split = same ∙ ap (λ left. count + leading_octets last (linked_parts (meanings ns) left)) is

  pub counts_on : w ≡ 7 → fx ≡ 1 → leading_octets last (linked_parts (meanings ns) all) ≡ (count + 1) + leading_octets last (linked_parts (meanings ns) later)
  counts_on seven one =
      let n = leading_octets last (linked_parts (meanings ns) later) in
      let e : count + suc n ≡ (count + 1) + n = omega arith in
      split ∙ ap (λ n. count + n) (part_counts last (linked_part (meanings ns) part) (linked_parts (meanings ns) later) (sym bits_of ∙ seven) (sym bits ∙ one)) ∙ e

  pub counts_wide : (w ≡ 7 → ⊥) → count ≡ leading_octets last (linked_parts (meanings ns) all)
  counts_wide wide =
      let e : count + 0 ≡ count = omega arith in
      sym (split ∙ ap (λ n. count + n) (wide_stops last (linked_part (meanings ns) part) (linked_parts (meanings ns) later) (λ seven. wide (bits_of ∙ seven))) ∙ e)

  pub counts_bare : w ≡ 7 → (fx ≡ 1 → ⊥) → count ≡ leading_octets last (linked_parts (meanings ns) all)
  counts_bare seven bare =
      let e : count + 0 ≡ count = omega arith in
      sym (split ∙ ap (λ n. count + n) (bare_stops last (linked_part (meanings ns) part) (linked_parts (meanings ns) later) (sym bits_of ∙ seven) (λ one. bare (bits ∙ one))) ∙ e)

pub counts_all : (ns : List Node) (last : LastPart) (all left : List ℕ) (count : ℕ) → left ≡ [] → leading_octets last (linked_parts (meanings ns) all) ≡ count + leading_octets last (linked_parts (meanings ns) left) → count ≡ leading_octets last (linked_parts (meanings ns) all)
counts_all ns last all left count none same =
    let e : count + 0 ≡ count = omega arith in
    sym (same ∙ ap (λ left. count + leading_octets last (linked_parts (meanings ns) left)) none ∙ e)

-- ---- by the node

parts_some : (n : ℕ) → 0 < n → OctetParts n ≡ parts_extent n
parts_some zero lt = absurd (omega arith)
parts_some (suc n) lt = refl

parts_none : (n : ℕ) → (0 < n → ⊥) → ByNode ≡ parts_extent n
parts_none zero none = refl
parts_none (suc n) none = absurd (none (omega arith))

octets_some : (n : ℕ) → 0 < n → Occurrences n ≡ octets_extent n
octets_some zero lt = absurd (omega arith)
octets_some (suc n) lt = refl

octets_none : (n : ℕ) → (0 < n → ⊥) → ByNode ≡ octets_extent n
octets_none zero none = refl
octets_none (suc n) none = absurd (none (omega arith))

module _ (ms : List Meaning) (node : Node) (last : LastPart) (links found : List ℕ) (most : ℕ) (is : node ≡ Of.Extended last links) (at : found ≡ links) (count : most ≡ leading_octets last (linked_parts ms found)) where
  extended_is : parts_extent most ≡ kind_extent (kind_of (meaning ms node))
  extended_is = ap parts_extent (count ∙ ap (λ links. leading_octets last (linked_parts ms links)) at) ∙ ap (λ n. kind_extent (kind_of (meaning ms n))) (sym is)

  pub extended_some : 0 < most → OctetParts most ≡ kind_extent (kind_of (meaning ms node))
  extended_some lt = parts_some most lt ∙ extended_is

  pub extended_none : (0 < most → ⊥) → ByNode ≡ kind_extent (kind_of (meaning ms node))
  extended_none none = parts_none most none ∙ extended_is

-- the octets that stand beside a node tell the extent of its occurrences
occurrences_of : (n : ℕ) (all : List Meaning) (one : Node) → IsNode n all one → octets_extent (octets_of one) ≡ occurrences_extent (kind_of (meaning all one))
occurrences_of n all (Of.Element w) h = refl
occurrences_of n all (Of.Group w links) h = ap (λ w. octets_extent (whole_octets w)) (sym h.1)
occurrences_of n all (Of.Part w links) h = refl
occurrences_of n all (Of.Extended last links) h = refl
occurrences_of n all (Of.Counted size link) h = refl
occurrences_of n all (Of.ByFx link) h = refl
occurrences_of n all Of.Explicit h = refl
occurrences_of n all (Of.Compound mask links) h = refl

module _ (ns : List Node) (octets : List ℕ) (counter : Counter) (link count : ℕ) (table : IsTable ns) (are : octets ≡ map octets_of ns) (some : 0 < link) (within : link ≤ length ns) (is : counter ≡ One) (at : count ≡ get_or octets (link - 1) 0) where
  counted_is : octets_extent count ≡ counted_extent counter (kind_of (linked (meanings ns) link))
  counted_is =
      let t = node_there ns (link - 1) (omega arith) in
      ap octets_extent (at ∙ ap (λ xs. get_or xs (link - 1) 0) are ∙ t.octets)
      ∙ occurrences_of (link - 1) (meanings ns) t.one (link_right ns link t.one table some within t.at)
      ∙ ap (λ m. occurrences_extent (kind_of m)) (sym (link_means ns link t.one table some within t.at))
      ∙ ap (λ size. counted_extent size (kind_of (linked (meanings ns) link))) (sym is)

  pub counted_some : 0 < count → Occurrences count ≡ counted_extent counter (kind_of (linked (meanings ns) link))
  counted_some lt = octets_some count lt ∙ counted_is

  pub counted_none : count ≤ 0 → ByNode ≡ counted_extent counter (kind_of (linked (meanings ns) link))
  counted_none none = octets_none count (omega (arith, none)) ∙ counted_is

-- the link of a counted node
pub counted_link : (n : ℕ) (all : List Meaning) (node : Node) (counter : Counter) (link : ℕ) → IsNode n all node → node ≡ Of.Counted counter link → (0 < link) × (link ≤ n)
counted_link n all node counter link h is = subst (IsNode n all) is h

-- ---- one node after another

node_far : (m n : ℕ) (all : List Meaning) (one : Node) → m ≤ n → IsNode m all one → IsNode n all one
node_far m n all (Of.Element w) le h = tt
node_far m n all (Of.Group w links) le h = (links_far m n links le h.0, h.1)
node_far m n all (Of.Part w links) le h = (links_far m n links le h.0, h.1)
node_far m n all (Of.Extended last links) le h = links_far m n links le h
node_far m n all (Of.Counted size link) le h = (h.0, omega (arith, h.1))
node_far m n all (Of.ByFx link) le h = (h.0, omega (arith, h.1))
node_far m n all Of.Explicit le h = tt
node_far m n all (Of.Compound mask links) le h = (slot_links_far m n links le h.0, h.1)

pub extents_none : (ns : List Node) (es : List Extent) → es ≡ [] → AreExtents ns es
extents_none ns es none = record { each = λ i lt. absurd (let z : length es ≡ 0 = ap length none in omega arith) }

get_before : (xs : List Extent) (y : Extent) (j : ℕ) → j < length xs → get_or (xs ++ y ∷ []) j ByNode ≡ get_or xs j ByNode
get_before [] y j lt = absurd (omega arith)
get_before (x ∷ xs) y zero lt = refl
get_before (x ∷ xs) y (suc j) lt = get_before xs y j (omega arith)

get_last : (xs : List Extent) (y : Extent) → get_or (xs ++ y ∷ []) (length xs) ByNode ≡ y
get_last [] y = refl
get_last (x ∷ xs) y = get_last xs y

-- a node of a table is right where it stands
pub node_right : (ns : List Node) (i : ℕ) (one : Node) → IsTable ns → i < length ns → one ≡ get_or ns i one → IsNode (length ns) (meanings ns) one
node_right ns i one table lt at =
    let here : suc i - 1 ≡ i = omega arith in
    node_far i (length ns) (meanings ns) one (omega arith)
    (subst (λ k. IsNode k (meanings ns) one) here (kind_right ns (suc i) one one table (omega arith) (omega arith) (subst (λ k. one ≡ get_or ns k one) (sym here) at) refl))

pub extents_more : (ns : List Node) (es new : List Extent) (one : Node) (extent : Extent) → IsTable ns → AreExtents ns es → length es < length ns → one ≡ get_or ns (length es) one → extent ≡ kind_extent (kind_of (meaning (meanings ns) one)) → new ≡ es ++ extent ∷ [] → AreExtents ns new
extents_more ns es new one extent table h lt at is grown = subst (AreExtents ns) (sym grown) (record { each = each })
  where
    last : extent ≡ kind_extent (kind_at ns (suc (length es)))
    last = is ∙ ap kind_extent (sym (kind_means ns (suc (length es)) one one table (omega arith) (omega arith) (subst (λ k. one ≡ get_or ns k one) (let e : length es ≡ suc (length es) - 1 = omega arith in e) at) refl))

    each : (i : ℕ) → i < length (es ++ extent ∷ []) → get_or (es ++ extent ∷ []) i ByNode ≡ kind_extent (kind_at ns (suc i))
    each i more = by_case (let c : (i < length es) ⊎ (i ≡ length es) = grind (arith, length-append) in c)
      where
        by_case : (i < length es) ⊎ (i ≡ length es) → get_or (es ++ extent ∷ []) i ByNode ≡ kind_extent (kind_at ns (suc i))
        by_case (inl l) = get_before es extent i l ∙ h.each i l
        by_case (inr e) = ap (λ n. get_or (es ++ extent ∷ []) n ByNode) e ∙ get_last es extent ∙ last ∙ ap (λ n. kind_extent (kind_at ns (suc n))) (sym e)
