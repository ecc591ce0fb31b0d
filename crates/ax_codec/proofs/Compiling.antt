-- Nodes of groups and parts, members and slots one after the other, of what was added before them.
use Rattle.std.proofs.Common.{◌≡◌, ℕ, zero, suc, ◌+◌, ◌-◌, ◌<◌, ◌≤◌, false, IsTrue, List, [], ◌∷◌, ◌++◌, length, map, take, drop, set, get_or, Result, Ok, Err, IfOk, refl, sym, ◌∙◌, ap, arith, subst}
use Rattle.std.specs.List.{AllByRecursion}
use Rattle.std.proofs.lemmas.List.{take_more, length-map}
use Rattle.ax_fspec.specs.Marks.{no_marks, are_marked}
use Rattle.ax_fspec.specs.declared.mask.SlotMask.{SlotMask}
use Rattle.ax_format.proofs.Bounds.{record_bounds}
use Rattle.ax_format.specs.Flaws.{NoFlaw}
use Rattle.ax_format.specs.InBounds.{PartsInBounds, InBounds}
use Rattle.ax_format.specs.Plain.{member_tree, part_tree}
use Rattle.ax_format.specs.Presence.{none_marked}
use Rattle.ax_format.specs.Specification.{SpecTree, record_kind}
use Rattle.ax_format.specs.Tree.{MemberTree, MembersTree, members_of, group, named, spare, SlotTree, slots_of, compound}
use Rattle.ax_format.specs.Widths.{member_width, members_width}
use Rattle.ax_format.specs.declared.kind.LastPart.{LastPart}
use Rattle.ax_format.specs.declared.kind.Member.{Member}
use Rattle.ax_format.specs.declared.kind.Part.{Part}
use Rattle.ax_codec.proofs.BareKinds.{bare_members_of, bare_members_width, bare_slots_of, bare_bounds}
use Rattle.ax_codec.proofs.Growing.{made_far, are_more, member_shows, part_shows, slots_more}
use Rattle.ax_codec.specs.Bare.{bare_fixed, bare_of_member, bare_member, bare_members, bare_slot}
use Rattle.ax_codec.specs.Making.{IsMade, AreMade, SlotIsMade, SlotsAreMade}
use Rattle.ax_codec.specs.Meaning.{Meaning, a_fixed, a_part, fixed_of, part_of, meaning, meanings, linked_member, linked_part, linked_slot, linked_members, linked_slots}
use Rattle.ax_codec.specs.Table.{IsNode, record_kind_at}
use Rattle.ax_codec.specs.declared.node.Node.{Node}
use Rattle.ax_codec.specs.declared.node.Node.TheVariants as Of
use Rattle.ax_fspec.proofs.Marking.{MaskSoFar, mask_none, mask_more, mask_same, mask_all, mask_rest}
use Rattle.ax_fspec.specs.Reading.{IsMaskOf, is_subitem, record_slot_list}

map_end : {A B : Type 0} (f : A → B) (xs : List A) (x : A) → map f (xs ++ x ∷ []) ≡ map f xs ++ f x ∷ []
map_end f [] x = refl
map_end f (y ∷ xs) x = ap (λ z. f y ∷ z) (map_end f xs x)

maps_two : {A B C : Type 0} (h : A → C) (f : A → B) (g : B → C) (xs : List A) (x : A) → map g (map f (xs ++ x ∷ [])) ≡ map g (map f xs) ++ g (f x) ∷ []
maps_two h f g xs x = ap (map g) (map_end f xs x) ∙ map_end g (map f xs) (f x)

module _ (old mid : List Node) (links : List ℕ) (ms : List MemberTree) (h : AreMade linked_member old mid links (map bare_member ms)) where
  pub members_are : linked_members (meanings mid) links ≡ bare_members (members_of ms)
  members_are = ap members_of h.means ∙ bare_members_of ms

  members_wide : (w : ℕ) → w ≡ members_width (members_of ms) → members_width (linked_members (meanings mid) links) ≡ w
  members_wide w e = ap members_width members_are ∙ bare_members_width (members_of ms) ∙ sym e

  pub group_node : (w : ℕ) → w ≡ members_width (members_of ms) → IsNode (length mid) (meanings mid) (Of.Group w links)
  group_node w e = (h.within, members_wide w e)

  pub part_node : (w : ℕ) → w ≡ members_width (members_of ms) → IsNode (length mid) (meanings mid) (Of.Part w links)
  part_node w e = (h.within, members_wide w e)

  pub group_made : (new : List Node) (w link : ℕ) → IsMade mid new link (meaning (meanings mid) (Of.Group w links)) → IsMade old new link (a_fixed (bare_fixed (group (members_of ms))))
  group_made new w link g = made_far old mid new link (meaning (meanings mid) (Of.Group w links)) (a_fixed (bare_fixed (group (members_of ms)))) h.grows g (ap (λ ms. a_fixed (group ms)) members_are)

  pub part_made : (new : List Node) (w link : ℕ) → IsMade mid new link (meaning (meanings mid) (Of.Part w links)) → IsMade old new link (a_part (bare_members (members_of ms)))
  part_made new w link g = made_far old mid new link (meaning (meanings mid) (Of.Part w links)) (a_part (bare_members (members_of ms))) h.grows g (ap (λ ms. a_part ms) members_are)

pub ruleset groups = (group_node, part_node)

wide_split : (m : MemberTree) (ms : List MemberTree) → members_width (members_of (m ∷ ms)) ≡ member_width m + members_width (members_of ms)
wide_split (named name f) ms = refl
wide_split (spare w) ms = refl

pub member_wide : (ms : List MemberTree) (i : ℕ) (m : MemberTree) → i < length ms → m ≡ get_or ms i m → member_width m ≤ members_width (members_of ms)
member_wide [] i m lt e = absurd (omega arith)
member_wide (n ∷ ms) zero m lt e = omega (arith, wide_split n ms, ap member_width e)
member_wide (n ∷ ms) (suc i) m lt e = omega (arith, wide_split n ms, member_wide ms i m (omega arith) e)

-- no part is wider than the longest body
abbrev pub AreNarrow : List MembersTree → Type 0
AreNarrow ps = AllByRecursion (λ p. members_width p ≤ 524256) ps

pub narrow_parts : (last : LastPart) (ps : List MembersTree) → PartsInBounds last ps → AreNarrow ps
narrow_parts last [] h = tt
narrow_parts last (p ∷ ps) h = (h.0.1, narrow_parts last ps h.1)

pub narrow_part : (ps : List MembersTree) (i : ℕ) (p : MembersTree) → AreNarrow ps → i < length ps → p ≡ get_or ps i p → members_width p ≤ 524256
narrow_part [] i p h lt e = absurd (omega arith)
narrow_part (q ∷ ps) zero p h lt e = omega (arith, h.0, ap members_width e)
narrow_part (q ∷ ps) (suc i) p h lt e = narrow_part ps i p h.1 (omega arith) e

-- ---- what a call made

pub ok_map : {A E : Type 0} {P Q : A → Type 0} (r : Result A E) → IfOk r P → ((a : A) → P a → Q a) → IfOk r Q
ok_map (Ok a) h f = f a h
ok_map (Err e) h f = tt

-- ---- members, parts and slots one after the other

module _ (old mid new : List Node) (links : List ℕ) (i : ℕ) (link : ℕ) where
  pub members_next : (all : List Member) (m : Member) → i < length all → m ≡ get_or all i m → AreMade linked_member old mid links (map bare_member (map member_tree (take i all))) → IsMade mid new link (a_fixed (bare_of_member (member_tree m)))
      → AreMade linked_member old new (links ++ link ∷ []) (map bare_member (map member_tree (take (i + 1) all)))
  members_next all m lt e h g =
      subst (AreMade linked_member old new (links ++ link ∷ [])) (sym (step all m lt e))
      (are_more linked_member (λ m. named [] (fixed_of m)) member_shows old mid new links (map bare_member (map member_tree (take i all))) link (a_fixed (bare_of_member (member_tree m))) (bare_member (member_tree m)) h g refl)
    where
      step : (all : List Member) (m : Member) → i < length all → m ≡ get_or all i m → map bare_member (map member_tree (take (i + 1) all)) ≡ map bare_member (map member_tree (take i all)) ++ bare_member (member_tree m) ∷ []
      step all m lt e = ap (λ xs. map bare_member (map member_tree xs)) (take_more all i m lt ∙ ap (λ x. take i all ++ x ∷ []) (sym e)) ∙ maps_two (λ x. bare_member (member_tree x)) member_tree bare_member (take i all) m

  pub parts_next : (all : List Part) (p : Part) → i < length all → p ≡ get_or all i p → AreMade linked_part old mid links (map bare_members (map part_tree (take i all))) → IsMade mid new link (a_part (bare_members (part_tree p)))
      → AreMade linked_part old new (links ++ link ∷ []) (map bare_members (map part_tree (take (i + 1) all)))
  parts_next all p lt e h g =
      subst (AreMade linked_part old new (links ++ link ∷ [])) (sym (step all p lt e))
      (are_more linked_part part_of part_shows old mid new links (map bare_members (map part_tree (take i all))) link (a_part (bare_members (part_tree p))) (bare_members (part_tree p)) h g refl)
    where
      step : (all : List Part) (p : Part) → i < length all → p ≡ get_or all i p → map bare_members (map part_tree (take (i + 1) all)) ≡ map bare_members (map part_tree (take i all)) ++ bare_members (part_tree p) ∷ []
      step all p lt e = ap (λ xs. map bare_members (map part_tree xs)) (take_more all i p lt ∙ ap (λ x. take i all ++ x ∷ []) (sym e)) ∙ maps_two (λ x. bare_members (part_tree x)) part_tree bare_members (take i all) p

  pub slots_next : (all : List SlotTree) (s : SlotTree) → i < length all → s ≡ get_or all i s → SlotsAreMade old mid links (map bare_slot (take i all)) → SlotIsMade mid new link (bare_slot s) → SlotsAreMade old new (links ++ link ∷ []) (map bare_slot (take (i + 1) all))
  slots_next all s lt e h g =
      subst (SlotsAreMade old new (links ++ link ∷ [])) (sym (ap (map bare_slot) (take_more all i s lt ∙ ap (λ x. take i all ++ x ∷ []) (sym e)) ∙ map_end bare_slot (take i all) s))
      (slots_more old mid new links (map bare_slot (take i all)) link (bare_slot s) h g)

-- ---- masks

pub mask_begins : (links : List ℕ) (ms : List Meaning) → MaskSoFar (linked_slots ms links) 0 no_marks
mask_begins links ms = mask_none (linked_slots ms links)

link_sub : (ms : List Meaning) (link : ℕ) → 0 < link → IsTrue (is_subitem (linked_slot ms link))
link_sub ms zero lt = absurd (omega arith)
link_sub ms (suc i) lt = refl

link_spare : (ms : List Meaning) (link : ℕ) → link ≤ 0 → is_subitem (linked_slot ms link) ≡ false
link_spare ms zero le = refl
link_spare ms (suc i) le = absurd (omega arith)

link_map : (ms : List Meaning) (links : List ℕ) (i link : ℕ) → i < length links → link ≡ get_or links i 0 → linked_slot ms link ≡ get_or (linked_slots ms links) i (linked_slot ms link)
link_map ms [] i link lt e = absurd (omega arith)
link_map ms (l ∷ links) zero link lt e = ap (linked_slot ms) e
link_map ms (l ∷ links) (suc i) link lt e = link_map ms links i link (omega arith) e

module _ (ms : List Meaning) (links : List ℕ) (i number link : ℕ) (marks : List ℕ) (h : MaskSoFar (linked_slots ms links) i marks) (lt : i < length links) (few : length links ≤ 126) (e : link ≡ get_or links i 0) where
  size : length (linked_slots ms links) ≡ length links
  size = length-map links (linked_slot ms)

  pub mask_marks : (new : List ℕ) → number ≡ i + 1 → 0 < link → new ≡ set marks (number - 1) 1 → MaskSoFar (linked_slots ms links) (i + 1) new
  mask_marks new n some is = mask_more (linked_slots ms links) i number (linked_slot ms link) marks new h (omega (arith, size)) (omega (arith, size)) (link_map ms links i link lt e) n (link_sub ms link some) is

  pub mask_skips : link ≤ 0 → MaskSoFar (linked_slots ms links) (i + 1) marks
  mask_skips none = mask_same (linked_slots ms links) i (linked_slot ms link) marks h (omega (arith, size)) (omega (arith, size)) (link_map ms links i link lt e) (link_spare ms link none)

pub mask_is : (ms : List Meaning) (links : List ℕ) (i : ℕ) (mask : SlotMask) (marks : List ℕ) → MaskSoFar (linked_slots ms links) i marks → length links ≡ i → mask.count ≡ length links → mask.defined ≡ marks → IsMaskOf (linked_slots ms links) mask
mask_is ms links i mask marks h all n d =
    let size : length (linked_slots ms links) ≡ length links = length-map links (linked_slot ms) in record {
      count = n ∙ sym size;
      defined = (λ k. are_marked (take (n k) (d k))) ∙ ap (λ n. are_marked (take n marks)) (sym size) ∙ mask_all (linked_slots ms links) i marks h (size ∙ all);
    }

pub mask_ends : (links : List ℕ) (i : ℕ) (marks : List ℕ) → ((ms : List Meaning) → MaskSoFar (linked_slots ms links) i marks) → length links ≡ i → IsTrue (none_marked (drop (length links) marks))
mask_ends links i marks h all =
    let size : length (linked_slots [] links) ≡ length links = length-map links (linked_slot []) in
    subst (λ n. IsTrue (none_marked (drop n marks))) size (mask_rest (linked_slots [] links) i marks (h []) (size ∙ all))

pub slots_count : (old new : List Node) (links : List ℕ) (slots : List SlotTree) → SlotsAreMade old new links (map bare_slot slots) → length links ≡ length slots
slots_count old new links slots h = sym (length-map links (linked_slot (meanings new))) ∙ ap length h.means ∙ length-map slots bare_slot

-- ---- slots

-- ---- records

pub record_bounds_at : (spec : SpecTree) (ns : List Node) (links : List ℕ) → NoFlaw spec → linked_slots (meanings ns) links ≡ map bare_slot (record_slot_list spec) → InBounds (record_kind_at ns links)
unfolding record_kind_at
record_bounds_at spec ns links clean e = subst InBounds (sym (ap (λ ss. compound (slots_of ss)) e ∙ ap (λ ss. compound ss) (bare_slots_of (record_slot_list spec)))) (bare_bounds (record_kind spec) (record_bounds spec clean))
