-- A node of a table, by its number.
use Rattle.std.proofs.Common.{◌≡◌, ℕ, zero, suc, ◌+◌, ◌-◌, ◌<◌, ◌≤◌, List, [], ◌∷◌, ◌++◌, length, map, get_or, refl, sym, ◌∙◌, ap, arith, subst, length-append, append_assoc, append-nil}
use Rattle.std.specs.List.{AllByRecursion}
use Rattle.ax_format.specs.Tree.{members_of, slots_of, named, group, subitem, extended, counted, by_fx, compound}
use Rattle.ax_format.specs.Widths.{width, members_width}
use Rattle.ax_codec.specs.Meaning.{Meaning, a_fixed, a_part, a_kind, nothing, fixed_of, part_of, kind_of, linked, linked_member, linked_part, linked_slot, meaning, meanings_after, meanings, fixed_bits, part_bits}
use Rattle.ax_codec.specs.Table.{LinksWithin, SlotLinksWithin, IsNode, AreNodes, IsTable, kind_at}
use Rattle.ax_codec.specs.declared.node.Node.{Node}
use Rattle.ax_codec.specs.declared.node.Node.TheVariants as Of
use Rattle.ax_fspec.specs.Reading.{IsMaskOf}

-- ---- more nodes change nothing

get_front : {A : Type 0} (xs ys : List A) (i : ℕ) (d : A) → i < length xs → get_or (xs ++ ys) i d ≡ get_or xs i d
get_front [] ys i d lt = absurd (omega arith)
get_front (x ∷ xs) ys zero d lt = refl
get_front (x ∷ xs) ys (suc i) d lt = get_front xs ys i d (omega arith)

pub get_after : {A : Type 0} (xs ys : List A) (i : ℕ) (d : A) → get_or (xs ++ ys) (length xs + i) d ≡ get_or ys i d
get_after [] ys i d = ap (λ n. get_or ys n d) (let e : 0 + i ≡ i = omega arith in e)
get_after (x ∷ xs) ys i d = ap (λ n. get_or (x ∷ xs ++ ys) n d) (let e : length (x ∷ xs) + i ≡ suc (length xs + i) = omega arith in e) ∙ get_after xs ys i d

pub linked_front : (ms more : List Meaning) (link : ℕ) → link ≤ length ms → linked (ms ++ more) link ≡ linked ms link
linked_front ms more zero le = refl
linked_front ms more (suc i) le = get_front ms more i nothing (omega arith)

pub slot_front : (ms more : List Meaning) (link : ℕ) → link ≤ length ms → linked_slot (ms ++ more) link ≡ linked_slot ms link
slot_front ms more zero le = refl
slot_front ms more (suc i) le = ap (λ m. subitem [] (kind_of m)) (get_front ms more i nothing (omega arith))

pub maps_same : {A : Type 0} (f g : ℕ → A) (P : ℕ → Type 0) (links : List ℕ) → ((link : ℕ) → P link → f link ≡ g link) → AllByRecursion P links → map f links ≡ map g links
maps_same f g P [] same h = refl
maps_same f g P (link ∷ links) same h = λ i. same link h.0 i ∷ maps_same f g P links same h.1 i

module _ (ms more : List Meaning) (n : ℕ) (few : n ≤ length ms) where
  members_front : (links : List ℕ) → LinksWithin n links → map (linked_member (ms ++ more)) links ≡ map (linked_member ms) links
  members_front links h = maps_same (linked_member (ms ++ more)) (linked_member ms) (λ link. (0 < link) × (link ≤ n)) links (λ link b. (let le = b.1 in ap (λ m. named [] (fixed_of m)) (linked_front ms more link (omega arith)))) h

  parts_front : (links : List ℕ) → LinksWithin n links → map (linked_part (ms ++ more)) links ≡ map (linked_part ms) links
  parts_front links h = maps_same (linked_part (ms ++ more)) (linked_part ms) (λ link. (0 < link) × (link ≤ n)) links (λ link b. (let le = b.1 in ap part_of (linked_front ms more link (omega arith)))) h

  pub slots_front : (links : List ℕ) → SlotLinksWithin n links → map (linked_slot (ms ++ more)) links ≡ map (linked_slot ms) links
  slots_front links h = maps_same (linked_slot (ms ++ more)) (linked_slot ms) (λ link. link ≤ n) links (λ link le. slot_front ms more link (omega arith)) h

  meaning_front : (one : Node) → IsNode n ms one → meaning (ms ++ more) one ≡ meaning ms one
  meaning_front (Of.Element w) h = refl
  meaning_front (Of.Group w links) h = ap (λ x. a_fixed (group (members_of x))) (members_front links h.0)
  meaning_front (Of.Part w links) h = ap (λ x. a_part (members_of x)) (members_front links h.0)
  meaning_front (Of.Extended last links) h = ap (λ x. a_kind (extended last x)) (parts_front links h)
  meaning_front (Of.Counted size link) h = ap (λ m. a_kind (counted size (kind_of m))) (linked_front ms more link (omega (arith, h.1)))
  meaning_front (Of.ByFx link) h = ap (λ m. a_kind (by_fx (fixed_of m))) (linked_front ms more link (omega (arith, h.1)))
  meaning_front Of.Explicit h = refl
  meaning_front (Of.Compound mask links) h = ap (λ x. a_kind (compound (slots_of x))) (slots_front links h.0)

  node_front : (one : Node) → IsNode n ms one → IsNode n (ms ++ more) one
  node_front (Of.Element w) h = tt
  node_front (Of.Group w links) h = (h.0, ap (λ x. members_width (members_of x)) (members_front links h.0) ∙ h.1)
  node_front (Of.Part w links) h = (h.0, ap (λ x. members_width (members_of x)) (members_front links h.0) ∙ h.1)
  node_front (Of.Extended last links) h = h
  node_front (Of.Counted size link) h = h
  node_front (Of.ByFx link) h = h
  node_front Of.Explicit h = tt
  node_front (Of.Compound mask links) h = (h.0, subst (λ slots. IsMaskOf slots mask) (sym (slots_front links h.0)) h.1)

-- ---- nodes one after the other

abbrev pub newer : List Meaning → List Node → List Meaning
newer ms [] = []
newer ms (n ∷ ns) = meaning ms n ∷ newer (ms ++ meaning ms n ∷ []) ns

pub after_is : (ms : List Meaning) (ns : List Node) → meanings_after ms ns ≡ ms ++ newer ms ns
after_is ms [] = sym (append-nil ms)
after_is ms (n ∷ ns) = after_is (ms ++ meaning ms n ∷ []) ns ∙ append_assoc ms (meaning ms n ∷ []) (newer (ms ++ meaning ms n ∷ []) ns)

newer_count : (ms : List Meaning) (ns : List Node) → length (newer ms ns) ≡ length ns
newer_count ms [] = refl
newer_count ms (n ∷ ns) = ap suc (newer_count (ms ++ meaning ms n ∷ []) ns)

pub meanings_count : (ns : List Node) → length (meanings ns) ≡ length ns
unfolding meanings
meanings_count ns = ap length (after_is [] ns) ∙ newer_count [] ns

-- the node of a number, in its place
pub record StandsAt (ns : List Node) (i : ℕ) (one : Node) : Type 0 where
  pub right : IsNode i (meanings ns) one
  pub means : linked (meanings ns) (suc i) ≡ meaning (meanings ns) one

stands_after : (ms : List Meaning) (ns : List Node) (i : ℕ) (one : Node) → AreNodes ms ns → i < length ns → one ≡ get_or ns i one
    → IsNode (length ms + i) (meanings_after ms ns) one × (get_or (meanings_after ms ns) (length ms + i) nothing ≡ meaning (meanings_after ms ns) one)
stands_after ms [] i one h lt e = absurd (omega arith)
stands_after ms (n ∷ ns) zero one h lt e =
    let all = after_is ms (n ∷ ns) in
    let more = newer ms (n ∷ ns) in
    let here : length ms + 0 ≡ length ms = omega arith in
    let few : length ms ≤ length ms = omega arith in
    let r : IsNode (length ms) (ms ++ more) n = node_front ms more (length ms) few n h.0 in
    let m : get_or (ms ++ more) (length ms + 0) nothing ≡ meaning (ms ++ more) n = get_after ms more 0 nothing ∙ sym (meaning_front ms more (length ms) few n h.0) in
    let both : IsNode (length ms + 0) (ms ++ more) n × (get_or (ms ++ more) (length ms + 0) nothing ≡ meaning (ms ++ more) n) = (subst (λ k. IsNode k (ms ++ more) n) (sym here) r, m) in
    subst (λ one. IsNode (length ms + 0) (meanings_after ms (n ∷ ns)) one × (get_or (meanings_after ms (n ∷ ns)) (length ms + 0) nothing ≡ meaning (meanings_after ms (n ∷ ns)) one)) (sym e)
    (subst (λ all. IsNode (length ms + 0) all n × (get_or all (length ms + 0) nothing ≡ meaning all n)) (sym all) both)
stands_after ms (n ∷ ns) (suc i) one h lt e =
    let l : length (ms ++ meaning ms n ∷ []) ≡ length ms + 1 = length-append ms (meaning ms n ∷ []) in
    let here : length (ms ++ meaning ms n ∷ []) + i ≡ length ms + suc i = omega arith in
    let all = meanings_after ms (n ∷ ns) in
    subst (λ k. IsNode k all one × (get_or all k nothing ≡ meaning all one)) here (stands_after (ms ++ meaning ms n ∷ []) ns i one h.1 (omega arith) e)

pub stands_at : (ns : List Node) (i : ℕ) (one : Node) → IsTable ns → i < length ns → one ≡ get_or ns i one → StandsAt ns i one
unfolding meanings
stands_at ns i one h lt e =
    let t = stands_after [] ns i one h.nodes lt e in
    let here : 0 + i ≡ i = omega arith in
    let all = meanings ns in
    let s : IsNode i all one × (get_or all i nothing ≡ meaning all one) = subst (λ k. IsNode k all one × (get_or all k nothing ≡ meaning all one)) here t in
    record { right = s.0; means = s.1 }

-- ---- what a link leads to

module _ (ns : List Node) (link : ℕ) (one : Node) (table : IsTable ns) (some : 0 < link) (within : link ≤ length ns) (is : one ≡ get_or ns (link - 1) one) where
  stands : StandsAt ns (link - 1) one
  stands = stands_at ns (link - 1) one table (omega arith) is

  pub link_right : IsNode (link - 1) (meanings ns) one
  link_right = stands.right

  pub link_means : linked (meanings ns) link ≡ meaning (meanings ns) one
  link_means = ap (linked (meanings ns)) (let e : link ≡ suc (link - 1) = omega arith in e) ∙ stands.means

-- the bits that a node says are those of what it means
fixed_bits_of : (n : ℕ) (ms : List Meaning) (one : Node) → IsNode n ms one → fixed_bits one ≡ width (fixed_of (meaning ms one))
fixed_bits_of n ms (Of.Element w) h = refl
fixed_bits_of n ms (Of.Group w links) h = sym h.1
fixed_bits_of n ms (Of.Part w links) h = refl
fixed_bits_of n ms (Of.Extended last links) h = refl
fixed_bits_of n ms (Of.Counted size link) h = refl
fixed_bits_of n ms (Of.ByFx link) h = refl
fixed_bits_of n ms Of.Explicit h = refl
fixed_bits_of n ms (Of.Compound mask links) h = refl

part_bits_of : (n : ℕ) (ms : List Meaning) (one : Node) → IsNode n ms one → part_bits one ≡ members_width (part_of (meaning ms one))
part_bits_of n ms (Of.Element w) h = refl
part_bits_of n ms (Of.Group w links) h = refl
part_bits_of n ms (Of.Part w links) h = sym h.1
part_bits_of n ms (Of.Extended last links) h = refl
part_bits_of n ms (Of.Counted size link) h = refl
part_bits_of n ms (Of.ByFx link) h = refl
part_bits_of n ms Of.Explicit h = refl
part_bits_of n ms (Of.Compound mask links) h = refl

pub fixed_bits_at : (ns : List Node) (link : ℕ) (one : Node) → IsTable ns → 0 < link → link ≤ length ns → one ≡ get_or ns (link - 1) one → fixed_bits one ≡ width (fixed_of (linked (meanings ns) link))
fixed_bits_at ns link one table some within is = fixed_bits_of (link - 1) (meanings ns) one (link_right ns link one table some within is) ∙ ap (λ m. width (fixed_of m)) (sym (link_means ns link one table some within is))

pub part_bits_at : (ns : List Node) (link : ℕ) (one : Node) → IsTable ns → 0 < link → link ≤ length ns → one ≡ get_or ns (link - 1) one → part_bits one ≡ members_width (part_of (linked (meanings ns) link))
part_bits_at ns link one table some within is = part_bits_of (link - 1) (meanings ns) one (link_right ns link one table some within is) ∙ ap (λ m. members_width (part_of m)) (sym (link_means ns link one table some within is))

pub ruleset widths = (fixed_bits_at, part_bits_at)

-- ---- the kind that a link stands for, by its node

pub kind_means : (ns : List Node) (link : ℕ) (one is : Node) → IsTable ns → 0 < link → link ≤ length ns → one ≡ get_or ns (link - 1) one → one ≡ is → kind_at ns link ≡ kind_of (meaning (meanings ns) is)
unfolding kind_at
kind_means ns link one is table some within at e = ap kind_of (link_means ns link one table some within at ∙ ap (meaning (meanings ns)) e)

pub kind_right : (ns : List Node) (link : ℕ) (one is : Node) → IsTable ns → 0 < link → link ≤ length ns → one ≡ get_or ns (link - 1) one → one ≡ is → IsNode (link - 1) (meanings ns) is
kind_right ns link one is table some within at e = subst (IsNode (link - 1) (meanings ns)) e (link_right ns link one table some within at)
