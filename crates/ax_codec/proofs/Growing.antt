-- Tables that go on.
use Rattle.std.proofs.Common.{◌≡◌, ℕ, suc, ◌+◌, ◌<◌, ◌≤◌, List, [], ◌∷◌, ◌++◌, length, map, get_or, refl, sym, ◌∙◌, ap, arith, subst, length-append, append_assoc, append-nil}
use Rattle.ax_format.specs.Tree.{KindTree, fixed, extended, counted, by_fx, explicit, compound, SlotTree, named}
use Rattle.ax_codec.proofs.Tables.{linked_front, slot_front, maps_same, after_is, newer, meanings_count, get_after}
use Rattle.ax_codec.specs.Making.{GoesOn, IsMade, AreMade, SlotIsMade, SlotsAreMade, of_kind}
use Rattle.ax_codec.specs.Meaning.{Meaning, nothing, fixed_of, part_of, kind_of, meaning, meanings, meanings_after, linked, linked_member, linked_part, linked_slot}
use Rattle.ax_codec.specs.Table.{IsTable, IsNode, AreNodes, LinksWithin, SlotLinksWithin}
use Rattle.ax_codec.specs.declared.node.Node.{Node}

-- ---- meanings of a longer table

after_append : (ms : List Meaning) (ns more : List Node) → meanings_after ms (ns ++ more) ≡ meanings_after (meanings_after ms ns) more
after_append ms [] more = refl
after_append ms (n ∷ ns) more = after_append (ms ++ meaning ms n ∷ []) ns more

pub meanings_more : (ns more : List Node) → meanings (ns ++ more) ≡ meanings ns ++ newer (meanings ns) more
unfolding meanings
meanings_more ns more = after_append [] ns more ∙ after_is (meanings_after [] ns) more

-- ---- going on

pub goes_nowhere : (ns : List Node) → IsTable ns → GoesOn ns ns
goes_nowhere ns h = record { table = h; more = []; grown = sym (append-nil ns) }

pub goes_far : (a b c : List Node) → GoesOn a b → GoesOn b c → GoesOn a c
goes_far a b c h g = record { table = g.table; more = h.more ++ g.more; grown = g.grown ∙ ap (λ b. b ++ g.more) h.grown ∙ append_assoc a h.more g.more }

pub longer : (old new : List Node) → GoesOn old new → length old ≤ length new
longer old new h = omega (arith, ap length h.grown, length-append old h.more)

linked_on : (old new : List Node) (link : ℕ) → GoesOn old new → link ≤ length old → linked (meanings new) link ≡ linked (meanings old) link
linked_on old new link h le = ap (λ ns. linked (meanings ns) link) h.grown ∙ ap (λ ms. linked ms link) (meanings_more old h.more) ∙ linked_front (meanings old) (newer (meanings old) h.more) link (omega (arith, meanings_count old))

slot_on : (old new : List Node) (link : ℕ) → GoesOn old new → link ≤ length old → linked_slot (meanings new) link ≡ linked_slot (meanings old) link
slot_on old new link h le = ap (λ ns. linked_slot (meanings ns) link) h.grown ∙ ap (λ ms. linked_slot ms link) (meanings_more old h.more) ∙ slot_front (meanings old) (newer (meanings old) h.more) link (omega (arith, meanings_count old))

pub links_far : (m n : ℕ) (links : List ℕ) → m ≤ n → LinksWithin m links → LinksWithin n links
links_far m n [] le h = tt
links_far m n (link ∷ links) le h = ((h.0.0, omega (arith, h.0.1)), links_far m n links le h.1)

pub slot_links_far : (m n : ℕ) (links : List ℕ) → m ≤ n → SlotLinksWithin m links → SlotLinksWithin n links
slot_links_far m n [] le h = tt
slot_links_far m n (link ∷ links) le h = (omega (arith, h.0), slot_links_far m n links le h.1)

links_end : (n : ℕ) (links : List ℕ) (link : ℕ) → LinksWithin n links → 0 < link → link ≤ n → LinksWithin n (links ++ link ∷ [])
links_end n [] link h some le = ((some, le), tt)
links_end n (l ∷ links) link h some le = (h.0, links_end n links link h.1 some le)

slot_links_end : (n : ℕ) (links : List ℕ) (link : ℕ) → SlotLinksWithin n links → link ≤ n → SlotLinksWithin n (links ++ link ∷ [])
slot_links_end n [] link h le = (le, tt)
slot_links_end n (l ∷ links) link h le = (h.0, slot_links_end n links link h.1 le)

maps_end : {A : Type 0} (f : ℕ → A) (links : List ℕ) (link : ℕ) → map f (links ++ link ∷ []) ≡ map f links ++ f link ∷ []
maps_end f [] link = refl
maps_end f (l ∷ links) link = ap (λ x. f l ∷ x) (maps_end f links link)

-- ---- one node more

nodes_end : (ms : List Meaning) (ns : List Node) (n : Node) → AreNodes ms ns → IsNode (length (meanings_after ms ns)) (meanings_after ms ns) n → AreNodes ms (ns ++ n ∷ [])
nodes_end ms [] n h g = (g, tt)
nodes_end ms (m ∷ ns) n h g = (h.0, nodes_end (ms ++ meaning ms m ∷ []) ns n h.1 g)

pub made_node : (old new : List Node) (one : Node) (link : ℕ) → IsTable old → IsNode (length old) (meanings old) one → new ≡ old ++ one ∷ [] → link ≡ length new → IsMade old new link (meaning (meanings old) one)
unfolding meanings
made_node old new one link table h e l =
    let size : length (meanings old) ≡ length old = meanings_count old in
    let long : length new ≡ suc (length old) = ap length e ∙ length-append old (one ∷ []) ∙ (let z : length old + 1 ≡ suc (length old) = omega arith in z) in
    record {
      grows = record {
        table = record { nodes = subst (AreNodes []) (sym e) (nodes_end [] old one table.nodes (subst (λ n. IsNode n (meanings old) one) (sym size) h)) };
        more = one ∷ [];
        grown = e;
      };
      some = omega arith;
      within = omega arith;
      means = ap (linked (meanings new)) (l ∙ long) ∙ ap (λ ns. get_or (meanings ns) (length old) nothing) e ∙ ap (λ ms. get_or ms (length old) nothing) (meanings_more old (one ∷ []))
          ∙ ap (λ n. get_or (meanings old ++ meaning (meanings old) one ∷ []) n nothing) (let z : length old ≡ length (meanings old) + 0 = omega arith in z) ∙ get_after (meanings old) (meaning (meanings old) one ∷ []) 0 nothing;
    }

-- the same of a call's pieces
pub made_far : (a b c : List Node) (link : ℕ) (m n : Meaning) → GoesOn a b → IsMade b c link m → m ≡ n → IsMade a c link n
made_far a b c link m n h g e = record { grows = goes_far a b c h g.grows; some = g.some; within = g.within; means = g.means ∙ e }

-- ---- lists of links

-- what a link shows depends on the node alone
pub record Shows {A : Type 0} (see : List Meaning → ℕ → A) (of : Meaning → A) : Type 0 where
  pub same : (ms : List Meaning) (link : ℕ) → see ms link ≡ of (linked ms link)

module _ {A : Type 0} (see : List Meaning → ℕ → A) (of : Meaning → A) (shows : Shows see of) where
  pub are_none : (ns : List Node) → IsTable ns → AreMade see ns ns [] []
  are_none ns h = record { grows = goes_nowhere ns h; within = tt; means = refl }

  pub are_more : (old mid new : List Node) (links : List ℕ) (made : List A) (link : ℕ) (m : Meaning) (a : A) → AreMade see old mid links made → IsMade mid new link m → of m ≡ a → AreMade see old new (links ++ link ∷ []) (made ++ a ∷ [])
  are_more old mid new links made link m a h g e = record {
    grows = goes_far old mid new h.grows g.grows;
    within = links_end (length new) links link (links_far (length mid) (length new) links (longer mid new g.grows) h.within) g.some g.within;
    means = maps_end (see (meanings new)) links link
        ∙ (λ i. (maps_same (see (meanings new)) (see (meanings mid)) (λ link. (0 < link) × (link ≤ length mid)) links
        (λ l b. (let le = b.1 in shows.same (meanings new) l ∙ ap of (linked_on mid new l g.grows le) ∙ sym (shows.same (meanings mid) l))) h.within ∙ h.means) i
        ++ (shows.same (meanings new) link ∙ ap of g.means ∙ e) i ∷ []);
  }

pub member_shows : Shows linked_member (λ m. named [] (fixed_of m))
member_shows = record { same = λ ms link. refl }

pub part_shows : Shows linked_part part_of
part_shows = record { same = λ ms link. refl }

-- ---- slots

pub slots_more : (old mid new : List Node) (links : List ℕ) (made : List SlotTree) (link : ℕ) (slot : SlotTree) → SlotsAreMade old mid links made → SlotIsMade mid new link slot → SlotsAreMade old new (links ++ link ∷ []) (made ++ slot ∷ [])
slots_more old mid new links made link slot h g = record {
  grows = goes_far old mid new h.grows g.grows;
  within = slot_links_end (length new) links link (slot_links_far (length mid) (length new) links (longer mid new g.grows) h.within) g.within;
  means = maps_end (linked_slot (meanings new)) links link
      ∙ (λ i. (maps_same (linked_slot (meanings new)) (linked_slot (meanings mid)) (λ link. link ≤ length mid) links (λ l le. slot_on mid new l g.grows le) h.within ∙ h.means) i ++ g.means i ∷ []);
}

pub kind_back : (k : KindTree) → kind_of (of_kind k) ≡ k
kind_back (fixed f) = refl
kind_back (extended last ps) = refl
kind_back (counted size k) = refl
kind_back (by_fx f) = refl
kind_back explicit = refl
kind_back (compound ss) = refl
