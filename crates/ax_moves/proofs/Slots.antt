-- What stands in the slots of a record or a compound.
use Rattle.std.proofs.Common.{◌≡◌, ℕ, zero, suc, ◌-◌, ◌<◌, ◌≤◌, List, [], ◌∷◌, length, map, get_or, Option, Some, None, IfSome, sym, ◌∙◌, ap, arith, subst}
use Rattle.std.proofs.lemmas.List.{get_or_default}
use Rattle.ax_fspec.specs.declared.mask.SlotMask.{SlotMask}
use Rattle.ax_moves.specs.Wholes.{slots_in, IsInSlot}
use Rattle.ax_format.specs.Lengths.{kind_after}
use Rattle.ax_format.specs.Tree.{slots_of}
use Rattle.ax_codec.specs.Meaning.{Meaning, kind_of, linked, linked_slot, meanings}
use Rattle.ax_codec.specs.Table.{SlotLinksWithin, kind_at, record_kind_at}
use Rattle.ax_codec.specs.declared.codec.Codec.{Codec}
use Rattle.ax_codec.specs.declared.node.Node.{Node}
use Rattle.ax_codec.specs.declared.node.Node.TheVariants as Of
use Rattle.ax_walk.specs.Placing.{ArePlaced, IsPlaced, PlacesKind, entries_there}
use Rattle.ax_walk.specs.Shown.{IsOfSlot}
use Rattle.ax_walk.specs.Values.{value_read, entries_in}
use Rattle.ax_walk.specs.declared.places.FoundItem.{FoundItem}
use Rattle.ax_walk.specs.declared.places.PlacedSlots.{PlacedSlots}
use Rattle.ax_walk.specs.declared.places.Places.{Places}

-- the kind of a slot that isn't spare is the one that its link leads to
link_kind : (ms : List Meaning) (links : List ℕ) (i link : ℕ) → link ≡ get_or links i 0 → 0 < link → kind_after i (slots_of (map (linked_slot ms) links)) ≡ Some (kind_of (linked ms link))
link_kind ms [] i link e some = absurd (omega arith)
link_kind ms (zero ∷ links) zero link e some = absurd (omega arith)
link_kind ms (suc j ∷ links) zero link e some = ap (λ n. Some (kind_of (linked ms n))) (sym e)
link_kind ms (zero ∷ links) (suc i) link e some = link_kind ms links i link e some
link_kind ms (suc j ∷ links) (suc i) link e some = link_kind ms links i link e some

pub table_kind : (nodes : List Node) (links : List ℕ) (i link : ℕ) → link ≡ get_or links i 0 → 0 < link → kind_after i (slots_in (record_kind_at nodes links)) ≡ Some (kind_at nodes link)
unfolding record_kind_at kind_at
table_kind nodes links i link e some = link_kind (meanings nodes) links i link e some

-- ---- a record or a compound

pub placed_slot : (w : PlacedSlots) (slot : ℕ) (o : Option FoundItem) → IfSome o (λ found. IsOfSlot w.codec.now w.slots.now slot found.item) → IfSome o (λ found. IsInSlot w slot found.item)
placed_slot w slot None h = tt
placed_slot w slot (Some found) h = record {
  codec_is = h.codec_is;
  kind_is = table_kind w.codec.now.nodes w.slots.now (slot - 1) found.item.link h.link_is found.item.item.some ∙ ap (λ codec. Some (kind_at codec.nodes found.item.link)) (sym h.codec_is);
  one = h.whole;
}

-- where its values stand
Holds : Codec → List ℕ → List ℕ → ℕ → Places → Type 0
Holds codec links body at places = SlotLinksWithin (length codec.nodes) links × ArePlaced codec.nodes links places.marked body (entries_there codec.nodes links body at) places.windows

pub placed_by : (p : PlacedSlots) (codec : Codec) (links body : List ℕ) (at : ℕ) (places : Places) (end : ℕ) → codec ≡ p.codec.now → links ≡ p.slots.now → body ≡ p.body.now → at ≡ p.at → places ≡ p.places.now
    → SlotLinksWithin (length codec.nodes) links → PlacesKind codec.nodes links body at places end → IsPlaced p
unfolding Holds
placed_by p codec links body at places end e f g h i within k =
    let own : Holds codec links body at places = (within, subst (λ es. ArePlaced codec.nodes links places.marked body es places.windows) (sym (ap (λ r. entries_in (value_read r)) k.read.got)) k.placed) in
    let there : Holds p.codec.now p.slots.now p.body.now p.at p.places.now =
    subst (λ c. Holds c p.slots.now p.body.now p.at p.places.now) e
    (subst (λ l. Holds codec l p.body.now p.at p.places.now) f (subst (λ b. Holds codec links b p.at p.places.now) g (subst (λ a. Holds codec links body a p.places.now) h (subst (λ x. Holds codec links body at x) i own)))) in
    record { links = there.0; placed = there.1 }

-- the node of a compound
pub compound_node : (nodes : List Node) (link : ℕ) (one : Node) (mask : SlotMask) (links : List ℕ) → 0 < link → link ≤ length nodes → one ≡ get_or nodes (link - 1) one → one ≡ Of.Compound mask links → get_or nodes (link - 1) Of.Explicit ≡ Of.Compound mask links
compound_node nodes link one mask links some within at e = get_or_default nodes (link - 1) Of.Explicit one (omega arith) ∙ sym at ∙ e
