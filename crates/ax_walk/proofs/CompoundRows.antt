-- Rows beside the nodes of compounds, and rows of one step.
use Rattle.std.proofs.Common.{◌≡◌, ℕ, zero, suc, ◌-◌, ◌*◌, ◌<◌, ◌≤◌, List, [], ◌∷◌, length, get_or, refl, sym, ◌∙◌, ap, subst, arith}
use Rattle.ax_format.specs.InBounds.{InBounds}
use Rattle.ax_fspec.specs.Reading.{IsMaskOf}
use Rattle.ax_fspec.specs.declared.mask.SlotMask.{SlotMask}
use Rattle.ax_rows.specs.Rows.{AreRows}
use Rattle.ax_rows.specs.declared.slot_rows.SlotRows.{SlotRows}
use Rattle.ax_rows.specs.declared.step.Step.{Step}
use Rattle.ax_codec.specs.Meaning.{meanings, linked_slots}
use Rattle.ax_codec.specs.NodeRows.{AreNodeRows, EachRows, node_slots}
use Rattle.ax_codec.specs.Table.{IsTable, SlotLinksWithin, kind_at, record_kind_at}
use Rattle.ax_codec.specs.declared.node.Node.{Node}
use Rattle.ax_codec.specs.declared.node.Node.TheVariants as Of
use Rattle.ax_walk.proofs.Compounds.{slots_bounds}
use Rattle.ax_walk.proofs.NodeKinds.{is_compound, compound_links, compound_mask}
use Rattle.ax_walk.specs.Marked.{slots_under}
use Rattle.ax_walk.specs.Rows.{AreSlots}

rows_at : (octets : List ℕ) (ns : List Node) (rs : List SlotRows) (i : ℕ) (one : Node) (r : SlotRows) → EachRows octets ns rs → i < length rs → one ≡ get_or ns i one → r ≡ get_or rs i r → AreNodeRows octets one r
rows_at octets ns [] i one r h lt is at = absurd (omega (arith, lt))
rows_at octets [] (q ∷ rs) i one r h lt is at = absurd h
rows_at octets (n ∷ ns) (q ∷ rs) zero one r h lt is at = subst (λ n. AreNodeRows octets n r) (sym is) (subst (λ q. AreNodeRows octets n q) (sym at) h.0)
rows_at octets (n ∷ ns) (q ∷ rs) (suc i) one r h lt is at = rows_at octets ns rs i one r h.1 (omega (arith, lt)) is at

-- rows that are lent are those of the node's slots
pub rows_there : (octets : List ℕ) (ns : List Node) (rs : List SlotRows) (i : ℕ) (one : Node) (r : SlotRows) → EachRows octets ns rs → i < length rs → one ≡ get_or ns i one → r ≡ get_or rs i r → 0 < length r.slots.items
    → AreRows octets (node_slots one) r.start.items r.steps.items
rows_there octets ns rs i one r h lt is at some = let a = rows_at octets ns rs i one r h lt is at in subst (λ slots. AreRows octets slots r.start.items r.steps.items) (a.slots some) a.rows

-- the node of a number, whatever stands for one that isn't there
node_either : (ns : List Node) (i : ℕ) (d e : Node) → i < length ns → get_or ns i d ≡ get_or ns i e
node_either [] i d e lt = absurd (omega (arith, lt))
node_either (n ∷ ns) zero d e lt = refl
node_either (n ∷ ns) (suc i) d e lt = node_either ns i d e (omega (arith, lt))

pub node_found : (ns : List Node) (i : ℕ) → i < length ns → get_or ns i Of.Explicit ≡ get_or ns i (get_or ns i Of.Explicit)
node_found ns i lt = node_either ns i Of.Explicit (get_or ns i Of.Explicit) lt

-- the links of a compound's slots
pub under_is : (ns : List Node) (link : ℕ) (one : Node) (mask : SlotMask) (links found : List ℕ) → 0 < link → link ≤ length ns → one ≡ get_or ns (link - 1) one → one ≡ Of.Compound mask links → found ≡ links → slots_under ns link ≡ found
under_is ns link one mask links found some within at is same = ap node_slots (node_either ns (link - 1) Of.Explicit one (omega (arith, some, within)) ∙ sym at ∙ is) ∙ sym same

-- ---- the slots of a node, which has some where it is a compound

no_slots_are : (ns : List Node) → AreSlots ns []
no_slots_are ns = record { within = tt; bounds = tt }

-- what a compound's node says of its slots
pub record IsCompoundAt (ns : List Node) (link : ℕ) (links : List ℕ) : Type 0 where
  pub mask : SlotMask
  pub kind : kind_at ns link ≡ record_kind_at ns links
  pub bounds : InBounds (record_kind_at ns links)
  pub right : IsMaskOf (linked_slots (meanings ns) links) mask
  pub within : SlotLinksWithin (length ns) links

module _ (ns : List Node) (link : ℕ) (table : IsTable ns) (some : 0 < link) (within : link ≤ length ns) (bounds : InBounds (kind_at ns link)) where
  by_node : (one : Node) → one ≡ get_or ns (link - 1) one → 0 < length (node_slots one) → IsCompoundAt ns link (node_slots one)
  by_node (Of.Element w) at lt = absurd (omega (arith, lt))
  by_node (Of.Group w links) at lt = absurd (omega (arith, lt))
  by_node (Of.Part w links) at lt = absurd (omega (arith, lt))
  by_node (Of.Extended last links) at lt = absurd (omega (arith, lt))
  by_node (Of.Counted size inner) at lt = absurd (omega (arith, lt))
  by_node (Of.ByFx inner) at lt = absurd (omega (arith, lt))
  by_node Of.Explicit at lt = absurd (omega (arith, lt))
  by_node (Of.Compound mask links) at lt = let same = is_compound ns link (Of.Compound mask links) table some within at mask links links refl refl in record {
    mask = mask;
    kind = same;
    bounds = subst InBounds same bounds;
    right = compound_mask ns link (Of.Compound mask links) table some within at mask links links refl refl;
    within = compound_links ns link (Of.Compound mask links) table some within at mask links links refl refl;
  }

  pub compound_at : 0 < length (slots_under ns link) → IsCompoundAt ns link (slots_under ns link)
  compound_at lt = by_node (get_or ns (link - 1) Of.Explicit) (node_found ns (link - 1) (omega (arith, some, within))) lt

  pub under_are : AreSlots ns (slots_under ns link)
  under_are = by (slots_under ns link) refl
    where
      by : (links : List ℕ) → slots_under ns link ≡ links → AreSlots ns links
      by [] e = no_slots_are ns
      by (one ∷ links) e =
          let at = compound_at (omega (arith, ap length e)) in
          subst (AreSlots ns) e (record { within = at.within; bounds = slots_bounds ns (slots_under ns link) at.bounds })

  -- slots that have a presence octet
  pub some_under : (octets start : List ℕ) (steps : List Step) (i : ℕ) → AreRows octets (slots_under ns link) start steps → 128 * i < length start → IsCompoundAt ns link (slots_under ns link)
  some_under octets start steps i rows lt = compound_at (omega (arith, rows.size, lt))

pub ruleset there = (rows_there)
