-- Rows beside nodes, one node after another.
use Rattle.std.proofs.Common.{◌≡◌, ℕ, suc, ◌-◌, ◌<◌, ◌≤◌, List, [], ◌∷◌, ◌++◌, length, map, get_or, ◌∙◌, ap, subst, arith}
use Rattle.std.proofs.lemmas.List.{length-map}
use Rattle.std.specs.List.{AllByRecursion}
use Rattle.ax_rows.specs.Rows.{AreRowsOf}
use Rattle.ax_rows.specs.declared.slot_rows.SlotRows.{SlotRows}
use Rattle.ax_codec.proofs.Growing.{slot_links_far}
use Rattle.ax_codec.proofs.Tables.{kind_right}
use Rattle.ax_codec.specs.NodeRows.{AreNodeRows, EachRows, node_slots}
use Rattle.ax_codec.specs.Octets.{octets_of}
use Rattle.ax_codec.specs.Table.{IsTable}
use Rattle.ax_codec.specs.declared.node.Node.{Node}
use Rattle.ax_codec.specs.declared.node.Node.TheVariants as Of

-- the links of a node of a table lead to nodes that are there
pub links_there : (ns : List Node) (octets : List ℕ) (i : ℕ) (one : Node) → IsTable ns → octets ≡ map octets_of ns → i < length ns → one ≡ get_or ns i one → AllByRecursion (λ link. link ≤ length octets) (node_slots one)
links_there ns octets i one table are lt at = by one refl_one
  where
    refl_one : one ≡ one
    refl_one = λ j. one

    size : length octets ≡ length ns
    size = ap length are ∙ length-map ns octets_of

    by : (n : Node) → one ≡ n → AllByRecursion (λ link. link ≤ length octets) (node_slots n)
    by (Of.Element w) e = tt
    by (Of.Group w links) e = tt
    by (Of.Part w links) e = tt
    by (Of.Extended last links) e = tt
    by (Of.Counted counter link) e = tt
    by (Of.ByFx link) e = tt
    by Of.Explicit e = tt
    by (Of.Compound mask links) e =
        slot_links_far (suc i - 1) (length octets) links (omega (arith, size, lt))
        (kind_right ns (suc i) one (Of.Compound mask links) table (omega arith) (omega (arith, lt)) (subst (λ k. one ≡ get_or ns k one) (let z : i ≡ suc i - 1 = omega arith in z) at) e).0

-- rows of no slot are as good as those of any node
pub none_rows : (octets : List ℕ) (n : Node) (r : SlotRows) → ((octets : List ℕ) → AreRowsOf octets r) → r.slots.items ≡ [] → AreNodeRows octets n r
none_rows octets n r each none = record { rows = each octets; slots = λ some. absurd (omega (arith, ap length none, some)) }

-- those of one node more
pub each_end : (octets : List ℕ) (ns : List Node) (rs : List SlotRows) (one : Node) (r : SlotRows) → EachRows octets ns rs → length rs < length ns → one ≡ get_or ns (length rs) one → AreNodeRows octets one r → EachRows octets ns (rs ++ r ∷ [])
each_end octets [] rs one r h lt at are = absurd (omega (arith, lt))
each_end octets (n ∷ ns) [] one r h lt at are = (subst (λ n. AreNodeRows octets n r) at are, tt)
each_end octets (n ∷ ns) (q ∷ rs) one r h lt at are = (h.0, each_end octets ns rs one r h.1 (omega (arith, lt)) at are)

pub ruleset rows = (links_there, none_rows, each_end)
