-- A node of a list, and the octets that stand beside it.
use Rattle.std.proofs.Common.{◌≡◌, ℕ, zero, suc, ◌<◌, List, [], ◌∷◌, length, map, get_or, refl, arith}
use Rattle.ax_codec.specs.Octets.{octets_of}
use Rattle.ax_codec.specs.declared.node.Node.{Node}

pub record NodeThere (ns : List Node) (i : ℕ) : Type 0 where
  pub one : Node
  pub at : one ≡ get_or ns i one
  pub octets : get_or (map octets_of ns) i 0 ≡ octets_of one

pub node_there : (ns : List Node) (i : ℕ) → i < length ns → NodeThere ns i
node_there [] i lt = absurd (omega arith)
node_there (n ∷ ns) zero lt = record { one = n; at = refl; octets = refl }
node_there (n ∷ ns) (suc i) lt = let t = node_there ns i (omega arith) in record { one = t.one; at = t.at; octets = t.octets }
