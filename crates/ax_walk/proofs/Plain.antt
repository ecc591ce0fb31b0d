-- Kinds without a presence field have one spelling.
use Rattle.std.proofs.Common.{◌≡◌, ℕ, ◌-◌, Bool, List, [], ◌∷◌, ◌++◌, length, take, drop, sym, ◌∙◌, ap}
use Rattle.ax_bits.specs.Bits.{bits, word}
use Rattle.ax_format.specs.Canonical.{number_canon, fixed_canon, members_canon, parts_canon, run_canon, canon}
use Rattle.ax_format.specs.InBounds.{InBounds}
use Rattle.ax_format.specs.Spelling.{NumberSpells, FixedSpells, MembersSpell, PartsSpell, RunSpells, Spells}
use Rattle.ax_format.specs.Tree.{FixedTree, element, group, MembersTree, no_members, member_and, named, spare, KindTree, fixed, extended, counted, by_fx, explicit, compound, ValueTree, number, member_values, part_values, occurrences, content_octets, ValuesTree, no_values, value_and, ListsTree, no_lists, list_and}
use Rattle.ax_format.specs.Widths.{fx_width}
use Rattle.ax_format.specs.declared.kind.LastPart.{LastPart}
use Rattle.ax_fspec.proofs.AtOctets.{octets_parts}
use Rattle.ax_fspec.proofs.Exact.{spelled_at}
use Rattle.ax_fspec.specs.Reading.{Gets, kind_read}
use Rattle.ax_walk.specs.Walking.{Walks}
use Rattle.ax_walk.specs.Plain.{IsPlain}

number_is : (w : ℕ) (v : ValueTree) (b : List ℕ) → NumberSpells w v b → number_canon w v ≡ b
number_is w (number n) b h = sym h.1
number_is w _ b h = absurd h

mutual
  pub fixed_is : (f : FixedTree) (v : ValueTree) (b : List ℕ) → FixedSpells f v b → fixed_canon f v ≡ b
  fixed_is (element w c) v b h = number_is w v b h
  fixed_is (group ms) (member_values vs) b h = members_is ms vs b h
  fixed_is (group ms) _ b h = absurd h

  pub members_is : (ms : MembersTree) (vs : ValuesTree) (b : List ℕ) → MembersSpell ms vs b → members_canon ms vs ≡ b
  members_is no_members no_values b h = sym h
  members_is no_members (value_and v vs) b h = absurd h
  members_is (member_and (named name f) ms) no_values b h = absurd h
  members_is (member_and (named name f) ms) (value_and v vs) b (x, y, e, h, t) = (λ i. fixed_is f v x h i ++ members_is ms vs y t i) ∙ sym e
  members_is (member_and (spare w) ms) no_values b h = absurd h
  members_is (member_and (spare w) ms) (value_and v vs) b (x, y, e, h, t) = (λ i. number_is w v x h i ++ members_is ms vs y t i) ∙ sym e

parts_are : (last : LastPart) (ps : List MembersTree) (ls : ListsTree) (b : List ℕ) → PartsSpell last ps ls b → parts_canon last ps ls ≡ b
parts_are last ps no_lists b h = absurd h
parts_are last [] (list_and vs ls) b h = absurd h
parts_are last (p ∷ ps) (list_and vs no_lists) b (x, e, h) = ap (λ x. x ++ word (fx_width last (length ps)) 0) (members_is p vs x h) ∙ sym e
parts_are last (p ∷ ps) (list_and vs (list_and ws ls)) b (x, y, e, h, t) = (λ i. members_is p vs x h i ++ 1 ∷ parts_are last ps (list_and ws ls) y t i) ∙ sym e

run_is : (f : FixedTree) (vs : ValuesTree) (b : List ℕ) → RunSpells f vs b → run_canon f vs ≡ b
run_is f no_values b h = absurd h
run_is f (value_and v no_values) b (x, e, h) = ap (λ x. x ++ 0 ∷ []) (fixed_is f v x h) ∙ sym e
run_is f (value_and v (value_and w vs)) b (x, y, e, h, t) = (λ i. fixed_is f v x h i ++ 1 ∷ run_is f (value_and w vs) y t i) ∙ sym e

pub plain_is : (k : KindTree) (v : ValueTree) (b : List ℕ) → IsPlain k → Spells k v b → canon k v ≡ b
plain_is (fixed f) v b plain h = fixed_is f v b h
plain_is (extended last ps) (part_values ls) b plain h = parts_are last ps ls b h
plain_is (extended last ps) _ b plain h = absurd h
plain_is (counted size k) v b plain h = absurd plain
plain_is (by_fx f) (occurrences vs) b plain h = run_is f vs b h
plain_is (by_fx f) _ b plain h = absurd h
plain_is explicit (content_octets xs) b plain (few, octets, e) = sym e
plain_is explicit _ b plain h = absurd h
plain_is (compound ss) v b plain h = absurd plain

pub plain_walks : (k : KindTree) (body : List ℕ) (at end : ℕ) (v : ValueTree) (least : Bool) → IsPlain k → InBounds k → Gets (kind_read k body at) body at end v → Walks (canon k) (kind_read k body at) body at end least
plain_walks k body at end v least plain bounds h = record {
  value = v;
  read = h;
  canonical = λ f. ap (λ x. x ++ bits (drop end body)) (plain_is k v (bits (take (end - at) (drop at body))) plain (spelled_at k body at end v bounds h).spelling.spells) ∙ sym (octets_parts body at end h.forwards);
}

-- the same of a walk that says nothing of what is least
pub plain_again : (k : KindTree) (body : List ℕ) (at end : ℕ) (before least : Bool) → IsPlain k → InBounds k → Walks (canon k) (kind_read k body at) body at end before → Walks (canon k) (kind_read k body at) body at end least
plain_again k body at end before least plain bounds h = plain_walks k body at end h.value least plain bounds h.read
