-- The octets by the moves are the canonical ones of the moved value.
use Rattle.std.proofs.Common.{◌≡◌, ℕ, ◌+◌, ◌-◌, ◌⊎◌, inl, inr, true, cond, List, [], ◌++◌, Option, Some, None, option_map, refl, sym, ◌∙◌, ap, arith}
use Rattle.ax_relation.specs.Below.{slot_below}
use Rattle.ax_relation.specs.Moves.{moves_from, move_where, moves_below, moves_of, record_moves}
use Rattle.ax_relation.proofs.CommonParts.{parts_alike}
use Rattle.ax_relation.proofs.Lookups.{equal, less}
use Rattle.ax_relation.proofs.MovedNamed.{new_value}
use Rattle.ax_relation.proofs.MovedShape.{entries_from, entries_moved, slot_shape}
use Rattle.ax_relation.specs.Moved.{entry_where, first_lists, moved, moved_entries, moved_record}
use Rattle.ax_moves.proofs.BareSame.{same_canon, bare_after}
use Rattle.ax_moves.proofs.FrontParts.{fixed_value}
use Rattle.ax_moves.proofs.MovedMarks.{moved_field}
use Rattle.ax_moves.proofs.OneSlot.{Moves, Stays, slot_cases, named_kind, named_bounds}
use Rattle.ax_moves.specs.Octets.{spelled_where, canon_by, value_canon_by, entries_canon_by}
use Rattle.ax_format.proofs.Bounds.{bounds_whole, record_bounds}
use Rattle.ax_format.specs.At.{slot_value}
use Rattle.ax_format.specs.Bodies.{RecordShape}
use Rattle.ax_format.specs.Canonical.{canon, entries_canon}
use Rattle.ax_format.specs.Flaws.{NoFlaw}
use Rattle.ax_format.specs.InBounds.{InBounds, SlotsInBounds}
use Rattle.ax_format.specs.Lengths.{kind_after}
use Rattle.ax_format.specs.Naming.{slot_named}
use Rattle.ax_format.specs.Same.{common, common_parts}
use Rattle.ax_format.specs.Shape.{Shape, EntriesShape}
use Rattle.ax_format.specs.Shared.{is_shared_kind}
use Rattle.ax_format.specs.Specification.{SpecTree, record_kind}
use Rattle.ax_format.specs.Tree.{KindTree, fixed, extended, counted, by_fx, explicit, compound, SlotsTree, no_slots, slot_and, spare_slot, subitem, ValueTree, part_values, occurrences, content_octets, marked, EntriesTree, no_entries, entry_and}
use Rattle.ax_codec.proofs.BareKinds.{bare_canon}
use Rattle.ax_codec.specs.Bare.{bare_kind, bare_slots}

-- an entry of the first slot, or none, in front of others
abbrev pub canon_where : KindTree → Option ValueTree → List ℕ
canon_where l None = []
canon_where l (Some v) = canon l v

pub front_canon : (t : ℕ) (name : List ℕ) (l : KindTree) (ts : SlotsTree) (o : Option ValueTree) (rest : EntriesTree) → EntriesShape (t + 1) ts rest
    → entries_canon t (slot_and (subitem name l) ts) (entry_where t o rest) ≡ canon_where l o ++ entries_canon (t + 1) ts rest
front_canon t name l ts (Some v) rest h = ap (λ b. cond b (canon l v ++ entries_canon (t + 1) ts rest) (entries_canon (t + 1) ts (entry_and t v rest))) (equal t t refl)
front_canon t name l ts None no_entries h = refl
front_canon t name l ts None (entry_and u w es) h =
    let le = entries_from (t + 1) ts u w es h in ap (λ b. cond b (canon l w ++ entries_canon (t + 1) ts es) (entries_canon (t + 1) ts (entry_and u w es))) (less t u (omega arith))

mutual
  -- of a value of the old kind, for the new one
  pub canon_moved : (l k : KindTree) (v : ValueTree) → is_shared_kind k l ≡ true → InBounds l → InBounds k → Shape k v → value_canon_by (common_parts k l) (moves_from (moves_below l k)) (bare_kind k) v ≡ canon l (moved l k v)
  canon_moved (compound ts) (compound ss) (marked es) e b o h = λ i. moved_field ts ss es h b.0 b.1 i ++ entries_canon_moved 1 ts ss es h b.2 o.2 i
  canon_moved (compound ts) (compound ss) _ e b o h = absurd h
  canon_moved (fixed g) (fixed f) v e b o h = ap (canon (bare_kind (fixed f))) (fixed_value 0 f v h) ∙ same_canon (fixed f) (fixed g) v e
  canon_moved (extended last qs) (extended other ps) (part_values ls) e b o h =
      bare_canon (extended other ps) (part_values (first_lists (common ps qs) ls)) ∙ sym (parts_alike other last ps qs ls (bounds_whole (extended other ps) o) (bounds_whole (extended last qs) b))
  canon_moved (extended last qs) (extended other ps) _ e b o h = absurd h
  canon_moved (counted size l) (counted other k) (occurrences vs) e b o h = same_canon (counted other k) (counted size l) (occurrences vs) e
  canon_moved (counted size l) (counted other k) _ e b o h = absurd h
  canon_moved (by_fx g) (by_fx f) (occurrences vs) e b o h = same_canon (by_fx f) (by_fx g) (occurrences vs) e
  canon_moved (by_fx g) (by_fx f) _ e b o h = absurd h
  canon_moved explicit explicit (content_octets xs) e b o h = refl
  canon_moved explicit explicit _ e b o h = absurd h
  canon_moved _ _ v e b o h = cc

  pub entries_canon_moved : (t : ℕ) (ts ss : SlotsTree) (es : EntriesTree) → EntriesShape 1 ss es → SlotsInBounds ts → SlotsInBounds ss
      → entries_canon_by (moves_from (moves_of t ts (λ name. slot_below name (compound ss)))) (bare_slots ss) es ≡ entries_canon t ts (moved_entries t ts ss es)
  entries_canon_moved t no_slots ss es h b o = refl
  entries_canon_moved t (slot_and spare_slot ts) ss es h b o = entries_canon_moved (t + 1) ts ss es h b o
  entries_canon_moved t (slot_and (subitem name l) ts) ss es h b old_bounds =
      by_case (slot_cases t name l ss es) (entries_canon_moved (t + 1) ts ss es h b.1 old_bounds) (λ k v e p s. canon_moved l k v e b.0 p s) ∙ sym (front_canon t name l ts (new_value name l ss es) (moved_entries (t + 1) ts ss es) (entries_moved (t + 1) ts ss es h))
    where
      rule : List ℕ → Option (ℕ × KindTree)
      rule = λ own. slot_below own (compound ss)

      Later : Type 0
      Later = entries_canon_by (moves_from (moves_of (t + 1) ts (λ own. slot_below own (compound ss)))) (bare_slots ss) es ≡ entries_canon (t + 1) ts (moved_entries (t + 1) ts ss es)

      Below : Type 0
      Below = (k : KindTree) (v : ValueTree) → is_shared_kind k l ≡ true → InBounds k → Shape k v → value_canon_by (common_parts k l) (moves_from (moves_below l k)) (bare_kind k) v ≡ canon l (moved l k v)

      by_value : Below → (s : ℕ) (k : KindTree) (o : Option ValueTree) → slot_named 1 name ss ≡ Some (s, k) → is_shared_kind k l ≡ true → slot_value s es ≡ o
          → spelled_where (Some (bare_kind k)) o (value_canon_by (common_parts k l) (moves_from (moves_below l k))) ≡ canon_where l (option_map (moved l k) o)
      by_value below s k None found shared is = refl
      by_value below s k (Some v) found shared is = below k v shared (named_bounds 1 name ss s k found old_bounds) (slot_shape 1 name ss es s k v found h is)

      by_case : Moves t name l ss es ⊎ Stays t name l ss es → Later → Below
          → entries_canon_by (moves_from (move_where t l (slot_named 1 name ss) (moves_below l) ++ moves_of (t + 1) ts rule)) (bare_slots ss) es ≡ canon_where l (new_value name l ss es) ++ entries_canon (t + 1) ts (moved_entries (t + 1) ts ss es)
      by_case (inl m) later below =
          let kind : kind_after (m.old - 1) (bare_slots ss) ≡ Some (bare_kind m.kind) = bare_after (m.old - 1) ss ∙ ap (option_map bare_kind) (named_kind 1 name ss m.old m.kind m.found) in
          let here = ap (λ o. spelled_where o (slot_value m.old es) (value_canon_by (common_parts m.kind l) (moves_from (moves_below l m.kind)))) kind ∙ by_value below m.old m.kind (slot_value m.old es) m.found m.shared refl ∙ ap (canon_where l) (sym m.value) in
          ap (λ x. entries_canon_by (moves_from (x ++ moves_of (t + 1) ts rule)) (bare_slots ss) es) m.move ∙ (λ i. here i ++ later i)
      by_case (inr s) later below =
          ap (λ x. entries_canon_by (moves_from (x ++ moves_of (t + 1) ts rule)) (bare_slots ss) es) s.0 ∙ later ∙ ap (λ o. canon_where l o ++ entries_canon (t + 1) ts (moved_entries (t + 1) ts ss es)) (sym s.1)

pub record_canon_moved : (old new : SpecTree) (es : EntriesTree) → NoFlaw old → NoFlaw new → RecordShape old es
    → canon_by (moves_from (record_moves old new)) (bare_kind (record_kind old)) (marked es) ≡ canon (record_kind new) (marked (moved_record old new es))
record_canon_moved old new es old_clean clean h = canon_moved (record_kind new) (record_kind old) (marked es) refl (record_bounds new clean) (record_bounds old old_clean) h.shape
