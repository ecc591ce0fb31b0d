-- A kind keeps its bounds where the same kind without names and contents does.
use Rattle.std.proofs.Common.{◌≡◌, suc, ◌+◌, ◌%◌, List, [], ◌∷◌, length, map, refl, sym, ◌∙◌, ap, arith}
use Rattle.std.proofs.lemmas.List.{length-map}
use Rattle.ax_format.specs.InBounds.{FixedInBounds, MembersInBounds, PartsInBounds, InBounds, SlotsInBounds}
use Rattle.ax_format.specs.Tree.{FixedTree, element, group, MembersTree, no_members, member_and, named, spare, KindTree, fixed, extended, counted, by_fx, explicit, compound, SlotsTree, no_slots, slot_and, spare_slot, subitem, slot_count}
use Rattle.ax_format.specs.Widths.{fx_width}
use Rattle.ax_format.specs.declared.kind.LastPart.{LastPart}
use Rattle.ax_codec.proofs.BareKinds.{bare_width, bare_members_width}
use Rattle.ax_codec.specs.Bare.{bare_fixed, bare_members, bare_kind, bare_slots}

mutual
  fixed_bounds : (f : FixedTree) → FixedInBounds (bare_fixed f) → FixedInBounds f
  fixed_bounds (element w c) h = h
  fixed_bounds (group ms) h = members_bounds ms h

  members_bounds : (ms : MembersTree) → MembersInBounds (bare_members ms) → MembersInBounds ms
  members_bounds no_members h = tt
  members_bounds (member_and (named name f) ms) h = (fixed_bounds f h.0, members_bounds ms h.1)
  members_bounds (member_and (spare w) ms) h = (h.0, members_bounds ms h.1)

parts_bounds : (last : LastPart) (ps : List MembersTree) → PartsInBounds last (map bare_members ps) → PartsInBounds last ps
parts_bounds last [] h = tt
parts_bounds last (p ∷ ps) h =
    let e = bare_members_width p in
    let fx : fx_width last (length (map bare_members ps)) ≡ fx_width last (length ps) = ap (fx_width last) (length-map ps bare_members) in
    ((sym (λ i. (e i + fx i) % 8) ∙ h.0.0, omega (arith, e, h.0.1), members_bounds p h.0.2, omega (arith, e, fx, h.0.3)), parts_bounds last ps h.1)

count_same : (ss : SlotsTree) → slot_count (bare_slots ss) ≡ slot_count ss
count_same no_slots = refl
count_same (slot_and spare_slot ss) = ap suc (count_same ss)
count_same (slot_and (subitem name k) ss) = ap suc (count_same ss)

mutual
  pub in_bounds : (k : KindTree) → InBounds (bare_kind k) → InBounds k
  in_bounds (fixed f) h = let e = bare_width f in (sym (ap (λ w. w % 8) e) ∙ h.0, omega (arith, h.1), fixed_bounds f h.2)
  in_bounds (extended last ps) h = (omega (arith, h.0, length-map ps bare_members), parts_bounds last ps h.1)
  in_bounds (counted size k) h = in_bounds k h
  in_bounds (by_fx f) h = let e = bare_width f in (sym (ap (λ w. (w + 1) % 8) e) ∙ h.0, omega (arith, h.1), fixed_bounds f h.2)
  in_bounds explicit h = tt
  in_bounds (compound ss) h = let e = count_same ss in (omega (arith, h.0), omega (arith, h.1), slots_bounds ss h.2)

  slots_bounds : (ss : SlotsTree) → SlotsInBounds (bare_slots ss) → SlotsInBounds ss
  slots_bounds no_slots h = tt
  slots_bounds (slot_and spare_slot ss) h = slots_bounds ss h
  slots_bounds (slot_and (subitem name k) ss) h = (in_bounds k h.0, slots_bounds ss h.1)
