-- Values of which a few octets tell where they end.
use Rattle.std.proofs.Common.{◌≡◌, ℕ, zero, suc, ◌+◌, ◌-◌, ◌*◌, ◌%◌, ◌==◌, ◌<◌, ◌≤◌, inr, true, false, cond, Bool, Some, List, [], ◌∷◌, length, get_or, refl, sym, ◌∙◌, ap, arith, subst}
use Rattle.std.proofs.Math.Nat.{suc-mul}
use Rattle.std.proofs.lemmas.Bool.{eqb-true}
use Rattle.ax_format.specs.InBounds.{InBounds}
use Rattle.ax_format.specs.Tree.{FixedTree, MembersTree, KindTree, fixed, extended, counted, by_fx, explicit, compound}
use Rattle.ax_format.specs.Widths.{width, members_width, fx_width}
use Rattle.ax_format.specs.declared.kind.Counter.TheVariants.{One, Two}
use Rattle.ax_format.specs.declared.kind.LastPart.{LastPart}
use Rattle.ax_fspec.specs.Reading.{IsCount}
use Rattle.ax_codec.specs.Extents.{kind_extent, leading_octets, parts_extent, octets_extent, whole_octets}
use Rattle.ax_codec.specs.declared.extent.Extent.TheVariants.{OctetParts, Occurrences}
use Rattle.ax_walk.proofs.CountedSteps.{CountLeads, count_first, count_next, count_last}
use Rattle.ax_walk.proofs.NodeKinds.{run_end, whole_of}
use Rattle.ax_walk.proofs.UnitSteps.{PartsLead, parts_first, parts_next, parts_last}
use Rattle.ax_walk.specs.Walking.{WalksKind}

-- ---- kinds of an extent

-- an extended item of which so many parts, from the first on, have seven bits and an FX bit
record HasOctetParts (k : KindTree) (most : ℕ) : Type 0 where
  last : LastPart
  parts : List MembersTree
  is : k ≡ extended last parts
  leads : leading_octets last parts ≡ most

-- occurrences of so many octets after a counter of one octet
record HasOccurrences (k : KindTree) (octets : ℕ) : Type 0 where
  inner : FixedTree
  is : k ≡ counted One (fixed inner)
  wide : 8 * octets ≡ width inner

parts_same : (n most : ℕ) → parts_extent n ≡ OctetParts most → n ≡ most
parts_same zero most e = cc
parts_same (suc n) most e = cc

parts_others : {A : Type 0} (n octets : ℕ) → parts_extent n ≡ Occurrences octets → A
parts_others zero octets e = cc
parts_others (suc n) octets e = cc

octets_others : {A : Type 0} (n most : ℕ) → octets_extent n ≡ OctetParts most → A
octets_others zero most e = cc
octets_others (suc n) most e = cc

octets_same : (n octets : ℕ) → octets_extent n ≡ Occurrences octets → (0 < n) × (n ≡ octets)
octets_same zero octets e = cc
octets_same (suc n) octets e = (omega arith, cc)

octet_parts_there : (k : KindTree) (most : ℕ) → kind_extent k ≡ OctetParts most → HasOctetParts k most
octet_parts_there (fixed f) most e = cc
octet_parts_there (extended last ps) most e = record { last = last; parts = ps; is = refl; leads = parts_same (leading_octets last ps) most e }
octet_parts_there (counted One (fixed f)) most e = octets_others (whole_octets (width f)) most e
octet_parts_there (counted One (extended last ps)) most e = cc
octet_parts_there (counted One (counted size k)) most e = cc
octet_parts_there (counted One (by_fx f)) most e = cc
octet_parts_there (counted One explicit) most e = cc
octet_parts_there (counted One (compound ss)) most e = cc
octet_parts_there (counted Two k) most e = cc
octet_parts_there (by_fx f) most e = cc
octet_parts_there explicit most e = cc
octet_parts_there (compound ss) most e = cc

occurrences_there : (k : KindTree) (octets : ℕ) → kind_extent k ≡ Occurrences octets → HasOccurrences k octets
occurrences_there (fixed f) octets e = cc
occurrences_there (extended last ps) octets e = parts_others (leading_octets last ps) octets e
occurrences_there (counted One (fixed f)) octets e =
    let same = octets_same (whole_octets (width f)) octets e in
    record { inner = f; is = refl; wide = sym (whole_of (width f) octets (width f % 8 == 0) refl same.1 (omega (arith, same.0, same.1))) }
occurrences_there (counted One (extended last ps)) octets e = cc
occurrences_there (counted One (counted size k)) octets e = cc
occurrences_there (counted One (by_fx f)) octets e = cc
occurrences_there (counted One explicit) octets e = cc
occurrences_there (counted One (compound ss)) octets e = cc
occurrences_there (counted Two k) octets e = cc
occurrences_there (by_fx f) octets e = cc
occurrences_there explicit octets e = cc
occurrences_there (compound ss) octets e = cc

-- ---- parts of one octet

record LeadingPart (last : LastPart) (left : List MembersTree) : Type 0 where
  part : MembersTree
  later : List MembersTree
  is : left ≡ part ∷ later
  seven : members_width part ≡ 7
  fx : fx_width last (length later) ≡ 1
  rest : leading_octets last left ≡ suc (leading_octets last later)

leading_part : (last : LastPart) (left : List MembersTree) → 0 < leading_octets last left → LeadingPart last left
leading_part last [] lt = absurd (omega arith)
leading_part last (p ∷ ps) lt = by (members_width p == 7) (fx_width last (length ps) == 1) refl refl lt
  where
    by : (a b : Bool) → (members_width p == 7) ≡ a → (fx_width last (length ps) == 1) ≡ b → 0 < cond a (cond b (suc (leading_octets last ps)) 0) 0 → LeadingPart last (p ∷ ps)
    by true true seven one lt = record {
      part = p;
      later = ps;
      is = refl;
      seven = eqb-true (members_width p) 7 seven;
      fx = eqb-true (fx_width last (length ps)) 1 one;
      rest = λ i. cond (seven i) (cond (one i) (suc (leading_octets last ps)) 0) 0;
    }
    by true false seven one lt = absurd (omega arith)
    by false b seven one lt = absurd (omega arith)

-- `n` more parts of one octet may follow octet `here`
pub record PartsLeft (last : LastPart) (all : List MembersTree) (body : List ℕ) (at here n : ℕ) : Type 0 where
  pub left : List MembersTree
  pub leads : PartsLead last all left body at here
  pub count : leading_octets last left ≡ n

-- so of each item of that extent, where some are left
pub record OctetPartsLeft (most : ℕ) (body : List ℕ) (at here n : ℕ) : Type 0 where
  pub leads : (last : LastPart) (all : List MembersTree) → InBounds (extended last all) → leading_octets last all ≡ most → 0 < n → PartsLeft last all body at here n

pub octet_parts_begin : (most : ℕ) (body : List ℕ) (at : ℕ) → at ≤ length body → OctetPartsLeft most body at at most
octet_parts_begin most body at le = record { leads = λ last all bounds e some. record { left = all; leads = parts_first last all body at bounds le; count = e } }

pub octet_parts_go_on : (most : ℕ) (body : List ℕ) (at here n : ℕ) → OctetPartsLeft most body at here (suc n) → here < length body → get_or body here 0 % 2 ≡ 1 → OctetPartsLeft most body at (here + 1) n
octet_parts_go_on most body at here n h lt fx = record { leads = leads }
  where
    leads : (last : LastPart) (all : List MembersTree) → InBounds (extended last all) → leading_octets last all ≡ most → 0 < n → PartsLeft last all body at (here + 1) n
    leads last all bounds e some =
        let now = h.leads last all bounds e (omega arith) in
        let one = leading_part last now.left (omega (arith, now.count)) in
        let rest : leading_octets last one.later ≡ n = omega (arith, now.count, one.rest) in
        let two = leading_part last one.later (omega (arith, rest)) in
        let shape : now.left ≡ one.part ∷ two.part ∷ two.later = one.is ∙ ap (λ ps. one.part ∷ ps) two.is in
        let here_fx : get_or body (here + 1 - 1) 0 % 2 ≡ 1 = subst (λ k. get_or body k 0 % 2 ≡ 1) (let z : here ≡ here + 1 - 1 = omega arith in z) fx in
        record {
          left = two.part ∷ two.later;
          leads = parts_next last all one.part two.part two.later body at here (here + 1) 7 (subst (λ left. PartsLead last all left body at here) shape now.leads) (omega arith) (omega (arith, lt)) (sym one.seven) (omega arith) here_fx;
          count = ap (leading_octets last) (sym two.is) ∙ rest;
        }

pub octet_parts_end : (most : ℕ) (body : List ℕ) (at here n : ℕ) → OctetPartsLeft most body at here (suc n) → here < length body → get_or body here 0 % 2 ≡ 0
    → (k : KindTree) → InBounds k → kind_extent k ≡ OctetParts most → (least : Bool) → WalksKind k body at (here + 1) least
octet_parts_end most body at here n h lt clear k bounds e least =
    let has = octet_parts_there k most e in
    let now = h.leads has.last has.parts (subst InBounds has.is bounds) has.leads (omega arith) in
    let one = leading_part has.last now.left (omega (arith, now.count)) in
    let here_clear : get_or body (here + 1 - 1) 0 % 2 ≡ 0 = subst (λ k. get_or body k 0 % 2 ≡ 0) (let z : here ≡ here + 1 - 1 = omega arith in z) clear in
    subst (λ k. WalksKind k body at (here + 1) least) (sym has.is)
    (parts_last has.last has.parts one.part one.later body at here (here + 1) 7 1 least (subst (λ left. PartsLead has.last has.parts left body at here) one.is now.leads) (subst InBounds has.is bounds) (omega arith) (omega (arith, lt)) (sym one.seven) (sym one.fx) (omega arith) (inr here_clear))

-- ---- occurrences

module _ (f : FixedTree) (body : List ℕ) (n at octets : ℕ) (least : Bool) (bounds : InBounds (fixed f)) (wide : 8 * octets ≡ width f) where
  one_walked : (here : ℕ) → here + octets ≤ length body → WalksKind (fixed f) body here (here + octets) least
  one_walked here fits = run_end f body here (8 * octets) wide least (Some (here + octets)) bounds (omega arith, fits, omega arith)

  -- `m` of them are left
  all_walked : (m i here : ℕ) → i + m ≡ n → here + m * octets ≤ length body → CountLeads One (fixed f) body n i at here least → WalksKind (counted One (fixed f)) body at (here + m * octets) least
  all_walked zero i here e fits h =
      subst (λ k. WalksKind (counted One (fixed f)) body at k least) (let z : here ≡ here + 0 * octets = omega arith in z) (count_last One (fixed f) body n i at here least h (omega arith))
  all_walked (suc m) i here e fits h =
      let more : suc m * octets ≡ m * octets + octets = suc-mul m octets in
      let there : here + octets + m * octets ≡ here + suc m * octets = omega (arith, more) in
      subst (λ k. WalksKind (counted One (fixed f)) body at k least) there
      (all_walked m (i + 1) (here + octets) (omega arith) (omega (arith, there, fits))
      (count_next One (fixed f) body n i at here (here + octets) least least h (omega arith) (λ t. t) (one_walked here (omega (arith, more, fits)))))

pub occurrences_end : (body : List ℕ) (at n octets end : ℕ) → IsCount One body at n → end ≡ at + 1 + n * octets → end ≤ length body → (k : KindTree) → InBounds k → kind_extent k ≡ Occurrences octets → (least : Bool) → WalksKind k body at end least
occurrences_end body at n octets end count is within k bounds e least =
    let has = occurrences_there k octets e in
    let first = count_first One (fixed has.inner) body n at 1 least count refl in
    subst (λ k. WalksKind k body at end least) (sym has.is)
    (subst (λ m. WalksKind (counted One (fixed has.inner)) body at m least) (sym is)
    (all_walked has.inner body n at octets least (subst InBounds has.is bounds) has.wide n 0 (at + 1) (omega arith) (omega (arith, is, within)) first))
