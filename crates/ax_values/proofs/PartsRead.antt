-- The parts of an extended or closed item that are left to be read.
use Rattle.std.proofs.Common.{◌≡◌, ℕ, ◌+◌, ◌-◌, ◌*◌, ◌<◌, ◌≤◌, Bool, true, false, List, [], ◌∷◌, ◌++◌, length, drop, drop-cons, map, get_or, refl, sym, ◌∙◌, ap, arith, subst, add-one, length-append, length-drop}
use Rattle.ax_bits.specs.Bits.{bits}
use Rattle.std.proofs.lemmas.List.{length-map}
use Rattle.ax_format.specs.Reader.{Read, got, after, members_value}
use Rattle.ax_format.specs.InBounds.{PartInBounds}
use Rattle.ax_format.specs.Plain.{part_tree, value_list, values_tree, lists_tree}
use Rattle.ax_format.specs.Tree.{MembersTree, ListsTree, list_and, no_lists, extended, part_values}
use Rattle.ax_format.specs.Widths.{members_width, fx_width}
use Rattle.ax_format.specs.declared.fault.BodyCause.TheVariants.{RunsOut, ExtensionPastEnd}
use Rattle.ax_format.specs.declared.fault.BodyFault.{BodyFault}
use Rattle.ax_format.specs.declared.kind.LastPart.{LastPart}
use Rattle.ax_format.specs.declared.kind.Part.{Part}
use Rattle.ax_format.specs.declared.value.Value.{Value}
use Rattle.ax_fspec.proofs.AtOctets.{parts_at, parts_fail, extended_gets}
use Rattle.ax_fspec.proofs.Continuing.{begins, goes_on, gets_after, fails_after, front_is}
use Rattle.ax_values.proofs.Onto.{lists_onto, lists_onto_none, lists_onto_more}
use Rattle.ax_values.proofs.PartUnits.{IsPartUnit, part_unit_ends, part_unit_goes_on, part_unit_past}
use Rattle.ax_fspec.specs.Reading.{Gets, FailsAt, Continues, kind_read}
use Rattle.ax_values.specs.Parts.{parts_left, PartsReady, IsPartMet}

-- ---- a part

pub left_is : (last : LastPart) (ps : List MembersTree) (body : List ℕ) (at : ℕ) → parts_left last true ps body at ≡ parts_at last ps body at
unfolding parts_left parts_at
left_is last ps body at = refl

no_more : (last : LastPart) (ps : List MembersTree) (body : List ℕ) (at : ℕ) → parts_left last false ps body at ≡ got no_lists 0 (bits (drop at body))
unfolding parts_left
no_more last ps body at = refl

pub none_left : (last : LastPart) (more : Bool) (ps : List MembersTree) (body : List ℕ) (at : ℕ) → more ≡ false → at ≤ length body → Gets (parts_left last more ps body at) body at at no_lists
none_left last more ps body at is within = record {
  forwards = omega arith;
  within = within;
  got = ap (λ more. parts_left last more ps body at) is ∙ no_more last ps body at ∙ ap (λ n. got no_lists n (bits (drop at body))) (let e : 0 ≡ 8 * (at - at) = omega arith in e);
}

pub part_short : (last : LastPart) (p : MembersTree) (ps : List MembersTree) (body : List ℕ) (at : ℕ) (fault : BodyFault) → 8 * (length body - at) < members_width p + fx_width last (length ps) → fault.cause ≡ RunsOut → fault.bit ≡ 8 * at
    → FailsAt (parts_left last true (p ∷ ps) body at) at fault
part_short last p ps body at fault less c b = subst (λ r. FailsAt r at fault) (sym (left_is last (p ∷ ps) body at)) (parts_fail last p ps body at fault less c b)

pub part_past : (last : LastPart) (p : MembersTree) (body : List ℕ) (at end : ℕ) (more : Bool) (fault : BodyFault) → IsPartUnit body at end (members_width p) (fx_width last 0) more → more ≡ true → fault.cause ≡ ExtensionPastEnd → fault.bit + 1 ≡ 8 * end
    → FailsAt (parts_left last true (p ∷ []) body at) at fault
part_past last p body at end more fault u one c b = subst (λ r. FailsAt r at fault) (sym (left_is last (p ∷ []) body at)) (part_unit_past last p body at end more fault u one c b)

-- the part is the last one that is present
part_ends : (last : LastPart) (p : MembersTree) (ps : List MembersTree) (body : List ℕ) (at end : ℕ) (more : Bool) → IsPartUnit body at end (members_width p) (fx_width last (length ps)) more → more ≡ false
    → Continues (parts_left last true (p ∷ ps) body at) at end (λ ls. list_and (members_value p (drop (8 * at) (bits body))) ls) (parts_left last false ps body end)
part_ends last p ps body at end more u none =
    let g = part_unit_ends last p body at end more ps (members_value p (drop (8 * at) (bits body))) u none refl in record {
      forwards = g.forwards;
      same = left_is last (p ∷ ps) body at ∙ g.got ∙ (let n : 8 * (end - at) ≡ 8 * (end - at) + 0 = omega arith in ap (λ n. got (list_and (members_value p (drop (8 * at) (bits body))) no_lists) n (bits (drop end body))) n)
          ∙ ap (after (8 * (end - at)) (λ ls. list_and (members_value p (drop (8 * at) (bits body))) ls)) (sym (no_more last ps body end));
    }

part_goes_on : (last : LastPart) (p q : MembersTree) (ps : List MembersTree) (body : List ℕ) (at end : ℕ) (more : Bool) → IsPartUnit body at end (members_width p) (fx_width last (length (q ∷ ps))) more → more ≡ true
    → Continues (parts_left last true (p ∷ q ∷ ps) body at) at end (λ ls. list_and (members_value p (drop (8 * at) (bits body))) ls) (parts_left last true (q ∷ ps) body end)
part_goes_on last p q ps body at end more u one =
    let g = part_unit_goes_on last p body at end more q ps (members_value p (drop (8 * at) (bits body))) u one refl in record {
      forwards = g.forwards;
      same = left_is last (p ∷ q ∷ ps) body at ∙ g.same ∙ ap (after (8 * (end - at)) (λ ls. list_and (members_value p (drop (8 * at) (bits body))) ls)) (sym (left_is last (q ∷ ps) body end));
    }

-- either way
part_read : (last : LastPart) (p : MembersTree) (ps : List MembersTree) (body : List ℕ) (at end : ℕ) (more : Bool) → IsPartUnit body at end (members_width p) (fx_width last (length ps)) more → (more ≡ true → 0 < length ps)
    → Continues (parts_left last true (p ∷ ps) body at) at end (λ ls. list_and (members_value p (drop (8 * at) (bits body))) ls) (parts_left last more ps body end)
part_read last p ps body at end false u some = part_ends last p ps body at end false u refl
part_read last p [] body at end true u some = absurd (let no : 0 < 0 = some refl in omega arith)
part_read last p (q ∷ ps) body at end true u some = part_goes_on last p q ps body at end true u refl

pub part_met : (last : LastPart) (p : MembersTree) (ps : List MembersTree) (body : List ℕ) (at end : ℕ) (more : Bool) → PartsReady last true (p ∷ ps) body at → IsPartUnit body at end (members_width p) (fx_width last (length ps)) more → (more ≡ true → 0 < length ps)
    → IsPartMet last true (p ∷ ps) body at p more ps end
part_met last p ps body at end more h u some = record {
  first = refl;
  bounds = h.bounds.0;
  forwards = u.forwards;
  width = u.width;
  within = u.within;
  read = part_read last p ps body at end more u some;
}

-- ---- at a place among the kind's parts

module _ {P : Type 0} (tree : P → MembersTree) (ps : List P) (i : ℕ) (within : i < length ps) where
  pub part_at : (p : P) → p ≡ get_or ps i p → map tree (drop i ps) ≡ tree p ∷ map tree (drop (i + 1) ps)
  part_at p is = ap (map tree) (drop-cons ps i p within ∙ (λ k. sym is k ∷ drop (sym (add-one i) k) ps))

  pub others_at : length (map tree (drop (i + 1) ps)) ≡ length ps - i - 1
  others_at = omega (arith, length-map (drop (i + 1) ps) tree, length-drop (i + 1) ps, within)

module _ (last : LastPart) (more : Bool) (all later : List MembersTree) (p : MembersTree) (body : List ℕ) (at : ℕ) (is : more ≡ true) (parts : all ≡ p ∷ later) where
  pub short_left : (fault : BodyFault) → 8 * (length body - at) < members_width p + fx_width last (length later) → fault.cause ≡ RunsOut → fault.bit ≡ 8 * at → FailsAt (parts_left last more all body at) at fault
  short_left fault less c b =
      subst (λ more. FailsAt (parts_left last more all body at) at fault) (sym is)
      (subst (λ all. FailsAt (parts_left last true all body at) at fault) (sym parts) (part_short last p later body at fault less c b))

  module _ (h : PartsReady last more all body at) where
    here : PartsReady last true (p ∷ later) body at
    here = subst (λ all. PartsReady last true all body at) parts (subst (λ more. PartsReady last more all body at) is h)

    pub left_bounds : PartInBounds (fx_width last (length later)) p
    left_bounds = here.bounds.0

    module _ (end : ℕ) (again : Bool) (u : IsPartUnit body at end (members_width p) (fx_width last (length later)) again) where
      pub past_left : (fault : BodyFault) → again ≡ true → length later ≡ 0 → fault.cause ≡ ExtensionPastEnd → fault.bit + 1 ≡ 8 * end → FailsAt (parts_left last more all body at) at fault
      past_left fault one none c b =
          let empty : later ≡ [] = none_of later none in
          subst (λ more. FailsAt (parts_left last more all body at) at fault) (sym is)
          (subst (λ all. FailsAt (parts_left last true all body at) at fault) (sym parts)
          (subst (λ later. FailsAt (parts_left last true (p ∷ later) body at) at fault) (sym empty)
          (part_past last p body at end again fault (subst (λ later. IsPartUnit body at end (members_width p) (fx_width last (length later)) again) empty u) one c b)))
        where
          none_of : (later : List MembersTree) → length later ≡ 0 → later ≡ []
          none_of [] e = refl
          none_of (q ∷ qs) e = absurd (omega (arith, e))

      pub met_left : (again ≡ true → 0 < length later) → IsPartMet last more all body at p again later end
      met_left some =
          subst (λ more. IsPartMet last more all body at p again later end) (sym is)
          (subst (λ all. IsPartMet last true all body at p again later end) (sym parts)
          (part_met last p later body at end again here u some))

      pub ready_left : (again ≡ true → 0 < length later) → PartsReady last again later body end
      ready_left some = record { small = here.small; within = u.within; bounds = here.bounds.1; some = some }

-- ---- a loop over them

-- the parts before octet `here` stand in front of those that are left
pub record PartsSoFar (whole : Read ListsTree) (last : LastPart) (more : Bool) (ps : List MembersTree) (body : List ℕ) (at here : ℕ) (made : List (List Value)) : Type 0 where
  pub ready : PartsReady last more ps body here
  pub few : length made ≤ here
  pub read : Continues whole at here (lists_onto (map value_list made)) (parts_left last more ps body here)

pub parts_begin : (last : LastPart) (ps : List MembersTree) (body : List ℕ) (at : ℕ) → PartsReady last true ps body at → PartsSoFar (parts_at last ps body at) last true ps body at at []
parts_begin last ps body at h = record {
  ready = h;
  few = omega arith;
  read = subst (λ r. Continues (parts_at last ps body at) at at (λ ls. ls) r) (sym (left_is last ps body at)) (begins (parts_at last ps body at) at);
}

module _ (whole : Read ListsTree) (last : LastPart) (more : Bool) (ps : List MembersTree) (body : List ℕ) (at here : ℕ) (made : List (List Value)) (h : PartsSoFar whole last more ps body at here made) where
  pub parts_more : (p : MembersTree) (again : Bool) (qs : List MembersTree) (end : ℕ) (vs : List Value) → IsPartMet last more ps body here p again qs end → PartsReady last again qs body end → values_tree vs ≡ members_value p (drop (8 * here) (bits body))
      → PartsSoFar whole last again qs body at end (made ++ vs ∷ [])
  parts_more p again qs end vs m ready values = record {
    ready = ready;
    few = omega (arith, h.few, m.forwards, length-append made (vs ∷ []));
    read = front_is whole (parts_left last again qs body end) at end (λ ls. lists_onto (map value_list made) (list_and (members_value p (drop (8 * here) (bits body))) ls)) (lists_onto (map value_list (made ++ vs ∷ [])))
        (λ ls. ap (λ us. lists_onto (map value_list made) (list_and us ls)) (sym values) ∙ sym (lists_onto_more made vs ls))
        (goes_on whole (parts_left last more ps body here) (parts_left last again qs body end) at here end (lists_onto (map value_list made)) (λ ls. list_and (members_value p (drop (8 * here) (bits body))) ls) h.read m.read);
  }

  pub parts_done : more ≡ false → Gets whole body at here (lists_tree made)
  parts_done is =
      subst (λ ls. Gets whole body at here ls) (lists_onto_none (map value_list made))
      (gets_after whole (parts_left last more ps body here) body at here here (lists_onto (map value_list made)) no_lists h.read
      (none_left last more ps body here is h.ready.within))

  pub parts_failed : (fault : BodyFault) → FailsAt (parts_left last more ps body here) here fault → FailsAt whole at fault
  parts_failed fault f = fails_after whole (parts_left last more ps body here) at here (lists_onto (map value_list made)) fault h.read f

-- ---- the same, of what the code has

pub parts_start : (last own_last : LastPart) (all ps : List Part) (body own : List ℕ) (at here : ℕ) (more : Bool) (made : List (List Value)) → own_last ≡ last → ps ≡ all → own ≡ body → here ≡ at → more ≡ true → made ≡ []
    → PartsReady own_last more (map part_tree ps) own here → PartsSoFar (parts_at last (map part_tree all) body at) own_last more (map part_tree ps) own at here made
parts_start last own_last all ps body own at here more made l p b h m e ready =
    subst (λ last. PartsSoFar (parts_at last (map part_tree all) body at) own_last more (map part_tree ps) own at here made) l
    (subst (λ all. PartsSoFar (parts_at own_last (map part_tree all) body at) own_last more (map part_tree ps) own at here made) p
    (subst (λ body. PartsSoFar (parts_at own_last (map part_tree ps) body at) own_last more (map part_tree ps) own at here made) b
    (subst (λ at. PartsSoFar (parts_at own_last (map part_tree ps) own at) own_last more (map part_tree ps) own at here made) h
    (subst (λ more. PartsSoFar (parts_at own_last (map part_tree ps) own here) own_last more (map part_tree ps) own here here made) (sym m)
    (subst (λ made. PartsSoFar (parts_at own_last (map part_tree ps) own here) own_last true (map part_tree ps) own here here made) (sym e)
    (parts_begin own_last (map part_tree ps) own here (subst (λ more. PartsReady own_last more (map part_tree ps) own here) m ready)))))))

pub parts_next : (whole : Read ListsTree) (last new_last : LastPart) (more : Bool) (ps : List MembersTree) (body own new : List ℕ) (at here first : ℕ) (made : List (List Value)) (p : MembersTree) (again : Bool) (qs : List MembersTree) (end : ℕ) (vs : List Value)
    → PartsSoFar whole last more ps own at here made → own ≡ body → new_last ≡ last → new ≡ own → IsPartMet last more ps own here p again qs end → PartsReady new_last again qs new end → first ≡ 8 * here → values_tree vs ≡ members_value p (drop first (bits body))
    → PartsSoFar whole new_last again qs new at end (made ++ vs ∷ [])
parts_next whole last new_last more ps body own new at here first made p again qs end vs h b l n m ready f values =
    subst (λ last. PartsSoFar whole last again qs new at end (made ++ vs ∷ [])) (sym l)
    (subst (λ new. PartsSoFar whole last again qs new at end (made ++ vs ∷ [])) (sym n)
    (parts_more whole last more ps own at here made h p again qs end vs m (subst (λ last. PartsReady last again qs own end) l (subst (λ new. PartsReady new_last again qs new end) n ready)) (values ∙ (λ i. members_value p (drop (f i) (bits (sym b i)))))))

pub parts_over : (last own_last : LastPart) (ps : List MembersTree) (more : Bool) (left : List MembersTree) (body own : List ℕ) (at here end : ℕ) (made : List (List Value)) → PartsSoFar (parts_at last ps body at) own_last more left own at here made → own ≡ body → end ≡ here → more ≡ false
    → Gets (kind_read (extended last ps) body at) body at end (part_values (lists_tree made))
parts_over last own_last ps more left body own at here end made h b e is =
    subst (λ end. Gets (kind_read (extended last ps) body at) body at end (part_values (lists_tree made))) (sym e)
    (extended_gets last ps body at here (lists_tree made) (subst (λ own. Gets (parts_at last ps body at) own at here (lists_tree made)) b (parts_done (parts_at last ps body at) own_last more left own at here made h is)))
