-- Parts that are looked for along an extended or closed item.
use Rattle.std.proofs.Common.{◌≡◌, ℕ, zero, suc, ◌+◌, ◌-◌, ◌*◌, ◌%◌, ◌<◌, ◌≤◌, ◌⊎◌, inl, inr, None, List, [], ◌∷◌, length, drop, get_or, refl, sym, ◌∙◌, ap, arith, subst, option_and_then}
use Rattle.ax_bits.specs.Bits.{bits}
use Rattle.ax_format.specs.Reader.{Read, got, failed, after, fixed_value, members_value, parts_read}
use Rattle.ax_format.specs.InBounds.{InBounds, PartsInBounds}
use Rattle.ax_format.specs.Tree.{MembersTree, ValuesTree, ListsTree, no_lists, list_and, part_values, extended}
use Rattle.ax_format.specs.Widths.{width, members_width, fx_width}
use Rattle.ax_format.specs.declared.fault.BodyCause.TheVariants.{RunsOut, ExtensionPastEnd}
use Rattle.ax_format.specs.declared.fault.BodyFault.{BodyFault}
use Rattle.ax_format.specs.declared.kind.LastPart.{LastPart}
use Rattle.ax_codec.specs.Meaning.{meanings, linked, fixed_of, part_of, linked_part, linked_parts}
use Rattle.ax_codec.specs.Table.{LinksWithin}
use Rattle.ax_codec.specs.declared.node.Node.{Node}
use Rattle.ax_fspec.proofs.AtOctets.{parts_at, fx_or_none, parts_fail, parts_go_on, parts_past_end}
use Rattle.ax_walk.proofs.Found.{all_after, not_failed}
use Rattle.ax_walk.proofs.UnitSteps.{EndsParts, GoesOn, last_read_at, unit_at, part_wide as wide_part, part_some as some_octet}
use Rattle.ax_format.specs.At.{nth_list, nth_value, value_at}
use Rattle.ax_walk.specs.Spots.{lists_in, FindsPart, FindsNoPart, FindsMember, FindsNone, FindsFixed, FindsNothing, IsFixedAt, IsNoNumber}
use Rattle.ax_walk.specs.Values.{IsAll, IsOne, value_read, value_in}

abbrev pub lists_found : Read ListsTree → ListsTree
lists_found (got ls n y) = ls
lists_found (failed p c) = no_lists

list_after : (n : ℕ) (vs : ValuesTree) (r : Read ListsTree) → IsAll r → lists_found (after n (λ ls. list_and vs ls) r) ≡ list_and vs (lists_found r)
list_after n vs (got ls m y) h = refl
list_after n vs (failed p c) h = absurd h

pub parts_after : (n : ℕ) (r : Read ListsTree) → IsAll r → lists_in (value_read (after n (λ ls. part_values ls) r)) ≡ lists_found r
parts_after n (got ls m y) h = refl
parts_after n (failed p c) h = absurd h

-- ---- one part

pub parts_left_none : (last : LastPart) (body : List ℕ) (here : ℕ) → IsAll (parts_at last [] body here) → ⊥
unfolding parts_at
parts_left_none last body here h = h

pub record MoreParts (last : LastPart) (p : MembersTree) (left : List MembersTree) (body : List ℕ) (here end : ℕ) : Type 0 where
  pub all : IsAll (parts_at last left body end)
  pub found : lists_found (parts_at last (p ∷ left) body here) ≡ list_and (members_value p (drop (8 * here) (bits body))) (lists_found (parts_at last left body end))

more_with_fx : (last : LastPart) (p : MembersTree) (left : List MembersTree) (body : List ℕ) (here end w : ℕ) → here ≤ end → end ≤ length body → w ≡ members_width p → fx_width last (length left) ≡ 1 → w + 1 ≡ 8 * (end - here)
    → IsAll (parts_at last (p ∷ left) body here) → get_or body (end - 1) 0 % 2 ≡ 1 → MoreParts last p left body here end
more_with_fx last p [] body here end w le within is has long all fx =
    let fault : BodyFault = record { cause = ExtensionPastEnd; bit = 8 * end - 1 } in
    let l = parts_past_end last p body here end w 1 fault has (unit_at body here end w 1 le within long fx) (sym is) refl refl (omega arith) in
    absurd (not_failed l.place fault.cause (parts_at last (p ∷ []) body here) l.failed all)
more_with_fx last p (q ∷ left) body here end w le within is has long all fx =
    let vs = members_value p (drop (8 * here) (bits body)) in
    let c = parts_go_on last p q left body here end w 1 vs (unit_at body here end w 1 le within long fx) (sym is) refl refl in
    let rest = all_after (8 * (end - here)) (λ ls. list_and vs ls) (parts_at last (q ∷ left) body end) (subst IsAll c.same all) in
    record { all = rest; found = ap lists_found c.same ∙ list_after (8 * (end - here)) vs (parts_at last (q ∷ left) body end) rest }

module _ (last : LastPart) (p : MembersTree) (left : List MembersTree) (body : List ℕ) (here end w fx : ℕ) (le : here ≤ end) (within : end ≤ length body) (is : w ≡ members_width p) (s : fx ≡ fx_width last (length left)) (long : w + fx ≡ 8 * (end - here)) (all : IsAll (parts_at last (p ∷ left) body here)) where
  pub last_part : EndsParts body end fx → lists_found (parts_at last (p ∷ left) body here) ≡ list_and (members_value p (drop (8 * here) (bits body))) no_lists
  last_part ends = ap lists_found (last_read_at last p left body here end w fx le within is s long ends).got

  pub more_parts : GoesOn body end fx → MoreParts last p left body here end
  more_parts on = more_with_fx last p left body here end w le within is (sym s ∙ on.0) (omega (arith, long, on.0)) all on.1

  pub this_part : nth_list 0 (lists_found (parts_at last (p ∷ left) body here)) ≡ members_value p (drop (8 * here) (bits body))
  this_part = by (fx_or_none last (length left)) (get_or body (end - 1) 0 % 2) refl
    where
      by : (fx_width last (length left) ≡ 1) ⊎ (fx_width last (length left) ≡ 0) → (bit : ℕ) → get_or body (end - 1) 0 % 2 ≡ bit → nth_list 0 (lists_found (parts_at last (p ∷ left) body here)) ≡ members_value p (drop (8 * here) (bits body))
      by (inr none) bit e = ap (nth_list 0) (last_part (inl (s ∙ none)))
      by (inl one) zero e = ap (nth_list 0) (last_part (inr e))
      by (inl one) (suc zero) e = ap (nth_list 0) (more_parts (s ∙ one, e)).found
      by (inl one) (suc (suc n)) e = absurd (omega arith)

pub part_fits : (last : LastPart) (p : MembersTree) (left : List MembersTree) (body : List ℕ) (here : ℕ) (short : 8 * (length body - here) < members_width p + fx_width last (length left)) → IsAll (parts_at last (p ∷ left) body here) → ⊥
part_fits last p left body here short all =
    let fault : BodyFault = record { cause = RunsOut; bit = 8 * here } in
    let l = parts_fail last p left body here fault short refl refl in not_failed l.place fault.cause (parts_at last (p ∷ left) body here) l.failed all

-- ---- along the parts

pub record PartsFound (nodes : List Node) (last : LastPart) (whole left body : List ℕ) (here i n : ℕ) : Type 0 where
  pub within : here ≤ length body
  pub links : LinksWithin (length nodes) left
  pub bounds : PartsInBounds last (linked_parts (meanings nodes) left)
  pub all : IsAll (parts_at last (linked_parts (meanings nodes) left) body here)
  pub same : nth_list i (lists_in (value_in (extended last (linked_parts (meanings nodes) whole)) body)) ≡ nth_list n (lists_found (parts_at last (linked_parts (meanings nodes) left) body here))

pub parts_looked : (nodes : List Node) (last : LastPart) (links body : List ℕ) (i : ℕ) → LinksWithin (length nodes) links → InBounds (extended last (linked_parts (meanings nodes) links)) → IsOne (extended last (linked_parts (meanings nodes) links)) body → PartsFound nodes last links links body 0 i i
unfolding parts_at value_in
parts_looked nodes last links body i within bounds one =
    let r = parts_read last (linked_parts (meanings nodes) links) (bits body) in
    let all = all_after 0 (λ ls. part_values ls) r one.all in record {
      within = omega arith;
      links = within;
      bounds = bounds.1;
      all = all;
      same = ap (nth_list i) (parts_after 0 r all);
    }

pred : (n : ℕ) → (n ≡ 0 → ⊥) → n ≡ suc (n - 1)
pred zero some = absurd (some refl)
pred (suc n) some = omega arith

module _ (nodes : List Node) (last : LastPart) (all left later body : List ℕ) (p here i n : ℕ) (h : PartsFound nodes last all left body here i n) (e : left ≡ p ∷ later) where
  split : PartsFound nodes last all (p ∷ later) body here i n
  split = subst (λ left. PartsFound nodes last all left body here i n) e h

  module _ (w fx : ℕ) (is : w ≡ members_width (linked_part (meanings nodes) p)) (s : fx ≡ fx_width last (length (linked_parts (meanings nodes) later))) where
    pub part_wide : ((w + fx) % 8 ≡ 0) × (w + fx ≤ 524264)
    part_wide = wide_part last (linked_part (meanings nodes) p) (linked_parts (meanings nodes) later) w fx split.bounds.0 is s

    pub part_failed : 8 * (length body - here) < w + fx → ⊥
    part_failed short = part_fits last (linked_part (meanings nodes) p) (linked_parts (meanings nodes) later) body here (omega (arith, short, is, s)) split.all

    module _ (end : ℕ) (le : here ≤ end) (within : end ≤ length body) (long : w + fx ≡ 8 * (end - here)) where
      pub part_some : 0 < end
      part_some = some_octet last (linked_part (meanings nodes) p) (linked_parts (meanings nodes) later) w fx split.bounds.0 is s here end long

      pub part_found_here : n ≡ 0 → FindsPart nodes last (linked_parts (meanings nodes) all) body i p (8 * here)
      part_found_here z = record {
        some = split.links.0.0;
        within = split.links.0.1;
        bounds = split.bounds.0.2;
        room = omega (arith, is, long, within, le);
        value = split.same ∙ ap (λ n. nth_list n (lists_found (parts_at last (linked_parts (meanings nodes) (p ∷ later)) body here))) z ∙ this_part last (linked_part (meanings nodes) p) (linked_parts (meanings nodes) later) body here end w fx le within is s long split.all;
      }

      pub part_ends : (n ≡ 0 → ⊥) → EndsParts body end fx → FindsNoPart last (linked_parts (meanings nodes) all) body i
      part_ends some ends = record {
        none = split.same ∙ ap (λ n. nth_list n (lists_found (parts_at last (linked_parts (meanings nodes) (p ∷ later)) body here))) (pred n some)
            ∙ ap (nth_list (suc (n - 1))) (last_part last (linked_part (meanings nodes) p) (linked_parts (meanings nodes) later) body here end w fx le within is s long split.all ends);
      }

      pub part_next : (n ≡ 0 → ⊥) → GoesOn body end fx → PartsFound nodes last all later body end i (n - 1)
      part_next some on =
          let m = more_parts last (linked_part (meanings nodes) p) (linked_parts (meanings nodes) later) body here end w fx le within is s long split.all on in record {
            within = within;
            links = split.links.1;
            bounds = split.bounds.1;
            all = m.all;
            same = split.same ∙ ap (λ n. nth_list n (lists_found (parts_at last (linked_parts (meanings nodes) (p ∷ later)) body here))) (pred n some) ∙ ap (nth_list (suc (n - 1))) m.found;
          }

pub parts_past_all : (nodes : List Node) (last : LastPart) (all left body : List ℕ) (here i n : ℕ) → PartsFound nodes last all left body here i n → left ≡ [] → ⊥
parts_past_all nodes last all left body here i n h e = parts_left_none last body here (subst (λ left. IsAll (parts_at last (linked_parts (meanings nodes) left) body here)) e h.all)

-- ---- what stands in a part

module _ (last : LastPart) (ps : List MembersTree) (body : List ℕ) (one : IsOne (extended last ps) body) where
  pub is_parts : value_in (extended last ps) body ≡ part_values (lists_in (value_in (extended last ps) body))
  unfolding value_in
  is_parts = by (parts_read last ps (bits body)) (all_after 0 (λ ls. part_values ls) (parts_read last ps (bits body)) one.all)
    where
      by : (r : Read ListsTree) → IsAll r → value_read (after 0 (λ ls. part_values ls) r) ≡ part_values (lists_in (value_read (after 0 (λ ls. part_values ls) r)))
      by (got ls m y) h = refl
      by (failed p c) h = absurd h

  as_parts : (steps whole : List ℕ) → whole ≡ steps → value_at whole (value_in (extended last ps) body) ≡ value_at steps (part_values (lists_in (value_in (extended last ps) body)))
  as_parts steps whole e = ap (λ s. value_at s (value_in (extended last ps) body)) e ∙ ap (value_at steps) is_parts

  pub no_part_step : (steps : List ℕ) → steps ≡ [] → IsNoNumber (value_at steps (value_in (extended last ps) body))
  no_part_step steps e = record { value = part_values (lists_in (value_in (extended last ps) body)); is = as_parts [] steps e; none = refl }

  pub no_member_step : (steps inside : List ℕ) (p : ℕ) → steps ≡ p ∷ inside → inside ≡ [] → value_at steps (value_in (extended last ps) body) ≡ None
  no_member_step steps inside p e f = as_parts (p ∷ []) steps (e ∙ ap (λ xs. p ∷ xs) f)

  module _ (steps inside later : List ℕ) (p i : ℕ) (e : steps ≡ p ∷ inside) (f : inside ≡ i ∷ later) where
    at_parts : value_at steps (value_in (extended last ps) body) ≡ option_and_then (value_at later) (nth_value i (nth_list p (lists_in (value_in (extended last ps) body))))
    at_parts = as_parts (p ∷ i ∷ later) steps (e ∙ ap (λ xs. p ∷ xs) f)

    pub not_present : FindsNoPart last ps body p → value_at steps (value_in (extended last ps) body) ≡ None
    not_present h = at_parts ∙ ap (λ vs. option_and_then (value_at later) (nth_value i vs)) h.none

    module _ (nodes : List Node) (link bit : ℕ) (h : FindsPart nodes last ps body p link bit) where
      pub no_such_member : FindsNone (part_of (linked (meanings nodes) link)) bit i → value_at steps (value_in (extended last ps) body) ≡ None
      no_such_member m = at_parts ∙ ap (λ vs. option_and_then (value_at later) (nth_value i vs)) h.value ∙ ap (option_and_then (value_at later)) (m.none (bits body))

      module _ (member at : ℕ) (m : FindsMember nodes (part_of (linked (meanings nodes) link)) bit i member at) where
        in_member : value_at steps (value_in (extended last ps) body) ≡ value_at later (fixed_value (fixed_of (linked (meanings nodes) member)) (drop at (bits body)))
        in_member = at_parts ∙ ap (λ vs. option_and_then (value_at later) (nth_value i vs)) h.value ∙ ap (option_and_then (value_at later)) (m.value (bits body))

        pub member_fits : at + width (fixed_of (linked (meanings nodes) member)) ≤ 524256
        member_fits = let r = m.room in let s = h.room in let few = one.few in omega arith

        pub in_part : (to from : ℕ) → FindsFixed nodes (fixed_of (linked (meanings nodes) member)) at later to from → IsFixedAt nodes body (value_at steps (value_in (extended last ps) body)) to from
        in_part to from g = record {
          some = g.some;
          within = g.within;
          bounds = g.bounds;
          few = one.few;
          room = let r = g.room in let s = m.room in let t = h.room in omega arith;
          value = in_member ∙ g.value (bits body);
        }

        pub not_in_part : FindsNothing (fixed_of (linked (meanings nodes) member)) at later → value_at steps (value_in (extended last ps) body) ≡ None
        not_in_part g = in_member ∙ g.none (bits body)
