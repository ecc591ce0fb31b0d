-- Parts and occurrences by FX, one after the other.
use Rattle.std.proofs.Common.{◌≡◌, ℕ, ◌+◌, ◌-◌, ◌*◌, ◌<◌, ◌≤◌, Bool, true, false, List, [], ◌∷◌, ◌++◌, length, drop, map, codes, refl, sym, ◌∙◌, ap, subst, arith, add-one}
use Rattle.std.specs.List.{AllByRecursion}
use Rattle.ax_bits.specs.Bits.{bits}
use Rattle.ax_format.specs.Fitting.{list_count}
use Rattle.ax_held_kinds.specs.Held.{held_part}
use Rattle.ax_format.specs.Reader.{fixed_value, members_value, after}
use Rattle.ax_format.specs.Tree.{FixedTree, MembersTree, list_and, no_lists, value_and, no_values, value_count, extended, by_fx, part_values, occurrences}
use Rattle.ax_format.specs.Widths.{width}
use Rattle.ax_format.specs.declared.fault.BodyCause.TheVariants.{RunsOut}
use Rattle.ax_format.specs.declared.fault.BodyFault.{BodyFault}
use Rattle.ax_format.specs.declared.kind.LastPart.{LastPart}
use Rattle.ax_held_kinds.specs.declared.kinds.HeldPart.{HeldPart}
use Rattle.ax_fspec.proofs.AtOctets.{IsUnit, run_at, parts_at, run_ends, run_goes_on, run_fails}
use Rattle.ax_fspec.specs.Reading.{FailsAt, Continues, fx_bit, kind_read}
use Rattle.ax_values.proofs.PartsRead.{left_is, none_left}
use Rattle.ax_values.specs.Parts.{parts_left, PartsReady, IsPartMet}
use Rattle.ax_text_form.specs.Listable.{MembersListable}
use Rattle.ax_text_form.specs.Printing.{as_lines, Puts}
use Rattle.ax_text_form.specs.ShowText.{fixed_lines, members_lines, parts_lines, each_lines, occurrence}
use Rattle.ax_text_form.specs.ValueText.{Texts}
use Rattle.ax_listing.specs.Shown.{ShowsCounted}
use Rattle.ax_listing.proofs.Leading.{Leads, Ending, leads_next, counted_first}

-- ---- both kinds, from their first unit on

run_same : (f : FixedTree) (body : List ℕ) (at : ℕ) → Continues (kind_read (by_fx f) body at) at at (λ vs. occurrences vs) (run_at f body at)
unfolding kind_read run_at
run_same f body at = record { forwards = omega arith; same = ap (λ n. after n (λ vs. occurrences vs) (run_at f body at)) (let e : 0 ≡ 8 * (at - at) = omega arith in e) }

parts_same : (last : LastPart) (ps : List MembersTree) (body : List ℕ) (at : ℕ) → Continues (kind_read (extended last ps) body at) at at (λ ls. part_values ls) (parts_at last ps body at)
unfolding kind_read parts_at
parts_same last ps body at = record { forwards = omega arith; same = ap (λ n. after n (λ ls. part_values ls) (parts_at last ps body at)) (let e : 0 ≡ 8 * (at - at) = omega arith in e) }

-- ---- occurrences by FX

abbrev pub run_done : FixedTree → List ℕ → List ℕ → ℕ → List ℕ → Ending
run_done f path body at old end new n = ShowsCounted (by_fx f) path (codes "occurrences") body at end old new n

pub record RunShown (f : FixedTree) (path body : List ℕ) (at here : ℕ) (old now : List ℕ) (i : ℕ) : Type 0 where
  pub within : here ≤ length body
  pub few : i ≤ here
  pub leads : Leads (run_done f path body at old) (FailsAt (kind_read (by_fx f) body at) at) (each_lines (fixed_lines f) path i) value_count (run_at f body here) body here now i

pub run_first : (f : FixedTree) (path body : List ℕ) (at : ℕ) (out : List ℕ) → at ≤ length body → RunShown f path body at at out out 0
run_first f path body at out le = record {
  within = le;
  few = omega arith;
  leads = counted_first (by_fx f) path (codes "occurrences") body at at out (each_lines (fixed_lines f) path 0) value_count (run_at f body at) (λ vs. occurrences vs) le (run_same f body at) (λ vs end g t. refl);
}

module _ (f : FixedTree) (path body : List ℕ) (at here end w : ℕ) (old now new : List ℕ) (i : ℕ) (fx : Bool) (h : RunShown f path body at here old now i) (u : IsUnit body here end w (fx_bit fx)) (l : width f ≡ w)
    (p : Puts as_lines (fixed_lines f (occurrence path i) (fixed_value f (drop (8 * here) (bits body)))) now new) where
  pub run_next : fx ≡ true → RunShown f path body at end old new (i + 1)
  run_next one =
      let v = fixed_value f (drop (8 * here) (bits body)) in record {
        within = u.within;
        few = omega (arith, h.few, u.forwards);
        leads = leads_next (run_done f path body at old) (FailsAt (kind_read (by_fx f) body at) at) (each_lines (fixed_lines f) path i) (each_lines (fixed_lines f) path (i + 1)) (fixed_lines f (occurrence path i) v) value_count value_count
            (run_at f body here) (run_at f body end) body here end now new i (λ vs. value_and v vs) h.leads u.within (run_goes_on f body here end w (fx_bit fx) v u l (ap fx_bit one) refl) p (λ vs t. refl) (λ vs. refl);
      }

  pub run_last : (n : ℕ) → fx ≡ false → n ≡ i + 1 → ShowsCounted (by_fx f) path (codes "occurrences") body at end old new n
  run_last n none e =
      let v = fixed_value f (drop (8 * here) (bits body)) in
      h.leads.ends end (value_and v no_values) new n (run_ends f body here end w (fx_bit fx) v u l (ap fx_bit none) refl) (record { put = λ t. p.put t }) e

pub run_failed : (f : FixedTree) (path body : List ℕ) (at here : ℕ) (old now : List ℕ) (i : ℕ) (fault : BodyFault) → RunShown f path body at here old now i → 8 * length body < 8 * here + width f → fault.cause ≡ RunsOut → fault.bit ≡ 8 * here
    → FailsAt (kind_read (by_fx f) body at) at fault
run_failed f path body at here old now i fault h less c b = h.leads.fails fault (run_fails f body here fault (omega (arith, less)) c b)

-- ---- parts

abbrev pub parts_done : LastPart → List MembersTree → List ℕ → List ℕ → ℕ → List ℕ → Ending
parts_done last ps path body at old end new n = ShowsCounted (extended last ps) path (codes "parts") body at end old new n

no_list_left : (ps : List MembersTree) (path : List ℕ) (t : Texts) → parts_lines ps path no_lists t ≡ t
no_list_left [] path t = refl
no_list_left (p ∷ ps) path t = refl

-- the i parts before octet `here` are shown, and those that are left lead to all of them
pub record PartsShown (whole_last : LastPart) (all : List MembersTree) (last : LastPart) (more : Bool) (ps : List MembersTree) (path body : List ℕ) (at here : ℕ) (old now : List ℕ) (i : ℕ) : Type 0 where
  pub ready : PartsReady last more ps body here
  pub few : i ≤ here
  pub listable : AllByRecursion MembersListable ps
  pub leads : Leads (parts_done whole_last all path body at old) (FailsAt (kind_read (extended whole_last all) body at) at) (parts_lines ps path) list_count (parts_left last more ps body here) body here now i

pub parts_first : (last : LastPart) (ps : List MembersTree) (path body : List ℕ) (at : ℕ) (out : List ℕ) → PartsReady last true ps body at → AllByRecursion MembersListable ps → PartsShown last ps last true ps path body at at out out 0
parts_first last ps path body at out h l = record {
  ready = h;
  few = omega arith;
  listable = l;
  leads = counted_first (extended last ps) path (codes "parts") body at at out (parts_lines ps path) list_count (parts_left last true ps body at) (λ ls. part_values ls) h.within
      (subst (λ r. Continues (kind_read (extended last ps) body at) at at (λ ls. part_values ls) r) (sym (left_is last ps body at)) (parts_same last ps body at)) (λ ls end g t. refl);
}

pub parts_start : (whole_last last : LastPart) (all ps : List HeldPart) (path body own : List ℕ) (at here : ℕ) (more : Bool) (out : List ℕ) → last ≡ whole_last → ps ≡ all → own ≡ body → here ≡ at → more ≡ true → PartsReady last more (map held_part ps) own here
    → AllByRecursion MembersListable (map held_part all) → PartsShown whole_last (map held_part all) last more (map held_part ps) path body at here out out 0
parts_start whole_last last all ps path body own at here more out l p b h m ready listable =
    subst (λ whole_last. PartsShown whole_last (map held_part all) last more (map held_part ps) path body at here out out 0) l
    (subst (λ all. PartsShown last (map held_part all) last more (map held_part ps) path body at here out out 0) p
    (subst (λ here. PartsShown last (map held_part ps) last more (map held_part ps) path body at here out out 0) (sym h)
    (subst (λ more. PartsShown last (map held_part ps) last more (map held_part ps) path body at at out out 0) (sym m)
    (parts_first last (map held_part ps) path body at out
    (subst (λ more. PartsReady last more (map held_part ps) body at) m (subst (λ here. PartsReady last more (map held_part ps) body here) h (subst (λ own. PartsReady last more (map held_part ps) own here) b ready)))
    (subst (λ all. AllByRecursion MembersListable (map held_part all)) (sym p) listable)))))

module _ (whole_last : LastPart) (all : List MembersTree) (last : LastPart) (more : Bool) (ps : List MembersTree) (path body own : List ℕ) (at here : ℕ) (old now : List ℕ) (i : ℕ) (h : PartsShown whole_last all last more ps path body at here old now i) (b : own ≡ body) where
  pub part_listable : (p : MembersTree) (again : Bool) (qs : List MembersTree) (end : ℕ) → IsPartMet last more ps own here p again qs end → MembersListable p
  part_listable p again qs end m = (subst (AllByRecursion MembersListable) m.first h.listable).0

  pub parts_next : (new_last : LastPart) (new mid : List ℕ) (first : ℕ) (p : MembersTree) (again : Bool) (qs : List MembersTree) (end : ℕ) → new_last ≡ last → new ≡ own → IsPartMet last more ps own here p again qs end → PartsReady new_last again qs new end → first ≡ 8 * here
      → Puts as_lines (members_lines p path (members_value p (drop first (bits body)))) now mid → PartsShown whole_last all new_last again qs path body at end old mid (i + 1)
  parts_next new_last new mid first p again qs end l n met ready f q =
      let m : IsPartMet last more ps body here p again qs end = subst (λ own. IsPartMet last more ps own here p again qs end) b met in
      let vs = members_value p (drop (8 * here) (bits body)) in
      let put : Puts as_lines (members_lines p path vs) now mid = subst (λ first. Puts as_lines (members_lines p path (members_value p (drop first (bits body)))) now mid) f q in record {
        ready = subst (λ new. PartsReady new_last again qs new end) (n ∙ b) ready;
        few = omega (arith, h.few, m.forwards);
        listable = (subst (AllByRecursion MembersListable) m.first h.listable).1;
        leads = subst (λ last. Leads (parts_done whole_last all path body at old) (FailsAt (kind_read (extended whole_last all) body at) at) (parts_lines qs path) list_count (parts_left last again qs body end) body end mid (i + 1)) (sym l)
            (leads_next (parts_done whole_last all path body at old) (FailsAt (kind_read (extended whole_last all) body at) at) (parts_lines ps path) (parts_lines qs path) (members_lines p path vs) list_count list_count
            (parts_left last more ps body here) (parts_left last again qs body end) body here end now mid i (λ ls. list_and vs ls) h.leads m.within m.read put (λ ls t. ap (λ ps. parts_lines ps path (list_and vs ls) t) m.first) (λ ls. add-one (list_count ls)));
      }

  pub parts_over : (end n : ℕ) → more ≡ false → end ≡ here → n ≡ i → ShowsCounted (extended whole_last all) path (codes "parts") body at end old now n
  parts_over end n is e m =
      subst (λ end. ShowsCounted (extended whole_last all) path (codes "parts") body at end old now n) (sym e)
      (h.leads.ends here no_lists now n (none_left last more ps body here is h.ready.within) (record { put = λ t. ap (λ u. now ++ as_lines u) (sym (no_list_left ps path t)) }) (omega (arith, m)))

  pub parts_fault : (fault : BodyFault) → FailsAt (parts_left last more ps own here) here fault → FailsAt (kind_read (extended whole_last all) body at) at fault
  parts_fault fault f = h.leads.fails fault (subst (λ own. FailsAt (parts_left last more ps own here) here fault) b f)

-- ---- one occurrence, at its path

pub occurrence_shown : (f : FixedTree) (path inner b old new : List ℕ) (i : ℕ) → inner ≡ occurrence path i → Puts as_lines (fixed_lines f inner (fixed_value f b)) old new → Puts as_lines (fixed_lines f (occurrence path i) (fixed_value f b)) old new
occurrence_shown f path inner b old new i e p = subst (λ inner. Puts as_lines (fixed_lines f inner (fixed_value f b)) old new) e p

pub ruleset occurrences_shown = occurrence_shown
