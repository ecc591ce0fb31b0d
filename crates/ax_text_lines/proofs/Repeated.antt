-- Occurrences by FX and parts, printed one after the other.
use Rattle.std.proofs.Common.{◌≡◌, ℕ, ◌-◌, ◌*◌, ◌≤◌, Bool, true, false, List, [], ◌∷◌, ◌++◌, length, drop, map, refl, sym, ◌∙◌, ap, subst}
use Rattle.ax_bits.specs.Bits.{bits}
use Rattle.ax_format.specs.Reader.{fixed_value, members_value}
use Rattle.ax_format.specs.Tree.{FixedTree, MembersTree, by_fx, extended, part_values, occurrences, value_and, no_values, list_and, no_lists}
use Rattle.ax_format.specs.Widths.{width}
use Rattle.ax_format.specs.declared.fault.BodyCause.TheVariants.{RunsOut}
use Rattle.ax_format.specs.declared.fault.BodyFault.{BodyFault}
use Rattle.ax_format.specs.declared.kind.LastPart.{LastPart}
use Rattle.ax_fspec.proofs.AtOctets.{IsUnit, run_at, parts_at, run_ends, run_goes_on, run_fails, by_fx_gets, by_fx_fails, extended_gets, extended_fails}
use Rattle.ax_fspec.specs.Reading.{FailsAt, kind_read, fx_bit}
use Rattle.ax_text_form.proofs.Printed.{both_put}
use Rattle.ax_text_form.specs.Printing.{after_spaces, Puts}
use Rattle.ax_text_form.specs.ValueText.{Texts, opening, closing, one_onto, fixed_onto, part_onto, parts_onto, each_onto, kind_onto}
use Rattle.ax_text_lines.proofs.Leading.{Leads, closed, opened, leads_by, leads_on, fails_too}
use Rattle.ax_text_lines.specs.HeldText.{text_part}
use Rattle.ax_text_lines.specs.Prints.{Prints}
use Rattle.ax_text_lines.specs.declared.drafting.TextPart.{TextPart}
use Rattle.ax_values.proofs.PartsRead.{left_is, none_left}
use Rattle.ax_values.specs.Parts.{parts_left, PartsReady, IsPartMet}

-- ---- occurrences by FX

pub record RunLeads (f : FixedTree) (body : List ℕ) (at here : ℕ) (old now : List ℕ) : Type 0 where
  pub within : here ≤ length body
  pub leads : Leads (closed (each_onto (fixed_onto f))) (run_at f body here) (kind_onto (by_fx f)) (kind_read (by_fx f) body at) body at here old now

pub run_begins : (f : FixedTree) (body : List ℕ) (at : ℕ) (old now : List ℕ) → at ≤ length body → Puts after_spaces (one_onto opening) old now → RunLeads f body at at old now
run_begins f body at old now le p = record {
  within = le;
  leads = opened (each_onto (fixed_onto f)) (run_at f body at) (kind_onto (by_fx f)) (kind_read (by_fx f) body at) body at old now (λ vs. occurrences vs) (λ end vs h. by_fx_gets f body at end vs h) (λ fault h. by_fx_fails f body at fault h) (λ vs rest. refl) p;
}

module _ (f : FixedTree) (body : List ℕ) (at here end w : ℕ) (old now mid : List ℕ) (fx : Bool) (h : RunLeads f body at here old now) (u : IsUnit body here end w (fx_bit fx)) (e : width f ≡ w)
    (p : Puts after_spaces (fixed_onto f (fixed_value f (drop (8 * here) (bits body)))) now mid) where
  pub run_more : fx ≡ true → RunLeads f body at end old mid
  run_more one =
      let v = fixed_value f (drop (8 * here) (bits body)) in record {
        within = u.within;
        leads = leads_on h.leads (leads_by (closed (each_onto (fixed_onto f))) (run_at f body end) (closed (each_onto (fixed_onto f))) (run_at f body here) body here end now mid (λ vs. value_and v vs) (fixed_onto f v)
            (run_goes_on f body here end w (fx_bit fx) v u e (ap fx_bit one) refl) (λ vs rest. refl) p);
      }

  pub run_done : (new : List ℕ) → fx ≡ false → Puts after_spaces (one_onto closing) mid new → Prints (kind_onto (by_fx f)) (kind_read (by_fx f) body at) body at end old new
  run_done new none q =
      let v = fixed_value f (drop (8 * here) (bits body)) in
      h.leads.prints end new (record {
        value = value_and v no_values;
        read = run_ends f body here end w (fx_bit fx) v u e (ap fx_bit none) refl;
        put = both_put (fixed_onto f v) (one_onto closing) now mid new p q;
      })

pub run_short : (f : FixedTree) (body : List ℕ) (at here : ℕ) (old now : List ℕ) (fault : BodyFault) → RunLeads f body at here old now → 8 * (length body - here) ≤ width f → fault.cause ≡ RunsOut → fault.bit ≡ 8 * here
    → FailsAt (kind_read (by_fx f) body at) at fault
run_short f body at here old now fault h less c b = fails_too h.leads fault (run_fails f body here fault less c b)

-- ---- parts

no_list_left : (ps : List MembersTree) (rest : Texts) → parts_onto ps no_lists rest ≡ rest
no_list_left [] rest = refl
no_list_left (p ∷ ps) rest = refl

-- the parts before octet `here` are printed, and those that are left lead to all of them
pub record PartsLead (whole_last : LastPart) (all : List MembersTree) (last : LastPart) (more : Bool) (ps : List MembersTree) (body : List ℕ) (at here : ℕ) (old now : List ℕ) : Type 0 where
  pub ready : PartsReady last more ps body here
  pub leads : Leads (closed (parts_onto ps)) (parts_left last more ps body here) (kind_onto (extended whole_last all)) (kind_read (extended whole_last all) body at) body at here old now

pub parts_begin : (last : LastPart) (ps : List MembersTree) (body : List ℕ) (at : ℕ) (old now : List ℕ) → PartsReady last true ps body at → Puts after_spaces (one_onto opening) old now → PartsLead last ps last true ps body at at old now
parts_begin last ps body at old now h p = record {
  ready = h;
  leads = subst (λ r. Leads (closed (parts_onto ps)) r (kind_onto (extended last ps)) (kind_read (extended last ps) body at) body at at old now) (sym (left_is last ps body at))
      (opened (parts_onto ps) (parts_at last ps body at) (kind_onto (extended last ps)) (kind_read (extended last ps) body at) body at old now (λ ls. part_values ls) (λ end ls h. extended_gets last ps body at end ls h) (λ fault h. extended_fails last ps body at fault h) (λ ls rest. refl) p);
}

pub parts_start : (whole_last last : LastPart) (all ps : List TextPart) (body own : List ℕ) (at here : ℕ) (more : Bool) (old now : List ℕ) → last ≡ whole_last → ps ≡ all → own ≡ body → here ≡ at → more ≡ true → PartsReady last more (map text_part ps) own here
    → Puts after_spaces (one_onto opening) old now → PartsLead whole_last (map text_part all) last more (map text_part ps) body at here old now
parts_start whole_last last all ps body own at here more old now l p b h m ready put =
    subst (λ whole_last. PartsLead whole_last (map text_part all) last more (map text_part ps) body at here old now) l
    (subst (λ all. PartsLead last (map text_part all) last more (map text_part ps) body at here old now) p
    (subst (λ here. PartsLead last (map text_part ps) last more (map text_part ps) body at here old now) (sym h)
    (subst (λ more. PartsLead last (map text_part ps) last more (map text_part ps) body at at old now) (sym m)
    (parts_begin last (map text_part ps) body at old now
    (subst (λ more. PartsReady last more (map text_part ps) body at) m (subst (λ here. PartsReady last more (map text_part ps) body here) h (subst (λ own. PartsReady last more (map text_part ps) own here) b ready))) put))))

module _ (whole_last : LastPart) (all : List MembersTree) (last : LastPart) (more : Bool) (ps : List MembersTree) (body own : List ℕ) (at here : ℕ) (old now : List ℕ) (h : PartsLead whole_last all last more ps body at here old now) (b : own ≡ body) where
  pub parts_next : (new_last : LastPart) (new mid : List ℕ) (first : ℕ) (p : MembersTree) (again : Bool) (qs : List MembersTree) (end : ℕ) → new_last ≡ last → new ≡ own → IsPartMet last more ps own here p again qs end → PartsReady new_last again qs new end → first ≡ 8 * here
      → Puts after_spaces (part_onto p (members_value p (drop first (bits body)))) now mid → PartsLead whole_last all new_last again qs body at end old mid
  parts_next new_last new mid first p again qs end l n met ready f q =
      let m : IsPartMet last more ps body here p again qs end = subst (λ own. IsPartMet last more ps own here p again qs end) b met in
      let vs = members_value p (drop (8 * here) (bits body)) in
      let put : Puts after_spaces (part_onto p vs) now mid = subst (λ first. Puts after_spaces (part_onto p (members_value p (drop first (bits body)))) now mid) f q in record {
        ready = subst (λ new. PartsReady new_last again qs new end) (n ∙ b) ready;
        leads = subst (λ last. Leads (closed (parts_onto qs)) (parts_left last again qs body end) (kind_onto (extended whole_last all)) (kind_read (extended whole_last all) body at) body at end old mid) (sym l)
            (leads_on h.leads (leads_by (closed (parts_onto qs)) (parts_left last again qs body end) (closed (parts_onto ps)) (parts_left last more ps body here) body here end now mid (λ ls. list_and vs ls) (part_onto p vs)
            m.read (λ ls rest. ap (λ ps. parts_onto ps (list_and vs ls) (closing ∷ rest)) m.first) put));
      }

  pub parts_over : (new : List ℕ) (end : ℕ) → more ≡ false → end ≡ here → Puts after_spaces (one_onto closing) now new → Prints (kind_onto (extended whole_last all)) (kind_read (extended whole_last all) body at) body at end old new
  parts_over new end is e q =
      subst (λ end. Prints (kind_onto (extended whole_last all)) (kind_read (extended whole_last all) body at) body at end old new) (sym e)
      (h.leads.prints here new (record {
        value = no_lists;
        read = none_left last more ps body here is h.ready.within;
        put = record { put = λ rest. q.put rest ∙ ap (λ t. now ++ after_spaces t) (sym (no_list_left ps (closing ∷ rest))) };
      }))

  pub parts_fault : (fault : BodyFault) → FailsAt (parts_left last more ps own here) here fault → FailsAt (kind_read (extended whole_last all) body at) at fault
  parts_fault fault f = fails_too h.leads fault (subst (λ own. FailsAt (parts_left last more ps own here) here fault) b f)
