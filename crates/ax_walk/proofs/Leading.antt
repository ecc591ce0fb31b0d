-- Walks that lead on.
use Rattle.std.proofs.Common.{◌≡◌, ℕ, ◌≤◌, Option, Some, None, IfNone, Bool, false, IsTrue, List, ◌++◌, length, drop, arith}
use Rattle.ax_bits.specs.Bits.{bits}
use Rattle.ax_format.specs.Reader.{Read}
use Rattle.ax_fspec.proofs.Continuing.{gets_after, fails_after}
use Rattle.ax_fspec.specs.Reading.{Gets, Continues}
use Rattle.ax_walk.specs.Walking.{Walks, Leads}

pub leads_none : {A : Type 0} (rule : A → List ℕ) (found : Read A) (body : List ℕ) (at : ℕ) (least : Bool) → at ≤ length body → Leads rule found rule found body at at least
leads_none rule found body at least le = record { forwards = omega arith; within = le; gets = λ end l f w. w; fails = λ fault h. h }

pub leads_on : {A B C : Type 0} (rule : A → List ℕ) (next : Read A) (mid_rule : B → List ℕ) (mid : Read B) (whole_rule : C → List ℕ) (whole : Read C) (body : List ℕ) (at here end : ℕ) (before least : Bool) → (IsTrue least → IsTrue before)
    → Leads mid_rule mid whole_rule whole body at here before → Leads rule next mid_rule mid body here end least → Leads rule next whole_rule whole body at end least
leads_on rule next mid_rule mid whole_rule whole body at here end before least falls h t = record {
  forwards = omega (arith, h.forwards, t.forwards);
  within = t.within;
  gets = λ last l f w. h.gets last l (λ k. falls (f k)) (t.gets last l f w);
  fails = λ fault l. h.fails fault (t.fails fault l);
}

-- what is read after a front goes on in a larger value
pub leads_by : {A B : Type 0} (rule : A → List ℕ) (rest : Read A) (whole_rule : B → List ℕ) (whole : Read B) (body : List ℕ) (at here : ℕ) (g : A → B) (least : Bool) → here ≤ length body → Continues whole at here g rest
    → ((a : A) (end : ℕ) → IsTrue least → Gets rest body here end a → rule a ++ bits (drop end body) ≡ bits (drop here body) → whole_rule (g a) ++ bits (drop end body) ≡ bits (drop at body))
    → Leads rule rest whole_rule whole body at here least
leads_by rule rest whole_rule whole body at here g least le h step = record {
  forwards = h.forwards;
  within = le;
  gets = λ end l f w. record {
    value = g w.value;
    read = gets_after whole rest body at here end g w.value h w.read;
    canonical = λ k. step w.value end (f k) w.read (w.canonical k);
  };
  fails = λ fault w. fails_after whole rest at here g fault h w;
}

-- the same, where nothing is said of what is least
pub leads_blind : {A B : Type 0} (rule : A → List ℕ) (rest : Read A) (whole_rule : B → List ℕ) (whole : Read B) (body : List ℕ) (at here : ℕ) (g : A → B) → here ≤ length body → Continues whole at here g rest → Leads rule rest whole_rule whole body at here false
leads_blind rule rest whole_rule whole body at here g le h = leads_by rule rest whole_rule whole body at here g false le h (λ a end f. cc)

pub walks_blind : {A : Type 0} (rule : A → List ℕ) (found : Read A) (body : List ℕ) (at end : ℕ) (a : A) → Gets found body at end a → Walks rule found body at end false
walks_blind rule found body at end a h = record { value = a; read = h; canonical = λ f. cc }

pub if_none : {A : Type 0} {P : Type 0} (r : Option A) → P → IfNone r P
if_none None p = p
if_none (Some a) p = tt
