-- Lost keys, made one before the other.
use Rattle.std.proofs.Common.{◌≡◌, ℕ, suc, ◌+◌, ◌-◌, ◌<◌, ◌≤◌, ◌⊎◌, inl, inr, nat_lt, if◌then◌else◌, Bool, true, false, is_none, List, [], ◌∷◌, ◌++◌, length, get_or, set, drop, Option, Some, None, refl, sym, ◌∙◌, ap, arith, subst, append_assoc, append-nil, length-append}
use Rattle.std.specs.Prelude.{reverse}
use Rattle.std.proofs.lemmas.Bool.{cases_eq, le-ltb, ltb-false, ltb-true}
use Rattle.std.proofs.lemmas.List.{get_or_default, get_or-set_other, get_or-set_same, length-set, reverse-append}
use Rattle.ax_fspec.specs.Marks.{IsMarked, no_marks}
use Rattle.ax_relation.specs.declared.relation.RelationPath.{RelationPath}
use Rattle.ax_relation.specs.Standing.{value_below}
use Rattle.ax_moves.proofs.LostRuns.{first_less, first_map}
use Rattle.ax_moves.proofs.MovedMarks.{set_with, size_none}
use Rattle.ax_moves.specs.Gone.{gone, gone_of}
use Rattle.ax_moves.specs.Lost.{key_path, key_paths, place_numbers, OfFirst, LeadsBy, IsAmong, LeadsInto, RunFits, RunsFit, FallsWith, KeyRuns, AreRuns, AreLost, IsFirst, IsJoined, FitBehind, IsLaterPart}
use Rattle.ax_moves.specs.Octets.{with_slot}
use Rattle.ax_moves.specs.declared.lost.LostKey.{LostKey}
use Rattle.ax_moves.specs.declared.lost.Run.{Run}
use Rattle.ax_format.proofs.Namings.{from_place}
use Rattle.ax_format.specs.Fitting.{list_count}
use Rattle.ax_format.specs.Placed.{has_part, has_part_where}
use Rattle.ax_format.specs.Tree.{ValueTree, number, member_values, part_values, occurrences, content_octets, marked}

-- ---- one number of a place

pub number_leads : (d s : ℕ) (p : RelationPath) → d < length (place_numbers p) → s ≡ get_or (place_numbers p) d 0 → LeadsBy d s p
number_leads d s p lt is =
    let xs = place_numbers p in
    record { rest = from_place xs d (get_or xs d 0) lt (get_or_default xs d 0 (get_or xs d 0) lt) ∙ ap (λ x. x ∷ drop (d + 1) xs) (sym is) }

-- ---- sets with one slot more

with_size : (s : ℕ) (m : List ℕ) → length (with_slot s m) ≡ length m
with_size s m = by (nat_lt 0 s) (nat_lt s 127)
  where
    by : (b c : Bool) → length (if b then (if c then set m (s - 1) 1 else m) else m) ≡ length m
    by true true = length-set m (s - 1) 1
    by true false = refl
    by false c = refl

among_new : (s : ℕ) (m : List ℕ) → length m ≡ 126 → IsAmong (with_slot s m) s
among_new s m size some few = (some, ap (λ x. get_or x (s - 1) 0) (set_with s m some few) ∙ get_or-set_same m (s - 1) 1 0 (omega arith))

among_still : (s t : ℕ) (m : List ℕ) → length m ≡ 126 → IsMarked m t → IsMarked (with_slot s m) t
among_still s t m size h = by (nat_lt 0 s) (nat_lt s 127) refl refl
  where
    at : (s ≤ 126) → (t - 1 ≡ s - 1) ⊎ (t - 1 ≡ s - 1 → ⊥) → get_or (set m (s - 1) 1) (t - 1) 0 ≡ 1
    at few (inl e) = ap (λ i. get_or (set m (s - 1) 1) i 0) e ∙ get_or-set_same m (s - 1) 1 0 (omega arith)
    at few (inr d) = get_or-set_other m (s - 1) (t - 1) 1 0 d ∙ h.1

    by : (b c : Bool) → nat_lt 0 s ≡ b → nat_lt s 127 ≡ c → IsMarked (if b then (if c then set m (s - 1) 1 else m) else m) t
    by true true e f = (h.0, at (omega (arith, ltb-true s 127 f)) (cases_eq (t - 1) (s - 1)))
    by true false e f = h
    by false c e f = h

-- ---- one run

pub first_fits : (d s : ℕ) (p : RelationPath) (ks : List LostKey) (r : Run) → IsFirst s r → LeadsBy d s p → RunFits d r p ks
first_fits d s p ks r is l = record {
  size = ap length is.later ∙ with_size s no_marks ∙ size_none;
  leads = subst (λ t. LeadsBy d t p) (sym is.slot) l;
  among = subst (λ m. IsAmong m r.slot) (sym is.later) (subst (λ t. IsAmong (with_slot s no_marks) t) (sym is.slot) (among_new s no_marks size_none));
  same = subst (λ c. OfFirst (λ k. LeadsBy d r.slot (key_path k)) c ks) (sym is.more) tt;
  into = subst (λ c. OfFirst (λ k. LeadsInto d r.later (key_path k)) c ks) (sym is.reach) tt;
}

module _ (d s : ℕ) (p : RelationPath) (q : LostKey) (ks : List LostKey) (behind r : Run) (is : IsJoined s behind r) (l : LeadsBy d s p) (f : RunFits d behind (key_path q) ks) where
  still : (t : ℕ) → IsMarked behind.later t → IsMarked r.later t
  still t h = subst (λ m. IsMarked m t) (sym is.later) (among_still s t behind.later f.size h)

  same_by : (r.more ≡ 0) ⊎ ((behind.slot ≡ s) × (r.more ≤ suc behind.more)) → OfFirst (λ k. LeadsBy d r.slot (key_path k)) r.more (q ∷ ks)
  same_by (inl e) = subst (λ c. OfFirst (λ k. LeadsBy d r.slot (key_path k)) c (q ∷ ks)) (sym e) tt
  same_by (inr h) =
      let own : behind.slot ≡ r.slot = h.0 ∙ sym is.slot in
      first_less (λ k. LeadsBy d r.slot (key_path k)) r.more (suc behind.more) (q ∷ ks) h.1
      (subst (λ t. LeadsBy d t (key_path q)) own f.leads, subst (λ t. OfFirst (λ k. LeadsBy d t (key_path k)) behind.more ks) own f.same)

  pub joined_fits : RunFits d r p (q ∷ ks)
  joined_fits = record {
    size = ap length is.later ∙ with_size s behind.later ∙ f.size;
    leads = subst (λ t. LeadsBy d t p) (sym is.slot) l;
    among = subst (λ m. IsAmong m r.slot) (sym is.later) (subst (λ t. IsAmong (with_slot s behind.later) t) (sym is.slot) (among_new s behind.later f.size));
    same = same_by is.more;
    into = first_less (λ k. LeadsInto d r.later (key_path k)) r.reach (suc behind.reach) (q ∷ ks) is.reach (
      record { slot = behind.slot; leads = f.leads; among = λ some few. still behind.slot (f.among some few) },
      first_map (λ k. LeadsInto d behind.later (key_path k)) (λ k. LeadsInto d r.later (key_path k)) behind.reach ks (λ k h. record { slot = h.slot; leads = h.leads; among = λ some few. still h.slot (h.among some few) }) f.into,
    );
  }

-- ---- the run at one depth, by the runs behind

pub none_behind : (d : ℕ) (rs : List Run) (ks : List LostKey) → length rs ≡ 0 → FitBehind d rs ks
none_behind d [] [] e = refl
none_behind d [] (q ∷ ks) e = tt
none_behind d (r ∷ rs) ks e = absurd (omega (arith, e))

pub joined_behind : (d s : ℕ) (p : RelationPath) (ks : List LostKey) (rs later : List Run) (behind r : Run) → rs ≡ behind ∷ later → IsJoined s behind r → LeadsBy d s p → FitBehind d rs ks → RunFits d r p ks × FitBehind (d + 1) later ks
joined_behind d s p [] rs later behind r e is l f = absurd (let no : behind ∷ later ≡ [] = sym e ∙ f in cc)
joined_behind d s p (q ∷ ks) rs later behind r e is l f =
    let own : RunsFit d (behind ∷ later) (key_path q) ks = subst (λ rs. RunsFit d rs (key_path q) ks) e f in
    (joined_fits d s p q ks behind r is l own.0, own.1)

-- ---- all runs of a key

pub record RunsMade (p : RelationPath) (behind left runs : List Run) (depth : ℕ) : Type 0 where
  pub size : length runs ≡ depth
  pub fits : (ks : List LostKey) → FitBehind 0 behind ks → FitBehind depth left ks × RunsFit 0 runs p ks

pub no_runs : (p : RelationPath) (behind runs : List Run) → runs ≡ [] → RunsMade p behind behind runs 0
no_runs p behind runs e = record { size = ap length e; fits = λ ks f. (f, subst (λ rs. RunsFit 0 rs p ks) (sym e) tt) }

fit_next : (d : ℕ) (rs : List Run) (r : Run) (p : RelationPath) (ks : List LostKey) → RunsFit d rs p ks → RunFits (d + length rs) r p ks → RunsFit d (rs ++ r ∷ []) p ks
fit_next d [] r p ks h f = (subst (λ n. RunFits n r p ks) (let e : d + 0 ≡ d = omega arith in e) f, tt)
fit_next d (x ∷ rs) r p ks h f = (h.0, fit_next (d + 1) rs r p ks h.1 (subst (λ n. RunFits n r p ks) (let e : d + suc (length rs) ≡ d + 1 + length rs = omega arith in e) f))

pub run_next : (p : RelationPath) (behind left runs later new : List Run) (depth s : ℕ) (r : Run) → RunsMade p behind left runs depth → depth < length (place_numbers p) → s ≡ get_or (place_numbers p) depth 0
    → ((d : ℕ) (p : RelationPath) (ks : List LostKey) → LeadsBy d s p → FitBehind d left ks → RunFits d r p ks × FitBehind (d + 1) later ks) → new ≡ runs ++ r ∷ [] → RunsMade p behind later new (depth + 1)
run_next p behind left runs later new depth s r h lt is one put = record {
  size = ap length put ∙ length-append runs (r ∷ []) ∙ (let e : length runs + 1 ≡ depth + 1 = omega (arith, h.size) in e);
  fits = λ ks f. (
      let before = h.fits ks f in
      let here = one depth p ks (number_leads depth s p lt is) before.0 in
      (here.1, subst (λ rs. RunsFit 0 rs p ks) (sym put) (fit_next 0 runs r p ks before.1 (subst (λ n. RunFits n r p ks) (let e : depth ≡ 0 + length runs = omega (arith, h.size) in e) here.0))));
}

-- ---- parts of one item

later_part : (a b : Option ℕ) (v : ValueTree) → IsLaterPart a b → has_part a v ≡ false → has_part b v ≡ false
later_part None b v h e = absurd h
later_part (Some a) None v h e = absurd h
later_part (Some a) (Some b) (number n) h e = refl
later_part (Some a) (Some b) (member_values vs) h e = refl
later_part (Some a) (Some b) (part_values ls) h e = le-ltb b (list_count ls) (omega (arith, h, ltb-false a (list_count ls) e))
later_part (Some a) (Some b) (occurrences vs) h e = refl
later_part (Some a) (Some b) (content_octets xs) h e = refl
later_part (Some a) (Some b) (marked es) h e = refl

later_where : (a b : Option ℕ) (o : Option ValueTree) → IsLaterPart a b → has_part_where a o ≡ false → has_part_where b o ≡ false
later_where a b None h e = refl
later_where a b (Some v) h e = later_part a b v h e

pub falls : (p q : RelationPath) → p.old.frn ≡ q.old.frn → p.old.steps ≡ q.old.steps → IsLaterPart p.part q.part → FallsWith p q
falls p q frn steps part d v not =
    ap (λ ns. has_part_where q.part (value_below (drop d ns) v)) (λ i. sym frn i ∷ sym steps i) ∙ later_where p.part q.part (value_below (drop d (place_numbers p)) v) part not

-- ---- one key before the others

module _ (made front : List LostKey) (behind : LostKey) (e : made ≡ front ++ behind ∷ []) where
  pub turned : reverse made ≡ behind ∷ reverse front
  turned = ap reverse e ∙ reverse-append front (behind ∷ [])

  pub behind_fits : AreRuns (reverse made) → FitBehind 0 behind.runs.items (reverse made)
  behind_fits h = subst (FitBehind 0 behind.runs.items) (sym turned) ((subst AreRuns turned h).0.runs)

  pub falls_more : (p : RelationPath) (c : ℕ) → AreRuns (reverse made) → c ≤ suc behind.absent → FallsWith p (key_path behind) → OfFirst (λ q. FallsWith p (key_path q)) c (reverse made)
  falls_more p c h le own =
      subst (OfFirst (λ q. FallsWith p (key_path q)) c) (sym turned)
      (first_less (λ q. FallsWith p (key_path q)) c (suc behind.absent) (behind ∷ reverse front) le
      (own, first_map (λ q. FallsWith (key_path behind) (key_path q)) (λ q. FallsWith p (key_path q)) behind.absent (reverse front) (λ q f d v not. f d v (own d v not)) (subst AreRuns turned h).0.falls))

-- ---- all keys, from the last to the first

pub record LostSoFar (paths left : List RelationPath) (made : List LostKey) : Type 0 where
  pub keys : gone left ++ key_paths (reverse made) ≡ gone paths
  pub runs : AreRuns (reverse made)

pub none_made : (paths : List RelationPath) (made : List LostKey) → made ≡ [] → LostSoFar paths paths made
none_made paths made e = record {
  keys = ap (λ ks. gone paths ++ key_paths (reverse ks)) e ∙ append-nil (gone paths);
  runs = subst (λ ks. AreRuns (reverse ks)) (sym e) tt;
}

gone_append : (ps qs : List RelationPath) → gone (ps ++ qs) ≡ gone ps ++ gone qs
gone_append [] qs = refl
gone_append (p ∷ ps) qs = ap (λ x. gone_of p ++ x) (gone_append ps qs) ∙ sym (append_assoc (gone_of p) (gone ps) (gone qs))

module _ (paths left before : List RelationPath) (p : RelationPath) (made : List LostKey) (h : LostSoFar paths left made) (e : left ≡ before ++ p ∷ []) where
  split : gone left ≡ gone before ++ gone_of p
  split = ap gone e ∙ gone_append before (p ∷ []) ∙ ap (λ x. gone before ++ x) (append-nil (gone_of p))

  pub made_kept : is_none p.new ≡ false → LostSoFar paths before made
  made_kept kept = record {
    keys = ap (λ x. x ++ key_paths (reverse made)) (sym (split ∙ ap (λ b. gone before ++ (if b then p ∷ [] else [])) kept ∙ append-nil (gone before))) ∙ h.keys;
    runs = h.runs;
  }

  pub made_more : (new : List LostKey) (k : LostKey) → is_none p.new ≡ true → key_path k ≡ p → KeyRuns k (reverse made) → new ≡ made ++ k ∷ [] → LostSoFar paths before new
  made_more new k is own runs put =
      let order : reverse new ≡ k ∷ reverse made = ap reverse put ∙ reverse-append made (k ∷ []) in record {
        keys = (λ i. gone before ++ key_paths (order i)) ∙ ap (λ q. gone before ++ (q ∷ key_paths (reverse made))) own ∙ sym (append_assoc (gone before) (p ∷ []) (key_paths (reverse made)))
            ∙ ap (λ x. x ++ key_paths (reverse made)) (sym (split ∙ ap (λ b. gone before ++ (if b then p ∷ [] else [])) is)) ∙ h.keys;
        runs = subst AreRuns (sym order) (runs, h.runs);
      }

pub all_made : (paths left : List RelationPath) (made new : List LostKey) → LostSoFar paths left made → length left ≡ 0 → new ≡ reverse made → AreLost paths new
all_made paths [] made new h e put = record { gone = ap key_paths put ∙ h.keys; runs = subst AreRuns (sym put) h.runs }
all_made paths (p ∷ left) made new h e put = absurd (omega (arith, e))
