-- Units of a body that begin at an octet: fixed runs, parts and occurrences with their FX bit.
use Rattle.std.proofs.Common.{◌≡◌, ℕ, zero, suc, ◌+◌, ◌-◌, ◌*◌, ◌/◌, ◌%◌, ◌^◌, ◌<◌, ◌≤◌, ◌==◌, ◌⊎◌, inl, inr, List, [], ◌∷◌, ◌++◌, length, take, drop, get_or, refl, sym, ◌∙◌, ap, arith, subst, bit_and, length-append, length-drop, append_assoc, take-append-drop}
use Rattle.std.proofs.lemmas.List.{drop-drop, length-take-le, take_at, drop_at}
use Rattle.std.proofs.lemmas.Nat.{and_mask}
use Rattle.ax_bits.proofs.Pieces.{drop-bits}
use Rattle.ax_bits.proofs.Steps.{next_piece}
use Rattle.ax_bits.proofs.Words.{bits-append, bits-AreBits, length-bits}
use Rattle.ax_bits.specs.Bits.{bits, word, AreBits}
use Rattle.ax_format.proofs.FixedKinds.{split_at, split_short, fixed_back, members_back, split_is, SplitIs}
use Rattle.ax_format.proofs.Meets.{fixed_all, members_all, bits_of}
use Rattle.ax_format.specs.Reader.{last_read, Read, failed, after, fixed_value, members_value, fixed_read, Split, split, cut, short, part_read, parts_read, one_read, run_read}
use Rattle.ax_format.proofs.Spelled.{got_is}
use Rattle.ax_format.specs.Tree.{FixedTree, MembersTree, ValueTree, ValuesTree, ListsTree, fixed, by_fx, extended, occurrences, part_values, value_and, no_values, list_and, no_lists}
use Rattle.ax_format.specs.Widths.{width, members_width, fx_width}
use Rattle.ax_format.specs.declared.fault.BodyCause.TheVariants.{RunsOut, ExtensionPastEnd}
use Rattle.ax_format.specs.declared.fault.BodyFault.{BodyFault}
use Rattle.ax_fspec.proofs.Continuing.{gets_after, fails_after}
use Rattle.ax_fspec.specs.Reading.{Gets, FailsAt, Continues, kind_read, fx_bit}
use Rattle.ax_format.specs.declared.kind.LastPart.{LastPart}
use Rattle.ax_format.specs.declared.kind.LastPart.TheVariants.{WithFx, WithoutFx}

-- ---- what is read from an octet on

-- occurrences, of which the first is at the front of b
abbrev pub run_of : FixedTree → List ℕ → Read ValuesTree
run_of f b = run_read (suc (length b)) f b

unfoldable pub run_at : FixedTree → List ℕ → ℕ → Read ValuesTree
run_at f body at = run_of f (bits (drop at body))

unfoldable pub parts_at : LastPart → List MembersTree → List ℕ → ℕ → Read ListsTree
parts_at last ps body at = parts_read last ps (bits (drop at body))

-- ---- octets of a body

-- the octets from one up to another
pub window : List ℕ → ℕ → ℕ → List ℕ
window body at end = take (end - at) (drop at body)

pub body_parts : (body : List ℕ) (at end : ℕ) → at ≤ end → bits (drop at body) ≡ bits (window body at end) ++ bits (drop end body)
unfolding window
body_parts body at end le =
    let joined : take (end - at) (drop at body) ++ drop (end - at) (drop at body) ≡ drop at body = take-append-drop (end - at) (drop at body) in
    let rest : drop (end - at) (drop at body) ≡ drop end body = drop-drop (end - at) at body ∙ ap (λ n. drop n body) (let e : at + (end - at) ≡ end = omega arith in e) in
    ap bits (sym joined) ∙ bits-append (take (end - at) (drop at body)) (drop (end - at) (drop at body)) ∙ ap (λ y. bits (take (end - at) (drop at body)) ++ bits y) rest

pub length-window : (body : List ℕ) (at end : ℕ) → at ≤ end → end ≤ length body → length (bits (window body at end)) ≡ 8 * (end - at)
unfolding window
length-window body at end le within =
    length-bits (take (end - at) (drop at body)) ∙ ap (λ n. 8 * n) (length-take-le (end - at) (drop at body) (omega (arith, length-drop at body)))

-- the same, written out
pub octets_parts : (body : List ℕ) (at end : ℕ) → at ≤ end → bits (drop at body) ≡ bits (take (end - at) (drop at body)) ++ bits (drop end body)
unfolding window
octets_parts body at end le = body_parts body at end le

pub length-octets : (body : List ℕ) (at end : ℕ) → at ≤ end → end ≤ length body → length (bits (take (end - at) (drop at body))) ≡ 8 * (end - at)
unfolding window
length-octets body at end le within = length-window body at end le within

pub length-rest : (body : List ℕ) (at : ℕ) → length (bits (drop at body)) ≡ 8 * (length body - at)
length-rest body at = length-bits (drop at body) ∙ ap (λ n. 8 * n) (length-drop at body)

-- ---- fixed kinds

pub fixed_gets : (f : FixedTree) (body : List ℕ) (at end : ℕ) (v : ValueTree) → at ≤ end → end ≤ length body → 8 * (end - at) ≡ width f → v ≡ fixed_value f (drop (8 * at) (bits body)) → Gets (kind_read (fixed f) body at) body at end v
unfolding kind_read
fixed_gets f body at end v le within w e =
    let x = bits (window body at end) in
    let y = bits (drop end body) in
    let l : length x ≡ width f = length-window body at end le within ∙ w in
    let parts : bits (drop at body) ≡ x ++ y = body_parts body at end le in
    let back : fixed_value f (x ++ y) ≡ fixed_value f x = fixed_back f (fixed_value f x) x y (fixed_all f x (bits-AreBits (window body at end)) l) in
    let value : fixed_value f x ≡ v = sym back ∙ ap (fixed_value f) (sym parts ∙ sym (drop-bits at body)) ∙ sym e in record {
      forwards = le;
      within = within;
      got = ap (λ b. fixed_read f (split (width f) b)) parts ∙ ap (fixed_read f) (split_at x y (width f) l) ∙ got_is y value (sym w);
    }

pub fixed_fails : (f : FixedTree) (body : List ℕ) (at : ℕ) (fault : BodyFault) → 8 * (length body - at) < width f → fault.cause ≡ RunsOut → fault.bit ≡ 8 * at → FailsAt (kind_read (fixed f) body at) at fault
unfolding kind_read
fixed_fails f body at fault less c b = record {
  place = 0;
  failed = ap (fixed_read f) (split_short (bits (drop at body)) (width f) (omega (arith, length-rest body at))) ∙ ap (λ c. failed 0 c) (sym c);
  bit = omega arith;
}

-- ---- a unit and its FX bit

fx_is : (r : ℕ) (xs : List ℕ) → r < 2 → word 1 r ≡ xs → xs ≡ fx_bit (r == 1) ∷ []
fx_is zero xs lt e = sym e
fx_is (suc zero) xs lt e = sym e
fx_is (suc (suc r)) xs lt e = absurd (omega arith)

pub fx_read : (b : List ℕ) (at r : ℕ) → r < 2 ^ 1 → word 1 r ≡ take 1 (drop at b) → take 1 (drop at b) ≡ fx_bit (r == 1) ∷ []
fx_read b at r lt e = fx_is r (take 1 (drop at b)) (omega arith) e

pub fx_here : (body : List ℕ) (at : ℕ) → at < 8 * length body → take 1 (drop at (bits body)) ≡ fx_bit (bit_and (get_or body (at / 8) 0 / 2 ^ (7 - at % 8)) 1 == 1) ∷ []
fx_here body at lt =
    let r = get_or body (at / 8) 0 / 2 ^ (7 - at % 8) in
    let low : bit_and r 1 ≡ r % 2 = and_mask r 1 in
    subst (λ n. take 1 (drop at (bits body)) ≡ fx_bit (n == 1) ∷ []) (sym low)
    (fx_read (bits body) at (r % 2) (omega arith) (next_piece body at 1 (7 - at % 8) (omega arith) (omega arith)))

-- w bits and their FX bit are the octets from `at` up to `end`
pub record IsUnit (body : List ℕ) (at end w fx : ℕ) : Type 0 where
  pub forwards : at < end
  pub within : end ≤ length body
  pub width : w + 1 ≡ 8 * (end - at)
  pub last : take 1 (drop (8 * at + w) (bits body)) ≡ fx ∷ []

pub front_of : List ℕ → ℕ → ℕ → ℕ → List ℕ
front_of body at end w = take w (bits (window body at end))

module _ (body : List ℕ) (at end w fx : ℕ) (u : IsUnit body at end w fx) where
  long : length (bits (window body at end)) ≡ w + 1
  long = length-window body at end (omega (arith, u.forwards)) u.within ∙ sym u.width

  pub front_length : length (front_of body at end w) ≡ w
  unfolding front_of
  front_length = length-take-le w (bits (window body at end)) (omega (arith, long))

  pub front_bits : AreBits (front_of body at end w)
  unfolding front_of
  front_bits = (bits_of (bits (window body at end)) (take w (bits (window body at end))) (drop w (bits (window body at end))) (sym (take-append-drop w (bits (window body at end)))) (bits-AreBits (window body at end))).0

  pub unit_parts : bits (drop at body) ≡ front_of body at end w ++ fx ∷ bits (drop end body)
  unfolding front_of
  unit_parts =
      let z = bits (window body at end) in
      let y = bits (drop end body) in
      let parts : bits (drop at body) ≡ z ++ y = body_parts body at end (omega (arith, u.forwards)) in
      let split_z : take w z ++ drop w z ≡ z = take-append-drop w z in
      let l : length (drop w z) ≡ 1 = omega (arith, long, length-drop w z) in
      let lw : length (take w z) ≡ w = length-take-le w z (omega (arith, long)) in
      let shape : bits (drop at body) ≡ take w z ++ (drop w z ++ y) = parts ∙ ap (λ z. z ++ y) (sym split_z) ∙ append_assoc (take w z) (drop w z) y in
      let place : drop (8 * at + w) (bits body) ≡ drop w z ++ y =
      sym (drop-drop w (8 * at) (bits body)) ∙ ap (drop w) (drop-bits at body ∙ shape) ∙ drop_at (take w z) (drop w z ++ y) w lw in
      let one : take 1 (drop w z ++ y) ≡ drop w z = take_at (drop w z) y 1 l in
      let last : drop w z ≡ fx ∷ [] = sym one ∙ ap (take 1) (sym place) ∙ u.last in
      shape ∙ ap (λ t. take w z ++ (t ++ y)) last

  pub unit_split : split w (bits (drop at body)) ≡ cut (front_of body at end w) (fx ∷ bits (drop end body))
  unit_split = ap (split w) unit_parts ∙ split_at (front_of body at end w) (fx ∷ bits (drop end body)) w front_length

  pub members_front : (p : MembersTree) → members_width p ≡ w → members_value p (front_of body at end w) ≡ members_value p (drop (8 * at) (bits body))
  members_front p e =
      let x = front_of body at end w in
      sym (members_back p (members_value p x) x (fx ∷ bits (drop end body)) (members_all p x front_bits (front_length ∙ sym e)))
      ∙ ap (members_value p) (sym unit_parts ∙ sym (drop-bits at body))

  pub fixed_front : (f : FixedTree) → width f ≡ w → fixed_value f (front_of body at end w) ≡ fixed_value f (drop (8 * at) (bits body))
  fixed_front f e =
      let x = front_of body at end w in
      sym (fixed_back f (fixed_value f x) x (fx ∷ bits (drop end body)) (fixed_all f x front_bits (front_length ∙ sym e)))
      ∙ ap (fixed_value f) (sym unit_parts ∙ sym (drop-bits at body))

-- ---- occurrences by FX

one_same : (f : FixedTree) (b : List ℕ) (go goes : List ℕ → Read ValuesTree) → ((y : List ℕ) → length y < length b → go y ≡ goes y) → (s : Split) → SplitIs (width f) b s → one_read f s go ≡ one_read f s goes
one_same f b go goes same short h = refl
one_same f b go goes same (cut x []) h = refl
one_same f b go goes same (cut x (zero ∷ y)) h = refl
one_same f b go goes same (cut x (suc fx ∷ y)) (e, l) = ap (after (width f + 1) (λ vs. value_and (fixed_value f x) vs)) (same y (omega (arith, ap length e, length-append x (suc fx ∷ y))))

runs_same : (m n : ℕ) (f : FixedTree) (b : List ℕ) → length b < m → length b < n → run_read m f b ≡ run_read n f b
runs_same zero n f b p q = absurd (omega arith)
runs_same (suc m) zero f b p q = absurd (omega arith)
runs_same (suc m) (suc n) f b p q = one_same f b (run_read m f) (run_read n f) (λ y less. runs_same m n f y (omega arith) (omega arith)) (split (width f) b) (split_is b (width f))

run_first : (f : FixedTree) (b : List ℕ) → run_of f b ≡ one_read f (split (width f) b) (run_of f)
run_first f b = one_same f b (run_read (length b) f) (run_of f) (λ y less. runs_same (length b) (suc (length y)) f y less (omega arith)) (split (width f) b) (split_is b (width f))

pub run_fails : (f : FixedTree) (body : List ℕ) (at : ℕ) (fault : BodyFault) → 8 * (length body - at) ≤ width f → fault.cause ≡ RunsOut → fault.bit ≡ 8 * at → FailsAt (run_at f body at) at fault
unfolding run_at
run_fails f body at fault less c b = record {
  place = 0;
  failed = run_first f (bits (drop at body)) ∙ too_few (split (width f) (bits (drop at body))) (split_is (bits (drop at body)) (width f)) ∙ ap (λ c. failed 0 c) (sym c);
  bit = omega arith;
}
  where
    few : length (bits (drop at body)) ≤ width f
    few = omega (arith, length-rest body at)

    too_few : (s : Split) → SplitIs (width f) (bits (drop at body)) s → one_read f s (run_of f) ≡ failed 0 RunsOut
    too_few short h = refl
    too_few (cut x []) h = refl
    too_few (cut x (fx ∷ y)) (e, l) = absurd (omega (arith, few, ap length e, length-append x (fx ∷ y)))

pub run_ends : (f : FixedTree) (body : List ℕ) (at end w fx : ℕ) (v : ValueTree) → IsUnit body at end w fx → width f ≡ w → fx ≡ 0 → v ≡ fixed_value f (drop (8 * at) (bits body))
    → Gets (run_at f body at) body at end (value_and v no_values)
unfolding run_at
run_ends f body at end w fx v u e z h = record {
  forwards = omega (arith, u.forwards);
  within = u.within;
  got = run_first f (bits (drop at body)) ∙ ap (λ k. one_read f (split k (bits (drop at body))) (run_of f)) e ∙ ap (λ s. one_read f s (run_of f)) (unit_split body at end w fx u)
      ∙ ap (λ fx. one_read f (cut (front_of body at end w) (fx ∷ bits (drop end body))) (run_of f)) z
      ∙ got_is (bits (drop end body)) (ap (λ v. value_and v no_values) (fixed_front body at end w fx u f e ∙ sym h)) (omega (arith, u.width, e));
}

pub run_goes_on : (f : FixedTree) (body : List ℕ) (at end w fx : ℕ) (v : ValueTree) → IsUnit body at end w fx → width f ≡ w → fx ≡ 1 → v ≡ fixed_value f (drop (8 * at) (bits body))
    → Continues (run_at f body at) at end (λ vs. value_and v vs) (run_at f body end)
unfolding run_at
run_goes_on f body at end w fx v u e one h = record {
  forwards = omega (arith, u.forwards);
  same = run_first f (bits (drop at body)) ∙ ap (λ k. one_read f (split k (bits (drop at body))) (run_of f)) e ∙ ap (λ s. one_read f s (run_of f)) (unit_split body at end w fx u)
      ∙ ap (λ fx. one_read f (cut (front_of body at end w) (fx ∷ bits (drop end body))) (run_of f)) one
      ∙ (λ i. after (bits_are i) (λ vs. value_and (value i) vs) (run_at f body end));
}
  where
    value : fixed_value f (front_of body at end w) ≡ v
    value = fixed_front body at end w fx u f e ∙ sym h

    bits_are : width f + 1 ≡ 8 * (end - at)
    bits_are = omega (arith, u.width, e)

-- ---- parts

pub fx_or_none : (last : LastPart) (n : ℕ) → (fx_width last n ≡ 1) ⊎ (fx_width last n ≡ 0)
fx_or_none last (suc n) = inl refl
fx_or_none WithFx zero = inl refl
fx_or_none WithoutFx zero = inr refl

with_fx_read : (last : LastPart) (p : MembersTree) (ps : List MembersTree) (b : List ℕ) → fx_width last (length ps) ≡ 1 → parts_read last (p ∷ ps) b ≡ part_read p ps (split (members_width p) b) (parts_read last ps)
with_fx_read last p (q ∷ ps) b e = refl
with_fx_read WithFx p [] b e = refl
with_fx_read WithoutFx p [] b e = absurd (omega arith)

without_fx_read : (last : LastPart) (p : MembersTree) (ps : List MembersTree) (b : List ℕ) → fx_width last (length ps) ≡ 0 → parts_read last (p ∷ ps) b ≡ last_read p (split (members_width p) b)
without_fx_read last p (q ∷ ps) b e = absurd (omega arith)
without_fx_read WithFx p [] b e = absurd (omega arith)
without_fx_read WithoutFx p [] b e = refl

pub parts_fail : (last : LastPart) (p : MembersTree) (ps : List MembersTree) (body : List ℕ) (at : ℕ) (fault : BodyFault) → 8 * (length body - at) < members_width p + fx_width last (length ps) → fault.cause ≡ RunsOut → fault.bit ≡ 8 * at
    → FailsAt (parts_at last (p ∷ ps) body at) at fault
unfolding parts_at
parts_fail last p ps body at fault less c b = record {
  place = 0;
  failed = by (fx_or_none last (length ps)) ∙ ap (λ c. failed 0 c) (sym c);
  bit = omega arith;
}
  where
    few : length (bits (drop at body)) < members_width p + fx_width last (length ps)
    few = omega (arith, length-rest body at)

    too_few : fx_width last (length ps) ≡ 1 → (s : Split) → SplitIs (members_width p) (bits (drop at body)) s → part_read p ps s (parts_read last ps) ≡ failed 0 RunsOut
    too_few e short h = refl
    too_few e (cut x []) h = refl
    too_few e (cut x (fx ∷ y)) (f, l) = absurd (omega (arith, few, e, ap length f, length-append x (fx ∷ y)))

    by : (fx_width last (length ps) ≡ 1) ⊎ (fx_width last (length ps) ≡ 0) → parts_read last (p ∷ ps) (bits (drop at body)) ≡ failed 0 RunsOut
    by (inl e) = with_fx_read last p ps (bits (drop at body)) e ∙ too_few e (split (members_width p) (bits (drop at body))) (split_is (bits (drop at body)) (members_width p))
    by (inr e) = without_fx_read last p ps (bits (drop at body)) e ∙ ap (last_read p) (split_short (bits (drop at body)) (members_width p) (omega (arith, few, e)))

-- a part with FX
module _ (last : LastPart) (p : MembersTree) (ps : List MembersTree) (body : List ℕ) (at end w fx : ℕ) (has : fx_width last (length ps) ≡ 1) (u : IsUnit body at end w fx) (e : members_width p ≡ w) where
  part_first : (bit : ℕ) → fx ≡ bit → parts_at last (p ∷ ps) body at ≡ part_read p ps (cut (front_of body at end w) (bit ∷ bits (drop end body))) (parts_read last ps)
  unfolding parts_at
  part_first bit is = with_fx_read last p ps (bits (drop at body)) has ∙ ap (λ k. part_read p ps (split k (bits (drop at body))) (parts_read last ps)) e ∙ ap (λ s. part_read p ps s (parts_read last ps)) (unit_split body at end w fx u)
      ∙ ap (λ fx. part_read p ps (cut (front_of body at end w) (fx ∷ bits (drop end body))) (parts_read last ps)) is

  part_bits : members_width p + 1 ≡ 8 * (end - at)
  part_bits = omega (arith, u.width, e)

  pub parts_end : (vs : ValuesTree) → fx ≡ 0 → vs ≡ members_value p (drop (8 * at) (bits body)) → Gets (parts_at last (p ∷ ps) body at) body at end (list_and vs no_lists)
  unfolding parts_at
  parts_end vs z h = record {
    forwards = omega (arith, u.forwards);
    within = u.within;
    got = part_first 0 z ∙ got_is (bits (drop end body)) (ap (λ v. list_and v no_lists) (members_front body at end w fx u p e ∙ sym h)) part_bits;
  }

pub parts_go_on : (last : LastPart) (p q : MembersTree) (ps : List MembersTree) (body : List ℕ) (at end w fx : ℕ) (vs : ValuesTree) → IsUnit body at end w fx → members_width p ≡ w → fx ≡ 1 → vs ≡ members_value p (drop (8 * at) (bits body))
    → Continues (parts_at last (p ∷ q ∷ ps) body at) at end (λ ls. list_and vs ls) (parts_at last (q ∷ ps) body end)
unfolding parts_at
parts_go_on last p q ps body at end w fx vs u e one h = record {
  forwards = omega (arith, u.forwards);
  same = part_first last p (q ∷ ps) body at end w fx refl u e 1 one ∙ (λ i. after (bits_are i) (λ ls. list_and (value i) ls) (parts_at last (q ∷ ps) body end));
}
  where
    value : members_value p (front_of body at end w) ≡ vs
    value = members_front body at end w fx u p e ∙ sym h

    bits_are : members_width p + 1 ≡ 8 * (end - at)
    bits_are = omega (arith, u.width, e)

pub parts_past_end : (last : LastPart) (p : MembersTree) (body : List ℕ) (at end w fx : ℕ) (fault : BodyFault) → fx_width last 0 ≡ 1 → IsUnit body at end w fx → members_width p ≡ w → fx ≡ 1 → fault.cause ≡ ExtensionPastEnd → fault.bit + 1 ≡ 8 * end
    → FailsAt (parts_at last (p ∷ []) body at) at fault
unfolding parts_at
parts_past_end last p body at end w fx fault has u e one c b = record {
  place = members_width p;
  failed = part_first last p [] body at end w fx has u e 1 one ∙ ap (λ c. failed (members_width p) c) (sym c);
  bit = omega (arith, u.width, u.forwards, e);
}

-- a last part without FX
pub parts_end_bare : (last : LastPart) (p : MembersTree) (ps : List MembersTree) (body : List ℕ) (at end : ℕ) (vs : ValuesTree) → fx_width last (length ps) ≡ 0 → at ≤ end → end ≤ length body → members_width p ≡ 8 * (end - at)
    → vs ≡ members_value p (drop (8 * at) (bits body)) → Gets (parts_at last (p ∷ ps) body at) body at end (list_and vs no_lists)
unfolding parts_at
parts_end_bare last p ps body at end vs none le within w h =
    let x = bits (window body at end) in
    let y = bits (drop end body) in
    let l : length x ≡ members_width p = length-window body at end le within ∙ sym w in
    let split_up : bits (drop at body) ≡ x ++ y = body_parts body at end le in
    let back : members_value p (x ++ y) ≡ members_value p x = members_back p (members_value p x) x y (members_all p x (bits-AreBits (window body at end)) l) in
    let value : members_value p x ≡ vs = sym back ∙ ap (members_value p) (sym split_up ∙ sym (drop-bits at body)) ∙ sym h in record {
      forwards = le;
      within = within;
      got = without_fx_read last p ps (bits (drop at body)) none ∙ ap (λ b. last_read p (split (members_width p) b)) split_up ∙ ap (last_read p) (split_at x y (members_width p) l) ∙ got_is y (ap (λ v. list_and v no_lists) value) w;
    }

-- ---- the kinds of both

by_fx_same : (f : FixedTree) (body : List ℕ) (at : ℕ) → Continues (kind_read (by_fx f) body at) at at (λ vs. occurrences vs) (run_at f body at)
unfolding kind_read run_at
by_fx_same f body at = record { forwards = omega arith; same = ap (λ n. after n (λ vs. occurrences vs) (run_of f (bits (drop at body)))) (let e : 0 ≡ 8 * (at - at) = omega arith in e) }

pub by_fx_gets : (f : FixedTree) (body : List ℕ) (at end : ℕ) (vs : ValuesTree) → Gets (run_at f body at) body at end vs → Gets (kind_read (by_fx f) body at) body at end (occurrences vs)
by_fx_gets f body at end vs h = gets_after (kind_read (by_fx f) body at) (run_at f body at) body at at end (λ vs. occurrences vs) vs (by_fx_same f body at) h

pub by_fx_fails : (f : FixedTree) (body : List ℕ) (at : ℕ) (fault : BodyFault) → FailsAt (run_at f body at) at fault → FailsAt (kind_read (by_fx f) body at) at fault
by_fx_fails f body at fault h = fails_after (kind_read (by_fx f) body at) (run_at f body at) at at (λ vs. occurrences vs) fault (by_fx_same f body at) h

extended_same : (last : LastPart) (ps : List MembersTree) (body : List ℕ) (at : ℕ) → Continues (kind_read (extended last ps) body at) at at (λ ls. part_values ls) (parts_at last ps body at)
unfolding kind_read parts_at
extended_same last ps body at = record { forwards = omega arith; same = ap (λ n. after n (λ ls. part_values ls) (parts_read last ps (bits (drop at body)))) (let e : 0 ≡ 8 * (at - at) = omega arith in e) }

pub extended_gets : (last : LastPart) (ps : List MembersTree) (body : List ℕ) (at end : ℕ) (ls : ListsTree) → Gets (parts_at last ps body at) body at end ls → Gets (kind_read (extended last ps) body at) body at end (part_values ls)
extended_gets last ps body at end ls h = gets_after (kind_read (extended last ps) body at) (parts_at last ps body at) body at at end (λ ls. part_values ls) ls (extended_same last ps body at) h

pub extended_fails : (last : LastPart) (ps : List MembersTree) (body : List ℕ) (at : ℕ) (fault : BodyFault) → FailsAt (parts_at last ps body at) at fault → FailsAt (kind_read (extended last ps) body at) at fault
extended_fails last ps body at fault h = fails_after (kind_read (extended last ps) body at) (parts_at last ps body at) at at (λ ls. part_values ls) fault (extended_same last ps body at) h
