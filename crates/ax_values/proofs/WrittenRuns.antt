-- Occurrences by FX and parts that are written one after the other.
use Rattle.std.proofs.Common.{◌≡◌, ◌≢◌, ℕ, suc, ◌<◌, ◌≤◌, ◌==◌, ◌⊎◌, inl, inr, Bool, true, false, not, List, [], ◌∷◌, ◌++◌, length, map, refl, sym, ◌∙◌, ap, arith, subst, append_assoc, append-nil, length-append}
use Rattle.std.proofs.lemmas.Bool.Decides.{nat_tests}
use Rattle.std.proofs.lemmas.List.{length-map}
use Rattle.ax_bits.specs.Bits.{word}
use Rattle.ax_bits.specs.Out.{Appends, room}
use Rattle.ax_bits.specs.declared.output.Out.{Out}
use Rattle.ax_bits.proofs.Outputs.{appends_more}
use Rattle.ax_bits.proofs.Words.{length-word}
use Rattle.ax_format.specs.Canonical.{fixed_canon, members_canon, parts_canon, run_canon}
use Rattle.ax_format.specs.InBounds.{PartsInBounds, MembersInBounds}
use Rattle.ax_format.specs.Plain.{part_tree, value_tree, values_tree, lists_tree}
use Rattle.ax_format.specs.Shape.{FixedShape, MembersShape, PartsShape, EachShape}
use Rattle.ax_format.specs.Tree.{FixedTree, MembersTree, no_lists}
use Rattle.ax_format.specs.Widths.{fx_width}
use Rattle.ax_format.specs.declared.kind.LastPart.{LastPart}
use Rattle.ax_format.specs.declared.kind.Part.{Part}
use Rattle.ax_format.specs.declared.value.Value.{Value}
use Rattle.ax_values.proofs.Written.{written_none, written_more, written_all, written_room, first_room}
use Rattle.ax_fspec.proofs.AtOctets.{fx_or_none}
use Rattle.ax_fspec.specs.Reading.{fx_bit}
use Rattle.ax_values.specs.Writing.{IsWrittenTo}

-- whether others follow
abbrev pub others : {A : Type 0} → List A → Bool
others [] = false
others (x ∷ xs) = true

pub not_empty : {A : Type 0} (xs : List A) → not (length xs == 0) ≡ others xs
not_empty [] = refl
not_empty (x ∷ xs) = some (length xs)
  where
    some : (n : ℕ) → not (suc n == 0) ≡ true
    some n = grind (arith, nat_tests)

-- ---- occurrences

first_of_run : (f : FixedTree) (v : Value) (vs : List Value) → run_canon f (values_tree (v ∷ vs)) ≡ (fixed_canon f (value_tree v) ++ fx_bit (others vs) ∷ []) ++ run_canon f (values_tree vs)
first_of_run f v [] = sym (append_assoc (fixed_canon f (value_tree v)) (0 ∷ []) [])
first_of_run f v (w ∷ vs) = sym (append_assoc (fixed_canon f (value_tree v)) (1 ∷ []) (run_canon f (values_tree (w ∷ vs))))

pub record RunLeft (f : FixedTree) (old now : Out) (whole : List ℕ) (vs : List Value) : Type 0 where
  pub shape : EachShape (FixedShape f) (values_tree vs)
  pub written : IsWrittenTo old now whole (run_canon f (values_tree vs))

pub run_first : (f : FixedTree) (out : Out) (vs : List Value) → EachShape (FixedShape f) (values_tree vs) → RunLeft f out out (run_canon f (values_tree vs)) vs
run_first f out vs h = record { shape = h; written = written_none out (run_canon f (values_tree vs)) }

unit_room : (f : FixedTree) (old now : Out) (whole : List ℕ) (left : List Value) (v : Value) (vs : List Value) → RunLeft f old now whole left → left ≡ v ∷ vs → length whole ≤ room old → length (fixed_canon f (value_tree v) ++ fx_bit (others vs) ∷ []) ≤ room now
unit_room f old now whole left v vs h e le =
    first_room (fixed_canon f (value_tree v) ++ fx_bit (others vs) ∷ []) (run_canon f (values_tree vs)) (run_canon f (values_tree left)) (room now) (ap (λ vs. run_canon f (values_tree vs)) e ∙ first_of_run f v vs)
    (written_room old now whole (run_canon f (values_tree left)) h.written le)

pub value_shape : (f : FixedTree) (old now : Out) (whole : List ℕ) (left : List Value) (v : Value) (vs : List Value) → RunLeft f old now whole left → left ≡ v ∷ vs → FixedShape f (value_tree v)
value_shape f old now whole left v vs h e = (subst (λ vs. EachShape (FixedShape f) (values_tree vs)) e h.shape).0

pub value_room : (f : FixedTree) (old now : Out) (whole : List ℕ) (left : List Value) (v : Value) (vs : List Value) → RunLeft f old now whole left → left ≡ v ∷ vs → length whole ≤ room old → length (fixed_canon f (value_tree v)) ≤ room now
value_room f old now whole left v vs h e le = omega (arith, unit_room f old now whole left v vs h e le, length-append (fixed_canon f (value_tree v)) (fx_bit (others vs) ∷ []))

pub fx_room : (f : FixedTree) (old now new : Out) (whole : List ℕ) (left : List Value) (v : Value) (vs : List Value) → RunLeft f old now whole left → left ≡ v ∷ vs → length whole ≤ room old → Appends now new (fixed_canon f (value_tree v)) → 1 ≤ room new
fx_room f old now new whole left v vs h e le a = omega (arith, unit_room f old now whole left v vs h e le, length-append (fixed_canon f (value_tree v)) (fx_bit (others vs) ∷ []), a.room)

pub run_next : (f : FixedTree) (old now mid new : Out) (whole : List ℕ) (left : List Value) (v : Value) (vs : List Value) (more : Bool) → RunLeft f old now whole left → left ≡ v ∷ vs → Appends now mid (fixed_canon f (value_tree v)) → more ≡ others vs
    → Appends mid new (fx_bit more ∷ []) → RunLeft f old new whole vs
run_next f old now mid new whole left v vs more h e a is b = record {
  shape = (subst (λ vs. EachShape (FixedShape f) (values_tree vs)) e h.shape).1;
  written = written_more old now new whole (run_canon f (values_tree left)) (fixed_canon f (value_tree v) ++ fx_bit (others vs) ∷ []) (run_canon f (values_tree vs)) h.written (ap (λ vs. run_canon f (values_tree vs)) e ∙ first_of_run f v vs)
      (appends_more now mid new (fixed_canon f (value_tree v)) (fx_bit (others vs) ∷ []) (fixed_canon f (value_tree v) ++ fx_bit (others vs) ∷ []) refl a (subst (λ x. Appends mid new (fx_bit x ∷ [])) is b));
}

pub run_ended : (f : FixedTree) (old now : Out) (whole : List ℕ) (vs : List Value) → RunLeft f old now whole vs → vs ≡ [] → Appends old now whole
run_ended f old now whole vs h e = written_all old now whole (run_canon f (values_tree vs)) h.written (ap (λ vs. run_canon f (values_tree vs)) e)

-- ---- parts

-- what stands after the members of a part: its FX bit, where it has one
abbrev pub part_fx : LastPart → List MembersTree → List (List Value) → List ℕ
part_fx last ps ls = word (fx_width last (length ps)) (fx_bit (others ls))

first_of_parts : (last : LastPart) (p : MembersTree) (ps : List MembersTree) (vs : List Value) (ls : List (List Value)) → PartsShape (p ∷ ps) (lists_tree (vs ∷ ls))
    → parts_canon last (p ∷ ps) (lists_tree (vs ∷ ls)) ≡ (members_canon p (values_tree vs) ++ part_fx last ps ls) ++ parts_canon last ps (lists_tree ls)
first_of_parts last p [] vs [] h = sym (append-nil (members_canon p (values_tree vs) ++ word (fx_width last 0) 0))
first_of_parts last p (q ∷ ps) vs [] h = sym (append-nil (members_canon p (values_tree vs) ++ word (fx_width last (length (q ∷ ps))) 0))
first_of_parts last p [] vs (ws ∷ ls) h = absurd h.1
first_of_parts last p (q ∷ ps) vs (ws ∷ ls) h = sym (append_assoc (members_canon p (values_tree vs)) (1 ∷ []) (parts_canon last (q ∷ ps) (lists_tree (ws ∷ ls))))

later_shape : (p : MembersTree) (ps : List MembersTree) (vs w : List Value) (ls : List (List Value)) → PartsShape (p ∷ ps) (lists_tree (vs ∷ w ∷ ls)) → PartsShape ps (lists_tree (w ∷ ls))
later_shape p ps vs w ls h = h.1

here_shape : (p : MembersTree) (ps : List MembersTree) (vs : List Value) (ls : List (List Value)) → PartsShape (p ∷ ps) (lists_tree (vs ∷ ls)) → MembersShape p (values_tree vs)
here_shape p ps vs [] h = h
here_shape p ps vs (w ∷ ls) h = h.0

pub record PartsLeft (last : LastPart) (old now : Out) (whole : List ℕ) (ps : List Part) (ls : List (List Value)) : Type 0 where
  pub bounds : PartsInBounds last (map part_tree ps)
  pub shape : 0 < length ls → PartsShape (map part_tree ps) (lists_tree ls)
  pub written : IsWrittenTo old now whole (parts_canon last (map part_tree ps) (lists_tree ls))

pub parts_first : (last : LastPart) (out : Out) (ps : List Part) (ls : List (List Value)) → PartsInBounds last (map part_tree ps) → PartsShape (map part_tree ps) (lists_tree ls) → PartsLeft last out out (parts_canon last (map part_tree ps) (lists_tree ls)) ps ls
parts_first last out ps ls b h = record { bounds = b; shape = λ some. h; written = written_none out (parts_canon last (map part_tree ps) (lists_tree ls)) }

pub lists_ended : (last : LastPart) (old now : Out) (whole : List ℕ) (ps : List Part) (ls : List (List Value)) → PartsLeft last old now whole ps ls → ls ≡ [] → Appends old now whole
lists_ended last old now whole ps ls h e =
    written_all old now whole (parts_canon last (map part_tree ps) (lists_tree ls)) h.written (ap (λ ls. parts_canon last (map part_tree ps) (lists_tree ls)) e ∙ none (map part_tree ps))
  where
    none : (ps : List MembersTree) → parts_canon last ps no_lists ≡ []
    none [] = refl
    none (p ∷ ps) = refl

pub parts_ended : (last : LastPart) (old now : Out) (whole : List ℕ) (ps : List Part) (ls : List (List Value)) → PartsLeft last old now whole ps ls → ps ≡ [] → Appends old now whole
parts_ended last old now whole ps ls h e = written_all old now whole (parts_canon last (map part_tree ps) (lists_tree ls)) h.written (ap (λ ps. parts_canon last (map part_tree ps) (lists_tree ls)) e)

-- the first part and its list
module _ (last : LastPart) (old now : Out) (whole : List ℕ) (left ps : List Part) (p : Part) (lists ls : List (List Value)) (vs : List Value) (h : PartsLeft last old now whole left lists) (e : left ≡ p ∷ ps) (f : lists ≡ vs ∷ ls) where
  at_first : PartsLeft last old now whole (p ∷ ps) (vs ∷ ls)
  at_first = subst (λ lists. PartsLeft last old now whole (p ∷ ps) lists) f (subst (λ left. PartsLeft last old now whole left lists) e h)

  same_fx : fx_width last (length (map part_tree ps)) ≡ fx_width last (length ps)
  same_fx = ap (fx_width last) (length-map ps part_tree)

  shape_here : PartsShape (part_tree p ∷ map part_tree ps) (lists_tree (vs ∷ ls))
  shape_here = at_first.shape (omega arith)

  pub part_bounds : MembersInBounds (part_tree p)
  part_bounds = at_first.bounds.0.2

  pub part_shape : MembersShape (part_tree p) (values_tree vs)
  part_shape = here_shape (part_tree p) (map part_tree ps) vs ls shape_here

  part_unit_room : length whole ≤ room old → length (members_canon (part_tree p) (values_tree vs) ++ part_fx last (map part_tree ps) ls) ≤ room now
  part_unit_room le =
      first_room (members_canon (part_tree p) (values_tree vs) ++ part_fx last (map part_tree ps) ls) (parts_canon last (map part_tree ps) (lists_tree ls)) (parts_canon last (part_tree p ∷ map part_tree ps) (lists_tree (vs ∷ ls))) (room now)
      (first_of_parts last (part_tree p) (map part_tree ps) vs ls shape_here) (written_room old now whole (parts_canon last (part_tree p ∷ map part_tree ps) (lists_tree (vs ∷ ls))) at_first.written le)

  pub part_room : length whole ≤ room old → length (members_canon (part_tree p) (values_tree vs)) ≤ room now
  part_room le = omega (arith, part_unit_room le, length-append (members_canon (part_tree p) (values_tree vs)) (part_fx last (map part_tree ps) ls))

  pub part_fx_room : (new : Out) → length whole ≤ room old → fx_width last (length ps) ≡ 1 → Appends now new (members_canon (part_tree p) (values_tree vs)) → 1 ≤ room new
  part_fx_room new le has a =
      omega (arith, part_unit_room le, length-append (members_canon (part_tree p) (values_tree vs)) (part_fx last (map part_tree ps) ls), length-word (fx_width last (length (map part_tree ps))) (fx_bit (others ls)), same_fx, has, a.room)

  parts_on : (new : Out) → Appends now new (members_canon (part_tree p) (values_tree vs) ++ part_fx last (map part_tree ps) ls) → PartsLeft last old new whole ps ls
  parts_on new a = record {
    bounds = at_first.bounds.1;
    shape = λ some. rest_shape ls shape_here some;
    written = written_more old now new whole (parts_canon last (part_tree p ∷ map part_tree ps) (lists_tree (vs ∷ ls))) (members_canon (part_tree p) (values_tree vs) ++ part_fx last (map part_tree ps) ls) (parts_canon last (map part_tree ps) (lists_tree ls)) at_first.written
        (first_of_parts last (part_tree p) (map part_tree ps) vs ls shape_here) a;
  }
    where
      rest_shape : (ls : List (List Value)) → PartsShape (part_tree p ∷ map part_tree ps) (lists_tree (vs ∷ ls)) → 0 < length ls → PartsShape (map part_tree ps) (lists_tree ls)
      rest_shape [] s some = absurd (omega arith)
      rest_shape (w ∷ ls) s some = later_shape (part_tree p) (map part_tree ps) vs w ls s

  -- its FX bit was written
  pub parts_next : (mid new : Out) (more : Bool) → fx_width last (length ps) ≡ 1 → Appends now mid (members_canon (part_tree p) (values_tree vs)) → more ≡ others ls → Appends mid new (fx_bit more ∷ []) → PartsLeft last old new whole ps ls
  parts_next mid new more has a is b =
      let piece = members_canon (part_tree p) (values_tree vs) in
      let one : fx_width last (length (map part_tree ps)) ≡ 1 = same_fx ∙ has in
      let fx : fx_bit more ∷ [] ≡ part_fx last (map part_tree ps) ls = ap (λ more. fx_bit more ∷ []) is ∙ sym (word_of (others ls)) ∙ ap (λ w. word w (fx_bit (others ls))) (sym one) in
      parts_on new (appends_more now mid new piece (part_fx last (map part_tree ps) ls) (piece ++ part_fx last (map part_tree ps) ls) refl a (subst (λ x. Appends mid new x) fx b))
    where
      word_of : (more : Bool) → word 1 (fx_bit more) ≡ fx_bit more ∷ []
      word_of true = refl
      word_of false = refl

  -- it has none
  pub parts_next_bare : (new : Out) → fx_width last (length ps) ≡ 0 → Appends now new (members_canon (part_tree p) (values_tree vs)) → PartsLeft last old new whole ps ls
  parts_next_bare new none a =
      let piece = members_canon (part_tree p) (values_tree vs) in
      let bare : fx_width last (length (map part_tree ps)) ≡ 0 = same_fx ∙ none in
      parts_on new (subst (λ x. Appends now new x) (sym (append-nil piece) ∙ ap (λ w. piece ++ word w (fx_bit (others ls))) (sym bare)) a)

pub no_fx : (last : LastPart) (n : ℕ) → fx_width last n ≢ 1 → fx_width last n ≡ 0
no_fx last n other = by (fx_or_none last n)
  where
    by : (fx_width last n ≡ 1) ⊎ (fx_width last n ≡ 0) → fx_width last n ≡ 0
    by (inl has) = absurd (other has)
    by (inr none) = none

pub none_left : {A : Type 0} (xs : List A) → length xs ≡ 0 → xs ≡ []
none_left [] e = refl
none_left (x ∷ xs) e = absurd (cc)
