-- Pieces that are written one after the other.
use Rattle.std.proofs.Common.{◌≡◌, ℕ, ◌≤◌, Bool, true, false, List, [], ◌∷◌, ◌++◌, length, refl, sym, ◌∙◌, ap, arith, subst, append_assoc, append-nil, length-append}
use Rattle.ax_bits.proofs.Outputs.{appends_none, appends_more}
use Rattle.ax_bits.proofs.Words.{length-word}
use Rattle.ax_bits.specs.Bits.{word}
use Rattle.ax_bits.specs.Out.{Appends, room}
use Rattle.ax_bits.specs.declared.output.Out.{Out}
use Rattle.ax_format.specs.Canonical.{fixed_canon, members_canon, number_canon}
use Rattle.ax_format.specs.InBounds.{MembersInBounds}
use Rattle.ax_format.specs.Plain.{member_tree, members_tree, value_tree, values_tree}
use Rattle.ax_format.specs.Shape.{NumberShape, MembersShape}
use Rattle.ax_format.specs.Tree.{MembersTree, no_members, member_and, MemberTree, named, spare, ValueTree, number, ValuesTree, no_values, value_and}
use Rattle.ax_format.specs.declared.kind.Member.{Member}
use Rattle.ax_format.specs.declared.value.Value.{Value}
use Rattle.ax_fspec.specs.Reading.{fx_bit}
use Rattle.ax_values.specs.Writing.{IsWrittenTo}

pub written_none : (out : Out) (whole : List ℕ) → IsWrittenTo out out whole whole
written_none out whole = record { front = []; appends = appends_none out; split = refl }

pub written_more : (old now new : Out) (whole left x y : List ℕ) → IsWrittenTo old now whole left → left ≡ x ++ y → Appends now new x → IsWrittenTo old new whole y
written_more old now new whole left x y h e a = record {
  front = h.front ++ x;
  appends = appends_more old now new h.front x (h.front ++ x) refl h.appends a;
  split = h.split ∙ ap (λ t. h.front ++ t) e ∙ sym (append_assoc h.front x y);
}

pub written_all : (old now : Out) (whole left : List ℕ) → IsWrittenTo old now whole left → left ≡ [] → Appends old now whole
written_all old now whole left h e = subst (λ b. Appends old now b) (sym (h.split ∙ ap (λ t. h.front ++ t) e ∙ append-nil h.front)) h.appends

pub written_room : (old now : Out) (whole left : List ℕ) → IsWrittenTo old now whole left → length whole ≤ room old → length left ≤ room now
written_room old now whole left h le = omega (arith, h.appends.room, ap length h.split, length-append h.front left)

pub first_room : (x y left : List ℕ) (free : ℕ) → left ≡ x ++ y → length left ≤ free → length x ≤ free
first_room x y left free e le = omega (arith, ap length e, length-append x y)

pub fx_written : (more : Bool) (old new : Out) (n : ℕ) → n ≡ fx_bit more → Appends old new (word 1 n) → Appends old new (fx_bit more ∷ [])
fx_written true old new n e h = subst (λ n. Appends old new (word 1 n)) e h
fx_written false old new n e h = subst (λ n. Appends old new (word 1 n)) e h

pub number_room : (w : ℕ) (v : ValueTree) (free : ℕ) → NumberShape w v → length (number_canon w v) ≤ free → w ≤ free
number_room w (number n) free h le = omega (arith, length-word w n)
number_room w _ free h le = absurd h

pub ruleset numbers = (number_room, appends_none)

-- ---- members

pub first_canon : (m : MemberTree) (ms : MembersTree) (v : ValueTree) (vs : ValuesTree) → members_canon (member_and m ms) (value_and v vs) ≡ members_canon (member_and m no_members) (value_and v no_values) ++ members_canon ms vs
first_canon (named name f) ms v vs = ap (λ t. t ++ members_canon ms vs) (sym (append-nil (fixed_canon f v)))
first_canon (spare w) ms v vs = ap (λ t. t ++ members_canon ms vs) (sym (append-nil (number_canon w v)))

first_shape : (m : MemberTree) (ms : MembersTree) (v : ValueTree) (vs : ValuesTree) → MembersShape (member_and m ms) (value_and v vs) → MembersShape (member_and m no_members) (value_and v no_values) × MembersShape ms vs
first_shape (named name f) ms v vs h = ((h.0, tt), h.1)
first_shape (spare w) ms v vs h = ((h.0, tt), h.1)

first_bounds : (m : MemberTree) (ms : MembersTree) → MembersInBounds (member_and m ms) → MembersInBounds (member_and m no_members) × MembersInBounds ms
first_bounds (named name f) ms h = ((h.0, tt), h.1)
first_bounds (spare w) ms h = ((h.0, tt), h.1)

-- what is left of members and of their values, while these are written
pub record MembersLeft (old now : Out) (whole : List ℕ) (ms : List Member) (vs : List Value) : Type 0 where
  pub bounds : MembersInBounds (members_tree ms)
  pub shape : MembersShape (members_tree ms) (values_tree vs)
  pub written : IsWrittenTo old now whole (members_canon (members_tree ms) (values_tree vs))

pub members_first : (out : Out) (ms : List Member) (vs : List Value) → MembersInBounds (members_tree ms) → MembersShape (members_tree ms) (values_tree vs)
    → MembersLeft out out (members_canon (members_tree ms) (values_tree vs)) ms vs
members_first out ms vs b s = record { bounds = b; shape = s; written = written_none out (members_canon (members_tree ms) (values_tree vs)) }

pub member_bounds : (old now : Out) (whole : List ℕ) (m : Member) (ms : List Member) (v : Value) (vs : List Value) → MembersLeft old now whole (m ∷ ms) (v ∷ vs) → MembersInBounds (member_and (member_tree m) no_members)
member_bounds old now whole m ms v vs h = (first_bounds (member_tree m) (members_tree ms) h.bounds).0

pub member_shape : (old now : Out) (whole : List ℕ) (m : Member) (ms : List Member) (v : Value) (vs : List Value) → MembersLeft old now whole (m ∷ ms) (v ∷ vs) → MembersShape (member_and (member_tree m) no_members) (value_and (value_tree v) no_values)
member_shape old now whole m ms v vs h = (first_shape (member_tree m) (members_tree ms) (value_tree v) (values_tree vs) h.shape).0

pub member_room : (old now : Out) (whole : List ℕ) (m : Member) (ms : List Member) (v : Value) (vs : List Value) → MembersLeft old now whole (m ∷ ms) (v ∷ vs) → length whole ≤ room old
    → length (members_canon (member_and (member_tree m) no_members) (value_and (value_tree v) no_values)) ≤ room now
member_room old now whole m ms v vs h le =
    first_room (members_canon (member_and (member_tree m) no_members) (value_and (value_tree v) no_values)) (members_canon (members_tree ms) (values_tree vs)) (members_canon (members_tree (m ∷ ms)) (values_tree (v ∷ vs))) (room now)
    (first_canon (member_tree m) (members_tree ms) (value_tree v) (values_tree vs)) (written_room old now whole (members_canon (members_tree (m ∷ ms)) (values_tree (v ∷ vs))) h.written le)

pub member_more : (old now new : Out) (whole : List ℕ) (m : Member) (ms : List Member) (v : Value) (vs : List Value) → MembersLeft old now whole (m ∷ ms) (v ∷ vs)
    → Appends now new (members_canon (member_and (member_tree m) no_members) (value_and (value_tree v) no_values)) → MembersLeft old new whole ms vs
member_more old now new whole m ms v vs h a = record {
  bounds = (first_bounds (member_tree m) (members_tree ms) h.bounds).1;
  shape = (first_shape (member_tree m) (members_tree ms) (value_tree v) (values_tree vs) h.shape).1;
  written = written_more old now new whole (members_canon (members_tree (m ∷ ms)) (values_tree (v ∷ vs))) (members_canon (member_and (member_tree m) no_members) (value_and (value_tree v) no_values)) (members_canon (members_tree ms) (values_tree vs)) h.written
      (first_canon (member_tree m) (members_tree ms) (value_tree v) (values_tree vs)) a;
}

-- there is a value for each member
pub members_ended : (old now : Out) (whole : List ℕ) (ms : List Member) (vs : List Value) → MembersLeft old now whole ms vs → length ms ≡ 0 → Appends old now whole
members_ended old now whole [] [] h e = written_all old now whole [] h.written refl
members_ended old now whole [] (v ∷ vs) h e = absurd h.shape
members_ended old now whole (m ∷ ms) vs h e = absurd (omega arith)

pub values_ended : (old now : Out) (whole : List ℕ) (ms : List Member) (vs : List Value) → MembersLeft old now whole ms vs → length vs ≡ 0 → Appends old now whole
values_ended old now whole [] [] h e = written_all old now whole [] h.written refl
values_ended old now whole (m ∷ ms) [] h e = absurd h.shape
values_ended old now whole ms (v ∷ vs) h e = absurd (omega arith)

-- the first member and its value
pub member_at : (old now : Out) (whole : List ℕ) (m : Member) (left ms : List Member) (v : Value) (right vs : List Value) → MembersLeft old now whole left right → left ≡ m ∷ ms → right ≡ v ∷ vs → MembersLeft old now whole (m ∷ ms) (v ∷ vs)
member_at old now whole m left ms v right vs h e f = subst (λ right. MembersLeft old now whole (m ∷ ms) right) f (subst (λ left. MembersLeft old now whole left right) e h)
