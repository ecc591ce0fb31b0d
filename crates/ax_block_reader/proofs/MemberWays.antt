-- Each way through the reader of members.
use Rattle.std.proofs.Common.{◌≡◌, ℕ, ◌+◌, ◌<◌, ◌≤◌, List, [], ◌∷◌, ◌++◌, refl, sym, ◌∙◌, ap, subst, length, drop, get_or}
use Rattle.std.proofs.lemmas.List.{drop_all}
use Rattle.ax_tokens.specs.Stopping.{Texts, Stops, Word, Then}
use Rattle.ax_tokens.specs.declared.stopped.Stopped.{Stopped}
use Rattle.ax_tokens.proofs.Stops.{same_lacks}
use Rattle.ax_format.specs.Plain.{member_tree, members_tree, value_tree, values_tree}
use Rattle.ax_format.specs.Shape.{MembersShape}
use Rattle.ax_format.specs.Tree.{MemberTree, named, spare, MembersTree, no_members, member_and, ValueTree, ValuesTree, no_values, value_and}
use Rattle.ax_format.specs.declared.kind.Member.{Member}
use Rattle.ax_format.specs.declared.value.Value.{Value}
use Rattle.ax_text_form.proofs.Printed.{from_place}
use Rattle.ax_text_form.specs.Readable.{MemberReadable, MembersReadable}
use Rattle.ax_text_form.specs.Slots.{MemberShape}
use Rattle.ax_text_form.specs.ValueText.{closing, member_onto}
use Rattle.ax_block_reader.specs.Continuing.{Continues, Spelled, IsRead}
use Rattle.ax_block_reader.specs.Languages.{member_texts, members_texts}
use Rattle.ax_block_reader.proofs.Continuations.{no_text, tails, same_read, same_front}
use Rattle.ax_block_reader.proofs.Collecting.{Collects, none_collected, more_collected, all_collected, same_put, left_lacks, one_collected, one_lacks, Closes, closing_read}
use Rattle.ax_block_reader.proofs.FixedWays.{members_due_texts}
use Rattle.ax_text_form.proofs.Onto.{member_more}

-- ---- values in front of others

abbrev pub values_before : List Value → ValuesTree → ValuesTree
values_before [] vs = vs
values_before (v ∷ made) vs = value_and (value_tree v) (values_before made vs)

pub before_none : (made : List Value) → values_before made no_values ≡ values_tree made
before_none [] = refl
before_none (v ∷ made) = ap (value_and (value_tree v)) (before_none made)

pub before_more : (made : List Value) (v : Value) (vs : ValuesTree) → values_before made (value_and (value_tree v) vs) ≡ values_before (made ++ v ∷ []) vs
before_more [] v vs = refl
before_more (x ∷ made) v vs = ap (value_and (value_tree x)) (before_more made v vs)

-- ---- members

abbrev AreMembers : MembersTree → Texts → Type 0
AreMembers ms = Spelled (MembersShape ms) (members_texts ms)

abbrev AreMember : MemberTree → Texts → Type 0
AreMember m = Spelled (MemberShape m) (member_texts m)

shape_and : (m : MemberTree) (ms : MembersTree) (v : ValueTree) (vs : ValuesTree) → MemberShape m v → MembersShape ms vs → MembersShape (member_and m ms) (value_and v vs)
shape_and (named name f) ms v vs a b = (a, b)
shape_and (spare w) ms v vs a b = (a, b)

shape_parts : (m : MemberTree) (ms : MembersTree) (v : ValueTree) (vs : ValuesTree) → MembersShape (member_and m ms) (value_and v vs) → MemberShape m v × MembersShape ms vs
shape_parts (named name f) ms v vs h = h
shape_parts (spare w) ms v vs h = h

no_shape : (m : MemberTree) (ms : MembersTree) → MembersShape (member_and m ms) no_values → ⊥
no_shape m ms h = h

abbrev MembersParts : MemberTree → MembersTree → Texts → Type 0
MembersParts m ms = Then (AreMember m) (AreMembers ms)

and_f : (m : MemberTree) (ms : MembersTree) (t : Texts) → MembersParts m ms t → AreMembers (member_and m ms) t
and_f m ms t (a, b, e, (v, h, p), (vs, g, q)) = (value_and v vs, shape_and m ms v vs h g, e ∙ ap (λ x. x ++ b) p ∙ member_more m v [] b ∙ ap (member_onto m v) q)

and_back : (m : MemberTree) (ms : MembersTree) (t : Texts) (vs : ValuesTree) → MembersShape (member_and m ms) vs → t ≡ members_texts (member_and m ms) vs → MembersParts m ms t
and_back m ms t no_values h e = absurd (no_shape m ms h)
and_back m ms t (value_and v vs) h e =
    let p = shape_parts m ms v vs h in
    (member_texts m v, members_texts ms vs, e ∙ sym (member_more m v [] (members_texts ms vs)), (v, p.0, refl), (vs, p.1, refl))

and_g : (m : MemberTree) (ms : MembersTree) (t : Texts) → AreMembers (member_and m ms) t → MembersParts m ms t
and_g m ms t (vs, h, e) = and_back m ms t vs h e

-- what is left begins with a member
and_start : (m : MemberTree) (ms : MembersTree) (old : Texts) → Continues (AreMembers (member_and m ms)) (MembersParts m ms) old old
and_start m ms old = same_read (AreMembers (member_and m ms)) (MembersParts m ms) old old (and_f m ms) (and_g m ms) refl

and_front : (m : MemberTree) (ms : MembersTree) (old : Texts) → (and_start m ms old).front ≡ []
unfolding and_start
and_front m ms old = same_front (AreMembers (member_and m ms)) (MembersParts m ms) old old (and_f m ms) (and_g m ms) refl

end_back : (t : Texts) (vs : ValuesTree) → MembersShape no_members vs → t ≡ members_texts no_members vs → t ≡ closing ∷ []
end_back t no_values h e = e
end_back t (value_and v vs) h e = absurd h

members_close : Closes (MembersShape no_members) (members_texts no_members) no_values
members_close = record {
  shape = tt;
  texts = refl;
  some = λ m. no_text closing [] (end_back [] m.0 m.1 m.2);
  only = λ t m. tails closing closing t [] (end_back (closing ∷ t) m.0 m.1 m.2);
}

end_lacks : (stopped : Stopped) (old new : Texts) → Stops stopped (Word closing) old new → Stops stopped (AreMembers no_members) old new
end_lacks = same_lacks (Word closing) (AreMembers no_members) (λ t e. (no_values, tt, e)) (λ t m. end_back t m.0 m.1 m.2)

-- ---- the loop

-- the members before the place i were read
pub record MembersRead (ms : List Member) (made : List Value) (i : ℕ) (old now : Texts) : Type 0 where
  pub read : Collects (MembersShape (members_tree ms)) (MembersShape (members_tree (drop i ms))) (members_texts (members_tree ms)) (members_texts (members_tree (drop i ms))) (values_before made) old now
  pub readable : MembersReadable (members_tree (drop i ms))

pub no_member_read : (ms : List Member) (made : List Value) (old now : Texts) → made ≡ [] → now ≡ old → MembersReadable (members_tree ms) → MembersRead ms made 0 old now
no_member_read ms made old now e same r = subst (λ m. MembersRead ms m 0 old now) (sym e) (record {
  read = same_put _ _ _ _ (λ x. x) (values_before []) old now (λ x. refl) (none_collected (MembersShape (members_tree ms)) (members_texts (members_tree ms)) old now same);
  readable = r;
})

module _ (ms : List Member) (i : ℕ) (m : Member) (lt : i < length ms) (at : m ≡ get_or ms i m) where
  first_member : members_tree (drop i ms) ≡ member_and (member_tree m) (members_tree (drop (i + 1) ms))
  first_member = ap members_tree (from_place ms i m lt at)

  parts_readable : MembersReadable (members_tree (drop i ms)) → MemberReadable (member_tree m) × MembersReadable (members_tree (drop (i + 1) ms))
  parts_readable r = subst MembersReadable first_member r

  pub member_readable : (made : List Value) (old now : Texts) → MembersRead ms made i old now → MemberReadable (member_tree m)
  member_readable made old now r = (parts_readable r.readable).0

  pub member_lacks : (made : List Value) (stopped : Stopped) (old now new : Texts) → MembersRead ms made i old now → Stops stopped (AreMember (member_tree m)) now new → Stops stopped (AreMembers (members_tree ms)) old new
  member_lacks made stopped old now new r s =
      let d = members_due_texts (members_tree (drop (i + 1) ms)) in
      left_lacks (MembersShape (members_tree ms)) (MembersShape (members_tree (drop i ms))) (members_texts (members_tree ms)) (members_texts (members_tree (drop i ms))) (values_before made) stopped old now new r.read
      (subst (λ k. Stops stopped (AreMembers k) now new) (sym first_member)
      (one_lacks (MembersShape (member_and (member_tree m) (members_tree (drop (i + 1) ms)))) (MembersShape (members_tree (drop (i + 1) ms))) (members_texts (member_and (member_tree m) (members_tree (drop (i + 1) ms)))) (members_texts (members_tree (drop (i + 1) ms)))
      (MemberShape (member_tree m)) (member_texts (member_tree m)) d.0 stopped now now new (and_start (member_tree m) (members_tree (drop (i + 1) ms)) now) d.1 s))

  pub member_more_read : (made more : List Value) (v : Value) (old now new : Texts) → MembersRead ms made i old now → IsRead (MemberShape (member_tree m)) (member_texts (member_tree m)) (value_tree v) now new → more ≡ made ++ v ∷ [] → MembersRead ms more (i + 1) old new
  member_more_read made more v old now new r one pushed =
      let k = member_tree m in
      let ks = members_tree (drop (i + 1) ms) in
      let step = one_collected (MembersShape (member_and k ks)) (MembersShape ks) (members_texts (member_and k ks)) (members_texts ks) (MemberShape k) (member_texts k) value_and (value_tree v) [] now now new (and_start k ks now) (and_front k ks now)
      (λ vs h g. shape_and k ks (value_tree v) vs h g) (λ vs h g. sym (member_more k (value_tree v) [] (members_texts ks vs))) one in
      let left : Collects (MembersShape (members_tree (drop i ms))) (MembersShape ks) (members_texts (members_tree (drop i ms))) (members_texts ks) (value_and (value_tree v)) now new =
      subst (λ t. Collects (MembersShape t) (MembersShape ks) (members_texts t) (members_texts ks) (value_and (value_tree v)) now new) (sym first_member) step in
      subst (λ z. MembersRead ms z (i + 1) old new) (sym pushed) (record {
        read = same_put _ _ _ _ (λ vs. values_before made (value_and (value_tree v) vs)) (values_before (made ++ v ∷ [])) old new (λ vs. before_more made v vs)
            (more_collected (MembersShape (members_tree ms)) (MembersShape (members_tree (drop i ms))) (MembersShape ks) (members_texts (members_tree ms)) (members_texts (members_tree (drop i ms))) (members_texts ks) (values_before made) (value_and (value_tree v)) old now new r.read left);
        readable = (parts_readable r.readable).1;
      })

module _ (ms : List Member) (i : ℕ) (past : length ms ≤ i) where
  no_more : members_tree (drop i ms) ≡ no_members
  no_more = ap members_tree (drop_all i ms past)

  pub close_lacks : (made : List Value) (stopped : Stopped) (old now new : Texts) → MembersRead ms made i old now → Stops stopped (Word closing) now new → Stops stopped (AreMembers (members_tree ms)) old new
  close_lacks made stopped old now new r s =
      left_lacks (MembersShape (members_tree ms)) (MembersShape (members_tree (drop i ms))) (members_texts (members_tree ms)) (members_texts (members_tree (drop i ms))) (values_before made) stopped old now new r.read
      (subst (λ k. Stops stopped (AreMembers k) now new) (sym no_more) (end_lacks stopped now new s))

  pub members_read : (made : List Value) (old now new : Texts) → MembersRead ms made i old now → now ≡ (closing ∷ []) ++ new → IsRead (MembersShape (members_tree ms)) (members_texts (members_tree ms)) (values_tree made) old new
  members_read made old now new r e =
      subst (λ vs. IsRead (MembersShape (members_tree ms)) (members_texts (members_tree ms)) vs old new) (before_none made)
      (all_collected (MembersShape (members_tree ms)) (MembersShape (members_tree (drop i ms))) (members_texts (members_tree ms)) (members_texts (members_tree (drop i ms))) (values_before made) no_values old now new r.read
      (subst (λ k. IsRead (MembersShape k) (members_texts k) no_values now new) (sym no_more) (closing_read (MembersShape no_members) (members_texts no_members) no_values now new members_close e)))

pub ruleset members_ways = (no_member_read, member_readable, member_lacks, member_more_read, close_lacks, members_read)
