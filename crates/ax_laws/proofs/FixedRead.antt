-- Readers of values of fixed kinds.
use Rattle.std.proofs.Common.{◌≡◌, ℕ, ◌^◌, ◌≤◌, List, [], ◌∷◌, ◌++◌, refl, sym, ◌∙◌, ap, arith, lit<}
use Rattle.std.specs.Prelude.{decimal}
use Rattle.std.proofs.Math.Nat.{pow-le-pow_right}
use Rattle.std.proofs.lemmas.Nat.{pow_pos}
use Rattle.ax_block_reader.specs.Continuing.{Spelled}
use Rattle.ax_format.specs.Shape.{NumberShape, FixedShape, MembersShape}
use Rattle.ax_format.specs.Tree.{FixedTree, element, group, MemberTree, MembersTree, no_members, member_and, named, spare, ValueTree, number, member_values, ValuesTree, no_values, value_and}
use Rattle.ax_text_form.proofs.Onto.{member_more}
use Rattle.ax_text_form.proofs.Unique.{tails, same_number, same_fixed}
use Rattle.ax_text_form.specs.Readable.{FixedReadable, MemberReadable, MembersReadable}
use Rattle.ax_text_form.specs.Slots.{MemberShape}
use Rattle.ax_text_form.specs.ValueText.{opening, closing, spare_word, number_onto, fixed_onto, member_onto, members_onto}
use Rattle.ax_tokens.specs.Stopping.{Texts, Word, One, Then}
use Rattle.ax_laws.proofs.NumbersRead.{IsNumberBelow, number_or_not}
use Rattle.ax_laws.proofs.Readers.{IsOrNot, Reading, one_reading, word_reading, then_reading, same_reading, prefixed_reading, onto_free}

-- ---- numbers

abbrev IsNumberText : ℕ → List ℕ → Type 0
IsNumberText w = IsNumberBelow (2 ^ w)

number_text_or_not : (w : ℕ) (text : List ℕ) → w ≤ 128 → IsOrNot (IsNumberText w text)
number_text_or_not w text le = number_or_not (2 ^ w) text (let most : 2 ^ w ≤ 2 ^ 128 = pow-le-pow_right (lit< tt) le in omega (arith, most))

abbrev AreNumber : ℕ → Texts → Type 0
AreNumber w = Spelled (NumberShape w) (λ v. number_onto v [])

number_back : (w : ℕ) (t : Texts) (v : ValueTree) → NumberShape w v → t ≡ number_onto v [] → One (IsNumberText w) t
number_back w t (number n) lt e = (decimal n, e, (n, lt, refl))
number_back w t v h e = absurd h

number_reading : (w : ℕ) (old : Texts) → w ≤ 128 → Reading (AreNumber w) old
number_reading w old le =
    same_reading (One (IsNumberText w)) (AreNumber w) old (λ t m. (number m.2.0, m.2.1, m.1 ∙ ap (λ x. x ∷ []) m.2.2)) (λ t m. number_back w t m.0 m.1 m.2)
    (one_reading (IsNumberText w) (decimal 0) (0, pow_pos w, refl) (λ text. number_text_or_not w text le) old)

-- ---- fixed kinds

mutual
  pub fixed_due : (f : FixedTree) → (v : ValueTree) × FixedShape f v
  fixed_due (element w c) = (number 0, pow_pos w)
  fixed_due (group ms) = let d = members_due ms in (member_values d.0, d.1)

  pub members_due : (ms : MembersTree) → (vs : ValuesTree) × MembersShape ms vs
  members_due no_members = (no_values, tt)
  members_due (member_and (named name f) ms) = let a = fixed_due f in let b = members_due ms in (value_and a.0 b.0, (a.1, b.1))
  members_due (member_and (spare w) ms) = let b = members_due ms in (value_and (number 0) b.0, (pow_pos w, b.1))

abbrev pub AreFixed : FixedTree → Texts → Type 0
AreFixed f = Spelled (FixedShape f) (λ v. fixed_onto f v [])

abbrev AreMember : MemberTree → Texts → Type 0
AreMember m = Spelled (MemberShape m) (λ v. member_onto m v [])

-- up to the brace that closes them
abbrev pub AreMembers : MembersTree → Texts → Type 0
AreMembers ms = Spelled (MembersShape ms) (λ vs. members_onto ms vs (closing ∷ []))

same_member : (m : MemberTree) → MemberReadable m → (v u : ValueTree) (x y : Texts) → MemberShape m v → MemberShape m u → member_onto m v x ≡ member_onto m u y → (v ≡ u) × (x ≡ y)
same_member (named name f) r v u x y a b e = same_fixed f v u x y r a b (tails _ _ _ _ e)
same_member (spare w) r v u x y a b e = same_number w v u x y r a b (tails _ _ _ _ e)

shape_and : (m : MemberTree) (ms : MembersTree) (v : ValueTree) (vs : ValuesTree) → MemberShape m v → MembersShape ms vs → MembersShape (member_and m ms) (value_and v vs)
shape_and (named name f) ms v vs a b = (a, b)
shape_and (spare w) ms v vs a b = (a, b)

shape_parts : (m : MemberTree) (ms : MembersTree) (v : ValueTree) (vs : ValuesTree) → MembersShape (member_and m ms) (value_and v vs) → MemberShape m v × MembersShape ms vs
shape_parts (named name f) ms v vs h = h
shape_parts (spare w) ms v vs h = h

no_shape : (m : MemberTree) (ms : MembersTree) → MembersShape (member_and m ms) no_values → ⊥
no_shape m ms h = h

and_f : (m : MemberTree) (ms : MembersTree) (t : Texts) → Then (AreMember m) (AreMembers ms) t → AreMembers (member_and m ms) t
and_f m ms t (a, b, e, (v, h, p), (vs, g, q)) = (value_and v vs, shape_and m ms v vs h g, e ∙ ap (λ x. x ++ b) p ∙ member_more m v [] b ∙ ap (member_onto m v) q)

and_back : (m : MemberTree) (ms : MembersTree) (t : Texts) (vs : ValuesTree) → MembersShape (member_and m ms) vs → t ≡ members_onto (member_and m ms) vs (closing ∷ []) → Then (AreMember m) (AreMembers ms) t
and_back m ms t no_values h e = absurd (no_shape m ms h)
and_back m ms t (value_and v vs) h e =
    let p = shape_parts m ms v vs h in
    (member_onto m v [], members_onto ms vs (closing ∷ []), e ∙ sym (member_more m v [] (members_onto ms vs (closing ∷ []))), (v, p.0, refl), (vs, p.1, refl))

end_back : (t : Texts) (vs : ValuesTree) → MembersShape no_members vs → t ≡ members_onto no_members vs (closing ∷ []) → t ≡ closing ∷ []
end_back t no_values h e = e
end_back t (value_and v vs) h e = absurd h

group_back : (ms : MembersTree) (t : Texts) (v : ValueTree) → FixedShape (group ms) v → t ≡ fixed_onto (group ms) v [] → (rest : Texts) × (t ≡ opening ∷ rest) × AreMembers ms rest
group_back ms t (member_values vs) h e = (members_onto ms vs (closing ∷ []), e, (vs, h, refl))
group_back ms t v h e = absurd h

mutual
  pub fixed_reading : (f : FixedTree) → FixedReadable f → (old : Texts) → Reading (AreFixed f) old
  fixed_reading (element w c) r old = number_reading w old r
  fixed_reading (group ms) r old =
      let d = members_due ms in
      prefixed_reading (AreMembers ms) (AreFixed (group ms)) opening (members_onto ms d.0 (closing ∷ [])) old (d.0, d.1, refl) (λ t m. (member_values m.0, m.1, ap (λ x. opening ∷ x) m.2)) (λ t m. group_back ms t m.0 m.1 m.2) (λ rest le. members_reading ms r rest)

  member_reading : (m : MemberTree) → MemberReadable m → (old : Texts) → Reading (AreMember m) old
  member_reading (named name f) r old =
      let d = fixed_due f in
      prefixed_reading (AreFixed f) (AreMember (named name f)) name (fixed_onto f d.0 []) old (d.0, d.1, refl) (λ t m. (m.0, m.1, ap (λ x. name ∷ x) m.2)) (λ t m. (fixed_onto f m.0 [], m.2, (m.0, m.1, refl))) (λ rest le. fixed_reading f r rest)
  member_reading (spare w) r old =
      prefixed_reading (AreNumber w) (AreMember (spare w)) spare_word (decimal 0 ∷ []) old (number 0, pow_pos w, refl) (λ t m. (m.0, m.1, ap (λ x. spare_word ∷ x) m.2)) (λ t m. (number_onto m.0 [], m.2, (m.0, m.1, refl))) (λ rest le. number_reading w rest r)

  pub members_reading : (ms : MembersTree) → MembersReadable ms → (old : Texts) → Reading (AreMembers ms) old
  members_reading no_members r old = same_reading (Word closing) (AreMembers no_members) old (λ t e. (no_values, tt, e)) (λ t m. end_back t m.0 m.1 m.2) (word_reading closing old)
  members_reading (member_and m ms) r old =
      let d = members_due ms in
      same_reading (Then (AreMember m) (AreMembers ms)) (AreMembers (member_and m ms)) old (and_f m ms) (λ t k. and_back m ms t k.0 k.1 k.2)
      (then_reading (AreMember m) (AreMembers ms) (members_onto ms d.0 (closing ∷ [])) old (d.0, d.1, refl) (onto_free (MemberShape m) (member_onto m) (member_more m) (same_member m r.0)) (member_reading m r.0 old) (λ rest le. members_reading ms r.1 rest))
