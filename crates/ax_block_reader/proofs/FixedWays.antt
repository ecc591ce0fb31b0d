-- Each way through the readers of fixed kinds.
use Rattle.std.proofs.Common.{◌≡◌, ℕ, ◌^◌, ◌<◌, ◌≤◌, List, [], ◌∷◌, ◌++◌, refl, sym, ◌∙◌, ap, subst}
use Rattle.std.specs.Prelude.{decimal}
use Rattle.std.proofs.lemmas.Nat.{pow_pos}
use Rattle.ax_tokens.specs.Stopping.{Texts, Stops, Word, One}
use Rattle.ax_tokens.specs.declared.stopped.Stopped.{Stopped}
use Rattle.ax_tokens.proofs.Stops.{same_lacks}
use Rattle.ax_format.proofs.VariantTrees.{element_tree as of_element, group_tree as of_group, number_value, group_value}
use Rattle.ax_format.specs.Plain.{fixed_tree, member_tree, members_tree, value_tree, values_tree, fixed_step, member_step}
use Rattle.ax_format.specs.Shape.{NumberShape, FixedShape, MembersShape}
use Rattle.ax_format.specs.Tree.{FixedTree, element, group, MemberTree, named, spare, MembersTree, no_members, member_and, ValueTree, number, member_values, ValuesTree, no_values, value_and}
use Rattle.ax_format.specs.declared.content.Content.{Content}
use Rattle.ax_format.specs.declared.kind.Fixed.{Fixed}
use Rattle.ax_format.specs.declared.kind.Fixed.TheOpen.{Member-F}
use Rattle.ax_format.specs.declared.kind.Fixed.TheVariants.{Element, Group}
use Rattle.ax_format.specs.declared.kind.Member.{Member, fold-roll-Member}
use Rattle.ax_format.specs.declared.kind.Member.TheVariants.{Named, Spare, rolls-Named, rolls-Spare}
use Rattle.ax_format.specs.declared.value.Value.{Value}
use Rattle.ax_format.specs.declared.value.Value.TheVariants.{Number, Group as GroupOf}
use Rattle.ax_text_form.specs.Readable.{FixedReadable, MemberReadable, MembersReadable}
use Rattle.ax_text_form.specs.Slots.{MemberShape}
use Rattle.ax_text_form.specs.ValueText.{opening, spare_word, number_onto, fixed_onto}
use Rattle.ax_block_reader.specs.Continuing.{Done, Spelled, IsRead}
use Rattle.ax_block_reader.specs.Languages.{IsNumberText, fixed_texts, member_texts, members_texts}
use Rattle.ax_block_reader.proofs.Continuations.{tails, no_text, word_read, lacks_there, Prefixed, prefix_lacks, prefix_read}
use Rattle.ax_block_reader.proofs.Collecting.{prefix_is_read}
use Rattle.ax_text_form.proofs.KindTrees.{element_tree, group_tree, named_tree, spare_tree}

-- ---- what is due

number_due : (w : ℕ) → NumberShape w (number 0)
number_due w = pow_pos w

mutual
  -- the numbers are 0
  pub fixed_due : (f : FixedTree) → (v : ValueTree) × FixedShape f v
  fixed_due (element w c) = (number 0, number_due w)
  fixed_due (group ms) = let d = members_due ms in (member_values d.0, d.1)

  pub members_due : (ms : MembersTree) → (vs : ValuesTree) × MembersShape ms vs
  members_due no_members = (no_values, tt)
  members_due (member_and (named name f) ms) = let a = fixed_due f in let b = members_due ms in (value_and a.0 b.0, (a.1, b.1))
  members_due (member_and (spare w) ms) = let b = members_due ms in (value_and (number 0) b.0, (number_due w, b.1))

abbrev AreMembers : MembersTree → Texts → Type 0
AreMembers ms = Spelled (MembersShape ms) (members_texts ms)

abbrev AreFixed : FixedTree → Texts → Type 0
AreFixed f = Spelled (FixedShape f) (fixed_texts f)

abbrev AreMember : MemberTree → Texts → Type 0
AreMember m = Spelled (MemberShape m) (member_texts m)

pub members_due_texts : (ms : MembersTree) → (t : Texts) × AreMembers ms t
members_due_texts ms = let d = members_due ms in (members_texts ms d.0, (d.0, d.1, refl))

pub fixed_due_texts : (f : FixedTree) → (t : Texts) × AreFixed f t
fixed_due_texts f = let d = fixed_due f in (fixed_texts f d.0, (d.0, d.1, refl))

-- ---- numbers

abbrev AreNumber : ℕ → Texts → Type 0
AreNumber w = Spelled (NumberShape w) (λ v. number_onto v [])

number_f : (w : ℕ) (t : Texts) → One (IsNumberText w) t → AreNumber w t
number_f w t (text, e, (n, lt, p)) = (number n, lt, e ∙ ap (λ x. x ∷ []) p)

number_back : (w : ℕ) (t : Texts) (v : ValueTree) → NumberShape w v → t ≡ number_onto v [] → One (IsNumberText w) t
number_back w t (number n) h e = (decimal n, e, (n, h, refl))
number_back w t v h e = absurd h

number_g : (w : ℕ) (t : Texts) → AreNumber w t → One (IsNumberText w) t
number_g w t (v, h, e) = number_back w t v h e

number_lacks : (w : ℕ) (stopped : Stopped) (old new : Texts) → Stops stopped (One (IsNumberText w)) old new → Stops stopped (AreNumber w) old new
number_lacks w = same_lacks (One (IsNumberText w)) (AreNumber w) (number_f w) (number_g w)

number_some : (w : ℕ) → AreNumber w [] → ⊥
number_some w m = let x = number_g w [] m in no_text x.0 [] x.1

number_ends : (w n : ℕ) (t : Texts) → AreNumber w (decimal n ∷ t) → t ≡ []
number_ends w n t m = let x = number_g w (decimal n ∷ t) m in tails (decimal n) x.0 t [] x.1

number_is_read : (w n : ℕ) (old new : Texts) → n < 2 ^ w → old ≡ decimal n ∷ new → IsRead (NumberShape w) (λ v. number_onto v []) (number n) old new
number_is_read w n old new lt e = record {
  shape = lt;
  split = e;
  whole = word_read (AreNumber w) Done (decimal n) old new (λ t d. (number n, lt, ap (λ x. decimal n ∷ x) d)) (number_some w) (number_ends w n) e;
}

-- ---- the trees of the code's variants

-- ---- a value of a fixed kind

pub element_way : (fixed : Fixed) (w : ℕ) (c : Content) (stopped : Stopped) (old new : Texts) → fixed ≡ Element w c → Stops stopped (One (IsNumberText w)) old new → Stops stopped (AreFixed (fixed_tree fixed)) old new
element_way fixed w c stopped old new e s = subst (λ f. Stops stopped (AreFixed f) old new) (sym (element_tree fixed w c e)) (number_lacks w stopped old new s)

pub element_read : (fixed : Fixed) (w n : ℕ) (c : Content) (old new : Texts) → fixed ≡ Element w c → n < 2 ^ w → old ≡ (decimal n ∷ []) ++ new → IsRead (FixedShape (fixed_tree fixed)) (fixed_texts (fixed_tree fixed)) (value_tree (Number n)) old new
element_read fixed w n c old new e lt s =
    subst (λ v. IsRead (FixedShape (fixed_tree fixed)) (fixed_texts (fixed_tree fixed)) v old new) (sym (number_value n))
    (subst (λ f. IsRead (FixedShape f) (fixed_texts f) (number n) old new) (sym (element_tree fixed w c e)) (number_is_read w n old new lt s))

group_back : (ms : MembersTree) (t : Texts) (v : ValueTree) → FixedShape (group ms) v → t ≡ fixed_texts (group ms) v → (rest : Texts) × (t ≡ opening ∷ rest) × AreMembers ms rest
group_back ms t (member_values vs) h e = (members_texts ms vs, e, (vs, h, refl))
group_back ms t v h e = absurd h

group_prefixed : (ms : MembersTree) → Prefixed opening (AreMembers ms) (AreFixed (group ms))
group_prefixed ms = record { put = λ t m. (member_values m.0, m.1, ap (λ x. opening ∷ x) m.2); taken = λ t m. group_back ms t m.0 m.1 m.2 }

pub open_way : (fixed : Fixed) (ms : List Member) (stopped : Stopped) (old new : Texts) → fixed ≡ Group ms → Stops stopped (Word opening) old new → Stops stopped (AreFixed (fixed_tree fixed)) old new
open_way fixed ms stopped old new e s =
    let d = members_due_texts (members_tree ms) in
    subst (λ f. Stops stopped (AreFixed f) old new) (sym (group_tree fixed ms e)) (prefix_lacks opening (AreMembers (members_tree ms)) (AreFixed (group (members_tree ms))) d.0 stopped old new (group_prefixed (members_tree ms)) d.1 s)

pub inside_way : (fixed : Fixed) (ms : List Member) (stopped : Stopped) (old mid new : Texts) → fixed ≡ Group ms → old ≡ (opening ∷ []) ++ mid → Stops stopped (AreMembers (members_tree ms)) mid new → Stops stopped (AreFixed (fixed_tree fixed)) old new
inside_way fixed ms stopped old mid new e h s =
    subst (λ f. Stops stopped (AreFixed f) old new) (sym (group_tree fixed ms e))
    (lacks_there (AreFixed (group (members_tree ms))) (AreMembers (members_tree ms)) stopped old mid new (prefix_read opening (AreMembers (members_tree ms)) (AreFixed (group (members_tree ms))) old mid (group_prefixed (members_tree ms)) h) s)

pub group_read : (fixed : Fixed) (ms : List Member) (made : List Value) (old mid new : Texts) → fixed ≡ Group ms → old ≡ (opening ∷ []) ++ mid → IsRead (MembersShape (members_tree ms)) (members_texts (members_tree ms)) (values_tree made) mid new
    → IsRead (FixedShape (fixed_tree fixed)) (fixed_texts (fixed_tree fixed)) (value_tree (GroupOf made)) old new
group_read fixed ms made old mid new e h r =
    subst (λ v. IsRead (FixedShape (fixed_tree fixed)) (fixed_texts (fixed_tree fixed)) v old new) (sym (group_value made))
    (subst (λ f. IsRead (FixedShape f) (fixed_texts f) (member_values (values_tree made)) old new) (sym (group_tree fixed ms e))
    (prefix_is_read opening (FixedShape (group (members_tree ms))) (fixed_texts (group (members_tree ms))) (MembersShape (members_tree ms)) (members_texts (members_tree ms)) (member_values (values_tree made)) (values_tree made) old mid new (group_prefixed (members_tree ms)) r.shape refl h r))

pub readable_element : (fixed : Fixed) (w : ℕ) (c : Content) → fixed ≡ Element w c → FixedReadable (fixed_tree fixed) → w ≤ 128
readable_element fixed w c e r = subst FixedReadable (element_tree fixed w c e) r

pub readable_group : (fixed : Fixed) (ms : List Member) → fixed ≡ Group ms → FixedReadable (fixed_tree fixed) → MembersReadable (members_tree ms)
readable_group fixed ms e r = subst FixedReadable (group_tree fixed ms e) r

pub ruleset fixed_ways = (element_way, element_read, open_way, inside_way, group_read, readable_element, readable_group)

-- ---- a member

named_prefixed : (name : List ℕ) (f : FixedTree) → Prefixed name (AreFixed f) (AreMember (named name f))
named_prefixed name f = record { put = λ t m. (m.0, m.1, ap (λ x. name ∷ x) m.2); taken = λ t m. (fixed_onto f m.0 [], m.2, (m.0, m.1, refl)) }

spare_prefixed : (w : ℕ) → Prefixed spare_word (AreNumber w) (AreMember (spare w))
spare_prefixed w = record { put = λ t m. (m.0, m.1, ap (λ x. spare_word ∷ x) m.2); taken = λ t m. (number_onto m.0 [], m.2, (m.0, m.1, refl)) }

pub name_way : (member : Member) (name word : List ℕ) (f : Fixed) (stopped : Stopped) (old new : Texts) → member ≡ Named name f → word ≡ name → Stops stopped (Word word) old new → Stops stopped (AreMember (member_tree member)) old new
name_way member name word f stopped old new e same s =
    let d = fixed_due_texts (fixed_tree f) in
    subst (λ m. Stops stopped (AreMember m) old new) (sym (named_tree member name f e))
    (prefix_lacks name (AreFixed (fixed_tree f)) (AreMember (named name (fixed_tree f))) d.0 stopped old new (named_prefixed name (fixed_tree f)) d.1 (subst (λ w. Stops stopped (Word w) old new) same s))

pub value_way : (member : Member) (name word : List ℕ) (f : Fixed) (stopped : Stopped) (old mid new : Texts) → member ≡ Named name f → word ≡ name → old ≡ (word ∷ []) ++ mid → Stops stopped (AreFixed (fixed_tree f)) mid new → Stops stopped (AreMember (member_tree member)) old new
value_way member name word f stopped old mid new e same h s =
    subst (λ m. Stops stopped (AreMember m) old new) (sym (named_tree member name f e))
    (lacks_there (AreMember (named name (fixed_tree f))) (AreFixed (fixed_tree f)) stopped old mid new (prefix_read name (AreFixed (fixed_tree f)) (AreMember (named name (fixed_tree f))) old mid (named_prefixed name (fixed_tree f)) (h ∙ ap (λ w. w ∷ mid) same)) s)

pub spare_way : (member : Member) (w : ℕ) (stopped : Stopped) (old new : Texts) → member ≡ Spare w → Stops stopped (Word spare_word) old new → Stops stopped (AreMember (member_tree member)) old new
spare_way member w stopped old new e s =
    subst (λ m. Stops stopped (AreMember m) old new) (sym (spare_tree member w e))
    (prefix_lacks spare_word (AreNumber w) (AreMember (spare w)) (decimal 0 ∷ []) stopped old new (spare_prefixed w) (number 0, number_due w, refl) s)

pub bits_way : (member : Member) (w : ℕ) (stopped : Stopped) (old mid new : Texts) → member ≡ Spare w → old ≡ (spare_word ∷ []) ++ mid → Stops stopped (One (IsNumberText w)) mid new → Stops stopped (AreMember (member_tree member)) old new
bits_way member w stopped old mid new e h s =
    subst (λ m. Stops stopped (AreMember m) old new) (sym (spare_tree member w e))
    (lacks_there (AreMember (spare w)) (AreNumber w) stopped old mid new (prefix_read spare_word (AreNumber w) (AreMember (spare w)) old mid (spare_prefixed w) h) (number_lacks w stopped mid new s))

pub named_read : (member : Member) (name word : List ℕ) (f : Fixed) (v : ValueTree) (old mid new : Texts) → member ≡ Named name f → word ≡ name → old ≡ (word ∷ []) ++ mid → IsRead (FixedShape (fixed_tree f)) (fixed_texts (fixed_tree f)) v mid new
    → IsRead (MemberShape (member_tree member)) (member_texts (member_tree member)) v old new
named_read member name word f v old mid new e same h r =
    subst (λ m. IsRead (MemberShape m) (member_texts m) v old new) (sym (named_tree member name f e))
    (prefix_is_read name (MemberShape (named name (fixed_tree f))) (member_texts (named name (fixed_tree f))) (FixedShape (fixed_tree f)) (fixed_texts (fixed_tree f)) v v old mid new (named_prefixed name (fixed_tree f)) r.shape refl (h ∙ ap (λ w. w ∷ mid) same) r)

pub spare_read : (member : Member) (w n : ℕ) (old mid new : Texts) → member ≡ Spare w → n < 2 ^ w → old ≡ (spare_word ∷ []) ++ mid → mid ≡ (decimal n ∷ []) ++ new → IsRead (MemberShape (member_tree member)) (member_texts (member_tree member)) (value_tree (Number n)) old new
spare_read member w n old mid new e lt h s =
    subst (λ v. IsRead (MemberShape (member_tree member)) (member_texts (member_tree member)) v old new) (sym (number_value n))
    (subst (λ m. IsRead (MemberShape m) (member_texts m) (number n) old new) (sym (spare_tree member w e))
    (prefix_is_read spare_word (MemberShape (spare w)) (member_texts (spare w)) (NumberShape w) (λ v. number_onto v []) (number n) (number n) old mid new (spare_prefixed w) lt refl h (number_is_read w n mid new lt s)))

pub readable_named : (member : Member) (name : List ℕ) (f : Fixed) → member ≡ Named name f → MemberReadable (member_tree member) → FixedReadable (fixed_tree f)
readable_named member name f e r = subst MemberReadable (named_tree member name f e) r

pub readable_spare : (member : Member) (w : ℕ) → member ≡ Spare w → MemberReadable (member_tree member) → w ≤ 128
readable_spare member w e r = subst MemberReadable (spare_tree member w e) r

pub ruleset member_ways = (name_way, value_way, spare_way, bits_way, named_read, spare_read, readable_named, readable_spare)
