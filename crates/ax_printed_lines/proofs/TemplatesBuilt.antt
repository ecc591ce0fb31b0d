-- What is built of the numbers of a template.
use Rattle.std.proofs.Common.{◌≡◌, ℕ, ◌+◌, ◌-◌, ◌<◌, ◌≤◌, ◌^◌, Bool, true, IsTrue, Option, Some, IfSome, List, [], ◌∷◌, ◌++◌, length, take, drop, refl, sym, ◌∙◌, ap, subst, arith, append_assoc, append-nil, length-drop, take-add, take-append-drop}
use Rattle.std.specs.Prelude.{decimal}
use Rattle.std.proofs.lemmas.List.{take_all, length-take-le}
use Rattle.ax_bits.proofs.Words.{length-word, number_below, word-AreBits, word-number}
use Rattle.ax_bits.specs.Bits.{AreBits, number_of, word}
use Rattle.ax_text_form.proofs.Onto.{fixed_more, part_more}
use Rattle.ax_format.proofs.Meets.{bits_of}
use Rattle.ax_format.specs.Canonical.{fixed_canon, members_canon}
use Rattle.ax_format.specs.Characters.{IsName}
use Rattle.ax_format.specs.InBounds.{FixedInBounds, MembersInBounds}
use Rattle.ax_format.specs.Lengths.{capped}
use Rattle.ax_format.specs.Reader.{fixed_value, members_value}
use Rattle.ax_format.specs.Shape.{NumberShape, FixedShape, MembersShape}
use Rattle.ax_format.specs.Tree.{FixedTree, element, group, MembersTree, no_members, member_and, named, spare, fixed, subitem, ValueTree, number, member_values, ValuesTree, no_values, value_and}
use Rattle.ax_format.specs.Widths.{width, members_width}
use Rattle.ax_text_form.proofs.Unique.{small}
use Rattle.ax_text_form.proofs.WordTokens.{IsWord, decimal_word, name_word, spare_is_word, part_is_word}
use Rattle.ax_text_form.specs.Names.{FixedNamed, MembersNamed}
use Rattle.ax_text_form.specs.Printing.{after_spaces}
use Rattle.ax_text_form.specs.Slots.{slot_onto}
use Rattle.ax_text_form.specs.Tokens.{kind_of, fixed_nesting, members_nesting}
use Rattle.ax_text_form.specs.ValueText.{Texts, closing, spare_word, part_word, in_braces, number_onto, fixed_onto, members_onto, part_onto}
use Rattle.ax_text_lines.proofs.TemplateTexts.{steps_are, fixed_put, named_put, part_put, steps_width, named_width, part_width}
use Rattle.ax_text_lines.specs.Nesting.{FixedWithin, MembersWithin}
use Rattle.ax_text_lines.specs.Templates.{Template, ends, fixed_template, member_template, part_template, printed, template_width, whole_template, AreSteps}
use Rattle.ax_text_lines.specs.declared.templates.TemplateSteps.{TemplateSteps}
use Rattle.ax_tokens.specs.Depth.{level_after}
use Rattle.ax_tokens.specs.Lexing.{IsTokenText, MayFollow}
use Rattle.ax_tokens.specs.declared.token.TokenKind.{TokenKind}
use Rattle.ax_tokens.specs.declared.token.TokenKind.TheVariants.{Word, Str, Open, Close}
use Rattle.ax_printed_lines.specs.Laid.{Lays}
use Rattle.ax_printed_lines.specs.Printed.{Place, AfterGap, AreInFront, Keeps, Goes, BuildsSlot}
use Rattle.ax_printed_lines.specs.Runs.{IsRead, RunGoes}
use Rattle.ax_printed_lines.specs.declared.laid.LaidBits.{LaidBits}
use Rattle.ax_printed_lines.proofs.Building.{built_after}
use Rattle.ax_printed_lines.proofs.FixedBuilt.{FixedIsBuilt}
use Rattle.ax_printed_lines.proofs.ListsBuilt.{PartIsBuilt}
use Rattle.ax_printed_lines.proofs.Separators.{space_gap, space_ends, stands_there}

-- ---- texts with a space in front of each

space_follows : (kind : TokenKind) (rest : List ℕ) → MayFollow kind (32 ∷ rest)
space_follows Word rest = space_ends (32 ∷ rest) rest 32 refl refl
space_follows Str rest = tt
space_follows Open rest = tt
space_follows Close rest = tt

first_space : (texts : Texts) (left : List ℕ) → after_spaces texts ++ 32 ∷ left ≡ 32 ∷ drop 1 (after_spaces texts ++ 32 ∷ left)
first_space [] left = refl
first_space (text ∷ texts) left = refl

texts_in_front : (texts : Texts) (octets left : List ℕ) → 32 ∷ octets ≡ after_spaces texts ++ 32 ∷ left → AreInFront texts octets left
texts_in_front [] octets left e = ap (drop 1) e
texts_in_front (text ∷ texts) octets left e =
    let more = drop 1 (after_spaces texts ++ 32 ∷ left) in
    let space : after_spaces texts ++ 32 ∷ left ≡ 32 ∷ more = first_space texts left in
    let g : AfterGap (32 ∷ more) more = space_gap (32 ∷ more) more 32 refl refl in
    let here : octets ≡ text ++ 32 ∷ more = ap (drop 1) e ∙ append_assoc text (after_spaces texts) (32 ∷ left) ∙ ap (λ t. text ++ t) space in
    (more, stands_there (kind_of text) text (32 ∷ more) octets more here g (space_follows (kind_of text) more), texts_in_front texts more left (sym space))

-- ---- the level of the braces

word_keeps : (level : ℕ) (text : List ℕ) (rest : Texts) → IsWord text → level ≤ 20 → Keeps level rest → Keeps level (text ∷ rest)
word_keeps level text rest w le k = subst (λ kind. IsTokenText kind text × (level_after kind level ≤ 20) × Keeps (level_after kind level) rest) (sym w.kind) (w.octets, le, k)

braces_keep : (level : ℕ) (onto : Texts → Texts) (rest : Texts) → level + 1 ≤ 20 → (Keeps (level + 1) (closing ∷ rest) → Keeps (level + 1) (onto (closing ∷ rest))) → Keeps level rest → Keeps level (in_braces onto rest)
braces_keep level onto rest le h k =
    let back : level ≡ level + 1 - 1 = omega arith in
    (refl, le, h (refl, omega (arith, le), subst (λ l. Keeps l rest) back k))

number_keeps : (level w : ℕ) (v : ValueTree) (rest : Texts) → w ≤ 128 → NumberShape w v → level ≤ 20 → Keeps level rest → Keeps level (number_onto v rest)
number_keeps level w (number n) rest le h l k = word_keeps level (decimal n) rest (decimal_word n (small w n le h)) l k
number_keeps level w v rest le h l k = absurd h

mutual
  fixed_keeps : (level : ℕ) (f : FixedTree) (v : ValueTree) (rest : Texts) → FixedInBounds f → FixedNamed f → FixedShape f v → level + fixed_nesting f ≤ 20 → Keeps level rest → Keeps level (fixed_onto f v rest)
  fixed_keeps level (element w c) v rest r n h le k = number_keeps level w v rest r.1 h (omega (arith, le)) k
  fixed_keeps level (group ms) (member_values vs) rest r n h le k =
      braces_keep level (members_onto ms vs) rest (omega (arith, le)) (λ inner. members_keep (level + 1) ms vs (closing ∷ rest) r n h (omega (arith, le)) inner) k
  fixed_keeps level (group ms) v rest r n h le k = absurd h

  members_keep : (level : ℕ) (ms : MembersTree) (vs : ValuesTree) (rest : Texts) → MembersInBounds ms → MembersNamed ms → MembersShape ms vs → level + members_nesting ms ≤ 20 → Keeps level rest → Keeps level (members_onto ms vs rest)
  members_keep level no_members vs rest r n h le k = k
  members_keep level (member_and m ms) no_values rest r n h le k = absurd h
  members_keep level (member_and (named name f) ms) (value_and v vs) rest r n h le k =
      word_keeps level name (fixed_onto f v (members_onto ms vs rest)) (name_word name n.0) (omega (arith, le))
      (fixed_keeps level f v (members_onto ms vs rest) r.0 n.1 h.0 (omega (arith, le)) (members_keep level ms vs rest r.1 n.2 h.1 (omega (arith, le)) k))
  members_keep level (member_and (spare w) ms) (value_and v vs) rest r n h le k =
      word_keeps level spare_word (number_onto v (members_onto ms vs rest)) spare_is_word (omega (arith, le))
      (number_keeps level w v (members_onto ms vs rest) r.0.1 h.0 (omega (arith, le)) (members_keep level ms vs rest r.1 n h.1 le k))

-- ---- values of bits

taken_bits : (n : ℕ) (b : List ℕ) → AreBits b → AreBits (take n b) × AreBits (drop n b)
taken_bits n b h = bits_of b (take n b) (drop n b) (sym (take-append-drop n b)) h

number_spelled : (w : ℕ) (b : List ℕ) → AreBits b → w ≤ length b → (number_of (take w b) < 2 ^ w) × (word w (number_of (take w b)) ≡ take w b)
number_spelled w b h le =
    let size : length (take w b) ≡ w = length-take-le w b le in
    let bits = (taken_bits w b h).0 in
    (subst (λ n. number_of (take w b) < 2 ^ n) size (number_below (take w b) bits), ap (λ n. word n (number_of (take w b))) (sym size) ∙ word-number (take w b) bits)

mutual
  fixed_spelled : (f : FixedTree) (b : List ℕ) → AreBits b → width f ≤ length b → FixedShape f (fixed_value f b) × (fixed_canon f (fixed_value f b) ≡ take (width f) b)
  fixed_spelled (element w c) b h le = number_spelled w b h le
  fixed_spelled (group ms) b h le = members_spelled ms b h le

  members_spelled : (ms : MembersTree) (b : List ℕ) → AreBits b → members_width ms ≤ length b → MembersShape ms (members_value ms b) × (members_canon ms (members_value ms b) ≡ take (members_width ms) b)
  members_spelled no_members b h le = (tt, refl)
  members_spelled (member_and (named name f) ms) b h le =
      let p = fixed_spelled f b h (omega (arith, le)) in
      let q = members_spelled ms (drop (width f) b) (taken_bits (width f) b h).1 (omega (arith, le, length-drop (width f) b)) in
      ((p.0, q.0), (λ i. p.1 i ++ q.1 i) ∙ sym (take-add (width f) (members_width ms) b))
  members_spelled (member_and (spare w) ms) b h le =
      let p = number_spelled w b h (omega (arith, le)) in
      let q = members_spelled ms (drop w b) (taken_bits w b h).1 (omega (arith, le, length-drop w b)) in
      ((p.0, q.0), (λ i. p.1 i ++ q.1 i) ∙ sym (take-add w (members_width ms) b))

-- ---- texts that are read

run_goes : (texts : Texts) (t : Template) (n w : ℕ) (old new : Place) → RunGoes t n old new → template_width t ≡ w → printed t (word w n) ≡ after_spaces texts → ((rest : Texts) → Keeps old.level rest → Keeps old.level (texts ++ rest)) → Goes old new texts
run_goes texts t n w old new r wide e k = record {
  left = texts_in_front texts old.left new.left (r.read.text ∙ ap (λ x. x ++ 32 ∷ new.left) (ap (λ m. printed t (word m n)) wide ∙ e));
  keeps = λ rest h. k rest (subst (λ l. Keeps l rest) r.level h);
}

-- ---- what is held of a fixed kind

module _ (f : FixedTree) (o : Option TemplateSteps) (ss : TemplateSteps) (made : IfSome o (λ ss. AreSteps (fixed_template f (ends [])) ss)) (is : o ≡ Some ss) where
  fixed_steps : whole_template ss ≡ fixed_template f (ends [])
  fixed_steps = steps_are (fixed_template f (ends [])) ss (subst (λ o. IfSome o (λ ss. AreSteps (fixed_template f (ends [])) ss)) is made)

  fixed_wide : template_width (whole_template ss) ≡ width f
  fixed_wide = steps_width f ss fixed_steps

  pub held_narrow : (w : ℕ) → w ≡ capped (width f) → w ≤ 56 → template_width (whole_template ss) ≤ 56
  held_narrow w e le = omega (arith, fixed_wide, e, le)

  held_width : (w : ℕ) → w ≡ capped (width f) → w ≤ 56 → w ≡ width f
  held_width w e le = omega (arith, e, le)

  pub held_fits : (w n : ℕ) (old new : Place) → w ≡ capped (width f) → w ≤ 56 → RunGoes (whole_template ss) n old new → n < 2 ^ w
  held_fits w n old new e le r = subst (λ k. n < 2 ^ k) (fixed_wide ∙ sym (held_width w e le)) r.read.below

  pub held_goes : (w n : ℕ) (old new : Place) (before after : LaidBits) → w ≡ capped (width f) → w ≤ 56 → FixedInBounds f → (shallow : Bool) → IsTrue shallow → (IsTrue shallow → FixedWithin 8 f) → RunGoes (whole_template ss) n old new → Lays before after (word w n) → FixedIsBuilt f old new before after
  held_goes w n old new before after e le bounds shallow is_shallow nests r a =
      let within = nests is_shallow in
      let same = held_width w e le in
      let b = word (width f) n in
      let long : length b ≡ width f = length-word (width f) n in
      let v = fixed_value f b in
      let s = fixed_spelled f b (word-AreBits (width f) n) (omega (arith, long)) in
      let all : take (width f) b ≡ b = take_all (width f) b (omega (arith, long)) in record {
        value = v;
        shape = s.0;
        goes = run_goes (fixed_onto f v []) (whole_template ss) n (width f) old new r fixed_wide (sym (append-nil (printed (whole_template ss) b)) ∙ (fixed_put f ss b [] (printed (whole_template ss) b) fixed_steps refl).put [])
            (λ rest k. subst (Keeps old.level) (sym (fixed_more f v [] rest)) (fixed_keeps old.level f v rest bounds within.0 s.0 (omega (arith, within.1, r.room)) k));
        lays = subst (Lays before after) (ap (λ k. word k n) same ∙ sym (s.1 ∙ all)) a;
      }

-- ---- what is held of a part

module _ (p : MembersTree) (o : Option TemplateSteps) (ss : TemplateSteps) (made : IfSome o (λ ss. AreSteps (part_template p (ends [])) ss)) (is : o ≡ Some ss) where
  part_steps : whole_template ss ≡ part_template p (ends [])
  part_steps = steps_are (part_template p (ends [])) ss (subst (λ o. IfSome o (λ ss. AreSteps (part_template p (ends [])) ss)) is made)

  part_wide : template_width (whole_template ss) ≡ members_width p
  part_wide = part_width p ss part_steps

  pub part_narrow : (w : ℕ) → w ≡ capped (members_width p) → w ≤ 56 → template_width (whole_template ss) ≤ 56
  part_narrow w e le = omega (arith, part_wide, e, le)

  part_same : (w : ℕ) → w ≡ capped (members_width p) → w ≤ 56 → w ≡ members_width p
  part_same w e le = omega (arith, e, le)

  pub part_fits : (w n : ℕ) (old new : Place) → w ≡ capped (members_width p) → w ≤ 56 → RunGoes (whole_template ss) n old new → n < 2 ^ w
  part_fits w n old new e le r = subst (λ k. n < 2 ^ k) (part_wide ∙ sym (part_same w e le)) r.read.below

  pub part_goes : (w n : ℕ) (old new : Place) (before after : LaidBits) → w ≡ capped (members_width p) → w ≤ 56 → MembersInBounds p → (shallow : Bool) → IsTrue shallow → (IsTrue shallow → MembersWithin 8 p) → RunGoes (whole_template ss) n old new → Lays before after (word w n) → PartIsBuilt p old new before after
  part_goes w n old new before after e le bounds shallow is_shallow nests r a =
      let within = nests is_shallow in
      let same = part_same w e le in
      let b = word (members_width p) n in
      let long : length b ≡ members_width p = length-word (members_width p) n in
      let vs = members_value p b in
      let s = members_spelled p b (word-AreBits (members_width p) n) (omega (arith, long)) in
      let all : take (members_width p) b ≡ b = take_all (members_width p) b (omega (arith, long)) in record {
        value = vs;
        shape = s.0;
        goes = run_goes (part_onto p vs []) (whole_template ss) n (members_width p) old new r part_wide (sym (append-nil (printed (whole_template ss) b)) ∙ (part_put p ss b [] (printed (whole_template ss) b) part_steps refl).put [])
            (λ rest k. subst (Keeps old.level) (sym (part_more p vs [] rest))
            (word_keeps old.level part_word (in_braces (members_onto p vs) rest) part_is_word (omega (arith, r.room))
            (braces_keep old.level (members_onto p vs) rest (omega (arith, r.room)) (λ inner. members_keep (old.level + 1) p vs (closing ∷ rest) bounds within.0 s.0 (omega (arith, within.1, r.room)) inner) k)));
        lays = subst (Lays before after) (ap (λ k. word k n) same ∙ sym (s.1 ∙ all)) a;
      }

-- ---- what is held of an item or a subitem of a fixed kind

module _ (name : List ℕ) (f : FixedTree) (o : Option TemplateSteps) (ss : TemplateSteps) (made : IfSome o (λ ss. AreSteps (member_template (named name f) (ends [])) ss)) (is : o ≡ Some ss) where
  named_steps : whole_template ss ≡ member_template (named name f) (ends [])
  named_steps = steps_are (member_template (named name f) (ends [])) ss (subst (λ o. IfSome o (λ ss. AreSteps (member_template (named name f) (ends [])) ss)) is made)

  named_wide : template_width (whole_template ss) ≡ width f
  named_wide = named_width name f ss named_steps

  pub named_narrow : (w : ℕ) → w ≡ capped (width f) → w ≤ 56 → template_width (whole_template ss) ≤ 56
  named_narrow w e le = omega (arith, named_wide, e, le)

  named_same : (w : ℕ) → w ≡ capped (width f) → w ≤ 56 → w ≡ width f
  named_same w e le = omega (arith, e, le)

  pub named_fits : (w n : ℕ) (old new : Place) → w ≡ capped (width f) → w ≤ 56 → RunGoes (whole_template ss) n old new → n < 2 ^ w
  named_fits w n old new e le r = subst (λ k. n < 2 ^ k) (named_wide ∙ sym (named_same w e le)) r.read.below

  pub named_goes : (w n : ℕ) (old new : Place) (before after : LaidBits) → w ≡ capped (width f) → w ≤ 56 → FixedInBounds f → (shallow : Bool) → IsTrue shallow → (IsTrue shallow → IsName name × FixedWithin 8 f) → RunGoes (whole_template ss) n old new → Lays before after (word w n)
      → BuildsSlot (subitem name (fixed f)) true old new before after
  named_goes w n old new before after e le bounds shallow is_shallow nests r a =
      let nm = (nests is_shallow).0 in
      let within = (nests is_shallow).1 in
      let same = named_same w e le in
      let b = word (width f) n in
      let long : length b ≡ width f = length-word (width f) n in
      let v = fixed_value f b in
      let s = fixed_spelled f b (word-AreBits (width f) n) (omega (arith, long)) in
      let all : take (width f) b ≡ b = take_all (width f) b (omega (arith, long)) in record {
        value = v;
        shape = s.0;
        goes = run_goes (name ∷ fixed_onto f v []) (whole_template ss) n (width f) old new r named_wide (sym (append-nil (printed (whole_template ss) b)) ∙ (named_put name f ss b [] (printed (whole_template ss) b) named_steps refl).put [])
            (λ rest k. word_keeps old.level name (fixed_onto f v [] ++ rest) (name_word name nm) (omega (arith, r.room))
            (subst (Keeps old.level) (sym (fixed_more f v [] rest)) (fixed_keeps old.level f v rest bounds within.0 s.0 (omega (arith, within.1, r.room)) k)));
        lays = subst (Lays before after) (ap (λ k. word k n) same ∙ sym (s.1 ∙ all)) a;
      }

-- a name and a value after it
pub name_then : (name : List ℕ) (f : FixedTree) (old mid new : Place) (before after : LaidBits) → Goes old mid (name ∷ []) → FixedIsBuilt f mid new before after → BuildsSlot (subitem name (fixed f)) true old new before after
name_then name f old mid new before after g b =
    built_after (FixedShape f) (λ v. fixed_onto f v []) (fixed_canon f) (FixedShape f) (λ v. slot_onto (subitem name (fixed f)) v []) (fixed_canon f) (name ∷ []) old mid new before after g b (λ v h. (v, h, refl, refl))

-- ---- the place after what a template prints

pub template_goes : (t : Template) (n : ℕ) (old new : Place) → IsRead t n (32 ∷ old.left) (32 ∷ new.left) → new.level ≡ old.level → old.level + 9 ≤ 20 → RunGoes t n old new
template_goes t n old new r l le = record { read = r; level = l; room = le }

pub ruleset template_read = (template_goes)

pub ruleset named_members = (name_then)
