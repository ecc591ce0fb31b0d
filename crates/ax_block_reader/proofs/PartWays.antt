-- Each way through the readers of extended items.
use Rattle.std.proofs.Common.{◌≡◌, ℕ, ◌+◌, ◌<◌, ◌≤◌, ◌⊎◌, inl, inr, List, [], ◌∷◌, ◌++◌, refl, sym, ◌∙◌, ap, subst, length, drop, get_or, map, arith, Result}
use Rattle.std.specs.List.{AllByRecursion}
use Rattle.std.proofs.lemmas.List.{drop_all}
use Rattle.ax_tokens.specs.Stopping.{Texts, Stops, IsNotFirst, Word, Then}
use Rattle.ax_tokens.specs.declared.stopped.Stopped.{Stopped}
use Rattle.ax_tokens.proofs.Stops.{BeginsWith}
use Rattle.ax_format.specs.Plain.{part_tree, values_tree, lists_tree}
use Rattle.ax_format.specs.Shape.{MembersShape, PartsShape}
use Rattle.ax_format.specs.Tree.{MembersTree, ValuesTree, ListsTree, no_lists, list_and}
use Rattle.ax_format.specs.declared.kind.Part.{Part}
use Rattle.ax_format.specs.declared.value.Value.{Value}
use Rattle.ax_text_form.proofs.Printed.{from_place}
use Rattle.ax_text_form.proofs.Unique.{different}
use Rattle.ax_text_form.specs.Readable.{MembersReadable}
use Rattle.ax_text_form.specs.ValueText.{opening, closing, part_word, members_onto, part_onto}
use Rattle.ax_block_reader.specs.Continuing.{Continues, Spelled, IsRead, Gives}
use Rattle.ax_block_reader.specs.Languages.{members_texts, braced_texts, part_texts, parts_texts, LaterParts}
use Rattle.ax_block_reader.proofs.Continuations.{heads, tails, no_text, same_read, same_front, Prefixed, prefix_lacks}
use Rattle.ax_block_reader.proofs.Collecting.{prefix_gives, Collects, more_collected, all_collected, same_put, left_lacks, one_collected, one_lacks, skip_collected, Closes, closing_read, closing_lacks, closing_cut}
use Rattle.ax_block_reader.proofs.FixedWays.{members_due_texts}
use Rattle.ax_text_form.proofs.Onto.{part_more}

-- ---- a part

abbrev AreMembers : MembersTree → Texts → Type 0
AreMembers p = Spelled (MembersShape p) (members_texts p)

abbrev AreBraced : MembersTree → Texts → Type 0
AreBraced p = Spelled (MembersShape p) (braced_texts p)

abbrev ArePart : MembersTree → Texts → Type 0
ArePart p = Spelled (MembersShape p) (part_texts p)

braced_prefixed : (p : MembersTree) → Prefixed opening (AreMembers p) (AreBraced p)
braced_prefixed p = record { put = λ t m. (m.0, m.1, ap (λ x. opening ∷ x) m.2); taken = λ t m. (members_texts p m.0, m.2, (m.0, m.1, refl)) }

pub open_way : (p : MembersTree) (stopped : Stopped) (old new : Texts) → Stops stopped (Word opening) old new → Stops stopped (AreBraced p) old new
open_way p stopped old new s = let d = members_due_texts p in prefix_lacks opening (AreMembers p) (AreBraced p) d.0 stopped old new (braced_prefixed p) d.1 s

pub braced_gives : (p : MembersTree) (r : Result (List Value) Stopped) (old mid new : Texts) → old ≡ (opening ∷ []) ++ mid → Gives values_tree (MembersShape p) (members_texts p) r mid new → Gives values_tree (MembersShape p) (braced_texts p) r old new
braced_gives p r old mid new e g = prefix_gives values_tree opening (MembersShape p) (braced_texts p) (MembersShape p) (members_texts p) r old mid new (braced_prefixed p) (λ vs h. h) (λ vs. refl) e g

part_prefixed : (p : MembersTree) → Prefixed part_word (AreBraced p) (ArePart p)
part_prefixed p = record { put = λ t m. (m.0, m.1, ap (λ x. part_word ∷ x) m.2); taken = λ t m. (braced_texts p m.0, m.2, (m.0, m.1, refl)) }

pub word_way : (p : MembersTree) (stopped : Stopped) (old new : Texts) → Stops stopped (Word part_word) old new → Stops stopped (ArePart p) old new
word_way p stopped old new s =
    let d = members_due_texts p in
    prefix_lacks part_word (AreBraced p) (ArePart p) (opening ∷ d.0) stopped old new (part_prefixed p) (d.1.0, d.1.1, ap (λ x. opening ∷ x) d.1.2) s

pub part_gives : (p : MembersTree) (r : Result (List Value) Stopped) (old mid new : Texts) → old ≡ (part_word ∷ []) ++ mid → Gives values_tree (MembersShape p) (braced_texts p) r mid new → Gives values_tree (MembersShape p) (part_texts p) r old new
part_gives p r old mid new e g = prefix_gives values_tree part_word (MembersShape p) (part_texts p) (MembersShape p) (braced_texts p) r old mid new (part_prefixed p) (λ vs h. h) (λ vs. refl) e g

-- ---- lists in front of others

abbrev pub lists_before : List (List Value) → ListsTree → ListsTree
lists_before [] ls = ls
lists_before (vs ∷ made) ls = list_and (values_tree vs) (lists_before made ls)

before_none : (made : List (List Value)) → lists_before made no_lists ≡ lists_tree made
before_none [] = refl
before_none (vs ∷ made) = ap (list_and (values_tree vs)) (before_none made)

before_more : (made : List (List Value)) (vs : List Value) (ls : ListsTree) → lists_before made (list_and (values_tree vs) ls) ≡ lists_before (made ++ vs ∷ []) ls
before_more [] vs ls = refl
before_more (x ∷ made) vs ls = ap (list_and (values_tree x)) (before_more made vs ls)

-- ---- the parts that are present

abbrev AreParts : List MembersTree → Texts → Type 0
AreParts ps = Spelled (PartsShape ps) (parts_texts ps)

abbrev AreLater : List MembersTree → Texts → Type 0
AreLater ps = Spelled (LaterParts ps) (parts_texts ps)

abbrev PartsParts : MembersTree → List MembersTree → Texts → Type 0
PartsParts p ps = Then (ArePart p) (AreLater ps)

shape_and : (p : MembersTree) (ps : List MembersTree) (vs : ValuesTree) (ls : ListsTree) → MembersShape p vs → LaterParts ps ls → PartsShape (p ∷ ps) (list_and vs ls)
shape_and p ps vs no_lists h g = h
shape_and p ps vs (list_and ws ls) h g = (h, g)

shape_parts : (p : MembersTree) (ps : List MembersTree) (vs : ValuesTree) (ls : ListsTree) → PartsShape (p ∷ ps) (list_and vs ls) → MembersShape p vs × LaterParts ps ls
shape_parts p ps vs no_lists h = (h, tt)
shape_parts p ps vs (list_and ws ls) h = h

first_f : (p : MembersTree) (ps : List MembersTree) (t : Texts) → PartsParts p ps t → AreParts (p ∷ ps) t
first_f p ps t (a, b, e, (vs, h, q), (ls, g, r)) = (list_and vs ls, shape_and p ps vs ls h g, e ∙ ap (λ x. x ++ b) q ∙ part_more p vs [] b ∙ ap (part_onto p vs) r)

first_back : (p : MembersTree) (ps : List MembersTree) (t : Texts) (ls : ListsTree) → PartsShape (p ∷ ps) ls → t ≡ parts_texts (p ∷ ps) ls → PartsParts p ps t
first_back p ps t no_lists h e = absurd h
first_back p ps t (list_and vs ls) h e =
    let s = shape_parts p ps vs ls h in
    (part_texts p vs, parts_texts ps ls, e ∙ sym (part_more p vs [] (parts_texts ps ls)), (vs, s.0, refl), (ls, s.1, refl))

first_start : (p : MembersTree) (ps : List MembersTree) (old : Texts) → Continues (AreParts (p ∷ ps)) (PartsParts p ps) old old
first_start p ps old = same_read (AreParts (p ∷ ps)) (PartsParts p ps) old old (first_f p ps) (λ t m. first_back p ps t m.0 m.1 m.2) refl

start_front : (p : MembersTree) (ps : List MembersTree) (old : Texts) → (first_start p ps old).front ≡ []
unfolding first_start
start_front p ps old = same_front (AreParts (p ∷ ps)) (PartsParts p ps) old old (first_f p ps) (λ t m. first_back p ps t m.0 m.1 m.2) refl

later_due : (ps : List MembersTree) → AreLater ps (closing ∷ [])
later_due [] = (no_lists, tt, refl)
later_due (p ∷ ps) = (no_lists, tt, refl)

-- a part that must come
must_lack : (p : MembersTree) (ps : List MembersTree) (stopped : Stopped) (old new : Texts) → Stops stopped (ArePart p) old new → Stops stopped (AreParts (p ∷ ps)) old new
must_lack p ps stopped old new s =
    one_lacks (PartsShape (p ∷ ps)) (LaterParts ps) (parts_texts (p ∷ ps)) (parts_texts ps) (MembersShape p) (part_texts p) (closing ∷ []) stopped old old new (first_start p ps old) (later_due ps) s

must_collect : (p : MembersTree) (ps : List MembersTree) (vs : List Value) (old new : Texts) → IsRead (MembersShape p) (part_texts p) (values_tree vs) old new → Collects (PartsShape (p ∷ ps)) (LaterParts ps) (parts_texts (p ∷ ps)) (parts_texts ps) (list_and (values_tree vs)) old new
must_collect p ps vs old new r =
    one_collected (PartsShape (p ∷ ps)) (LaterParts ps) (parts_texts (p ∷ ps)) (parts_texts ps) (MembersShape p) (part_texts p) list_and (values_tree vs) [] old old new (first_start p ps old) (start_front p ps old)
    (λ ls h g. shape_and p ps (values_tree vs) ls h g) (λ ls h g. sym (part_more p (values_tree vs) [] (parts_texts ps ls))) r

-- ---- later parts

later_back : (ps : List MembersTree) (t : Texts) (ls : ListsTree) → LaterParts ps ls → t ≡ parts_texts ps ls → (t ≡ closing ∷ []) ⊎ AreParts ps t
later_back [] t no_lists h e = inl e
later_back (p ∷ ps) t no_lists h e = inl e
later_back ps t (list_and vs ls) h e = inr (list_and vs ls, h, e)

begins_with_part : (ps : List MembersTree) (t : Texts) (ls : ListsTree) → PartsShape ps ls → t ≡ parts_texts ps ls → (rest : Texts) × (t ≡ part_word ∷ rest)
begins_with_part ps t no_lists h e = absurd h
begins_with_part [] t (list_and vs ls) h e = absurd h
begins_with_part (p ∷ ps) t (list_and vs ls) h e = (opening ∷ members_onto p vs (closing ∷ parts_texts ps ls), e)

later_ends : (ps : List MembersTree) (t : Texts) → (t ≡ closing ∷ []) ⊎ AreParts ps t → t ≡ [] → ⊥
later_ends ps t (inl e) f = no_text closing [] (sym f ∙ e)
later_ends ps t (inr m) f = let x = begins_with_part ps t m.0 m.1 m.2 in no_text part_word x.0 (sym f ∙ x.1)

later_only : (ps : List MembersTree) (t : Texts) → (closing ∷ t ≡ closing ∷ []) ⊎ AreParts ps (closing ∷ t) → t ≡ []
later_only ps t (inl e) = tails closing closing t [] e
later_only ps t (inr m) = let x = begins_with_part ps (closing ∷ t) m.0 m.1 m.2 in absurd (different closing part_word refl (heads closing part_word t x.0 x.1))

later_texts : (ps : List MembersTree) → parts_texts ps no_lists ≡ closing ∷ []
later_texts [] = refl
later_texts (p ∷ ps) = refl

later_closes : (ps : List MembersTree) → Closes (LaterParts ps) (parts_texts ps) no_lists
later_closes ps = record {
  shape = tt;
  texts = later_texts ps;
  some = λ m. later_ends ps [] (later_back ps [] m.0 m.1 m.2) refl;
  only = λ t m. later_only ps t (later_back ps (closing ∷ t) m.0 m.1 m.2);
}

later_choice : (ps : List MembersTree) (t : Texts) → (t ≡ closing ∷ []) ⊎ AreParts ps t → BeginsWith closing t ⊎ AreParts ps t
later_choice ps t (inl e) = inl ([], e)
later_choice ps t (inr m) = inr m

later_shape : (ps : List MembersTree) (ls : ListsTree) → PartsShape ps ls → LaterParts ps ls
later_shape ps no_lists h = tt
later_shape ps (list_and vs ls) h = h

-- no brace comes, so a part must come
later_must : (ps : List MembersTree) (old now : Texts) → IsNotFirst (λ text. text ≡ closing) old → now ≡ old → Collects (LaterParts ps) (PartsShape ps) (parts_texts ps) (parts_texts ps) (λ ls. ls) old now
later_must ps old now n e =
    skip_collected (LaterParts ps) (PartsShape ps) (parts_texts ps) (parts_texts ps) closing old now (later_shape ps) (λ ls h. refl) (λ t m. later_choice ps t (later_back ps t m.0 m.1 m.2)) n e

last_only : (t : Texts) → (t ≡ closing ∷ []) ⊎ AreParts [] t → t ≡ closing ∷ []
last_only t (inl e) = e
last_only t (inr (no_lists, h, e)) = absurd h
last_only t (inr (list_and vs ls, h, e)) = absurd h

-- ---- the loop

-- the first part was read, and of the later ones those before the place i
pub record PartsRead (all : List MembersTree) (later : List Part) (made : List (List Value)) (i : ℕ) (old now : Texts) : Type 0 where
  pub read : Collects (PartsShape all) (LaterParts (map part_tree (drop i later))) (parts_texts all) (parts_texts (map part_tree (drop i later))) (lists_before made) old now
  pub readable : AllByRecursion MembersReadable (map part_tree (drop i later))

module _ (parts later : List Part) (first : Part) (split : parts ≡ first ∷ later) where
  abbrev all : List MembersTree
  all = map part_tree parts

  pub first_readable : AllByRecursion MembersReadable (map part_tree parts) → MembersReadable (part_tree first)
  first_readable r = let x : AllByRecursion MembersReadable (map part_tree (first ∷ later)) = subst (λ ps. AllByRecursion MembersReadable (map part_tree ps)) split r in x.0

  pub first_lacks : (stopped : Stopped) (old new : Texts) → Stops stopped (ArePart (part_tree first)) old new → Stops stopped (AreParts (map part_tree parts)) old new
  first_lacks stopped old new s = subst (λ ps. Stops stopped (AreParts (map part_tree ps)) old new) (sym split) (must_lack (part_tree first) (map part_tree later) stopped old new s)

  pub first_part_read : (made : List (List Value)) (vs : List Value) (old new : Texts) → AllByRecursion MembersReadable (map part_tree parts) → IsRead (MembersShape (part_tree first)) (part_texts (part_tree first)) (values_tree vs) old new → made ≡ vs ∷ [] → PartsRead (map part_tree parts) later made 0 old new
  first_part_read made vs old new r one e =
      let x : AllByRecursion MembersReadable (map part_tree (first ∷ later)) = subst (λ ps. AllByRecursion MembersReadable (map part_tree ps)) split r in
      subst (λ m. PartsRead (map part_tree parts) later m 0 old new) (sym e) (subst (λ ps. PartsRead (map part_tree ps) later (vs ∷ []) 0 old new) (sym split) (record {
        read = same_put _ _ _ _ (list_and (values_tree vs)) (lists_before (vs ∷ [])) old new (λ ls. refl) (must_collect (part_tree first) (map part_tree later) vs old new one);
        readable = x.1;
      }))

module _ (all : List MembersTree) (later : List Part) (i : ℕ) where
  abbrev left : List MembersTree
  left = map part_tree (drop i later)

  -- the texts end
  pub parts_cut : (made : List (List Value)) (stopped : Stopped) (old now new : Texts) → PartsRead all later made i old now → now ≡ [] → new ≡ [] → Stops stopped (AreParts all) old new
  parts_cut made stopped old now new r e f = left_lacks (PartsShape all) (LaterParts left) (parts_texts all) (parts_texts left) (lists_before made) stopped old now new r.read (closing_cut (LaterParts left) (parts_texts left) no_lists stopped now new (later_closes left) e f)

  -- the brace comes
  pub parts_end : (made : List (List Value)) (old now new : Texts) → PartsRead all later made i old now → now ≡ closing ∷ new → IsRead (PartsShape all) (parts_texts all) (lists_tree made) old new
  parts_end made old now new r e =
      subst (λ ls. IsRead (PartsShape all) (parts_texts all) ls old new) (before_none made)
      (all_collected (PartsShape all) (LaterParts left) (parts_texts all) (parts_texts left) (lists_before made) no_lists old now new r.read (closing_read (LaterParts left) (parts_texts left) no_lists now new (later_closes left) e))

  -- nothing but the brace may come
  pub parts_lack : length later ≤ i → (made : List (List Value)) (stopped : Stopped) (old now new : Texts) → PartsRead all later made i old now → Stops stopped (Word closing) now new → Stops stopped (AreParts all) old new
  parts_lack past made stopped old now new r s =
      let none : left ≡ [] = ap (map part_tree) (drop_all i later past) in
      left_lacks (PartsShape all) (LaterParts left) (parts_texts all) (parts_texts left) (lists_before made) stopped old now new r.read
      (subst (λ ps. Stops stopped (AreLater ps) now new) (sym none) (closing_lacks (LaterParts []) (parts_texts []) no_lists stopped now new (later_closes []) (λ t m. last_only t (later_back [] t m.0 m.1 m.2)) s))

  module _ (p : Part) (lt : i < length later) (at : p ≡ get_or later i p) where
    abbrev rest : List MembersTree
    rest = map part_tree (drop (i + 1) later)

    next_part : left ≡ part_tree p ∷ rest
    next_part = ap (map part_tree) (from_place later i p lt at)

    pub part_readable : (made : List (List Value)) (old now : Texts) → PartsRead all later made i old now → MembersReadable (part_tree p)
    part_readable made old now r = let x : AllByRecursion MembersReadable (part_tree p ∷ rest) = subst (AllByRecursion MembersReadable) next_part r.readable in x.0

    pub part_lacks : (made : List (List Value)) (stopped : Stopped) (old now mid new : Texts) → PartsRead all later made i old now → mid ≡ now → IsNotFirst (λ text. text ≡ closing) now → Stops stopped (ArePart (part_tree p)) mid new → Stops stopped (AreParts all) old new
    part_lacks made stopped old now mid new r same n s =
        left_lacks (PartsShape all) (LaterParts left) (parts_texts all) (parts_texts left) (lists_before made) stopped old now new r.read
        (left_lacks (LaterParts left) (PartsShape left) (parts_texts left) (parts_texts left) (λ ls. ls) stopped now mid new (later_must left now mid n same)
        (subst (λ ps. Stops stopped (AreParts ps) mid new) (sym next_part) (must_lack (part_tree p) rest stopped mid new s)))

    pub part_more_read : (made more : List (List Value)) (vs : List Value) (old now mid new : Texts) → PartsRead all later made i old now → mid ≡ now → IsNotFirst (λ text. text ≡ closing) now → IsRead (MembersShape (part_tree p)) (part_texts (part_tree p)) (values_tree vs) mid new
        → more ≡ made ++ vs ∷ [] → PartsRead all later more (i + 1) old new
    part_more_read made more vs old now mid new r same n one pushed =
        let step : Collects (PartsShape left) (LaterParts rest) (parts_texts left) (parts_texts rest) (list_and (values_tree vs)) mid new =
        subst (λ ps. Collects (PartsShape ps) (LaterParts rest) (parts_texts ps) (parts_texts rest) (list_and (values_tree vs)) mid new) (sym next_part) (must_collect (part_tree p) rest vs mid new one) in
        let x : AllByRecursion MembersReadable (part_tree p ∷ rest) = subst (AllByRecursion MembersReadable) next_part r.readable in
        subst (λ m. PartsRead all later m (i + 1) old new) (sym pushed) (record {
          read = same_put _ _ _ _ (λ ls. lists_before made (list_and (values_tree vs) ls)) (lists_before (made ++ vs ∷ [])) old new (λ ls. before_more made vs ls)
              (more_collected (PartsShape all) (LaterParts left) (LaterParts rest) (parts_texts all) (parts_texts left) (parts_texts rest) (lists_before made) (list_and (values_tree vs)) old now new r.read
              (more_collected (LaterParts left) (PartsShape left) (LaterParts rest) (parts_texts left) (parts_texts left) (parts_texts rest) (λ ls. ls) (list_and (values_tree vs)) now mid new (later_must left now mid n same) step));
          readable = x.1;
        })

pub no_parts : (parts : List Part) → length parts ≤ 0 → 0 < length parts → ⊥
no_parts parts le lt = omega (arith, le, lt)

pub ruleset parts_ways = (first_readable, first_lacks, no_parts)
