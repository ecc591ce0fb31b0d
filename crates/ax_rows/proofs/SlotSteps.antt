-- A row made slot by slot.
use Rattle.std.proofs.Common.{◌≡◌, ◌↔◌, ℕ, zero, suc, ◌-◌, ◌/◌, ◌%◌, ◌^◌, ◌<◌, ◌≤◌, List, [], ◌∷◌, ◌++◌, drop, get_or, bit_and, refl, sym, ◌∙◌, ap, arith, subst, append_assoc, append-nil}
use Rattle.std.proofs.lemmas.Nat.{and_mask}
use Rattle.std.specs.List.{AllByRecursion}
use Rattle.ax_bits.specs.Bits.{word}
use Rattle.ax_fspec.specs.Marks.{seven}
use Rattle.ax_rows.specs.Rows.{row_of, slot_steps, mark_steps, CanBeMarked, HaveRow, Extends}
use Rattle.ax_rows.specs.declared.step.Step.{Step}

pub seven_word : (n : ℕ) → seven n ≡ word 7 n
unfolding seven
seven_word n = refl

low_bit : (n : ℕ) → bit_and n 1 ≡ n % 2
low_bit n = and_mask n 1

-- the mark at place c, from the last
abbrev bit_at : ℕ → ℕ → ℕ
bit_at c marks = (marks / 2 ^ c) % 2

bit_set : (c marks : ℕ) → bit_and (marks / 2 ^ c) 1 ≡ 1 → bit_at c marks ≡ 1
bit_set c marks e = sym (low_bit (marks / 2 ^ c)) ∙ e

bit_clear : (c marks : ℕ) → (bit_and (marks / 2 ^ c) 1 ≡ 1 → ⊥) → bit_at c marks ≡ 0
bit_clear c marks clear =
    let not_one : ((marks / 2 ^ c) % 2 ≡ 1 → ⊥) = (λ e. clear (low_bit (marks / 2 ^ c) ∙ e)) in omega (arith, not_one)

-- ---- slots that have a row

module _ (octets : List ℕ) where
  to_set : (links : List ℕ) (c marks : ℕ) → bit_at c marks ≡ 1 → HaveRow octets links (word (suc c) marks) → CanBeMarked octets links × HaveRow octets (drop 1 links) (word c marks)
  to_set links c marks e h = subst (λ m. HaveRow octets links (m ∷ word c marks)) e h

  from_set : (links : List ℕ) (c marks : ℕ) → bit_at c marks ≡ 1 → CanBeMarked octets links → HaveRow octets (drop 1 links) (word c marks) → HaveRow octets links (word (suc c) marks)
  from_set links c marks e can h = subst (λ m. HaveRow octets links (m ∷ word c marks)) (sym e) (can, h)

  to_clear : (links : List ℕ) (c marks : ℕ) → bit_at c marks ≡ 0 → HaveRow octets links (word (suc c) marks) → HaveRow octets (drop 1 links) (word c marks)
  to_clear links c marks e h = subst (λ m. HaveRow octets links (m ∷ word c marks)) e h

  from_clear : (links : List ℕ) (c marks : ℕ) → bit_at c marks ≡ 0 → HaveRow octets (drop 1 links) (word c marks) → HaveRow octets links (word (suc c) marks)
  from_clear links c marks e h = subst (λ m. HaveRow octets links (m ∷ word c marks)) (sym e) h

  -- the slots that are left have a row exactly where all have
  abbrev pub SameRow : List ℕ → ℕ → List ℕ → ℕ → Type 0
  SameRow links marks left count = HaveRow octets links (seven marks) ↔ HaveRow octets left (word count marks)

  pub same_first : (links : List ℕ) (marks : ℕ) → SameRow links marks links 7
  same_first links marks = (λ h. subst (HaveRow octets links) (seven_word marks) h, λ h. subst (HaveRow octets links) (sym (seven_word marks)) h)

  pub same_set : (links left later : List ℕ) (marks count : ℕ) → 0 < count → later ≡ drop 1 left → bit_and (marks / 2 ^ (count - 1)) 1 ≡ 1 → CanBeMarked octets left → SameRow links marks left count → SameRow links marks later (count - 1)
  same_set links left later marks zero some is set can h = absurd (omega arith)
  same_set links left later marks (suc c) some is set can h =
      let e : suc c - 1 ≡ c = omega arith in
      let one = bit_set c marks (subst (λ c. bit_and (marks / 2 ^ c) 1 ≡ 1) e set) in
      subst (λ c. SameRow links marks later c) (sym e)
      (λ a. subst (λ l. HaveRow octets l (word c marks)) (sym is) (to_set left c marks one (h.0 a)).1, λ b. h.1 (from_set left c marks one can (subst (λ l. HaveRow octets l (word c marks)) is b)))

  pub same_clear : (links left later : List ℕ) (marks count : ℕ) → 0 < count → later ≡ drop 1 left → (bit_and (marks / 2 ^ (count - 1)) 1 ≡ 1 → ⊥) → SameRow links marks left count → SameRow links marks later (count - 1)
  same_clear links left later marks zero some is clear h = absurd (omega arith)
  same_clear links left later marks (suc c) some is clear h =
      let e : suc c - 1 ≡ c = omega arith in
      let none = bit_clear c marks (subst (λ c. bit_and (marks / 2 ^ c) 1 ≡ 1 → ⊥) e clear) in
      subst (λ c. SameRow links marks later c) (sym e)
      (λ a. subst (λ l. HaveRow octets l (word c marks)) (sym is) (to_clear left c marks none (h.0 a)), λ b. h.1 (from_clear left c marks none (subst (λ l. HaveRow octets l (word c marks)) is b)))

  -- a marked slot that can't be marked
  pub same_bad : (links left : List ℕ) (marks count : ℕ) → 0 < count → bit_and (marks / 2 ^ (count - 1)) 1 ≡ 1 → (CanBeMarked octets left → ⊥) → SameRow links marks left count → HaveRow octets links (seven marks) → ⊥
  same_bad links left marks zero some set bad h a = absurd (omega arith)
  same_bad links left marks (suc c) some set bad h a =
      let e : suc c - 1 ≡ c = omega arith in
      bad (to_set left c marks (bit_set c marks (subst (λ c. bit_and (marks / 2 ^ c) 1 ≡ 1) e set)) (h.0 a)).0

  pub same_all : (links left : List ℕ) (marks count : ℕ) → count ≡ 0 → SameRow links marks left count → HaveRow octets links (seven marks)
  same_all links left marks count none h = h.1 (subst (λ c. HaveRow octets left (word c marks)) (sym none) tt)

  -- ---- the row of the slots that are left

  abbrev pub LeftRow : List ℕ → ℕ → ℕ → Type 0
  LeftRow left count marks = HaveRow octets left (word count marks)

  pub left_clear : (left : List ℕ) (link : ℕ) (later : List ℕ) (count marks : ℕ) → left ≡ link ∷ later → (count ≡ 0 → ⊥) → (bit_and (marks / 2 ^ (count - 1)) 1 ≡ 1 → ⊥) → LeftRow left count marks → LeftRow later (count - 1) marks
  left_clear left link later zero marks is some clear h = absurd (some refl)
  left_clear left link later (suc c) marks is some clear h =
      let e : suc c - 1 ≡ c = omega arith in
      subst (λ c. LeftRow later c marks) (sym e)
      (to_clear (link ∷ later) c marks (bit_clear c marks (subst (λ c. bit_and (marks / 2 ^ c) 1 ≡ 1 → ⊥) e clear)) (subst (λ l. LeftRow l (suc c) marks) is h))

  pub left_set : (left : List ℕ) (link : ℕ) (later : List ℕ) (count marks : ℕ) → left ≡ link ∷ later → (count ≡ 0 → ⊥) → bit_and (marks / 2 ^ (count - 1)) 1 ≡ 1 → LeftRow left count marks
      → ((0 < link) × (get_or octets (link - 1) 0 ≤ 65535)) × LeftRow later (count - 1) marks
  left_set left link later zero marks is some set h = absurd (some refl)
  left_set left link later (suc c) marks is some set h =
      let e : suc c - 1 ≡ c = omega arith in
      let both = to_set (link ∷ later) c marks (bit_set c marks (subst (λ c. bit_and (marks / 2 ^ c) 1 ≡ 1) e set)) (subst (λ l. LeftRow l (suc c) marks) is h) in
      (both.0, subst (λ c. LeftRow later c marks) (sym e) both.1)

-- the next mark is 0
mark_clear : (octets : List ℕ) (link : ℕ) (later : List ℕ) (c marks skip : ℕ) → bit_at c marks ≡ 0 → row_of octets (link ∷ later) (word (suc c) marks) skip ≡ row_of octets later (word c marks) skip
mark_clear octets link later c marks skip e = ap (λ m. mark_steps m (get_or octets (link - 1) 0) link skip (row_of octets later (word c marks))) e

-- the next mark is 1
mark_set : (octets : List ℕ) (link : ℕ) (later : List ℕ) (c marks skip : ℕ) → bit_at c marks ≡ 1 → row_of octets (link ∷ later) (word (suc c) marks) skip ≡ slot_steps (get_or octets (link - 1) 0) link skip (row_of octets later (word c marks))
mark_set octets link later c marks skip e = ap (λ m. mark_steps m (get_or octets (link - 1) 0) link skip (row_of octets later (word c marks))) e

pub row_passes : (octets left : List ℕ) (link : ℕ) (later : List ℕ) (count marks skip : ℕ) (old new : List Step) → left ≡ link ∷ later → (count ≡ 0 → ⊥) → (bit_and (marks / 2 ^ (count - 1)) 1 ≡ 1 → ⊥)
    → old ++ row_of octets left (word count marks) skip ≡ new → old ++ row_of octets later (word (count - 1) marks) skip ≡ new
row_passes octets left link later count marks skip old new is some clear h =
    let same : count ≡ suc (count - 1) = (let p : 0 < count = omega (arith, some) in omega arith) in
    ap (λ r. old ++ r) (sym (mark_clear octets link later (count - 1) marks skip (bit_clear (count - 1) marks clear)) ∙ (λ i. row_of octets (sym is i) (word (sym same i) marks) skip)) ∙ h

pub row_takes : (octets left : List ℕ) (link : ℕ) (later : List ℕ) (count marks skip now : ℕ) (old new whole : List Step) → left ≡ link ∷ later → (count ≡ 0 → ⊥) → bit_and (marks / 2 ^ (count - 1)) 1 ≡ 1
    → ((go : ℕ → List Step) → new ++ go now ≡ old ++ slot_steps (get_or octets (link - 1) 0) link skip go)
    → old ++ row_of octets left (word count marks) skip ≡ whole → new ++ row_of octets later (word (count - 1) marks) now ≡ whole
row_takes octets left link later count marks skip now old new whole is some set made h =
    let same : count ≡ suc (count - 1) = (let p : 0 < count = omega (arith, some) in omega arith) in
    made (row_of octets later (word (count - 1) marks))
    ∙ ap (λ r. old ++ r) (sym (mark_set octets link later (count - 1) marks skip (bit_set (count - 1) marks set)) ∙ (λ i. row_of octets (sym is i) (word (sym same i) marks) skip)) ∙ h

pub extends_none : (old : List Step) → Extends old old
extends_none old = record { more = []; grown = sym (append-nil old) }

pub extends_far : (a b c : List Step) → Extends a b → Extends b c → Extends a c
extends_far a b c h g = record { more = h.more ++ g.more; grown = g.grown ∙ ap (λ xs. xs ++ g.more) h.grown ∙ append_assoc a h.more g.more }

pub links_later : (n : ℕ) (left : List ℕ) (link : ℕ) (later : List ℕ) → left ≡ link ∷ later → AllByRecursion (λ link. link ≤ n) left → AllByRecursion (λ link. link ≤ n) (link ∷ later)
links_later n left link later e h = subst (AllByRecursion (λ link. link ≤ n)) e h

pub links_after : (n : ℕ) (left later : List ℕ) → later ≡ drop 1 left → AllByRecursion (λ link. link ≤ n) left → AllByRecursion (λ link. link ≤ n) later
links_after n left later e h = subst (AllByRecursion (λ link. link ≤ n)) (sym e) (after left h)
  where
    after : (left : List ℕ) → AllByRecursion (λ link. link ≤ n) left → AllByRecursion (λ link. link ≤ n) (drop 1 left)
    after [] h = tt
    after (link ∷ later) h = h.1
