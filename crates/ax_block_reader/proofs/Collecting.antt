-- Lists that are read member by member.
use Rattle.std.proofs.Common.{◌≡◌, ℕ, List, [], ◌∷◌, ◌++◌, sym, ◌∙◌, ap, subst, append_assoc, ◌⊎◌, Result, Ok, Err}
use Rattle.std.proofs.lemmas.List.{append_cancel_right}
use Rattle.ax_tokens.specs.Stopping.{Texts, Stops, IsNotFirst, Word, Then}
use Rattle.ax_tokens.specs.declared.stopped.Stopped.{Stopped}
use Rattle.ax_tokens.specs.declared.stopped.Stopped.TheVariants.{Bad, OutOfMemory}
use Rattle.ax_tokens.proofs.Stops.{BeginsWith, same_lacks, first_lacks}
use Rattle.ax_text_form.specs.ValueText.{closing}
use Rattle.ax_block_reader.specs.Continuing.{Done, Continues, Spelled, IsRead, Gives}
use Rattle.ax_block_reader.proofs.Continuations.{none_read, none_front, both_read, both_front, lacks_there, then_read, then_front, word_read, skip_read, skip_front, cut_stops, Prefixed, prefix_read}

-- ---- what was read

-- the front of what was read is its texts
pub front_is : {X : Type 0} (R : X → Type 0) (spell : X → Texts) (x : X) (old new : Texts) (r : IsRead R spell x old new) → r.whole.front ≡ spell x
front_is R spell x old new r = append_cancel_right r.whole.front (spell x) new (sym r.whole.split ∙ r.split)

-- the same under another name
pub alike_read : {X : Type 0} (R : X → Type 0) (spell : X → Texts) (x y : X) (old new : Texts) → x ≡ y → IsRead R spell x old new → IsRead R spell y old new
alike_read R spell x y old new e r = subst (λ z. IsRead R spell z old new) e r

-- a word, and then what was read
pub prefix_is_read : {X Y : Type 0} (word : List ℕ) (R : X → Type 0) (spell : X → Texts) (Q : Y → Type 0) (inner : Y → Texts) (x : X) (y : Y) (old mid new : Texts) → Prefixed word (Spelled Q inner) (Spelled R spell) → R x → spell x ≡ word ∷ inner y
    → old ≡ word ∷ mid → IsRead Q inner y mid new → IsRead R spell x old new
prefix_is_read word R spell Q inner x y old mid new p h t e r = record {
  shape = h;
  split = e ∙ ap (λ z. word ∷ z) r.split ∙ ap (λ z. z ++ new) (sym t);
  whole = both_read (Spelled R spell) (Spelled Q inner) Done old mid new (prefix_read word (Spelled Q inner) (Spelled R spell) old mid p e) r.whole;
}

-- what a call after a word gives
pub prefix_gives : {T X : Type 0} (tree : T → X) (word : List ℕ) (R : X → Type 0) (spell : X → Texts) (Q : X → Type 0) (inner : X → Texts) (r : Result T Stopped) (old mid new : Texts) → Prefixed word (Spelled Q inner) (Spelled R spell) → ((x : X) → Q x → R x) → ((x : X) → spell x ≡ word ∷ inner x)
    → old ≡ word ∷ mid → Gives tree Q inner r mid new → Gives tree R spell r old new
prefix_gives tree word R spell Q inner (Ok t) old mid new p h s e g = prefix_is_read word R spell Q inner (tree t) (tree t) old mid new p (h (tree t) g.shape) (s (tree t)) e g
prefix_gives tree word R spell Q inner (Err stopped) old mid new p h s e g = lacks_there (Spelled R spell) (Spelled Q inner) stopped old mid new (prefix_read word (Spelled Q inner) (Spelled R spell) old mid p e) g

-- ---- members of a list

-- Members of a list were read: the whole list is to have the shape R, and what is left of it the shape Q. The list is made
-- of what is left by `put`.
pub record Collects {X : Type 0} (R Q : X → Type 0) (spell left : X → Texts) (put : X → X) (old now : Texts) : Type 0 where
  pub continues : Continues (Spelled R spell) (Spelled Q left) old now
  pub shape : (x : X) → Q x → R (put x)
  pub texts : (x : X) → Q x → spell (put x) ≡ continues.front ++ left x

pub none_collected : {X : Type 0} (R : X → Type 0) (spell : X → Texts) (old now : Texts) → now ≡ old → Collects R R spell spell (λ x. x) old now
none_collected R spell old now e = record { continues = none_read (Spelled R spell) old now e; shape = λ x h. h; texts = λ x h. ap (λ t. t ++ spell x) (sym (none_front (Spelled R spell) old now e)) }

pub more_collected : {X : Type 0} (R Q P : X → Type 0) (spell left later : X → Texts) (put one : X → X) (old mid now : Texts) → Collects R Q spell left put old mid → Collects Q P left later one mid now → Collects R P spell later (λ x. put (one x)) old now
more_collected R Q P spell left later put one old mid now c d = record {
  continues = both_read (Spelled R spell) (Spelled Q left) (Spelled P later) old mid now c.continues d.continues;
  shape = λ x h. c.shape (one x) (d.shape x h);
  texts = λ x h. c.texts (one x) (d.shape x h) ∙ ap (λ t. c.continues.front ++ t) (d.texts x h) ∙ sym (append_assoc c.continues.front d.continues.front (later x))
      ∙ ap (λ t. t ++ later x) (sym (both_front (Spelled R spell) (Spelled Q left) (Spelled P later) old mid now c.continues d.continues));
}

pub all_collected : {X : Type 0} (R Q : X → Type 0) (spell left : X → Texts) (put : X → X) (x : X) (old mid new : Texts) → Collects R Q spell left put old mid → IsRead Q left x mid new → IsRead R spell (put x) old new
all_collected R Q spell left put x old mid new c r = record {
  shape = c.shape x r.shape;
  split = c.continues.split ∙ ap (λ t. c.continues.front ++ t) r.split ∙ sym (append_assoc c.continues.front (left x) new) ∙ ap (λ t. t ++ new) (sym (c.texts x r.shape));
  whole = both_read (Spelled R spell) (Spelled Q left) Done old mid new c.continues r.whole;
}

pub same_put : {X : Type 0} (R Q : X → Type 0) (spell left : X → Texts) (put other : X → X) (old now : Texts) → ((x : X) → put x ≡ other x) → Collects R Q spell left put old now → Collects R Q spell left other old now
same_put R Q spell left put other old now e c = record {
  continues = c.continues;
  shape = λ x h. subst R (e x) (c.shape x h);
  texts = λ x h. ap spell (sym (e x)) ∙ c.texts x h;
}

-- where a reader of what is left stops
pub left_lacks : {X : Type 0} (R Q : X → Type 0) (spell left : X → Texts) (put : X → X) (stopped : Stopped) (old mid new : Texts) → Collects R Q spell left put old mid → Stops stopped (Spelled Q left) mid new → Stops stopped (Spelled R spell) old new
left_lacks R Q spell left put stopped old mid new c s = lacks_there (Spelled R spell) (Spelled Q left) stopped old mid new c.continues s

-- ---- one member

-- what is left begins with a member that has the shape P
pub one_collected : {X Y : Type 0} (R Q : X → Type 0) (spell left : X → Texts) (P : Y → Type 0) (one : Y → Texts) (cons : Y → X → X) (y : Y) (before old mid now : Texts) (start : Continues (Spelled R spell) (Then (Spelled P one) (Spelled Q left)) old mid)
    → start.front ≡ before → ((x : X) → P y → Q x → R (cons y x)) → ((x : X) → P y → Q x → spell (cons y x) ≡ before ++ (one y ++ left x)) → IsRead P one y mid now → Collects R Q spell left (cons y) old now
one_collected R Q spell left P one cons y before old mid now start front f t r =
    let inner = then_read (Spelled P one) (Spelled Q left) mid now r.whole in
    record {
      continues = both_read (Spelled R spell) (Then (Spelled P one) (Spelled Q left)) (Spelled Q left) old mid now start inner;
      shape = λ x h. f x r.shape h;
      texts = λ x h. t x r.shape h ∙ (λ i. sym front i ++ (sym (front_is P one y mid now r) i ++ left x)) ∙ sym (append_assoc start.front r.whole.front (left x))
          ∙ ap (λ z. (start.front ++ z) ++ left x) (sym (then_front (Spelled P one) (Spelled Q left) mid now r.whole))
          ∙ ap (λ z. z ++ left x) (sym (both_front (Spelled R spell) (Then (Spelled P one) (Spelled Q left)) (Spelled Q left) old mid now start inner));
    }

pub one_lacks : {X Y : Type 0} (R Q : X → Type 0) (spell left : X → Texts) (P : Y → Type 0) (one : Y → Texts) (due : Texts) (stopped : Stopped) (old mid new : Texts) → Continues (Spelled R spell) (Then (Spelled P one) (Spelled Q left)) old mid → Spelled Q left due
    → Stops stopped (Spelled P one) mid new → Stops stopped (Spelled R spell) old new
one_lacks R Q spell left P one due stopped old mid new start d s =
    lacks_there (Spelled R spell) (Then (Spelled P one) (Spelled Q left)) stopped old mid new start (first_lacks (Spelled P one) (Spelled Q left) due d stopped mid new s)

-- ---- a word that doesn't come

pub skip_collected : {X : Type 0} (R Q : X → Type 0) (spell left : X → Texts) (word : List ℕ) (old now : Texts) → ((x : X) → Q x → R x) → ((x : X) → Q x → spell x ≡ left x) → ((t : Texts) → Spelled R spell t → BeginsWith word t ⊎ Spelled Q left t)
    → IsNotFirst (λ text. text ≡ word) old → now ≡ old → Collects R Q spell left (λ x. x) old now
skip_collected R Q spell left word old now f t g n e =
    let back : (z : Texts) → Spelled Q left z → Spelled R spell z = λ z m. (m.0, f m.0 m.1, m.2 ∙ sym (t m.0 m.1)) in
    record {
      continues = skip_read (Spelled Q left) (Spelled R spell) word old now back g n e;
      shape = f;
      texts = λ x h. t x h ∙ ap (λ z. z ++ left x) (sym (skip_front (Spelled Q left) (Spelled R spell) word old now back g n e));
    }

-- ---- the brace that closes

-- nothing but the brace
pub record Closes {X : Type 0} (R : X → Type 0) (spell : X → Texts) (end : X) : Type 0 where
  pub shape : R end
  pub texts : spell end ≡ closing ∷ []
  pub some : Spelled R spell [] → ⊥
  pub only : (t : Texts) → Spelled R spell (closing ∷ t) → t ≡ []

pub closing_read : {X : Type 0} (R : X → Type 0) (spell : X → Texts) (end : X) (old new : Texts) → Closes R spell end → old ≡ closing ∷ new → IsRead R spell end old new
closing_read R spell end old new c e = record {
  shape = c.shape;
  split = e ∙ ap (λ t. t ++ new) (sym c.texts);
  whole = word_read (Spelled R spell) Done closing old new (λ t d. (end, c.shape, ap (λ z. closing ∷ z) d ∙ sym c.texts)) c.some c.only e;
}

-- nothing but the brace may come
pub closing_lacks : {X : Type 0} (R : X → Type 0) (spell : X → Texts) (end : X) (stopped : Stopped) (old new : Texts) → Closes R spell end → ((t : Texts) → Spelled R spell t → t ≡ closing ∷ []) → Stops stopped (Word closing) old new → Stops stopped (Spelled R spell) old new
closing_lacks R spell end stopped old new c f s = same_lacks (Word closing) (Spelled R spell) (λ t e. (end, c.shape, e ∙ sym c.texts)) f stopped old new s

-- the texts end where the brace might come
pub closing_cut : {X : Type 0} (R : X → Type 0) (spell : X → Texts) (end : X) (stopped : Stopped) (old new : Texts) → Closes R spell end → old ≡ [] → new ≡ [] → Stops stopped (Spelled R spell) old new
closing_cut R spell end Bad old new c e f = cut_stops (Spelled R spell) (closing ∷ []) old new (end, c.shape, sym c.texts) c.some e f
closing_cut R spell end OutOfMemory old new c e f = tt
