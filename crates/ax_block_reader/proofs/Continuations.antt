-- How readers of larger languages go on.
use Rattle.std.proofs.Common.{◌≡◌, ℕ, List, [], ◌∷◌, ◌++◌, refl, sym, ◌∙◌, ap, subst, append_assoc, append-nil, ◌⊎◌, inl, inr}
use Rattle.std.proofs.lemmas.List.{append_cancel_left}
use Rattle.ax_tokens.specs.Stopping.{Texts, first_with, StopsAt, Stops, IsNotFirst, Word, Then}
use Rattle.ax_tokens.specs.declared.stopped.Stopped.{Stopped}
use Rattle.ax_tokens.specs.declared.stopped.Stopped.TheVariants.{Bad, OutOfMemory}
use Rattle.ax_tokens.proofs.Stops.{BeginsWith, same_lacks, first_lacks, end_stops}
use Rattle.ax_block_reader.specs.Continuing.{BeginAlike, Done, Continues}

pub heads : (a b : List ℕ) (x y : Texts) → a ∷ x ≡ b ∷ y → a ≡ b
heads a b x y e = cc

pub tails : (a b : List ℕ) (x y : Texts) → a ∷ x ≡ b ∷ y → x ≡ y
tails a b x y e = cc

pub no_text : (a : List ℕ) (x : Texts) → [] ≡ a ∷ x → ⊥
no_text a x e = cc

-- ---- texts that begin alike

alike_following : (front now y : Texts) → BeginAlike now y → BeginAlike (front ++ now) (front ++ y)
alike_following [] now y h = h
alike_following (text ∷ front) now y h = (front ++ y, refl)

alike_stop : (front new more : Texts) → BeginAlike (front ++ new) (front ++ first_with new more)
alike_stop [] [] more = refl
alike_stop [] (text ∷ after) more = (more, refl)
alike_stop (text ∷ front) new more = (front ++ first_with new more, refl)

-- ---- one step after another

pub none_read : (L : Texts → Type 0) (old now : Texts) → now ≡ old → Continues L L old now
none_read L old now e = record {
  front = [];
  split = sym e;
  member = λ rest m. m;
  following = λ member x y al l h. (member, refl, l);
}

pub none_front : (L : Texts → Type 0) (old now : Texts) (e : now ≡ old) → (none_read L old now e).front ≡ []
unfolding none_read
none_front L old now e = refl

both_after : (L M N : Texts → Type 0) (a b old mid now : Texts) → mid ≡ b ++ now
    → ((member x y : Texts) → BeginAlike mid y → L member → member ++ x ≡ a ++ y → (rest : Texts) × (member ≡ a ++ rest) × M rest)
    → ((member x y : Texts) → BeginAlike now y → M member → member ++ x ≡ b ++ y → (rest : Texts) × (member ≡ b ++ rest) × N rest)
    → (member x y : Texts) → BeginAlike now y → L member → member ++ x ≡ (a ++ b) ++ y → (rest : Texts) × (member ≡ (a ++ b) ++ rest) × N rest
both_after L M N a b old mid now split f g member x y al l h =
    let one = f member x (b ++ y) (subst (λ t. BeginAlike t (b ++ y)) (sym split) (alike_following b now y al)) l (h ∙ append_assoc a b y) in
    let more : one.0 ++ x ≡ b ++ y = append_cancel_left a (one.0 ++ x) (b ++ y) (sym (append_assoc a one.0 x) ∙ sym (ap (λ t. t ++ x) one.1) ∙ h ∙ append_assoc a b y) in
    let two = g one.0 x y al one.2 more in
    (two.0, one.1 ∙ ap (λ t. a ++ t) two.1 ∙ sym (append_assoc a b two.0), two.2)

pub both_read : (L M N : Texts → Type 0) (old mid now : Texts) → Continues L M old mid → Continues M N mid now → Continues L N old now
both_read L M N old mid now c d = record {
  front = c.front ++ d.front;
  split = c.split ∙ ap (λ t. c.front ++ t) d.split ∙ sym (append_assoc c.front d.front now);
  member = λ rest n. subst L (sym (append_assoc c.front d.front rest)) (c.member (d.front ++ rest) (d.member rest n));
  following = both_after L M N c.front d.front old mid now d.split c.following d.following;
}

pub both_front : (L M N : Texts → Type 0) (old mid now : Texts) (c : Continues L M old mid) (d : Continues M N mid now) → (both_read L M N old mid now c d).front ≡ c.front ++ d.front
unfolding both_read
both_front L M N old mid now c d = refl

-- where a reader of what is left stops
pub stops_there : (L M : Texts → Type 0) (old mid new : Texts) → Continues L M old mid → StopsAt M mid new → StopsAt L old new
stops_there L M old mid new c s = record {
  front = c.front ++ s.front;
  split = c.split ∙ ap (λ t. c.front ++ t) s.split ∙ sym (append_assoc c.front s.front new);
  rest = s.rest;
  begins = subst L (sym (append_assoc c.front s.front s.rest)) (c.member (s.front ++ s.rest) s.begins);
  refuses = λ member following more l h.
      let e : member ++ following ≡ c.front ++ (s.front ++ first_with new more) = h ∙ append_assoc c.front s.front (first_with new more) in
      let one = c.following member following (s.front ++ first_with new more) (subst (λ t. BeginAlike t (s.front ++ first_with new more)) (sym s.split) (alike_stop s.front new more)) l e in
      s.refuses one.0 following more one.2 (append_cancel_left c.front (one.0 ++ following) (s.front ++ first_with new more) (sym (append_assoc c.front one.0 following) ∙ sym (ap (λ t. t ++ following) one.1) ∙ e));
}

pub lacks_there : (L M : Texts → Type 0) (stopped : Stopped) (old mid new : Texts) → Continues L M old mid → Stops stopped M mid new → Stops stopped L old new
lacks_there L M Bad old mid new c s = stops_there L M old mid new c s
lacks_there L M OutOfMemory old mid new c s = tt

-- the same members under another name
pub same_read : (L M : Texts → Type 0) (old now : Texts) → ((t : Texts) → M t → L t) → ((t : Texts) → L t → M t) → now ≡ old → Continues L M old now
same_read L M old now f g e = record {
  front = [];
  split = sym e;
  member = f;
  following = λ member x y al l h. (member, refl, g member l);
}

pub same_front : (L M : Texts → Type 0) (old now : Texts) (f : (t : Texts) → M t → L t) (g : (t : Texts) → L t → M t) (e : now ≡ old) → (same_read L M old now f g e).front ≡ []
unfolding same_read
same_front L M old now f g e = refl

-- ---- a word, and what stands after it

word_after : (L M : Texts → Type 0) (word : List ℕ) → (L [] → ⊥) → ((t : Texts) → L (word ∷ t) → M t) → (member x y : Texts) → L member → member ++ x ≡ word ∷ y → (rest : Texts) × (member ≡ word ∷ rest) × M rest
word_after L M word n g [] x y l h = absurd (n l)
word_after L M word n g (first ∷ member) x y l h =
    let same : first ≡ word = heads first word (member ++ x) y h in
    (member, ap (λ w. w ∷ member) same, g member (subst (λ w. L (w ∷ member)) same l))

pub word_read : (L M : Texts → Type 0) (word : List ℕ) (old now : Texts) → ((t : Texts) → M t → L (word ∷ t)) → (L [] → ⊥) → ((t : Texts) → L (word ∷ t) → M t) → old ≡ word ∷ now → Continues L M old now
word_read L M word old now f n g e = record {
  front = word ∷ [];
  split = e;
  member = f;
  following = λ member x y al l h. word_after L M word n g member x y l h;
}

pub word_front : (L M : Texts → Type 0) (word : List ℕ) (old now : Texts) (f : (t : Texts) → M t → L (word ∷ t)) (n : L [] → ⊥) (g : (t : Texts) → L (word ∷ t) → M t) (e : old ≡ word ∷ now) → (word_read L M word old now f n g e).front ≡ word ∷ []
unfolding word_read
word_front L M word old now f n g e = refl

-- each member of L is the word, and then one of M
pub record Prefixed (word : List ℕ) (M L : Texts → Type 0) : Type 0 where
  pub put : (t : Texts) → M t → L (word ∷ t)
  pub taken : (t : Texts) → L t → (rest : Texts) × (t ≡ word ∷ rest) × M rest

prefix_parts : (word : List ℕ) (M L : Texts → Type 0) → Prefixed word M L → (t : Texts) → Then (Word word) M t → L t
prefix_parts word M L p t (a, b, e, w, m) = subst L (sym (e ∙ ap (λ x. x ++ b) w)) (p.put b m)

prefix_first : (word : List ℕ) (M L : Texts → Type 0) → Prefixed word M L → (t : Texts) → L t → Then (Word word) M t
prefix_first word M L p t l = let x = p.taken t l in (word ∷ [], x.0, x.1, refl, x.2)

pub prefix_lacks : (word : List ℕ) (M L : Texts → Type 0) (due : Texts) (stopped : Stopped) (old new : Texts) → Prefixed word M L → M due → Stops stopped (Word word) old new → Stops stopped L old new
prefix_lacks word M L due stopped old new p d s = same_lacks (Then (Word word) M) L (prefix_parts word M L p) (prefix_first word M L p) stopped old new (first_lacks (Word word) M due d stopped old new s)

pub prefix_read : (word : List ℕ) (M L : Texts → Type 0) (old now : Texts) → Prefixed word M L → old ≡ word ∷ now → Continues L M old now
prefix_read word M L old now p e =
    word_read L M word old now p.put (λ l. no_text word (p.taken [] l).0 (p.taken [] l).1) (λ t l. let x = p.taken (word ∷ t) l in subst M (sym (tails word word t x.0 x.1)) x.2) e

-- ---- one language after another

then_after : (L M : Texts → Type 0) (front now : Texts) → ((member x y : Texts) → BeginAlike now y → L member → member ++ x ≡ front ++ y → (rest : Texts) × (member ≡ front ++ rest) × Done rest)
    → (member x y : Texts) → BeginAlike now y → Then L M member → member ++ x ≡ front ++ y → (rest : Texts) × (member ≡ front ++ rest) × M rest
then_after L M front now f member x y al (a, b, e, l, m) h =
    let one = f a (b ++ x) y al l (sym (append_assoc a b x) ∙ sym (ap (λ t. t ++ x) e) ∙ h) in
    (b, e ∙ ap (λ t. t ++ b) (one.1 ∙ ap (λ t. front ++ t) one.2 ∙ append-nil front), m)

pub then_read : (L M : Texts → Type 0) (old now : Texts) → Continues L Done old now → Continues (Then L M) M old now
then_read L M old now c = record {
  front = c.front;
  split = c.split;
  member = λ rest m. (c.front ++ [], rest, ap (λ t. t ++ rest) (sym (append-nil c.front)), c.member [] refl, m);
  following = then_after L M c.front now c.following;
}

pub then_front : (L M : Texts → Type 0) (old now : Texts) (c : Continues L Done old now) → (then_read L M old now c).front ≡ c.front
unfolding then_read
then_front L M old now c = refl

-- ---- where some members begin with a word that doesn't come

skip_case : (L : Texts → Type 0) (word : List ℕ) (old member x y : Texts) → IsNotFirst (λ w. w ≡ word) old → BeginAlike old y → member ++ x ≡ y → BeginsWith word member ⊎ L member → L member
skip_case L word [] member x y n al h (inl b) = absurd (no_text word (b.0 ++ x) (sym al ∙ sym h ∙ ap (λ t. t ++ x) b.1))
skip_case L word (text ∷ old) member x y n al h (inl b) = absurd (n (heads text word al.0 (b.0 ++ x) (sym al.1 ∙ sym h ∙ ap (λ t. t ++ x) b.1)))
skip_case L word old member x y n al h (inr l) = l

pub skip_read : (L M : Texts → Type 0) (word : List ℕ) (old now : Texts) → ((t : Texts) → L t → M t) → ((t : Texts) → M t → BeginsWith word t ⊎ L t) → IsNotFirst (λ w. w ≡ word) old → now ≡ old → Continues M L old now
skip_read L M word old now f g n same = record {
  front = [];
  split = sym same;
  member = f;
  following = λ member x y al m h. (member, refl, skip_case L word old member x y n (subst (λ t. BeginAlike t y) same al) h (g member m));
}

pub skip_front : (L M : Texts → Type 0) (word : List ℕ) (old now : Texts) (f : (t : Texts) → L t → M t) (g : (t : Texts) → M t → BeginsWith word t ⊎ L t) (n : IsNotFirst (λ w. w ≡ word) old) (e : now ≡ old) → (skip_read L M word old now f g n e).front ≡ []
unfolding skip_read
skip_front L M word old now f g n e = refl

-- ---- where a word comes

first_after : (L M : Texts → Type 0) (word : List ℕ) (rest : Texts) → (L [] → ⊥) → ((t : Texts) → L (word ∷ t) → M (word ∷ t)) → (member x y : Texts) → BeginAlike (word ∷ rest) y → L member → member ++ x ≡ y → M member
first_after L M word rest n g [] x y al l h = absurd (n l)
first_after L M word rest n g (first ∷ member) x y al l h =
    let same : first ≡ word = heads first word (member ++ x) al.0 (h ∙ al.1) in
    subst (λ w. M (w ∷ member)) (sym same) (g member (subst (λ w. L (w ∷ member)) same l))

-- the members that begin with the word are those of M
pub first_read : (L M : Texts → Type 0) (word : List ℕ) (rest old now : Texts) → ((t : Texts) → M t → L t) → (L [] → ⊥) → ((t : Texts) → L (word ∷ t) → M (word ∷ t)) → old ≡ word ∷ rest → now ≡ old → Continues L M old now
first_read L M word rest old now f n g e same = record {
  front = [];
  split = sym same;
  member = f;
  following = λ member x y al l h. (member, refl, first_after L M word rest n g member x y (subst (λ t. BeginAlike t y) (same ∙ e) al) l h);
}

pub first_front : (L M : Texts → Type 0) (word : List ℕ) (rest old now : Texts) (f : (t : Texts) → M t → L t) (n : L [] → ⊥) (g : (t : Texts) → L (word ∷ t) → M (word ∷ t)) (e : old ≡ word ∷ rest) (same : now ≡ old) → (first_read L M word rest old now f n g e same).front ≡ []
unfolding first_read
first_front L M word rest old now f n g e same = refl

-- ---- the first text of a member

begin_refuses : (L : Texts → Type 0) (Passes : List ℕ → Type 0) → ((t : Texts) → L t → (text : List ℕ) × (rest : Texts) × (t ≡ text ∷ rest) × Passes text) → (texts : Texts) → IsNotFirst Passes texts
    → (member following more : Texts) → L member → member ++ following ≡ first_with texts more → ⊥
begin_refuses L Passes g [] n member following more l h = let x = g member l in no_text x.0 (x.1 ++ following) (sym h ∙ ap (λ t. t ++ following) x.2)
begin_refuses L Passes g (text ∷ after) n member following more l h = let x = g member l in n (subst Passes (sym (heads text x.0 more (x.1 ++ following) (sym h ∙ ap (λ t. t ++ following) x.2))) x.3)

-- the next text begins no member, or there is none
pub begin_stops : (L : Texts → Type 0) (Passes : List ℕ → Type 0) (due texts : Texts) → L due → ((t : Texts) → L t → (text : List ℕ) × (rest : Texts) × (t ≡ text ∷ rest) × Passes text) → IsNotFirst Passes texts → StopsAt L texts texts
begin_stops L Passes due texts d g n = record { front = []; split = refl; rest = due; begins = d; refuses = begin_refuses L Passes g texts n }

-- the texts end
pub cut_stops : (L : Texts → Type 0) (due old new : Texts) → L due → (L [] → ⊥) → old ≡ [] → new ≡ [] → StopsAt L old new
cut_stops L due old new d n e f = subst (λ t. StopsAt L t new) (sym e) (subst (λ t. StopsAt L [] t) (sym f) (end_stops L due d n))
