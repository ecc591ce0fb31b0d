-- Where readers of larger languages stop.
use Rattle.std.proofs.Common.{List, [], ap, append-nil, append_assoc, inl, inr, refl, subst, sym, ℕ, ◌++◌, ◌∙◌, ◌∷◌, ◌≡◌, ◌⊎◌}
use Rattle.std.specs.List.{AllByRecursion}
use Rattle.std.proofs.lemmas.List.{append_cancel_left}
use Rattle.ax_tokens.specs.declared.stopped.Stopped.{Stopped}
use Rattle.ax_tokens.specs.declared.stopped.Stopped.TheVariants.{Bad, OutOfMemory}
use Rattle.ax_tokens.specs.Stopping.{Closed, IsNotFirst, One, Stops, StopsAt, Texts, Then, first_with, joined}

-- a member isn't the beginning of another
abbrev pub PrefixFree : (Texts → Type 0) → Type 0
PrefixFree L = (a b x y : Texts) → L a → L b → a ++ x ≡ b ++ y → a ≡ b

-- ---- one text

first_same : (a b : List ℕ) (x y : Texts) → a ∷ x ≡ b ∷ y → a ≡ b
first_same a b x y e = cc

rest_same : (a b : List ℕ) (x y : Texts) → a ∷ x ≡ b ∷ y → x ≡ y
rest_same a b x y e = cc

no_cons : (a : List ℕ) (x : Texts) → a ∷ x ≡ [] → ⊥
no_cons a x e = cc

one_refuses : (Passes : List ℕ → Type 0) (texts : Texts) → IsNotFirst Passes texts → (member following more : Texts) → One Passes member → member ++ following ≡ first_with texts more → ⊥
one_refuses Passes [] n member following more (text, e, p) h = no_cons text following (sym (ap (λ m. m ++ following) e) ∙ h)
one_refuses Passes (first ∷ rest) n member following more (text, e, p) h = n (subst Passes (first_same text first following more (sym (ap (λ m. m ++ following) e) ∙ h)) p)

-- the next text doesn't pass, or there is none
pub one_stops : (Passes : List ℕ → Type 0) (sample : List ℕ) → Passes sample → (texts : Texts) → IsNotFirst Passes texts → StopsAt (One Passes) texts texts
one_stops Passes sample p texts n = record { front = []; split = refl; rest = sample ∷ []; begins = (sample, refl, p); refuses = one_refuses Passes texts n }

-- ---- the same members

pub same_stops : (L M : Texts → Type 0) (old new : Texts) → ((t : Texts) → L t → M t) → ((t : Texts) → M t → L t) → StopsAt L old new → StopsAt M old new
same_stops L M old new f g s = record { front = s.front; split = s.split; rest = s.rest; begins = f _ s.begins; refuses = λ member following more m. s.refuses member following more (g member m) }

-- ---- a first text, and what stands after it

after_refuses : (L M : Texts → Type 0) (word : List ℕ) (front new : Texts) → (M [] → ⊥) → ((t : Texts) → M (word ∷ t) → L t) → ((member following more : Texts) → L member → member ++ following ≡ front ++ first_with new more → ⊥)
    → (member following more : Texts) → M member → member ++ following ≡ (word ∷ front) ++ first_with new more → ⊥
after_refuses L M word front new none g r [] following more m h = none m
after_refuses L M word front new none g r (first ∷ member) following more m h =
    r member following more (g member (subst (λ w. M (w ∷ member)) (first_same first word _ _ h) m)) (rest_same first word _ _ h)

pub after_stops : (L M : Texts → Type 0) (word : List ℕ) (old new : Texts) → (M [] → ⊥) → ((t : Texts) → L t → M (word ∷ t)) → ((t : Texts) → M (word ∷ t) → L t) → StopsAt L old new → StopsAt M (word ∷ old) new
after_stops L M word old new none f g s = record {
  front = word ∷ s.front;
  split = ap (λ t. word ∷ t) s.split;
  rest = s.rest;
  begins = f _ s.begins;
  refuses = after_refuses L M word s.front new none g s.refuses;
}

-- ---- one language after another

pub first_stops : (L M : Texts → Type 0) (old new due : Texts) → M due → StopsAt L old new → StopsAt (Then L M) old new
first_stops L M old new due d s = record {
  front = s.front;
  split = s.split;
  rest = s.rest ++ due;
  begins = (s.front ++ s.rest, due, sym (append_assoc s.front s.rest due), s.begins, d);
  refuses = λ member following more m h. s.refuses m.0 (m.1 ++ following) more m.3 (sym (append_assoc m.0 m.1 following) ∙ sym (ap (λ t. t ++ following) m.2) ∙ h);
}

pub second_stops : (L M : Texts → Type 0) (a old new : Texts) → PrefixFree L → L a → StopsAt M old new → StopsAt (Then L M) (a ++ old) new
second_stops L M a old new free l s = record {
  front = a ++ s.front;
  split = ap (λ t. a ++ t) s.split ∙ sym (append_assoc a s.front new);
  rest = s.rest;
  begins = (a, s.front ++ s.rest, append_assoc a s.front s.rest, l, s.begins);
  refuses = λ member following more m h.
      let e : m.0 ++ (m.1 ++ following) ≡ a ++ (s.front ++ first_with new more) = sym (append_assoc m.0 m.1 following) ∙ sym (ap (λ t. t ++ following) m.2) ∙ h ∙ append_assoc a s.front (first_with new more) in
      let same : m.0 ≡ a = free m.0 a _ _ m.3 l e in
      s.refuses m.1 following more m.4 (append_cancel_left a _ _ (sym (ap (λ x. x ++ (m.1 ++ following)) same) ∙ e));
}

-- ---- members up to a text that closes them

-- no member begins with the text that closes
abbrev pub NeverBegins : (Texts → Type 0) → List ℕ → Type 0
NeverBegins L close = (member following x : Texts) → L member → member ++ following ≡ close ∷ x → ⊥

ends_refuses : (L : Texts → Type 0) (close : List ℕ) → NeverBegins L close → (members : List Texts) → AllByRecursion L members → (following : Texts) → (joined members ++ close ∷ []) ++ following ≡ [] → ⊥
ends_refuses L close n [] all following h = no_cons close following h
ends_refuses L close n ([] ∷ members) all following h = absurd (n [] (close ∷ []) [] all.0 refl)
ends_refuses L close n ((x ∷ m) ∷ members) all following h = no_cons x _ h

-- nothing is left
pub closed_ends : (L : Texts → Type 0) (close : List ℕ) → NeverBegins L close → StopsAt (Closed L close) [] []
closed_ends L close n = record {
  front = [];
  split = refl;
  rest = close ∷ [];
  begins = ([], tt, refl);
  refuses = λ member following more m h. ends_refuses L close n m.0 m.1 following (sym (ap (λ t. t ++ following) m.2) ∙ h);
}

not_close : (L : Texts → Type 0) (close : List ℕ) → NeverBegins L close → (front rest old new following more : Texts) → L (front ++ rest) → old ≡ front ++ new → IsNotFirst (λ w. w ≡ close) old → close ∷ following ≡ front ++ first_with new more → ⊥
not_close L close n [] rest old [] following more l split first h = no_cons close following h
not_close L close n [] rest old (text ∷ new) following more l split first h =
    let at : IsNotFirst (λ w. w ≡ close) (text ∷ new) = subst (IsNotFirst (λ w. w ≡ close)) split first in
    at (sym (first_same close text following more h))
not_close L close n (x ∷ front) rest old new following more l split first h =
    n (x ∷ (front ++ rest)) [] (front ++ rest) l (append-nil _ ∙ ap (λ w. w ∷ (front ++ rest)) (sym (first_same close x following _ h)))

inside_refuses : (L : Texts → Type 0) (close : List ℕ) (old new : Texts) → NeverBegins L close → (s : StopsAt L old new) → IsNotFirst (λ w. w ≡ close) old
    → (members : List Texts) → AllByRecursion L members → (following more : Texts) → (joined members ++ close ∷ []) ++ following ≡ s.front ++ first_with new more → ⊥
inside_refuses L close old new n s first [] all following more h = not_close L close n s.front s.rest old new following more s.begins s.split first h
inside_refuses L close old new n s first (m ∷ members) all following more h =
    s.refuses m ((joined members ++ close ∷ []) ++ following) more all.0
    (sym (ap (λ t. t ++ following) (append_assoc m (joined members) (close ∷ [])) ∙ append_assoc m (joined members ++ close ∷ []) following) ∙ h)

-- a reader stopped in the first of the members
closed_inside : (L : Texts → Type 0) (close : List ℕ) (old new : Texts) → NeverBegins L close → IsNotFirst (λ w. w ≡ close) old → StopsAt L old new → StopsAt (Closed L close) old new
closed_inside L close old new n first s = record {
  front = s.front;
  split = s.split;
  rest = s.rest ++ close ∷ [];
  begins = ((s.front ++ s.rest) ∷ [], (s.begins, tt), sym (append_assoc s.front s.rest (close ∷ [])) ∙ ap (λ t. t ++ close ∷ []) (sym (append-nil (s.front ++ s.rest))));
  refuses = λ member following more m h. inside_refuses L close old new n s first m.0 m.1 following more (sym (ap (λ t. t ++ following) m.2) ∙ h);
}

after_member : (L : Texts → Type 0) (close : List ℕ) (a front new : Texts) → PrefixFree L → NeverBegins L close → L a → ((member following more : Texts) → Closed L close member → member ++ following ≡ front ++ first_with new more → ⊥)
    → (members : List Texts) → AllByRecursion L members → (following more : Texts) → (joined members ++ close ∷ []) ++ following ≡ a ++ (front ++ first_with new more) → ⊥
after_member L close a front new free n l r [] all following more h = n a (front ++ first_with new more) following l (sym h)
after_member L close a front new free n l r (m ∷ members) all following more h =
    let e : m ++ ((joined members ++ close ∷ []) ++ following) ≡ a ++ (front ++ first_with new more) = sym (ap (λ t. t ++ following) (append_assoc m (joined members) (close ∷ [])) ∙ append_assoc m (joined members ++ close ∷ []) following) ∙ h in
    let same : m ≡ a = free m a _ _ all.0 l e in
    r (joined members ++ close ∷ []) following more (members, all.1, refl) (append_cancel_left a _ _ (sym (ap (λ x. x ++ ((joined members ++ close ∷ []) ++ following)) same) ∙ e))

closed_step : (L : Texts → Type 0) (close : List ℕ) (a old new : Texts) → PrefixFree L → NeverBegins L close → L a → StopsAt (Closed L close) old new → StopsAt (Closed L close) (a ++ old) new
closed_step L close a old new free n l s = record {
  front = a ++ s.front;
  split = ap (λ t. a ++ t) s.split ∙ sym (append_assoc a s.front new);
  rest = s.rest;
  begins = (a ∷ s.begins.0, (l, s.begins.1), append_assoc a s.front s.rest ∙ ap (λ t. a ++ t) s.begins.2 ∙ sym (append_assoc a (joined s.begins.0) (close ∷ [])));
  refuses = λ member following more m h. after_member L close a s.front new free n l s.refuses m.0 m.1 following more (sym (ap (λ t. t ++ following) m.2) ∙ h ∙ append_assoc a s.front (first_with new more));
}

closed_after : (L : Texts → Type 0) (close : List ℕ) (made : List Texts) (old new : Texts) → PrefixFree L → NeverBegins L close → AllByRecursion L made → StopsAt (Closed L close) old new → StopsAt (Closed L close) (joined made ++ old) new
closed_after L close [] old new free n all s = s
closed_after L close (a ∷ made) old new free n all s =
    subst (λ t. StopsAt (Closed L close) t new) (sym (append_assoc a (joined made) old)) (closed_step L close a (joined made ++ old) new free n all.0 (closed_after L close made old new free n all.1 s))

-- a reader stopped after some members
pub closed_stops : (L : Texts → Type 0) (close : List ℕ) (made : List Texts) (old new : Texts) → PrefixFree L → NeverBegins L close → AllByRecursion L made → IsNotFirst (λ w. w ≡ close) old → StopsAt L old new
    → StopsAt (Closed L close) (joined made ++ old) new
closed_stops L close made old new free n all first s = closed_after L close made old new free n all (closed_inside L close old new n first s)

pub closed_cut : (L : Texts → Type 0) (close : List ℕ) (made : List Texts) → PrefixFree L → NeverBegins L close → AllByRecursion L made → StopsAt (Closed L close) (joined made ++ []) []
closed_cut L close made free n all = closed_after L close made [] [] free n all (closed_ends L close n)

-- ---- where some members begin with a word that doesn't come

abbrev pub BeginsWith : List ℕ → Texts → Type 0
BeginsWith word texts = (x : Texts) × (texts ≡ word ∷ x)

append_empty : (a b : Texts) → a ++ b ≡ [] → a ≡ []
append_empty [] b h = refl
append_empty (x ∷ a) b h = absurd (no_cons x _ h)

-- nothing is left
pub end_stops : (L : Texts → Type 0) (due : Texts) → L due → (L [] → ⊥) → StopsAt L [] []
end_stops L due d n = record {
  front = [];
  split = refl;
  rest = due;
  begins = d;
  refuses = λ member following more m h. n (subst L (append_empty member following h) m);
}

-- ---- by either cause

pub same_lacks : (L M : Texts → Type 0) → ((t : Texts) → L t → M t) → ((t : Texts) → M t → L t) → (stopped : Stopped) (old new : Texts) → Stops stopped L old new → Stops stopped M old new
same_lacks L M f g Bad old new s = same_stops L M old new f g s
same_lacks L M f g OutOfMemory old new s = tt

pub first_lacks : (L M : Texts → Type 0) (due : Texts) → M due → (stopped : Stopped) (old new : Texts) → Stops stopped L old new → Stops stopped (Then L M) old new
first_lacks L M due d Bad old new s = first_stops L M old new due d s
first_lacks L M due d OutOfMemory old new s = tt

pub second_lacks : (L M : Texts → Type 0) → PrefixFree L → (stopped : Stopped) (old a mid new : Texts) → L a → old ≡ a ++ mid → Stops stopped M mid new → Stops stopped (Then L M) old new
second_lacks L M free Bad old a mid new l e s = subst (λ x. StopsAt (Then L M) x new) (sym e) (second_stops L M a mid new free l s)
second_lacks L M free OutOfMemory old a mid new l e s = tt

pub after_lacks : (L M : Texts → Type 0) (word : List ℕ) → (M [] → ⊥) → ((t : Texts) → L t → M (word ∷ t)) → ((t : Texts) → M (word ∷ t) → L t) → (stopped : Stopped) (old mid new : Texts) → old ≡ word ∷ mid → Stops stopped L mid new → Stops stopped M old new
after_lacks L M word n f g Bad old mid new e s = subst (λ t. StopsAt M t new) (sym e) (after_stops L M word mid new n f g s)
after_lacks L M word n f g OutOfMemory old mid new e s = tt
