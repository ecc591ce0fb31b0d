-- Readers of languages: a member stands in front of the texts, or a reader stops at one of them.
use Rattle.std.proofs.Common.{◌≡◌, ℕ, zero, suc, ◌+◌, ◌≤◌, ◌⊎◌, inl, inr, Bool, true, false, List, [], ◌∷◌, ◌++◌, length, refl, sym, ◌∙◌, ap, subst, append_assoc, append-nil, length-append, arith}
use Rattle.std.specs.Prelude.{bytes_eq}
use Rattle.std.specs.List.{AllByRecursion}
use Rattle.std.proofs.lemmas.Slice.Eq.{bytes_eq-Decides}
use Rattle.ax_block_reader.specs.Continuing.{Spelled}
use Rattle.ax_tokens.specs.Stopping.{Texts, StopsAt, first_with, Word, One, Then, joined, Closed}
use Rattle.ax_tokens.proofs.Stops.{PrefixFree, NeverBegins, one_stops, same_stops, end_stops, after_stops, first_stops, second_stops, closed_cut, closed_stops}
use Rattle.ax_tokens.proofs.Words.{word_stops}

pub data Reading (L : Texts → Type 0) (old : Texts) : Type 0 where
  found : (front rest : Texts) → old ≡ front ++ rest → L front → Reading L old
  stops : (new : Texts) → StopsAt L old new → Reading L old

-- ---- one text

abbrev pub IsOrNot : Type 0 → Type 0
IsOrNot P = P ⊎ (P → ⊥)

pub same_or_not : (a b : List ℕ) → IsOrNot (a ≡ b)
same_or_not a b = by (bytes_eq a b) refl
  where
    by : (t : Bool) → bytes_eq a b ≡ t → IsOrNot (a ≡ b)
    by true e = inl ((bytes_eq-Decides a b).0 e)
    by false e = inr (λ same. absurd (let f : true ≡ false = sym ((bytes_eq-Decides a b).1 same) ∙ e in cc))

pub one_reading : (Passes : List ℕ → Type 0) (sample : List ℕ) → Passes sample → ((text : List ℕ) → IsOrNot (Passes text)) → (old : Texts) → Reading (One Passes) old
one_reading Passes sample p test [] = stops [] (one_stops Passes sample p [] tt)
one_reading Passes sample p test (text ∷ rest) = by (test text)
  where
    by : IsOrNot (Passes text) → Reading (One Passes) (text ∷ rest)
    by (inl passes) = found (text ∷ []) rest refl (text, refl, passes)
    by (inr differs) = stops (text ∷ rest) (one_stops Passes sample p (text ∷ rest) differs)

pub word_reading : (word : List ℕ) (old : Texts) → Reading (Word word) old
word_reading word [] = stops [] (word_stops word [] tt)
word_reading word (text ∷ rest) = by (same_or_not text word)
  where
    by : IsOrNot (text ≡ word) → Reading (Word word) (text ∷ rest)
    by (inl e) = found (text ∷ []) rest refl (ap (λ w. w ∷ []) e)
    by (inr differs) = stops (text ∷ rest) (word_stops word (text ∷ rest) differs)

one_same : (a b : List ℕ) (x y : Texts) → (a ∷ []) ++ x ≡ (b ∷ []) ++ y → a ∷ [] ≡ b ∷ []
one_same a b x y e = let same : a ≡ b = cc in ap (λ w. w ∷ []) same

pub one_free : (Passes : List ℕ → Type 0) → PrefixFree (One Passes)
one_free Passes a b x y (s, e, p) (t, f, q) h = e ∙ one_same s t x y (sym (ap (λ m. m ++ x) e) ∙ h ∙ ap (λ m. m ++ y) f) ∙ sym f

pub word_free : (word : List ℕ) → PrefixFree (Word word)
word_free word a b x y e f h = e ∙ sym f

-- ---- languages after one another

pub after_reading : (L M : Texts → Type 0) (word : List ℕ) (rest : Texts) → (M [] → ⊥) → ((t : Texts) → L t → M (word ∷ t)) → ((t : Texts) → M (word ∷ t) → L t) → Reading L rest → Reading M (word ∷ rest)
after_reading L M word rest none f g (found front later e l) = found (word ∷ front) later (ap (λ t. word ∷ t) e) (f front l)
after_reading L M word rest none f g (stops new s) = stops new (after_stops L M word rest new none f g s)

pub then_reading : (L M : Texts → Type 0) (due : Texts) (old : Texts) → M due → PrefixFree L → Reading L old → ((rest : Texts) → length rest ≤ length old → Reading M rest) → Reading (Then L M) old
then_reading L M due old d free (stops new s) later = stops new (first_stops L M old new due d s)
then_reading L M due old d free (found front rest e l) later = by (later rest (omega (arith, ap length e, length-append front rest)))
  where
    by : Reading M rest → Reading (Then L M) old
    by (found more after f m) = found (front ++ more) after (e ∙ ap (λ t. front ++ t) f ∙ sym (append_assoc front more after)) (front, more, refl, l, m)
    by (stops new s) = stops new (subst (λ t. StopsAt (Then L M) t new) (sym e) (second_stops L M front rest new free l s))

-- ---- members up to the text that closes them

joined_more : (made : List Texts) (front : Texts) → joined (made ++ front ∷ []) ≡ joined made ++ front
joined_more [] front = append-nil front
joined_more (m ∷ made) front = ap (λ t. m ++ t) (joined_more made front) ∙ sym (append_assoc m (joined made) front)

all_more : (L : Texts → Type 0) (made : List Texts) (front : Texts) → AllByRecursion L made → L front → AllByRecursion L (made ++ front ∷ [])
all_more L [] front all l = (l, tt)
all_more L (m ∷ made) front all l = (all.0, all_more L made front all.1 l)

module _ (L : Texts → Type 0) (close : List ℕ) (free : PrefixFree L) (never : NeverBegins L close) (n : ℕ) (element : (old : Texts) → length old ≤ n → Reading L old) where
  one_more : (made : List Texts) (text : List ℕ) (rest : Texts) → AllByRecursion L made → IsOrNot (text ≡ close) → Reading L (text ∷ rest)
      → ((front more : Texts) → L front → length more ≤ length rest → Reading (Closed L close) (joined (made ++ front ∷ []) ++ more)) → Reading (Closed L close) (joined made ++ text ∷ rest)
  one_more made text rest all (inl e) one later =
      found (joined made ++ text ∷ []) rest (sym (append_assoc (joined made) (text ∷ []) rest)) (made, all, ap (λ w. joined made ++ w ∷ []) e)
  one_more made text rest all (inr differs) (stops new s) later = stops new (closed_stops L close made (text ∷ rest) new free never all differs s)
  one_more made text rest all (inr differs) (found [] more e l) later = absurd (never [] (close ∷ []) [] l refl)
  one_more made text rest all (inr differs) (found (word ∷ front) more e l) later =
      let count : length (text ∷ rest) ≡ length (word ∷ front) + length more = ap length e ∙ length-append (word ∷ front) more in
      subst (Reading (Closed L close)) (ap (λ t. t ++ more) (joined_more made (word ∷ front)) ∙ append_assoc (joined made) (word ∷ front) more ∙ ap (λ t. joined made ++ t) (sym e)) (later (word ∷ front) more l (omega (arith, count)))

  from : (k : ℕ) (made : List Texts) (rest : Texts) → AllByRecursion L made → length rest ≤ k → k ≤ n → Reading (Closed L close) (joined made ++ rest)
  from k made [] all le few = stops [] (closed_cut L close made free never all)
  from zero made (text ∷ rest) all le few = absurd (omega arith)
  from (suc k) made (text ∷ rest) all le few =
      one_more made text rest all (same_or_not text close) (element (text ∷ rest) (omega arith)) (λ front more l less. from k (made ++ front ∷ []) more (all_more L made front all l) (omega arith) (omega arith))

  pub closed_reading : (old : Texts) → length old ≤ n → Reading (Closed L close) old
  closed_reading old le = from n [] old tt le (omega arith)

-- ---- the same members

pub same_reading : (L M : Texts → Type 0) (old : Texts) → ((t : Texts) → L t → M t) → ((t : Texts) → M t → L t) → Reading L old → Reading M old
same_reading L M old f g (found front rest e l) = found front rest e (f front l)
same_reading L M old f g (stops new s) = stops new (same_stops L M old new f g s)

-- a word, and after it a member of L
pub prefixed_reading : (L M : Texts → Type 0) (word : List ℕ) (due old : Texts) → L due → ((t : Texts) → L t → M (word ∷ t)) → ((t : Texts) → M t → (rest : Texts) × (t ≡ word ∷ rest) × L rest) → ((rest : Texts) → length rest ≤ length old → Reading L rest) → Reading M old
prefixed_reading L M word due old d put taken later =
    same_reading (Then (Word word) L) M old
    (λ t m. subst M (sym (m.2 ∙ ap (λ x. x ++ m.1) m.3)) (put m.1 m.4))
    (λ t m. let k = taken t m in (word ∷ [], k.0, k.1, refl, k.2))
    (then_reading (Word word) L due old d (word_free word) (word_reading word old) later)

-- ---- a choice by the first word: those of A begin with it, and none of B does

first_text : (a b : List ℕ) (x y : Texts) → a ∷ x ≡ b ∷ y → a ≡ b
first_text a b x y e = cc

begins_so : (word : List ℕ) (front new rest more : Texts) → word ∷ rest ≡ front ++ new → (x : Texts) × (front ++ first_with new more ≡ word ∷ x)
begins_so word [] [] rest more e = absurd cc
begins_so word [] (t ∷ new) rest more e = (more, ap (λ w. w ∷ more) (sym (first_text word t rest new e)))
begins_so word (t ∷ front) new rest more e = (front ++ first_with new more, ap (λ w. w ∷ (front ++ first_with new more)) (sym (first_text word t rest (front ++ new) e)))

pub record IsChoice (A B M : Texts → Type 0) (word : List ℕ) : Type 0 where
  pub first : (t : Texts) → A t → M t
  pub second : (t : Texts) → B t → M t
  pub either : (t : Texts) → M t → A t ⊎ B t
  pub begins : (t : Texts) → A t → (rest : Texts) × (t ≡ word ∷ rest)
  pub never : NeverBegins B word

module _ (A B M : Texts → Type 0) (word : List ℕ) (c : IsChoice A B M word) where
  not_empty : M [] → ⊥
  not_empty m = by (c.either [] m)
    where
      by : A [] ⊎ B [] → ⊥
      by (inl a) = let b = c.begins [] a in let e = b.1 in absurd cc
      by (inr b) = c.never [] (word ∷ []) [] b refl

  first_choice : (rest new : Texts) → StopsAt A (word ∷ rest) new → StopsAt M (word ∷ rest) new
  first_choice rest new s = record { front = s.front; split = s.split; rest = s.rest; begins = c.first _ s.begins; refuses = λ member following more m h. by member following more (c.either member m) h }
    where
      by : (member following more : Texts) → A member ⊎ B member → member ++ following ≡ s.front ++ first_with new more → ⊥
      by member following more (inl a) h = s.refuses member following more a h
      by member following more (inr b) h = let x = begins_so word s.front new rest more s.split in c.never member following x.0 b (h ∙ x.1)

  second_choice : (text : List ℕ) (rest new : Texts) → (text ≡ word → ⊥) → StopsAt B (text ∷ rest) new → StopsAt M (text ∷ rest) new
  second_choice text rest new differs s = record { front = s.front; split = s.split; rest = s.rest; begins = c.second _ s.begins; refuses = λ member following more m h. by member following more (c.either member m) h }
    where
      by : (member following more : Texts) → A member ⊎ B member → member ++ following ≡ s.front ++ first_with new more → ⊥
      by member following more (inl a) h =
          let x = begins_so text s.front new rest more s.split in
          let y = c.begins member a in
          differs (first_text text word x.0 (y.0 ++ following) (sym x.1 ∙ sym h ∙ ap (λ t. t ++ following) y.1))
      by member following more (inr b) h = s.refuses member following more b h

  pub choice_reading : (due old : Texts) → M due → ((rest : Texts) → old ≡ word ∷ rest → Reading A old) → Reading B old → Reading M old
  choice_reading due [] d one other = stops [] (end_stops M due d not_empty)
  choice_reading due (text ∷ rest) d one other = by_first (same_or_not text word)
    where
      by_one : Reading A (word ∷ rest) → Reading M (word ∷ rest)
      by_one (found front more e a) = found front more e (c.first front a)
      by_one (stops new s) = stops new (first_choice rest new s)

      by_other : (text ≡ word → ⊥) → Reading B (text ∷ rest) → Reading M (text ∷ rest)
      by_other differs (found front more e b) = found front more e (c.second front b)
      by_other differs (stops new s) = stops new (second_choice text rest new differs s)

      by_first : IsOrNot (text ≡ word) → Reading M (text ∷ rest)
      by_first (inl e) = subst (λ w. Reading M (w ∷ rest)) (sym e) (by_one (subst (λ w. Reading A (w ∷ rest)) e (one rest (ap (λ w. w ∷ rest) e))))
      by_first (inr differs) = by_other differs other

-- ---- where a text decides which texts follow

-- each member begins with a text that passes
pub first_refused : (L : Texts → Type 0) (Passes : List ℕ → Type 0) (due : Texts) → L due → ((t : Texts) → L t → (text : List ℕ) × (rest : Texts) × (t ≡ text ∷ rest) × Passes text) → (text : List ℕ) (rest : Texts) → (Passes text → ⊥) → StopsAt L (text ∷ rest) (text ∷ rest)
first_refused L Passes due d begins text rest differs = record {
  front = [];
  split = refl;
  rest = due;
  begins = d;
  refuses = λ member following more m h.
      let b = begins member m in
      differs (subst Passes (first_text b.0 text (b.1 ++ following) more (sym (ap (λ t. t ++ following) b.2) ∙ h)) b.3);
}

-- ---- values whose texts are put in front of others

pub onto_free : {X : Type 0} (R : X → Type 0) (onto : X → Texts → Texts) → ((v : X) (x y : Texts) → onto v x ++ y ≡ onto v (x ++ y)) → ((v u : X) (x y : Texts) → R v → R u → onto v x ≡ onto u y → (v ≡ u) × (x ≡ y)) → PrefixFree (Spelled R (λ v. onto v []))
onto_free R onto more same a b x y (v, p, e) (u, q, f) h =
    e ∙ ap (λ w. onto w []) (same v u x y p q (sym (more v [] x) ∙ sym (ap (λ t. t ++ x) e) ∙ h ∙ ap (λ t. t ++ y) f ∙ more u [] y)).0 ∙ sym f

pub onto_never : {X : Type 0} (R : X → Type 0) (onto : X → Texts → Texts) (word : List ℕ) → ((v : X) (x y : Texts) → onto v x ++ y ≡ onto v (x ++ y)) → ((v : X) (x y : Texts) → R v → onto v x ≡ word ∷ y → ⊥) → NeverBegins (Spelled R (λ v. onto v [])) word
onto_never R onto word more never member following x (v, p, e) h = never v following x p (sym (more v [] following) ∙ sym (ap (λ t. t ++ following) e) ∙ h)
