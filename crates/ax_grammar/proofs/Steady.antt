-- What a reader answers hangs on no text after the one at which it stops, or after what it reads; and where it stops,
-- what it read can be completed.
use Rattle.std.proofs.Common.{◌≡◌, ℕ, zero, suc, ◌<◌, ◌≤◌, Bool, true, false, cond, List, [], ◌∷◌, ◌++◌, length, Option, Some, None, Ok, Err, refl, sym, ◌∙◌, ap, subst, append_assoc, length-append, arith}
use Rattle.std.specs.Prelude.{bytes_eq}
use Rattle.std.proofs.lemmas.Slice.Eq.{bytes_eq-Decides}
use Rattle.ax_tokens.specs.Stopping.{first_with}
use Rattle.ax_grammar.specs.Keywords.{keyword_text}
use Rattle.ax_grammar.specs.Parsing.{Texts, Parsed, ◌>>=◌, one_of, one_at, expect_at, list_at, braced_at}
use Rattle.ax_grammar.specs.declared.keyword.Keyword.{Keyword}
use Rattle.ax_grammar.specs.declared.keyword.Keyword.TheVariants as Word
use Rattle.ax_grammar.proofs.Recursion.{Shrinks, reads}
use Rattle.ax_grammar.proofs.Lists.{list_is, taking}

-- p read a front of the old texts and stops at the new ones, whatever follows the first of them; the front can be completed
pub record Halts {A : Type 0} (p : Texts → Parsed A) (old new : Texts) : Type 0 where
  pub front : Texts
  pub split : old ≡ front ++ new
  pub again : (more : Texts) → p (front ++ first_with new more) ≡ Err (first_with new more)
  pub rest : Texts
  pub value : A
  pub begins : (more : Texts) → p (front ++ (rest ++ more)) ≡ Ok (value, more)

-- p answers that for the old texts: it read at least a text, and hangs on none after, or it halts
abbrev pub At : {A : Type 0} → (Texts → Parsed A) → Texts → Parsed A → Type 0
At p old (Ok x) = (text : List ℕ) × (front : Texts) × (old ≡ text ∷ (front ++ x.1)) × ((more : Texts) → p (text ∷ (front ++ more)) ≡ Ok (x.0, more))
At p old (Err new) = Halts p old new

-- for fewer than k texts
abbrev pub IsSteady : {A : Type 0} → ℕ → (Texts → Parsed A) → Type 0
IsSteady k p = (old : Texts) → length old < k → At p old (p old)

-- texts that p reads, whatever follows
pub record Due {A : Type 0} (p : Texts → Parsed A) : Type 0 where
  pub texts : Texts
  pub value : A
  pub due : (more : Texts) → p (texts ++ more) ≡ Ok (value, more)

pub fewer : {A : Type 0} (k j : ℕ) (p : Texts → Parsed A) → j ≤ k → IsSteady k p → IsSteady j p
fewer k j p le s old lt = s old (omega arith)

-- ---- the first text

-- it doesn't fit, or there is none
pub refused : {A : Type 0} (p : Texts → Parsed A) (old : Texts) → Due p → ((more : Texts) → p (first_with old more) ≡ Err (first_with old more)) → At p old (p old)
refused p [] d h = subst (λ r. At p [] r) (sym (h [])) (record { front = []; split = refl; again = h; rest = d.texts; value = d.value; begins = d.due })
refused p (text ∷ rest) d h = subst (λ r. At p (text ∷ rest) r) (sym (h rest)) (record { front = []; split = refl; again = h; rest = d.texts; value = d.value; begins = d.due })

-- it is all that is read
pub done : {A : Type 0} (p : Texts → Parsed A) (a : A) (text : List ℕ) (rest : Texts) → ((more : Texts) → p (text ∷ more) ≡ reads a more) → At p (text ∷ rest) (p (text ∷ rest))
done p a text rest e = subst (λ r. At p (text ∷ rest) r) (sym (e rest)) (text, [], refl, e)

after_at : {A : Type 0} (p q : Texts → Parsed A) (text : List ℕ) (rest : Texts) → ((more : Texts) → p (text ∷ more) ≡ q more) → (r : Parsed A) → At q rest r → At p (text ∷ rest) r
after_at p q text rest e (Ok x) (t, front, h, k) = (text, t ∷ front, ap (λ u. text ∷ u) h, λ more. e (t ∷ (front ++ more)) ∙ k more)
after_at p q text rest e (Err new) s = record {
  front = text ∷ s.front;
  split = ap (λ u. text ∷ u) s.split;
  again = λ more. e (s.front ++ first_with new more) ∙ s.again more;
  rest = s.rest;
  value = s.value;
  begins = λ more. e (s.front ++ (s.rest ++ more)) ∙ s.begins more;
}

-- after it stands what q reads
pub after : {A : Type 0} (p q : Texts → Parsed A) (text : List ℕ) (rest : Texts) → ((more : Texts) → p (text ∷ more) ≡ q more) → At q rest (q rest) → At p (text ∷ rest) (p (text ∷ rest))
after p q text rest e s = subst (λ r. At p (text ∷ rest) r) (sym (e rest)) (after_at p q text rest e (q rest) s)

first_same : (a b : List ℕ) (x y : Texts) → a ∷ x ≡ b ∷ y → a ≡ b
first_same a b x y e = cc

same_halts : {A : Type 0} (p q : Texts → Parsed A) (text : List ℕ) (rest new front last : Texts) (value : A) → Due p → ((more : Texts) → p (text ∷ more) ≡ q (text ∷ more)) → text ∷ rest ≡ front ++ new
    → ((more : Texts) → q (front ++ first_with new more) ≡ Err (first_with new more)) → ((more : Texts) → q (front ++ (last ++ more)) ≡ Ok (value, more)) → Halts p (text ∷ rest) new
same_halts p q text rest [] [] last value d e split again begins = absurd cc
same_halts p q text rest (t ∷ new) [] last value d e split again begins = record {
  front = [];
  split = split;
  again = λ more. subst (λ w. p (w ∷ more) ≡ q (w ∷ more)) (first_same text t rest new split) (e more) ∙ again more;
  rest = d.texts;
  value = d.value;
  begins = d.due;
}
same_halts p q text rest new (t ∷ front) last value d e split again begins =
    let same : (more : Texts) → p (t ∷ more) ≡ q (t ∷ more) = λ more. subst (λ w. p (w ∷ more) ≡ q (w ∷ more)) (first_same text t rest (front ++ new) split) (e more) in
    record {
      front = t ∷ front;
      split = split;
      again = λ more. same (front ++ first_with new more) ∙ again more;
      rest = last;
      value = value;
      begins = λ more. same (front ++ (last ++ more)) ∙ begins more;
    }

same_at : {A : Type 0} (p q : Texts → Parsed A) (text : List ℕ) (rest : Texts) → Due p → ((more : Texts) → p (text ∷ more) ≡ q (text ∷ more)) → (r : Parsed A) → At q (text ∷ rest) r → At p (text ∷ rest) r
same_at p q text rest d e (Ok x) (t, front, h, k) =
    (t, front, h, λ more. subst (λ w. p (w ∷ (front ++ more)) ≡ q (w ∷ (front ++ more))) (first_same text t rest (front ++ x.1) h) (e (front ++ more)) ∙ k more)
same_at p q text rest d e (Err new) s = same_halts p q text rest new s.front s.rest s.value d e s.split s.again s.begins

-- it is read as q reads it
pub same : {A : Type 0} (p q : Texts → Parsed A) (text : List ℕ) (rest : Texts) → Due p → ((more : Texts) → p (text ∷ more) ≡ q (text ∷ more)) → At q (text ∷ rest) (q (text ∷ rest)) → At p (text ∷ rest) (p (text ∷ rest))
same p q text rest d e s = subst (λ r. At p (text ∷ rest) r) (sym (e rest)) (same_at p q text rest d e (q (text ∷ rest)) s)

-- ---- one text

one_case : {A : Type 0} (test : List ℕ → Option A) (text : List ℕ) (rest : Texts) → Due (one_at test) → (o : Option A) → test text ≡ o → At (one_at test) (text ∷ rest) (one_at test (text ∷ rest))
one_case test text rest d None e = refused (one_at test) (text ∷ rest) d (λ more. ap (λ o. one_of o text more) e)
one_case test text rest d (Some a) e = done (one_at test) a text rest (λ more. ap (λ o. one_of o text more) e)

-- a text that passes the test is due
pub one_steady : {A : Type 0} (k : ℕ) (test : List ℕ → Option A) (sample : List ℕ) (a : A) → test sample ≡ Some a → IsSteady k (one_at test)
one_steady k test sample a e [] lt = refused (one_at test) [] (record { texts = sample ∷ []; value = a; due = λ more. ap (λ o. one_of o sample more) e }) (λ more. refl)
one_steady k test sample a e (text ∷ rest) lt = one_case test text rest (record { texts = sample ∷ []; value = a; due = λ more. ap (λ o. one_of o sample more) e }) (test text) refl

abbrev expecting : Bool → List ℕ → Texts → Parsed (Unit {0})
expecting b text rest = cond b (reads tt rest) (Err (text ∷ rest))

pub expect_read : (word : Keyword) (more : Texts) → expect_at word (keyword_text word ∷ more) ≡ Ok (tt, more)
expect_read word more = ap (λ b. expecting b (keyword_text word) more) ((bytes_eq-Decides (keyword_text word) (keyword_text word)).1 refl)

expect_due : (word : Keyword) → Due (expect_at word)
expect_due word = record { texts = keyword_text word ∷ []; value = tt; due = λ more. expect_read word more }

expect_case : (word : Keyword) (text : List ℕ) (rest : Texts) (b : Bool) → bytes_eq (keyword_text word) text ≡ b → At (expect_at word) (text ∷ rest) (expect_at word (text ∷ rest))
expect_case word text rest true e = done (expect_at word) tt text rest (λ more. ap (λ b. expecting b text more) e)
expect_case word text rest false e = refused (expect_at word) (text ∷ rest) (expect_due word) (λ more. ap (λ b. expecting b text more) e)

pub expect_steady : (k : ℕ) (word : Keyword) → IsSteady k (expect_at word)
expect_steady k word [] lt = refused (expect_at word) [] (expect_due word) (λ more. refl)
expect_steady k word (text ∷ rest) lt = expect_case word text rest (bytes_eq (keyword_text word) text) refl

-- ---- a reader after another

abbrev pub mapping : {A B : Type 0} → (A → B) → (Texts → Parsed A) → Texts → Parsed B
mapping g p texts = p texts >>= λ x. Ok (g x.0, x.1)

map_at : {A B : Type 0} (g : A → B) (p : Texts → Parsed A) (old : Texts) (r : Parsed A) → At p old r → At (mapping g p) old (r >>= λ x. Ok (g x.0, x.1))
map_at g p old (Ok x) (t, front, h, k) = (t, front, h, λ more. ap (λ r. r >>= λ x. Ok (g x.0, x.1)) (k more))
map_at g p old (Err new) s = record {
  front = s.front;
  split = s.split;
  again = λ more. ap (λ r. r >>= λ x. Ok (g x.0, x.1)) (s.again more);
  rest = s.rest;
  value = g s.value;
  begins = λ more. ap (λ r. r >>= λ x. Ok (g x.0, x.1)) (s.begins more);
}

pub map_steady : {A B : Type 0} (k : ℕ) (g : A → B) (p : Texts → Parsed A) → IsSteady k p → IsSteady k (mapping g p)
map_steady k g p s old lt = map_at g p old (p old) (s old lt)

second_at : {A B : Type 0} (p : Texts → Parsed A) (q : A → Texts → Parsed B) (old : Texts) (text : List ℕ) (front : Texts) (a : A) (after : Texts) → old ≡ text ∷ (front ++ after) → ((more : Texts) → p (text ∷ (front ++ more)) ≡ Ok (a, more))
    → (r : Parsed B) → At (q a) after r → At (λ texts. p texts >>= λ x. q x.0 x.1) old r
second_at p q old text front a after e h (Ok y) (t, f, e', h') = (
  text,
  front ++ t ∷ f,
  e ∙ ap (λ u. text ∷ (front ++ u)) e' ∙ ap (λ u. text ∷ u) (sym (append_assoc front (t ∷ f) y.1)),
  λ more. ap (λ u. p (text ∷ u) >>= λ x. q x.0 x.1) (append_assoc front (t ∷ f) more) ∙ ap (λ r. r >>= λ x. q x.0 x.1) (h (t ∷ (f ++ more))) ∙ h' more,
)
second_at p q old text front a after e h (Err new) s = record {
  front = text ∷ (front ++ s.front);
  split = e ∙ ap (λ u. text ∷ (front ++ u)) s.split ∙ ap (λ u. text ∷ u) (sym (append_assoc front s.front new));
  again = λ more. ap (λ u. p (text ∷ u) >>= λ x. q x.0 x.1) (append_assoc front s.front (first_with new more)) ∙ ap (λ r. r >>= λ x. q x.0 x.1) (h (s.front ++ first_with new more)) ∙ s.again more;
  rest = s.rest;
  value = s.value;
  begins = λ more. ap (λ u. p (text ∷ u) >>= λ x. q x.0 x.1) (append_assoc front s.front (s.rest ++ more)) ∙ ap (λ r. r >>= λ x. q x.0 x.1) (h (s.front ++ (s.rest ++ more))) ∙ s.begins more;
}

then_at : {A B : Type 0} (k : ℕ) (p : Texts → Parsed A) (q : A → Texts → Parsed B) (old : Texts) → ((a : A) → IsSteady k (q a)) → ((a : A) → Due (q a)) → length old < suc k → (r : Parsed A) → At p old r
    → At (λ texts. p texts >>= λ x. q x.0 x.1) old (r >>= λ x. q x.0 x.1)
then_at k p q old s d lt (Ok x) (t, front, e, h) =
    second_at p q old t front x.0 x.1 e h (q x.0 x.1) (s x.0 x.1 (omega (arith, ap length e, length-append front x.1, lt)))
then_at k p q old s d lt (Err new) h = let last = d h.value in record {
  front = h.front;
  split = h.split;
  again = λ more. ap (λ r. r >>= λ x. q x.0 x.1) (h.again more);
  rest = h.rest ++ last.texts;
  value = last.value;
  begins = λ more. ap (λ u. p (h.front ++ u) >>= λ x. q x.0 x.1) (append_assoc h.rest last.texts more) ∙ ap (λ r. r >>= λ x. q x.0 x.1) (h.begins (last.texts ++ more)) ∙ last.due more;
}

-- the first reads at least a text
pub then_less : {A B : Type 0} (k : ℕ) (p : Texts → Parsed A) (q : A → Texts → Parsed B) → IsSteady (suc k) p → ((a : A) → IsSteady k (q a)) → ((a : A) → Due (q a)) → IsSteady (suc k) (λ texts. p texts >>= λ x. q x.0 x.1)
then_less k p q s t d old lt = then_at k p q old t d lt (p old) (s old lt)

pub then_steady : {A B : Type 0} (k : ℕ) (p : Texts → Parsed A) (q : A → Texts → Parsed B) → IsSteady k p → ((a : A) → IsSteady k (q a)) → ((a : A) → Due (q a)) → IsSteady k (λ texts. p texts >>= λ x. q x.0 x.1)
then_steady zero p q s t d old lt = absurd (omega arith)
then_steady (suc k) p q s t d old lt = then_less k p q s (λ a. fewer (suc k) k (q a) (omega arith) (t a)) d old lt

-- ---- lists

abbrev going : {A : Type 0} → (Texts → Parsed A) → Texts → Parsed (List A)
going p texts = p texts >>= λ a. list_at p a.1 >>= λ xs. Ok (a.0 ∷ xs.0, xs.1)

-- the brace is due
pub list_due : {A : Type 0} (p : Texts → Parsed A) → Shrinks p → Due (list_at p)
list_due p s = record { texts = keyword_text Word.Close ∷ []; value = []; due = λ more. list_is p s (keyword_text Word.Close ∷ more) }

pub mapped_due : {A B : Type 0} (g : A → B) (p : Texts → Parsed A) → Due p → Due (mapping g p)
mapped_due g p d = record { texts = d.texts; value = g d.value; due = λ more. ap (λ r. r >>= λ x. Ok (g x.0, x.1)) (d.due more) }

list_case : {A : Type 0} (p : Texts → Parsed A) → Shrinks p → (b : Bool) (text : List ℕ) (rest : Texts) → bytes_eq (keyword_text Word.Close) text ≡ b → At (going p) (text ∷ rest) (going p (text ∷ rest)) → At (list_at p) (text ∷ rest) (list_at p (text ∷ rest))
list_case p s true text rest e l = done (list_at p) [] text rest (λ more. list_is p s (text ∷ more) ∙ ap (λ b. cond b (taking true more) (taking false (text ∷ more)) >>= λ c. cond c.0 (reads [] c.1) (going p c.1)) e)
list_case p s false text rest e l =
    same (list_at p) (going p) text rest (list_due p s) (λ more. list_is p s (text ∷ more) ∙ ap (λ b. cond b (taking true more) (taking false (text ∷ more)) >>= λ c. cond c.0 (reads [] c.1) (going p c.1)) e) l

pub list_steady : {A : Type 0} (p : Texts → Parsed A) → Shrinks p → (k : ℕ) → IsSteady k p → IsSteady k (list_at p)
list_steady p s zero l old lt = absurd (omega arith)
list_steady p s (suc k) l [] lt = refused (list_at p) [] (list_due p s) (λ more. list_is p s [])
list_steady p s (suc k) l (text ∷ rest) lt =
    list_case p s (bytes_eq (keyword_text Word.Close) text) text rest refl
    (then_less k p (λ a texts. list_at p texts >>= λ xs. Ok (a ∷ xs.0, xs.1)) l (λ a. map_steady k (λ xs. a ∷ xs) (list_at p) (list_steady p s k (fewer (suc k) k p (omega arith) l)))
    (λ a. mapped_due (λ xs. a ∷ xs) (list_at p) (list_due p s)) (text ∷ rest) lt)

pub braced_steady : {A : Type 0} (p : Texts → Parsed A) → Shrinks p → (k : ℕ) → IsSteady k p → IsSteady k (braced_at p)
braced_steady p s k l = then_steady k (expect_at Word.Open) (λ u texts. list_at p texts) (expect_steady k Word.Open) (λ u. list_steady p s k l) (λ u. list_due p s)
