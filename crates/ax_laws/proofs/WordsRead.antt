-- Words ask for a line, or for none.
use Rattle.std.proofs.Common.{◌≡◌, ℕ, ◌<◌, ◌≤◌, ◌^◌, ◌==◌, ◌⊎◌, inl, inr, Bool, true, false, List, [], ◌∷◌, length, codes, drop, refl, sym, ◌∙◌, ap, subst, arith}
use Rattle.std.specs.Prelude.{bytes_eq, decimal}
use Rattle.std.specs.List.{AllByRecursion}
use Rattle.std.proofs.lemmas.Bool.{cases_lt}
use Rattle.std.proofs.lemmas.Slice.Eq.{bytes_eq-Decides}
use Rattle.ax_laws.proofs.NumbersRead.{IsNumberBelow, number_or_not}
use Rattle.ax_laws.proofs.Readers.{IsOrNot, same_or_not}
use Rattle.ax_words.proofs.Shapes.{Words, first, verb_of, line_named, no_words, no_verb, dashed, too_many, help_shape, version_shape}
use Rattle.ax_words.specs.Verbs.{verb_named}
use Rattle.ax_words.specs.Words.{IsPlain, IsInBounds, HasShape, HasNoShape, words_of}
use Rattle.ax_words.specs.declared.line.Line.{Line}
use Rattle.ax_words.specs.declared.line.Line.TheVariants as LineOf

abbrev pub LineOrNone : Words → Type 0
LineOrNone words = ((line : Line) × HasShape words line) ⊎ HasNoShape words

-- ---- one word

one_or_not : (words : Words) (word : List ℕ) → IsOrNot (words ≡ word ∷ [])
one_or_not [] word = inr (λ e. absurd cc)
one_or_not (w ∷ []) word = by (same_or_not w word)
  where
    by : IsOrNot (w ≡ word) → IsOrNot (w ∷ [] ≡ word ∷ [])
    by (inl e) = inl (ap (λ x. x ∷ []) e)
    by (inr n) = inr (λ e. n cc)
one_or_not (w ∷ v ∷ words) word = inr (λ e. absurd cc)

plain_or_not : (word : List ℕ) → IsOrNot (IsPlain word)
plain_or_not [] = inl tt
plain_or_not (octet ∷ rest) = by (octet == 45) refl
  where
    by : (t : Bool) → (octet == 45) ≡ t → IsOrNot ((octet == 45) ≡ false)
    by true e = inr (λ f. absurd (let x : true ≡ false = sym e ∙ f in cc))
    by false e = inl e

all_plain_or_not : (words : Words) → IsOrNot (AllByRecursion IsPlain words)
all_plain_or_not [] = inl tt
all_plain_or_not (word ∷ words) = by (plain_or_not word) (all_plain_or_not words)
  where
    by : IsOrNot (IsPlain word) → IsOrNot (AllByRecursion IsPlain words) → IsOrNot (IsPlain word × AllByRecursion IsPlain words)
    by (inl p) (inl all) = inl (p, all)
    by (inl p) (inr n) = inr (λ h. n h.1)
    by (inr n) all = inr (λ h. n h.0)

-- ---- the words after a verb

named_is : (w : List ℕ) (ws : Words) (line : Line) → HasShape (w ∷ ws) line → verb_named w ≡ verb_of line
named_is w ws line h = ap (λ words. verb_named (first words)) h.words_are ∙ line_named line

-- so many words stand after the verb of a line
abbrev Counted : Line → ℕ → Type 0
Counted (LineOf.Check file) n = n ≡ 1
Counted (LineOf.Canon files) n = 0 < n
Counted (LineOf.Show files) n = 0 < n
Counted (LineOf.Text files) n = 0 < n
Counted (LineOf.Build files) n = 0 < n
Counted (LineOf.Filter expr files) n = 1 < n
Counted (LineOf.Migrate old new) n = n ≡ 2
Counted (LineOf.Trial file seed count) n = n ≡ 3
Counted (LineOf.Salvage files) n = 0 < n
Counted (LineOf.Expand spec expansion) n = n ≡ 2
Counted (LineOf.Convert old new) n = n ≡ 2
Counted LineOf.Help n = Unit {0}
Counted LineOf.Version n = Unit {0}

line_counted : (line : Line) → IsInBounds line → Counted line (length (drop 1 (words_of line)))
line_counted (LineOf.Check file) h = refl
line_counted (LineOf.Canon files) h = h
line_counted (LineOf.Show files) h = h
line_counted (LineOf.Text files) h = h
line_counted (LineOf.Build files) h = h
line_counted (LineOf.Filter expr files) h = omega (arith, h.1)
line_counted (LineOf.Migrate old new) h = refl
line_counted (LineOf.Trial file seed count) h = refl
line_counted (LineOf.Salvage files) h = h
line_counted (LineOf.Expand spec expansion) h = refl
line_counted (LineOf.Convert old new) h = refl
line_counted LineOf.Help h = tt
line_counted LineOf.Version h = tt

counted : (w : List ℕ) (ws : Words) (line : Line) → HasShape (w ∷ ws) line → Counted line (length ws)
counted w ws line h = subst (λ words. Counted line (length (drop 1 words))) (sym h.words_are) (line_counted line h.in_bounds)

shaped : (w : List ℕ) (ws : Words) (line : Line) → AllByRecursion IsPlain ws → length (w ∷ ws) < 4294967296 → w ∷ ws ≡ words_of line → IsInBounds line → LineOrNone (w ∷ ws)
shaped w ws line plain few e b = inl (line, record { words_are = e; in_bounds = b; plain = plain; few = few })

-- words of a verb that takes so many
abbrev Known : List ℕ → (ℕ → Type 0) → Type 0
Known w Takes = (line : Line) (n : ℕ) → verb_named w ≡ verb_of line → Counted line n → Takes n

uncounted : (w : List ℕ) (Takes : ℕ → Type 0) (ws : Words) → Known w Takes → (Takes (length ws) → ⊥) → LineOrNone (w ∷ ws)
uncounted w Takes ws known n = inr (λ line h. n (known line (length ws) (named_is w ws line h) (counted w ws line h)))

check_known : Known (codes "check") (λ n. n ≡ 1)
unfolding verb_named
check_known (LineOf.Check file) n v c = c
check_known _ n v c = absurd cc

canon_known : Known (codes "canon") (λ n. 0 < n)
unfolding verb_named
canon_known (LineOf.Canon files) n v c = c
canon_known _ n v c = absurd cc

show_known : Known (codes "show") (λ n. 0 < n)
unfolding verb_named
show_known (LineOf.Show files) n v c = c
show_known _ n v c = absurd cc

text_known : Known (codes "text") (λ n. 0 < n)
unfolding verb_named
text_known (LineOf.Text files) n v c = c
text_known _ n v c = absurd cc

build_known : Known (codes "build") (λ n. 0 < n)
unfolding verb_named
build_known (LineOf.Build files) n v c = c
build_known _ n v c = absurd cc

salvage_known : Known (codes "salvage") (λ n. 0 < n)
unfolding verb_named
salvage_known (LineOf.Salvage files) n v c = c
salvage_known _ n v c = absurd cc

migrate_known : Known (codes "migrate") (λ n. n ≡ 2)
unfolding verb_named
migrate_known (LineOf.Migrate old new) n v c = c
migrate_known _ n v c = absurd cc

expand_known : Known (codes "expand") (λ n. n ≡ 2)
unfolding verb_named
expand_known (LineOf.Expand spec expansion) n v c = c
expand_known _ n v c = absurd cc

convert_known : Known (codes "convert") (λ n. n ≡ 2)
unfolding verb_named
convert_known (LineOf.Convert old new) n v c = c
convert_known _ n v c = absurd cc

filter_known : Known (codes "filter") (λ n. 1 < n)
unfolding verb_named
filter_known (LineOf.Filter expr files) n v c = c
filter_known _ n v c = absurd cc

trial_known : Known (codes "trial") (λ n. n ≡ 3)
unfolding verb_named
trial_known (LineOf.Trial file seed count) n v c = c
trial_known _ n v c = absurd cc

-- the words after a verb are plain, and there are fewer than 2^32
abbrev After : List ℕ → Type 0
After w = (ws : Words) → AllByRecursion IsPlain ws → length (w ∷ ws) < 4294967296 → LineOrNone (w ∷ ws)

after_one : After (codes "check")
after_one (file ∷ []) plain few = shaped (codes "check") (file ∷ []) (LineOf.Check file) plain few refl tt
after_one ws plain few = uncounted (codes "check") (λ n. n ≡ 1) ws check_known (λ c. omega (arith, c))

after_some : (w : List ℕ) (line : Words → Line) → ((ws : Words) → words_of (line ws) ≡ w ∷ ws) → ((ws : Words) → 0 < length ws → IsInBounds (line ws)) → Known w (λ n. 0 < n) → After w
after_some w line is bounds known [] plain few = uncounted w (λ n. 0 < n) [] known (λ c. omega (arith, c))
after_some w line is bounds known (file ∷ files) plain few = shaped w (file ∷ files) (line (file ∷ files)) plain few (sym (is (file ∷ files))) (bounds (file ∷ files) (omega arith))

after_two : (w : List ℕ) (line : List ℕ → List ℕ → Line) → ((a b : List ℕ) → words_of (line a b) ≡ w ∷ a ∷ b ∷ []) → ((a b : List ℕ) → IsInBounds (line a b)) → Known w (λ n. n ≡ 2) → After w
after_two w line is bounds known (a ∷ b ∷ []) plain few = shaped w (a ∷ b ∷ []) (line a b) plain few (sym (is a b)) (bounds a b)
after_two w line is bounds known ws plain few = uncounted w (λ n. n ≡ 2) ws known (λ c. omega (arith, c))

short_expression : (line : Line) (expr : List ℕ) (files : Words) → verb_named (codes "filter") ≡ verb_of line → codes "filter" ∷ expr ∷ files ≡ words_of line → IsInBounds line → length expr ≤ 2 ^ 31
unfolding verb_named
short_expression (LineOf.Filter other more) expr files v e b = let same : other ≡ expr = cc in subst (λ x. length x ≤ 2 ^ 31) same b.0
short_expression _ expr files v e b = absurd cc

after_filter : After (codes "filter")
after_filter (expr ∷ file ∷ files) plain few = by (cases_lt (2 ^ 31) (length expr))
  where
    by : (2 ^ 31 < length expr) ⊎ (length expr ≤ 2 ^ 31) → LineOrNone (codes "filter" ∷ expr ∷ file ∷ files)
    by (inl long) = inr (λ line h. omega (arith, long, short_expression line expr (file ∷ files) (named_is (codes "filter") (expr ∷ file ∷ files) line h) h.words_are h.in_bounds))
    by (inr short) = shaped (codes "filter") (expr ∷ file ∷ files) (LineOf.Filter expr (file ∷ files)) plain few refl (short, omega arith)
after_filter ws plain few = uncounted (codes "filter") (λ n. 1 < n) ws filter_known (λ c. omega (arith, c))

are_numbers : (line : Line) (file seed count : List ℕ) → verb_named (codes "trial") ≡ verb_of line → codes "trial" ∷ file ∷ seed ∷ count ∷ [] ≡ words_of line → IsInBounds line → IsNumberBelow (2 ^ 64) seed × IsNumberBelow 1000001 count
unfolding verb_named
are_numbers (LineOf.Trial other n m) file seed count v e b =
    let s : seed ≡ decimal n = cc in
    let c : count ≡ decimal m = cc in ((n, b.0, s), (m, omega (arith, b.1), c))
are_numbers _ file seed count v e b = absurd cc

after_trial : After (codes "trial")
after_trial (file ∷ seed ∷ count ∷ []) plain few = by (number_or_not (2 ^ 64) seed (omega arith)) (number_or_not 1000001 count (omega arith))
  where
    they_are : (line : Line) → HasShape (codes "trial" ∷ file ∷ seed ∷ count ∷ []) line → IsNumberBelow (2 ^ 64) seed × IsNumberBelow 1000001 count
    they_are line h = are_numbers line file seed count (named_is (codes "trial") (file ∷ seed ∷ count ∷ []) line h) h.words_are h.in_bounds

    by : IsOrNot (IsNumberBelow (2 ^ 64) seed) → IsOrNot (IsNumberBelow 1000001 count) → LineOrNone (codes "trial" ∷ file ∷ seed ∷ count ∷ [])
    by (inl (n, lt, s)) (inl (m, le, c)) =
        shaped (codes "trial") (file ∷ seed ∷ count ∷ []) (LineOf.Trial file n m) plain few (λ i. codes "trial" ∷ file ∷ s i ∷ c i ∷ []) (lt, omega (arith, le))
    by (inl s) (inr none) = inr (λ line h. none (they_are line h).1)
    by (inr none) c = inr (λ line h. none (they_are line h).0)
after_trial ws plain few = uncounted (codes "trial") (λ n. n ≡ 3) ws trial_known (λ c. omega (arith, c))

-- ---- by the first word

module _ (w : List ℕ) (ws : Words) (plain : AllByRecursion IsPlain (w ∷ ws)) (few : length (w ∷ ws) < 4294967296) where
  -- the word is this one, or the others decide
  pick : (name : List ℕ) → After name → (bytes_eq name w ≡ false → LineOrNone (w ∷ ws)) → LineOrNone (w ∷ ws)
  pick name after others = by (bytes_eq name w) refl
    where
      by : (t : Bool) → bytes_eq name w ≡ t → LineOrNone (w ∷ ws)
      by true e = let same : name ≡ w = (bytes_eq-Decides name w).0 e in subst (λ x. LineOrNone (x ∷ ws)) same (after ws plain.1 few)
      by false e = others e

  by_name : LineOrNone (w ∷ ws)
  by_name =
      pick (codes "check") after_one (λ n0.
      pick (codes "canon") (after_some (codes "canon") LineOf.Canon (λ x. refl) (λ x h. h) canon_known) (λ n1.
      pick (codes "show") (after_some (codes "show") LineOf.Show (λ x. refl) (λ x h. h) show_known) (λ n2.
      pick (codes "text") (after_some (codes "text") LineOf.Text (λ x. refl) (λ x h. h) text_known) (λ n3.
      pick (codes "build") (after_some (codes "build") LineOf.Build (λ x. refl) (λ x h. h) build_known) (λ n4.
      pick (codes "filter") after_filter (λ n5.
      pick (codes "migrate") (after_two (codes "migrate") LineOf.Migrate (λ a b. refl) (λ a b. tt) migrate_known) (λ n6.
      pick (codes "trial") after_trial (λ n7.
      pick (codes "salvage") (after_some (codes "salvage") LineOf.Salvage (λ x. refl) (λ x h. h) salvage_known) (λ n8.
      pick (codes "expand") (after_two (codes "expand") LineOf.Expand (λ a b. refl) (λ a b. tt) expand_known) (λ n9.
      pick (codes "convert") (after_two (codes "convert") LineOf.Convert (λ a b. refl) (λ a b. tt) convert_known) (λ n10.
      inr (no_verb w ws plain.0 (n0, (n1, (n2, (n3, (n4, (n5, (n6, (n7, (n8, (n9, (n10, tt)))))))))))))))))))))))

-- ---- all words

by_words : (words : Words) → AllByRecursion IsPlain words → length words < 4294967296 → LineOrNone words
by_words [] plain few = inr no_words
by_words (w ∷ ws) plain few = by_name w ws plain few

module _ (words : Words) where
  with_dash : (AllByRecursion IsPlain words → ⊥) → IsOrNot (words ≡ codes "--help" ∷ []) → IsOrNot (words ≡ codes "--version" ∷ []) → LineOrNone words
  with_dash n (inl e) version = inl (LineOf.Help, help_shape words e)
  with_dash n (inr other) (inl e) = inl (LineOf.Version, version_shape words e)
  with_dash n (inr other) (inr nor) = inr (dashed words other nor n)

  by_plain : length words < 4294967296 → IsOrNot (AllByRecursion IsPlain words) → LineOrNone words
  by_plain few (inl plain) = by_words words plain few
  by_plain few (inr n) = with_dash n (one_or_not words (codes "--help")) (one_or_not words (codes "--version"))

  by_count : (length words < 4294967296) ⊎ (4294967296 ≤ length words) → LineOrNone words
  by_count (inl few) = by_plain few (all_plain_or_not words)
  by_count (inr le) = inr (too_many words le)

  pub line_or_none : LineOrNone words
  line_or_none = by_count (cases_lt (length words) 4294967296)
