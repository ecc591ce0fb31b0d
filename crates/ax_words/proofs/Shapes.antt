-- Which words ask for a line: by their first word, and by how many stand after it.
use Rattle.std.proofs.Common.{◌≡◌, ℕ, ◌≤◌, true, false, List, [], ◌∷◌, length, drop, find, Option, Some, None, refl, sym, ◌∙◌, ap, subst, codes, inl, inr, arith}
use Rattle.std.specs.Prelude.{bytes_eq}
use Rattle.std.specs.List.{AllByRecursion}
use Rattle.ax_words.specs.Arguments.{Arguments, one_file, catalogue, expression, editions, expansion, numbers, AreInBounds, TakesCount, shape_of_arguments, words_after}
use Rattle.ax_words.specs.Lines.{Says}
use Rattle.ax_words.specs.Verbs.{name_of, shape_of, verb_named, verbs, TakesWords, Said, of_verb, alone, said}
use Rattle.ax_words.specs.Words.{IsPlain, IsSaidInBounds, HasShape, HasNoShape, words_of, words_said}
use Rattle.ax_words.specs.declared.line.Line.{Line}
use Rattle.ax_words.specs.declared.line.Line.TheVariants as LineOf
use Rattle.ax_words.specs.declared.line.Verb.{Verb}
use Rattle.ax_words.proofs.Verbs.{verb_row, said_shape, IsShaped}

abbrev pub Words : Type 0
Words = List (List ℕ)

abbrev pub first : Words → List ℕ
first [] = []
first (w ∷ ws) = w

abbrev pub tail : Words → Words
tail [] = []
tail (w ∷ ws) = ws

abbrev pub verb_said : Said → Option Verb
verb_said (of_verb v a) = Some v
verb_said (alone w) = None

-- the verb of a line that has one
abbrev pub verb_of : Line → Option Verb
verb_of line = verb_said (said line)

help_unnamed : verb_named (codes "--help") ≡ None
unfolding verb_named
help_unnamed = refl

version_unnamed : verb_named (codes "--version") ≡ None
unfolding verb_named
version_unnamed = refl

pub said_named : (s : Said) → IsShaped s → verb_named (first (words_said s)) ≡ verb_said s
said_named (of_verb v a) h = (verb_row v).named
said_named (alone w) (inl e) = ap verb_named e ∙ help_unnamed
said_named (alone w) (inr e) = ap verb_named e ∙ version_unnamed

pub line_named : (line : Line) → verb_named (first (words_of line)) ≡ verb_of line
line_named line = said_named (said line) (said_shape line)

-- ---- what stands after a verb

-- arguments of the verb's shape that the words say
pub record SaysOf (v : Verb) (ws : Words) : Type 0 where
  pub arguments : Arguments
  pub shape : shape_of_arguments arguments ≡ shape_of v
  pub says : Says ws arguments

said_by : (v : Verb) (ws : Words) (s : Said) → IsShaped s → IsSaidInBounds s → name_of v ∷ ws ≡ words_said s → SaysOf v ws
said_by v ws (of_verb u a) h b e =
    let verbs_are : Some v ≡ Some u = sym (verb_row v).named ∙ ap (λ words. verb_named (first words)) e ∙ (verb_row u).named in
    let same : u ≡ v = cc in
    record { arguments = a; shape = sym h ∙ ap shape_of same; says = record { words_are = ap tail e; in_bounds = b } }
said_by v ws (alone w) h b e =
    let bad : Some v ≡ None = sym (verb_row v).named ∙ ap (λ words. verb_named (first words)) e ∙ said_named (alone w) h in absurd cc

pub line_says : (v : Verb) (ws : Words) (line : Line) → HasShape (name_of v ∷ ws) line → SaysOf v ws
line_says v ws line h = said_by v ws (said line) (said_shape line) h.in_bounds h.words_are

counted : (a : Arguments) → AreInBounds a → TakesCount (shape_of_arguments a) (length (words_after a))
counted (one_file file) h = refl
counted (catalogue files) h = h
counted (expression expr files) h = omega (arith, h.1)
counted (editions old new) h = refl
counted (expansion spec other) h = refl
counted (numbers file seed count) h = refl

-- so many words don't stand after the verb
pub other_count : (v : Verb) (ws : Words) → (TakesWords v (length ws) → ⊥) → HasNoShape (name_of v ∷ ws)
other_count v ws n line h =
    let x = line_says v ws line h in
    let c = subst (λ s. TakesCount s (length (words_after x.arguments))) x.shape (counted x.arguments x.says.in_bounds) in
    n (subst (λ words. TakesWords v (length words)) (sym x.says.words_are) c)

-- ---- no verb

find_none : (w : List ℕ) (vs : List Verb) → AllByRecursion (λ v. bytes_eq (name_of v) w ≡ false) vs → find (λ v. bytes_eq (name_of v) w) vs ≡ None
find_none w [] all = refl
find_none w (v ∷ vs) all = rw all.0 (find_none w vs all.1)

no_name : (w : List ℕ) → AllByRecursion (λ v. bytes_eq (name_of v) w ≡ false) verbs → verb_named w ≡ None
unfolding verb_named
no_name w all = find_none w verbs all

never : false ≡ true → ⊥
never e = cc

-- a word that stands alone begins with `-`
dash : (w : List ℕ) → IsShaped (alone w) → IsPlain w → ⊥
dash w (inl e) p = never (sym (subst IsPlain e p))
dash w (inr e) p = never (sym (subst IsPlain e p))

not_named : (s : Said) → IsShaped s → verb_said s ≡ None → IsPlain (first (words_said s)) → ⊥
not_named (of_verb v a) h e p = cc
not_named (alone w) h e p = dash w h p

pub unnamed : (words : Words) → verb_named (first words) ≡ None → IsPlain (first words) → HasNoShape words
unnamed words e p line h =
    not_named (said line) (said_shape line) (sym (line_named line) ∙ sym (ap (λ ws. verb_named (first ws)) h.words_are) ∙ e) (subst (λ ws. IsPlain (first ws)) h.words_are p)

pub no_verb : (w : List ℕ) (ws : Words) → IsPlain w → AllByRecursion (λ v. bytes_eq (name_of v) w ≡ false) verbs → HasNoShape (w ∷ ws)
no_verb w ws p all = unnamed (w ∷ ws) (no_name w all) p

pub no_words : HasNoShape []
unfolding verb_named
no_words = unnamed [] refl tt

-- ---- words that clap isn't asked about

plain_said : (s : Said) → IsShaped s → (words_said s ≡ codes "--help" ∷ [] → ⊥) → (words_said s ≡ codes "--version" ∷ [] → ⊥) → AllByRecursion IsPlain (tail (words_said s)) → AllByRecursion IsPlain (words_said s)
plain_said (of_verb v a) h m n all = ((verb_row v).plain, all)
plain_said (alone w) (inl e) m n all = absurd (m (ap (λ x. x ∷ []) e))
plain_said (alone w) (inr e) m n all = absurd (n (ap (λ x. x ∷ []) e))

pub dashed : (words : Words) → (words ≡ codes "--help" ∷ [] → ⊥) → (words ≡ codes "--version" ∷ [] → ⊥) → (AllByRecursion IsPlain words → ⊥) → HasNoShape words
dashed words a b n line h =
    n (subst (AllByRecursion IsPlain) (sym h.words_are) (plain_said (said line) (said_shape line) (λ e. a (h.words_are ∙ e)) (λ e. b (h.words_are ∙ e)) (subst (λ ws. AllByRecursion IsPlain (drop 1 ws)) h.words_are h.plain)))

pub too_many : (words : Words) → 4294967296 ≤ length words → HasNoShape words
too_many words le line h = omega (arith, le, h.few)

pub help_shape : (words : Words) → words ≡ codes "--help" ∷ [] → HasShape words LineOf.Help
help_shape words e = record { words_are = e; in_bounds = tt; plain = subst (λ ws. AllByRecursion IsPlain (drop 1 ws)) (sym e) tt; few = omega (arith, ap length e) }

pub version_shape : (words : Words) → words ≡ codes "--version" ∷ [] → HasShape words LineOf.Version
version_shape words e = record { words_are = e; in_bounds = tt; plain = subst (λ ws. AllByRecursion IsPlain (drop 1 ws)) (sym e) tt; few = omega (arith, ap length e) }

pub ruleset outside = (dashed, too_many, help_shape, version_shape)
