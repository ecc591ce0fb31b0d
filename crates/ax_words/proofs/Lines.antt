-- The arguments of what clap finds, and the lines that they give.
use Rattle.std.proofs.Common.{◌≡◌, ℕ, ◌<◌, ◌≤◌, ◌^◌, List, [], ◌∷◌, length, drop, Option, Some, None, Ok, Err, refl, sym, ◌∙◌, ap, subst, codes, arith}
use Rattle.std.specs.Prelude.{decimal, Result}
use Rattle.clap.specs.Walk.{Row, Text, first_of, all_of}
use Rattle.ax_words.specs.Arguments.{Arguments, one_file, catalogue, expression, editions, expansion, numbers, shape_of_arguments, words_after}
use Rattle.ax_words.specs.Found.{found, given}
use Rattle.ax_words.specs.Lines.{AreTaken, AnswersRows, Says, IsOfVerb, IsLineOf}
use Rattle.ax_words.specs.Verbs.{name_of, shape_of, Said, of_verb, alone, said}
use Rattle.ax_words.specs.Words.{JudgesWords, IsSaidInBounds, words_said}
use Rattle.ax_words.specs.declared.error.WordsError.{WordsError}
use Rattle.ax_words.specs.declared.error.WordsError.TheVariants as ErrorOf
use Rattle.ax_words.specs.declared.line.Line.{Line}
use Rattle.ax_words.specs.declared.line.Verb.{Verb}
use Rattle.ax_words.specs.declared.shape.Shape.{Shape}
use Rattle.ax_words.specs.declared.shape.Shape.TheVariants.{OneFile, Catalogue, Expression, Editions, Expansion, Numbers}
use Rattle.ax_words.proofs.Shapes.{first, tail, line_says}

abbrev some : {A : Type 0} → A → Option A
some x = Some x

-- want of memory answers any words
pub no_memory : (shape : Shape) (rows : List Row) (e : WordsError) → e ≡ ErrorOf.OutOfMemory → AnswersRows shape rows (Err e)
no_memory shape rows e m ws t h = rw m tt

-- ---- the line of a verb

said_words : (v : Verb) (ws : List Text) (s : Said) → IsOfVerb v (found (shape_of v) ws) s → AreTaken (shape_of v) ws → (name_of v ∷ ws ≡ words_said s) × IsSaidInBounds s
said_words v ws (of_verb u a) h t =
    let x = h.1 ws t refl in
    (ap (λ y. name_of v ∷ y) x.words_are ∙ ap (λ w. w ∷ words_after a) (ap name_of (sym h.0)), x.in_bounds)
said_words v ws (alone w) h t = absurd h

-- a line that answers the rows is what the words ask for
pub judged : (v : Verb) (rows : List Row) (ws : List Text) (r : Result Line WordsError) → IsLineOf v rows r → AreTaken (shape_of v) ws → rows ≡ found (shape_of v) ws → JudgesWords (name_of v ∷ ws) r
judged v rows ws (Ok line) h t e =
    let x = said_words v ws (said line) (subst (λ y. IsOfVerb v y (said line)) e h) t in
    record { words_are = x.0; in_bounds = x.1; plain = t.plain; few = t.few }
judged v rows ws (Err ErrorOf.Usage) h t e = λ line s. let x = line_says v ws line s in h ws t e x.arguments x.shape x.says
judged v rows ws (Err ErrorOf.OutOfMemory) h t e = tt

-- ---- one file

pub file_there : (rows : List Row) (word : Text) → first_of (codes "SPEC") rows ≡ Some word → AnswersRows OneFile rows (Ok (one_file word))
file_there rows word e (f ∷ []) t h =
    let same : some f ≡ some word = sym (ap (first_of (codes "SPEC")) h) ∙ e in
    let equal : f ≡ word = cc in record { words_are = ap (λ w. w ∷ []) equal; in_bounds = tt }
file_there rows word e ws t h = absurd (omega (arith, t.counted))

pub file_lacks : (rows : List Row) (e : WordsError) → first_of (codes "SPEC") rows ≡ None → AnswersRows OneFile rows (Err e)
file_lacks rows error e [] t h = absurd (omega (arith, t.counted))
file_lacks rows error e (f ∷ ws) t h = let same : some f ≡ None = sym (ap (first_of (codes "SPEC")) h) ∙ e in absurd cc

pub ruleset file_answers = (no_memory, file_there, file_lacks)

-- ---- one or more files

all_same : (rows : List Row) (ws files : List Text) → all_of (codes "SPEC") rows ≡ Some files → rows ≡ given (codes "SPEC") ws ∷ [] → ws ≡ files
all_same rows ws files e h = let same : some ws ≡ some files = sym (ap (all_of (codes "SPEC")) h) ∙ e in cc

all_there : (rows : List Row) (ws : List Text) → all_of (codes "SPEC") rows ≡ None → rows ≡ given (codes "SPEC") ws ∷ [] → ⊥
all_there rows ws e h = let same : some ws ≡ None = sym (ap (all_of (codes "SPEC")) h) ∙ e in cc

some_file : (ws files : List Text) → ws ≡ files → 0 < length ws → 0 < length files
some_file ws files e lt = subst (λ x. 0 < length x) e lt

pub catalogue_there : (rows : List Row) (files : List Text) → all_of (codes "SPEC") rows ≡ Some files → AnswersRows Catalogue rows (Ok (catalogue files))
catalogue_there rows files e ws t h = let equal = all_same rows ws files e h in record { words_are = equal; in_bounds = some_file ws files equal t.counted }

pub catalogue_lacks : (rows : List Row) (e : WordsError) → all_of (codes "SPEC") rows ≡ None → AnswersRows Catalogue rows (Err e)
catalogue_lacks rows error e ws t h = absurd (all_there rows ws e h)

pub ruleset catalogue_answers = (no_memory, catalogue_there, catalogue_lacks)

-- ---- an expression, and one or more files

expr_same : (rows : List Row) (f expr : Text) (ws : List Text) → first_of (codes "EXPR") rows ≡ Some expr → rows ≡ found Expression (f ∷ ws) → f ≡ expr
expr_same rows f expr ws e h = let same : some f ≡ some expr = sym (ap (first_of (codes "EXPR")) h) ∙ e in cc

specs_same : (rows : List Row) (f : Text) (ws files : List Text) → all_of (codes "SPEC") rows ≡ Some files → rows ≡ found Expression (f ∷ ws) → ws ≡ files
specs_same rows f ws files e h = let same : some ws ≡ some files = sym (ap (all_of (codes "SPEC")) h) ∙ e in cc

pub expression_there : (rows : List Row) (expr : Text) (files : List Text) → first_of (codes "EXPR") rows ≡ Some expr → all_of (codes "SPEC") rows ≡ Some files → length expr ≤ 2 ^ 31 → AnswersRows Expression rows (Ok (expression expr files))
expression_there rows expr files d e le [] t h = absurd (omega (arith, t.counted))
expression_there rows expr files d e le (f ∷ ws) t h =
    let one = expr_same rows f expr ws d h in
    let all = specs_same rows f ws files e h in
    record { words_are = ap (λ w. w ∷ ws) one ∙ ap (λ x. expr ∷ x) all; in_bounds = (le, some_file ws files all (omega (arith, t.counted))) }

pub expression_lacks_expr : (rows : List Row) (e : WordsError) → first_of (codes "EXPR") rows ≡ None → AnswersRows Expression rows (Err e)
expression_lacks_expr rows error e [] t h = absurd (omega (arith, t.counted))
expression_lacks_expr rows error e (f ∷ ws) t h = let same : some f ≡ None = sym (ap (first_of (codes "EXPR")) h) ∙ e in absurd cc

pub expression_lacks_files : (rows : List Row) (e : WordsError) → all_of (codes "SPEC") rows ≡ None → AnswersRows Expression rows (Err e)
expression_lacks_files rows error e ws t h = let same : some (drop 1 ws) ≡ None = sym (ap (all_of (codes "SPEC")) h) ∙ e in absurd cc

short_expr : (f : Text) (ws : List Text) (a : Arguments) → shape_of_arguments a ≡ Expression → Says (f ∷ ws) a → length f ≤ 2 ^ 31
short_expr f ws (expression expr files) s x = subst (λ w. length w ≤ 2 ^ 31) (sym (ap first x.words_are)) x.in_bounds.0
short_expr f ws a s x = absurd cc

pub expression_long : (rows : List Row) (expr : Text) → first_of (codes "EXPR") rows ≡ Some expr → (length expr ≤ 2 ^ 31 → ⊥) → AnswersRows Expression rows (Err ErrorOf.Usage)
expression_long rows expr e n [] t h = absurd (omega (arith, t.counted))
expression_long rows expr e n (f ∷ ws) t h = λ a s x. n (subst (λ w. length w ≤ 2 ^ 31) (expr_same rows f expr ws e h) (short_expr f ws a s x))

pub ruleset expression_answers = (no_memory, expression_there, expression_lacks_expr, expression_lacks_files, expression_long)

-- ---- two files

-- the two words are those that clap finds under these names
record Two (a b : Text) (rows : List Row) (ws : List Text) : Type 0 where
  one : Text
  other : Text
  words_are : ws ≡ one ∷ other ∷ []
  one_found : first_of a rows ≡ Some one
  other_found : first_of b rows ≡ Some other

two_editions : (rows : List Row) (ws : List Text) → AreTaken Editions ws → rows ≡ found Editions ws → Two (codes "OLD") (codes "NEW") rows ws
two_editions rows (f ∷ g ∷ []) t h = record { one = f; other = g; words_are = refl; one_found = ap (first_of (codes "OLD")) h; other_found = ap (first_of (codes "NEW")) h }
two_editions rows ws t h = absurd (omega (arith, t.counted))

two_of_expansion : (rows : List Row) (ws : List Text) → AreTaken Expansion ws → rows ≡ found Expansion ws → Two (codes "SPEC") (codes "EXPANSION") rows ws
two_of_expansion rows (f ∷ g ∷ []) t h = record { one = f; other = g; words_are = refl; one_found = ap (first_of (codes "SPEC")) h; other_found = ap (first_of (codes "EXPANSION")) h }
two_of_expansion rows ws t h = absurd (omega (arith, t.counted))

equal_of : {X : Type 0} (o : Option X) (x y : X) → o ≡ Some x → o ≡ Some y → x ≡ y
equal_of o x y e f = cc

found_is : {X : Type 0} (o : Option X) (x : X) → o ≡ Some x → o ≡ None → ⊥
found_is o x e f = cc

-- the words are the two that were found
two_words : (a b : Text) (rows : List Row) (ws : List Text) (one other : Text) → Two a b rows ws → first_of a rows ≡ Some one → first_of b rows ≡ Some other → ws ≡ one ∷ other ∷ []
two_words a b rows ws one other x d e =
    x.words_are ∙ ap (λ w. w ∷ x.other ∷ []) (equal_of _ _ _ x.one_found d) ∙ ap (λ w. one ∷ w ∷ []) (equal_of _ _ _ x.other_found e)

pub editions_there : (rows : List Row) (a b : Text) → first_of (codes "OLD") rows ≡ Some a → first_of (codes "NEW") rows ≡ Some b → AnswersRows Editions rows (Ok (editions a b))
editions_there rows a b d e ws t h = record { words_are = two_words _ _ rows ws a b (two_editions rows ws t h) d e; in_bounds = tt }

pub editions_lack_old : (rows : List Row) (e : WordsError) → first_of (codes "OLD") rows ≡ None → AnswersRows Editions rows (Err e)
editions_lack_old rows error e ws t h = let x = two_editions rows ws t h in absurd (found_is _ _ x.one_found e)

pub editions_lack_new : (rows : List Row) (e : WordsError) → first_of (codes "NEW") rows ≡ None → AnswersRows Editions rows (Err e)
editions_lack_new rows error e ws t h = let x = two_editions rows ws t h in absurd (found_is _ _ x.other_found e)

pub ruleset editions_answers = (no_memory, editions_there, editions_lack_old, editions_lack_new)

pub expansion_there : (rows : List Row) (a b : Text) → first_of (codes "SPEC") rows ≡ Some a → first_of (codes "EXPANSION") rows ≡ Some b → AnswersRows Expansion rows (Ok (expansion a b))
expansion_there rows a b d e ws t h = record { words_are = two_words _ _ rows ws a b (two_of_expansion rows ws t h) d e; in_bounds = tt }

pub expansion_lacks_spec : (rows : List Row) (e : WordsError) → first_of (codes "SPEC") rows ≡ None → AnswersRows Expansion rows (Err e)
expansion_lacks_spec rows error e ws t h = let x = two_of_expansion rows ws t h in absurd (found_is _ _ x.one_found e)

pub expansion_lacks_other : (rows : List Row) (e : WordsError) → first_of (codes "EXPANSION") rows ≡ None → AnswersRows Expansion rows (Err e)
expansion_lacks_other rows error e ws t h = let x = two_of_expansion rows ws t h in absurd (found_is _ _ x.other_found e)

pub ruleset expansion_answers = (no_memory, expansion_there, expansion_lacks_spec, expansion_lacks_other)

-- ---- a file and two numbers

-- the three words are those that clap finds
record Three (rows : List Row) (ws : List Text) : Type 0 where
  file : Text
  seed : Text
  count : Text
  words_are : ws ≡ file ∷ seed ∷ count ∷ []
  file_found : first_of (codes "SPEC") rows ≡ Some file
  seed_found : first_of (codes "SEED") rows ≡ Some seed
  count_found : first_of (codes "COUNT") rows ≡ Some count

three : (rows : List Row) (ws : List Text) → AreTaken Numbers ws → rows ≡ found Numbers ws → Three rows ws
three rows (f ∷ g ∷ k ∷ []) t h = record { file = f; seed = g; count = k; words_are = refl; file_found = ap (first_of (codes "SPEC")) h; seed_found = ap (first_of (codes "SEED")) h; count_found = ap (first_of (codes "COUNT")) h }
three rows ws t h = absurd (omega (arith, t.counted))

pub numbers_there : (rows : List Row) (file seed count : Text) (n m : ℕ) → first_of (codes "SPEC") rows ≡ Some file → first_of (codes "SEED") rows ≡ Some seed → first_of (codes "COUNT") rows ≡ Some count
    → n < 2 ^ 64 → seed ≡ decimal n → (m ≤ 1000000) × (count ≡ decimal m) → AnswersRows Numbers rows (Ok (numbers file n m))
numbers_there rows file seed count n m a b c lt d le ws t h =
    let x = three rows ws t h in
    let one = equal_of _ _ _ x.file_found a in
    let two = equal_of _ _ _ x.seed_found b ∙ d in
    let last = equal_of _ _ _ x.count_found c ∙ le.1 in
    record {
      words_are = x.words_are ∙ ap (λ w. w ∷ x.seed ∷ x.count ∷ []) one ∙ ap (λ w. file ∷ w ∷ x.count ∷ []) two ∙ ap (λ w. file ∷ decimal n ∷ w ∷ []) last;
      in_bounds = (lt, le.0);
    }

pub numbers_lack_file : (rows : List Row) (e : WordsError) → first_of (codes "SPEC") rows ≡ None → AnswersRows Numbers rows (Err e)
numbers_lack_file rows error e ws t h = let x = three rows ws t h in absurd (found_is _ _ x.file_found e)

pub numbers_lack_seed : (rows : List Row) (e : WordsError) → first_of (codes "SEED") rows ≡ None → AnswersRows Numbers rows (Err e)
numbers_lack_seed rows error e ws t h = let x = three rows ws t h in absurd (found_is _ _ x.seed_found e)

pub numbers_lack_count : (rows : List Row) (e : WordsError) → first_of (codes "COUNT") rows ≡ None → AnswersRows Numbers rows (Err e)
numbers_lack_count rows error e ws t h = let x = three rows ws t h in absurd (found_is _ _ x.count_found e)

-- two of the words are numbers within their bounds
record AreNumbers (seed count : Text) : Type 0 where
  n : ℕ
  m : ℕ
  below : n < 2 ^ 64
  few : m ≤ 1000000
  seed_is : seed ≡ decimal n
  count_is : count ≡ decimal m

numbers_in : (f g k : Text) (a : Arguments) → shape_of_arguments a ≡ Numbers → Says (f ∷ g ∷ k ∷ []) a → AreNumbers g k
numbers_in f g k (numbers file seed count) s x =
    record { n = seed; m = count; below = x.in_bounds.0; few = x.in_bounds.1; seed_is = ap (λ ws. first (tail ws)) x.words_are; count_is = ap (λ ws. first (tail (tail ws))) x.words_are }
numbers_in f g k a s x = absurd cc

said_numbers : (rows : List Row) (ws : List Text) (x : Three rows ws) (a : Arguments) → shape_of_arguments a ≡ Numbers → Says ws a → AreNumbers x.seed x.count
said_numbers rows ws x a s y = numbers_in x.file x.seed x.count a s (subst (λ v. Says v a) x.words_are y)

pub numbers_bad_seed : (rows : List Row) (seed : Text) → first_of (codes "SEED") rows ≡ Some seed → ((n : ℕ) → n < 2 ^ 64 → seed ≡ decimal n → ⊥) → AnswersRows Numbers rows (Err ErrorOf.Usage)
numbers_bad_seed rows seed e none ws t h = λ a s says.
    let x = three rows ws t h in
    let y = said_numbers rows ws x a s says in
    none y.n y.below (equal_of _ _ _ e x.seed_found ∙ y.seed_is)

pub numbers_bad_count : (rows : List Row) (count : Text) → first_of (codes "COUNT") rows ≡ Some count → ((m : ℕ) → m ≤ 1000000 → count ≡ decimal m → ⊥) → AnswersRows Numbers rows (Err ErrorOf.Usage)
numbers_bad_count rows count e none ws t h = λ a s says.
    let x = three rows ws t h in
    let y = said_numbers rows ws x a s says in
    none y.m y.few (equal_of _ _ _ e x.count_found ∙ y.count_is)

pub ruleset numbers_answers = (no_memory, numbers_there, numbers_lack_file, numbers_lack_seed, numbers_lack_count, numbers_bad_seed, numbers_bad_count)
