-- From what clap says of a parse to the answer.
use Rattle.std.proofs.Common.{◌≡◌, suc, ◌<◌, List, [], ◌∷◌, length, map, Option, Some, None, refl, sym, ◌∙◌, ap, subst, option_map, inl, inr, true, arith}
use Rattle.std.specs.Prelude.{Result, Box}
use Rattle.std.proofs.lemmas.List.{length-map}
use Rattle.std.specs.Box.{box_value}
use Rattle.std.specs.List.{AllByRecursion}
use Rattle.clap.specs.Faults.{fault_of, is_simple_and_free}
use Rattle.clap.specs.Kinds.{Kinds, HasKind}
use Rattle.clap.specs.Matches.{subcommand_name_of}
use Rattle.clap.specs.Simple.{App, is_simple, subcommand_of, subcommand_rows, subcommand_rows_of, HasMatchesOf}
use Rattle.clap.specs.Values.{kind_of}
use Rattle.clap.specs.Walk.{Row, Text}
use Rattle.clap.specs.declared.error.Error.{Error}
use Rattle.clap.specs.declared.error.kind.ErrorKind.TheVariants.{OutOfMemory}
use Rattle.clap.specs.declared.parser.matches.ArgMatches.{ArgMatches}
use Rattle.clap.specs.declared.parser.matches.ArgMatches.TheViews.{out-ArgMatches, out-SubCommand}
use Rattle.clap.specs.declared.parser.matches.SubCommand.{SubCommand}
use Rattle.clap.proofs.OnLiterals.{clap_on_literals}
use Rattle.ax_words.specs.Commands.{program}
use Rattle.ax_words.specs.Found.{found}
use Rattle.ax_words.specs.Lines.{AreTaken, IsLineOf, HasFewFiles}
use Rattle.ax_words.specs.Verbs.{name_of, shape_of, verb_named}
use Rattle.ax_words.specs.Words.{IsPlain, HasNoShape, JudgesWords}
use Rattle.ax_words.specs.declared.error.WordsError.{WordsError}
use Rattle.ax_words.specs.declared.line.Line.{Line}
use Rattle.ax_words.specs.declared.line.Verb.{Verb}
use Rattle.ax_words.specs.declared.shape.Shape.{Shape}
use Rattle.ax_words.specs.declared.shape.Shape.TheVariants.{OneFile, Catalogue, Expression, Editions, Expansion, Numbers}
use Rattle.ax_words.proofs.Lines.{judged}
use Rattle.ax_words.proofs.Program.{Parsed, taken, refused, parsed}
use Rattle.ax_words.proofs.Verbs.{verb_row}

abbrev Pair : Type 0
Pair = Text × List Row

pub few_texts : {X : Type 0} (text : X → Text) (xs : List X) → length xs < 4294967296 → length (map text xs) < 4294967296
few_texts text xs few = omega (arith, few, length-map xs text)

-- ---- the parse is of this command

simple : is_simple_and_free program ≡ true
unfolding clap_on_literals
simple = refl

fault_is : (a : App) (words : List Text) (k : Kinds) → a ≡ program → (is_simple_and_free a ≡ true → fault_of a words ≡ k) → fault_of program words ≡ k
fault_is a words k e h = ap (λ x. fault_of x words) (sym e) ∙ h (ap is_simple_and_free e ∙ simple)

pub kind_is : (a : App) (words : List Text) (error : Error) → a ≡ program → (is_simple_and_free a ≡ true → HasKind (fault_of a words) error) → HasKind (fault_of program words) error
kind_is a words error e h = subst (λ x. HasKind (fault_of x words) error) e (h (ap is_simple_and_free e ∙ simple))

simple_app : (a : App) → a ≡ program → is_simple a ≡ true
unfolding clap_on_literals
simple_app a e = ap is_simple e

matches_are : (a : App) (words : List Text) (m : ArgMatches) → a ≡ program → HasMatchesOf a words m → subcommand_rows_of m ≡ subcommand_of program words
matches_are a words m e h = (h (simple_app a e)).1 ∙ ap (λ x. subcommand_of x words) e

-- ---- the name and the rows that were found

abbrev some : {A : Type 0} → A → Option A
some x = Some x

pair_is : (o : Option Pair) (name : Text) (rows : List Row) → some name ≡ option_map (λ (p : Pair). p.0) o → some rows ≡ option_map (λ (p : Pair). p.1) o → some (name, rows) ≡ o
pair_is None name rows e f = absurd cc
pair_is (Some p) name rows e f = let a : name ≡ p.0 = cc in let b : rows ≡ p.1 = cc in rw (a, b) refl

names_at : {Z : Type 0} (o : Option (Box SubCommand Z)) → option_map (λ b. (out-SubCommand (box_value b)).name.now) o ≡ option_map (λ (p : Pair). p.0) (subcommand_rows o)
names_at None = refl
names_at (Some b) = refl

names_agree : (m : ArgMatches) (o : Option Text) → o ≡ subcommand_name_of m → o ≡ option_map (λ (p : Pair). p.0) (subcommand_rows_of m)
names_agree m o e = e ∙ names_at (out-ArgMatches m).subcommand

-- ---- the answer

-- what a parse that succeeds is known by
pub record Found (words : List Text) (name : Text) (rows : List Row) : Type 0 where
  pub verb : Verb
  pub following : List Text
  pub words_are : words ≡ name_of verb ∷ following
  pub taken_are : AreTaken (shape_of verb) following
  pub name_is : name ≡ name_of verb
  pub rows_are : rows ≡ found (shape_of verb) following

some_pair : (p q : Pair) → some p ≡ some q → p ≡ q
some_pair p q e = cc

found_pair : (words : List Text) (name : Text) (rows : List Row) → length words < 4294967296 → Parsed words → fault_of program words ≡ [] → some (name, rows) ≡ subcommand_of program words → Found words name rows
found_pair words name rows few (taken v ws w p t f s) e g =
    let same : ◌≡◌ {A = Pair} (name, rows) (name_of v, found (shape_of v) ws) = some_pair (name, rows) (name_of v, found (shape_of v) ws) (g ∙ s) in
    record {
      verb = v;
      following = ws;
      words_are = w;
      taken_are = record { counted = t; plain = p; few = subst (λ x. length x < 4294967296) w few };
      name_is = ap (λ (x : Pair). x.0) same;
      rows_are = ap (λ (x : Pair). x.1) same;
    }
found_pair words name rows few (refused h f) e g = absurd (f e)

-- the same, from what clap says of the parse and of its subcommand
pub found_in : (a : App) (words : List Text) (m : ArgMatches) (name : Text) (rows : List Row) → length words < 4294967296 → AllByRecursion IsPlain words → a ≡ program → (is_simple_and_free a ≡ true → fault_of a words ≡ []) → HasMatchesOf a words m
    → some name ≡ subcommand_name_of m → some rows ≡ option_map (λ (p : Pair). p.1) (subcommand_rows_of m) → Found words name rows
found_in a words m name rows few plain e fault matches n r =
    let pair = pair_is (subcommand_rows_of m) name rows (names_agree m (some name) n) r in
    found_pair words name rows few (parsed words plain few) (fault_is a words [] e fault) (pair ∙ matches_are a words m e matches)

pub answers_line : (words : List Text) (name : Text) (rows : List Row) (v : Verb) (r : Result Line WordsError) → Found words name rows → verb_named name ≡ Some v → IsLineOf v rows r → JudgesWords words r
answers_line words name rows v r x e gives =
    let named_by : some x.verb ≡ some v = sym (verb_row x.verb).named ∙ ap verb_named (sym x.name_is) ∙ e in
    let same : v ≡ x.verb = cc in
    subst (λ ws. JudgesWords ws r) (sym x.words_are) (judged x.verb rows x.following r (subst (λ u. IsLineOf u rows r) same gives) x.taken_are x.rows_are)

pub never_unnamed : (words : List Text) (name : Text) (rows : List Row) → Found words name rows → verb_named name ≡ None → ⊥
never_unnamed words name rows x e = let bad : some x.verb ≡ None = sym (verb_row x.verb).named ∙ ap verb_named (sym x.name_is) ∙ e in cc

few_files : (s : Shape) (ws : List Text) → suc (length ws) < 4294967296 → HasFewFiles (found s ws)
few_files OneFile ws lt = omega (arith, lt)
few_files Catalogue ws lt = omega (arith, lt)
few_files Expression [] lt = omega arith
few_files Expression (w ∷ ws) lt = omega (arith, lt)
few_files Editions ws lt = tt
few_files Expansion [] lt = omega arith
few_files Expansion (w ∷ ws) lt = omega arith
few_files Numbers [] lt = omega arith
few_files Numbers (w ∷ ws) lt = omega arith

pub found_few : (words : List Text) (name : Text) (rows : List Row) → Found words name rows → HasFewFiles rows
found_few words name rows x = subst HasFewFiles (sym x.rows_are) (few_files (shape_of x.verb) x.following x.taken_are.few)

no_kind : (fault : Kinds) (e : Error) → fault ≡ [] → HasKind fault e → (kind_of e ≡ OutOfMemory → ⊥) → ⊥
no_kind [] e f (inl h) n = n h
no_kind [] e f (inr h) n = h
no_kind (k ∷ ks) e f h n = cc

pub answers_err : (words : List Text) (e : Error) → Parsed words → HasKind (fault_of program words) e → (kind_of e ≡ OutOfMemory → ⊥) → HasNoShape words
answers_err words e (taken v ws w p t f s) k n = absurd (no_kind (fault_of program words) e f k n)
answers_err words e (refused h f) k n = h
