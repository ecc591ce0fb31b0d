-- What clap makes of the words after a verb, by their shape.
use Rattle.std.proofs.Common.{◌≡◌, ℕ, suc, ◌≤◌, true, false, List, [], ◌∷◌, ◌++◌, length, Some, refl, sym, ◌∙◌, ap, codes, append_assoc, append-nil, arith}
use Rattle.std.specs.Prelude.{fold}
use Rattle.std.specs.List.{AllByRecursion}
use Rattle.std.proofs.lemmas.Bool.{le-ltb}
use Rattle.std.proofs.Math.Dec.{eqb-suc-zero}
use Rattle.clap.specs.Lexer.{usize_max}
use Rattle.clap.specs.Walk.{Held, Rule, Row, Text, positional, value, walk_from, rows_after, nothing_held}
use Rattle.clap.specs.Simple.{Shape as ClapShape, built_leaf}
use Rattle.clap.specs.Faults.{defaults_fault, level_fault, step_fault}
use Rattle.clap.specs.Kinds.{Kinds, or_else, range_kinds, values_kinds}
use Rattle.clap.specs.declared.builder.value_parser.ValueParser.TheVariants as vp
use Rattle.ax_words.specs.Commands.{leaf_shape, rules_of}
use Rattle.ax_words.specs.Found.{found, given}
use Rattle.ax_words.specs.Words.{IsPlain}
use Rattle.ax_words.specs.declared.shape.Shape.{Shape}
use Rattle.ax_words.specs.declared.shape.Shape.TheVariants.{OneFile, Catalogue, Expression, Editions, Expansion, Numbers}
use Rattle.ax_words.proofs.Plain.{at, placed, placed_fault, plain_fault, plain_rows, HasNoTrailing}

-- a subcommand as it is built, with the settings of the whole command
abbrev pub sub : ClapShape → ClapShape
sub s = built_leaf (record s { no_binary_name = true; disable_help_flag = true; disable_help_subcommand = true; disable_version_flag = true })

abbrev pub fault : ClapShape → List Text → Kinds
fault s words = level_fault (sub s) [] nothing_held words false []

abbrev pub rows : ClapShape → List Text → List Row
rows s words = rows_after (sub s).rules [] words

-- the subcommand of a shape, under some name
abbrev pub leaf_of : Shape → Text → ClapShape
leaf_of s name = leaf_shape name (rules_of s)

pub not_trailing : (s : Shape) (name : Text) → HasNoTrailing (sub (leaf_of s name)).rules
not_trailing OneFile name = (refl, tt)
not_trailing Catalogue name = (refl, tt)
not_trailing Expression name = (refl, (refl, tt))
not_trailing Editions name = (refl, (refl, tt))
not_trailing Expansion name = (refl, (refl, tt))
not_trailing Numbers name = (refl, (refl, (refl, tt)))

-- ---- several words of the last argument

-- the walk over them, and its faults
walk_many : (c : List Rule) (held : List Text → Held) (k : ℕ) → ((vs : List Text) (w : Text) → placed c (at (held vs) positional k) w ≡ at (held (vs ++ w ∷ [])) positional k)
    → (vs ws : List Text) → fold (placed c) (at (held vs) positional k) ws ≡ at (held (vs ++ ws)) positional k
walk_many c held k step vs [] = ap (λ x. at (held x) positional k) (sym (append-nil vs))
walk_many c held k step vs (w ∷ ws) =
    ap (λ x. fold (placed c) x ws) (step vs w) ∙ walk_many c held k step (vs ++ w ∷ []) ws ∙ ap (λ x. at (held x) positional k) (append_assoc vs (w ∷ []) ws)

fault_many : (s : ClapShape) (held : List Text → Held) (k : ℕ) → ((vs : List Text) (w : Text) → placed s.rules (at (held vs) positional k) w ≡ at (held (vs ++ w ∷ [])) positional k)
    → ((vs : List Text) → step_fault s k (held vs) value ≡ []) → (vs ws : List Text) → placed_fault s (at (held vs) positional k) ws ≡ []
fault_many s held k step none vs [] = refl
fault_many s held k step none vs (w ∷ ws) =
    ap (λ x. or_else x (placed_fault s (placed s.rules (at (held vs) positional k) w) ws)) (none vs)
    ∙ ap (λ x. placed_fault s x ws) (step vs w) ∙ fault_many s held k step none (vs ++ w ∷ []) ws

values_none : (vs : List Text) → values_kinds false vp.String vs ≡ []
values_none [] = refl
values_none (v ∷ vs) = values_none vs

range_none : (m : ℕ) → suc m ≤ usize_max → range_kinds 1 usize_max (suc m) ≡ []
range_none m le = rw (le-ltb (suc m) 1 (omega arith), le-ltb usize_max (suc m) le, eqb-suc-zero m) refl

-- these words of SPEC are read, after those rows
abbrev files_held : List Row → List Text → Held
files_held before words = record { rows = before; pending = Some (codes "SPEC", words); skip = 0 }

module _ (name f : Text) (ws : List Text) where
  files_walk : fold (placed (sub (leaf_of Catalogue name)).rules) (walk_from nothing_held) (f ∷ ws) ≡ at (files_held [] (f ∷ ws)) positional 1
  files_walk = walk_many (sub (leaf_of Catalogue name)).rules (files_held []) 1 (λ vs w. refl) (f ∷ []) ws

  files_fault : placed_fault (sub (leaf_of Catalogue name)) (walk_from nothing_held) (f ∷ ws) ≡ []
  files_fault = fault_many (sub (leaf_of Catalogue name)) (files_held []) 1 (λ vs w. refl) (λ vs. refl) (f ∷ []) ws

  pub files_taken : AllByRecursion IsPlain (f ∷ ws) → suc (length ws) ≤ usize_max → fault (leaf_of Catalogue name) (f ∷ ws) ≡ []
  unfolding defaults_fault
  files_taken all few = plain_fault (sub (leaf_of Catalogue name)) (not_trailing Catalogue name) (f ∷ ws) all ∙ rw (files_fault, files_walk, range_none (length ws) few, values_none ws) refl

  pub files_rows : AllByRecursion IsPlain (f ∷ ws) → rows (leaf_of Catalogue name) (f ∷ ws) ≡ found Catalogue (f ∷ ws)
  files_rows all = plain_rows (sub (leaf_of Catalogue name)) (not_trailing Catalogue name) (f ∷ ws) all ∙ rw files_walk refl

module _ (name expr f : Text) (ws : List Text) where
  abbrev after_expr : List Text → Held
  after_expr = files_held (given (codes "EXPR") (expr ∷ []) ∷ [])

  expr_walk : fold (placed (sub (leaf_of Expression name)).rules) (walk_from nothing_held) (expr ∷ f ∷ ws) ≡ at (after_expr (f ∷ ws)) positional 2
  expr_walk = walk_many (sub (leaf_of Expression name)).rules after_expr 2 (λ vs w. refl) (f ∷ []) ws

  expr_fault : placed_fault (sub (leaf_of Expression name)) (walk_from nothing_held) (expr ∷ f ∷ ws) ≡ []
  expr_fault = fault_many (sub (leaf_of Expression name)) after_expr 2 (λ vs w. refl) (λ vs. refl) (f ∷ []) ws

  pub expr_taken : AllByRecursion IsPlain (expr ∷ f ∷ ws) → suc (length ws) ≤ usize_max → fault (leaf_of Expression name) (expr ∷ f ∷ ws) ≡ []
  unfolding defaults_fault
  expr_taken all few = plain_fault (sub (leaf_of Expression name)) (not_trailing Expression name) (expr ∷ f ∷ ws) all ∙ rw (expr_fault, expr_walk, range_none (length ws) few, values_none ws) refl

  pub expr_rows : AllByRecursion IsPlain (expr ∷ f ∷ ws) → rows (leaf_of Expression name) (expr ∷ f ∷ ws) ≡ found Expression (expr ∷ f ∷ ws)
  expr_rows all = plain_rows (sub (leaf_of Expression name)) (not_trailing Expression name) (expr ∷ f ∷ ws) all ∙ rw expr_walk refl
