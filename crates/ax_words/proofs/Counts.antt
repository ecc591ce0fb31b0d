-- Which words clap takes after a verb, and what it finds: exactly as many as the verb's shape takes.
use Rattle.std.proofs.Common.{◌≡◌, ◌≤◌, List, [], ◌∷◌, length, refl, sym, ◌∙◌, arith}
use Rattle.std.specs.Prelude.{fold}
use Rattle.std.specs.List.{AllByRecursion}
use Rattle.clap.specs.Lexer.{usize_max}
use Rattle.clap.specs.Walk.{Row, Text, walk_from, nothing_held, finished}
use Rattle.clap.specs.Faults.{defaults_fault}
use Rattle.clap.specs.Kinds.{Kinds}
use Rattle.ax_words.specs.Arguments.{TakesCount}
use Rattle.ax_words.specs.Found.{found}
use Rattle.ax_words.specs.Words.{IsPlain}
use Rattle.ax_words.specs.declared.shape.Shape.{Shape}
use Rattle.ax_words.specs.declared.shape.Shape.TheVariants.{OneFile, Catalogue, Expression, Editions, Expansion, Numbers}
use Rattle.ax_words.proofs.Leaves.{fault, rows, sub, leaf_of, not_trailing, files_taken, files_rows, expr_taken, expr_rows}
use Rattle.ax_words.proofs.Plain.{ended, placed, placed_fault, plain_fault, plain_rows}

-- the words are taken, and these rows found, or they are refused
pub data Leaf (s : Shape) (name : Text) (ws : List Text) : Type 0 where
  takes : TakesCount s (length ws) → fault (leaf_of s name) ws ≡ [] → rows (leaf_of s name) ws ≡ found s ws → Leaf s name ws
  refuses : (TakesCount s (length ws) → ⊥) → (fault (leaf_of s name) ws ≡ [] → ⊥) → Leaf s name ws

module _ (s : Shape) (name : Text) (ws : List Text) (all : AllByRecursion IsPlain ws) where
  -- the faults at last, and the rows, where each word goes to the next positional
  abbrev last_faults : Kinds
  last_faults = ended (sub (leaf_of s name)) (not_trailing s name) (placed_fault (sub (leaf_of s name)) (walk_from nothing_held) ws) (fold (placed (sub (leaf_of s name)).rules) (walk_from nothing_held) ws)

  abbrev last_rows : List Row
  last_rows = finished (sub (leaf_of s name)).rules (fold (placed (sub (leaf_of s name)).rules) (walk_from nothing_held) ws).held

  taken : TakesCount s (length ws) → last_faults ≡ [] → last_rows ≡ found s ws → Leaf s name ws
  taken t e r = takes t (plain_fault (sub (leaf_of s name)) (not_trailing s name) ws all ∙ e) (plain_rows (sub (leaf_of s name)) (not_trailing s name) ws all ∙ r)

  refused : (TakesCount s (length ws) → ⊥) → (last_faults ≡ [] → ⊥) → Leaf s name ws
  refused n f = refuses n (λ e. f (sym (plain_fault (sub (leaf_of s name)) (not_trailing s name) ws all) ∙ e))

pub leaf : (s : Shape) (name : Text) (ws : List Text) → AllByRecursion IsPlain ws → length ws ≤ usize_max → Leaf s name ws
unfolding defaults_fault
leaf OneFile name (f ∷ []) all few = taken OneFile name (f ∷ []) all refl refl refl
leaf OneFile name ws all few = refused OneFile name ws all (λ t. omega (arith, t)) (λ e. cc)
leaf Catalogue name [] all few = refused Catalogue name [] all (λ t. omega (arith, t)) (λ e. cc)
leaf Catalogue name (f ∷ ws) all few = takes (omega arith) (files_taken name f ws all (omega (arith, few))) (files_rows name f ws all)
leaf Expression name (expr ∷ f ∷ ws) all few = takes (omega arith) (expr_taken name expr f ws all (omega (arith, few))) (expr_rows name expr f ws all)
leaf Expression name ws all few = refused Expression name ws all (λ t. omega (arith, t)) (λ e. cc)
leaf Editions name (f ∷ g ∷ []) all few = taken Editions name (f ∷ g ∷ []) all refl refl refl
leaf Editions name ws all few = refused Editions name ws all (λ t. omega (arith, t)) (λ e. cc)
leaf Expansion name (f ∷ g ∷ []) all few = taken Expansion name (f ∷ g ∷ []) all refl refl refl
leaf Expansion name ws all few = refused Expansion name ws all (λ t. omega (arith, t)) (λ e. cc)
leaf Numbers name (f ∷ g ∷ h ∷ []) all few = taken Numbers name (f ∷ g ∷ h ∷ []) all refl refl refl
leaf Numbers name ws all few = refused Numbers name ws all (λ t. omega (arith, t)) (λ e. cc)
