-- Words that don't begin with `-` go to positionals.
use Rattle.std.proofs.Common.{◌≡◌, ℕ, ◌||◌, Bool, true, false, List, [], ◌∷◌, Option, Some, None, refl, sym, ◌∙◌, ap, ap₂, subst}
use Rattle.std.specs.Prelude.{cond, find, fold, if◌then◌else◌}
use Rattle.std.specs.List.{AllByRecursion}
use Rattle.clap.specs.Walk.{Held, Rule, Text, Waiting, Walk, idle, option, positional, value, word_met, walk_from, walked, to_positional, positional_held, next_position, is_multiple, arg_by_index, nothing_held, rows_after, settled, finished}
use Rattle.clap.specs.Simple.{Shape}
use Rattle.clap.specs.Faults.{check_fault, defaults_fault, level_fault, settle_fault, step_fault, turn_fault, walk_fault, word_fault}
use Rattle.clap.specs.Kinds.{Kinds, or_else}
use Rattle.ax_words.specs.Words.{IsPlain}

-- between two words, where none waits for a value
abbrev pub at : Held → Waiting → ℕ → Walk
at h waiting position = record { held = h; waiting = waiting; position = position; is_trailing = false; stopped = None }

abbrev pub IsFree : Waiting → Type 0
IsFree idle = Unit {0}
IsFree (option id) = ⊥
IsFree positional = Unit {0}

met_value : (c : List Rule) (waiting : Waiting) (position : ℕ) (word : Text) (h : Held) → IsFree waiting → IsPlain word → word_met c [] false waiting position word h ≡ (h, value)
met_value c idle position [] h f p = refl
met_value c idle position (x ∷ xs) h f p = rw p (rw p refl)
met_value c (option id) position word h f p = absurd f
met_value c positional position [] h f p = refl
met_value c positional position (x ∷ xs) h f p = rw p (rw p refl)

-- such a word goes to the next positional, whatever the command
pub plain_walked : (c : List Rule) (waiting : Waiting) (position : ℕ) (word : Text) (h : Held) → IsFree waiting → IsPlain word → walked c [] (at h waiting position) word ≡ to_positional c (arg_by_index c position) word (at h waiting position) h
unfolding walked
plain_walked c waiting position word h f p = rw (met_value c waiting position word h f p) refl

no_word_fault : (s : Shape) (waiting : Waiting) (word : Text) (h : Held) → IsFree waiting → IsPlain word → word_fault s [] false waiting word h ≡ []
no_word_fault s idle [] h f p = refl
no_word_fault s idle (x ∷ xs) h f p = rw p (rw p refl)
no_word_fault s (option id) word h f p = absurd f
no_word_fault s positional [] h f p = refl
no_word_fault s positional (x ∷ xs) h f p = rw p (rw p refl)

pub plain_turn : (s : Shape) (waiting : Waiting) (position : ℕ) (word : Text) (h : Held) → IsFree waiting → IsPlain word → turn_fault s [] (at h waiting position) word ≡ step_fault s position h value
plain_turn s waiting position word h f p = rw (no_word_fault s waiting word h f p, met_value s.rules waiting position word h f p) refl

-- ---- many such words

-- such a word goes to the next positional
abbrev pub placed : List Rule → Walk → Text → Walk
placed c w word = to_positional c (arg_by_index c w.position) word w w.held

-- the faults on the way
abbrev pub placed_fault : Shape → Walk → List Text → Kinds
placed_fault s w [] = []
placed_fault s w (word ∷ rest) = or_else (step_fault s w.position w.held value) (placed_fault s (placed s.rules w word) rest)

abbrev pub HasNoTrailing : List Rule → Type 0
HasNoTrailing = AllByRecursion (λ a. a.trailing_var_arg ≡ false)

no_trailing : (test : Rule → Bool) (c : List Rule) (a : Rule) → HasNoTrailing c → find test c ≡ Some a → a.trailing_var_arg ≡ false
no_trailing test [] a none e = absurd cc
no_trailing test (b ∷ c) a none e = by (test b) e (no_trailing test c a none.1)
  where
    by : (t : Bool) → cond t (Some b) (find test c) ≡ Some a → (find test c ≡ Some a → a.trailing_var_arg ≡ false) → a.trailing_var_arg ≡ false
    by true e rest = let same : b ≡ a = cc in subst (λ x. x.trailing_var_arg ≡ false) same none.0
    by false e rest = rest e

-- where the walk stands after it
record Next (w : Walk) : Type 0 where
  held : Held
  waiting : Waiting
  position : ℕ
  free : IsFree waiting
  is : w ≡ at held waiting position

next_free : (b : Bool) → IsFree (if b then positional else idle)
next_free true = tt
next_free false = tt

next_at : (c : List Rule) (waiting : Waiting) (k : ℕ) (word : Text) (h : Held) (o : Option Rule) → HasNoTrailing c → IsFree waiting → arg_by_index c k ≡ o → Next (to_positional c o word (at h waiting k) h)
next_at c waiting k word h None none f e = record { held = h; waiting = waiting; position = k; free = f; is = refl }
next_at c waiting k word h (Some a) none f e =
    record {
      held = positional_held c a word h;
      waiting = if is_multiple a then positional else idle;
      position = next_position a k;
      free = next_free (is_multiple a);
      is = ap (λ b. record (to_positional c (Some a) word (at h waiting k) h) { is_trailing = false || b }) (no_trailing _ c a none e);
    }

module _ (s : Shape) (none : HasNoTrailing s.rules) where
  next_of : (waiting : Waiting) (k : ℕ) (word : Text) (h : Held) → IsFree waiting → Next (placed s.rules (at h waiting k) word)
  next_of waiting k word h f = next_at s.rules waiting k word h (arg_by_index s.rules k) none f refl

  plain_walk : (waiting : Waiting) (k : ℕ) (ws : List Text) (h : Held) → IsFree waiting → AllByRecursion IsPlain ws → fold (walked s.rules []) (at h waiting k) ws ≡ fold (placed s.rules) (at h waiting k) ws
  plain_walk waiting k [] h f all = refl
  plain_walk waiting k (w ∷ ws) h f all =
      let x = next_of waiting k w h f in
      ap (λ y. fold (walked s.rules []) y ws) (plain_walked s.rules waiting k w h f all.0 ∙ x.is)
      ∙ plain_walk x.waiting x.position ws x.held x.free all.1 ∙ ap (λ y. fold (placed s.rules) y ws) (sym x.is)

  plain_walk_fault : (waiting : Waiting) (k : ℕ) (ws : List Text) (h : Held) → IsFree waiting → AllByRecursion IsPlain ws → walk_fault s [] (at h waiting k) ws ≡ placed_fault s (at h waiting k) ws
  unfolding walk_fault
  plain_walk_fault waiting k [] h f all = refl
  plain_walk_fault waiting k (w ∷ ws) h f all =
      let x = next_of waiting k w h f in
      ap (λ y. or_else y (walk_fault s [] (walked s.rules [] (at h waiting k) w) ws)) (plain_turn s waiting k w h f all.0)
      ∙ ap (λ y. or_else (step_fault s k h value) (walk_fault s [] y ws)) (plain_walked s.rules waiting k w h f all.0 ∙ x.is)
      ∙ ap (or_else (step_fault s k h value)) (plain_walk_fault x.waiting x.position ws x.held x.free all.1 ∙ ap (λ y. placed_fault s y ws) (sym x.is))

  -- what a command says of them at last, by the faults on the way and by where the walk stands
  abbrev pub ended : Kinds → Walk → Kinds
  ended faults w = or_else faults
      (or_else (settle_fault s.rules s.args_override_self w.held)
      (or_else (defaults_fault (settled s.rules w.held).rows s.rules) (check_fault s (finished s.rules w.held) false)))

  pub plain_fault : (ws : List Text) → AllByRecursion IsPlain ws → level_fault s [] nothing_held ws false [] ≡ ended (placed_fault s (walk_from nothing_held) ws) (fold (placed s.rules) (walk_from nothing_held) ws)
  plain_fault ws all = ap₂ ended (plain_walk_fault idle 1 ws nothing_held tt all) (plain_walk idle 1 ws nothing_held tt all)

  pub plain_rows : (ws : List Text) → AllByRecursion IsPlain ws → rows_after s.rules [] ws ≡ finished s.rules (fold (placed s.rules) (walk_from nothing_held) ws).held
  plain_rows ws all = ap (λ w. finished s.rules w.held) (plain_walk idle 1 ws nothing_held tt all)
