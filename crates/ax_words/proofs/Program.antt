-- What clap makes of all words.
use Rattle.std.proofs.Common.{◌≡◌, suc, ◌<◌, ◌++◌, ◌||◌, Bool, true, false, List, [], ◌∷◌, length, map, Option, Some, None, refl, sym, ◌∙◌, ap, subst, option_map, append_assoc, append-nil, arith}
use Rattle.std.specs.Prelude.{bytes_eq, cond, find, fold}
use Rattle.std.specs.List.{AllByRecursion}
use Rattle.std.proofs.Math.Bool.{and-false}
use Rattle.std.proofs.lemmas.Slice.Eq.{bytes_eq-Decides}
use Rattle.clap.specs.Walk.{Held, Names, Text, Walk, answers_to, idle, walk, walk_from, walked, subcommand_met, nothing_held}
use Rattle.clap.specs.Simple.{App, Shape as ClapShape, built, entered, label_of, names_of, rows_at, subcommand_of}
use Rattle.clap.specs.Faults.{built_fault, defaults_fault, fault_of, level_fault, turn_fault, walk_fault}
use Rattle.clap.specs.declared.error.kind.ErrorKind.TheVariants as kind
use Rattle.clap.specs.Kinds.{Kinds, or_else}
use Rattle.clap.proofs.OnLiterals.{clap_on_literals}
use Rattle.clap.proofs.WalkLemmas.{find-map}
use Rattle.ax_words.specs.Commands.{leaf_of_verb, program}
use Rattle.ax_words.specs.Found.{found}
use Rattle.ax_words.specs.Verbs.{name_of, shape_of, verb_named, verbs, TakesWords}
use Rattle.ax_words.specs.Words.{IsPlain, HasNoShape}
use Rattle.ax_words.specs.declared.line.Verb.{Verb}
use Rattle.ax_words.proofs.Counts.{Leaf, takes, refuses, leaf}
use Rattle.ax_words.proofs.Leaves.{fault, rows, sub}
use Rattle.ax_words.proofs.Shapes.{other_count, unnamed, no_words}
use Rattle.ax_words.proofs.Verbs.{verb_row}

-- ---- a word that names a subcommand, and those after it, whatever the subcommands are

abbrev stopped : Held → Text → List Text → Walk
stopped h name ws = record { held = h; waiting = idle; position = 1; is_trailing = false; stopped = Some (name, ws) }

top_stopped : (names : Names) (h : Held) (name : Text) (vs ws : List Text) → fold (walked [] names) (stopped h name vs) ws ≡ stopped h name (vs ++ ws)
unfolding walked
top_stopped names h name vs [] = ap (stopped h name) (sym (append-nil vs))
top_stopped names h name vs (w ∷ ws) = top_stopped names h name (vs ++ w ∷ []) ws ∙ ap (stopped h name) (append_assoc vs (w ∷ []) ws)

top_no_fault : (s : ClapShape) (names : Names) (h : Held) (name : Text) (vs ws : List Text) → s.rules ≡ [] → walk_fault s names (stopped h name vs) ws ≡ []
unfolding walk_fault walked
top_no_fault s names h name vs [] e = refl
top_no_fault s names h name vs (w ∷ ws) e = top_no_fault s names h name (vs ++ w ∷ []) ws e

or_nothing : (k : Kinds) → or_else k [] ≡ k
or_nothing [] = refl
or_nothing (x ∷ xs) = refl

-- the command with these subcommands
abbrev over : List ClapShape → App
over subs = record { top = (built program).top; subs = subs }

module _ (subs : List ClapShape) where
  abbrev names : Names
  names = names_of (over subs)

  met_is : (w : Text) (o : Option ClapShape) → find (λ x. answers_to w (label_of x)) subs ≡ o → subcommand_met names idle w ≡ option_map (λ s. s.name) o
  met_is w o e = ap (option_map (λ (p : Text × List Text). p.0)) (sym (find-map (answers_to w) label_of subs) ∙ ap (option_map label_of) e) ∙ by o
    where
      by : (o : Option ClapShape) → option_map (λ (p : Text × List Text). p.0) (option_map label_of o) ≡ option_map (λ s. s.name) o
      by None = refl
      by (Some s) = refl

  module _ (s : ClapShape) (ws : List Text) (e : find (λ x. answers_to s.name (label_of x)) subs ≡ Some s) where
    one_walked : walked [] names (walk_from nothing_held) s.name ≡ stopped nothing_held s.name []
    unfolding walked
    one_walked = rw (met_is s.name (Some s) e) refl

    walk_stops : walk [] names nothing_held (s.name ∷ ws) ≡ stopped nothing_held s.name ws
    walk_stops = ap (λ x. fold (walked [] names) x ws) one_walked ∙ top_stopped names nothing_held s.name [] ws

    no_turn_fault : turn_fault (built program).top names (walk_from nothing_held) s.name ≡ []
    no_turn_fault = rw (met_is s.name (Some s) e) (rw (and-false (bytes_eq s.name (104 ∷ 101 ∷ 108 ∷ 112 ∷ []))) refl)

    no_walk_fault : walk_fault (built program).top names (walk_from nothing_held) (s.name ∷ ws) ≡ []
    unfolding walk_fault
    no_walk_fault =
        ap (λ x. or_else x (walk_fault (built program).top names (walked [] names (walk_from nothing_held) s.name) ws)) no_turn_fault
        ∙ ap (λ x. walk_fault (built program).top names x ws) one_walked ∙ top_no_fault (built program).top names nothing_held s.name [] ws refl

    enters_over : built_fault (over subs) nothing_held (s.name ∷ ws) ≡ level_fault s [] nothing_held ws false []
    unfolding defaults_fault
    enters_over = rw (no_walk_fault, walk_stops, e) (or_nothing (level_fault s [] nothing_held ws false []))

    finds_over : entered (over subs) (walk [] names nothing_held (s.name ∷ ws)).stopped ≡ Some (rows_at s ws)
    finds_over = rw (walk_stops, e) refl

  unknown_over : (w : Text) (ws : List Text) → IsPlain w → find (λ x. answers_to w (label_of x)) subs ≡ None → built_fault (over subs) nothing_held (w ∷ ws) ≡ [] → ⊥
  unfolding clap_on_literals
  unknown_over [] ws p none e =
      let met = met_is [] None none in
      let first : turn_fault (built program).top names (walk_from nothing_held) [] ≡ kind.UnknownArgument ∷ kind.InvalidSubcommand ∷ [] = rw met refl in
      let e' = rw first at e in cc
  unknown_over (x ∷ xs) ws p none e =
      let met = met_is (x ∷ xs) None none in
      let first : turn_fault (built program).top names (walk_from nothing_held) (x ∷ xs) ≡ kind.UnknownArgument ∷ kind.InvalidSubcommand ∷ [] = rw met (rw p (rw p refl)) in
      let e' = rw first at e in cc

-- ---- the subcommands are those of the verbs

-- the subcommand of a verb as it is built
abbrev sub_of : Verb → ClapShape
sub_of v = sub (leaf_of_verb v)

sub_found : (w : Text) (vs : List Verb) → find (λ s. answers_to w (label_of s)) (map sub_of vs) ≡ option_map sub_of (find (λ v. bytes_eq (name_of v) w) vs)
sub_found w [] = refl
sub_found w (v ∷ vs) = by (bytes_eq (name_of v) w) (sub_found w vs)
  where
    by : (b : Bool) → find (λ s. answers_to w (label_of s)) (map sub_of vs) ≡ option_map sub_of (find (λ u. bytes_eq (name_of u) w) vs)
        → cond (b || false) (Some (sub_of v)) (find (λ s. answers_to w (label_of s)) (map sub_of vs)) ≡ option_map sub_of (cond b (Some v) (find (λ u. bytes_eq (name_of u) w) vs))
    by true e = refl
    by false e = e

-- the subcommand that a word names
sub_named : (w : Text) → find (λ s. answers_to w (label_of s)) (map sub_of verbs) ≡ option_map sub_of (verb_named w)
unfolding verb_named
sub_named w = sub_found w verbs

met : (v : Verb) → find (λ s. answers_to (name_of v) (label_of s)) (map sub_of verbs) ≡ Some (sub_of v)
met v = sub_named (name_of v) ∙ ap (option_map sub_of) (verb_row v).named

enters : (v : Verb) (ws : List Text) → fault_of program (name_of v ∷ ws) ≡ fault (leaf_of_verb v) ws
enters v ws = enters_over (map sub_of verbs) (sub_of v) ws (met v)

finds : (v : Verb) (ws : List Text) → subcommand_of program (name_of v ∷ ws) ≡ Some (name_of v, rows (leaf_of_verb v) ws)
finds v ws = finds_over (map sub_of verbs) (sub_of v) ws (met v)

unknown : (w : Text) (ws : List Text) → IsPlain w → verb_named w ≡ None → fault_of program (w ∷ ws) ≡ [] → ⊥
unknown w ws p e = unknown_over (map sub_of verbs) w ws p (sub_named w ∙ ap (option_map sub_of) e)

none_fault : fault_of program [] ≡ [] → ⊥
unfolding clap_on_literals
none_fault e = cc

-- ---- every list of plain words

-- clap takes the words, a verb and as many as it takes, or it refuses them and they have no shape
pub data Parsed (words : List Text) : Type 0 where
  taken : (v : Verb) (ws : List Text) → words ≡ name_of v ∷ ws → AllByRecursion IsPlain ws → TakesWords v (length ws) → fault_of program words ≡ [] → subcommand_of program words ≡ Some (name_of v, found (shape_of v) ws) → Parsed words
  refused : HasNoShape words → (fault_of program words ≡ [] → ⊥) → Parsed words

-- the word is the name of the verb that it names
name_is : (w : Text) (vs : List Verb) (u : Verb) → find (λ v. bytes_eq (name_of v) w) vs ≡ Some u → name_of u ≡ w
name_is w [] u e = absurd cc
name_is w (v ∷ vs) u e = by (bytes_eq (name_of v) w) refl e (name_is w vs u)
  where
    by : (b : Bool) → bytes_eq (name_of v) w ≡ b → cond b (Some v) (find (λ x. bytes_eq (name_of x) w) vs) ≡ Some u → (find (λ x. bytes_eq (name_of x) w) vs ≡ Some u → name_of u ≡ w) → name_of u ≡ w
    by true is e rest = let same : v ≡ u = cc in sym (ap name_of same) ∙ (bytes_eq-Decides (name_of v) w).0 is
    by false is e rest = rest e

named_is : (w : Text) (v : Verb) → verb_named w ≡ Some v → name_of v ≡ w
unfolding verb_named
named_is w v e = name_is w verbs v e

following : (v : Verb) (ws : List Text) → AllByRecursion IsPlain ws → Leaf (shape_of v) (name_of v) ws → Parsed (name_of v ∷ ws)
following v ws all (takes t f r) = taken v ws refl all t (enters v ws ∙ f) (finds v ws ∙ ap (λ x. Some (name_of v, x)) r)
following v ws all (refuses n f) = refused (other_count v ws n) (λ e. f (sym (enters v ws) ∙ e))

by_name : (w : Text) (ws : List Text) → IsPlain w → AllByRecursion IsPlain ws → suc (length ws) < 4294967296 → (o : Option Verb) → verb_named w ≡ o → Parsed (w ∷ ws)
by_name w ws p all few (Some v) e = subst (λ x. Parsed (x ∷ ws)) (named_is w v e) (following v ws all (leaf (shape_of v) (name_of v) ws all (omega (arith, few))))
by_name w ws p all few None e = refused (unnamed (w ∷ ws) e p) (unknown w ws p e)

pub parsed : (words : List Text) → AllByRecursion IsPlain words → length words < 4294967296 → Parsed words
parsed [] all few = refused no_words none_fault
parsed (w ∷ ws) all few = by_name w ws all.0 all.1 few (verb_named w) refl
