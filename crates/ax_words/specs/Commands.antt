-- The command line as clap is given it.
use Rattle.std.specs.Prelude.{List, [], ◌∷◌, Some, true, codes, fold}
use Rattle.clap.specs.Lexer.{usize_max}
use Rattle.clap.specs.Walk.{Rule, Text}
use Rattle.clap.specs.Simple.{App, Shape as ClapShape, new_rule, new_shape, with_subcommand}
use Rattle.ax_words.specs.Verbs.{name_of, shape_of, verbs}
use Rattle.ax_words.specs.declared.line.Verb.{Verb}
use Rattle.ax_words.specs.declared.shape.Shape.{Shape}
use Rattle.ax_words.specs.declared.shape.Shape.TheVariants.{OneFile, Catalogue, Expression, Editions, Expansion, Numbers}

-- one word
abbrev pub one_word : Text → Rule
one_word id = record (new_rule id) { required = true }

-- one or more words
abbrev pub some_words : Text → Rule
some_words id = record (new_rule id) { required = true; range = Some (record { start_inclusive = 1; end_inclusive = usize_max }) }

-- the words of each shape
abbrev pub rules_of : Shape → List Rule
rules_of OneFile = one_word (codes "SPEC") ∷ []
rules_of Catalogue = some_words (codes "SPEC") ∷ []
rules_of Expression = one_word (codes "EXPR") ∷ some_words (codes "SPEC") ∷ []
rules_of Editions = one_word (codes "OLD") ∷ one_word (codes "NEW") ∷ []
rules_of Expansion = one_word (codes "SPEC") ∷ one_word (codes "EXPANSION") ∷ []
rules_of Numbers = one_word (codes "SPEC") ∷ one_word (codes "SEED") ∷ one_word (codes "COUNT") ∷ []

-- a subcommand with these rules
abbrev pub leaf_shape : Text → List Rule → ClapShape
leaf_shape name rules = record (new_shape name) { rules = rules }

abbrev pub leaf : Text → List Rule → App
leaf name rules = record { top = leaf_shape name rules; subs = [] }

-- a subcommand with three words
abbrev pub leaf_of_three : Text → Text → Text → Text → App
leaf_of_three name first second third = leaf name (one_word first ∷ one_word second ∷ one_word third ∷ [])

-- the subcommand of a verb
abbrev pub leaf_of_verb : Verb → ClapShape
leaf_of_verb verb = leaf_shape (name_of verb) (rules_of (shape_of verb))

-- the settings of the whole command
abbrev pub bare : App
bare = record {
  top = record (new_shape (codes "asterix")) {
    no_binary_name = true;
    disable_help_flag = true;
    disable_help_subcommand = true;
    disable_version_flag = true;
    subcommand_required = true;
  };
  subs = [];
}

abbrev pub with_verb : App → Verb → App
with_verb app verb = with_subcommand app (leaf_of_verb verb)

-- the whole command
abbrev pub program : App
program = fold with_verb bare verbs
