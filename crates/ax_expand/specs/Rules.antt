-- A reader for each rule of expansion files. Only private calls are seen as readers; what they read is said by the spelling.
use Rattle.std.specs.Prelude.{ℕ, Ok, Err}
use Rattle.ax_format.specs.Tree.{slots_of}
use Rattle.ax_grammar.specs.Parsing.{Texts, Parsed, ◌>>=◌, one_at, expect_at, braced_at, all_of}
use Rattle.ax_grammar.specs.Rules.{keyword_at, category_at, text_at, slot_at}
use Rattle.ax_grammar.specs.Tests.{number_within}
use Rattle.ax_grammar.specs.declared.keyword.Keyword.{Keyword}
use Rattle.ax_grammar.specs.declared.keyword.Keyword.TheVariants as Word
use Rattle.ax_expand.specs.Expansion.{ExpansionTree}
use Rattle.ax_expand.specs.declared.form.Form.{Form}
use Rattle.ax_expand.specs.declared.form.Form.TheVariants.{Fx, Fixed}

-- a number of presence octets
abbrev pub octets_at : Texts → Parsed ℕ
octets_at texts = one_at (number_within 1 15) texts

-- what a form's keyword says; texts begin with it
abbrev pub form_by_word : Keyword → Texts → Texts → Parsed Form
form_by_word Word.Fx texts rest = Ok (Fx, rest)
form_by_word Word.Fixed texts rest = do
  octets ← octets_at rest
  Ok (Fixed octets.0, octets.1)
form_by_word word texts rest = Err texts

-- a form
unfoldable pub form_at : Texts → Parsed Form
form_at texts = do
  word ← keyword_at texts
  form_by_word word.0 texts word.1

-- an expansion; texts may follow it
unfoldable pub expansion_at : Texts → Parsed ExpansionTree
expansion_at texts = do
  word ← expect_at Word.Expansion texts
  category ← category_at word.1
  word ← expect_at Word.Edition category.1
  edition ← text_at word.1
  form ← form_at edition.1
  slots ← braced_at slot_at form.1
  Ok (record { category = category.0; edition = edition.0; form = form.0; slots = slots_of slots.0 }, slots.1)

-- all of the texts
unfoldable pub whole_at : Texts → Parsed ExpansionTree
whole_at texts = all_of expansion_at texts
