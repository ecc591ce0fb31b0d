-- The rule of a specification, part by part.
use Rattle.std.proofs.Common.{ℕ, List}
use Rattle.ax_grammar.proofs.Recursion.{reads}
use Rattle.ax_grammar.specs.Parsing.{Texts, Parsed, ◌>>=◌, expect_at, braced_at}
use Rattle.ax_grammar.specs.Rules.{category_at, text_at, item_at, uap_slot_at}
use Rattle.ax_grammar.specs.declared.keyword.Keyword.TheVariants as Word
use Rattle.ax_format.specs.Specification.{ItemTree, SpecTree}
use Rattle.ax_format.specs.declared.spec.UapSlot.{UapSlot}

abbrev pub made : ℕ → List ℕ → List ItemTree → List UapSlot → SpecTree
made category edition items uap = record { category = category; edition = edition; items = items; uap = uap }

-- the rule of a specification, from its parts on
abbrev pub uap_part : ℕ → List ℕ → List ItemTree → Texts → Parsed SpecTree
uap_part category edition items texts = braced_at uap_slot_at texts >>= λ u. reads (made category edition items u.0) u.1

abbrev pub items_part : ℕ → List ℕ → Texts → Parsed SpecTree
items_part category edition texts = braced_at item_at texts >>= λ i. expect_at Word.Uap i.1 >>= λ u. uap_part category edition i.0 u.1

abbrev pub edition_part : ℕ → Texts → Parsed SpecTree
edition_part category texts = text_at texts >>= λ t. expect_at Word.Items t.1 >>= λ u. items_part category t.0 u.1

abbrev pub category_part : Texts → Parsed SpecTree
category_part texts = category_at texts >>= λ c. expect_at Word.Edition c.1 >>= λ u. edition_part c.0 u.1
