-- `build` has an answer for each line.
use Rattle.std.proofs.Common.{ℕ, ◌<◌, ◌≤◌, ◌⊎◌, inl, inr, List, [], ◌∷◌, refl}
use Rattle.std.specs.List.{AllByRecursion}
use Rattle.std.proofs.lemmas.Bool.{cases_lt}
use Rattle.ax_block_reader.specs.BlockTexts.{IsBlockText, canonical_length, Spells}
use Rattle.ax_build_work.specs.BuildCommand.{deepest, canon_under, AnswersSome, AnswersTokens, AnswersLine, by_tokens, by_octet, by_brace}
use Rattle.ax_format.specs.Blocks.{BlockTree}
use Rattle.ax_format.specs.Flaws.{NoFlaw}
use Rattle.ax_format.specs.Lengths.{capped}
use Rattle.ax_format.specs.Sizes.{longest_block}
use Rattle.ax_format.specs.Specification.{SpecTree}
use Rattle.ax_laws.proofs.BlocksRead.{text_or_bad}
use Rattle.ax_lines.specs.Commands.{LineAnswer, gives, nothing, refused}
use Rattle.ax_lines.specs.declared.text_fault.TextFault.{TextFault}
use Rattle.ax_lines.specs.declared.text_fault.TextFault.TheVariants.{BadByte, TooDeep, BadToken, TooLong}
use Rattle.ax_text_form.specs.Names.{IsNamed}
use Rattle.ax_tokens.proofs.Once.{lexed_or_faulty}
use Rattle.ax_tokens.specs.Faults.{HasBadByte, IsTooDeep}
use Rattle.ax_tokens.specs.FirstBad.{FirstBad}
use Rattle.ax_tokens.specs.Lexing.{AreTokensOf}
use Rattle.ax_tokens.specs.PlainToken.{PlainToken}
use Rattle.ax_tokens.specs.Stopping.{texts_of}

module _ (catalogue : List SpecTree) (good : AllByRecursion (λ spec. NoFlaw spec × IsNamed spec) catalogue) where
  abbrev SomeAnswers : List PlainToken → Type 0
  SomeAnswers tokens = (answer : LineAnswer TextFault) × AnswersSome catalogue tokens answer

  by_length : (tokens : List PlainToken) (block : BlockTree) → Spells catalogue tokens block → (longest_block < canonical_length catalogue block) ⊎ (canonical_length catalogue block ≤ longest_block) → SomeAnswers tokens
  by_length tokens block s (inl long) = (refused (TooLong (capped (canonical_length catalogue block))), record { block = block; spells = s; above = long; number = refl })
  by_length tokens block s (inr short) = (gives (canon_under catalogue block), record { block = block; text = record { spells = s; within = short }; canonical = refl })

  by_text : (tokens : List PlainToken) → ((block : BlockTree) × Spells catalogue tokens block) ⊎ ((token : ℕ) × FirstBad (IsBlockText catalogue) (texts_of tokens) token) → SomeAnswers tokens
  by_text tokens (inl (block, s)) = by_length tokens block s (cases_lt longest_block (canonical_length catalogue block))
  by_text tokens (inr (token, bad)) = (refused (BadToken token), bad)

  of_tokens : (tokens : List PlainToken) → (answer : LineAnswer TextFault) × AnswersTokens catalogue tokens answer
  of_tokens [] = (nothing, refl)
  of_tokens (token ∷ tokens) = by_text (token ∷ tokens) (text_or_bad catalogue good (token ∷ tokens))

  by_octets : (line : List ℕ) → ((tokens : List PlainToken) × AreTokensOf line deepest tokens) ⊎ ((place : ℕ) × HasBadByte line deepest place) ⊎ ((number : ℕ) × IsTooDeep line deepest number) → (answer : LineAnswer TextFault) × AnswersLine catalogue line answer
  by_octets line (inl (tokens, lexed)) = let a = of_tokens tokens in (a.0, by_tokens tokens lexed a.1)
  by_octets line (inr (inl (place, bad))) = (refused (BadByte place), by_octet place bad refl)
  by_octets line (inr (inr (number, deep))) = (refused (TooDeep number), by_brace number deep refl)

  pub line_answered : (line : List ℕ) → (answer : LineAnswer TextFault) × AnswersLine catalogue line answer
  line_answered line = by_octets line (lexed_or_faulty line deepest)
