-- What is said of a line, by its tokens or by the first octet or brace for which it has none.
use Rattle.std.proofs.Common.{◌≡◌, ℕ, List, [], ◌∷◌, length, refl, sym, ◌∙◌, subst, arith}
use Rattle.ax_build_work.specs.BuildCommand.{IsBuiltOf, AnswersSome, AnswersLine, by_tokens, by_octet, by_brace}
use Rattle.ax_build_work.specs.Stops.{stop_of_lexing, NotBuilt, StopsLine}
use Rattle.ax_build_work.specs.declared.fault.BuildStop.{BuildStop}
use Rattle.ax_build_work.specs.declared.fault.BuildStop.TheVariants as Stop
use Rattle.ax_lines.specs.declared.text_fault.TextFault.{TextFault}
use Rattle.ax_lines.specs.Commands.{LineAnswer, gives, nothing, refused}
use Rattle.ax_format.specs.Specification.{SpecTree}
use Rattle.ax_tokens.specs.Faults.{IsFault}
use Rattle.ax_tokens.specs.Lexing.{AreTokensOf}
use Rattle.ax_tokens.specs.PlainToken.{PlainToken}
use Rattle.ax_tokens.specs.declared.token.LexError.{LexError}
use Rattle.ax_tokens.specs.declared.token.LexError.TheVariants as LexErrorOf

module _ (catalogue : List SpecTree) (line : List ℕ) where
  pub lexing_stops : (error : LexError) (stop : BuildStop) → IsFault line 20 error → stop ≡ stop_of_lexing error → StopsLine catalogue line stop
  lexing_stops (LexErrorOf.BadByte at) stop h is = subst (StopsLine catalogue line) (sym is) (by_octet at h refl)
  lexing_stops (LexErrorOf.TooDeep token) stop h is = subst (StopsLine catalogue line) (sym is) (by_brace token h refl)
  lexing_stops LexErrorOf.OutOfMemory stop h is = subst (StopsLine catalogue line) (sym is) tt

  -- of so many tokens
  module _ (tokens : List PlainToken) (count : ℕ) (lexed : AreTokensOf line 20 tokens) (counted : count ≡ length tokens) where
    pub none_asked : count ≡ 0 → AnswersLine catalogue line nothing
    none_asked none = by_none tokens lexed (sym counted ∙ none)
      where
        by_none : (ts : List PlainToken) → AreTokensOf line 20 ts → length ts ≡ 0 → AnswersLine catalogue line nothing
        by_none [] h e = by_tokens [] h refl
        by_none (t ∷ ts) h e = absurd (omega (arith, e))

    some_answered : (count ≡ 0 → ⊥) → (answer : LineAnswer TextFault) → AnswersSome catalogue tokens answer → AnswersLine catalogue line answer
    some_answered some answer h = by_some tokens lexed (λ e. some (counted ∙ e)) h
      where
        by_some : (ts : List PlainToken) → AreTokensOf line 20 ts → (length ts ≡ 0 → ⊥) → AnswersSome catalogue ts answer → AnswersLine catalogue line answer
        by_some [] l none k = absurd (none refl)
        by_some (t ∷ ts) l none k = by_tokens (t ∷ ts) l k

    pub built_line : (octets : List ℕ) → (count ≡ 0 → ⊥) → IsBuiltOf catalogue tokens octets → AnswersLine catalogue line (gives octets)
    built_line octets some h = some_answered some (gives octets) h

    pub not_built : (stop : BuildStop) → (count ≡ 0 → ⊥) → NotBuilt catalogue tokens stop → StopsLine catalogue line stop
    not_built (Stop.Refused fault) some h = some_answered some (refused fault) h
    not_built Stop.OutOfMemory some h = tt

pub ruleset lines_built = (lexing_stops)
