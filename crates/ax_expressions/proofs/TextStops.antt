-- The text of an expression, by its tokens.
use Rattle.std.proofs.Common.{◌≡◌, ℕ, List, refl, sym, ◌∙◌, ap, subst, ◌⊎◌, inl, inr}
use Rattle.ax_format.specs.Specification.{SpecTree}
use Rattle.ax_tokens.specs.Stopping.{texts_of}
use Rattle.ax_tokens.proofs.Once.{tokens_once, no_bad_byte, none_too_deep, bad_byte_once, too_deep_once, one_kind}
use Rattle.ax_tokens.specs.Faults as lexing
use Rattle.ax_tokens.specs.Lexing.{AreTokensOf}
use Rattle.ax_tokens.specs.PlainToken.{PlainToken}
use Rattle.ax_tokens.specs.declared.token.LexError.{LexError}
use Rattle.ax_tokens.specs.declared.token.LexError.TheVariants as LexErrorOf
use Rattle.ax_expressions.specs.Faults.{IsFault}
use Rattle.ax_expressions.specs.FilterTokens.{IsFilterOf}
use Rattle.ax_expressions.specs.Texts.{IsFilterText, TokensFail, IsRefused, IsStopped, stop_of_lexing, stop_of_reading}
use Rattle.ax_expressions.specs.Tree.{ExprTree}
use Rattle.ax_expressions.specs.declared.error.FilterError.{FilterError}
use Rattle.ax_expressions.specs.declared.error.FilterError.TheVariants as FilterErrorOf
use Rattle.ax_expressions.specs.declared.stop.FilterFault.{FilterFault}
use Rattle.ax_expressions.specs.declared.stop.FilterFault.TheVariants.{BadByte, TooDeep, BadToken, UnknownPath, NotAnElement}
use Rattle.ax_expressions.specs.declared.stop.FilterStop.{FilterStop}
use Rattle.ax_expressions.specs.declared.stop.FilterStop.TheVariants.{Refused, OutOfMemory}
use Rattle.ax_expressions.proofs.Once.{one_expression, one_fault, no_fault}

-- ---- what the reader answers

pub lexing_stops : (catalogue : List SpecTree) (text : List ℕ) (error : LexError) (stop : FilterStop) → lexing.IsFault text 16 error → stop ≡ stop_of_lexing error → IsStopped catalogue text stop
lexing_stops catalogue text (LexErrorOf.BadByte at) stop h is = subst (IsStopped catalogue text) (sym is) h
lexing_stops catalogue text (LexErrorOf.TooDeep token) stop h is = subst (IsStopped catalogue text) (sym is) h
lexing_stops catalogue text LexErrorOf.OutOfMemory stop h is = subst (IsStopped catalogue text) (sym is) tt

pub reading_stops : (catalogue : List SpecTree) (text : List ℕ) (tokens : List PlainToken) (error : FilterError) (stop : FilterStop) → AreTokensOf text 16 tokens → IsFault catalogue (texts_of tokens) error → stop ≡ stop_of_reading error → IsStopped catalogue text stop
reading_stops catalogue text tokens (FilterErrorOf.BadToken token) stop lexed h is = subst (IsStopped catalogue text) (sym is) (record { tokens = tokens; lexed = lexed; fault = h })
reading_stops catalogue text tokens (FilterErrorOf.UnknownPath token) stop lexed h is = subst (IsStopped catalogue text) (sym is) (record { tokens = tokens; lexed = lexed; fault = h })
reading_stops catalogue text tokens (FilterErrorOf.NotAnElement token) stop lexed h is = subst (IsStopped catalogue text) (sym is) (record { tokens = tokens; lexed = lexed; fault = h })
reading_stops catalogue text tokens FilterErrorOf.OutOfMemory stop lexed h is = subst (IsStopped catalogue text) (sym is) tt

pub text_filter : (catalogue : List SpecTree) (text : List ℕ) (tokens : List PlainToken) (e : ExprTree) → AreTokensOf text 16 tokens → IsFilterOf catalogue tokens e → IsFilterText catalogue text e
text_filter catalogue text tokens e lexed h = record { tokens = tokens; lexed = lexed; filter = h }

pub ruleset text_stops = (lexing_stops, reading_stops, text_filter)

-- ---- one answer

-- a fault of octets and braces, or of tokens
data Cause (catalogue : List SpecTree) (text : List ℕ) (fault : FilterFault) : Type 0 where
  by_octets : (error : LexError) → lexing.IsFault text 16 error → stop_of_lexing error ≡ Refused fault → Cause catalogue text fault
  by_tokens : (error : FilterError) → TokensFail catalogue text error → stop_of_reading error ≡ Refused fault → Cause catalogue text fault

cause : (catalogue : List SpecTree) (text : List ℕ) (fault : FilterFault) → IsRefused catalogue text fault → Cause catalogue text fault
cause catalogue text (BadByte at) h = by_octets (LexErrorOf.BadByte at) h refl
cause catalogue text (TooDeep token) h = by_octets (LexErrorOf.TooDeep token) h refl
cause catalogue text (BadToken token) h = by_tokens (FilterErrorOf.BadToken token) h refl
cause catalogue text (UnknownPath token) h = by_tokens (FilterErrorOf.UnknownPath token) h refl
cause catalogue text (NotAnElement token) h = by_tokens (FilterErrorOf.NotAnElement token) h refl

same_refused : (x y : FilterFault) → Refused x ≡ Refused y → x ≡ y
same_refused x y e = cc

never_memory : (x : FilterFault) → OutOfMemory ≡ Refused x → ⊥
never_memory x e = absurd (cc)

-- text that has tokens has no fault of octets and braces
lexed_well : (text : List ℕ) (tokens : List PlainToken) (error : LexError) (x : FilterFault) → AreTokensOf text 16 tokens → lexing.IsFault text 16 error → stop_of_lexing error ≡ Refused x → ⊥
lexed_well text tokens (LexErrorOf.BadByte at) x lexed h is = no_bad_byte text 16 tokens at lexed h
lexed_well text tokens (LexErrorOf.TooDeep token) x lexed h is = none_too_deep text 16 tokens token lexed h
lexed_well text tokens LexErrorOf.OutOfMemory x lexed h is = never_memory x is

one_of_octets : (text : List ℕ) (a b : LexError) (x y : FilterFault) → lexing.IsFault text 16 a → lexing.IsFault text 16 b → stop_of_lexing a ≡ Refused x → stop_of_lexing b ≡ Refused y → x ≡ y
one_of_octets text (LexErrorOf.BadByte p) (LexErrorOf.BadByte q) x y h k is to = same_refused x y (sym is ∙ ap (λ n. Refused (BadByte n)) (bad_byte_once text 16 p q h k) ∙ to)
one_of_octets text (LexErrorOf.BadByte p) (LexErrorOf.TooDeep q) x y h k is to = absurd (one_kind text 16 p q h k)
one_of_octets text (LexErrorOf.TooDeep p) (LexErrorOf.BadByte q) x y h k is to = absurd (one_kind text 16 q p k h)
one_of_octets text (LexErrorOf.TooDeep p) (LexErrorOf.TooDeep q) x y h k is to = same_refused x y (sym is ∙ ap (λ n. Refused (TooDeep n)) (too_deep_once text 16 p q h k) ∙ to)
one_of_octets text (LexErrorOf.BadByte p) LexErrorOf.OutOfMemory x y h k is to = absurd (never_memory y to)
one_of_octets text (LexErrorOf.TooDeep p) LexErrorOf.OutOfMemory x y h k is to = absurd (never_memory y to)
one_of_octets text LexErrorOf.OutOfMemory b x y h k is to = absurd (never_memory x is)

same_error : (a b : FilterError) (x y : FilterFault) → stop_of_reading a ≡ Refused x → stop_of_reading b ≡ Refused y → (a ≡ b) ⊎ ((a ≡ FilterErrorOf.OutOfMemory) ⊎ (b ≡ FilterErrorOf.OutOfMemory)) → x ≡ y
same_error a b x y is to (inl e) = same_refused x y (sym is ∙ ap stop_of_reading e ∙ to)
same_error a b x y is to (inr (inl e)) = absurd (never_memory x (sym (ap stop_of_reading e) ∙ is))
same_error a b x y is to (inr (inr e)) = absurd (never_memory y (sym (ap stop_of_reading e) ∙ to))

same_tokens : (text : List ℕ) (ts us : List PlainToken) → AreTokensOf text 16 ts → AreTokensOf text 16 us → ts ≡ us
same_tokens text ts us h k = tokens_once text ts us h.lexed k.lexed

one_cause : (catalogue : List SpecTree) (text : List ℕ) (x y : FilterFault) → Cause catalogue text x → Cause catalogue text y → x ≡ y
one_cause catalogue text x y (by_octets a h is) (by_octets b k to) = one_of_octets text a b x y h k is to
one_cause catalogue text x y (by_octets a h is) (by_tokens b k to) = absurd (lexed_well text k.tokens a x k.lexed h is)
one_cause catalogue text x y (by_tokens a h is) (by_octets b k to) = absurd (lexed_well text h.tokens b y h.lexed k to)
one_cause catalogue text x y (by_tokens a h is) (by_tokens b k to) =
    same_error a b x y is to (one_fault catalogue k.tokens a b (subst (λ ts. IsFault catalogue (texts_of ts) a) (same_tokens text h.tokens k.tokens h.lexed k.lexed) h.fault) k.fault)

pub refused_once : (catalogue : List SpecTree) (text : List ℕ) (x y : FilterFault) → IsRefused catalogue text x → IsRefused catalogue text y → x ≡ y
refused_once catalogue text x y h k = one_cause catalogue text x y (cause catalogue text x h) (cause catalogue text y k)

pub filter_once : (catalogue : List SpecTree) (text : List ℕ) (e other : ExprTree) → IsFilterText catalogue text e → IsFilterText catalogue text other → e ≡ other
filter_once catalogue text e other h k =
    one_expression k.tokens e other (subst (λ ts. IsFilterOf catalogue ts e) (same_tokens text h.tokens k.tokens h.lexed k.lexed) h.filter).spells k.filter.spells

not_caused : (catalogue : List SpecTree) (text : List ℕ) (e : ExprTree) (x : FilterFault) → IsFilterText catalogue text e → Cause catalogue text x → ⊥
not_caused catalogue text e x h (by_octets a k is) = lexed_well text h.tokens a x h.lexed k is
not_caused catalogue text e x h (by_tokens a k is) =
    let none : a ≡ FilterErrorOf.OutOfMemory = no_fault catalogue k.tokens e a (subst (λ ts. IsFilterOf catalogue ts e) (same_tokens text h.tokens k.tokens h.lexed k.lexed) h.filter) k.fault in
    never_memory x (sym (ap stop_of_reading none) ∙ is)

pub filter_not_refused : (catalogue : List SpecTree) (text : List ℕ) (e : ExprTree) (x : FilterFault) → IsFilterText catalogue text e → IsRefused catalogue text x → ⊥
filter_not_refused catalogue text e x h k = not_caused catalogue text e x h (cause catalogue text x k)
