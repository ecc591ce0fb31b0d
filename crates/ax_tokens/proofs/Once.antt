-- The laws, by the reader's answer.
use Rattle.std.proofs.Common.{◌≡◌, ℕ, ◌+◌, ◌⊎◌, inl, inr, Result, Ok, Err, IfOk, IfErr, List, [], length, refl, ap, arith}
use Rattle.ax_tokens.specs.PlainToken.{PlainToken}
use Rattle.ax_tokens.specs.Lexing.{IsTokenText, MayFollow, Lexes, AreTokensOf}
use Rattle.ax_tokens.specs.Faults.{HasBadByte, IsTooDeep, IsFault, IsUnlessOutOfMemory}
use Rattle.ax_tokens.specs.declared.token.TokenKind.{TokenKind}
use Rattle.ax_tokens.specs.declared.token.TokenKind.TheVariants.{Word, Str, Open, Close}
use Rattle.ax_tokens.specs.declared.token.LexError.{LexError}
use Rattle.ax_tokens.specs.declared.token.LexError.TheVariants.{BadByte, TooDeep, OutOfMemory}
use Rattle.ax_tokens.proofs.Lexed.{reading}
use Rattle.ax_tokens.proofs.Back.{token_back}
use Rattle.ax_tokens.proofs.Answering.{tokens_answer, bad_byte_answer, too_deep_answer}
use Rattle.ax_tokens.proofs.Levels.{within_some}
use Rattle.ax_tokens.proofs.Existence.{IsAnswer, reading_is}

same_tokens : (ts us : List PlainToken) (r : Result (List PlainToken) LexError) → r ≡ Ok ts → r ≡ Ok us → ts ≡ us
same_tokens ts us r h k = cc

pub tokens_once : (text : List ℕ) (ts us : List PlainToken) → Lexes ts text [] → Lexes us text [] → ts ≡ us
tokens_once text ts us h k =
    let limit = length ts + length us in
    let one = tokens_answer text limit ts (record { lexed = h; within = within_some limit ts (omega arith) }) in
    let other = tokens_answer text limit us (record { lexed = k; within = within_some limit us (omega arith) }) in
    same_tokens ts us (reading text limit) one other

answer_cases : (text : List ℕ) (limit : ℕ) (r : Result (List PlainToken) LexError) → IsAnswer text limit r
    → ((ts : List PlainToken) × AreTokensOf text limit ts) ⊎ (((place : ℕ) × HasBadByte text limit place) ⊎ ((number : ℕ) × IsTooDeep text limit number))
answer_cases text limit (Ok ts) h = inl (ts, h)
answer_cases text limit (Err (BadByte place)) h = inr (inl (place, h))
answer_cases text limit (Err (TooDeep number)) h = inr (inr (number, h))
answer_cases text limit (Err OutOfMemory) h = absurd h

pub lexed_or_faulty : (text : List ℕ) (limit : ℕ)
    → ((ts : List PlainToken) × AreTokensOf text limit ts) ⊎ (((place : ℕ) × HasBadByte text limit place) ⊎ ((number : ℕ) × IsTooDeep text limit number))
lexed_or_faulty text limit = answer_cases text limit (reading text limit) (reading_is text limit)

pub no_bad_byte : (text : List ℕ) (limit : ℕ) (ts : List PlainToken) (place : ℕ) → AreTokensOf text limit ts → HasBadByte text limit place → ⊥
no_bad_byte text limit ts place h k =
    let one = tokens_answer text limit ts h in
    let other = bad_byte_answer text limit place k in cc

pub none_too_deep : (text : List ℕ) (limit : ℕ) (ts : List PlainToken) (number : ℕ) → AreTokensOf text limit ts → IsTooDeep text limit number → ⊥
none_too_deep text limit ts number h k =
    let one = tokens_answer text limit ts h in
    let other = too_deep_answer text limit number k in cc

pub bad_byte_once : (text : List ℕ) (limit place other : ℕ) → HasBadByte text limit place → HasBadByte text limit other → place ≡ other
bad_byte_once text limit place other h k =
    let one = bad_byte_answer text limit place h in
    let next = bad_byte_answer text limit other k in cc

pub too_deep_once : (text : List ℕ) (limit number other : ℕ) → IsTooDeep text limit number → IsTooDeep text limit other → number ≡ other
too_deep_once text limit number other h k =
    let one = too_deep_answer text limit number h in
    let next = too_deep_answer text limit other k in cc

pub one_kind : (text : List ℕ) (limit place number : ℕ) → HasBadByte text limit place → IsTooDeep text limit number → ⊥
one_kind text limit place number h k =
    let one = bad_byte_answer text limit place h in
    let other = too_deep_answer text limit number k in cc

-- where the text has tokens, nothing else is answered but want of memory
pub always_tokens : (text : List ℕ) (limit : ℕ) (r : Result (List PlainToken) LexError) → IfOk r (λ ts. AreTokensOf text limit ts) → IfErr r (λ e. IsFault text limit e)
    → (ts : List PlainToken) → AreTokensOf text limit ts → IsUnlessOutOfMemory r (Ok ts)
always_tokens text limit (Ok us) ok err ts h = inl (ap (λ x. Ok x) (tokens_once text us ts ok.lexed h.lexed))
always_tokens text limit (Err (BadByte place)) ok err ts h = absurd (no_bad_byte text limit ts place h err)
always_tokens text limit (Err (TooDeep number)) ok err ts h = absurd (none_too_deep text limit ts number h err)
always_tokens text limit (Err OutOfMemory) ok err ts h = inr refl

pub always_bad_byte : (text : List ℕ) (limit : ℕ) (r : Result (List PlainToken) LexError) → IfOk r (λ ts. AreTokensOf text limit ts) → IfErr r (λ e. IsFault text limit e)
    → (place : ℕ) → HasBadByte text limit place → IsUnlessOutOfMemory r (Err (BadByte place))
always_bad_byte text limit (Ok us) ok err place h = absurd (no_bad_byte text limit us place ok h)
always_bad_byte text limit (Err (BadByte other)) ok err place h = inl (ap (λ n. Err (BadByte n)) (bad_byte_once text limit other place err h))
always_bad_byte text limit (Err (TooDeep number)) ok err place h = absurd (one_kind text limit place number h err)
always_bad_byte text limit (Err OutOfMemory) ok err place h = inr refl

pub always_too_deep : (text : List ℕ) (limit : ℕ) (r : Result (List PlainToken) LexError) → IfOk r (λ ts. AreTokensOf text limit ts) → IfErr r (λ e. IsFault text limit e)
    → (number : ℕ) → IsTooDeep text limit number → IsUnlessOutOfMemory r (Err (TooDeep number))
always_too_deep text limit (Ok us) ok err number h = absurd (none_too_deep text limit us number ok h)
always_too_deep text limit (Err (BadByte place)) ok err number h = absurd (one_kind text limit place number err h)
always_too_deep text limit (Err (TooDeep other)) ok err number h = inl (ap (λ n. Err (TooDeep n)) (too_deep_once text limit other number err h))
always_too_deep text limit (Err OutOfMemory) ok err number h = inr refl

follows_none : (kind : TokenKind) → MayFollow kind []
follows_none Word = tt
follows_none Str = tt
follows_none Open = tt
follows_none Close = tt

pub kind_by_text : (kind other : TokenKind) (text : List ℕ) → IsTokenText kind text → IsTokenText other text → kind ≡ other
kind_by_text kind other text h k =
    let one = token_back kind text [] h (follows_none kind) in
    let next = token_back other text [] k (follows_none other) in cc
