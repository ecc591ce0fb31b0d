-- Each token's text is the slice of its span, and the octets of a token of its kind.
use Rattle.std.proofs.Common.{◌≡◌, ℕ, ◌+◌, ◌-◌, List, [], ◌∷◌, ◌++◌, length, take, drop, slice_range, All, refl, sym, ◌∙◌, ap, arith, append_assoc, length-append}
use Rattle.std.specs.List.{AllByRecursion}
use Rattle.std.proofs.lemmas.List.{take_at, drop_at}
use Rattle.std.proofs.lemmas.List.Elements.{All-from_recursion}
use Rattle.ax_tokens.specs.PlainToken.{PlainToken}
use Rattle.ax_tokens.specs.Lexing.{HasTokenText, AreTokensWithGaps, AreTokensOf}

abbrev IsSlice : List ℕ → PlainToken → Type 0
IsSlice text t = t.text ≡ slice_range text t.from t.to

slice_is : (text front middle back : List ℕ) (from to : ℕ) → text ≡ front ++ (middle ++ back) → from ≡ length front → to ≡ from + length middle → middle ≡ slice_range text from to
slice_is text front middle back from to e begins ends =
    let following : drop from text ≡ middle ++ back = ap (drop from) e ∙ drop_at front (middle ++ back) from (sym begins) in
    let n : length middle ≡ to - from = omega arith in
    sym (ap (take (to - from)) following ∙ take_at middle back (to - from) n)

each_slice : (text : List ℕ) (ts : List PlainToken) (front octets : List ℕ) (at : ℕ) → text ≡ front ++ octets → at ≡ length front → AreTokensWithGaps at ts octets [] → AllByRecursion (IsSlice text) ts
each_slice text [] front octets at e begins h = tt
each_slice text (t ∷ ts) front octets at e begins (gap, more, parts, from, to, is_text, follows, is_gap, each) =
    let split : text ≡ front ++ (t.text ++ (gap ++ more)) = e ∙ ap (λ o. front ++ o) parts in
    let longer = front ++ (t.text ++ gap) in
    let next : text ≡ longer ++ more
    = split ∙ ap (λ o. front ++ o) (sym (append_assoc t.text gap more)) ∙ sym (append_assoc front (t.text ++ gap) more) in
    let count : length longer ≡ length front + (length t.text + length gap) = length-append front (t.text ++ gap) ∙ ap (λ n. length front + n) (length-append t.text gap) in
    let place : t.to + length gap ≡ length longer = omega arith in
    let ends : t.to ≡ t.from + length t.text = to ∙ ap (λ n. n + length t.text) (sym from) in
    (slice_is text front t.text (gap ++ more) t.from t.to split (from ∙ begins) ends, each_slice text ts longer more (t.to + length gap) next place each)

pub slices : (text : List ℕ) (limit : ℕ) (ts : List PlainToken) → AreTokensOf text limit ts → All (λ t. t.text ≡ slice_range text t.from t.to) ts
slices text limit ts h =
    All-from_recursion (IsSlice text) ts (each_slice text ts h.lexed.gap h.lexed.more (length h.lexed.gap) h.lexed.split refl h.lexed.each_token)

each_text : (ts : List PlainToken) (at : ℕ) (octets rest : List ℕ) → AreTokensWithGaps at ts octets rest → AllByRecursion HasTokenText ts
each_text [] at octets rest h = tt
each_text (t ∷ ts) at octets rest (gap, more, parts, from, to, is_text, follows, is_gap, each) = (is_text, each_text ts (t.to + length gap) more rest each)

pub texts : (text : List ℕ) (limit : ℕ) (ts : List PlainToken) → AreTokensOf text limit ts → All HasTokenText ts
texts text limit ts h = All-from_recursion HasTokenText ts (each_text ts (length h.lexed.gap) h.lexed.more [] h.lexed.each_token)
