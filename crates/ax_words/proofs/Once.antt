-- Words ask for one line at most.
use Rattle.std.proofs.Common.{◌≡◌, sym, ◌∙◌, ap, ap₂, arith}
use Rattle.std.proofs.lemmas.Fmt.{decimal_injective}
use Rattle.ax_words.specs.Arguments.{Arguments, one_file, catalogue, expression, editions, expansion, numbers, AreInBounds, shape_of_arguments, words_after}
use Rattle.ax_words.specs.Verbs.{shape_of, verb_named, Said, of_verb, alone, said}
use Rattle.ax_words.specs.Words.{IsSaidInBounds, HasShape, words_of, words_said}
use Rattle.ax_words.specs.declared.line.Line.{Line}
use Rattle.ax_words.proofs.Shapes.{Words, first, tail, said_named, verb_said}
use Rattle.ax_words.proofs.Verbs.{said_shape, same_line, IsShaped}

first_same : (a b : Words) → a ≡ b → first a ≡ first b
first_same a b e = ap first e

second_same : (a b : Words) → a ≡ b → first (tail a) ≡ first (tail b)
second_same a b e = ap (λ x. first (tail x)) e

third_same : (a b : Words) → a ≡ b → first (tail (tail a)) ≡ first (tail (tail b))
third_same a b e = ap (λ x. first (tail (tail x))) e

same_arguments : (a b : Arguments) → shape_of_arguments a ≡ shape_of_arguments b → words_after a ≡ words_after b → AreInBounds a → AreInBounds b → a ≡ b
same_arguments (one_file f) (one_file g) s e p q = ap one_file (first_same _ _ e)
same_arguments (catalogue f) (catalogue g) s e p q = ap catalogue e
same_arguments (expression d f) (expression h g) s e p q = ap₂ expression (first_same _ _ e) (ap tail e)
same_arguments (editions c d) (editions f g) s e p q = ap₂ editions (first_same _ _ e) (second_same _ _ e)
same_arguments (expansion c d) (expansion f g) s e p q = ap₂ expansion (first_same _ _ e) (second_same _ _ e)
same_arguments (numbers f n m) (numbers g k l) s e p q =
    let seed : n ≡ k = decimal_injective n k p.0 q.0 (second_same _ _ e) in
    let count : m ≡ l = decimal_injective m l (omega (arith, p.1)) (omega (arith, q.1)) (third_same _ _ e) in
    ap₂ (λ x y. numbers x y m) (first_same _ _ e) seed ∙ ap (numbers g k) count
same_arguments a b s e p q = cc

same_said : (s t : Said) → IsShaped s → IsShaped t → IsSaidInBounds s → IsSaidInBounds t → verb_said s ≡ verb_said t → words_said s ≡ words_said t → s ≡ t
same_said (of_verb v a) (of_verb u b) h k p q verbs e =
    let same : v ≡ u = cc in
    ap₂ of_verb same (same_arguments a b (sym h ∙ ap shape_of same ∙ k) (ap tail e) p q)
same_said (of_verb v a) (alone w) h k p q verbs e = absurd cc
same_said (alone w) (of_verb u b) h k p q verbs e = absurd cc
same_said (alone w) (alone x) h k p q verbs e = ap alone (first_same _ _ e)

pub once : (words : Words) (a b : Line) → HasShape words a → HasShape words b → a ≡ b
once words a b h k =
    let e : words_of a ≡ words_of b = sym h.words_are ∙ k.words_are in
    let verbs = sym (said_named (said a) (said_shape a)) ∙ ap (λ x. verb_named (first x)) e ∙ said_named (said b) (said_shape b) in
    same_line a b (same_said (said a) (said b) (said_shape a) (said_shape b) h.in_bounds k.in_bounds verbs e)
