use Rattle.std.proofs.Common.{◌≡◌, ◌/◌, ◌%◌, ◌++◌, [], ◌∷◌, sym, ap, ◌∙◌, subst, append-nil}
use Rattle.ax_bits.proofs.Pieces.{word-low, word-split}
use Rattle.ax_bits.specs.Bits.{word, bits}
use Rattle.ax_bits.specs.Out.{Appends}
use Rattle.ax_values.proofs.encode.write_front.Goals as goal

pub returns-clause-written : goal.returns-clause-written
returns-clause-written c =
    let n = c.args.length in
    let category = word 8 c.args.category in
    let first = word 8 (n / 256) in
    let second = word 8 (n % 256) in
    let split : first ++ second ≡ word 16 n = ap (λ x. first ++ x) (word-low 8 n) ∙ sym (word-split 8 8 n) in
    let same : bits (c.args.category ∷ n / 256 ∷ n % 256 ∷ []) ≡ category ++ word 16 n = ap (λ x. category ++ (first ++ x)) (append-nil second) ∙ ap (λ x. category ++ x) split in
    subst (Appends c.args.out.now c.push_octets.new.self) same c.push_octets.ensures
