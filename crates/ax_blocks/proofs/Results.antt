-- The results of blocks, one block after another.
use Rattle.std.proofs.Common.{◌≡◌, ℕ, suc, ◌+◌, List, [], ◌∷◌, ◌++◌, length, sym, ◌∙◌, ap, subst, arith, append_assoc, append-nil}
use Rattle.ax_format.specs.Blocks.{BlockTree}
use Rattle.ax_blocks.specs.Commands.{BlockCommand, IsGiven, lines_in, octets_in, report_of, output_of, AreGiven}

later_number : (n k : ℕ) → n + 1 + k ≡ n + suc k
later_number n k = omega arith

none_more : (n : ℕ) → n ≡ n + 0
none_more n = omega arith

answer_at : (c : BlockCommand) (n k : ℕ) (b : BlockTree) → c.answer (n + 1 + k) b ≡ c.answer (n + suc k) b
answer_at c n k b = ap (λ m. c.answer m b) (later_number n k)

pub output_snoc : (c : BlockCommand) (n : ℕ) (blocks : List BlockTree) (b : BlockTree) → output_of c n (blocks ++ b ∷ []) ≡ output_of c n blocks ++ octets_in (c.answer (n + length blocks) b)
output_snoc c n [] b = append-nil (octets_in (c.answer n b)) ∙ ap (λ m. octets_in (c.answer m b)) (none_more n)
output_snoc c n (x ∷ blocks) b =
    ap (λ l. octets_in (c.answer n x) ++ l) (output_snoc c (n + 1) blocks b ∙ ap (λ a. output_of c (n + 1) blocks ++ octets_in a) (answer_at c n (length blocks) b))
    ∙ sym (append_assoc (octets_in (c.answer n x)) (output_of c (n + 1) blocks) (octets_in (c.answer (n + suc (length blocks)) b)))

pub report_snoc : (c : BlockCommand) (n : ℕ) (blocks : List BlockTree) (b : BlockTree) → report_of c n (blocks ++ b ∷ []) ≡ report_of c n blocks ++ lines_in (c.answer (n + length blocks) b)
report_snoc c n [] b = append-nil (lines_in (c.answer n b)) ∙ ap (λ m. lines_in (c.answer m b)) (none_more n)
report_snoc c n (x ∷ blocks) b =
    ap (λ l. lines_in (c.answer n x) ++ l) (report_snoc c (n + 1) blocks b ∙ ap (λ a. report_of c (n + 1) blocks ++ lines_in a) (answer_at c n (length blocks) b))
    ∙ sym (append_assoc (lines_in (c.answer n x)) (report_of c (n + 1) blocks) (lines_in (c.answer (n + suc (length blocks)) b)))

pub given_snoc : (c : BlockCommand) (n : ℕ) (blocks : List BlockTree) (b : BlockTree) → AreGiven c n blocks → IsGiven (c.answer (n + length blocks) b) → AreGiven c n (blocks ++ b ∷ [])
given_snoc c n [] b h g = (subst (λ m. IsGiven (c.answer m b)) (sym (none_more n)) g, tt)
given_snoc c n (x ∷ blocks) b h g = (h.0, given_snoc c (n + 1) blocks b h.1 (subst IsGiven (sym (answer_at c n (length blocks) b)) g))
