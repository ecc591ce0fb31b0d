-- A block that the input begins with, after others, is one of the blocks that the whole input spells.
use Rattle.std.proofs.Common.{◌≡◌, ℕ, suc, ◌+◌, List, [], ◌∷◌, ◌++◌, length, take, drop, refl, sym, ◌∙◌, ap, subst, arith, append_assoc, length-append}
use Rattle.std.proofs.Math.Seq.{drop-append_seam, take-append_seam}
use Rattle.ax_format.proofs.EndsOnce.{block_once}
use Rattle.ax_format.proofs.Framings.{len_of_front}
use Rattle.ax_format.specs.Blocks.{BlockTree, read_block, opaque_block, IsFramed, SpellsBlock, SpellsStream}
use Rattle.ax_format.specs.Specification.{SpecTree}
use Rattle.ax_blocks.proofs.Streams.{framed_count}
use Rattle.ax_blocks.specs.Commands.{BlockCommand, IsGiven, AreGiven}

record Frame (octets : List ℕ) : Type 0 where
  category : ℕ
  body : List ℕ
  framed : IsFramed category body octets

frame_of : (catalogue : List SpecTree) (b : BlockTree) (octets : List ℕ) → SpellsBlock catalogue b octets → Frame octets
frame_of catalogue (read_block category records) octets h = record { category = category; body = h.body; framed = h.framed }
frame_of catalogue (opaque_block category content) octets h = record { category = category; body = content; framed = h.framed }

not_empty : (catalogue : List SpecTree) (b : BlockTree) (front after : List ℕ) → SpellsBlock catalogue b front → front ++ after ≡ [] → ⊥
not_empty catalogue b front after s e =
    let f : Frame front = frame_of catalogue b front s in
    let n : length front ≡ 3 + length f.body = framed_count f.category f.body front f.framed in
    let l : length front + length after ≡ 0 = sym (length-append front after) ∙ ap length e in
    absurd (omega arith)

pub record IsSameFront (b c : BlockTree) (x' y' : List ℕ) : Type 0 where
  pub block : b ≡ c
  pub after : x' ≡ y'

pub same_front : (catalogue : List SpecTree) (b c : BlockTree) (x x' y y' : List ℕ) → x ++ x' ≡ y ++ y' → SpellsBlock catalogue b x → SpellsBlock catalogue c y → IsSameFront b c x' y'
same_front catalogue b c x x' y y' e h g =
    let f : Frame x = frame_of catalogue b x h in
    let k : Frame y = frame_of catalogue c y g in
    let p = len_of_front f.category f.body x x' (x ++ x') f.framed refl in
    let q = len_of_front k.category k.body y y' (x ++ x') k.framed e in
    let n : length x ≡ length y = sym p.0 ∙ q.0 in
    let front : x ≡ y = sym (take-append_seam x x') ∙ ap (take (length x)) e ∙ ap (λ m. take m (y ++ y')) n ∙ take-append_seam y y' in
    let rest : x' ≡ y' = sym (drop-append_seam x x') ∙ ap (drop (length x)) e ∙ ap (λ m. drop m (y ++ y')) n ∙ drop-append_seam y y' in
    record { block = block_once catalogue x f.category f.body b c f.framed h (subst (SpellsBlock catalogue c) (sym front) g); after = rest }

pub none_more : (n : ℕ) → n ≡ n + 0
none_more n = omega arith

pub later_number : (n k : ℕ) → n + 1 + k ≡ n + suc k
later_number n k = omega arith

pub prefix_given : (c : BlockCommand) (n : ℕ) (before blocks : List BlockTree) (b : BlockTree) (octets front after input : List ℕ) → input ≡ octets ++ (front ++ after) → SpellsStream c.catalogue before octets → SpellsBlock c.catalogue b front
    → SpellsStream c.catalogue blocks input → AreGiven c n blocks → IsGiven (c.answer (n + length before) b)
prefix_given c n [] [] b octets front after input e s h more given = absurd (not_empty c.catalogue b front after h (sym (e ∙ ap (λ o. o ++ (front ++ after)) s) ∙ more))
prefix_given c n [] (x ∷ blocks) b octets front after input e s h (f, r, split, first, more) given =
    let same : IsSameFront x b r after = same_front c.catalogue x b f r front after (sym split ∙ e ∙ ap (λ o. o ++ (front ++ after)) s) first h in
    subst (λ m. IsGiven (c.answer m b)) (none_more n) (subst (λ y. IsGiven (c.answer n y)) same.block given.0)
prefix_given c n (a ∷ before) [] b octets front after input e (x, y, split, first, others) h more given =
    absurd (not_empty c.catalogue a x (y ++ (front ++ after)) first (sym (e ∙ ap (λ o. o ++ (front ++ after)) split ∙ append_assoc x y (front ++ after)) ∙ more))
prefix_given c n (a ∷ before) (z ∷ blocks) b octets front after input e (x, y, split, first, others) h (f, r, split', first', more) given =
    let same : IsSameFront z a r (y ++ (front ++ after)) = same_front c.catalogue z a f r x (y ++ (front ++ after)) (sym split' ∙ e ∙ ap (λ o. o ++ (front ++ after)) split ∙ append_assoc x y (front ++ after)) first' first in
    subst (λ m. IsGiven (c.answer m b)) (later_number n (length before)) (prefix_given c (n + 1) before blocks b y front after r same.after others h more given.1)
