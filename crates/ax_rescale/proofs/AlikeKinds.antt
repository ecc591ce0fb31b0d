-- The test of alikeness holds exactly for alike kinds.
use Rattle.std.proofs.Common.{◌≡◌, ◌↔◌, Bool, true, false, ◌&&◌, sym, ◌∙◌}
use Rattle.ax_relation.proofs.SameKinds.{both, same_kinds, kinds_same}
use Rattle.ax_format.specs.Same.{is_same}
use Rattle.ax_format.specs.Tree.{KindTree}
use Rattle.ax_rescale.specs.Alike.{Alike, is_alike, is_plain, unscaled}

pub alike_kinds : (k l : KindTree) → is_alike k l ≡ true → Alike k l
alike_kinds k l e =
    let p = both (is_plain k) (is_plain l && is_same (unscaled k) (unscaled l)) e in
    let q = both (is_plain l) (is_same (unscaled k) (unscaled l)) p.1 in
    record { old_plain = p.0; new_plain = q.0; same = same_kinds (unscaled k) (unscaled l) q.1 }

pub unscaled_same : (k l : KindTree) → Alike k l → is_same (unscaled k) (unscaled l) ≡ true
unscaled_same k l a = kinds_same (unscaled k) (unscaled l) a.same

pub kinds_alike : (k l : KindTree) → Alike k l → is_alike k l ≡ true
kinds_alike k l a = λ i. a.old_plain i && (a.new_plain i && unscaled_same k l a i)

-- between plain kinds the test of what is left decides
pub plain_kinds : (k l : KindTree) (b : Bool) → is_plain k ≡ true → is_plain l ≡ true → b ≡ is_same (unscaled k) (unscaled l) → b ≡ true ↔ Alike k l
plain_kinds k l b p q e = (
  λ t. record { old_plain = p; new_plain = q; same = same_kinds (unscaled k) (unscaled l) (sym e ∙ t) },
  λ a. e ∙ unscaled_same k l a,
)

pub compound_kinds : (k l : KindTree) → false ≡ is_plain k && is_plain l → false ≡ true ↔ Alike k l
compound_kinds k l e = (λ t. absurd (cc), λ a. e ∙ (λ i. a.old_plain i && a.new_plain i))
