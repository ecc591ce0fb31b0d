-- Canonical spellings are equal exactly where the values are.
use Rattle.std.proofs.Common.{◌≡◌, ◌↔◌, [], ◌++◌, ap}
use Rattle.ax_format.proofs.CanonSpells.{canon_spells}
use Rattle.ax_format.proofs.PrefixFree.{prefix_free}
use Rattle.ax_format.specs.Canonical.{canon}
use Rattle.ax_format.specs.Shape.{Shape}
use Rattle.ax_format.specs.Sound.{Sound}
use Rattle.ax_format.specs.Tree.{KindTree, ValueTree}

pub canon_once : (k : KindTree) (v w : ValueTree) → Sound k → Shape k v → Shape k w → canon k v ≡ canon k w ↔ v ≡ w
canon_once k v w sound p q = (
  (λ e. (prefix_free k v w (canon k v) (canon k w) [] [] (canon_spells k v sound p) (canon_spells k w sound q) (ap (λ b. b ++ []) e)).1),
  (λ e. ap (canon k) e),
)
