-- No spelling begins another, and a spelling determines the value.
use Rattle.std.proofs.Common.{◌≡◌, ℕ, List, ◌++◌, length, sym, ◌∙◌, ap}
use Rattle.std.proofs.lemmas.List.{append_cancel_right}
use Rattle.ax_format.specs.Reader.{got, read}
use Rattle.ax_format.proofs.Spelled.{read_spelled}
use Rattle.ax_format.specs.Spelling.{Spells}
use Rattle.ax_format.specs.Tree.{KindTree, ValueTree}

got_value : {A : Type 0} {a b : A} {m n : ℕ} {x y : List ℕ} → got a m x ≡ got b n y → a ≡ b
got_value e = cc

got_rest : {A : Type 0} {a b : A} {m n : ℕ} {x y : List ℕ} → got a m x ≡ got b n y → x ≡ y
got_rest e = cc

pub prefix_free : (k : KindTree) (v w : ValueTree) (b c x y : List ℕ) → Spells k v b → Spells k w c → b ++ x ≡ c ++ y → (b ≡ c) × (v ≡ w)
prefix_free k v w b c x y p q e =
    let same : got v (length b) x ≡ got w (length c) y = sym (read_spelled k v b x p) ∙ ap (read k) e ∙ read_spelled k w c y q in
    let tail : x ≡ y = got_rest same in
    (append_cancel_right b c x (e ∙ ap (λ y. c ++ y) (sym tail)), got_value same)
