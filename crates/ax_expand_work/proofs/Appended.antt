-- Texts appended one after another, and octets of bits of octets.
use Rattle.std.proofs.Common.{◌≡◌, ℕ, List, [], ◌∷◌, ◌++◌, Result, Ok, Err, OnOk, refl, ◌∙◌, ap, append_assoc}
use Rattle.ax_bits.proofs.Pieces.{number-word}
use Rattle.ax_bits.specs.Bits.{bits, AreOctets}
use Rattle.ax_format.specs.CanonicalOctets.{octets_of}

pub two_appended : (old a b front back : List ℕ) → a ≡ old ++ front → b ≡ a ++ back → b ≡ old ++ (front ++ back)
two_appended old a b front back e f = f ∙ ap (λ t. t ++ back) e ∙ append_assoc old front back

pub four_appended : (old a b c d w x y z : List ℕ) → a ≡ old ++ w → b ≡ a ++ x → c ≡ b ++ y → d ≡ c ++ z → d ≡ old ++ (w ++ (x ++ (y ++ z)))
four_appended old a b c d w x y z e f g h = two_appended old a d w (x ++ (y ++ z)) e (two_appended a b d x (y ++ z) f (two_appended b c d y z g h))

pub ruleset appending = two_appended

-- what follows of a success
pub on_ok : {T E : Type 0} (r : Result T E) (A B : Type 0) → (A → B) → OnOk r A → OnOk r B
on_ok (Ok t) A B on h = on h
on_ok (Err e) A B on h = tt

-- the octets of the bits of octets
pub octets_back : (xs : List ℕ) → AreOctets xs → octets_of (bits xs) ≡ xs
octets_back [] h = refl
octets_back (x ∷ xs) h = (λ k. number-word 8 x h.0 k ∷ octets_back xs h.1 k)
