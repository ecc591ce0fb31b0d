-- Values one after the other, by what is read of the first.
use Rattle.std.proofs.Common.{◌≡◌, ℕ, zero, suc, ◌+◌, ◌-◌, ◌*◌, ◌/◌, ◌≤◌, Bool, false, List, ◌∷◌, ◌++◌, length, take, drop, flat_map, refl, sym, ◌∙◌, ap, arith, subst, take-append-drop, length-drop}
use Rattle.std.proofs.lemmas.List.{drop-drop, drop_all}
use Rattle.ax_bits.proofs.Words.{bits-append}
use Rattle.ax_bits.specs.Bits.{bits}
use Rattle.ax_format.proofs.Spelled.{read_spelled}
use Rattle.ax_format.specs.InBounds.{InBounds}
use Rattle.ax_format.specs.Reader.{Read, got, failed, read}
use Rattle.ax_format.specs.Tree.{KindTree, ValueTree}
use Rattle.ax_format.specs.declared.fault.BodyFault.{BodyFault}
use Rattle.ax_fspec.specs.Reading.{Gets, FailsAt, kind_read}
use Rattle.ax_walk.proofs.Spelled.{all_spelled}
use Rattle.ax_walk.specs.Pieces.{octets_taken, first_size, pieces, ArePieces}
use Rattle.ax_walk.specs.Values.{IsOne, IsItemOf, value_in}

-- ---- the first one

-- what is read where octets of one value come first
pub ahead : (k : KindTree) (x y : List ℕ) → InBounds k → IsOne k x → read k (bits (x ++ y)) ≡ got (value_in k x) (length (bits x)) (bits y)
unfolding value_in
ahead k x y bounds one = ap (read k) (bits-append x y) ∙ read_spelled k (value_in k x) (bits x) (bits y) (all_spelled k x bounds (read k (bits x)) refl one.all)

pub opened : (fx : Bool) (k : KindTree) (n : ℕ) (xs : List ℕ) → (n ≡ 0 → ⊥) → ArePieces fx k n xs → (first_size fx k xs ≤ length xs) × IsItemOf fx k (take (first_size fx k xs) xs) × ArePieces fx k (n - 1) (drop (first_size fx k xs) xs)
opened fx k zero xs some h = absurd (some refl)
opened fx k (suc n) xs some h = (h.0, h.1, subst (λ m. ArePieces fx k m (drop (first_size fx k xs) xs)) (let e : n ≡ suc n - 1 = omega arith in e) h.2)

pub listed : (fx : Bool) (k : KindTree) (n : ℕ) (xs : List ℕ) → (n ≡ 0 → ⊥) → pieces fx k n xs ≡ take (first_size fx k xs) xs ∷ pieces fx k (n - 1) (drop (first_size fx k xs) xs)
listed fx k zero xs some = absurd (some refl)
listed fx k (suc n) xs some = ap (λ m. take (first_size fx k xs) xs ∷ pieces fx k m (drop (first_size fx k xs) xs)) (let e : n ≡ suc n - 1 = omega arith in e)

-- it is read
pub first_read : (k : KindTree) (n : ℕ) (xs : List ℕ) → InBounds k → (n ≡ 0 → ⊥) → ArePieces false k n xs
    → read k (bits xs) ≡ got (value_in k (take (first_size false k xs) xs)) (length (bits (take (first_size false k xs) xs))) (bits (drop (first_size false k xs) xs))
first_read k n xs bounds some h =
    let m = first_size false k xs in
    ap (λ z. read k (bits z)) (sym (take-append-drop m xs)) ∙ ahead k (take m xs) (drop m xs) bounds (opened false k n xs some h).1

read_or_failed : {A : Type 0} {v : A} {n p : ℕ} {y : List ℕ} (r : Read A) (c : _) → r ≡ got v n y → r ≡ failed p c → ⊥
read_or_failed r c e f = let no = sym e ∙ f in cc

pub never_fails : (k : KindTree) (n : ℕ) (xs : List ℕ) (fault : BodyFault) → InBounds k → (n ≡ 0 → ⊥) → ArePieces false k n xs → FailsAt (kind_read k xs 0) 0 fault → ⊥
unfolding kind_read
never_fails k n xs fault bounds some h f = read_or_failed (read k (bits xs)) fault.cause (first_read k n xs bounds some h) f.failed

-- as many octets as are read
pub size_is : (k : KindTree) (body : List ℕ) (at end : ℕ) (v : ValueTree) → Gets (kind_read k body at) body at end v → first_size false k (drop at body) ≡ end - at
unfolding kind_read
size_is k body at end v h = ap octets_taken h.got ∙ (let e : 8 * (end - at) / 8 ≡ end - at = omega arith in e)

-- ---- one more

pub first_and : (k : KindTree) (n m : ℕ) (xs : List ℕ) → first_size false k xs ≡ m → m ≤ length xs → IsOne k (take m xs) → ArePieces false k n (drop m xs) → ArePieces false k (suc n) xs
first_and k n m xs e le one h = subst (λ m. (m ≤ length xs) × IsOne k (take m xs) × ArePieces false k n (drop m xs)) (sym e) (le, one, h)

-- ---- along a body

pub along_first : (k : KindTree) (body : List ℕ) (n : ℕ) → ArePieces false k n (drop 0 body) → ArePieces false k (0 + n) body
along_first k body n h = subst (λ m. ArePieces false k m body) (let e : n ≡ 0 + n = omega arith in e) h

pub along_next : (k : KindTree) (body : List ℕ) (at end count : ℕ) (v : ValueTree) → Gets (kind_read k body at) body at end v → IsOne k (take (end - at) (drop at body)) → ((n : ℕ) → ArePieces false k n (drop at body) → ArePieces false k (count + n) body)
    → (n : ℕ) → ArePieces false k n (drop end body) → ArePieces false k (count + 1 + n) body
along_next k body at end count v g one go n h =
    let rest : drop end body ≡ drop (end - at) (drop at body) = sym (drop-drop (end - at) at body ∙ ap (λ m. drop m body) (let e : at + (end - at) ≡ end = omega (arith, g.forwards) in e)) in
    subst (λ m. ArePieces false k m body) (let e : count + suc n ≡ count + 1 + n = omega arith in e)
    (go (suc n) (first_and k n (end - at) (drop at body) (size_is k body at end v g) (omega (arith, g.within, g.forwards, length-drop at body)) one (subst (ArePieces false k n) rest h)))

pub along_all : (k : KindTree) (body : List ℕ) (at count : ℕ) → length body ≤ at → ((n : ℕ) → ArePieces false k n (drop at body) → ArePieces false k (count + n) body) → ArePieces false k count body
along_all k body at count past go = subst (λ m. ArePieces false k m body) (let e : count + 0 ≡ count = omega arith in e) (go 0 (drop_all at body past))

-- ---- they join to the octets

pub joined : (fx : Bool) (k : KindTree) (n : ℕ) (xs : List ℕ) → ArePieces fx k n xs → flat_map (λ x. x) (pieces fx k n xs) ≡ xs
joined fx k zero xs h = sym h
joined fx k (suc n) xs h = ap (λ y. take (first_size fx k xs) xs ++ y) (joined fx k n (drop (first_size fx k xs) xs) h.2) ∙ take-append-drop (first_size fx k xs) xs
