-- What a change of the lent buffer is to its output.
use Rattle.std.proofs.Common.{◌≡◌, ℕ, ◌+◌, ◌-◌, ◌*◌, ◌<◌, ◌≤◌, List, [], ◌++◌, length, take, drop, set, refl, sym, ◌∙◌, ap, arith, append_assoc, length-append}
use Rattle.std.proofs.lemmas.List.{take_at, drop_at, drop-drop, length-take-le, length-drop, take-take, append-nil, drop-take, length-set}
use Rattle.std.proofs.Math.Seq.{take-append-add, drop-append-add}
use Rattle.ax_bits.specs.Bits.{word, bits}
use Rattle.ax_bits.specs.Out.{loan, written, unwritten, room, Appends, Replaces}
use Rattle.ax_bits.specs.declared.output.Out.{Out}
use Rattle.ax_bits.proofs.Words.{length-word, length-bits, bits-append}
use Rattle.ax_bits.proofs.Pieces.{take-bits, drop-bits, bits-set}
use Rattle.ax_bits.proofs.Steps.{overwritten}

pub length-written : (out : Out) → length (written out) ≡ out.count
length-written out = length-take-le out.count (bits out.buffer.now) (omega (arith, length-bits out.buffer.now))

pub length-unwritten : (out : Out) → length (unwritten out) ≡ room out
length-unwritten out = omega (arith, length-drop out.count (bits out.buffer.now), length-bits out.buffer.now)

-- w bits are written after those that were
pub appends : (old new : Out) (x : List ℕ) (w : ℕ) → loan new ≡ loan old → length x ≡ w → w ≤ room old →
    new.count ≡ old.count + w → length new.buffer.now ≡ length old.buffer.now →
    bits new.buffer.now ≡ overwritten (bits old.buffer.now) old.count x w → Appends old new x
appends old new x w l p h e s f =
    let n = old.count in
    let all = bits old.buffer.now in
    let whole : bits new.buffer.now ≡ (take n all ++ x) ++ drop (n + w) all = f ∙ sym (append_assoc (take n all) x (drop (n + w) all)) in
    let fits : n ≤ length all = omega (arith, length-bits old.buffer.now) in
    let k : length (take n all ++ x) ≡ n + w = omega (arith, length-append (take n all) x, length-take-le n all fits) in
    record {
      loan = l;
      written = (λ i. take (e i) (whole i)) ∙ take_at (take n all ++ x) (drop (n + w) all) (n + w) k;
      unwritten =
          (λ i. drop (e i) (whole i)) ∙ drop_at (take n all ++ x) (drop (n + w) all) (n + w) k
          ∙ sym (drop-drop w n all) ∙ ap (λ j. drop j (drop n all)) (sym p);
      room = omega arith;
    }

-- nothing is written, and one list after another
pub appends_none : (out : Out) → Appends out out []
appends_none out = record { loan = refl; written = sym (append-nil (written out)); unwritten = refl; room = omega arith }

pub appends_more : (old now new : Out) (x y z : List ℕ) → z ≡ x ++ y → Appends old now x → Appends now new y → Appends old new z
appends_more old now new x y z e p q = record {
  loan = q.loan ∙ p.loan;
  written = q.written ∙ ap (λ k. k ++ y) p.written ∙ append_assoc (written old) x y ∙ ap (λ k. written old ++ k) (sym e);
  unwritten =
      q.unwritten ∙ ap (drop (length y)) p.unwritten ∙ drop-drop (length y) (length x) (unwritten old)
      ∙ ap (λ k. drop k (unwritten old)) (sym (length-append x y) ∙ ap length (sym e));
  room = omega (arith, ap length e, length-append x y);
}

-- a front of a list whose bits from p to q are others now
take_over : (all x : List ℕ) (p q n : ℕ) → length x + p ≡ q → q ≤ n → n ≤ length all →
    take n (take p all ++ (x ++ drop q all)) ≡ take p (take n all) ++ (x ++ drop q (take n all))
take_over all x p q n e h f =
    let m = n - q in
    let split : n ≡ q + m = omega arith in
    let long : length (take p all ++ x) ≡ q = omega (arith, length-append (take p all) x, length-take-le p all (omega arith)) in
    let cut : n ≡ length (take p all ++ x) + m = omega arith in
    let before : take p all ≡ take p (take n all) = sym (take-take p n all (omega arith)) in
    let following : take m (drop q all) ≡ drop q (take n all) = sym (drop-take q m all) ∙ ap (λ k. drop q (take k all)) (sym split) in
    ap (take n) (sym (append_assoc (take p all) x (drop q all)))
    ∙ ap (λ k. take k ((take p all ++ x) ++ drop q all)) cut
    ∙ take-append-add (take p all ++ x) (drop q all) m
    ∙ append_assoc (take p all) x (take m (drop q all))
    ∙ (λ i. before i ++ (x ++ following i))

drop_over : (all x : List ℕ) (p q n : ℕ) → length x + p ≡ q → q ≤ n → n ≤ length all → drop n (take p all ++ (x ++ drop q all)) ≡ drop n all
drop_over all x p q n e h f =
    let m = n - q in
    let split : q + m ≡ n = omega arith in
    let long : length (take p all ++ x) ≡ q = omega (arith, length-append (take p all) x, length-take-le p all (omega arith)) in
    let cut : n ≡ length (take p all ++ x) + m = omega arith in
    ap (drop n) (sym (append_assoc (take p all) x (drop q all)))
    ∙ ap (λ k. drop k ((take p all ++ x) ++ drop q all)) cut
    ∙ drop-append-add (take p all ++ x) (drop q all) m
    ∙ drop-drop m q all ∙ ap (λ k. drop k all) split

-- octets copied over those of a buffer
pub bits-copied : (all ys xs : List ℕ) (from : ℕ) → ys ≡ take from all ++ (xs ++ drop (from + length xs) all) →
    bits ys ≡ overwritten (bits all) (8 * from) (bits xs) (8 * length xs)
bits-copied all ys xs from e =
    let back : bits (drop (from + length xs) all) ≡ drop (8 * from + 8 * length xs) (bits all)
    = sym (drop-bits (from + length xs) all) ∙ ap (λ k. drop k (bits all)) (omega arith) in
    ap bits e ∙ bits-append (take from all) (xs ++ drop (from + length xs) all)
    ∙ ap (λ k. bits (take from all) ++ k) (bits-append xs (drop (from + length xs) all))
    ∙ (λ i. sym (take-bits from all) i ++ (bits xs ++ back i))

pub bits-octet_set : (all : List ℕ) (i x : ℕ) → i < length all → bits (set all i x) ≡ overwritten (bits all) (8 * i) (word 8 x) 8
bits-octet_set all i x h =
    let back : bits (drop (i + 1) all) ≡ drop (8 * i + 8) (bits all) = sym (drop-bits (i + 1) all) ∙ ap (λ k. drop k (bits all)) (omega arith) in
    bits-set all i x h ∙ (λ j. sym (take-bits i all) j ++ (word 8 x ++ back j))

-- one octet among those that were written
pub replaces : (old new : Out) (at x : ℕ) → loan new ≡ loan old → 8 * at + 8 ≤ length (written old) →
    new.count ≡ old.count → new.buffer.now ≡ set old.buffer.now at x → Replaces old new at x
replaces old new at x l h e f =
    let all = bits old.buffer.now in
    let n : 8 * at + 8 ≤ old.count = omega (arith, length-written old) in
    let fits : old.count ≤ length all = omega (arith, length-bits old.buffer.now) in
    let octet : length (word 8 x) + 8 * at ≡ 8 * at + 8 = omega (arith, length-word 8 x) in
    let whole : bits new.buffer.now ≡ overwritten all (8 * at) (word 8 x) 8 = ap bits f ∙ bits-octet_set old.buffer.now at x (omega arith) in
    let size : length new.buffer.now ≡ length old.buffer.now = ap length f ∙ length-set old.buffer.now at x in
    record {
      loan = l;
      written = (λ i. take (e i) (whole i)) ∙ take_over all (word 8 x) (8 * at) (8 * at + 8) old.count octet n fits;
      unwritten = (λ i. drop (e i) (whole i)) ∙ drop_over all (word 8 x) (8 * at) (8 * at + 8) old.count octet n fits;
      room = omega arith;
    }
