-- Texts laid one after another.
use Rattle.std.proofs.Common.{◌≡◌, ℕ, ◌+◌, ◌<◌, ◌≤◌, min, List, [], ◌++◌, length, take, refl, sym, ◌∙◌, ap, arith, length-append, append_assoc, append-nil, length-take-le}
use Rattle.std.proofs.lemmas.List.{take-append-le, take_all}
use Rattle.std.proofs.Math.Seq.{take-append-add}
use Rattle.ax_bits.proofs.Pieces.{take-bits}
use Rattle.ax_bits.proofs.Words.{bits-append, length-bits}
use Rattle.ax_bits.specs.Bits.{bits}
use Rattle.ax_moves.specs.Laying.{Gathers, Lays}

pub gathers_none : (at : ℕ) (lines : List ℕ) → at ≤ 4294967295 → Gathers [] at at lines lines
gathers_none at lines le = record { counted = omega arith; laid = λ short. sym (append-nil (take at lines)) }

pub gathers_then : (a b : List ℕ) (at m n : ℕ) (old now new : List ℕ) → Gathers a at m old now → Gathers b m n now new → Gathers (a ++ b) at n old new
gathers_then a b at m n old now new p q = record {
  counted = omega (arith, p.counted, q.counted, length-append a b);
  laid = λ short. (let first : m ≤ 65535 = omega (arith, q.counted) in q.laid short ∙ ap (λ x. x ++ b) (p.laid first) ∙ append_assoc (take at old) a b);
}

-- ---- octets

pub octets_gathered : (xs : List ℕ) (at m : ℕ) (old post : List ℕ) → length old ≡ 131067 → m ≡ min (at + length xs) 4294967295 → m ≤ 65535 → Gathers xs at m old (take at old ++ (xs ++ post))
octets_gathered xs at m old post room e short =
    let size : length (take at old) ≡ at = length-take-le at old (omega arith) in
    let m_is : m ≡ length (take at old) + length xs = omega arith in record {
      counted = e;
      laid = λ short. ap (λ k. take k (take at old ++ (xs ++ post))) m_is ∙ take-append-add (take at old) (xs ++ post) (length xs) ∙ ap (λ x. take at old ++ x) (take-append-le (length xs) xs post (omega arith) ∙ take_all (length xs) xs (omega arith));
    }

pub octets_counted : (xs : List ℕ) (at m : ℕ) (old : List ℕ) → m ≡ min (at + length xs) 4294967295 → 65535 < m → Gathers xs at m old old
octets_counted xs at m old e long = record { counted = e; laid = λ short. absurd (omega arith) }

-- the same, of their bits
pub gathered_bits : (xs : List ℕ) (at m : ℕ) (old new : List ℕ) → Gathers xs at m old new → Lays (bits xs) at m old new
gathered_bits xs at m old new g = record {
  octets = length xs;
  size = length-bits xs;
  counted = g.counted;
  laid = λ short. take-bits m new ∙ ap bits (g.laid short) ∙ bits-append (take at old) xs ∙ ap (λ x. x ++ bits xs) (sym (take-bits at old));
}

-- ---- of a text that is laid piece by piece

pub record ToldSoFar (whole rest : List ℕ) (at end : ℕ) (old now : List ℕ) : Type 0 where
  pub front : List ℕ
  pub split : whole ≡ front ++ rest
  pub told : Gathers front at end old now

pub told_none : (whole : List ℕ) (at : ℕ) (lines : List ℕ) → at < 4294967296 → ToldSoFar whole whole at at lines lines
told_none whole at lines few = record { front = []; split = refl; told = gathers_none at lines (omega arith) }

pub told_next : (whole rest piece later : List ℕ) (at end n : ℕ) (old now new : List ℕ) → rest ≡ piece ++ later → ToldSoFar whole rest at end old now → Gathers piece end n now new → ToldSoFar whole later at n old new
told_next whole rest piece later at end n old now new e t g = record {
  front = t.front ++ piece;
  split = t.split ∙ ap (λ x. t.front ++ x) e ∙ sym (append_assoc t.front piece later);
  told = gathers_then t.front piece at end n old now new t.told g;
}

same_told : (a b : List ℕ) (at n : ℕ) (old new : List ℕ) → a ≡ b → Gathers a at n old new → Gathers b at n old new
same_told a b at n old new e g = record { counted = g.counted ∙ ap (λ x. min (at + length x) 4294967295) e; laid = λ short. g.laid short ∙ ap (λ x. take at old ++ x) e }

pub told_all : (whole rest : List ℕ) (at end : ℕ) (old now : List ℕ) → rest ≡ [] → ToldSoFar whole rest at end old now → Gathers whole at end old now
told_all whole rest at end old now e t = same_told t.front whole at end old now (sym (append-nil t.front) ∙ ap (λ x. t.front ++ x) (sym e) ∙ sym t.split) t.told

pub told_same : (a b : List ℕ) (at n : ℕ) (old new : List ℕ) → b ≡ a → Gathers a at n old new → Gathers b at n old new
told_same a b at n old new e g = same_told a b at n old new (sym e) g

pub told_nothing : (a : List ℕ) (at : ℕ) (lines : List ℕ) → a ≡ [] → at < 4294967296 → Gathers a at at lines lines
told_nothing a at lines e few = same_told [] a at at lines lines (sym e) (gathers_none at lines (omega arith))
