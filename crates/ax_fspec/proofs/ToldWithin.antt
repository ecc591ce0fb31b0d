-- The bits that tell a fault other than want of bits are there.
use Rattle.std.proofs.Common.{◌≡◌, ◌≢◌, ℕ, zero, suc, ◌+◌, ◌<◌, ◌≤◌, inl, inr, List, [], ◌∷◌, ◌++◌, length, Bool, ap, arith, length-append}
use Rattle.ax_bits.specs.Bits.{word}
use Rattle.ax_format.specs.Bodies.{FailsBody}
use Rattle.ax_format.specs.Failing.{PartsFail, RunFails, PresenceFails, Fails, EntriesFail}
use Rattle.ax_format.specs.Presence.{octets_needed, later_marks, FirstUndefined, later_slots, slots_past}
use Rattle.ax_format.specs.Specification.{SpecTree, record_kind}
use Rattle.ax_format.specs.Telling.{fault_bits}
use Rattle.ax_format.specs.Tree.{MembersTree, FixedTree, KindTree, fixed, extended, counted, by_fx, explicit, compound, slot_count, SlotsTree, no_slots, slot_and, spare_slot, subitem, defined_slots}
use Rattle.ax_format.specs.declared.fault.BodyCause.{BodyCause}
use Rattle.ax_format.specs.declared.fault.BodyCause.TheVariants.{RunsOut}
use Rattle.ax_format.specs.Widths.{counter_width}
use Rattle.ax_bits.proofs.Words.{length-word}
use Rattle.ax_format.specs.declared.kind.LastPart.{LastPart}

parts_told : (last : LastPart) (ps : List MembersTree) (b : List ℕ) (p : ℕ) (c : BodyCause) → c ≢ RunsOut → PartsFail last ps b p c → p + fault_bits c ≤ length b
parts_told last [] b p c not h = absurd h
parts_told last (ms ∷ ps) b p c not (inl h) = absurd (not h.2)
parts_told last (ms ∷ ps) b p c not (inr (x, y, l, e, inl (f, o, g, h))) =
    let one : fault_bits c ≡ 1 = ap fault_bits h in omega (arith, ap length e, length-append x (1 ∷ y))
parts_told last (ms ∷ ps) b p c not (inr (x, y, l, e, inr (q, f, h))) =
    let le : q + fault_bits c ≤ length y = parts_told last ps y q c not h in omega (arith, ap length e, length-append x (1 ∷ y))

run_runs_out : (n : ℕ) (f : FixedTree) (b : List ℕ) (p : ℕ) (c : BodyCause) → RunFails n f b p c → c ≡ RunsOut
run_runs_out zero f b p c h = h.2
run_runs_out (suc n) f b p c (x, y, l, e, q, g, h) = run_runs_out n f y q c h

undefined_below : (ds : List Bool) (ms : List ℕ) (j : ℕ) → FirstUndefined ds ms j → j < length ms
undefined_below ds [] j h = absurd h
undefined_below ds (m ∷ ms) zero h = omega arith
undefined_below ds (m ∷ ms) (suc j) h = omega (arith, undefined_below (later_slots ds) ms j h.1)

presence_told : (k : ℕ) (ds : List Bool) (b : List ℕ) (p : ℕ) (c : BodyCause) → c ≢ RunsOut → PresenceFails k ds b p c → p + fault_bits c ≤ length b
presence_told zero ds b p c not h = absurd h
presence_told (suc k) ds b p c not (inl h) = absurd (not h.2)
presence_told (suc k) ds b p c not (inr (x, fx, y, l, e, inl (h, f))) =
    let one : fault_bits c ≡ 1 = ap fault_bits f in omega (arith, undefined_below ds x p h, ap length e, length-append x (fx ∷ y))
presence_told (suc k) ds b p c not (inr (x, fx, y, l, e, inr (clear, f, inl (z, g, h)))) =
    let one : fault_bits c ≡ 1 = ap fault_bits h in omega (arith, ap length e, length-append x (fx ∷ y))
presence_told (suc k) ds b p c not (inr (x, fx, y, l, e, inr (clear, f, inr (q, g, h)))) =
    let le : q + fault_bits c ≤ length y = presence_told k (slots_past x ds) y q c not h in omega (arith, ap length e, length-append x (fx ∷ y))

later_told : (b x y : List ℕ) (p q n : ℕ) → b ≡ x ++ y → p ≡ length x + q → q + n ≤ length y → p + n ≤ length b
later_told b x y p q n e f le = omega (arith, ap length e, length-append x y)

mutual
  pub fails_told : (k : KindTree) (b : List ℕ) (p : ℕ) (c : BodyCause) → c ≢ RunsOut → Fails k b p c → p + fault_bits c ≤ length b
  fails_told (fixed f) b p c not h = absurd (not h.2)
  fails_told (extended last ps) b p c not h = parts_told last ps b p c not h
  fails_told (counted size k) b p c not (inl h) = absurd (not h.2)
  fails_told (counted size k) b p c not (inr (r, le, vs, lt, x, y, e, h, q, f, g)) =
      let in_rest : q + fault_bits c ≤ length y = fails_told k y q c not g in omega (arith, ap length e, length-append (word (counter_width size) r) (x ++ y), length-word (counter_width size) r, length-append x y)
  fails_told (by_fx f) b p c not (n, h) = absurd (not (run_runs_out n f b p c h))
  fails_told explicit b p c not (inl h) = absurd (not h.2)
  fails_told explicit b p c not (inr (inl (y, e, f, g))) = let eight : fault_bits c ≡ 8 = ap fault_bits g in omega (arith, ap length e)
  fails_told explicit b p c not (inr (inr (m, le, y, e, lt, f, g))) = absurd (not g)
  fails_told (compound ss) b p c not (inl h) = presence_told (octets_needed (slot_count ss)) (defined_slots ss) b p c not h
  fails_told (compound ss) b p c not (inr (ms, x, y, e, h, clear, q, f, g)) = later_told b x y p q (fault_bits c) e f (entries_told ss ms y q c not g)

  entries_told : (ss : SlotsTree) (ms b : List ℕ) (p : ℕ) (c : BodyCause) → c ≢ RunsOut → EntriesFail ss ms b p c → p + fault_bits c ≤ length b
  entries_told no_slots ms b p c not h = absurd h
  entries_told (slot_and spare_slot ss) ms b p c not h = entries_told ss (later_marks ms) b p c not h
  entries_told (slot_and (subitem name k) ss) ms b p c not (inl h) = fails_told k b p c not h.1
  entries_told (slot_and (subitem name k) ss) ms b p c not (inr (inl (m, v, x, y, e, h, q, f, g))) = later_told b x y p q (fault_bits c) e f (entries_told ss (later_marks ms) y q c not g)
  entries_told (slot_and (subitem name k) ss) ms b p c not (inr (inr h)) = entries_told ss (later_marks ms) b p c not h.1

pub body_told : (spec : SpecTree) (b : List ℕ) (p : ℕ) (c : BodyCause) → c ≢ RunsOut → FailsBody spec b p c → p + fault_bits c ≤ length b
body_told spec b p c not h = later_told b h.before h.left p h.place (fault_bits c) h.split h.counted (fails_told (record_kind spec) h.left h.place c not h.fails.fails)
