-- Bits laid one after another.
use Rattle.std.proofs.Common.{◌≡◌, ℕ, zero, suc, ◌+◌, ◌-◌, ◌*◌, ◌/◌, ◌%◌, ◌≤◌, min, Bool, true, false, cond, List, [], ◌∷◌, ◌++◌, length, take, sym, ◌∙◌, ap, arith, subst, length-append, append_assoc, append-nil, length-take-le, length-take}
use Rattle.std.proofs.lemmas.List.{take-append-le}
use Rattle.std.proofs.Math.Seq.{take-append-add}
use Rattle.ax_bits.proofs.Outputs.{length-written}
use Rattle.ax_bits.proofs.Pieces.{take-bits}
use Rattle.ax_bits.proofs.Words.{bits-append, length-bits}
use Rattle.ax_bits.specs.Bits.{bits}
use Rattle.ax_bits.specs.Out.{Appends, written, room}
use Rattle.ax_bits.specs.declared.output.Out.{Out}
use Rattle.ax_fspec.specs.Fields.{least_field}
use Rattle.ax_moves.specs.Laying.{Begins, Lays}
use Rattle.ax_format.proofs.Bounds.{bounds_sound, bounds_whole}
use Rattle.ax_format.proofs.CanonSpells.{canon_spells, spells_shape}
use Rattle.ax_format.proofs.WholeOctets.{spells_whole}
use Rattle.ax_format.specs.Canonical.{canon}
use Rattle.ax_format.specs.InBounds.{InBounds}
use Rattle.ax_format.specs.Presence.{none_marked, marks_after, marks_upto, least_presence}
use Rattle.ax_format.specs.Tree.{KindTree}
use Rattle.ax_walk.proofs.Spelled.{value_spelled}
use Rattle.ax_walk.specs.Shown.{item_kind, item_value}
use Rattle.ax_walk.specs.Values.{IsOne, IsItemOf, ItemInBounds, value_in}
use Rattle.ax_walk.specs.declared.item.ItemView.{ItemView}

-- ---- whole octets

-- a presence field of at most k octets
least_octets : (k : ℕ) (ms : List ℕ) → (n : ℕ) × (length (least_presence k ms) ≡ 8 * n) × (n ≤ k)
least_octets zero ms = (0, omega arith, omega arith)
least_octets (suc k) ms = by (none_marked (marks_after 7 ms)) (least_octets k (marks_after 7 ms))
  where
    by : (b : Bool) → (n : ℕ) × (length (least_presence k (marks_after 7 ms)) ≡ 8 * n) × (n ≤ k)
        → (n : ℕ) × (length (cond b (marks_upto 7 ms ++ 0 ∷ []) (marks_upto 7 ms ++ 1 ∷ least_presence k (marks_after 7 ms))) ≡ 8 * n) × (n ≤ suc k)
    by true h = (1, omega arith, omega arith)
    by false h = (suc h.0, omega (arith, h.1, h.2), omega (arith, h.2))

pub field_octets : (marks : List ℕ) → (n : ℕ) × (length (least_field marks) ≡ 8 * n) × (n ≤ 18)
unfolding least_field
field_octets marks = least_octets 18 marks

pub field_fits : (marks : List ℕ) (free n : ℕ) → free ≡ 8 * n → 18 ≤ n → length (least_field marks) ≤ free
field_fits marks free n e le = let f = field_octets marks in omega (arith, f.1, f.2)

value_octets : (k : KindTree) (octets : List ℕ) → InBounds k → IsOne k octets → length (canon k (value_in k octets)) % 8 ≡ 0
value_octets k octets bounds one =
    let shape = spells_shape k (value_in k octets) (bits octets) (value_spelled k octets bounds one) in
    spells_whole k (value_in k octets) (canon k (value_in k octets)) (bounds_whole k bounds) (canon_spells k (value_in k octets) (bounds_sound k bounds) shape)

pub item_octets : (item : ItemView) → item.by_fx ≡ false → length (canon (item_kind item) (item_value item)) % 8 ≡ 0
item_octets item whole =
    value_octets (item_kind item) item.body.now (subst (λ fx. ItemInBounds fx (item_kind item)) whole item.item.bounds) (subst (λ fx. IsItemOf fx (item_kind item) item.body.now) whole item.item.one)

-- ---- the front of an output

pub begins : (old new : Out) (b : List ℕ) (n : ℕ) → written old ≡ [] → length b % 8 ≡ 0 → Appends old new b → n ≡ (room old - room new) / 8 → Begins b n new.buffer.now
begins old new b n none whole h e =
    let is : take new.count (bits new.buffer.now) ≡ b = h.written ∙ ap (λ w. w ++ b) none in
    let long : length b ≡ 8 * n = omega (arith, h.room) in
    let count : new.count ≡ 8 * n = omega (arith, sym (length-written new), ap length is) in
    record { size = long; laid = ap (λ k. take k (bits new.buffer.now)) (sym count) ∙ is }

-- ---- one after another

pub lays_none : (at : ℕ) (output : List ℕ) → at ≤ 4294967295 → Lays [] at at output output
lays_none at output le = record { octets = 0; size = omega arith; counted = omega arith; laid = λ short. sym (append-nil (take (8 * at) (bits output))) }

pub lays_more : (b c z : List ℕ) (at m n : ℕ) (old now new : List ℕ) → z ≡ b ++ c → Lays b at m old now → Lays c m n now new → Lays z at n old new
lays_more b c z at m n old now new e p q = record {
  octets = p.octets + q.octets;
  size = ap length e ∙ length-append b c ∙ (let s : length b + length c ≡ 8 * (p.octets + q.octets) = omega (arith, p.size, q.size) in s);
  counted = omega (arith, p.counted, q.counted);
  laid = λ short. (
      let first : m ≤ 65535 = omega (arith, q.counted) in
      q.laid short ∙ ap (λ x. x ++ c) (p.laid first) ∙ append_assoc (take (8 * at) (bits old)) b c ∙ ap (λ x. take (8 * at) (bits old) ++ x) (sym e));
}

pub lays_at : (b : List ℕ) (at start n m : ℕ) (old mid post : List ℕ) → start ≡ min at 65535 → 65535 ≤ length old → Begins b n mid → m ≡ min (at + n) 4294967295 → Lays b at m old (take start old ++ (mid ++ post))
lays_at b at start n m old mid post place long h e = record {
  octets = n;
  size = h.size;
  counted = e;
  laid = λ short. (
      let here : start ≡ at = omega arith in
      let front : List ℕ = bits (take start old) in
      let size : length front ≡ 8 * at = omega (arith, length-bits (take start old), length-take-le start old (omega arith)) in
      let fits : 8 * n ≤ length (bits mid) = omega (arith, ap length h.laid, h.size, length-take (8 * n) (bits mid)) in
      let split : bits (take start old ++ (mid ++ post)) ≡ front ++ (bits mid ++ bits post) = bits-append (take start old) (mid ++ post) ∙ ap (λ x. front ++ x) (bits-append mid post) in
      let sum : 8 * m ≡ length front + 8 * n = omega (arith, size) in
      let before : front ≡ take (8 * at) (bits old) = sym (take-bits start old) ∙ ap (λ k. take (8 * k) (bits old)) here in
      let laid : take (8 * n) (bits mid ++ bits post) ≡ b = take-append-le (8 * n) (bits mid) (bits post) fits ∙ h.laid in
      (λ i. take (sum i) (split i)) ∙ take-append-add front (bits mid ++ bits post) (8 * n) ∙ (λ i. before i ++ laid i));
}
