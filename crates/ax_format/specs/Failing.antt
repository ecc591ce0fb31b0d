-- Where bits fail to spell a value of a kind, and why (this project's own rules). b is all that is left of the body from
-- the kind's first bit on, and the place p is counted from there.
use Rattle.std.specs.Prelude.{◌≡◌, ℕ, zero, suc, ◌+◌, ◌*◌, ◌^◌, ◌<◌, ◌≤◌, ◌⊎◌, Bool, List, [], ◌∷◌, ◌++◌, length}
use Rattle.ax_bits.specs.Bits.{word}
use Rattle.ax_format.specs.Presence.{octets_needed, Presence, first_mark, later_marks, slots_past, NoneUndefined, FirstUndefined}
use Rattle.ax_format.specs.Spelling.{Spells, EachSpells}
use Rattle.ax_format.specs.Tree.{FixedTree, MembersTree, KindTree, fixed, extended, counted, by_fx, explicit, compound, SlotsTree, no_slots, slot_and, spare_slot, subitem, slot_count, defined_slots, ValueTree, ValuesTree, value_count}
use Rattle.ax_format.specs.Widths.{width, members_width, counter_width, fx_width}
use Rattle.ax_format.specs.declared.fault.BodyCause.{BodyCause}
use Rattle.ax_format.specs.declared.fault.BodyCause.TheVariants.{RunsOut, UndefinedSlot, PresenceTooLong, ExtensionPastEnd, BadExplicitLength}
use Rattle.ax_format.specs.declared.kind.LastPart.{LastPart}
use Rattle.ax_format.specs.declared.kind.LastPart.TheVariants.{WithFx}

-- ---- presence fields

-- the presence field of at most k octets over these slots: after octets with FX 1 and no undefined mark, an octet isn't
-- there whole, or marks an undefined slot, or is the last that the slots need and has FX 1
abbrev pub PresenceFails : ℕ → List Bool → List ℕ → ℕ → BodyCause → Type 0
PresenceFails zero ds b p c = ⊥
PresenceFails (suc k) ds b p c =
    ((length b < 8) × (p ≡ 0) × (c ≡ RunsOut))
    ⊎ ((seven : List ℕ) × (fx : ℕ) × (y : List ℕ) × (length seven ≡ 7) × (b ≡ seven ++ fx ∷ y)
    × ((FirstUndefined ds seven p × (c ≡ UndefinedSlot))
    ⊎ (NoneUndefined ds seven × (fx ≡ 1)
    × (((k ≡ 0) × (p ≡ 7) × (c ≡ PresenceTooLong)) ⊎ ((q : ℕ) × (p ≡ 8 + q) × PresenceFails k (slots_past seven ds) y q c)))))

-- ---- parts and occurrences

-- after parts with FX 1, a part with its FX, where it has one, doesn't fit, or the last part has FX 1
abbrev pub PartsFail : LastPart → List MembersTree → List ℕ → ℕ → BodyCause → Type 0
PartsFail last [] b p c = ⊥
PartsFail last (ms ∷ ps) b p c =
    ((length b < members_width ms + fx_width last (length ps)) × (p ≡ 0) × (c ≡ RunsOut))
    ⊎ ((x : List ℕ) × (y : List ℕ) × (length x ≡ members_width ms) × (b ≡ x ++ 1 ∷ y)
    × (((ps ≡ []) × (last ≡ WithFx) × (p ≡ members_width ms) × (c ≡ ExtensionPastEnd)) ⊎ ((q : ℕ) × (p ≡ members_width ms + 1 + q) × PartsFail last ps y q c)))

-- after n occurrences with FX 1 the next with its FX doesn't fit
abbrev pub RunFails : ℕ → FixedTree → List ℕ → ℕ → BodyCause → Type 0
RunFails zero f b p c = (length b ≤ width f) × (p ≡ 0) × (c ≡ RunsOut)
RunFails (suc n) f b p c = (x : List ℕ) × (y : List ℕ) × (length x ≡ width f) × (b ≡ x ++ 1 ∷ y) × (q : ℕ) × (p ≡ width f + 1 + q) × RunFails n f y q c

-- ---- kinds

abbrev mutual
  -- fixed: too few bits; counted: no REP as a whole, or after fewer than REP values the inner kind fails; explicit: no length octet, or
  -- it is 0, or too few octets follow; compound: the presence field fails, or a marked subitem does
  pub Fails : KindTree → List ℕ → ℕ → BodyCause → Type 0
  Fails (fixed f) b p c = (length b < width f) × (p ≡ 0) × (c ≡ RunsOut)
  Fails (extended last ps) b p c = PartsFail last ps b p c
  Fails (counted size k) b p c =
      ((length b < counter_width size) × (p ≡ 0) × (c ≡ RunsOut))
      ⊎ ((r : ℕ) × (r < 2 ^ counter_width size) × (vs : ValuesTree) × (value_count vs < r) × (x : List ℕ) × (y : List ℕ)
      × (b ≡ word (counter_width size) r ++ (x ++ y)) × EachSpells (Spells k) vs x × (q : ℕ) × (p ≡ counter_width size + (length x + q)) × Fails k y q c)
  Fails (by_fx f) b p c = (n : ℕ) × RunFails n f b p c
  Fails explicit b p c =
      ((length b < 8) × (p ≡ 0) × (c ≡ RunsOut))
      ⊎ (((y : List ℕ) × (b ≡ word 8 0 ++ y) × (p ≡ 0) × (c ≡ BadExplicitLength))
      ⊎ ((m : ℕ) × (m < 255) × (y : List ℕ) × (b ≡ word 8 (1 + m) ++ y) × (length y < 8 * m) × (p ≡ 8) × (c ≡ RunsOut)))
  Fails (compound ss) b p c =
      PresenceFails (octets_needed (slot_count ss)) (defined_slots ss) b p c
      ⊎ ((marks : List ℕ) × (x : List ℕ) × (y : List ℕ) × (b ≡ x ++ y) × Presence (octets_needed (slot_count ss)) marks x × NoneUndefined (defined_slots ss) marks
      × (q : ℕ) × (p ≡ length x + q) × EntriesFail ss marks y q c)

  -- the marked slots before one are spelled, and that one fails on the rest
  pub EntriesFail : SlotsTree → List ℕ → List ℕ → ℕ → BodyCause → Type 0
  EntriesFail no_slots ms b p c = ⊥
  EntriesFail (slot_and spare_slot ss) ms b p c = EntriesFail ss (later_marks ms) b p c
  EntriesFail (slot_and (subitem name k) ss) ms b p c =
      ((first_mark ms ≡ 1) × Fails k b p c)
      ⊎ (((first_mark ms ≡ 1) × (v : ValueTree) × (x : List ℕ) × (y : List ℕ) × (b ≡ x ++ y) × Spells k v x × (q : ℕ) × (p ≡ length x + q) × EntriesFail ss (later_marks ms) y q c)
      ⊎ ((first_mark ms ≡ 0) × EntriesFail ss (later_marks ms) b p c))

-- ---- the same, for clauses

pub record IsFault (k : KindTree) (b : List ℕ) (p : ℕ) (c : BodyCause) : Type 0 where
  pub fails : Fails k b p c

-- b is a presence field of at most k octets with these marks, all of defined slots
pub record IsPresence (k : ℕ) (ds : List Bool) (marks b : List ℕ) : Type 0 where
  pub field : Presence k marks b
  pub clear : NoneUndefined ds marks

pub record IsPresenceFault (k : ℕ) (ds : List Bool) (b : List ℕ) (p : ℕ) (c : BodyCause) : Type 0 where
  pub fails : PresenceFails k ds b p c
