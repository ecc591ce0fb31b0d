-- Which value of one kind a value of another is converted to (this project's own rule): each quantity's number is converted from
-- the one scale to the other, and all else stays. Both kinds are walked beside each other. Inside an extended kind all stays.
use Rattle.std.specs.Prelude.{◌≡◌, ℕ, ◌+◌, ◌==◌, MatchBool}
use Rattle.ax_format.specs.Tree.{FixedTree, element, group, MembersTree, no_members, member_and, MemberTree, named, spare, KindTree, fixed, extended, counted, by_fx, explicit, compound, SlotsTree, no_slots, slot_and, spare_slot, subitem, ValueTree, number, member_values, occurrences, marked, ValuesTree, no_values, value_and, EntriesTree, no_entries, entry_and}
use Rattle.ax_format.specs.declared.content.Content.{Content}
use Rattle.ax_format.specs.declared.content.Content.TheVariants.{Quantity}
use Rattle.ax_rescale.specs.Rescaled.{IsConverted}

-- n in an element of w bits is converted to m in one of u bits
abbrev pub NumberConverted : ℕ → Content → ℕ → ℕ → Content → ℕ → Type 0
NumberConverted w (Quantity s) n u (Quantity t) m = IsConverted w s n u t m
NumberConverted w c n u d m = m ≡ n

abbrev mutual
  pub FixedConverted : FixedTree → FixedTree → ValueTree → ValueTree → Type 0
  FixedConverted (element w c) (element u d) (number n) (number m) = NumberConverted w c n u d m
  FixedConverted (group ms) (group ns) (member_values vs) (member_values xs) = MembersConverted ms ns vs xs
  FixedConverted _ _ _ _ = ⊥

  pub MemberConverted : MemberTree → MemberTree → ValueTree → ValueTree → Type 0
  MemberConverted (named name f) (named other g) v x = FixedConverted f g v x
  MemberConverted (spare w) (spare u) v x = x ≡ v
  MemberConverted _ _ _ _ = ⊥

  pub MembersConverted : MembersTree → MembersTree → ValuesTree → ValuesTree → Type 0
  MembersConverted no_members no_members no_values no_values = Unit {0}
  MembersConverted (member_and m ms) (member_and n ns) (value_and v vs) (value_and x xs) = MemberConverted m n v x × MembersConverted ms ns vs xs
  MembersConverted _ _ _ _ = ⊥

-- as many values, each converted by one rule
abbrev pub EachConverted : (ValueTree → ValueTree → Type 0) → ValuesTree → ValuesTree → Type 0
EachConverted R no_values no_values = Unit {0}
EachConverted R (value_and v vs) (value_and x xs) = R v x × EachConverted R vs xs
EachConverted R _ _ = ⊥

abbrev mutual
  pub Converted : KindTree → KindTree → ValueTree → ValueTree → Type 0
  Converted (fixed f) (fixed g) v x = FixedConverted f g v x
  Converted (extended last ps) (extended other qs) v x = x ≡ v
  Converted (counted size k) (counted other l) (occurrences vs) (occurrences xs) = EachConverted (Converted k l) vs xs
  Converted (by_fx f) (by_fx g) (occurrences vs) (occurrences xs) = EachConverted (FixedConverted f g) vs xs
  Converted explicit explicit v x = x ≡ v
  Converted (compound ss) (compound ts) (marked es) (marked xs) = EntriesConverted 1 ss ts es xs
  Converted _ _ _ _ = ⊥

  -- the same slots are marked in both; the first of these slots has the number s
  pub EntriesConverted : ℕ → SlotsTree → SlotsTree → EntriesTree → EntriesTree → Type 0
  EntriesConverted s no_slots no_slots no_entries no_entries = Unit {0}
  EntriesConverted s (slot_and spare_slot ss) (slot_and spare_slot ts) es xs = EntriesConverted (s + 1) ss ts es xs
  EntriesConverted s (slot_and (subitem name k) ss) (slot_and (subitem other l) ts) no_entries no_entries = EntriesConverted (s + 1) ss ts no_entries no_entries
  EntriesConverted s (slot_and (subitem name k) ss) (slot_and (subitem other l) ts) (entry_and t v es) (entry_and u x xs) =
      (u ≡ t) × MatchBool (t == s) (Converted k l v x × EntriesConverted (s + 1) ss ts es xs) (EntriesConverted (s + 1) ss ts (entry_and t v es) (entry_and u x xs))
  EntriesConverted _ _ _ _ _ = ⊥
