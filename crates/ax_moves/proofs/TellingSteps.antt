-- The lines of lost keys, laid for some keys after the others.
use Rattle.std.proofs.Common.{◌≡◌, ℕ, zero, suc, ◌+◌, ◌-◌, ◌*◌, ◌<◌, ◌≤◌, cond, is_none, min, true, false, List, [], ◌∷◌, ◌++◌, length, get_or, take, drop, Option, Some, None, IfNone, is_some, option_and_then, ◌⊎◌, inl, inr, refl, sym, ◌∙◌, ap, arith, subst, append-nil, length-drop}
use Rattle.std.proofs.lemmas.List.{drop_all, drop-drop, get_or_past}
use Rattle.ax_fspec.specs.Marks.{IsMarked, common_marks, slots_from, slots_of}
use Rattle.ax_relation.specs.declared.relation.RelationPath.{RelationPath}
use Rattle.ax_relation.specs.Standing.{value_below}
use Rattle.ax_migration.specs.Losing.{lost_line, lost_lines}
use Rattle.ax_migration.specs.declared.losses.LossEntry.{LossEntry}
use Rattle.ax_moves.proofs.SlotSteps.{leads}
use Rattle.ax_moves.proofs.LostRuns.{deepest, deepest_drop, deepest_take, fallen, first_less, lines_split, lost_there, none_left, none_lost, runs_drop, runs_take}
use Rattle.ax_moves.proofs.RunSteps.{number_leads}
use Rattle.ax_moves.proofs.ToldLines.{ToldSoFar, told_none, told_next, told_all, told_same, gathers_none}
use Rattle.ax_moves.specs.Laying.{Gathers}
use Rattle.ax_moves.specs.Lost.{key_path, place_numbers, is_below, key_loss, losses_below, own_loss, OfFirst, LeadsBy, IsAmong, RunFits, RunsFit, FallsWith, KeyRuns, AreRuns, NoneShared, IsPassed}
use Rattle.ax_moves.specs.declared.lost.LostKey.{LostKey}
use Rattle.ax_moves.specs.declared.lost.Run.{Run}
use Rattle.ax_fspec.specs.declared.mask.SlotMask.{SlotMask}
use Rattle.ax_format.proofs.Namings.{from_place}
use Rattle.ax_format.specs.At.{slot_value}
use Rattle.ax_format.specs.Placed.{has_part, has_part_where}
use Rattle.ax_format.specs.Tree.{ValueTree, marked, EntriesTree, no_entries}
use Rattle.ax_fspec.specs.Reading.{kind_read}
use Rattle.ax_codec.specs.declared.codec.Codec.{Codec}
use Rattle.ax_codec.specs.declared.node.Node.{Node}
use Rattle.ax_codec.specs.declared.node.Node.TheVariants as Of
use Rattle.ax_walk.proofs.ItemSteps.{is_marked, le_or_less}
use Rattle.ax_walk.proofs.NodeKinds.{is_compound}
use Rattle.ax_walk.specs.Placing.{entries_there}
use Rattle.ax_walk.specs.Shown.{item_value}
use Rattle.ax_walk.specs.declared.item.ItemView.{ItemView}
use Rattle.ax_walk.specs.Values.{entries_in, value_in}

-- ---- some keys after the others

-- the lines of the keys before those that are left are laid
pub record KeysTold (block n d : ℕ) (v : ValueTree) (keys left : List LostKey) (at end : ℕ) (old now : List ℕ) : Type 0 where
  pub told : ToldSoFar (lost_lines block (losses_below n d v keys)) (lost_lines block (losses_below n d v left)) at end old now
  pub runs : AreRuns left
  pub deep : deepest left ≤ deepest keys

pub keys_none : (block n d : ℕ) (v : ValueTree) (keys : List LostKey) (at : ℕ) (lines : List ℕ) → at < 4294967296 → AreRuns keys → KeysTold block n d v keys keys at at lines lines
keys_none block n d v keys at lines few runs = record { told = told_none (lost_lines block (losses_below n d v keys)) at lines few; runs = runs; deep = omega arith }

module _ (block n d : ℕ) (v : ValueTree) (keys left next : List LostKey) (at end : ℕ) (old now : List ℕ) (h : KeysTold block n d v keys left at end old now) (m : ℕ) (e : next ≡ drop m left) where
  -- lines of the first m are laid
  pub keys_more : (first : List LossEntry) (stop : ℕ) (new : List ℕ) → losses_below n d v (take m left) ≡ first → Gathers (lost_lines block first) end stop now new → KeysTold block n d v keys next at stop old new
  keys_more first stop new is g =
      subst (λ ks. KeysTold block n d v keys ks at stop old new) (sym e) (record {
        told = told_next (lost_lines block (losses_below n d v keys)) (lost_lines block (losses_below n d v left)) (lost_lines block first) (lost_lines block (losses_below n d v (drop m left))) at end stop old now new (lines_split block n d v m left first is) h.told g;
        runs = runs_drop m left h.runs;
        deep = (let less = deepest_drop m left in let before = h.deep in omega arith);
      })

  -- there are none
  pub keys_passed : losses_below n d v (take m left) ≡ [] → end < 4294967296 → KeysTold block n d v keys next at end old now
  keys_passed is few = keys_more [] end now is (gathers_none end now (omega arith))

module _ (block n d : ℕ) (v : ValueTree) (keys left : List LostKey) (at end : ℕ) (old now : List ℕ) (h : KeysTold block n d v keys left at end old now) where
  pub keys_stop : losses_below n d v left ≡ [] → Gathers (lost_lines block (losses_below n d v keys)) at end old now
  keys_stop none = told_all (lost_lines block (losses_below n d v keys)) (lost_lines block (losses_below n d v left)) at end old now (ap (lost_lines block) none) h.told

  pub keys_end : length left ≡ 0 → Gathers (lost_lines block (losses_below n d v keys)) at end old now
  keys_end past = keys_stop (by left past)
    where
      by : (ks : List LostKey) → length ks ≡ 0 → losses_below n d v ks ≡ []
      by [] e = refl
      by (k ∷ ks) e = absurd (omega (arith, e))

-- ---- one key

-- the lines of the first key alone
pub first_line : (block n d : ℕ) (v : ValueTree) (left later : List LostKey) (k : LostKey) → left ≡ k ∷ later → is_below d v (key_path k) ≡ true → (at stop : ℕ) (now new : List ℕ)
    → Gathers (lost_line block n (key_path k).text) at stop now new → Gathers (lost_lines block (losses_below n d v (take 1 left))) at stop now new
first_line block n d v left later k e is at stop now new g =
    told_same (lost_line block n (key_path k).text) (lost_lines block (losses_below n d v (take 1 left))) at stop now new
    (ap (λ ks. lost_lines block (losses_below n d v (take 1 ks))) e ∙ (λ i. lost_lines block (cond (is i) (record { record_at = n; path = (key_path k).text } ∷ []) [] ++ [])) ∙ append-nil (lost_line block n (key_path k).text)) g

first_none : (n d : ℕ) (v : ValueTree) (k : LostKey) → is_below d v (key_path k) ≡ false → key_loss n d v k ≡ []
first_none n d v k is = ap (λ b. cond b (record { record_at = n; path = (key_path k).text } ∷ []) []) is

-- the place ends before depth d
pub own_part : (p : RelationPath) (d n : ℕ) (v : ValueTree) → n ≡ length (place_numbers p) → n ≤ d → is_below d v p ≡ has_part p.part v
own_part p d n v e le = ap (λ ns. has_part_where p.part (value_below ns v)) (drop_all d (place_numbers p) (omega arith))

-- it goes on, by the number of its run there
run_at : (d : ℕ) (rs : List Run) (p : RelationPath) (ks : List LostKey) (i : ℕ) (r : Run) → RunsFit d rs p ks → i < length rs → r ≡ get_or rs i r → RunFits (d + i) r p ks
run_at d [] p ks i r h lt is = absurd (omega arith)
run_at d (x ∷ rs) p ks zero r h lt is = subst (λ n. RunFits n r p ks) (let e : d ≡ d + 0 = omega arith in e) (subst (λ y. RunFits d y p ks) (sym is) h.0)
run_at d (x ∷ rs) p ks (suc i) r h lt is = subst (λ n. RunFits n r p ks) (let e : d + 1 + i ≡ d + suc i = omega arith in e) (run_at (d + 1) rs p ks i r h.1 (omega arith) is)

pub run_there : (k : LostKey) (ks : List LostKey) (d : ℕ) (r : Run) → KeyRuns k ks → d < length k.runs.items → r ≡ get_or k.runs.items d r → RunFits d r (key_path k) ks
run_there k ks d r h lt is = subst (λ n. RunFits n r (key_path k) ks) (let e : 0 + d ≡ d = omega arith in e) (run_at 0 k.runs.items (key_path k) ks d r h.runs lt is)

-- ---- a leaf

-- nothing is behind a further number
goes_nowhere : (p : RelationPath) (d s : ℕ) (v : ValueTree) → entries_in v ≡ no_entries → LeadsBy d s p → is_below d v p ≡ false
goes_nowhere p d s v none h =
    ap (λ ns. has_part_where p.part (value_below ns v)) h.rest ∙ ap (has_part_where p.part) (leads s (drop (d + 1) (place_numbers p)) v) ∙ ap (λ es. has_part_where p.part (option_and_then (value_below (drop (d + 1) (place_numbers p))) (slot_value s es))) none

pub leaf_none : (p : RelationPath) (d n : ℕ) (v : ValueTree) → entries_in v ≡ no_entries → n ≡ length (place_numbers p) → d < n → is_below d v p ≡ false
leaf_none p d n v none e lt = goes_nowhere p d (get_or (place_numbers p) d 0) v none (number_leads d (get_or (place_numbers p) d 0) p (omega arith) refl)

-- those that are passed over with a key that isn't there
pub leaf_passed : (n d : ℕ) (v : ValueTree) (left later : List LostKey) (k : LostKey) (c : ℕ) → left ≡ k ∷ later → AreRuns left → is_below d v (key_path k) ≡ false → c ≤ k.absent → losses_below n d v (take (suc c) left) ≡ []
leaf_passed n d v left later k c e runs not le =
    let own : AreRuns (k ∷ later) = subst AreRuns e runs in
    ap (λ ks. losses_below n d v (take (suc c) ks)) e
    ∙ (λ i. first_none n d v k not i ++ fallen n d c v (key_path k) later not (first_less (λ q. FallsWith (key_path k) (key_path q)) c k.absent later le own.0.falls) i)

-- ---- keys of one slot

module _ (n d : ℕ) (es : EntriesTree) (left later : List LostKey) (k : LostKey) (e : left ≡ k ∷ later) (r : Run) (f : RunFits d r (key_path k) later) where
  of_slot : (c : ℕ) → c ≤ suc r.more → OfFirst (λ q. LeadsBy d r.slot (key_path q)) c left
  of_slot c le = subst (OfFirst (λ q. LeadsBy d r.slot (key_path q)) c) (sym e) (first_less (λ q. LeadsBy d r.slot (key_path q)) c (suc r.more) (k ∷ later) le (f.leads, f.same))

  pub slot_there : (c : ℕ) (w : ValueTree) → c ≤ suc r.more → slot_value r.slot es ≡ Some w → losses_below n d (marked es) (take c left) ≡ losses_below n (d + 1) w (take c left)
  slot_there c w le there = lost_there n d r.slot c es w left there (of_slot c le)

  pub slot_none : (c : ℕ) → c ≤ suc r.more → slot_value r.slot es ≡ None → losses_below n d (marked es) (take c left) ≡ []
  slot_none c le none = none_lost n d r.slot c es left none (of_slot c le)

  pub all_passed : (marks : List ℕ) → ((s : ℕ) → (IsMarked marks s → ⊥) → slot_value s es ≡ None) → IsPassed r (length later) marks → losses_below n d (marked es) left ≡ []
  all_passed marks others h =
      ap (losses_below n d (marked es)) e
      ∙ none_left n d (suc r.reach) r.later es (k ∷ later) absent (omega (arith, h.few)) (record { slot = r.slot; leads = f.leads; among = f.among }, f.into)
    where
      -- a slot that is marked is one from 1 to 126
      small : (s : ℕ) → IsMarked marks s → s ≤ 126
      small s one = by (le_or_less (length marks) (s - 1))
        where
          by : (length marks ≤ s - 1) ⊎ (s - 1 < length marks) → s ≤ 126
          by (inl past) = absurd (let no : 0 ≡ 1 = sym (get_or_past marks (s - 1) 0 past) ∙ one.1 in cc)
          by (inr lt) = omega (arith, lt, h.size)

      absent : (s : ℕ) → IsAmong r.later s → slot_value s es ≡ None
      absent s among = others s (λ one. h.apart s one (among one.0 (small s one)))

-- ---- sets without a slot in common

apart_from : (s : ℕ) (a b : List ℕ) → slots_from s (common_marks a b) ≡ [] → (i : ℕ) → get_or a i 0 ≡ 1 → get_or b i 0 ≡ 1 → ⊥
apart_from s [] b e i x y = cc
apart_from s (m ∷ a) [] e i x y = cc
apart_from s (m ∷ a) (n ∷ b) e zero x y = absurd (let no : slots_from s (1 ∷ common_marks a b) ≡ [] = ap (λ k. slots_from s (k ∷ common_marks a b)) (let least : 1 ≡ min m n = omega (arith, x, y) in least) ∙ e in cc)
apart_from s (m ∷ a) (n ∷ b) e (suc i) x y = apart_from (s + 1) a b (later (min m n) e) i x y
  where
    later : (k : ℕ) → slots_from s (k ∷ common_marks a b) ≡ [] → slots_from (s + 1) (common_marks a b) ≡ []
    later zero f = f
    later (suc k) f = cc

pub none_shared : (a b both : List ℕ) → both ≡ common_marks a b → slots_of both ≡ [] → NoneShared a b
none_shared a b both e none s x y = apart_from 1 a b (ap slots_of (sym e) ∙ none) (s - 1) x.1 y.1

pub passed : (r : Run) (behind : ℕ) (marks both : List ℕ) (o : Option ℕ) → behind ≤ r.reach → length marks ≡ 126 → both ≡ common_marks marks r.later → IfNone o (slots_of both ≡ []) → is_some o ≡ false → IsPassed r behind marks
passed r behind marks both None few size e none is = record { few = few; apart = none_shared marks r.later both e none; size = size }
passed r behind marks both (Some s) few size e none is = cc

-- ---- keys by their index

module _ (block n d : ℕ) (v : ValueTree) (keys : List LostKey) (i : ℕ) (k : LostKey) (at end : ℕ) (old now : List ℕ) (h : KeysTold block n d v keys (drop i keys) at end old now) (lt : i < length keys) (is : k ≡ get_or keys i k) where
  here : drop i keys ≡ k ∷ drop (i + 1) keys
  here = from_place keys i k lt is

  after : (j m : ℕ) → j ≡ i + m → drop j keys ≡ drop m (drop i keys)
  after j m e = ap (λ x. drop x keys) e ∙ sym (drop-drop m i keys)

  few : end < 4294967296
  few = omega (arith, h.told.told.counted)

  pub own_runs : KeyRuns k (drop (i + 1) keys)
  own_runs = (subst AreRuns here h.runs).0

  pub line_told : (stop : ℕ) (new : List ℕ) → is_below d v (key_path k) ≡ true → Gathers (lost_line block n (key_path k).text) end stop now new → KeysTold block n d v keys (drop (i + 1) keys) at stop old new
  line_told stop new there g =
      keys_more block n d v keys (drop i keys) (drop (i + 1) keys) at end old now h 1 (after (i + 1) 1 refl) (losses_below n d v (take 1 (drop i keys))) stop new refl
      (first_line block n d v (drop i keys) (drop (i + 1) keys) k here there end stop now new g)

  pub leaf_skipped : (c j : ℕ) → j ≡ i + suc c → is_below d v (key_path k) ≡ false → c ≤ k.absent → KeysTold block n d v keys (drop j keys) at end old now
  leaf_skipped c j e not le = keys_passed block n d v keys (drop i keys) (drop j keys) at end old now h (suc c) (after j (suc c) e) (leaf_passed n d v (drop i keys) (drop (i + 1) keys) k c here h.runs not le) few

module _ (block n d : ℕ) (es : EntriesTree) (keys : List LostKey) (i : ℕ) (k : LostKey) (at end : ℕ) (old now : List ℕ) (h : KeysTold block n d (marked es) keys (drop i keys) at end old now) (lt : i < length keys) (is : k ≡ get_or keys i k) where
  abbrev pub left : List LostKey
  left = drop i keys

  abbrev pub later : List LostKey
  later = drop (i + 1) keys

  first : left ≡ k ∷ later
  first = from_place keys i k lt is

  next : (m : ℕ) → drop (i + m) keys ≡ drop m left
  next m = sym (drop-drop m i keys)

  own : KeyRuns k later
  own = (subst AreRuns first h.runs).0

  -- the compound's own key
  own_is : length k.runs.items ≤ d → losses_below n d (marked es) (take 1 left) ≡ own_loss n k
  own_is le =
      ap (λ ks. losses_below n d (marked es) (take 1 ks)) first
      ∙ ap (λ b. cond b (entry ∷ []) [] ++ []) (own_part (key_path k) d (length k.runs.items) (marked es) own.size le ∙ by (key_path k).part)
      ∙ append-nil (own_loss n k)
    where
      entry : LossEntry
      entry = record { record_at = n; path = (key_path k).text }

      by : (o : Option ℕ) → has_part o (marked es) ≡ is_none o
      by None = refl
      by (Some p) = refl

  pub own_told : (stop : ℕ) (new : List ℕ) → length k.runs.items ≤ d → Gathers (lost_lines block (own_loss n k)) end stop now new → KeysTold block n d (marked es) keys (drop (i + 1) keys) at stop old new
  own_told stop new le g = keys_more block n d (marked es) keys left (drop (i + 1) keys) at end old now h 1 (next 1) (own_loss n k) stop new (own_is le) g

  module _ (r : Run) (within : d < length k.runs.items) (at_depth : r ≡ get_or k.runs.items d r) where
    fits : RunFits d r (key_path k) later
    fits = run_there k later d r own within at_depth

    -- its numbers go on
    pub deeper : (m : ℕ) → 2 * (deepest (take m left) - (d + 1)) + 1 < 2 * (deepest keys - d)
    deeper m = omega (arith, deepest_take m left, h.deep, ap deepest first, within)

    pub slot_runs : (m : ℕ) → AreRuns (take m left)
    slot_runs m = runs_take m left h.runs

    pub slot_told : (c stop : ℕ) (new : List ℕ) (w : ValueTree) → c ≤ suc r.more → Some w ≡ slot_value r.slot es → Gathers (lost_lines block (losses_below n (d + 1) w (take c left))) end stop now new → KeysTold block n d (marked es) keys (drop (i + c) keys) at stop old new
    slot_told c stop new w le there g = keys_more block n d (marked es) keys left (drop (i + c) keys) at end old now h c (next c) (losses_below n (d + 1) w (take c left)) stop new (slot_there n d es left later k first r fits c w le (sym there)) g

    pub slot_skipped : (c : ℕ) → c ≤ suc r.more → None ≡ slot_value r.slot es → KeysTold block n d (marked es) keys (drop (i + c) keys) at end old now
    slot_skipped c le none = keys_passed block n d (marked es) keys left (drop (i + c) keys) at end old now h c (next c) (slot_none n d es left later k first r fits c le (sym none)) (omega (arith, h.told.told.counted))

    pub all_told : (marks : List ℕ) (behind : ℕ) → ((s : ℕ) → (IsMarked marks s → ⊥) → slot_value s es ≡ None) → behind ≡ length keys - i - 1 → IsPassed r behind marks → Gathers (lost_lines block (losses_below n d (marked es) keys)) at end old now
    all_told marks behind others e p =
        let count : behind ≡ length later = omega (arith, e, length-drop (i + 1) keys) in
        keys_stop block n d (marked es) keys left at end old now h (all_passed n d es left later k first r fits marks others (subst (λ b. IsPassed r b marks) count p))

-- ---- a compound

-- what its places show is its value
pub compound_value : (item : ItemView) (one : Node) (at : one ≡ get_or item.codec.now.nodes (item.link - 1) one) (mask : SlotMask) (links found body : List ℕ) (codec : Codec) → one ≡ Of.Compound mask links → links ≡ found → item.body.now ≡ body → item.codec.now ≡ codec
    → marked (entries_there codec.nodes found body 0) ≡ item_value item
unfolding value_in kind_read
compound_value item one at mask links found body codec e f g h =
    let kind = is_compound item.codec.now.nodes item.link one item.codec.now.table item.item.some item.item.within at mask links links e refl in
    (λ i. marked (entries_there (sym h i).nodes (sym f i) (sym g i) 0)) ∙ sym (is_marked item.codec.now.nodes links item.body.now) ∙ ap (λ k. value_in k item.body.now) (sym kind)
