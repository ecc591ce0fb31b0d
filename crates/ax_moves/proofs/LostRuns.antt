-- What is lost of keys that are known to stand together.
use Rattle.std.proofs.Common.{◌≡◌, ℕ, zero, suc, ◌+◌, ◌≤◌, max, ◌&&◌, true, false, cond, is_none, List, [], ◌∷◌, ◌++◌, length, take, drop, Some, None, option_and_then, refl, sym, ◌∙◌, ap, arith, append_assoc}
use Rattle.std.proofs.lemmas.List.{take-append-drop}
use Rattle.std.proofs.lemmas.List.Concat.{flat_map-append}
use Rattle.ax_relation.specs.declared.relation.RelationPath.{RelationPath}
use Rattle.ax_migration.specs.Finding.{path_loss, record_losses}
use Rattle.ax_relation.specs.Standing.{value_below}
use Rattle.ax_migration.specs.Losing.{lost_line, lost_lines}
use Rattle.ax_migration.specs.declared.losses.LossEntry.{LossEntry}
use Rattle.ax_moves.specs.Lost.{key_path, key_paths, place_numbers, is_below, key_loss, losses_below, OfFirst, LeadsBy, IsAmong, LeadsInto, RunsFit, FallsWith, AreRuns}
use Rattle.ax_moves.specs.declared.lost.LostKey.{LostKey}
use Rattle.ax_moves.specs.declared.lost.Run.{Run}
use Rattle.ax_format.specs.At.{slot_value}
use Rattle.ax_format.specs.Placed.{has_part_where}
use Rattle.ax_format.specs.Tree.{ValueTree, marked, EntriesTree}

-- ---- the first keys

pub first_less : (P : LostKey → Type 0) (b c : ℕ) (ks : List LostKey) → b ≤ c → OfFirst P c ks → OfFirst P b ks
first_less P zero c ks le h = tt
first_less P (suc b) zero ks le h = absurd (omega arith)
first_less P (suc b) (suc c) [] le h = tt
first_less P (suc b) (suc c) (k ∷ ks) le h = (h.0, first_less P b c ks (omega arith) h.1)

first_take : (P : LostKey → Type 0) (c m : ℕ) (ks : List LostKey) → OfFirst P c ks → OfFirst P c (take m ks)
first_take P zero m ks h = tt
first_take P (suc c) zero ks h = tt
first_take P (suc c) (suc m) [] h = tt
first_take P (suc c) (suc m) (k ∷ ks) h = (h.0, first_take P c m ks h.1)

pub first_map : (P Q : LostKey → Type 0) (c : ℕ) (ks : List LostKey) → ((k : LostKey) → P k → Q k) → OfFirst P c ks → OfFirst Q c ks
first_map P Q zero ks f h = tt
first_map P Q (suc c) [] f h = tt
first_map P Q (suc c) (k ∷ ks) f h = (f k h.0, first_map P Q c ks f h.1)

-- ---- some of the keys

fit_take : (d m : ℕ) (rs : List Run) (p : RelationPath) (ks : List LostKey) → RunsFit d rs p ks → RunsFit d rs p (take m ks)
fit_take d m [] p ks h = tt
fit_take d m (r ∷ rs) p ks h = (
  record {
    size = h.0.size;
    leads = h.0.leads;
    among = h.0.among;
    same = first_take (λ k. LeadsBy d r.slot (key_path k)) r.more m ks h.0.same;
    into = first_take (λ k. LeadsInto d r.later (key_path k)) r.reach m ks h.0.into;
  },
  fit_take (d + 1) m rs p ks h.1,
)

pub runs_take : (m : ℕ) (ks : List LostKey) → AreRuns ks → AreRuns (take m ks)
runs_take zero ks h = tt
runs_take (suc m) [] h = tt
runs_take (suc m) (k ∷ ks) h = (
  record {
    gone = h.0.gone;
    size = h.0.size;
    runs = fit_take 0 m k.runs.items (key_path k) ks h.0.runs;
    falls = first_take (λ q. FallsWith (key_path k) (key_path q)) k.absent m ks h.0.falls;
  },
  runs_take m ks h.1,
)

pub runs_drop : (m : ℕ) (ks : List LostKey) → AreRuns ks → AreRuns (drop m ks)
runs_drop zero ks h = h
runs_drop (suc m) [] h = tt
runs_drop (suc m) (k ∷ ks) h = runs_drop m ks h.1

-- the most numbers that a key's place has
abbrev pub deepest : List LostKey → ℕ
deepest [] = 0
deepest (k ∷ ks) = max (length k.runs.items) (deepest ks)

pub deepest_take : (m : ℕ) (ks : List LostKey) → deepest (take m ks) ≤ deepest ks
deepest_take zero ks = omega arith
deepest_take (suc m) [] = omega arith
deepest_take (suc m) (k ∷ ks) = let later = deepest_take m ks in omega arith

pub deepest_drop : (m : ℕ) (ks : List LostKey) → deepest (drop m ks) ≤ deepest ks
deepest_drop zero ks = omega arith
deepest_drop (suc m) [] = omega arith
deepest_drop (suc m) (k ∷ ks) = let later = deepest_drop m ks in omega arith

-- ---- what is lost of some of the keys

losses_append : (n d : ℕ) (v : ValueTree) (xs ys : List LostKey) → losses_below n d v (xs ++ ys) ≡ losses_below n d v xs ++ losses_below n d v ys
losses_append n d v [] ys = refl
losses_append n d v (x ∷ xs) ys = ap (λ l. key_loss n d v x ++ l) (losses_append n d v xs ys) ∙ sym (append_assoc (key_loss n d v x) (losses_below n d v xs) (losses_below n d v ys))

pub losses_split : (n d : ℕ) (v : ValueTree) (m : ℕ) (ks : List LostKey) → losses_below n d v ks ≡ losses_below n d v (take m ks) ++ losses_below n d v (drop m ks)
losses_split n d v m ks = ap (losses_below n d v) (sym (take-append-drop m ks)) ∙ losses_append n d v (take m ks) (drop m ks)

-- the line of none of the first m, and those of the others
pub lines_split : (block n d : ℕ) (v : ValueTree) (m : ℕ) (ks : List LostKey) (first : List LossEntry) → losses_below n d v (take m ks) ≡ first → lost_lines block (losses_below n d v ks) ≡ lost_lines block first ++ lost_lines block (losses_below n d v (drop m ks))
lines_split block n d v m ks first e =
    ap (lost_lines block) (losses_split n d v m ks ∙ ap (λ l. l ++ losses_below n d v (drop m ks)) e) ∙ flat_map-append (λ (l : LossEntry). lost_line block l.record_at l.path) first (losses_below n d v (drop m ks))

-- ---- keys behind one number

below_by : (d s : ℕ) (p : RelationPath) (es : EntriesTree) → LeadsBy d s p → is_below d (marked es) p ≡ has_part_where p.part (option_and_then (value_below (drop (d + 1) (place_numbers p))) (slot_value s es))
below_by d s p es h = ap (λ ns. has_part_where p.part (value_below ns (marked es))) h.rest

pub below_there : (d s : ℕ) (p : RelationPath) (es : EntriesTree) (w : ValueTree) → slot_value s es ≡ Some w → LeadsBy d s p → is_below d (marked es) p ≡ is_below (d + 1) w p
below_there d s p es w there h = below_by d s p es h ∙ ap (λ o. has_part_where p.part (option_and_then (value_below (drop (d + 1) (place_numbers p))) o)) there

pub below_none : (d s : ℕ) (p : RelationPath) (es : EntriesTree) → slot_value s es ≡ None → LeadsBy d s p → is_below d (marked es) p ≡ false
below_none d s p es none h = below_by d s p es h ∙ ap (λ o. has_part_where p.part (option_and_then (value_below (drop (d + 1) (place_numbers p))) o)) none

same_loss : (n d e : ℕ) (v w : ValueTree) (k : LostKey) → is_below d v (key_path k) ≡ is_below e w (key_path k) → key_loss n d v k ≡ key_loss n e w k
same_loss n d e v w k is = ap (λ b. cond b (record { record_at = n; path = (key_path k).text } ∷ []) []) is

pub no_loss : (n d : ℕ) (v : ValueTree) (k : LostKey) → is_below d v (key_path k) ≡ false → key_loss n d v k ≡ []
no_loss n d v k is = ap (λ b. cond b (record { record_at = n; path = (key_path k).text } ∷ []) []) is

-- where the slot has a value, what is lost of the keys is lost below that
pub lost_there : (n d s c : ℕ) (es : EntriesTree) (w : ValueTree) (ks : List LostKey) → slot_value s es ≡ Some w → OfFirst (λ k. LeadsBy d s (key_path k)) c ks → losses_below n d (marked es) (take c ks) ≡ losses_below n (d + 1) w (take c ks)
lost_there n d s zero es w ks there h = refl
lost_there n d s (suc c) es w [] there h = refl
lost_there n d s (suc c) es w (k ∷ ks) there h = λ i. same_loss n d (d + 1) (marked es) w k (below_there d s (key_path k) es w there h.0) i ++ lost_there n d s c es w ks there h.1 i

-- and where it has none, nothing is lost
pub none_lost : (n d s c : ℕ) (es : EntriesTree) (ks : List LostKey) → slot_value s es ≡ None → OfFirst (λ k. LeadsBy d s (key_path k)) c ks → losses_below n d (marked es) (take c ks) ≡ []
none_lost n d s zero es ks none h = refl
none_lost n d s (suc c) es [] none h = refl
none_lost n d s (suc c) es (k ∷ ks) none h = λ i. no_loss n d (marked es) k (below_none d s (key_path k) es none h.0) i ++ none_lost n d s c es ks none h.1 i

-- keys of slots of a set, of which none has a value
pub none_left : (n d c : ℕ) (marks : List ℕ) (es : EntriesTree) (ks : List LostKey) → ((s : ℕ) → IsAmong marks s → slot_value s es ≡ None) → length ks ≤ c → OfFirst (λ k. LeadsInto d marks (key_path k)) c ks → losses_below n d (marked es) ks ≡ []
none_left n d c marks es [] none few h = refl
none_left n d zero marks es (k ∷ ks) none few h = absurd (omega arith)
none_left n d (suc c) marks es (k ∷ ks) none few h = λ i. no_loss n d (marked es) k (below_none d h.0.slot (key_path k) es (none h.0.slot h.0.among) h.0.leads) i ++ none_left n d c marks es ks none (omega arith) h.1 i

-- keys that aren't there where this one isn't
pub fallen : (n d c : ℕ) (v : ValueTree) (p : RelationPath) (ks : List LostKey) → is_below d v p ≡ false → OfFirst (λ q. FallsWith p (key_path q)) c ks → losses_below n d v (take c ks) ≡ []
fallen n d zero v p ks not h = refl
fallen n d (suc c) v p [] not h = refl
fallen n d (suc c) v p (k ∷ ks) not h = λ i. no_loss n d v k (h.0 d v not) i ++ fallen n d c v p ks not h.1 i

-- ---- of a record

one_loss : (n : ℕ) (es : EntriesTree) (k : LostKey) → is_none (key_path k).new ≡ true → path_loss n es (key_path k) ≡ key_loss n 0 (marked es) k
one_loss n es k gone = (λ i. cond (gone i && is_below 0 (marked es) (key_path k)) (entry n k ∷ []) [])
  where
    entry : ℕ → LostKey → LossEntry
    entry n k = record { record_at = n; path = (key_path k).text }

pub record_lost : (n : ℕ) (es : EntriesTree) (ks : List LostKey) → AreRuns ks → losses_below n 0 (marked es) ks ≡ record_losses n es (key_paths ks)
record_lost n es [] h = refl
record_lost n es (k ∷ ks) h = λ i. sym (one_loss n es k h.0.gone) i ++ record_lost n es ks h.1 i
