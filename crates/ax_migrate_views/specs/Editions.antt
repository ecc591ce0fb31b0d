-- Of which two editions a migrator is.
use mathlib.Core.HLevel.{is_prop→PathP}
use mathlib.Core.Path.{sym, ◌∙◌, ap}
use Rattle.std.specs.Prelude.{◌≡◌, ℕ, zero, suc, ◌+◌, true, false, List, [], ◌∷◌, length, map, drop, unwrap_or, is_none, get_or}
use Rattle.std.specs.Coded.{Coded-set, coded_ℕ, coded_bool, coded_list, ×_prop, le_prop}
use Rattle.ax_fspec.specs.Marks.{IsMarked}
use Rattle.ax_moves.specs.Gone.{gone}
use Rattle.ax_moves.specs.Lost.{AreLost, AreRuns, FallsWith, IsAmong, KeyRuns, LeadsBy, LeadsInto, OfFirst, RunFits, RunsFit, is_below, key_path, key_paths, place_numbers}
use Rattle.ax_migrate_views.specs.MoveSets.{empty_prop, move_list_set, paths_set, sharing_set}
use Rattle.ax_migrate_views.specs.TreeSets.{slot_list_set}
use Rattle.ax_moves.specs.declared.lost.LostKey.{LostKey}
use Rattle.ax_moves.specs.declared.lost.Run.{Run}
use Rattle.ax_format.specs.Flaws.{NoFlaw, flaws_of}
use Rattle.ax_format.specs.Plain.{spec_tree}
use Rattle.ax_format.specs.Specification.{SpecTree}
use Rattle.ax_format.specs.declared.spec.Spec.{Spec}
use Rattle.ax_fspec.specs.Reading.{record_slot_list}
use Rattle.ax_relation.specs.Editions.{AreOf}
use Rattle.ax_relation.specs.Known.{IsKnown, nothing, said, sharing_at}
use Rattle.ax_relation.specs.Moves.{record_moves}
use Rattle.ax_relation.specs.Paths.{relation_paths}
use Rattle.ax_relation.specs.PlainMoves.{move_tree}
use Rattle.ax_relation.specs.Relates.{Relates}
use Rattle.ax_relation.specs.declared.known.Known.{Known}
use Rattle.ax_relation.specs.declared.moves.Move.{Move}
use Rattle.ax_relation.specs.declared.relation.Relation.{Relation}
use Rattle.ax_relation.specs.declared.relation.RelationPath.{RelationPath}
use Rattle.ax_codec.specs.Bare.{bare_slot, IsTableFor}
use Rattle.ax_codec.specs.Meaning.{linked_slots, meanings}
use Rattle.ax_codec.specs.Standing.{IsCompiled, StandsFor}
use Rattle.ax_codec.specs.declared.codec.Codec.{Codec}

-- the relation is of these two, the codec stands for the old one, and the keys are those without a new place
pub record AreEditions (old new : Spec) (relation : Relation) (codec : Codec) (keys : List LostKey) : Type 0 where
  pub related : Relates old new relation
  pub compiled : IsCompiled codec (spec_tree old)
  pub lost : AreLost relation.paths keys

-- ---- each fact has one proof

NoFlaw-prop : (spec : SpecTree) → IsProp (NoFlaw spec)
NoFlaw-prop spec a b = λ i. record { none = empty_prop (flaws_of spec) a.none b.none i }

IsKnown-prop : (old new : SpecTree) (known : Known) → IsProp (IsKnown old new known)
IsKnown-prop old new known a b = λ i. record { sharing = λ path. sharing_set (unwrap_or (said known path) nothing) (sharing_at old new path) (a.sharing path) (b.sharing path) i }

AreOf-prop : (old new : Spec) (keys : List RelationPath) (shared : Known) (steps : List Move) → IsProp (AreOf old new keys shared steps)
AreOf-prop old new keys shared steps a b = λ i. record {
  old_no_flaw = NoFlaw-prop (spec_tree old) a.old_no_flaw b.old_no_flaw i;
  new_no_flaw = NoFlaw-prop (spec_tree new) a.new_no_flaw b.new_no_flaw i;
  category = Coded-set coded_ℕ old.category new.category a.category b.category i;
  paths = paths_set keys (relation_paths (spec_tree old) (spec_tree new)) a.paths b.paths i;
  known = IsKnown-prop (spec_tree old) (spec_tree new) shared a.known b.known i;
  moves = move_list_set (map move_tree steps) (record_moves (spec_tree old) (spec_tree new)) a.moves b.moves i;
}

StandsFor-prop : (codec : Codec) (spec : SpecTree) → IsProp (StandsFor codec spec)
StandsFor-prop codec spec a b = λ i. record {
  category = Coded-set coded_ℕ codec.category spec.category a.category b.category i;
  slots = slot_list_set (linked_slots (meanings codec.nodes) codec.slots) (map bare_slot (record_slot_list spec)) a.slots b.slots i;
}

IsCompiled-prop : (codec : Codec) (spec : SpecTree) → IsProp (IsCompiled codec spec)
IsCompiled-prop codec spec a b = λ i. record { stands = StandsFor-prop codec spec a.stands b.stands i; clean = NoFlaw-prop spec a.clean b.clean i }

-- ---- of the keys

OfFirst-prop : (P : LostKey → Type 0) → ((k : LostKey) → IsProp (P k)) → (c : ℕ) (ks : List LostKey) → IsProp (OfFirst P c ks)
OfFirst-prop P each zero ks a b = λ i. a
OfFirst-prop P each (suc c) [] a b = λ i. a
OfFirst-prop P each (suc c) (k ∷ ks) a b = λ i. (each k a.0 b.0 i, OfFirst-prop P each c ks a.1 b.1 i)

LeadsBy-prop : (d s : ℕ) (p : RelationPath) → IsProp (LeadsBy d s p)
LeadsBy-prop d s p a b = λ i. record { rest = Coded-set (coded_list coded_ℕ) (drop d (place_numbers p)) (s ∷ drop (d + 1) (place_numbers p)) a.rest b.rest i }

IsMarked-prop : (marks : List ℕ) (s : ℕ) → IsProp (IsMarked marks s)
IsMarked-prop marks s = ×_prop le_prop (Coded-set coded_ℕ _ _)

IsAmong-prop : (marks : List ℕ) (s : ℕ) → IsProp (IsAmong marks s)
IsAmong-prop marks s a b = λ i. λ some few. IsMarked-prop marks s (a some few) (b some few) i

LeadsInto-prop : (d : ℕ) (marks : List ℕ) (p : RelationPath) → IsProp (LeadsInto d marks p)
LeadsInto-prop d marks p a b =
    let same : a.slot ≡ b.slot = ap (λ xs. get_or xs 0 0) (sym a.leads.rest ∙ b.leads.rest) in λ i. record {
      slot = same i;
      leads = is_prop→PathP (λ i. LeadsBy d (same i) p) (λ i. LeadsBy-prop d (same i) p) a.leads b.leads i;
      among = is_prop→PathP (λ i. IsAmong marks (same i)) (λ i. IsAmong-prop marks (same i)) a.among b.among i;
    }

RunFits-prop : (d : ℕ) (r : Run) (p : RelationPath) (ks : List LostKey) → IsProp (RunFits d r p ks)
RunFits-prop d r p ks a b = λ i. record {
  size = Coded-set coded_ℕ (length r.later) 126 a.size b.size i;
  leads = LeadsBy-prop d r.slot p a.leads b.leads i;
  among = IsAmong-prop r.later r.slot a.among b.among i;
  same = OfFirst-prop (λ k. LeadsBy d r.slot (key_path k)) (λ k. LeadsBy-prop d r.slot (key_path k)) r.more ks a.same b.same i;
  into = OfFirst-prop (λ k. LeadsInto d r.later (key_path k)) (λ k. LeadsInto-prop d r.later (key_path k)) r.reach ks a.into b.into i;
}

RunsFit-prop : (d : ℕ) (rs : List Run) (p : RelationPath) (ks : List LostKey) → IsProp (RunsFit d rs p ks)
RunsFit-prop d [] p ks a b = λ i. a
RunsFit-prop d (r ∷ rs) p ks a b = λ i. (RunFits-prop d r p ks a.0 b.0 i, RunsFit-prop (d + 1) rs p ks a.1 b.1 i)

FallsWith-prop : (p q : RelationPath) → IsProp (FallsWith p q)
FallsWith-prop p q a b = λ i. λ d v not. Coded-set coded_bool (is_below d v q) false (a d v not) (b d v not) i

KeyRuns-prop : (k : LostKey) (ks : List LostKey) → IsProp (KeyRuns k ks)
KeyRuns-prop k ks a b = λ i. record {
  gone = Coded-set coded_bool (is_none (key_path k).new) true a.gone b.gone i;
  size = Coded-set coded_ℕ (length k.runs.items) (length (place_numbers (key_path k))) a.size b.size i;
  runs = RunsFit-prop 0 k.runs.items (key_path k) ks a.runs b.runs i;
  falls = OfFirst-prop (λ q. FallsWith (key_path k) (key_path q)) (λ q. FallsWith-prop (key_path k) (key_path q)) k.absent ks a.falls b.falls i;
}

AreRuns-prop : (ks : List LostKey) → IsProp (AreRuns ks)
AreRuns-prop [] a b = λ i. a
AreRuns-prop (k ∷ ks) a b = λ i. (KeyRuns-prop k ks a.0 b.0 i, AreRuns-prop ks a.1 b.1 i)

AreLost-prop : (paths : List RelationPath) (ks : List LostKey) → IsProp (AreLost paths ks)
AreLost-prop paths ks a b = λ i. record { gone = paths_set (key_paths ks) (gone paths) a.gone b.gone i; runs = AreRuns-prop ks a.runs b.runs i }

pub AreEditions-prop : (old new : Spec) (relation : Relation) (codec : Codec) (keys : List LostKey) → IsProp (AreEditions old new relation codec keys)
AreEditions-prop old new relation codec keys a b = λ i. record {
  related = AreOf-prop old new relation.paths relation.known relation.moves a.related b.related i;
  compiled = IsCompiled-prop codec (spec_tree old) a.compiled b.compiled i;
  lost = AreLost-prop relation.paths keys a.lost b.lost i;
}
