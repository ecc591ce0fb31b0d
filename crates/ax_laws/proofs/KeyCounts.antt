-- A key that is present stands once among the keys of its specification.
use Rattle.std.proofs.Common.{◌≡◌, ℕ, ◌+◌, inl, inr, Bool, true, false, cond, ◌&&◌, not, is_some, List, [], ◌∷◌, filter, Option, Some, None, refl, sym, ◌∙◌, ap}
use Rattle.std.proofs.lemmas.Bool.{eqb-true, and_parts}
use Rattle.ax_format.specs.Flaws.{NoFlaw}
use Rattle.ax_format.specs.Migrated.{Migrated, is_lost, kept_where}
use Rattle.ax_format.specs.Named.{Key, NamedEntry, named_keys, kind_at, entry_named, Named}
use Rattle.ax_format.specs.Shared.{are_shared, shared_names}
use Rattle.ax_format.specs.Specification.{SpecTree, record_kind}
use Rattle.ax_format.specs.Tree.{KindTree, EntriesTree, no_entries}
use Rattle.ax_relation.proofs.Once.{each_kept_or_lost}
use Rattle.ax_relation.proofs.PathsOnce.{path_is}
use Rattle.ax_relation.specs.Fates.{is_path, is_part, is_key, times, KeptOrLost}

-- ---- a filter keeps what passes

part_is : (a b : Option ℕ) → is_part a b ≡ true → a ≡ b
part_is None None e = refl
part_is (Some i) (Some j) e = ap Some (eqb-true i j e)
part_is None (Some j) e = cc
part_is (Some i) None e = cc

key_is : (a b : Key) → is_key a b ≡ true → a ≡ b
key_is a b e =
    let t = and_parts (is_path a.names b.names) (is_part a.part b.part) e in
    let p = path_is a.names b.names t.0 in
    let q = part_is a.part b.part t.1 in λ i. record { names = p i; part = q i }

pub times_kept : (test : Key → Bool) (key : Key) (xs : List Key) → times key (filter test xs) ≡ cond (test key) (times key xs) 0
times_kept test key [] = by (test key)
  where
    by : (b : Bool) → times key [] ≡ cond b (times key []) 0
    by true = refl
    by false = refl
times_kept test key (x ∷ xs) = by (test x) (test key) (is_key key x) refl refl refl (times_kept test key xs)
  where
    by : (b c d : Bool) → test x ≡ b → test key ≡ c → is_key key x ≡ d → times key (filter test xs) ≡ cond c (times key xs) 0
        → times key (cond b (x ∷ filter test xs) (filter test xs)) ≡ cond c (cond d (times key xs + 1) (times key xs)) 0
    by true true d p q r h = (λ i. cond (r i) (h i + 1) (h i))
    by true false true p q r h = let same = ap test (key_is key x r) in cc
    by true false false p q r h = ap (λ y. cond y (times key (filter test xs) + 1) (times key (filter test xs))) r ∙ h
    by false true true p q r h = let same = ap test (key_is key x r) in cc
    by false true false p q r h = h
    by false false d p q r h = h

-- ---- with a specification without items nothing is shared, and all that is present is lost

abbrev empty : SpecTree
empty = record { category = 0; edition = []; items = []; uap = [] }

nothing_shared : (old : SpecTree) (part : Option ℕ) (names : List (List ℕ)) → shared_names old empty part names ≡ false
nothing_shared old part [] = refl
nothing_shared old part (name ∷ names) = by (kind_at (name ∷ names) (record_kind old))
  where
    by : (o : Option KindTree) → are_shared part o None ≡ false
    by (Some k) = refl
    by None = refl

nothing_named : (part : Option ℕ) (names : List (List ℕ)) → entry_named empty no_entries part names ≡ None
nothing_named part [] = refl
nothing_named part (name ∷ names) = refl

all_lost : (old : SpecTree) (entries : EntriesTree) → Migrated old empty entries no_entries
all_lost old entries = record {
  shape = record { shape = tt };
  named = λ key. nothing_named key.part key.names ∙ ap (λ b. kept_where b (Named old entries key)) (sym (nothing_shared old key.part key.names));
}

pub key_once : (old : SpecTree) (entries : EntriesTree) (key : Key) (entry : NamedEntry) → NoFlaw old → Named old entries key ≡ Some entry → times key (named_keys old) ≡ 1
key_once old entries key entry clean e = by (each_kept_or_lost old empty entries no_entries key entry clean (all_lost old entries) e)
  where
    lost : is_lost old empty entries key ≡ true
    lost = (λ i. is_some (e i) && not (nothing_shared old key.part key.names i))

    by : KeptOrLost old empty entries no_entries key entry → times key (named_keys old) ≡ 1
    by (inl (there, none)) = absurd (let bad : Some entry ≡ None = sym there ∙ nothing_named key.part key.names in cc)
    by (inr (gone, once)) = sym (times_kept (is_lost old empty entries) key (named_keys old) ∙ ap (λ b. cond b (times key (named_keys old)) 0) lost) ∙ once
