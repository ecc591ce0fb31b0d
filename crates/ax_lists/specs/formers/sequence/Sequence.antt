-- How a `Sequence` holds its members, so that a type may lead back to itself through one.
use mathlib.Core.Path.{◌≡◌, refl, sym}
use mathlib.Core.List.{List, []}
use mathlib.Core.Former.{Former, this, list, via, children}
use base.Stored.{code_map}
use denote.RattleType.{RattleType}
use denote.HoleLaws.{Alike}
use denote.HolePlaces.{Recodes, struct_places, laid}
use denote.Hole.Carrier.{listed, list-listed}
use denote.Hole.Fix.{over}
use denote.Param.Weighed.{Weighed, w_list}
use denote.Model.Placed.{view_places}
use lib.ListN.{length-map}
use native.Mathlib.Bridge.{le_prop}
use Rattle.std.proofs.Common.{ℕ, ◌<◌, subst}
use Rattle.std.specs.formers.vec.Vec as vec
use Rattle.std.specs.declared.alloc.Global.{Global}
use Rattle.std.specs.contracts.alloc.Global as heap
use Rattle.std.specs.contracts.impls.GlobalAllocator.TheImpl.{ghosts}
use Rattle.ax_lists.specs.declared.sequence.Sequence.TheInside.{Inside}
use Rattle.ax_lists.specs.declared.sequence.Sequence.TheView.{view, invariant}
use Rattle.ax_lists.specs.contracts.sequence.Sequence as C
use Rattle.ax_lists.specs.contracts.sequence.Sequence.TheInside as I

abbrev pub the_former : Former {0} → Former {0}
the_former g = list g

abbrev pub the_weighed : {g : Former {0}} → Weighed g → Weighed (the_former g)
the_weighed w = w_list w

abbrev pub the_empty : List ⊥
the_empty = []

abbrev pub the_items : (X : Type 0) → List X → List X
the_items X members = members

pub the_items_listed : (X : Type 0) (members : List X) → listed _ (children (the_former this) X members) ≡ the_items X members
the_items_listed X members = list-listed X members

-- the fields hold the members where a `Vec` holds its own
abbrev fields : Former {0}
fields = via (vec.the_former this Global) Inside (λ X s. s.members) (λ X v. record { members = v }) (λ X s. refl) (λ X v. refl)

-- a bound on a count holds for an equal count
along : {m n : ℕ} → m ≡ n → m < 4294967296 → n < 4294967296
along e h = let P : ℕ → Type 0 = λ k. k < 4294967296 in subst P e h

module _ (R S : RattleType) (h : R.Denot → S.Denot) where
  pub the_places : Alike R S h → Alike (C.the_row R) (C.the_row S) ((the_former this).map R.Denot S.Denot h)
  the_places alike = view_places fields (list this) view (λ X Y k u. refl) (λ X u. refl) R.Denot S.Denot h (C.the_row R).coded (C.the_row S).coded
      (invariant R.Denot) (invariant S.Denot) (λ u. le_prop) (λ u. le_prop)
      (λ u e. along (sym (length-map u.members.items h)) e) (λ u e. along (length-map u.members.items h) e)
      (over (I.the_row R)) (over (I.the_row S))
      (struct_places (I.the_type R) (I.the_type S) (vec.mapped h, tt) _ (λ d. refl) refl (laid _ _ _ (vec.the_places heap.the_row ghosts R S h alike), tt))

  pub the_codes_placed : Recodes R S h → Recodes (C.the_row R) (C.the_row S) ((the_former this).map R.Denot S.Denot h)
  the_codes_placed same members = sym (code_map R.coded.code S.coded.code h (λ x. sym (same x)) members)
