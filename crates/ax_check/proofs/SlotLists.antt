-- The flaws of the slots of a compound, found one slot at a time.
use Rattle.std.proofs.Common.{◌≡◌, ℕ, suc, ◌+◌, ◌<◌, ◌≤◌, ◌==◌, nat_lt, List, [], ◌∷◌, ◌++◌, length, drop, get_or, refl, sym, ◌∙◌, ap, append_assoc, append-nil}
use Rattle.std.proofs.lemmas.List.{drop_all}
use Rattle.ax_check.proofs.FlawLists.{same_more}
use Rattle.ax_format.proofs.Namings.{from_place}
use Rattle.ax_check.specs.Members.{count_flaws, slot_flaws, with_slot}
use Rattle.ax_check.specs.Names.{AreSame}
use Rattle.ax_format.specs.Flaws.{flaw_where, slots_flaws, kind_flaws}
use Rattle.ax_format.specs.Paths.{at}
use Rattle.ax_format.specs.Plain.{slot_tree, slots_tree}
use Rattle.ax_format.specs.Tree.{SlotsTree, no_slots, slot_and, SlotTree, spare_slot, subitem, slot_count, compound}
use Rattle.ax_format.specs.declared.flaw.Flaw.{Flaw}
use Rattle.ax_format.specs.declared.flaw.FlawKind.{FlawKind}
use Rattle.ax_format.specs.declared.flaw.FlawKind.TheVariants.{DuplicateName, NotOctets, Empty, TooManySlots}
use Rattle.ax_format.specs.declared.kind.Slot.{Slot}

slots_same : (path : List ℕ) (a b : List (List ℕ)) (ss : SlotsTree) → AreSame a b → slots_flaws path a ss ≡ slots_flaws path b ss
slots_same path a b no_slots h = refl
slots_same path a b (slot_and spare_slot ss) h = slots_same path a b ss h
slots_same path a b (slot_and (subitem name k) ss) h = λ i.
    flaw_where (h.same name i) DuplicateName (at path name) ++ kind_flaws NotOctets (at path name) k ++ slots_same path (name ∷ a) (name ∷ b) ss (same_more name a b h) i

first_slot : (path : List ℕ) (a : List (List ℕ)) (s : SlotTree) (ss : SlotsTree) → slots_flaws path a (slot_and s ss) ≡ slot_flaws path a s ++ slots_flaws path (with_slot a s) ss
first_slot path a spare_slot ss = refl
first_slot path a (subitem name k) ss = refl

counted : (ss : List Slot) → slot_count (slots_tree ss) ≡ length ss
counted [] = refl
counted (s ∷ ss) = ap suc (counted ss)

pub slot_start : (path : List ℕ) (ss : List Slot) (names : List (List ℕ)) (found noted : List Flaw) → names ≡ [] → noted ≡ found ++ count_flaws path (length ss)
    → noted ++ slots_flaws path names (slots_tree ss) ≡ found ++ (flaw_where (length ss == 0) Empty path ++ flaw_where (nat_lt 126 (length ss)) TooManySlots path ++ slots_flaws path [] (slots_tree ss))
slot_start path ss names found noted none n =
    (λ i. n i ++ slots_flaws path (none i) (slots_tree ss)) ∙ append_assoc found (count_flaws path (length ss)) (slots_flaws path [] (slots_tree ss))

pub slot_step : (path : List ℕ) (i : ℕ) (a b : List (List ℕ)) (ss : List Slot) (s : Slot) (found new all : List Flaw) → i < length ss → s ≡ get_or ss i s
    → new ≡ found ++ slot_flaws path a (slot_tree s) → AreSame b (with_slot a (slot_tree s)) → found ++ slots_flaws path a (slots_tree (drop i ss)) ≡ all
    → new ++ slots_flaws path b (slots_tree (drop (i + 1) ss)) ≡ all
slot_step path i a b ss s found new all within is e same h =
    let rest = slots_tree (drop (i + 1) ss) in
    let first = ap (λ x. slots_flaws path a (slots_tree x)) (from_place ss i s within is) ∙ first_slot path a (slot_tree s) rest in
    ap (λ l. l ++ slots_flaws path b rest) e ∙ append_assoc found (slot_flaws path a (slot_tree s)) (slots_flaws path b rest)
    ∙ ap (λ l. found ++ (slot_flaws path a (slot_tree s) ++ l)) (slots_same path b (with_slot a (slot_tree s)) rest same) ∙ ap (λ l. found ++ l) (sym first) ∙ h

pub slot_end : (broken : FlawKind) (path : List ℕ) (i : ℕ) (a : List (List ℕ)) (ss : List Slot) (start found : List Flaw) → length ss ≤ i
    → found ++ slots_flaws path a (slots_tree (drop i ss)) ≡ start ++ (flaw_where (length ss == 0) Empty path ++ flaw_where (nat_lt 126 (length ss)) TooManySlots path ++ slots_flaws path [] (slots_tree ss))
    → found ≡ start ++ kind_flaws broken path (compound (slots_tree ss))
slot_end broken path i a ss start found past h =
    sym (append-nil found) ∙ ap (λ l. found ++ l) (sym (ap (λ x. slots_flaws path a (slots_tree x)) (drop_all i ss past))) ∙ h
    ∙ ap (λ n. start ++ (count_flaws path n ++ slots_flaws path [] (slots_tree ss))) (sym (counted ss))

pub ruleset slots = (slot_start, slot_step, slot_end)
