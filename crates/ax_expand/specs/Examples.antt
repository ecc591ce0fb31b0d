-- Small expansions for the worked examples.
use Rattle.std.specs.Prelude.{ℕ, zero, suc, List, [], ◌∷◌, codes}
use Rattle.ax_format.specs.Examples.{octet}
use Rattle.ax_format.specs.Tree.{SlotTree, SlotsTree, slots_of, spare_slot, subitem, counted}
use Rattle.ax_format.specs.declared.kind.Counter.TheVariants.{One}
use Rattle.ax_expand.specs.Expansion.{ExpansionTree}
use Rattle.ax_expand.specs.declared.form.Form.{Form}
use Rattle.ax_expand.specs.declared.form.Form.TheVariants.{Fx, Fixed}

abbrev pub of_slots : Form → SlotsTree → ExpansionTree
of_slots form slots = record { category = 48; edition = codes "T1"; form = form; slots = slots }

-- an octet, a spare slot, and counted octets, under one octet of marks
abbrev pub one_octet : ExpansionTree
one_octet = of_slots (Fixed 1) (slots_of (subitem (codes "A") octet ∷ spare_slot ∷ subitem (codes "B") (counted One octet) ∷ []))

-- an octet alone, under two octets of marks
abbrev pub two_octets : ExpansionTree
two_octets = of_slots (Fixed 2) (slots_of (subitem (codes "A") octet ∷ []))

-- slots 1 and 8, under marks that FX continues
abbrev pub by_fx : ExpansionTree
by_fx = of_slots Fx (slots_of (subitem (codes "A") octet ∷ spare_slot ∷ spare_slot ∷ spare_slot ∷ spare_slot ∷ spare_slot ∷ spare_slot ∷ subitem (codes "B") octet ∷ []))

-- so many spare slots
abbrev pub spare_slots : ℕ → List SlotTree
spare_slots zero = []
spare_slots (suc n) = spare_slot ∷ spare_slots n

-- one octet of marks for so many slots
abbrev pub one_octet_for : ℕ → ExpansionTree
one_octet_for n = of_slots (Fixed 1) (slots_of (spare_slots n))
