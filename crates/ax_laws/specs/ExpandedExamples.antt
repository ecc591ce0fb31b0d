-- Small specifications for the worked examples.
use Rattle.std.specs.Prelude.{ℕ, List, [], ◌∷◌, codes}
use Rattle.ax_format.specs.EditionExamples.{octet_of}
use Rattle.ax_format.specs.Specification.{ItemTree, SpecTree}
use Rattle.ax_format.specs.Tree.{EntriesTree, KindTree, entry_and, explicit, no_entries, number, occurrences, values_of}
use Rattle.ax_format.specs.declared.content.Content.TheVariants.{Raw}
use Rattle.ax_format.specs.declared.spec.UapSlot.{UapSlot}
use Rattle.ax_format.specs.declared.spec.UapSlot.TheVariants as Uap

abbrev pub item : List ℕ → KindTree → ItemTree
item name k = record { name = name; title = []; kind = k }

abbrev pub spec_of_items : List ItemTree → List UapSlot → SpecTree
spec_of_items items uap = record { category = 48; edition = codes "1"; items = items; uap = uap }

-- item 010, and then RE of that kind
abbrev pub of_re : KindTree → SpecTree
of_re k = spec_of_items (item (codes "010") (octet_of Raw) ∷ item (codes "RE") k ∷ []) (Uap.Item (codes "010") ∷ Uap.Item (codes "RE") ∷ [])

-- item 010 alone; and with an item RE beside it that the UAP doesn't use
abbrev pub without_re : SpecTree
without_re = spec_of_items (item (codes "010") (octet_of Raw) ∷ []) (Uap.Item (codes "010") ∷ [])

abbrev pub re_unused : SpecTree
re_unused = spec_of_items (item (codes "010") (octet_of Raw) ∷ item (codes "RE") explicit ∷ []) (Uap.Item (codes "010") ∷ [])

-- the entries of slots 1 and 3, of which the second has one occurrence
abbrev pub first_and_third : EntriesTree
first_and_third = entry_and 1 (number 5) (entry_and 3 (occurrences (values_of (number 7 ∷ []))) no_entries)
