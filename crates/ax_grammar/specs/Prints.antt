-- What a private call prints.
use Rattle.std.specs.Prelude.{◌≡◌, ℕ, false, List, ◌++◌}
use Rattle.ax_grammar.specs.Parsing.{Texts}
use Rattle.ax_grammar.specs.Printing.{after_spaces}
use Rattle.ax_grammar.specs.declared.printer.Printer.{Printer}

-- the call adds the octets, unless memory ran out in it or before
abbrev pub Adds : List ℕ → Printer → Printer → Type 0
Adds octets before after =
    after.failed ≡ false → (before.failed ≡ false) × (after.out.items ≡ before.out.items ++ octets)

-- the call prints the texts, each after a space
abbrev pub Prints : Texts → Printer → Printer → Type 0
Prints texts before after = Adds (after_spaces texts) before after
