-- What a private call gives, as a reader of the texts that were left before it.
use Rattle.std.specs.Prelude.{◌≡◌, Result, Ok, Err}
use Rattle.ax_grammar.specs.Parsing.{Texts, Parsed}
use Rattle.ax_tokens.specs.declared.stopped.Stopped.{Stopped}
use Rattle.ax_tokens.specs.declared.stopped.Stopped.TheVariants.{Bad, OutOfMemory}

-- the reader stops there, unless memory ran out
abbrev pub Stops : {A : Type 0} → Stopped → Texts → Parsed A → Type 0
Stops Bad after read = read ≡ Err after
Stops OutOfMemory after read = Unit {0}

-- the call gives what the reader gives, and leaves the same texts
abbrev pub Gives : {X A : Type 0} → (X → A) → Result X Stopped → Texts → Parsed A → Type 0
Gives view (Ok x) after read = read ≡ Ok (view x, after)
Gives view (Err stopped) after read = Stops stopped after read
