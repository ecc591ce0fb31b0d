use Rattle.std.proofs.Common.{◌∙◌, ap, sym, Some, string_bytes}
use Rattle.std.specs.Str.{bytes_eq}
use Rattle.ax_endpoints.specs.Files.{file}
use Rattle.ax_outside.proofs.Named.{found_here, not_here, nowhere}
use Rattle.ax_outside.proofs.memory_library.first_named.Goals as goal

pub returns-then-eq : goal.returns-then-eq
returns-then-eq c =
    found_here (λ f. file (string_bytes f.0) f.1.items) c.args.files.now c.loop-key.key-index c.loop-key-item.result c.args.name.now
    c.loop-key-test.true c.loop-key-item.is
    (c.if-eq.ensures ∙ ap (λ text. bytes_eq text c.args.name.now) c.as_str.ensures.value) c.loop-key.invariant
    ∙ ap Some (sym c.deref.ensures.value)

pub loop-key-preserved : goal.loop-key-preserved
loop-key-preserved c =
    not_here (λ f. file (string_bytes f.0) f.1.items) c.args.files.now c.loop-key.key-index c.loop-key-item.result c.args.name.now
    c.loop-key-test.true c.loop-key-item.is
    (c.if-eq.ensures ∙ ap (λ text. bytes_eq text c.args.name.now) c.as_str.ensures.value) c.loop-key.invariant

pub returns : goal.returns
returns c = nowhere (λ f. file (string_bytes f.0) f.1.items) c.args.files.now c.loop-key.key-index c.args.name.now c.loop-key-test.false c.loop-key.invariant
