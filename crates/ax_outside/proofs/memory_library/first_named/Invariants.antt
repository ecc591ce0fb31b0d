use Rattle.std.proofs.Common.{◌≡◌, map, drop, string_bytes}
use Rattle.ax_endpoints.specs.Files.{file, octets_of}
use Rattle.ax_outside.proofs.memory_library.first_named.Given as goal

abbrev pub invariant-loop-key : goal.invariant-loop-key
invariant-loop-key l =
    octets_of l.name (map (λ f. file (string_bytes f.0) f.1.items) l.files)
    ≡ octets_of l.name (map (λ f. file (string_bytes f.0) f.1.items) (drop l.key-index l.files))
