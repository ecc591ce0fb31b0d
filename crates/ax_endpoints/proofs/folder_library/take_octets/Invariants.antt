use Rattle.std.proofs.Common.{◌≡◌, ◌+◌, ◌-◌, vec_len}
use Rattle.std.specs.Io.KnownBytes.{Consumes}
use Rattle.ax_endpoints.proofs.folder_library.take_octets.Given as goal

abbrev pub invariant-loop-part : goal.invariant-loop-part
invariant-loop-part g l = (l.taken ≡ l.fn.taken + vec_len l.octets) × Consumes (g.F.Read.remaining l.fn.file) (g.F.Read.remaining l.file) l.octets.items

abbrev pub decreases-loop-part : goal.decreases-loop-part
decreases-loop-part g l = l.limit + 1 - vec_len l.octets
