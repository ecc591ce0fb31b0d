use Rattle.std.proofs.Common.{◌≡◌, ◌<◌, ◌^◌, drop}
use Rattle.ax_grammar.specs.Tests.{number_after_digits}
use Rattle.ax_grammar.proofs.octets.value.Given as goal

abbrev pub invariant-loop-digit : goal.invariant-loop-digit
invariant-loop-digit l = record {
  same : number_after_digits l.value (drop l.digit-index l.digits) ≡ number_after_digits 0 l.digits;
  bound : l.value < 10 ^ l.digit-index;
}
