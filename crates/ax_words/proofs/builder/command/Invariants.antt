use Rattle.std.proofs.Common.{◌≡◌, take}
use Rattle.std.specs.Prelude.{fold}
use Rattle.clap.specs.Words.{app_of}
use Rattle.ax_words.specs.Commands.{bare, with_verb}
use Rattle.ax_words.specs.Verbs.{verbs}
use Rattle.ax_words.proofs.builder.command.Given as goal

abbrev pub invariant-loop-verb : goal.invariant-loop-verb
invariant-loop-verb l = app_of l.command ≡ fold with_verb bare (take l.verb-index verbs)
