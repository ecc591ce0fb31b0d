use Rattle.clap.specs.Words.{found_of}
use Rattle.ax_words.proofs.Getters.{few_words}
use Rattle.ax_words.proofs.reading.files_of.Goals as goal

pub copied-requires : goal.copied-requires
copied-requires c = few_words _ (found_of c.args.matches.now) _ c.in-Some.ensures c.requires
