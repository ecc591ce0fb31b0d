-- Expansion files give one answer.
use Rattle.std.proofs.Common.{sym, ◌∙◌}
use Rattle.ax_expand.proofs.FileTokens.{spelled_once, bad_expansion_once, bad_spells_none}
use Rattle.ax_load.proofs.FilesOnce.{IsOne}
use Rattle.ax_load.specs.Languages.{expansion_files}

pub expansion_files_are_one : IsOne expansion_files
expansion_files_are_one = record { tree_once = λ ts x y h k. spelled_once x y h.in_range k.in_range (sym h.texts ∙ k.texts); bad_once = bad_expansion_once; never_both = bad_spells_none }
