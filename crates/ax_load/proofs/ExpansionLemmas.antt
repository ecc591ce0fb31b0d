-- An expansion file, step by step.
use Rattle.std.proofs.Common.{◌≡◌, ◌≢◌, ℕ, ◌<◌, ◌≤◌, List, [], ◌∷◌, length, Option, ◌∙◌}
use Rattle.ax_expand.specs.Expansion.{ExpansionTree, expansion_flaws, NoExpansionFlaw}
use Rattle.ax_expand.specs.Files.{SpellsExpansion}
use Rattle.ax_load.proofs.FileLemmas.{lexing_stops, parsing_stops, judging_stops, accepts, some_flaws, gives_tree, refused_tree, took_one, took_tree}
use Rattle.ax_load.proofs.FileOctets.{no_octets_stop, no_octets_took}
use Rattle.ax_load.specs.Counting.{TookAt}
use Rattle.ax_load.specs.FileAnswers.{HasTokens, IsAcceptedIn, IsRefusedIn, largest_file}
use Rattle.ax_load.specs.FileStops.{LexStops, ParseStops, JudgeStops, FileStops}
use Rattle.ax_load.specs.Languages.{expansion_files}
use Rattle.ax_load.specs.Loading.{GivesIn, HasNoOctets, IsRefusedFile, StopsAtFile}
use Rattle.ax_load.specs.declared.fault.LoadStop.{LoadStop}
use Rattle.ax_load.specs.declared.fault.LoadStop.TheVariants.{SpecRefused}
use Rattle.ax_load.specs.declared.fault.SpecFault.{SpecFault}
use Rattle.ax_load.specs.declared.files.FileStop.{FileStop}
use Rattle.ax_format.specs.declared.flaw.Flaw.{Flaw}
use Rattle.ax_endpoints.specs.Changes.{LibraryCounts}
use Rattle.ax_endpoints.specs.Files.{File, HoldsFile}
use Rattle.ax_endpoints.specs.Told.{number_after}
use Rattle.ax_tokens.specs.PlainToken.{PlainToken}

pub lexing : (octets : List ℕ) (stop : FileStop) → length octets ≤ largest_file → LexStops octets stop → FileStops expansion_files octets stop
lexing = lexing_stops expansion_files

pub parsing : (octets : List ℕ) (tokens : List PlainToken) (stop : FileStop) → HasTokens octets tokens → ParseStops expansion_files tokens stop → FileStops expansion_files octets stop
parsing = parsing_stops expansion_files

pub judging : (octets : List ℕ) (tokens : List PlainToken) (x : ExpansionTree) (stop : FileStop) → HasTokens octets tokens → SpellsExpansion tokens x → JudgeStops expansion_files x stop → FileStops expansion_files octets stop
judging = judging_stops expansion_files

pub accepted : (octets : List ℕ) (tokens : List PlainToken) (x : ExpansionTree) → HasTokens octets tokens → SpellsExpansion tokens x → NoExpansionFlaw x → IsAcceptedIn expansion_files octets x
accepted octets tokens x has s sound = accepts expansion_files octets tokens x has s sound.none

pub ruleset file_steps = (lexing, parsing, judging, accepted)

pub flaws_judged : (x : ExpansionTree) (flaws : List Flaw) → flaws ≡ expansion_flaws x → 0 < length flaws → expansion_flaws x ≢ []
flaws_judged x flaws is some none = some_flaws flaws some (is ∙ none)

pub ruleset judged = flaws_judged

-- ---- in a library

pub gives_expansion : (files : Option (List File)) (name octets : List ℕ) (x : ExpansionTree) → HoldsFile files name octets → IsAcceptedIn expansion_files octets x → GivesIn expansion_files files name x
gives_expansion = gives_tree expansion_files

pub refused_expansion : (files : Option (List File)) (c : LibraryCounts) (name octets : List ℕ) (fault : SpecFault) → length octets ≤ largest_file → HoldsFile files name octets → IsRefusedIn expansion_files octets fault → IsRefusedFile expansion_files files c name fault
refused_expansion = refused_tree expansion_files

pub took_expansion : (files : Option (List File)) (name octets : List ℕ) (n t t' : ℕ) (fault : SpecFault) → length octets ≤ largest_file → HoldsFile files name octets → t' ≡ number_after t (length octets) → IsRefusedIn expansion_files octets fault → TookAt files t t' name (SpecRefused n fault)
took_expansion = took_tree expansion_files

pub no_expansion : (files : Option (List File)) (c : LibraryCounts) (name : List ℕ) (i : ℕ) (stop : LoadStop) → HasNoOctets files c name i stop → StopsAtFile expansion_files files c name i stop
no_expansion = no_octets_stop expansion_files

pub ruleset file_ends = (gives_expansion, refused_expansion, took_one, took_expansion, no_expansion, no_octets_took)
