-- A category file, and an expansion file after it.
use Rattle.std.proofs.Common.{◌≡◌, ℕ, ◌≤◌, false, IsTrue, List, [], ◌∷◌, Option, None, refl, sym, subst}
use Rattle.ax_expand.specs.Expansion.{ExpansionTree}
use Rattle.ax_load.proofs.TwoFiles.{counts, stops_from, free}
use Rattle.ax_load.specs.Languages.{category_files, expansion_files}
use Rattle.ax_load.specs.Loading.{GivesIn, LoadsIn, FilesGive, StopsAtFile, by_file, EitherEnds, first, second}
use Rattle.ax_load.specs.declared.fault.LoadStop.{LoadStop}
use Rattle.ax_format.specs.Specification.{SpecTree}
use Rattle.ax_endpoints.specs.Changes.{LibraryCounts}
use Rattle.ax_endpoints.specs.Files.{File}

abbrev pub one_gives : (files : Option (List File)) (name : List ℕ) (spec : SpecTree) (t t' : ℕ) → LoadsIn category_files files t t' name spec → FilesGive false files (name ∷ []) (spec ∷ [])
one_gives files name spec t t' h = record { each = (h.gives, tt); categories = free [] (spec ∷ []) }

pub expansion_given : (files files' : Option (List File)) (name : List ℕ) (x : ExpansionTree) → files' ≡ files → GivesIn expansion_files files' name x → GivesIn expansion_files files name x
expansion_given files files' name x same h = subst (λ f. GivesIn expansion_files f name x) same h

pub spec_ends : (files : Option (List File)) (c : LibraryCounts) (name expansion : List ℕ) (stop : LoadStop) → StopsAtFile category_files files c name 0 stop → EitherEnds files c name expansion stop
spec_ends files c name expansion stop h =
    first (record { earlier = []; name = name; more = []; split = refl; before = []; give = record { each = tt; categories = free [] [] }; ends = by_file h })

pub expansion_ends : (files files' : Option (List File)) (name expansion : List ℕ) (spec : SpecTree) (stop : LoadStop) (f f' f'' t t' t'' : ℕ) → LoadsIn category_files files t t' name spec → files' ≡ files → f ≤ f'
    → StopsAtFile expansion_files files' (counts f' f'' t' t'') expansion 1 stop → EitherEnds files (counts f f'' t t'') name expansion stop
expansion_ends files files' name expansion spec stop f f' f'' t t' t'' h same rose k =
    second spec (one_gives files name spec t t' h) (stops_from expansion_files files files' expansion 1 stop f f' f'' _ t' t'' same rose h.number k)

pub ruleset both_files = (one_gives, expansion_given, spec_ends, expansion_ends)
