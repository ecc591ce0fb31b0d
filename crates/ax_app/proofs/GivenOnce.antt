-- The files of a line give one thing, or end the run in one way.
use Rattle.std.proofs.Common.{◌≡◌, ◌≢◌, ℕ, List, Option, Some, None, length, refl, sym, ◌∙◌, ap, subst}
use Rattle.ax_expand.specs.Expansion.{ExpansionTree}
use Rattle.ax_load.proofs.EndsOnce.{loading_ends_once, stops_once, stops_told}
use Rattle.ax_load.proofs.ExpansionsOnce.{expansion_files_are_one}
use Rattle.ax_load.proofs.FilesOnce.{given_once, given_ends_for_memory, tree_given_once, given_tree_stops_for_memory}
use Rattle.ax_load.specs.Languages.{expansion_files}
use Rattle.ax_load.specs.Loading.{FilesGive, StopsAtFile, GivesIn, from_load, taken_by}
use Rattle.ax_load.specs.declared.fault.LoadStop.{LoadStop}
use Rattle.ax_load.specs.declared.fault.LoadStop.TheVariants.{OutOfMemory}
use Rattle.ax_format.specs.Specification.{SpecTree}
use Rattle.ax_endpoints.specs.Changes.{LibraryCounts}
use Rattle.ax_endpoints.specs.Files.{File}
use Rattle.ax_endpoints.specs.Told.{Rose}
use Rattle.ax_words.specs.declared.line.Line.{Line}
use Rattle.ax_app.specs.Given.{Given, GivesExpansion, LineGives, LineEnds, in_specs, in_expansion, files_of, takes_distinct, expansion_of}

module _ (what : Line) (files : List File) where
  expansion_once : (name : Option (List ℕ)) (x y : Option ExpansionTree) → GivesExpansion name (Some files) x → GivesExpansion name (Some files) y → x ≡ y
  expansion_once None None None h k = refl
  expansion_once None (Some x) y h k = absurd h
  expansion_once None x (Some y) h k = absurd k
  expansion_once (Some name) None y h k = absurd h
  expansion_once (Some name) x None h k = absurd k
  expansion_once (Some name) (Some x) (Some y) h k = ap (λ z. Some z) (tree_given_once expansion_files expansion_files_are_one files name x y h k)

  pub line_gives_once : (given other : Given) → LineGives what (Some files) given → LineGives what (Some files) other → given ≡ other
  line_gives_once given other h k =
      let specs = given_once (takes_distinct what) files (files_of what) given.specs other.specs h.specs k.specs in
      let expansion = expansion_once (expansion_of what) given.expansion other.expansion h.expansion k.expansion in
      ap (λ s. record { specs = s; expansion = given.expansion }) specs ∙ ap (λ x. record { specs = other.specs; expansion = x }) expansion

  -- the expansion file that is given doesn't end the run, but for want of memory
  given_file : (c : LibraryCounts) (found : Option (List ℕ)) (x : Option ExpansionTree) (name : List ℕ) (i : ℕ) (stop : LoadStop) → (Rose c.faults c.faults' → ⊥) → found ≡ Some name → GivesExpansion found (Some files) x
      → StopsAtFile expansion_files (Some files) c name i stop → stop ≡ OutOfMemory
  given_file c None x name i stop quiet is h k = absurd (cc)
  given_file c (Some other) None name i stop quiet is h k = absurd h
  given_file c (Some other) (Some x) name i stop quiet is h k =
      let same : other ≡ name = cc in
      given_tree_stops_for_memory expansion_files expansion_files_are_one files name c i x stop (subst (λ n. GivesIn expansion_files (Some files) n x) same h) quiet k

  -- what was taken before its load doesn't matter
  by_its_load : (c : LibraryCounts) (specs : List SpecTree) (give : FilesGive (takes_distinct what) (Some files) (files_of what) specs) (name : List ℕ) (stop : LoadStop)
      → StopsAtFile expansion_files (Some files) (from_load c (taken_by (Some files) (files_of what) specs give.each c.taken)) name (length (files_of what)) stop → StopsAtFile expansion_files (Some files) c name (length (files_of what)) stop
  by_its_load c specs give name stop h = stops_told files c name (taken_by (Some files) (files_of what) specs give.each c.taken) c.taken expansion_files (length (files_of what)) stop h

  pub line_ends_for_memory : (c : LibraryCounts) (given : Given) (stop : LoadStop) → (Rose c.faults c.faults' → ⊥) → LineGives what (Some files) given → LineEnds what (Some files) c stop → stop ≡ OutOfMemory
  line_ends_for_memory c given stop quiet h (in_specs ends) = given_ends_for_memory (takes_distinct what) files c (files_of what) given.specs stop quiet h.specs ends
  line_ends_for_memory c given stop quiet h (in_expansion name is specs gives ends) =
      given_file c (expansion_of what) given.expansion name (length (files_of what)) stop quiet is h.expansion (by_its_load c specs gives name stop ends)

  same_name : (name other : List ℕ) → expansion_of what ≡ Some name → expansion_of what ≡ Some other → other ≡ name
  same_name name other is to = let e : Some other ≡ Some name = sym to ∙ is in cc

  pub line_ends_once : (c : LibraryCounts) (stop next : LoadStop) → (Rose c.faults c.faults' → ⊥) → stop ≢ OutOfMemory → next ≢ OutOfMemory → LineEnds what (Some files) c stop → LineEnds what (Some files) c next → stop ≡ next
  line_ends_once c stop next quiet some others (in_specs h) (in_specs k) = loading_ends_once (takes_distinct what) files c (files_of what) stop next quiet some others h k
  line_ends_once c stop next quiet some others (in_specs h) (in_expansion name is specs gives k) = absurd (some (given_ends_for_memory (takes_distinct what) files c (files_of what) specs stop quiet gives h))
  line_ends_once c stop next quiet some others (in_expansion name is specs gives h) (in_specs k) = absurd (others (given_ends_for_memory (takes_distinct what) files c (files_of what) specs next quiet gives k))
  line_ends_once c stop next quiet some others (in_expansion name is specs gives h) (in_expansion other to specs' gives' k) =
      stops_once expansion_files expansion_files_are_one files c name (length (files_of what)) stop next quiet some others (by_its_load c specs gives name stop h)
      (subst (λ n. StopsAtFile expansion_files (Some files) c n (length (files_of what)) next) (same_name name other is to) (by_its_load c specs' gives' other next k))
