use Rattle.std.proofs.Common.{true, drop}
use Rattle.ax_load.proofs.FilesLoaded.{Loaded}
use Rattle.ax_load.proofs.loading.load_catalogue.Given as goal

abbrev pub invariant-loop-name : goal.invariant-loop-name
invariant-loop-name g l = Loaded true (g.L.Library.files l.fn.library) (g.L.Library.files l.library) l.names (drop l.name-index l.names) l.name-index l.file l.catalogue
    (g.L.Library.faults l.fn.library) (g.L.Library.faults l.library) (g.L.Library.taken l.fn.library) (g.L.Library.taken l.library)
