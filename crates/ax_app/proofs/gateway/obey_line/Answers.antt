use Rattle.std.proofs.Common.{refl, subst}
use Rattle.ax_app.proofs.Obeying.{line_obeyed, line_unloaded}
use Rattle.ax_app.proofs.Once.{in_range}
use Rattle.ax_app.specs.Loaded.{AreLoadedAs}
use Rattle.ax_app.proofs.gateway.obey_line.Goals as goal

pub obey_loaded-requires-clause-in_range : goal.obey_loaded-requires-clause-in_range
obey_loaded-requires-clause-in_range g c = in_range _ _ _ c.in-Ok.ensures.gives.specs.each

pub obey_loaded-requires-clause-loaded : goal.obey_loaded-requires-clause-loaded
obey_loaded-requires-clause-loaded g c = subst (λ named. AreLoadedAs named c.in-Ok.loaded) c.files.ensures.names c.in-Ok.ensures.loaded

pub returns-in-Ok-clause-obeys : goal.returns-in-Ok-clause-obeys
returns-in-Ok-clause-obeys g c = line_obeyed c.args.line.now _ c.files.ensures.names _ c.load.ensures.never_falls c.load.ensures.number_never_falls _ _ c.in-Ok.ensures.gives c.in-Ok.ensures.loads_all c.obey_loaded.ensures

pub returns-in-Err-clause-obeys : goal.returns-in-Err-clause-obeys
returns-in-Err-clause-obeys g c =
    line_unloaded c.args.line.now _ c.files.ensures.names _ c.load.ensures.never_falls c.load.ensures.number_never_falls c.in-Err.stop _ c.in-Err.ensures.ends c.in-Err.ensures.loads_through c.from.ensures
    (record { untouched = record { left = refl; taken = refl }; out = refl; report = refl; source_quiet = refl; out_quiet = refl; report_quiet = refl })
