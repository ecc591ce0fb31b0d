use Rattle.ax_app.proofs.Obeying.{loaded_ran, loaded_stopped}
use Rattle.ax_app.proofs.gateway.obey_loaded.Goals as goal

pub returns-in-Ok : goal.returns-in-Ok
returns-in-Ok g c = loaded_ran _ _ _ _ c.in-Ok.ensures

pub returns-in-Err : goal.returns-in-Err
returns-in-Err g c = loaded_stopped _ _ _ c.in-Err.stop _ c.from.ensures c.in-Err.ensures
