use Rattle.std.proofs.Common.{◌∙◌}
use Rattle.vg_threads.specs.Starts.{started_tie}
use Rattle.vg_threads.proofs.ThreadLemmas.{as_long, has_room}
use Rattle.vg_threads.proofs.driving.drive.Goals as goal

pub join_all-requires : goal.join_all-requires
join_all-requires g c =
    let team = c.args.team in
    let led = c.lead_started-main in
    let same = led.ensures.workers ∙ c.start_all-started.ensures in
    record { room = (team.rooms.2, has_room _ _ _ (as_long started_tie led.new.started.items team.workers.items _ _ led.new.started.ok.0 team.workers.ok.0 same) team.rooms.3) }
