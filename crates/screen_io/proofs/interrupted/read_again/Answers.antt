use Rattle.screen_io.proofs.Steps.{Keeps-nothing}
use Rattle.screen_io.proofs.interrupted.read_again.Goals as goal

pub loop-init : goal.loop-init
loop-init g c = Keeps-nothing _
