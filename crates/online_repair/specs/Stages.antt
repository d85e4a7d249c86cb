-- For proofs: where a repair is after an answer.
use Rattle.std.specs.Prelude.{Result, Ok, Err}
use Rattle.online_repair.specs.declared.fault.OnlineFault.{OnlineFault}
use Rattle.online_repair.specs.declared.online.Stage.{Stage}
use Rattle.online_repair.specs.declared.online.Stage.TheVariants.{Refused}

-- at that stage, or refused
abbrev pub stage_after : Result Unit OnlineFault → Stage → Stage
stage_after (Ok done) stage = stage
stage_after (Err fault) stage = Refused fault
