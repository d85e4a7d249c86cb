use Rattle.std.proofs.Common.{◌≡◌, ◌++◌}
use Rattle.std.specs.Prelude.{codes}
use Rattle.sample_maker.specs.Walk.{state_of, level_of}
use Rattle.sample_maker.specs.Texts.{lines_text}
use Rattle.sample_maker.proofs.make.readings.Given as goal

abbrev pub invariant-loop-time : goal.invariant-loop-time
invariant-loop-time l = record {
  text : l.text.items ≡ codes "time,x\n" ++ lines_text l.time l.seed;
  state : l.state ≡ state_of l.seed l.time;
  level : l.level ≡ level_of l.seed l.time;
}
