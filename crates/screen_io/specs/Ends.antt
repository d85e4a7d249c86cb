-- To be believed: which target each kind of end stands for.
use Rattle.std.specs.Prelude.{string_bytes}
use Rattle.screen_io.specs.Target.{Target, FileNamed, StandardInput, StandardOutput, StandardError, NoTarget}
use Rattle.screen_io.specs.declared.real_source.End.{End as SourceEnd}
use Rattle.screen_io.specs.declared.real_source.End.TheVariants as source
use Rattle.screen_io.specs.declared.real_sink.End.{End as SinkEnd}
use Rattle.screen_io.specs.declared.real_sink.End.TheVariants as sink

abbrev pub source_target : {R A F D I : Type 0} → SourceEnd R A F D I → Target
source_target (source.File rt name file) = FileNamed (string_bytes name)
source_target (source.Input reader) = StandardInput
source_target source.Nothing = NoTarget

abbrev pub sink_target : {R A F D I : Type 0} → SinkEnd R A F D I → Target
sink_target (sink.File rt name file) = FileNamed (string_bytes name)
sink_target (sink.Output rt) = StandardOutput
sink_target (sink.Error rt) = StandardError
sink_target sink.Nothing = NoTarget
