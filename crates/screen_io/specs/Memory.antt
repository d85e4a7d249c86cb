-- To be believed: what a source and a sink in memory have and hold.
use Rattle.std.specs.Prelude.{ℕ, List}
use Rattle.screen_io.specs.declared.calls.Calls.{Calls}
use Rattle.screen_io.specs.declared.memory_source.MemSource.{MemSource}
use Rattle.screen_io.specs.declared.memory_sink.MemSink.{MemSink}

-- The bytes that the source has left.
abbrev pub source_left : MemSource → List ℕ
source_left source = source.unread

-- How many bytes the source gives at most in one call.
abbrev pub source_most : MemSource → ℕ
source_most source = source.most

-- The source's calls, with those that fail.
abbrev pub source_calls : MemSource → Calls
source_calls source = source.calls

-- How many of the source's calls have failed.
abbrev pub source_faults : MemSource → ℕ
source_faults source = source.calls.faults

-- The bytes that the sink holds.
abbrev pub sink_held : MemSink → List ℕ
sink_held sink = sink.held.items

-- For how many more bytes the sink has room.
abbrev pub sink_room : MemSink → ℕ
sink_room sink = sink.room

-- How many bytes the sink takes at most in one call.
abbrev pub sink_most : MemSink → ℕ
sink_most sink = sink.most

-- The sink's calls, with those that fail.
abbrev pub sink_calls : MemSink → Calls
sink_calls sink = sink.calls

-- How many of the sink's calls have failed.
abbrev pub sink_faults : MemSink → ℕ
sink_faults sink = sink.calls.faults
