-- What a sink in memory has taken, and its counts.
use Rattle.std.specs.Prelude.{ℕ, List}
use Rattle.carp_outside.specs.declared.mem_sink.MemSink.{MemSink}
use Rattle.carp_outside.specs.Calls.{CallLog, log_of}

-- the bytes that were written so far
abbrev pub written_of : MemSink → List ℕ
written_of sink = sink.taken.items

-- how many bytes it takes in all
abbrev pub sink_room_of : MemSink → ℕ
sink_room_of sink = sink.room

-- how many bytes a put takes at most
abbrev pub sink_piece_of : MemSink → ℕ
sink_piece_of sink = sink.piece

-- the puts so far
abbrev pub puts_of : MemSink → CallLog
puts_of sink = log_of sink.puts
