-- What the files and the sink in memory show: their calls, and the room of the sink.
use Rattle.std.specs.Prelude.{ℕ, List, [], Option, unwrap_or}
use Rattle.outside.specs.declared.memory.MemoryFiles.{MemoryFiles}
use Rattle.outside.specs.declared.mem_sink.MemorySink.{MemorySink}
use Rattle.outside.specs.declared.sure.SureFiles.{SureFiles}
use Rattle.outside.specs.declared.sure.SureSink.{SureSink}
use Rattle.outside.specs.Calls.{Calls}
use Rattle.outside.specs.Kept.{count_of, held_in, names_in}
use Rattle.outside.specs.Outside.{FilesState}

-- what a name holds, if it is there
abbrev pub held_of : MemoryFiles → List ℕ → Option (List ℕ)
held_of files name = held_in files.store name

-- how many reads of a name have failed
abbrev pub read_faults_of : MemoryFiles → List ℕ → ℕ
read_faults_of files name = count_of files.failed_reads.items name

-- how many writes of a name have failed
abbrev pub write_faults_of : MemoryFiles → List ℕ → ℕ
write_faults_of files name = count_of files.failed_writes.items name

-- the names that were read so far, oldest first
abbrev pub names_read : MemoryFiles → List (List ℕ)
names_read files = names_in files.names_read.items

-- the names that were written so far, oldest first
abbrev pub names_written : MemoryFiles → List (List ℕ)
names_written files = names_in files.names_written.items

abbrev pub state_of : MemoryFiles → FilesState
state_of files = record {
  held = held_of files;
  read_faults = read_faults_of files;
  write_faults = write_faults_of files;
  reads = names_read files;
  writes = names_written files;
}

-- the reads of the files so far, and those that fail
abbrev pub reads_of : MemoryFiles → Calls
reads_of files = record { made = files.reads; failing = files.bad_reads.items }

-- the writes of the files so far, and those that fail
abbrev pub writes_of : MemoryFiles → Calls
writes_of files = record { made = files.writes; failing = files.bad_writes.items }

-- the puts of the sink so far, and those that fail
abbrev pub puts_of : MemorySink → Calls
puts_of sink = record { made = sink.puts; failing = sink.bad_puts.items }

-- the bytes that the sink has taken
abbrev pub bytes_of : MemorySink → List ℕ
bytes_of sink = sink.bytes.items

-- how many puts of the sink have failed, up to the greatest u64
abbrev pub faults_of : MemorySink → ℕ
faults_of sink = sink.faults

-- how many bytes the sink takes in all
abbrev pub room_of : MemorySink → ℕ
room_of sink = sink.room

-- what a name holds in files that never fail, if something was placed or written there
abbrev pub placed_in : SureFiles → List ℕ → Option (List ℕ)
placed_in files name = held_in files.store name

-- what a name holds in files that never fail: no bytes, if nothing is there
abbrev pub shown_in : SureFiles → List ℕ → List ℕ
shown_in files name = unwrap_or (placed_in files name) []

-- how many bytes the sink was given, up to the greatest u64
abbrev pub counted : SureSink → ℕ
counted sink = sink.count
