-- The theorem of each claim of specs/Claims.antt.
use mathlib.Core.Path.{◌≡◌, refl}
use mathlib.Core.List.{List}
use Prim.Native.Nat.{ℕ}
use Rattle.kernel.specs.Reading.{gave, run}
use Rattle.kernel.proofs.Kept.{run_kept}
use Rattle.kernel.proofs.Ends.{run_ends}
use Rattle.asc.proofs.Given.{Numbered}
use Rattle.records.specs.declared.Record.{Record}
use Rattle.config.specs.Mux.{stream_mux_config}
use Rattle.config.specs.Claims.{WindowedReadsBack, RecordReadsBack, ReadIsValid, ReadReadsBack, NoFill}
use Rattle.config.specs.Claims.{SameWhereEqual, RecordIsShortest}
use Rattle.config.proofs.TripMux.{windowed_trip, record_trip, no_fill_trip}
use Rattle.config.proofs.Given.{ReadOk, mux}
use Rattle.config.proofs.Shortest.{mux_end}
use Rattle.config.proofs.Said.{says_same}

pub windowed_reads_back : WindowedReadsBack
windowed_reads_back = windowed_trip

pub record_reads_back : RecordReadsBack
record_reads_back = record_trip

pub record_is_shortest : RecordIsShortest
record_is_shortest s at n r to m e = rw e at (run_ends _ s stream_mux_config at n (mux_end at))

read_ok : (s : List ℕ) (at n : ℕ) (r : Record) (p m : ℕ) → run s stream_mux_config at n ≡ gave r p m → ReadOk r
read_ok s at n r p m e = rw e at (run_kept Numbered ReadOk refl refl s at n mux)

pub read_is_valid : ReadIsValid
read_is_valid s at n r p m e = (read_ok s at n r p m e).valid

pub read_reads_back : ReadReadsBack
read_reads_back s at n r p m e to =
    let h = read_ok s at n r p m e in record_trip r to h.layers h.streams h.tara h.bits h.valid

pub no_fill : NoFill
no_fill = no_fill_trip

pub same_where_equal : SameWhereEqual
same_where_equal = says_same
