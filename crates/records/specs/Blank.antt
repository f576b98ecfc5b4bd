-- What stands where nothing is sent: 0, and of the choices index 0 and form none.
use Rattle.std.specs.Prelude.{replicate}
use Rattle.records.specs.declared.Freq.TheVariants.{Index}
use Rattle.records.specs.declared.Form.TheVariants.{None}
use Rattle.records.specs.declared.Config.{Config}
use Rattle.records.specs.declared.Stream.{Stream}
use Rattle.records.specs.declared.Record.{Record}

-- of a configuration
abbrev pub no_config : Config
no_config = record { core = 0; freq = Index 0; channels = 0; flag = 0; depends = 0; extension = 0; form = None }

-- of a stream
abbrev pub no_stream : Stream
no_stream = record { config = no_config; kind = 0; fullness = 0; fixed = 0 }

-- of a record: 16 programs and 16 streams of nothing
abbrev pub no_record : Record
no_record = record {
  version = 0;
  subversion = 0;
  tara = 0;
  framing = 0;
  subframes = 0;
  programs = 0;
  layers = replicate 16 0;
  streams = replicate 16 no_stream;
  other = 0;
  bits = 0;
  checked = 0;
  crc = 0;
}
