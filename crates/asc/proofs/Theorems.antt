-- The theorem of each claim of specs/Claims.antt.
use Rattle.asc.specs.Claims.{ConfigReadsBack, ConfigReadsBackInWindow, ConfiguredOnce, RatedOnce, FlaggedOnce}
use Rattle.asc.specs.Claims.{FormedOnce, ConfigIsShortest}
use Rattle.records.specs.declared.Freq.{Freq}
use Rattle.records.specs.declared.Form.{Form}
use Rattle.records.specs.declared.Config.{Config}
use Rattle.asc.specs.declared.Flags.{Flags}
use Rattle.kernel.proofs.Theorems.{told_once}
use Rattle.kernel.proofs.Ends.{run_ends}
use Rattle.asc.specs.Asc.{audio_specific_config}
use Rattle.asc.proofs.ShortestAsc.{asc_end}
use Rattle.asc.proofs.TripAsc.{open_trip, window_trip}

pub config_reads_back : ConfigReadsBack
config_reads_back = open_trip

pub config_reads_back_in_window : ConfigReadsBackInWindow
config_reads_back_in_window = window_trip

pub config_is_shortest : ConfigIsShortest
config_is_shortest win s at n c to m e = (rw e at (run_ends _ s (audio_specific_config win) at n (asc_end win at))).0

pub rated_once : RatedOnce
rated_once = told_once Freq

pub flagged_once : FlaggedOnce
flagged_once = told_once Flags

pub formed_once : FormedOnce
formed_once = told_once Form

pub configured_once : ConfiguredOnce
configured_once = told_once Config
