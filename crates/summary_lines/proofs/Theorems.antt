-- The theorem of each claim of specs/Claims.antt.
use Rattle.summary_lines.specs.Claims.{LineForEachLayer, NothingIsLost, NothingOfRefusalIsLost}
use Rattle.summary_lines.proofs.Streams.{line_for_each}
use Rattle.summary_lines.proofs.Columns.{row_lost, refusal_lost}

pub line_for_each_layer : LineForEachLayer
line_for_each_layer = line_for_each

pub nothing_is_lost : NothingIsLost
nothing_is_lost = row_lost

pub nothing_of_refusal_is_lost : NothingOfRefusalIsLost
nothing_of_refusal_is_lost = refusal_lost
