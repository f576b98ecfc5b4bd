-- The theorem of each claim of specs/Claims.antt.
use Rattle.row.specs.Claims.{CellsNumbered, CellsOther, RowsFound, RowsAbsent, EachLayerIsThere, RowsAreCarried}
use Rattle.row.specs.Claims.{ChannelsDiffer}
use Rattle.row.proofs.Rows.{cell_of_law, cell_other, row_there, row_absent, layer_there}
use Rattle.row.proofs.Channels.{channels_told}
use Rattle.row.proofs.Carried.{row_carried}

pub cells_numbered : CellsNumbered
cells_numbered = cell_of_law

pub cells_other : CellsOther
cells_other = cell_other

pub rows_found : RowsFound
rows_found = row_there

pub rows_absent : RowsAbsent
rows_absent = row_absent

pub each_layer_is_there : EachLayerIsThere
each_layer_is_there = layer_there

pub rows_are_carried : RowsAreCarried
rows_are_carried = row_carried

pub channels_differ : ChannelsDiffer
channels_differ = channels_told
