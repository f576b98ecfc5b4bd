-- The theorem of each claim of specs/Claims.antt.
use Rattle.text.specs.Claims.{NumberIsSaid, NumberHasWidth}
use Rattle.text.proofs.Figures.{number_said, length-number}

pub number_is_said : NumberIsSaid
number_is_said = number_said

pub number_has_width : NumberHasWidth
number_has_width = length-number
