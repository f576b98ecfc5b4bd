-- What was worked out by hand comes out, by computation.
use mathlib.Core.Path.{refl}
use Rattle.sync.specs.Sync.{first_of}
use Rattle.sync.specs.Worked.{WorkedHunts}

pub worked_hunts : WorkedHunts
unfolding first_of
worked_hunts =
    (refl, refl, refl, refl, refl, refl, refl, refl, refl, refl, refl, refl, refl, refl, refl, refl, refl, refl)
