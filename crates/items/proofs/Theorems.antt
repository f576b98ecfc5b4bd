-- The theorem of each claim of specs/Claims.antt.
use Rattle.items.specs.Claims.{StoredComesBack}
use Rattle.items.proofs.Shifts.{come_back}

pub stored_comes_back : StoredComesBack
stored_comes_back = come_back
