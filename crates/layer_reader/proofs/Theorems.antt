-- The theorem of the claim of specs/Claims.antt.
use Rattle.kernel.proofs.Theorems.{told_once}
use Rattle.records.specs.declared.Stream.{Stream}
use Rattle.layer_reader.specs.Claims.{StreamedOnce}

pub streamed_once : StreamedOnce
streamed_once = told_once Stream
