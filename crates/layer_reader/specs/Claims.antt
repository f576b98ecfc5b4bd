-- What is claimed of the reader's promise. proofs/Theorems.antt has the theorem.
use Rattle.kernel.specs.Promises.{ToldOnce}
use Rattle.records.specs.declared.Stream.{Stream}

-- the promise allows one answer
abbrev pub StreamedOnce : Type 0
StreamedOnce = ToldOnce Stream
