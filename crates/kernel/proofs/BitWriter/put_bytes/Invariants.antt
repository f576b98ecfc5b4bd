-- what is left of the bytes
use Rattle.std.proofs.Common.{◌≡◌, ◌+◌, ◌*◌, drop}
use Rattle.kernel.specs.Bits.{unpack}
use Rattle.kernel.proofs.Puts.{Left}
use Rattle.kernel.proofs.BitWriter.put_bytes.Given as goal

abbrev pub invariant-loop-byte : goal.invariant-loop-byte
invariant-loop-byte l =
    record {
      at : l.self.at ≡ l.fn.self.at + 8 * l.byte-index;
      left : Left l.fn.self (unpack l.src) l.self (unpack (drop l.byte-index l.src));
    }
