-- what is left of the value
use Rattle.std.proofs.Common.{◌≡◌, ◌+◌, ◌≤◌}
use Rattle.kernel.specs.Bits.{bits_of}
use Rattle.kernel.proofs.Puts.{Left}
use Rattle.kernel.proofs.BitWriter.put.Given as goal

abbrev pub invariant-loop-left : goal.invariant-loop-left
invariant-loop-left l =
    record {
      few : l.left ≤ l.width;
      at : l.self.at + l.left ≡ l.fn.self.at + l.width;
      left : Left l.fn.self (bits_of l.width l.value) l.self (bits_of l.left l.value);
    }

abbrev pub decreases-loop-left : goal.decreases-loop-left
decreases-loop-left l = l.left
