-- what is left of the bits and of the zeros behind them
use Rattle.std.proofs.Common.{◌≡◌, ◌+◌, ◌-◌, ◌%◌, ◌≤◌, ◌++◌}
use Rattle.kernel.specs.Bits.{bits_of}
use Rattle.kernel.proofs.Puts.{Left}
use Rattle.items.specs.Copied.{bits_from, padded}
use Rattle.items.proofs.copy_bits.Given as goal

abbrev pub invariant-loop-i : goal.invariant-loop-i
invariant-loop-i l =
    record {
      few : l.i ≤ l.width + 7;
      whole : l.i % 8 ≡ 0;
      at : l.w.at + (l.width - l.i) ≡ l.fn.w.at + l.width;
      left : Left l.fn.w (padded l.el l.first l.width) l.w
          (bits_from l.el (l.first + l.i) (l.width - l.i) ++ bits_of ((8 - l.width % 8) % 8) 0);
    }

abbrev pub decreases-loop-i : goal.decreases-loop-i
decreases-loop-i l = l.width - l.i
