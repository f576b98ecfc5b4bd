-- the first bytes are laid
use Rattle.std.proofs.Common.{◌≡◌, length, take}
use Rattle.std.proofs.lemmas.List.Edits.{sets}
use Rattle.kernel.proofs.lay.Given as goal

abbrev pub invariant-loop-i : goal.invariant-loop-i
invariant-loop-i l =
    record {
      long : length l.out ≡ length l.fn.out;
      cells : l.out ≡ sets l.fn.out l.from (take l.i l.src);
    }
