-- what is left of the records
use Rattle.std.proofs.Common.{◌≡◌, ◌+◌, ◌-◌, ◌*◌}
use Rattle.std.proofs.lemmas.List.Edits.{sets}
use Rattle.listing_blocks.specs.Laid.{map_lines}
use Rattle.listing_blocks.proofs.lay_items.Given as goal

abbrev pub invariant-loop-i : goal.invariant-loop-i
invariant-loop-i l =
    record {
      at : l.to ≡ l.at + 24 * l.i;
      left : sets l.out l.to (map_lines l.number l.map l.i (l.items - l.i))
          ≡ sets l.fn.out l.at (map_lines l.number l.map 0 l.items);
    }
