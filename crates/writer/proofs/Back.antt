-- What comes back through `read_with`, in its reply, the map and the table.
use mathlib.Core.Path.{◌≡◌, refl, ap, ◌∙◌}
use mathlib.Core.Bool.{Bool, true, false, cond}
use mathlib.Core.List.{List}
use mathlib.Core.Logic.{◌⊎◌}
use Prim.Native.Nat.{ℕ, ◌*◌}
use lib.ListN.{length, drop}
use Rattle.records.specs.declared.Record.{Record}
use Rattle.std.specs.Prelude.{Some}
use Rattle.element.specs.Held.{Held}
use Rattle.element.specs.Reply.{answer, reply_with, map_after, table_after, accepts}
use Rattle.element.specs.Left.{shown}
use Rattle.element.specs.Claims.{EachByKind}
use Rattle.element.proofs.Theorems.{content_by_kind}
use Rattle.element.proofs.Numbers.{shown_numbers}
use Rattle.writer.specs.Written.{Sent}
use Rattle.writer.specs.Claims.{ReadsBack, Shows, ComesBack}
use Rattle.writer.proofs.Whole.{not_sent}

-- the record is held, since it was sent or since it was held before
then_held : (b : Bool) (r : Record) (held : Held) → (b ≡ true) ⊎ (held ≡ Some r)
    → cond b (Some r) held ≡ Some r
then_held true r held h = refl
then_held false r held h = not_sent h

pub shows_back : (w : Sent) (s : List ℕ) (held : Held) (map : List ℕ) (b : ReadsBack w s held (length map))
    → Shows w s (shown (length b.items) (map_after map (answer s held (length map))))
shows_back w s held map b =
    let k : EachByKind b.items = rw b.accepts at (content_by_kind s held (length map)) in
    rw (b.accepts, shown_numbers b.items (drop (4 * length b.items) map) k) b.shows

pub comes_back : (w : Sent) (s : List ℕ) (held : Held) (map : List ℕ) (table : List (List ℕ))
    → (w.send ≡ true) ⊎ (held ≡ Some w.config)
    → ReadsBack w s held (length map) → ComesBack w s held map table
comes_back w s held map table h b =
    let k = then_held w.send w.config held h in
    record {
      items = length b.items;
      fields = b.count;
      replies =
          ap (reply_with held) b.accepts
          ∙ (λ i. record { verdict = accepts (length b.items) b.count w.send; held = k i });
      shows = shows_back w s held map b;
      tables = ap (table_after table) b.accepts;
    }
