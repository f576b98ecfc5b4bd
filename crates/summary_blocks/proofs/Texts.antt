-- Laws of the text of a frame.
use mathlib.Core.Path.{◌≡◌, refl}
use mathlib.Core.Bool.{Bool, true, false, cond, not}
use mathlib.Core.List.{List, []}
use Prim.Native.Nat.{ℕ}
use Rattle.std.proofs.Common.{Some, None}
use Rattle.records.specs.declared.Record.{Record}
use Rattle.records.specs.Table.{table_of}
use Rattle.kernel.specs.Element.{Answer, accepted, rejected}
use Rattle.element.specs.Held.{Held}
use Rattle.element.specs.Mux.{Applied}
use Rattle.element.specs.Reply.{verdict_of, sent_by, table_after}
use Rattle.summary_blocks.specs.Summary.{is_held, accepted_text, shown, said_after}
use Rattle.summary_blocks.specs.Laid.{accepted_by, verdict_text, verdict_said}

unless : (b : Bool) (xs : List ℕ) → cond b [] xs ≡ cond (not b) xs []
unless true xs = refl
unless false xs = refl

-- only a configuration that was sent is looked at, and its table
sent_or_not : (element : ℕ) (held : Held) (table : List (List ℕ)) (b : Bool) (r : Record)
    → accepted_by element held (cond b (Some r) None) (cond b (table_of r.layers r.programs) table)
    ≡ accepted_text element held b r
sent_or_not element held table true r = unless (is_held held r) _
sent_or_not element held table false r = refl

pub shown_is : (element : ℕ) (held : Held) (said : Bool) (table : List (List ℕ)) (x : Answer Applied)
    → verdict_text element held said (verdict_of x) (sent_by x) (table_after table x)
    ≡ shown element held said x
shown_is element held said table (accepted a its n) = sent_or_not element held table a.sent a.config
shown_is element held said table (rejected r its) = refl

pub said_is : (said : Bool) (x : Answer Applied) → verdict_said said (verdict_of x) ≡ said_after said x
said_is said (accepted a its n) = refl
said_is said (rejected r its) = refl
