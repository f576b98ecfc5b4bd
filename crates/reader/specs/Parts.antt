-- What the functions below `read_in_place` promise: what a walk needs of a configuration, and the answer where one
-- applies.
use Rattle.std.specs.Prelude.{Bool, cond, List, ◌++◌, map, ℕ, ◌+◌, ◌*◌, ◌-◌, ◌≤◌, ◌<◌, eqb, length, get_or, replicate}
use Rattle.std.specs.Prelude.{Option, Some, None}
use Rattle.kernel.specs.declared.Cursor.{Cursor}
use Rattle.kernel.specs.Element.{walk, Answer, ended, fields, item, with_item}
use Rattle.records.specs.declared.Stream.{Stream}
use Rattle.records.specs.declared.Record.{Record}
use Rattle.records.specs.Blank.{no_stream}
use Rattle.records.specs.Table.{streams_in}
use Rattle.element.specs.Mux.{kind_u, Applied, streams_of, applied, sent_element}
use Rattle.walk.specs.declared.Plan.{Plan}
use Rattle.walk.specs.Parts.{fronted}

-- the bits of slots that are fixed
abbrev pub fixed_bits : ℕ → ℕ → Option ℕ
fixed_bits kind fixed = cond (eqb kind 0) None (Some (8 * (fixed + 20)))

-- of a stream
abbrev pub fixed_of : Stream → Option ℕ
fixed_of s = fixed_bits s.kind s.fixed

-- the frameLength of each of some streams has its nine bits
abbrev pub Fixable : List Stream → Type 0
Fixable streams = (i : ℕ) → i < length streams → (get_or streams i no_stream).fixed ≤ 511

-- of some streams; nothing stands where there is none
abbrev pub slots_of : List Stream → List (Option ℕ)
slots_of streams = map fixed_of streams ++ replicate (16 - length streams) None

-- of a record
abbrev pub plan_of : Record → Plan
plan_of r = record {
  slots = slots_of (streams_of r);
  streams = streams_in r.layers r.programs 16;
  subframes = r.subframes + 1;
  other = cond (eqb r.other 1) (Some r.bits) None;
}

-- the answer where r applies: the walk behind the cursor, the items in front of it, and the end
unfoldable pub behind_of : List ℕ → Record → Bool → Cursor → Answer Applied
behind_of s r sent c =
    ended (8 * length s) (fronted sent c.at (walk s (applied (record { sent = sent; config = r })) c.at c.fields))

-- the answer where a configuration stands at the cursor
unfoldable pub sent_of : List ℕ → Cursor → Answer Applied
sent_of s c = ended (8 * length s) (with_item (item fields kind_u 0 0 1) (walk s sent_element c.at c.fields))
