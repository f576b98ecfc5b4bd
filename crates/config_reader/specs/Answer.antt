-- What the readers of StreamMuxConfig leave of the table lent to them, and what a record that they give keeps to.
use Rattle.std.specs.Prelude.{List, ℕ, ◌≤◌, Result, Ok, Err}
use Rattle.kernel.specs.declared.Read.{Read}
use Rattle.kernel.specs.declared.Refusal.{Refusal}
use Rattle.records.specs.declared.Record.{Record}
use Rattle.records.specs.Table.{streams_in}

-- the table lent, afterwards: that of what was read, or as it stood
abbrev pub table_after : {A : Type 0} → (A → List (List ℕ)) → Result (Read A) Refusal → List (List ℕ) → List (List ℕ)
table_after of (Ok r) table = of r.value
table_after of (Err x) table = table

-- at most 64 subframes and 16 streams
abbrev pub Few : Record → Type 0
Few r = (r.subframes ≤ 63) × (streams_in r.layers r.programs 16 ≤ 16)
