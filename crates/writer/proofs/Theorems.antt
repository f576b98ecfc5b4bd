-- The theorem of each claim in specs/Claims.antt.
use mathlib.Core.Path.{◌≡◌, sym, ◌∙◌, ap, subst}
use mathlib.Core.List.{List, ◌++◌}
use Prim.Native.Nat.{ℕ, ◌*◌}
use native.Mathlib.Omega.{arith}
use lib.ListN.{length, take, drop, length-append, length-drop}
use lib.Seq.{take_at, drop_at}
use Rattle.kernel.specs.Bits.{pack}
use Rattle.kernel.proofs.Held.{length-pack}
use Rattle.config.proofs.Theorems as config
use Rattle.std.specs.Prelude.{Ok}
use Rattle.writer.specs.Written.{element_bits, size_of}
use Rattle.writer.specs.Write.{out_after}
use Rattle.writer.specs.Claims.{ReadsBack, WrittenReadsBack, WrittenComesBack, BytesBehindStay}
use Rattle.writer.specs.Claims.{RefusalKeepsOutput, SameWhereEqual, RightIsWritten, DoneIsRight, RefusalsAreExact}
use Rattle.writer.specs.Claims.{WrittenOnce}
use Rattle.writer.proofs.Answers.{written_done, right_fits}
use Rattle.writer.proofs.Back.{comes_back}
use Rattle.writer.proofs.Said.{bit_says}
use Rattle.writer.proofs.Exact.{fits_right, refused_exactly}
use Rattle.writer.proofs.Whole.{written_says, fits_are, whole_bytes, some_is, reads_back}

pub written_reads_back : WrittenReadsBack
written_reads_back w out n types e held h room r =
    let s = rw e at (written_says w (length out)) in
    let b : pack (size_of w) (element_bits w)
    ≡ take n (pack n (element_bits w) ++ drop n out) =
    rw s.4 (sym (take_at (pack (size_of w) (element_bits w)) _ (size_of w)
    (length-pack (size_of w) (element_bits w)))) in
    subst (λ (t : List ℕ). ReadsBack w t held room) b
    (reads_back w types s.0 (fits_are w s.1) s.2 held h room r)

pub written_comes_back : WrittenComesBack
written_comes_back w out n types e held h map room table =
    rw e (comes_back w (take n (out_after w out (Ok n))) held map table h
    (written_reads_back w out n types e held h (length map) room))

pub bytes_behind_stay : BytesBehindStay
bytes_behind_stay w out n e =
    let s = rw e at (written_says w (length out)) in
    let l : length (pack n (element_bits w)) ≡ n = length-pack n (element_bits w) in
    rw e (
      simp (length-append, length-drop) (omega (arith, l, s.3, s.4)),
      drop_at (pack n (element_bits w)) (drop n out) n l,
    )

pub refusal_keeps_output : RefusalKeepsOutput
refusal_keeps_output w out x e = ap (out_after w out) e

pub same_where_equal : SameWhereEqual
same_where_equal w out n e sent p l hp hl h =
    let s = rw e at (written_says w (length out)) in
    let b : length (element_bits w) ≡ 8 * n = rw s.4 (whole_bytes w (fits_are w s.1)) in
    rw e (bit_says w n (drop n out) b sent p l _ (config.same_where_equal w.config p l hp hl h))

pub right_is_written : RightIsWritten
right_is_written w room v r h k = sym (written_done w room v (right_fits w r) h k)

pub done_is_right : DoneIsRight
done_is_right w room n e =
    let s = rw e at (written_says w room) in
    (s.0, fits_right w s.1, s.4, rw s.4 (some_is w (fits_are w s.1)), rw s.4 s.2, rw s.4 s.3)

pub refusals_are_exact : RefusalsAreExact
refusals_are_exact = refused_exactly

pub written_once : WrittenOnce
written_once w out out₁ out₂ x y p q = let e = p.0 ∙ sym q.0 in (e, p.1 ∙ ap (out_after w out) e ∙ sym q.1)
