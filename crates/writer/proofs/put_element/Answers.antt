-- `writer::put_element` meets its contract.
use Rattle.std.proofs.Common.{◌≡◌, ◌+◌, length, arith, rules}
use Rattle.records.proofs.Apart.{record_ok}
use Rattle.element.specs.Mux.{streams_of}
use Rattle.kernel.proofs.Puts.{puts}
use Rattle.writer.specs.Written.{to_send, bits_in}
use Rattle.writer.specs.Sizes.{front_bits}
use Rattle.writer.proofs.Answers.{streams_count, slots, others, element_bits_law}
use Rattle.writer.proofs.Whole.{fits_are, whole_is, few_is, enough_is, other_few}
use Rattle.writer.proofs.put_element.Goals as goal

pub put_front-requires : goal.put_front-requires
put_front-requires c =
    let o = record_ok c.args.r c.requires.0 in (omega (arith, c.new-w.ensures.is.1), o.programs, o.count)

pub put_subframes-requires : goal.put_subframes-requires
put_subframes-requires c =
    let a = c.args in
    let w = to_send a.r a.send a.ns.now a.payload.now a.other.now in
    let o = record_ok a.r c.requires.0 in
    let f = fits_are w c.requires.1 in
    let n : c.streams_in-count.result ≡ length (streams_of a.r) =
    streams_count a.r c.requires.0 (search rules) c.streams_in-count.ensures in
    rw c.streams_in-count.ensures (
      omega (arith, c.put_front.ensures.most, c.new-w.ensures.is.1),
      omega (arith, n, c.streams_in-count.ensures, o.count),
      omega (arith, o.subframes),
      f.number,
      whole_is w f,
      omega (arith, whole_is w f, few_is w f c.requires.2),
    )

pub put_other-requires : goal.put_other-requires
put_other-requires c =
    let a = c.args in
    let w = to_send a.r a.send a.ns.now a.payload.now a.other.now in
    let f = fits_are w c.requires.1 in (
      omega (arith, c.put_subframes.ensures.most, c.put_front.ensures.most, c.new-w.ensures.is.1),
      other_few w f c.requires.2,
      enough_is w f,
    )

pub returns : goal.returns
returns c =
    let a = c.args in
    let w = to_send a.r a.send a.ns.now a.payload.now a.other.now in
    let at = c.put_other.new.w.at in
    let slots_put = rw c.streams_in-count.ensures at c.put_subframes.ensures.put in
    let e : at ≡ 0 + length (front_bits w.send w.config) + length (bits_in (slots w)) + length (bits_in (others w)) =
    omega (arith, c.put_other.ensures.put.next, slots_put.next, c.put_front.ensures.put.next, c.new-w.ensures.is.1) in
    rw (← element_bits_law w at e) (grind (arith, puts, slots_put))
