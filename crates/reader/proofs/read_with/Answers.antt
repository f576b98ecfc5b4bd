-- `reader::read_with` meets its contract.
use Rattle.std.proofs.Common.{length}
use Rattle.element.specs.Reply.{answer}
use Rattle.reader.specs.Prepared.{needed_of}
use Rattle.reader.proofs.Preparing.{needed_same, reply_is}
use Rattle.reader.proofs.read_with.Goals as goal

pub read_prepared-reply-requires : goal.read_prepared-reply-requires
read_prepared-reply-requires c = record { held = _; is = c.prepare_for-prepared.ensures }

pub returns : goal.returns
returns c =
    let a = c.args in
    let same = needed_same a.held a.el.now (length a.map.now) in
    let l = rw same at (c.read_prepared-reply.ensures (needed_of a.el.now a.held) c.prepare_for-prepared.ensures) in
    let x = answer a.el.now a.held (length a.map.now) in
    ((reply_is a.held c.prepare_for-prepared.result x l.0 c.or.ensures, l.1), l.2)
