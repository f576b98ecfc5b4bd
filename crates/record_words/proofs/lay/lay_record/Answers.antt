-- `record_words::lay::lay_record` meets its contract.
use Rattle.std.proofs.Common.{◌≤◌, length, sym, arith}
use borrow.Author.Tests.{le-leb}
use Rattle.record_words.proofs.Words.{laid_all}
use Rattle.record_words.specs.Words.{record_size}
use Rattle.record_words.proofs.lay.lay_record.Goals as goal

pub returns : goal.returns
returns c =
    let p = c.lay_all.ensures in
    let room : record_size ≤ length c.args.out.now = omega arith in
    (sym (le-leb record_size _ room), laid_all _ _ _ _ p.1 p.0 room)
