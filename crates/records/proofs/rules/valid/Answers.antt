-- `records::rules::valid` meets its contract.
use Rattle.std.proofs.Common.{rules, arith}
use Rattle.records.proofs.Places.{layers_of, streams_of}
use Rattle.records.proofs.rules.valid.Goals as goal

pub returns-then-k-le16 : goal.returns-then-k-le16
returns-then-k-le16 c =
    let r = c.args.r in
    let l = layers_of r.layers r.programs (search rules) in
    let s = streams_of r.version c.streams_in-k.result r.streams (search rules) in
    grind arith

pub returns-else-k-le16 : goal.returns-else-k-le16
returns-else-k-le16 c =
    let l = layers_of c.args.r.layers c.args.r.programs (search rules) in
    grind arith
