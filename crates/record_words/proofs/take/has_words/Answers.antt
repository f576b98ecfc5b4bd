-- `record_words::take::has_words` meets its contract.
use Rattle.std.proofs.Common.{◌∙◌, ap, rules, arith}
use Rattle.record_words.specs.Words.{same_words}
use Rattle.record_words.proofs.Words.{laid_new, told_same}
use Rattle.record_words.proofs.take.has_words.Goals as goal

pub returns : goal.returns
returns c =
    let w = c.args.w.now in
    c.eq.ensures ∙ told_same c.lay_record.new.out w (search rules) (omega arith)
    ∙ ap (λ b. same_words b w) (c.lay_record.ensures.1 ∙ laid_new c.args.r)
