use Rattle.std.proofs.Common.{◌≡◌, le_refl}
use Rattle.text.specs.Words.{words_of}
use Rattle.text.proofs.Words.{bytes_at, table_words, words_few}
use Rattle.text.proofs.words_of.Goals as goal

pub returns : goal.returns
returns c =
    let read = c.get.ensures.lookup.4 (le_refl _) in
    let is : c.unwrap_or.result.now ≡ words_of c.args.number =
    rw (c.unwrap_or.ensures, c.copied.ensures, read, bytes_at) (table_words c.args.number) in
    record { is = is; few = words_few c.args.number is }
