-- `record_words::lay::lay_stream` meets its contract.
use Rattle.record_words.proofs.lay.lay_stream.Goals as goal

pub returns : goal.returns
returns c = rw c.stream_words.ensures at c.lay.ensures
