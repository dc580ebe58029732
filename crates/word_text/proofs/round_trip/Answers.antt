-- `word_text::round_trip` meets its contract, by the laws of `RoundTrip`.
use Rattle.word_text.proofs.RoundTrip.{reads, prints}
use Rattle.word_text.proofs.round_trip.Goals as goal

pub returns : goal.returns
returns c = record { reads = reads; prints = prints }
