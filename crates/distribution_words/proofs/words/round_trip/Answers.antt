-- `distribution_words::words::round_trip` meets its contract, by the law.
use Rattle.distribution_words.proofs.RoundTrip.{round_trip}
use Rattle.distribution_words.proofs.words.round_trip.Goals as goal

pub returns : goal.returns
returns c = round_trip
