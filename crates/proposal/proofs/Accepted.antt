-- What passes the tests of a new trial has values. Assumes nothing.
use native.Mathlib.Omega.{arith}
use lib.Ieee.Bits.{is_true}
use Rattle.dimensions.proofs.Ok.{dimensions-ok}
use Rattle.history_view.specs.View.{seen_of}
use Rattle.param_mapping.proofs.Opened as opened
use Rattle.settings.specs.Settings.{settings_ok}
use Rattle.proposal.specs.Accepts.{CandidateAccepted}
use Rattle.proposal.proofs.Numbers.{accepted-is}
use Rattle.proposal.proofs.Ranges.{candidate-ranged}
use Rattle.proposal.proofs.WordCount.{view-columns}

pub candidate_accepted : CandidateAccepted
candidate_accepted = record {
  accepted = λ s dims k w h held ends o p l asked.
      let ok = (dimensions-ok dims k (opened.accepted s.slots dims k h asked).0).1 in
      let m = candidate-ranged s dims k w (seen_of s.slots s.n_startup_trials dims k h) (p, l) (λ _. view-columns s dims k w h asked)
      (λ j b. record { ok = ok j b; held = held j b; lo-fits = (ends j b).0; hi-fits = (ends j b).1 }) in
      rw (accepted-is s dims k w h (is_true (settings_ok s) o) (λ z. omega arith) asked, m.is) tt;
}
