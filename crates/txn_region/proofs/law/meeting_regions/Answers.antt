use Rattle.txn_region.proofs.Meeting.{apart_by_key, meet_at_key}
use Rattle.txn_region.proofs.law.meeting_regions.Goals as goal

pub returns : goal.returns
returns c = record {
  meet = λ a b up upb met. meet_at_key a b up upb met;
  apart = λ a b apart key has. apart_by_key a b apart key has;
}
