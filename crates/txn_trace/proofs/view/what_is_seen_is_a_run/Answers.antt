use Rattle.txn_trace.proofs.Seen.{acknowledged_so, asked_for_so, committed_so, decided_so, given_so, had_seen, key_committed_so, licensed_so, named_so, one_phase_so, rolled_back_so, seen_awaited, seen_had, seen_kept, seen_lost, seen_out, seen_refused, seen_runs, seen_sent, seen_served, seen_store, seen_taken, seen_took, seen_tells, tells_seen, took_seen, settled_so}
use Rattle.txn_trace.specs.Seeing.{seen}
use Rattle.txn_trace.proofs.view.what_is_seen_is_a_run.Goals as goal

pub returns-clause-runs : goal.returns-clause-runs
returns-clause-runs c = seen_runs

pub returns-clause-store : goal.returns-clause-store
returns-clause-store c = seen_store

pub returns-clause-shows : goal.returns-clause-shows
returns-clause-shows c = seen_had

pub returns-clause-shown : goal.returns-clause-shown
returns-clause-shown c = had_seen

pub returns-clause-sent : goal.returns-clause-sent
returns-clause-sent c = seen_sent

pub returns-clause-kept : goal.returns-clause-kept
returns-clause-kept c = seen_kept

pub returns-clause-taken : goal.returns-clause-taken
returns-clause-taken c = seen_taken

pub returns-clause-refused : goal.returns-clause-refused
returns-clause-refused c = seen_refused

pub returns-clause-lost : goal.returns-clause-lost
returns-clause-lost c = seen_lost

pub returns-clause-served : goal.returns-clause-served
returns-clause-served c = seen_served

pub returns-clause-out : goal.returns-clause-out
returns-clause-out c = seen_out

pub returns-clause-awaited : goal.returns-clause-awaited
returns-clause-awaited c = seen_awaited

pub returns-clause-given : goal.returns-clause-given
returns-clause-given c h n = (given_so h (seen h) n (took_seen h), given_so (seen h) h n (seen_took h))

pub returns-clause-acknowledged : goal.returns-clause-acknowledged
returns-clause-acknowledged c plan h s = (acknowledged_so plan h (seen h) s (took_seen h), acknowledged_so plan (seen h) h s (seen_took h))

pub returns-clause-asked_for : goal.returns-clause-asked_for
returns-clause-asked_for c plan h s n = (asked_for_so plan h (seen h) s n (tells_seen h), asked_for_so plan (seen h) h s n (seen_tells h))

pub returns-clause-named : goal.returns-clause-named
returns-clause-named c plan h s n = (named_so plan h (seen h) s n (tells_seen h).sent, named_so plan (seen h) h s n (seen_tells h).sent)

pub returns-clause-committed : goal.returns-clause-committed
returns-clause-committed c plan h s n = (committed_so plan h (seen h) s n (took_seen h), committed_so plan (seen h) h s n (seen_took h))

pub returns-clause-key_committed : goal.returns-clause-key_committed
returns-clause-key_committed c h s k = (key_committed_so h (seen h) s k (took_seen h), key_committed_so (seen h) h s k (seen_took h))

pub returns-clause-settled : goal.returns-clause-settled
returns-clause-settled c plan h s n = (settled_so plan h (seen h) s n (took_seen h), settled_so plan (seen h) h s n (seen_took h))

pub returns-clause-one_phase : goal.returns-clause-one_phase
returns-clause-one_phase c h s n = (one_phase_so h (seen h) s n (took_seen h), one_phase_so (seen h) h s n (seen_took h))

pub returns-clause-rolled_back : goal.returns-clause-rolled_back
returns-clause-rolled_back c plan h s = (rolled_back_so plan h (seen h) s (took_seen h), rolled_back_so plan (seen h) h s (seen_took h))

pub returns-clause-decided : goal.returns-clause-decided
returns-clause-decided c h s n = (decided_so h (seen h) s n (took_seen h), decided_so (seen h) h s n (seen_took h))

pub returns-clause-licensed : goal.returns-clause-licensed
returns-clause-licensed c plans h r = (licensed_so plans h (seen h) r (tells_seen h), licensed_so plans (seen h) h r (seen_tells h))
