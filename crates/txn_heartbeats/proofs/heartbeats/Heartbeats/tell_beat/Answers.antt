use Rattle.std.proofs.Common.{◌∙◌, ◌-◌, ◌++◌, Some, None, ap, set, subst, sym}
use Rattle.std.proofs.lemmas.List.{set-set}
use Rattle.txn_side.specs.Sight.{next_at}
use Rattle.txn_heartbeats.specs.Beating.{IsLine, postings_of}
use Rattle.txn_heartbeats.specs.Hearts.{beats_of, job_at, jobs_of, outbox_at}
use Rattle.txn_heartbeats.specs.Started.{transaction_at, transactions_of}
use Rattle.txn_heartbeats.proofs.Keeping.{nobody_again, transaction_again}
use Rattle.txn_heartbeats.proofs.Living.{alive_at, alive_emptied}
use Rattle.txn_heartbeats.proofs.Posting.{holds_so, posts_all, posts_so}
use Rattle.txn_heartbeats.proofs.Seen.{live_line}
use Rattle.txn_heartbeats.proofs.Sides.{beaten_ready, taken_ready}
use Rattle.txn_heartbeats.proofs.Started.{never_none, same_stands, told_so}
use Rattle.txn_heartbeats.proofs.heartbeats.Heartbeats.tell_beat.Goals as goal

pub beat-requires-clause-alive : goal.beat-requires-clause-alive
beat-requires-clause-alive g c =
    alive_at g.H.Plan.meaning (beats_of c.args.self.now) (jobs_of c.args.self.now) c.args.line c.in-Some.job c.in_ok-out-in-Some.out c.requires.ready.alive c.in-Some.ensures.job
    (c.in_ok-out-in-Some.ensures.outbox ∙ ap (λ bs. outbox_at c.args.line (next_at bs c.args.line)) c.take_job.ensures.beats)

pub keep-requires : goal.keep-requires
keep-requires g c =
    subst (λ bs. IsLine bs c.args.line) (sym c.take_job.ensures.beats) (live_line (g.S.ClientSide.sight c.args.self.now.side) (beats_of c.args.self.now) c.args.line c.requires.ready.even (sym c.is_live.ensures ∙ c.if-not-is_live.false))

pub returns-in-None-clause-ready : goal.returns-in-None-clause-ready
returns-in-None-clause-ready g c =
    taken_ready _ _ g.H.Plan.meaning c.args.self.now c.take_job.new.self c.args.line (live_line (g.S.ClientSide.sight c.args.self.now.side) (beats_of c.args.self.now) c.args.line c.requires.ready.even (sym c.is_live.ensures ∙ c.if-not-is_live.false)) c.take_job.ensures.beats c.take_job.ensures.jobs c.take_job.ensures.side c.requires.ready

pub returns-in_ok-post-in-Some-clause-beats : goal.returns-in_ok-post-in-Some-clause-beats
returns-in_ok-post-in-Some-clause-beats g c =
    let old = beats_of c.args.self.now in
    let own = live_line (g.S.ClientSide.sight c.args.self.now.side) old c.args.line c.requires.ready.even (sym c.is_live.ensures ∙ c.if-not-is_live.false) in
    let out = c.in_ok-out-in-Some.ensures.outbox ∙ ap (λ bs. outbox_at c.args.line (next_at bs c.args.line)) c.take_job.ensures.beats in
    let holds = holds_so c.in-Some.job.heartbeat c.args.line old c.in_ok-out-in-Some.out c.beat.new.out own out c.in_ok-beat-in-Some.ensures.beats c.in_ok-post-in-Some.ensures.timeless in
    posts_all c.args.line old (beats_of c.post.new.self) c.new-turn.result.posted.items c.post.new.turn.posted.items c.new-turn.ensures.posted
    (posts_so c.args.line old (beats_of c.post.new.self) c.new-turn.result.posted.items c.post.new.turn.posted.items c.beat.new.out holds c.in_ok-post-in-Some.ensures.posted
    (c.in_ok-post-in-Some.ensures.beats ∙ ap (λ bs. set bs (c.args.line - 1) c.beat.new.out.next) (c.keep.ensures.beats ∙ c.take_job.ensures.beats)))

pub returns-in_ok-post-in-Some-clause-ready : goal.returns-in_ok-post-in-Some-clause-ready
returns-in_ok-post-in-Some-clause-ready g c =
    let old = beats_of c.args.self.now in
    let own = live_line (g.S.ClientSide.sight c.args.self.now.side) old c.args.line c.requires.ready.even (sym c.is_live.ensures ∙ c.if-not-is_live.false) in
    let out = c.in_ok-out-in-Some.ensures.outbox ∙ ap (λ bs. outbox_at c.args.line (next_at bs c.args.line)) c.take_job.ensures.beats in
    let holds = holds_so c.in-Some.job.heartbeat c.args.line old c.in_ok-out-in-Some.out c.beat.new.out own out c.in_ok-beat-in-Some.ensures.beats c.in_ok-post-in-Some.ensures.timeless in
    let side = c.in_ok-post-in-Some.ensures.side ∙ c.keep.ensures.side in
    beaten_ready g.S.ClientSide.ready g.S.ClientSide.sight g.H.Plan.meaning c.args.self.now c.post.new.self c.args.line c.beat.new.out.next c.beat.new.job own
    (c.in_ok-post-in-Some.ensures.beats ∙ ap (λ bs. set bs (c.args.line - 1) c.beat.new.out.next) (c.keep.ensures.beats ∙ c.take_job.ensures.beats))
    (c.in_ok-post-in-Some.ensures.jobs ∙ c.keep.ensures.jobs ∙ ap (λ js. set js (c.args.line - 1) (Some c.beat.new.job)) c.take_job.ensures.jobs ∙ set-set (jobs_of c.args.self.now) (c.args.line - 1) None (Some c.beat.new.job))
    (ap g.S.ClientSide.sight side ∙ c.in_ok-beat-in-Some.ensures.stays.sight_is ∙ ap g.S.ClientSide.sight c.take_job.ensures.side)
    (subst g.S.ClientSide.ready (sym side) c.in_ok-beat-in-Some.ensures.ready)
    (alive_emptied g.H.Plan.meaning g.met.H.Plan.lawful c.beat.new.job c.args.line c.beat.new.out holds.line_is holds.beat holds.ask c.in_ok-beat-in-Some.ensures.alive)
    c.requires.ready

pub returns-in_ok-post-in-Some-clause-kept : goal.returns-in_ok-post-in-Some-clause-kept
returns-in_ok-post-in-Some-clause-kept g c =
    let own = live_line (g.S.ClientSide.sight c.args.self.now.side) (beats_of c.args.self.now) c.args.line c.requires.ready.even (sym c.is_live.ensures ∙ c.if-not-is_live.false) in
    let was = transactions_of c.args.self.now in
    let at = c.transaction_of-transaction.ensures ∙ ap (λ ns. transaction_at ns c.args.line) c.take_job.ensures.transactions in (
      c.in_ok-post-in-Some.ensures.starts ∙ c.keep.ensures.starts ∙ c.take_job.ensures.starts,
      c.in_ok-post-in-Some.ensures.transactions ∙ c.keep.ensures.transactions ∙ ap (λ ns. set ns (c.args.line - 1) c.transaction_of-transaction.result) c.take_job.ensures.transactions ∙ ap (set was (c.args.line - 1)) at ∙ transaction_again was c.args.line own.first,
    )

pub returns-in_ok-post-in-Some-clause-told : goal.returns-in_ok-post-in-Some-clause-told
returns-in_ok-post-in-Some-clause-told g c live job at =
    let side = c.args.self.now.side in
    let status = g.S.HeartHost.status_at in
    let was = c.transaction_of-transaction.ensures ∙ ap (λ ns. transaction_at ns c.args.line) c.take_job.ensures.transactions in
    told_so g.H.Plan.meaning c.args.line c.args.arrival (status side (transaction_at (transactions_of c.args.self.now) c.args.line)) c.status-status.result c.args.now job c.in-Some.job c.beat.new.job c.in_ok-out-in-Some.out c.beat.new.out _ c.args.self.now c.post.new.self c.post.new.turn
    (c.status-status.ensures ∙ ap (λ s. status s c.transaction_of-transaction.result) c.take_job.ensures.side ∙ ap (status side) was)
    (same_stands (job_at (jobs_of c.args.self.now) c.args.line) c.in-Some.job job c.in-Some.ensures.job at)
    (c.in_ok-out-in-Some.ensures.outbox ∙ ap (λ bs. outbox_at c.args.line (next_at bs c.args.line)) c.take_job.ensures.beats)
    c.in_ok-beat-in-Some.ensures.heard
    (c.in_ok-post-in-Some.ensures.jobs ∙ c.keep.ensures.jobs ∙ ap (λ js. set js (c.args.line - 1) (Some c.beat.new.job)) c.take_job.ensures.jobs ∙ set-set (jobs_of c.args.self.now) (c.args.line - 1) None (Some c.beat.new.job))
    (c.in_ok-post-in-Some.ensures.posted ∙ ap (λ ps. ps ++ postings_of c.args.line c.beat.new.out.sends) c.new-turn.ensures.posted)

pub returns-in-None-clause-nobody : goal.returns-in-None-clause-nobody
returns-in-None-clause-nobody g c none =
    let own = live_line (g.S.ClientSide.sight c.args.self.now.side) (beats_of c.args.self.now) c.args.line c.requires.ready.even (sym c.is_live.ensures ∙ c.if-not-is_live.false) in (
      c.new-turn.ensures.posted,
      c.take_job.ensures.jobs ∙ nobody_again (jobs_of c.args.self.now) c.args.line own.first none,
    )

pub returns-in_ok-post-in-Some-clause-nobody : goal.returns-in_ok-post-in-Some-clause-nobody
returns-in_ok-post-in-Some-clause-nobody g c none = absurd (never_none (job_at (jobs_of c.args.self.now) c.args.line) c.in-Some.job c.in-Some.ensures.job none)
