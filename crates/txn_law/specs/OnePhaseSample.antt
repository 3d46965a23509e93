-- A run of a transaction in one phase: its Prewrite commits both keys at once.
use Rattle.std.specs.Prelude.{ℕ, true, false, List, [], ◌∷◌, None}
use Rattle.txn_kv.specs.declared.request.Request.{Request}
use Rattle.txn_kv.specs.declared.request.Request.TheVariants.{Prewrite}
use Rattle.txn_kv.specs.declared.reply.Reply.{Reply}
use Rattle.txn_kv.specs.declared.reply.Reply.TheVariants as reply
use Rattle.txn_history.specs.Event.{Event}
use Rattle.txn_history.specs.Event.Event.{Sent, Served, Took}
use Rattle.txn_history.specs.Plan.{Plan}
use Rattle.txn_history.specs.Plan.Way.{TwoPhases}
use Rattle.txn_law.specs.Sample.{sample_plan, put_first, put_second, prewrite_of, ticket, tso, gave_1}

abbrev pub one_phase_plans : ℕ → Plan
one_phase_plans s = sample_plan TwoPhases true

abbrev pub prewrite : Request
prewrite = Prewrite (prewrite_of false true (put_first ∷ put_second ∷ []) [])

abbrev pub committed : Reply
committed = reply.Prewrite (record { region_error = None; errors = []; min_commit_ts = 0; one_pc_commit_ts = 2 })

-- the run before the Prewrite, and whole, the newest first

abbrev pub after_3 : List Event
after_3 = Took (ticket 1) tso gave_1 ∷ Served (ticket 1) tso gave_1 ∷ Sent (ticket 1) tso ∷ []

abbrev pub one_phase_sample : List Event
one_phase_sample = Took (ticket 2) prewrite committed ∷ Served (ticket 2) prewrite committed ∷ Sent (ticket 2) prewrite ∷ after_3
