-- A run of a spread transaction: both replies to its Prewrites are lost, and a reader comes to its decision.
use Rattle.std.specs.Prelude.{ℕ, true, false, List, [], ◌∷◌, Some, None}
use Rattle.txn_kv.specs.declared.message.KeyError.TheVariants as errors
use Rattle.txn_kv.specs.declared.message.LockInfo.{LockInfo}
use Rattle.txn_kv.specs.declared.request.Request.{Request}
use Rattle.txn_kv.specs.declared.request.Request.TheVariants.{Get, Prewrite, CheckSecondaryLocks}
use Rattle.txn_kv.specs.declared.reply.Reply.{Reply}
use Rattle.txn_kv.specs.declared.reply.Reply.TheVariants as reply
use Rattle.txn_history.specs.Event.{Event}
use Rattle.txn_history.specs.Event.Event.{Sent, Served, Took, Lost}
use Rattle.txn_history.specs.Plan.{Plan}
use Rattle.txn_history.specs.Plan.Way.{Spread}
use Rattle.txn_law.specs.Sample.{first_key, second_key, sample_plan, here, put_first, put_second, prewrite_of, lock_shown, ticket, tso, gave_1, gave_2, cleanup_first, resolve, resolved, found}

abbrev pub spread_plans : ℕ → Plan
spread_plans s = sample_plan (Spread (second_key ∷ [])) false

abbrev pub prewrite_first : Request
prewrite_first = Prewrite (prewrite_of true false (put_first ∷ []) (second_key ∷ []))

abbrev pub prewrite_second : Request
prewrite_second = Prewrite (prewrite_of true false (put_second ∷ []) [])

abbrev pub bounded : Reply
bounded = reply.Prewrite (record { region_error = None; errors = []; min_commit_ts = 2; one_pc_commit_ts = 0 })

abbrev pub first_lock : LockInfo
first_lock = lock_shown true 2 first_key (second_key ∷ [])

abbrev pub second_lock : LockInfo
second_lock = lock_shown true 2 second_key []

abbrev pub get_second : Request
get_second = Get (record { context = here; key = second_key; version = 2 })

abbrev pub locked : Reply
locked = reply.Get (record { region_error = None; error = Some (errors.Locked second_lock); value = []; not_found = false })

abbrev pub stands_locked : Reply
stands_locked = reply.Cleanup (record { region_error = None; error = Some (errors.Locked first_lock); commit_version = 0 })

abbrev pub check_second : Request
check_second = CheckSecondaryLocks (record { context = here; keys = second_key ∷ []; start_version = 1 })

abbrev pub second_locked : Reply
second_locked = reply.CheckSecondaryLocks (record { region_error = None; error = None; locks = second_lock ∷ []; commit_ts = 0; missing = false })

-- the run after some of its events, the newest first

abbrev pub after_3 : List Event
after_3 = Took (ticket 1) tso gave_1 ∷ Served (ticket 1) tso gave_1 ∷ Sent (ticket 1) tso ∷ []

abbrev pub after_5 : List Event
after_5 = Served (ticket 2) prewrite_first bounded ∷ Sent (ticket 2) prewrite_first ∷ after_3

abbrev pub after_9 : List Event
after_9 = Lost (ticket 3) prewrite_second ∷ Served (ticket 3) prewrite_second bounded ∷ Sent (ticket 3) prewrite_second ∷ Lost (ticket 2) prewrite_first ∷ after_5

abbrev pub after_12 : List Event
after_12 = Took (ticket 4) tso gave_2 ∷ Served (ticket 4) tso gave_2 ∷ Sent (ticket 4) tso ∷ after_9

abbrev pub after_15 : List Event
after_15 = Took (ticket 5) get_second locked ∷ Served (ticket 5) get_second locked ∷ Sent (ticket 5) get_second ∷ after_12

abbrev pub after_18 : List Event
after_18 = Took (ticket 6) cleanup_first stands_locked ∷ Served (ticket 6) cleanup_first stands_locked ∷ Sent (ticket 6) cleanup_first ∷ after_15

abbrev pub after_21 : List Event
after_21 = Took (ticket 7) check_second second_locked ∷ Served (ticket 7) check_second second_locked ∷ Sent (ticket 7) check_second ∷ after_18

abbrev pub after_23 : List Event
after_23 = Served (ticket 8) resolve resolved ∷ Sent (ticket 8) resolve ∷ after_21

abbrev pub spread_sample : List Event
spread_sample = Took (ticket 9) get_second found ∷ Served (ticket 9) get_second found ∷ Sent (ticket 9) get_second ∷ after_23
