-- A run of one transaction that commits two keys: its second Commit is lost and comes late, after a reader found the lock,
-- asked about the primary, and resolved it. Then a read is refused, a region is split and led elsewhere, the clock goes on and
-- a client is gone.
use Rattle.std.specs.Prelude.{ℕ, Bool, false, pos, List, [], ◌∷◌, Option, Some, None, Ok, ◌||◌, if◌then◌else◌}
use Rattle.txn_kv.specs.declared.message.ApiVersion.TheVariants.{V1}
use Rattle.txn_kv.specs.declared.message.Assertion.TheVariants.{None as NoAssertion}
use Rattle.txn_kv.specs.declared.message.Context.{Context}
use Rattle.txn_kv.specs.declared.message.KeyError.TheVariants as errors
use Rattle.txn_kv.specs.declared.message.LockInfo.{LockInfo}
use Rattle.txn_kv.specs.declared.message.Mutation.{Mutation}
use Rattle.txn_kv.specs.declared.message.Op.TheVariants.{Put}
use Rattle.txn_kv.specs.declared.message.RegionErr.TheVariants.{ServerIsBusy}
use Rattle.txn_kv.specs.declared.timestamp.Timestamp.{Timestamp}
use Rattle.txn_kv.specs.declared.request.Request.{Request}
use Rattle.txn_kv.specs.declared.request.Request.TheVariants.{Get, Prewrite, Commit, Cleanup, ResolveLock, Tso}
use Rattle.txn_kv.specs.declared.request.commits.PrewriteRequest.{PrewriteRequest}
use Rattle.txn_kv.specs.declared.reply.Reply.{Reply}
use Rattle.txn_kv.specs.declared.reply.Reply.TheVariants as reply
use Rattle.txn_kv.specs.declared.ticket.Ticket.{Ticket}
use Rattle.txn_history.specs.Event.{Event}
use Rattle.txn_history.specs.Event.Event.{Sent, Served, Took, Refused, Lost, Began, Slept, Asked, Answered, Crashed, Split, Led, Clocked}
use Rattle.txn_history.specs.Plan.{Key, key_eq, Plan, Way}
use Rattle.txn_history.specs.Plan.Way.{TwoPhases}
pub use Rattle.txn_law.specs.Lone.{put_of}

abbrev pub first_key : Key
first_key = 97 ∷ []

abbrev pub second_key : Key
second_key = 98 ∷ []

-- A transaction that puts a value to each of two keys, in this way, and all at once where it may.
abbrev pub sample_plan : Way → Bool → Plan
sample_plan way once = record {
  primary = first_key;
  ops = λ k. if key_eq first_key k || key_eq second_key k then Some Put else None;
  writes = λ k. if key_eq first_key k then Some (put_of (7 ∷ [])) else (if key_eq second_key k then Some (put_of (8 ∷ [])) else None);
  way = way;
  one_phase = once;
}

abbrev pub sample_plans : ℕ → Plan
sample_plans s = sample_plan TwoPhases false

abbrev pub here : Option Context
here = Some (record { region_id = 1; region_epoch = Some (record { conf_ver = 1; version = 1 }); peer = Some (record { id = 1; store_id = 1 }); api_version = V1 })

abbrev pub put : Key → List ℕ → Mutation
put k v = record { op = Put; key = k; value = v; assertion = NoAssertion }

abbrev pub put_first : Mutation
put_first = put first_key (7 ∷ [])

abbrev pub put_second : Mutation
put_second = put second_key (8 ∷ [])

-- a Prewrite of some of them
abbrev pub prewrite_of : Bool → Bool → List Mutation → List Key → PrewriteRequest
prewrite_of async once ms ks = record { context = here; mutations = ms; primary_lock = first_key; start_version = 1; lock_ttl = 3000; txn_size = 2; for_update_ts = 0; is_pessimistic_lock = []; use_async_commit = async; try_one_pc = once; secondaries = ks }

-- a lock, as a reply shows it
abbrev pub lock_shown : Bool → ℕ → Key → List Key → LockInfo
lock_shown async bound k ks = record { key = k; primary_lock = first_key; lock_version = 1; lock_ttl = 3000; lock_type = Put; lock_for_update_ts = 0; use_async_commit = async; min_commit_ts = bound; secondaries = ks }

abbrev pub ticket : ℕ → Ticket
ticket n = record { line = n; beat = false; number = 1 }

abbrev pub tso : Request
tso = Tso (record { count = 1 })

abbrev pub prewrite : Request
prewrite = Prewrite (prewrite_of false false (put_first ∷ put_second ∷ []) [])

abbrev pub commit_first : Request
commit_first = Commit (record { context = here; keys = first_key ∷ []; start_version = 1; commit_version = 2 })

abbrev pub commit_second : Request
commit_second = Commit (record { context = here; keys = second_key ∷ []; start_version = 1; commit_version = 2 })

abbrev pub get_second : Request
get_second = Get (record { context = here; key = second_key; version = 3 })

abbrev pub cleanup_first : Request
cleanup_first = Cleanup (record { context = here; key = first_key; start_version = 1 })

abbrev pub resolve : Request
resolve = ResolveLock (record { context = here; start_version = 1; commit_version = 2; txn_infos = [] })

abbrev pub gave_1 : Reply
gave_1 = reply.Tso (record { count = 1; timestamp = Some (record { physical = pos 0; logical = pos 1; suffix_bits = 0 }) })

abbrev pub time_2 : Timestamp
time_2 = record { physical = pos 0; logical = pos 2; suffix_bits = 0 }

abbrev pub gave_2 : Reply
gave_2 = reply.Tso (record { count = 1; timestamp = Some time_2 })

abbrev pub gave_3 : Reply
gave_3 = reply.Tso (record { count = 1; timestamp = Some (record { physical = pos 0; logical = pos 3; suffix_bits = 0 }) })

abbrev pub prewritten : Reply
prewritten = reply.Prewrite (record { region_error = None; errors = []; min_commit_ts = 0; one_pc_commit_ts = 0 })

abbrev pub committed : Reply
committed = reply.Commit (record { region_error = None; error = None; commit_version = 2 })

abbrev pub locked : Reply
locked = reply.Get (record { region_error = None; error = Some (errors.Locked (lock_shown false 0 second_key [])); value = []; not_found = false })

abbrev pub too_busy : Reply
too_busy = reply.Get (record { region_error = Some ServerIsBusy; error = None; value = []; not_found = false })

abbrev pub found : Reply
found = reply.Get (record { region_error = None; error = None; value = 8 ∷ []; not_found = false })

abbrev pub decided : Reply
decided = reply.Cleanup (record { region_error = None; error = None; commit_version = 2 })

abbrev pub resolved : Reply
resolved = reply.ResolveLock (record { region_error = None; error = None })

-- the run after each of its events, the newest first

abbrev pub after_1 : List Event
after_1 = Sent (ticket 1) tso ∷ []

abbrev pub after_2 : List Event
after_2 = Served (ticket 1) tso gave_1 ∷ after_1

abbrev pub after_3 : List Event
after_3 = Took (ticket 1) tso gave_1 ∷ after_2

abbrev pub after_4 : List Event
after_4 = Sent (ticket 2) prewrite ∷ after_3

abbrev pub after_5 : List Event
after_5 = Served (ticket 2) prewrite prewritten ∷ after_4

abbrev pub after_6 : List Event
after_6 = Took (ticket 2) prewrite prewritten ∷ after_5

abbrev pub asked_6 : List Event
asked_6 = Asked (ticket 4) ∷ after_6

abbrev pub after_7 : List Event
after_7 = Sent (ticket 3) tso ∷ asked_6

abbrev pub after_8 : List Event
after_8 = Served (ticket 3) tso gave_2 ∷ after_7

abbrev pub after_9 : List Event
after_9 = Took (ticket 3) tso gave_2 ∷ after_8

abbrev pub answered_9 : List Event
answered_9 = Answered (ticket 4) (Ok time_2) ∷ after_9

abbrev pub after_10 : List Event
after_10 = Sent (ticket 4) commit_first ∷ answered_9

abbrev pub after_11 : List Event
after_11 = Served (ticket 4) commit_first committed ∷ after_10

abbrev pub after_12 : List Event
after_12 = Took (ticket 4) commit_first committed ∷ after_11

abbrev pub after_13 : List Event
after_13 = Sent (ticket 5) commit_second ∷ after_12

abbrev pub lost_13 : List Event
lost_13 = Lost (ticket 5) commit_second ∷ after_13

abbrev pub after_14 : List Event
after_14 = Sent (ticket 6) tso ∷ lost_13

abbrev pub after_15 : List Event
after_15 = Served (ticket 6) tso gave_3 ∷ after_14

abbrev pub after_16 : List Event
after_16 = Took (ticket 6) tso gave_3 ∷ after_15

abbrev pub after_17 : List Event
after_17 = Sent (ticket 7) get_second ∷ after_16

abbrev pub after_18 : List Event
after_18 = Served (ticket 7) get_second locked ∷ after_17

abbrev pub after_19 : List Event
after_19 = Took (ticket 7) get_second locked ∷ after_18

abbrev pub after_20 : List Event
after_20 = Sent (ticket 8) cleanup_first ∷ after_19

abbrev pub after_21 : List Event
after_21 = Served (ticket 8) cleanup_first decided ∷ after_20

abbrev pub after_22 : List Event
after_22 = Took (ticket 8) cleanup_first decided ∷ after_21

abbrev pub after_23 : List Event
after_23 = Sent (ticket 9) resolve ∷ after_22

abbrev pub after_24 : List Event
after_24 = Served (ticket 9) resolve resolved ∷ after_23

abbrev pub after_25 : List Event
after_25 = Took (ticket 9) resolve resolved ∷ after_24

abbrev pub after_26 : List Event
after_26 = Sent (ticket 10) get_second ∷ after_25

abbrev pub after_27 : List Event
after_27 = Served (ticket 10) get_second found ∷ after_26

abbrev pub after_28 : List Event
after_28 = Took (ticket 10) get_second found ∷ after_27

abbrev pub after_29 : List Event
after_29 = Served (ticket 5) commit_second committed ∷ after_28

abbrev pub after_30 : List Event
after_30 = Sent (ticket 11) get_second ∷ after_29

abbrev pub after_31 : List Event
after_31 = Refused (ticket 11) get_second too_busy ∷ after_30

abbrev pub after_32 : List Event
after_32 = Took (ticket 11) get_second too_busy ∷ after_31

abbrev pub after_33 : List Event
after_33 = Began (ticket 12) 2 ∷ after_32

abbrev pub after_34 : List Event
after_34 = Split second_key ∷ after_33

abbrev pub after_35 : List Event
after_35 = Led 2 3 ∷ after_34

abbrev pub after_36 : List Event
after_36 = Clocked 7 ∷ after_35

abbrev pub after_37 : List Event
after_37 = Slept (ticket 12) ∷ after_36

abbrev pub after_38 : List Event
after_38 = Crashed 2 ∷ after_37

abbrev pub sample : List Event
sample = after_38
