-- From what a call that failed had heard to what the report tells.
use Rattle.std.proofs.Common.{◌≡◌, ◌⊎◌, inl, inr, zero, suc, ℕ, refl, sym, ap, ◌∙◌, subst}
use Rattle.std.specs.Prelude.{IfSome, Bool, if◌then◌else◌, true, false, List, [], ◌∷◌, Option, Some, None, Err, nat_eq, reverse}
use Rattle.txn_kv.specs.ErrorView.{view_of, ErrorView, ErrorViews}
use Rattle.txn_kv.specs.ErrorView.ErrorView.{plain, locks, region, undetermined as not_known, key, extracted, multiple, kv, text, pessimistic}
use Rattle.txn_kv.specs.ErrorView.ErrorViews.{none, more}
use Rattle.txn_kv.specs.declared.errors.Error.{Error}
use Rattle.txn_kv.specs.declared.errors.Error.TheVariants.{GrpcAPI, RegionForKeyNotFound, RegionNotFoundInResponse, LeaderNotFound, InternalError, OutOfMemory}
use Rattle.txn_kv.specs.declared.errors.Internal.{Internal}
use Rattle.txn_kv.specs.declared.errors.Internal.TheVariants.{BadEnd, BadPadding, ReversedRegion, NoEpoch, WrongReply}
use Rattle.txn_kv.specs.declared.message.KeyError.{KeyError}
use Rattle.txn_kv.specs.declared.message.KeyError.TheVariants.{Locked}
use Rattle.txn_kv.specs.declared.message.RegionErr.{RegionErr}
use Rattle.txn_kv.specs.declared.message.RegionErr.TheVariants.{EpochNotMatch}
use Rattle.txn_kv.specs.declared.region.RegionWithLeader.{RegionWithLeader}
use Rattle.txn_kv.specs.declared.reply.Reply.{Reply}
use Rattle.txn_kv.specs.declared.reply.Reply.TheVariants as replies
use Rattle.txn_kv.specs.declared.request.Request.{Request}
use Rattle.txn_kv.specs.declared.request.Request.TheVariants.{BatchRollback, Commit, GetRegion, Prewrite, Tso}
use Rattle.txn_kv.specs.declared.ticket.Ticket.{Ticket}
use Rattle.txn_kv.specs.declared.timestamp.Timestamp.{Timestamp}
use Rattle.txn_history.specs.Among.{IsAmong}
use Rattle.txn_history.specs.Event.{Event, Has}
use Rattle.txn_history.specs.Event.Event.{Took, Lost, Answered}
use Rattle.txn_history.specs.Faults.{has_region_error}
use Rattle.txn_history.specs.Posted.{ticket_of}
use Rattle.txn_causes.specs.Carried.{listed, FoundNone, FoundOther, HasBadKey, HasKeyError, HasLock, HasNoEpoch, HasNoLeader, HasRegion, HasRegionError, IsReversed, ToldWithoutEpoch}
use Rattle.txn_causes.specs.Causes.{FoundNoRegion, HasCause, HasFailed, HaveFailed, InternalCause, IsTriedOut, PlainCause, Taken, retries}
use Rattle.txn_causes.specs.Spent.{HasFailedAt, HaveFailedBelow, IsSpent}
use Rattle.txn_causes.specs.Causes as causes
use Rattle.txn_causes.specs.Heard.{Heard, heard_in}
use Rattle.txn_causes.specs.Heard.Heard.{TookReply, WasLost}
use Rattle.txn_causes.specs.Kinds.{IsOfKind}
use Rattle.txn_buffer.specs.Contents.{Contents}
use Rattle.txn_commit.specs.Ways.{Ways}
use Rattle.txn_commit.specs.Following.{Commits, undetermined}
use Rattle.txn_merge.specs.declared.retry_options.RetryOptions.{RetryOptions}
use Rattle.txn_commit_plans.specs.CausesOfCalls.{IsCallExplained, call_explained, untimed_caused}
use Rattle.txn_commit_plans.specs.CausesOfCalls as calls
use Rattle.txn_commit_plans.specs.CausesOfLookUps.{HasNoTimestamp}
use Rattle.txn_commit_plans.specs.Transactions.{AnyPlan, transaction_ways, transactions_caused}
use Rattle.txn_core.specs.Going.{TransactionGives}
use Rattle.txn_side.specs.Trace.{kind_at, AreOwn, AreShown, FailsIn, HasRefused, IsBarredIn, IsBegunAs, IsHarmless, IsRefusedIn, IsRefusedNow, LastTold, Trace, refused_asks, untimed_by, untimed_view}
use Rattle.txn_side.specs.Trace.CallKind.{ForTimestamp, OfTransaction}
use Rattle.txn_report.specs.declared.outcome.Outcome.{Outcome}
use Rattle.txn_report.specs.declared.report.Report.{Report}
use Rattle.txn_lines.specs.Text.{IsScript}
use Rattle.txn_lines.specs.declared.line.Line.{Line}
use Rattle.txn_machine.specs.Accounts.{Ask, ask_of}
use Rattle.txn_machine.specs.Causes.{ended_of}
use Rattle.txn_machine.specs.Failing.{AllCausesMeet, CauseMeets, CausesMeetLines}
use Rattle.txn_machine.specs.Lawful.{Lawful}
use Rattle.txn_clients.specs.Options.{backoff_unless, retries_of}
use Rattle.txn_core.specs.Options.{usual_retries}
use Rattle.txn_multi.specs.Task.{attempts_left}
use Rattle.txn_lines.specs.declared.begin_options.BeginOptions.{BeginOptions}
use Rattle.txn_clients.specs.Failing.{AreRetriesOf, CallFailed, FailsFor, HasFailedFor, KnownTransaction}
use Rattle.txn_run.specs.Behind.{AreBehind}
use Rattle.txn_run.specs.Licensed.{AreLicensed}
use Rattle.txn_run.specs.Program.{RanScript}
use Rattle.txn_run.specs.Refused.{AreExact}
use Rattle.txn_run.specs.Settled.{AreSettled}
use Rattle.txn_run.specs.Whole.{AreWhole}
use Rattle.txn_run.proofs.Asking.{fewer_refused, refused_again}
use Rattle.txn_run.proofs.Calming.{not_calm}
use Rattle.txn_run.proofs.Certain.{certain_lines}
use Rattle.txn_run.proofs.Doubting.{told_of_doubt}
use Rattle.txn_run.proofs.Matching.{lines_kind}
use Rattle.txn_run.proofs.Refusing.{all_exact, never_caused, refused_untimed, view-InternalError}
use Rattle.txn_run.proofs.Wholeness.{lines_hold}
use Rattle.txn_run.specs.Caused.{HaveCauses, HeardBy, IsCaused, IsExplained, IsRollbackRefused, IsUndetermined, attempts_of, trace_at}

-- In a reply that says without error what was done, and in one with timestamps, no error has its cause.

harmless_like : (r : Request) (o : Reply) → IsHarmless r o → IsOfKind r o
harmless_like (Tso r) (replies.Tso o) h = (o, refl)
harmless_like (Prewrite r) (replies.Prewrite o) h = (o, refl)
harmless_like (Commit r) (replies.Commit o) h = (o, refl)
harmless_like (BatchRollback r) (replies.BatchRollback o) h = (o, refl)
harmless_like _ _ h = absurd h

no_region : (is : RegionWithLeader → Type 0) (r : Request) (o : Reply) → IsHarmless r o → HasRegion is o → ⊥
no_region is (Tso r) (replies.Tso o) h (x, k, i) = cc
no_region is (Prewrite r) (replies.Prewrite o) h (x, k, i) = cc
no_region is (Commit r) (replies.Commit o) h (x, k, i) = cc
no_region is (BatchRollback r) (replies.BatchRollback o) h (x, k, i) = cc
no_region is _ _ h k = absurd h

no_region_error : (error : RegionErr) (r : Request) (o : Reply) → IsHarmless r o → HasRegionError error o → ⊥
no_region_error error (Tso r) (replies.Tso o) h k = cc
no_region_error error (Prewrite r) (replies.Prewrite o) h k = let clean = h.0 in cc
no_region_error error (Commit r) (replies.Commit o) h k = let clean = h.0 in cc
no_region_error error (BatchRollback r) (replies.BatchRollback o) h k = let clean = h.0 in cc
no_region_error error _ _ h k = absurd h

no_key_error : (error : KeyError) (r : Request) (o : Reply) → IsHarmless r o → HasKeyError error o → ⊥
no_key_error error (Tso r) (replies.Tso o) h k = k
no_key_error error (Prewrite r) (replies.Prewrite o) h k = subst (λ xs. IsAmong xs error) h.1 k
no_key_error error (Commit r) (replies.Commit o) h k = subst (λ x. IsAmong (listed x) error) h.1 k
no_key_error error (BatchRollback r) (replies.BatchRollback o) h k = subst (λ x. IsAmong (listed x) error) h.1 k
no_key_error error _ _ h k = absurd h

no_epoch : (id : ℕ) (r : Request) (o : Reply) → IsHarmless r o → HasRegion (λ x. HasNoEpoch id x.region) o ⊎ ToldWithoutEpoch id o → ⊥
no_epoch id r o h (inl k) = no_region (λ x. HasNoEpoch id x.region) r o h k
no_epoch id r o h (inr k) = no_region_error (EpochNotMatch k.0) r o h k.2

looks_no_none : (r : Request) (o : Reply) → IsHarmless r o → FoundNone r o → ⊥
looks_no_none (Tso r) (replies.Tso o) h k = k
looks_no_none (Prewrite r) (replies.Prewrite o) h k = k
looks_no_none (Commit r) (replies.Commit o) h k = k
looks_no_none (BatchRollback r) (replies.BatchRollback o) h k = k
looks_no_none _ _ h k = absurd h

looks_no_other : (id : ℕ) (r : Request) (o : Reply) → IsHarmless r o → FoundOther id r o → ⊥
looks_no_other id (Tso r) (replies.Tso o) h k = k
looks_no_other id (Prewrite r) (replies.Prewrite o) h k = k
looks_no_other id (Commit r) (replies.Commit o) h k = k
looks_no_other id (BatchRollback r) (replies.BatchRollback o) h k = k
looks_no_other id _ _ h k = absurd h

-- So what has its cause in what was heard has it in what is shown, where each other reply is.
module _ (K M : Heard → Type 0) {S Z : Type 0} (spent : S → Z)
    (took : (u : Ticket) (r : Request) (o : Reply) → K (TookReply u r o) → M (TookReply u r o) ⊎ IsHarmless r o)
    (lost : (u : Ticket) (r : Request) → K (WasLost u r) → M (WasLost u r)) where
  taken : (are : Request → Reply → Type 0) → ((r : Request) (o : Reply) → IsHarmless r o → are r o → ⊥) → Taken K are → Taken M are
  taken are never k = elim (took k.0 k.1 k.2 k.3) [ inl m ↦ (k.0, k.1, k.2, m, k.4) | inr h ↦ absurd (never k.1 k.2 h k.4) ]

  one_failed : (u : Ticket) (r : Request) → HasFailed K u r → HasFailed M u r
  one_failed u r (inl k) = inl (lost u r k)
  one_failed u r (inr k) = elim (took u r k.0 k.1) [ inl m ↦ inr (k.0, m, k.2) | inr h ↦ absurd (looks_no_none r k.0 h k.2) ]

  have_failed : (r : Request) (u : Ticket) (n : ℕ) → HaveFailed K r u n → HaveFailed M r u n
  have_failed r u zero k = tt
  have_failed r u (suc n) k = (k.0, k.1, k.2, one_failed k.0 r k.3, have_failed r k.0 n k.4)

  tried_out : {A B : Type 0} → (A → B) → (r : Request) (u : Ticket) (n : Option ℕ) → IsTriedOut K A r u n → IsTriedOut M B r u n
  tried_out becomes r u None k = becomes k
  tried_out becomes r u (Some n) k = have_failed r u n k

  found_none : (r : Request) → FoundNoRegion K r → FoundNoRegion M r
  found_none r k = elim (took k.0 r k.1 k.2) [ inl m ↦ (k.0, k.1, m, k.3, tried_out (λ never. never) r k.0 (retries r) k.4) | inr h ↦ absurd (looks_no_none r k.1 h k.3) ]

  internal : (what : Internal) → InternalCause K what → InternalCause M what
  internal (BadEnd at) k = taken (λ q. HasRegion (HasBadKey (BadEnd at))) (no_region (HasBadKey (BadEnd at))) k
  internal (BadPadding at) k = taken (λ q. HasRegion (HasBadKey (BadPadding at))) (no_region (HasBadKey (BadPadding at))) k
  internal (ReversedRegion id) k = taken (λ q. HasRegion (IsReversed id)) (no_region (IsReversed id)) k
  internal (NoEpoch id) k = taken (λ q o. HasRegion (λ r. HasNoEpoch id r.region) o ⊎ ToldWithoutEpoch id o) (no_epoch id) k
  internal WrongReply k = taken (λ q o. IsOfKind q o → ⊥) (λ r o h other. other (harmless_like r o h)) k
  internal _ k = absurd k

  of_plain : (error : Error) → PlainCause K S error → PlainCause M Z error
  of_plain (GrpcAPI ticket) k = (k.0, lost ticket k.0 k.1, tried_out spent k.0 ticket (retries k.0) k.2)
  of_plain (RegionForKeyNotFound wanted) k = found_none (GetRegion (record { region_key = wanted })) k
  of_plain (RegionNotFoundInResponse id) k = taken (FoundOther id) (looks_no_other id) k
  of_plain (LeaderNotFound id) k = taken (λ q. HasRegion (HasNoLeader id)) (no_region (HasNoLeader id)) k
  of_plain (InternalError what) k = internal what k
  of_plain OutOfMemory k = tt
  of_plain _ k = absurd k

  mutual
    has_cause : (error : ErrorView) → HasCause K S error → HasCause M Z error
    has_cause (plain error) k = of_plain error k
    has_cause (locks found) k = (k.0, λ lock i. taken (λ q. HasLock lock) (no_key_error (Locked lock)) (k.1 lock i))
    has_cause (region error) k = (taken (λ q. HasRegionError error) (no_region_error error) k.0, elim k.1 [ inl at_once ↦ inl at_once | inr s ↦ inr (spent s) ])
    has_cause (not_known inner) k = absurd k
    has_cause (key error) k = (taken (λ q. HasKeyError error) (no_key_error error) k.0, k.1)
    has_cause (extracted errors) k = (k.0, have_causes errors k.1)
    has_cause (multiple errors) k = (k.0, have_causes errors k.1)
    has_cause (kv message) k = absurd k
    has_cause (text message) k = absurd k
    has_cause (pessimistic inner keys) k = absurd k

    have_causes : (errors : ErrorViews) → causes.HaveCauses K S errors → causes.HaveCauses M Z errors
    have_causes none k = tt
    have_causes (more error errors) k = (has_cause error k.0, have_causes errors k.1)

-- a reply of these was refused for no region
region_unrefused : (r : Request) (o : Reply) → IsHarmless r o → has_region_error o ≡ true → ⊥
region_unrefused (Tso r) (replies.Tso o) h e = cc
region_unrefused (Prewrite r) (replies.Prewrite o) h e = let clean = h.0 in cc
region_unrefused (Commit r) (replies.Commit o) h e = let clean = h.0 in cc
region_unrefused (BatchRollback r) (replies.BatchRollback o) h e = let clean = h.0 in cc
region_unrefused _ _ h e = absurd h

-- and what failed at a region is shown
module _ (K M : Heard → Type 0)
    (took : (u : Ticket) (r : Request) (o : Reply) → K (TookReply u r o) → M (TookReply u r o) ⊎ IsHarmless r o)
    (lost : (u : Ticket) (r : Request) → K (WasLost u r) → M (WasLost u r)) where
  failed_at : (u : Ticket) → HasFailedAt K u → HasFailedAt M u
  failed_at u (r, inl k) = (r, inl (lost u r k))
  failed_at u (r, inr k) = elim (took u r k.0 k.1) [ inl m ↦ (r, inr (k.0, m, k.2)) | inr h ↦ absurd (region_unrefused r k.0 h k.2) ]

  failed_below : (line : ℕ) (beat : Bool) (below n : ℕ) → HaveFailedBelow K line beat below n → HaveFailedBelow M line beat below n
  failed_below line beat below zero k = tt
  failed_below line beat below (suc n) k = (k.0, k.1, k.2, k.3, failed_at k.0 k.4, failed_below line beat k.0.number n k.5)

  spent_shown : (attempts : ℕ) → IsSpent K attempts → IsSpent M attempts
  spent_shown attempts k = (k.0, k.1, k.2, failed_below k.0 k.1 k.2 (suc attempts) k.3)

-- so often what a transaction sends is tried again, by the words of its line
left_unless : (b : Bool) → attempts_left (backoff_unless b usual_retries.region_backoff) ≡ (if b then 0 else 10)
left_unless true = refl
left_unless false = refl

attempts_same : (told : BeginOptions) (own : RetryOptions) → own ≡ retries_of told → attempts_left own.region_backoff ≡ attempts_of told
attempts_same told own e = ap (λ (r : RetryOptions). attempts_left r.region_backoff) e ∙ left_unless told.no_regions

-- an error that says why there is no timestamp says what came last, itself or within another
says_alone : (t : Trace) (n : ℕ) (e : Error) → LastTold t n e → IfSome (untimed_by e) (λ what. IsRefusedNow t n (InternalError what))
says_alone t n (InternalError what) last = subst (λ view. IfSome (untimed_view view) (λ w. IsRefusedNow t n (InternalError w))) (view-InternalError what) last
says_alone t n _ last = tt

says_inside : (t : Trace) (n : ℕ) (e inner : Error) → view_of e ≡ not_known (view_of inner) → LastTold t n e → IfSome (untimed_by inner) (λ what. IsRefusedNow t n (InternalError what))
says_inside t n e (InternalError what) same last = subst (λ view. IfSome (untimed_view view) (λ w. IsRefusedNow t n (InternalError w))) (same ∙ ap not_known (view-InternalError what)) last
says_inside t n e _ same last = tt

-- What a call heard is shown, and came for its line, which had no fewer asks refused than it heard of.
module _ (t : Trace) (at n : ℕ) (h : List Event) (like : (u : Ticket) (r : Request) (o : Reply) → Has t.events (Took u r o) → IsOfKind r o) (shown : AreShown t at h) (own : AreOwn n h) (counted : HasRefused t n (refused_asks h)) where
  took_shown : (u : Ticket) (r : Request) (o : Reply) → heard_in h (TookReply u r o) → HeardBy t n (TookReply u r o) ⊎ IsHarmless r o
  took_shown u r o k = elim (shown (Took u r o) k) [ inl s ↦ elim (own (Took u r o) k) [ inl line ↦ inl (line, s.1, like u r o s.1) | inr harmless ↦ inr harmless ] | inr harmless ↦ inr harmless ]

  lost_shown : (u : Ticket) (r : Request) → heard_in h (WasLost u r) → HeardBy t n (WasLost u r)
  lost_shown u r k = let s = shown (Lost u r) k in (own (Lost u r) k, s.1)

  -- what it says of a timestamp came last
  abbrev Says : Error → Type 0
  Says e = IfSome (untimed_by e) (λ what. IsRefusedNow t n (InternalError what))

  now_so : (e : Error) → Says e → IsRefusedIn t n e → IsRefusedNow t n e
  now_so e says r =
      let u = refused_untimed t n e like r in
      subst (IsRefusedNow t n) (sym u.1) (subst (λ what. IfSome what (λ w. IsRefusedNow t n (InternalError w))) u.2 (subst Says u.1 says))

  asked : (e : Error) → Says e → HasNoTimestamp h e → IsExplained t at n e
  asked e says k =
      let ask = ticket_of k.0 k.1 in
      let s = shown (Answered ask (Err e)) k.2 in
      inr (now_so e says (subst (λ line. IsRefusedIn t line e) (own (Answered ask (Err e)) k.2) s.1), fewer_refused t n (refused_asks h) 10 (refused_again k.0 h 9 k.1 e k.2 k.3) counted)

  -- an error of a call, where those of its transaction are tried again so often
  explained : (options : BeginOptions) → IsBegunAs t at options → (attempts : ℕ) → attempts ≡ attempts_of options → (e : Error) → Says e → calls.IsExplained attempts h e → IsExplained t at n e
  explained options begun attempts same e says (inl k) = inl (has_cause (heard_in h) (HeardBy t n) (λ s. (options, begun, subst (IsSpent (HeardBy t n)) same (spent_shown (heard_in h) (HeardBy t n) took_shown lost_shown attempts s))) took_shown lost_shown (view_of e) k)
  explained options begun attempts same e says (inr k) = asked e says k

  untimed : (e : Error) → Says e → HasCause (heard_in h) ⊥ (view_of e) ⊎ HasNoTimestamp h e → IsExplained t at n e
  untimed e says (inl k) = inl (has_cause (heard_in h) (HeardBy t n) (λ never. absurd never) took_shown lost_shown (view_of e) k)
  untimed e says (inr k) = asked e says k

  module _ {P : Type 0} (w : Ways P)
      (failed : (options : RetryOptions) (start : Timestamp) (contents : Contents) (c : Commits) (h : List Event) (e : Error) → TransactionGives w options start contents c h (Err e) → IsCallExplained (attempts_left options.region_backoff) (undetermined c) h e) where
    call_failed : (e : Error) → LastTold t n e → CallFailed w (IsBegunAs t at) h e → IsExplained t at n e ⊎ IsUndetermined t at n e
    call_failed e last k = let x = k.transaction in by x k.retries (undetermined x.commits) (failed x.retry_options x.start x.contents x.commits h e (inl (x.parts, x.whole, k.fails)))
      where
        by : (x : KnownTransaction h) → AreRetriesOf (IsBegunAs t at) x.retry_options → (left : Option Ticket) → IsCallExplained (attempts_left x.retry_options.region_backoff) left h e → IsExplained t at n e ⊎ IsUndetermined t at n e
        by x r None g = inl (explained r.0 r.1 (attempts_left x.retry_options.region_backoff) (attempts_same r.0 x.retry_options r.2) e (says_alone t n e last) g)
        by x r (Some u) g = inr (record { inner = g.0; error = g.1; explained = explained r.0 r.1 (attempts_left x.retry_options.region_backoff) (attempts_same r.0 x.retry_options r.2) g.0 (says_inside t n e g.0 g.1 last) g.2 })

    fails : (e : Error) → LastTold t n e → HasFailedFor w (kind_at at n) (IsBegunAs t at) h e → IsExplained t at n e ⊎ IsUndetermined t at n e
    fails e last k = by (nat_eq at n) k
      where
        by : (own : Bool) → HasFailedFor w (if own then ForTimestamp else OfTransaction) (IsBegunAs t at) h e → IsExplained t at n e ⊎ IsUndetermined t at n e
        by true k = inl (untimed e (says_alone t n e last) (untimed_caused h e k))
        by false k = call_failed e last k

-- A rollback that is refused names a Commit that was lost.
refused : {P : Type 0} (w : Ways P) (t : Trace) (at n : ℕ) (e : Error) → IsBarredIn (FailsFor w) t at n e → IsRollbackRefused t at n e
refused w t at n e b =
    let k = b.fails_so in
    let why = k.why in
    let lost = why.lost in
    let s = b.shown (Lost why.ticket (Commit lost.0)) lost.1 in
    record { rollback = b.rolls; ticket = why.ticket; error = why.error; sent = s.0; commit = lost.0; lost = s.1 }

-- Each line
module _ {Fails Causes : ℕ → Error → Type 0} (weaker : (n : ℕ) (e : Error) → Fails n e → Causes n e) where
  cause_meets : (accounts : _) (n : ℕ) (ask : Option Ask) (o : Outcome) → CauseMeets Fails accounts n ask o → CauseMeets Causes accounts n ask o
  cause_meets accounts n None o k = λ e is. weaker n e (k e is)
  cause_meets accounts n (Some ask) o k = λ free e is. weaker n e (k free e is)

  causes_meet : (outs : List Outcome) (ended : List ℕ) (script : List Line) → AllCausesMeet Fails outs ended script → AllCausesMeet Causes outs ended script
  causes_meet outs ended [] k = tt
  causes_meet outs ended (line ∷ before) k = (cause_meets _ _ (ask_of line) _ k.0, causes_meet outs ended before k.1)

-- the plans by which the clients of a run commit
abbrev pub plans : Ways AnyPlan
plans = transaction_ways

plans_explained : (options : RetryOptions) (start : Timestamp) (contents : Contents) (c : Commits) (h : List Event) (e : Error) → TransactionGives plans options start contents c h (Err e) → IsCallExplained (attempts_left options.region_backoff) (undetermined c) h e
plans_explained = call_explained plans transactions_caused.unwritten transactions_caused.uncommitted transactions_caused.unrolled

pub have_causes_told : (script : List Line) (report : Report) → AreBehind plans script report → CausesMeetLines (FailsFor plans) script report → HaveCauses script report
have_causes_told script report behind k = causes_meet is_caused report.outcomes report.ended script k
  where
    is_caused : (n : ℕ) (e : Error) → FailsIn (FailsFor plans) (trace_at script report n) n e → IsCaused (trace_at script report n) n e
    is_caused n e f = by f.fails_so
      where
        t : Trace
        t = trace_at script report n

        like : (u : Ticket) (r : Request) (o : Reply) → Has t.events (Took u r o) → IsOfKind r o
        like u r o h = lines_kind plans script report behind (suc (ended_of report.ended n)) u r o h

        by : FailsFor plans (kind_at f.at n) (IsBegunAs t f.at) f.history e ⊎ IsBarredIn (FailsFor plans) t f.at n e → IsCaused t n e
        by (inl so) = record { at = f.at; called = f.called; why = elim (fails t f.at n f.history like f.shown f.own f.counted plans plans_explained e f.last so.why) [ inl k ↦ inl k | inr k ↦ inr (inl k) ]; fed = so.fed }
        by (inr b) = let so = b.fails_so in record { at = f.at; called = f.called; why = inr (inr (refused plans t f.at n e b)); fed = so.fed }

-- a script ran
pub ran_script : (bytes : List ℕ) (lines items : List Line) (report : Report) → items ≡ lines → IsScript bytes lines → Lawful items report → CausesMeetLines (FailsFor plans) (reverse items) report
    → AreBehind plans (reverse items) report → RanScript bytes report
ran_script bytes lines items report same script lawful causes behind = record {
  lines = lines;
  script = script;
  lawful = as_script;
  causes = told;
  doubts = told_of_doubt (reverse lines) report as_script.events stands.arisen.says exact;
  exact = exact;
  calm = causes_meet (λ n e c. not_calm (trace_at (reverse lines) report n) n e c) report.outcomes report.ended (reverse lines) told;
  whole = holds.0;
  licensed = holds.1;
  settled = holds.2;
  certain = certain_lines plans (reverse lines) report (subst (λ ls. CausesMeetLines (FailsFor plans) (reverse ls) report) same causes);
}
  where
    as_script : Lawful lines report
    as_script = subst (λ ls. Lawful ls report) same lawful

    stands : AreBehind plans (reverse lines) report
    stands = subst (λ ls. AreBehind plans (reverse ls) report) same behind

    holds : AreWhole (reverse lines) report × AreLicensed (reverse lines) report × AreSettled (reverse lines) report
    holds = lines_hold plans (reverse lines) report stands as_script.folded as_script.told as_script.accounts

    told : HaveCauses (reverse lines) report
    told = have_causes_told (reverse lines) report stands (subst (λ ls. CausesMeetLines (FailsFor plans) (reverse ls) report) same causes)

    exact : AreExact (reverse lines) report
    exact = all_exact (λ n e. IsCaused (trace_at (reverse lines) report n) n e) (λ n e is c. never_caused (trace_at (reverse lines) report n) n e is c) report.outcomes report.ended (reverse lines) as_script.accounts told
