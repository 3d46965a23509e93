-- A commit or a rollback of a transaction: from the open call to the transaction around it.
use Rattle.std.proofs.Common.{◌≡◌, ◌≢◌, inl, inr, ℕ, Bool, true, false, List, [], ◌∷◌, Option, Some, None, refl, sym, ap, subst, ◌∙◌}
use Rattle.std.specs.Prelude.{⊤, Result, Ok, Err, if◌then◌else◌, not}
use Rattle.txn_kv.specs.Timestamp.{HasVersion, version_of}
use Rattle.txn_kv.specs.declared.errors.Error.{Error}
use Rattle.txn_kv.specs.declared.request.Request.{Request}
use Rattle.txn_kv.specs.declared.request.Request.TheVariants.{Commit}
use Rattle.txn_kv.specs.declared.ticket.Ticket.{Ticket}
use Rattle.txn_kv.specs.declared.timestamp.Timestamp.{Timestamp}
use Rattle.txn_history.specs.Event.{Event}
use Rattle.txn_history.specs.Licence.{PrimaryCommitted}
use Rattle.txn_history.specs.Moves.{Moves, Moves-after, Moves-before, Moves-map, Moves-quiet}
use Rattle.txn_history.specs.Plan.{Key, Plan}
use Rattle.txn_history.specs.Posted.{Posted, Within}
use Rattle.txn_history.specs.Turn.{Turn, IfEnds, IfKept, IfKept-out}
use Rattle.txn_history.specs.Turn.Turn.{Stopped, Waits, Ends}
use Rattle.txn_buffer.specs.Contents.{Contents}
use Rattle.txn_commit.specs.Committing.{CommitterFits, CommitterGives, CommitterMoves, IsAllPrewritten, MayCommit}
use Rattle.txn_commit.specs.Following.{Commits, IsFollowed, heard, undetermined}
use Rattle.txn_commit.specs.Going.{may_commit}
use Rattle.txn_commit.specs.Parts.{parts_of}
use Rattle.txn_commit.specs.Plans.{AreRolledBack, only_key}
use Rattle.txn_commit.specs.Sending.{MaySend, plan_of}
use Rattle.txn_commit.specs.declared.commit_parts.CommitParts.{CommitParts}
use Rattle.txn_commit.specs.declared.committer.CommitterAnswer.{CommitterAnswer}
use Rattle.txn_commit.specs.declared.committer.CommitterAnswer.TheVariants.{Committed, Checked, RolledBack}
use Rattle.txn_commit.specs.declared.committer.CommitterCall.{CommitterCall}
use Rattle.txn_commit.specs.Ways.{Ways}
use Rattle.txn_commit.proofs.Following.{IsNoSending, knows_more}
use Rattle.txn_commit.proofs.Posting.{Hears}
use Rattle.txn_commit.proofs.Posting.Hears.{Nothing, One}
use Rattle.txn_commit.proofs.Sending.{given_longer, rolled_longer}
use Rattle.txn_core.proofs.Naming.{named_more, names_on}
use Rattle.txn_merge.specs.declared.retry_options.RetryOptions.{RetryOptions}
use Rattle.txn_core.specs.Going.{AreUndone, BeginMoves, CallFits, CallMoves, FailsWith, IsAtWork, IsCommittedAt, IsJobFor, IsNamed, IsNewCall, IsSameCall, IsUnderWay, IsUndone, KnowsCall, KnowsContents, KnowsParts, MayBegin, MayGoBack, MaySendFor, MayStart, NamesReady, TakesUp, TransactionFits, TransactionGives, TransactionMoves}
use Rattle.txn_core.specs.Status.{allows_data, has_turned_back, may_move}
use Rattle.txn_core.specs.Transaction.{Standing, has_given_up, is_open, moved}
use Rattle.txn_core.specs.declared.status.Status.{Status}
use Rattle.txn_core.specs.declared.status.Status.TheVariants.{Committed as Is_committed, ReadOnly, Active, StartedCommit, Rolledback, StartedRollback, Dropped}
use Rattle.txn_core.specs.declared.transaction.Work.{Work}
use Rattle.txn_core.specs.declared.transaction.Work.TheVariants.{Idle, Open, GaveUp}
use Rattle.txn_core.specs.declared.txn_answer.TxnAnswer.{TxnAnswer}
use Rattle.txn_core.specs.declared.txn_answer.TxnAnswer.TheVariants as answer
use Rattle.txn_history.specs.Arrivals.{told_by}
use Rattle.txn_kv.specs.declared.arrival.Arrival.{Arrival}
use Rattle.txn_kv.specs.declared.arrival.Arrival.TheVariants as arrival

-- a status that allows no data moves to none that does
pub stays_started : (s next : Status) → allows_data s ≡ false → allows_data next ≡ false → allows_data (moved s next) ≡ false
stays_started s next e n = by (may_move s next)
  where
    by : (b : Bool) → allows_data (if b then next else s) ≡ false
    by true = n
    by false = e

-- where a rollback was begun once it has moved so, one was begun before
turned_committed : (s : Status) → has_turned_back (moved s Is_committed) ≡ true → has_turned_back s ≡ true
turned_committed ReadOnly e = e
turned_committed Active e = e
turned_committed Is_committed e = e
turned_committed StartedCommit e = absurd (cc)
turned_committed Rolledback e = e
turned_committed StartedRollback e = e
turned_committed Dropped e = e

-- and one that is rolled back then was so before
rolled_committed : (s : Status) → moved s Is_committed ≡ Rolledback → s ≡ Rolledback
rolled_committed ReadOnly e = e
rolled_committed Active e = e
rolled_committed Is_committed e = e
rolled_committed StartedCommit e = absurd (cc)
rolled_committed Rolledback e = e
rolled_committed StartedRollback e = e
rolled_committed Dropped e = e

turned_rolled : (s : Status) → has_turned_back (moved s Rolledback) ≡ true → has_turned_back s ≡ true
turned_rolled ReadOnly e = e
turned_rolled Active e = e
turned_rolled Is_committed e = e
turned_rolled StartedCommit e = e
turned_rolled Rolledback e = refl
turned_rolled StartedRollback e = refl
turned_rolled Dropped e = e

pub not_locking : (b : Bool) → not b ≡ true → b ≡ false
not_locking true e = absurd (cc)
not_locking false e = refl

within_heard : (h k : List Event) → Hears h k → Within h k
within_heard h k Nothing e i = i
within_heard h k (One x n) e i = inr i

pub some_same : {X : Type 0} {a b : X} {o : Option X} → o ≡ Some a → o ≡ Some b → a ≡ b
some_same e f = let g = sym e ∙ f in cc

pub may_start : {P : Type 0} (old : Standing P) (call : CommitterCall P) (parts : CommitParts) (h : List Event)
    → IsNewCall old.options.retry_options old.start parts call → MayBegin old parts h → MayStart (plan_of call.parts) (version_of call.start) old.commits h
may_start old call parts h n m = rw (n.own, n.whole) (record { given = m.given; knows = m.knows.knows; ready = m.knows.ready })

pub as_before : {P : Type 0} (old mid new : Standing P) → old.work ≡ Idle → mid ≡ record old { work = GaveUp } → new ≡ record mid { work = Idle } → new ≡ old
as_before {P} old mid new i e n = n ∙ ap (λ (x : Standing P). record x { work = Idle }) e ∙ ap (λ (x : Work P). record old { work = x }) (sym i)

parts_more : (s : ℕ) (c : Commits) (parts : CommitParts) (e : Event) (h : List Event) → IsNoSending e → KnowsParts s c h parts → KnowsParts s c (e ∷ h) parts
parts_more s c parts e h n k = record {
  formed = k.formed;
  knows = knows_more (plan_of parts) s c e h n k.knows;
  ready = named_more (plan_of parts) s e h n k.ready;
}

-- what was undone stays so
pub undone_longer : (s : ℕ) (contents : Contents) (h k : List Event) → Within h k → IsUndone s contents h → IsUndone s contents k
undone_longer s contents h k w u parts is = elim (u parts is) [
  | inl none ↦ inl none
  | inr (primary, others) ↦ inr (λ key named. rolled_longer (only_key key) s h k w (primary key named), λ key named. rolled_longer (only_key key) s h k w (others key named))
]

module _ {P : Type 0} where
  -- what is known of an open call is known of what the buffer holds, which has its parts
  knows_contents : (w : Ways P) (options : RetryOptions) (start : Timestamp) (status : Status) (contents : Contents) (c : Commits) (call : CommitterCall P) (o : Posted) (h : List Event)
      → IsUnderWay w options start status contents c call o h → KnowsContents (version_of start) c h contents
  knows_contents w options start status contents c call o h u = record {
    of_parts = λ parts e.
        subst (λ x. KnowsParts (version_of start) c h x) (some_same u.whole e)
        (subst (λ x. KnowsParts (version_of x) c h call.parts) u.own (record { formed = u.fits.formed; knows = u.fits.knows; ready = u.ready }));
    empty = λ e. absurd (let x = sym e ∙ u.whole in cc);
  }

  -- the open call has ended, and the transaction rests
  pub rests : (w : Ways P) (t new : Standing P) (call : CommitterCall P) (next : Status) (v : ℕ) (o : Posted) (h : List Event)
      → new ≡ record t { status = next; work = Idle; width = v } → allows_data next ≡ false → (has_turned_back next ≡ true → has_turned_back t.status ≡ true)
      → (next ≡ Rolledback → IsUndone (version_of t.start) t.contents h)
      → CallFits w t call o h → TransactionFits w new o h
  rests w t new call next v o h e n b r f = rw e (record {
    given = f.given;
    unsent = λ a. absurd (let g = sym n ∙ a in cc);
    settled = λ a. f.settled (b a);
    undone = r;
    at = knows_contents w t.options.retry_options t.start t.status t.contents t.commits call o h f.under_way;
  })

  -- it waits still
  pub takes_waits : (w : Ways P) (call : CommitterCall P) (old new : Standing P) (o : Posted)
      → new ≡ record old { work = Open call } → TakesUp w call old new o Waits Waits
  takes_waits w call old new o e = record {
    still = λ h k. rw e (record { given = k.0.given; unsent = λ a. absurd (let g = sym k.0.under_way.started ∙ a in cc); settled = k.0.settled; undone = k.0.undone; at = k.0.under_way });
    done = tt;
  }

  -- the primary is committed
  pub takes_committed : (w : Ways P) (call : CommitterCall P) (old new : Standing P) (t : Timestamp) (keys : List Key) (v : ℕ) (o : Posted) (turn : Turn (Result (TxnAnswer P) Error))
      → new ≡ record old { status = moved old.status Is_committed; work = Idle; width = v }
      → keys ≡ call.parts.secondaries
      → IsCommittedAt new.options.retry_options new.start t keys turn
      → TakesUp w call old new o (Ends (Ok (Committed t))) turn
  takes_committed w call old new t keys v o turn e f (job, g, j) = rw g (record {
    still = λ h k. rests w old new call (moved old.status Is_committed) v o h e (stays_started old.status Is_committed k.0.under_way.started refl) (turned_committed old.status) (λ a. k.0.undone (rolled_committed old.status a)) k.0;
    done = λ h k. inl (
      call.parts,
      k.0.under_way.whole,
      record {
        primary = subst (λ (x : Timestamp). PrimaryCommitted (plan_of call.parts) h (version_of x) (version_of t)) k.0.under_way.own k.1;
        others = subst (λ (x : List Key). IsJobFor old.options.retry_options old.start t x job) f (subst (λ (x : Standing P). IsJobFor x.options.retry_options x.start t keys job) e j);
      },
    );
  })

  -- all was checked
  pub takes_checked : (w : Ways P) (call : CommitterCall P) (old new : Standing P) (v : ℕ) (o : Posted)
      → new ≡ record old { status = moved old.status Is_committed; work = Idle; width = v }
      → TakesUp w call old new o (Ends (Ok Checked)) (Ends (Ok (answer.Committed None None)))
  takes_checked w call old new v o e = record {
    still = λ h k. rests w old new call (moved old.status Is_committed) v o h e (stays_started old.status Is_committed k.0.under_way.started refl) (turned_committed old.status) (λ a. k.0.undone (rolled_committed old.status a)) k.0;
    done = λ h k. inl (call.parts, k.0.under_way.whole, (k.1.0, subst (λ (x : Timestamp). IsAllPrewritten (version_of x) call.parts h) k.0.under_way.own k.1.1));
  }

  -- all was rolled back
  pub takes_rolled : (w : Ways P) (call : CommitterCall P) (old new : Standing P) (v : ℕ) (o : Posted)
      → new ≡ record old { status = moved old.status Rolledback; work = Idle; width = v }
      → TakesUp w call old new o (Ends (Ok RolledBack)) (Ends (Ok answer.Unit))
  takes_rolled w call old new v o e = record {
    still = λ h k. rests w old new call (moved old.status Rolledback) v o h e (stays_started old.status Rolledback k.0.under_way.started refl) (turned_rolled old.status)
        (λ a parts is. subst (λ (p : CommitParts). AreUndone (version_of old.start) p h) (some_same k.0.under_way.whole is) (inr (all_rolled h k))) k.0;
    done = λ h k. inl (call.parts, k.0.under_way.whole, inr (all_rolled h k));
  }
    where
      all_rolled : (h : List Event) → KnowsCall w call old o (Ends (Ok RolledBack)) h → AreRolledBack (version_of old.start) (call.parts.primary ∷ []) h × AreRolledBack (version_of old.start) call.parts.secondaries h
      all_rolled h k = subst (λ (x : Timestamp). AreRolledBack (version_of x) (call.parts.primary ∷ []) h × AreRolledBack (version_of x) call.parts.secondaries h) k.0.under_way.own k.1

  named_fails : (w : Ways P) (options : RetryOptions) (s r : ℕ) (parts : CommitParts) (lost : Option Ticket) (h : List Event) (inner e : Error)
      → IsNamed lost inner e → CommitterGives w options s parts h (Err inner) → FailsWith w options r parts lost h e
  named_fails w options s r parts None h inner e n g = rw n g
  named_fails w options s r parts (Some t) h inner e n g = (inner, n, g)

  -- it has failed
  pub takes_failed : (w : Ways P) (call : CommitterCall P) (old new : Standing P) (inner e : Error) (v : ℕ) (o : Posted)
      → new ≡ record old { work = Idle; width = v }
      → IsNamed (undetermined old.commits) inner e
      → TakesUp w call old new o (Ends (Err inner)) (Ends (Err e))
  takes_failed w call old new inner e v o f n = record {
    still = λ h k. rests w old new call old.status v o h f k.0.under_way.started (λ a. a) k.0.undone k.0;
    done = λ h k. inl (call.parts, k.0.under_way.whole, rw f (named_fails w old.options.retry_options (version_of call.start) (version_of old.start) call.parts (undetermined old.commits) h inner e n (subst (λ (x : RetryOptions). CommitterGives w x (version_of call.start) call.parts h (Err inner)) k.0.under_way.retries k.1)));
  }

  -- it gave up
  pub takes_stopped : (w : Ways P) (call : CommitterCall P) (old new : Standing P) (o : Posted) (inner : Turn (Result CommitterAnswer Error)) (turn : Turn (Result (TxnAnswer P) Error))
      → turn ≡ Stopped → TakesUp w call old new o inner turn
  takes_stopped w call old new o inner turn e = rw e (record { still = tt; done = tt })

  -- What the open call does, the transaction does.
  pub lifts : (w : Ways P) (call call' : CommitterCall P) (old mid : Standing P) (d : Commits) (was known : List Event → Type 0) (hear : List Event → List Event)
      (from to : Posted) (inner : Turn (Result CommitterAnswer Error))
      → ((h : List Event) → Hears h (hear h))
      → IsSameCall call call' → mid ≡ record old { commits = d }
      → ((h : List Event) → was h → CallFits w old call from h × known h)
      → (has_turned_back old.status ≡ true → may_commit call.stage ≡ false → (d ≡ old.commits) × (may_commit call'.stage ≡ false))
      → CommitterMoves w known hear call call' old.commits d from to inner
      → Moves (MaySendFor old.contents (version_of old.start)) was (CallFits w mid call' to) (CommitterGives w call'.retry_options (version_of call'.start) call'.parts) hear from to inner
  lifts w call call' old mid d was known hear from to inner hears e f k b m = rw f (Moves-map
      {may = MaySend (plan_of call.parts) (version_of call.start)}
      {may' = MaySendFor old.contents (version_of old.start)}
      {was = was}
      {was' = was}
      {is = λ h. CommitterFits w call' d to h × NamesReady (plan_of call.parts) (version_of call.start) h}
      {is' = CallFits w (record old { commits = d }) call' to}
      {gives = CommitterGives w call.retry_options (version_of call.start) call.parts}
      {gives' = CommitterGives w call'.retry_options (version_of call'.start) call'.parts}
      (λ h. within_heard h (hear h) (hears h))
      (λ h u. u)
      (λ h u l r x. (call.parts, (k h u).0.under_way.whole, subst (λ (s : Timestamp). MaySend (plan_of call.parts) (version_of s) l r) (k h u).0.under_way.own x))
      (λ h u l i x. record {
        given = given_longer (version_of old.start) h l i (k h u).0.given;
        settled = λ a. ap undetermined (b a ((k h u).0.under_way.back a)).0 ∙ (k h u).0.settled a;
        undone = λ a. undone_longer (version_of old.start) old.contents h l i ((k h u).0.undone a);
        under_way = record {
          own = e.start ∙ (k h u).0.under_way.own;
          retries = e.retries ∙ (k h u).0.under_way.retries;
          started = (k h u).0.under_way.started;
          back = λ a. (b a ((k h u).0.under_way.back a)).1;
          whole = (k h u).0.under_way.whole ∙ ap Some (sym e.parts);
          ready = rw (e.start, e.parts) x.1;
          fits = x.0;
        };
      })
      (λ h u l v x. rw (e.start, e.parts, e.retries) x)
      (names_on hears (λ h u. (k h u).0.under_way.ready) (Moves-before (λ h u. ((k h u).0.under_way.fits, (k h u).1)) m)))

  -- and it goes on after it
  pub goes_on : (w : Ways P) (call call' : CommitterCall P) (old mid new : Standing P) (d : Commits) (was known : List Event → Type 0) (hear : List Event → List Event)
      (from to : Posted) (inner : Turn (Result CommitterAnswer Error)) (turn : Turn (Result (TxnAnswer P) Error))
      → ((h : List Event) → Hears h (hear h))
      → IsSameCall call call' → mid ≡ record old { commits = d }
      → ((h : List Event) → was h → CallFits w old call from h × known h)
      → (has_turned_back old.status ≡ true → may_commit call.stage ≡ false → (d ≡ old.commits) × (may_commit call'.stage ≡ false))
      → CommitterMoves w known hear call call' old.commits d from to inner
      → TakesUp w call' mid new to inner turn
      → Moves (MaySendFor old.contents (version_of old.start)) was (TransactionFits w new to) (TransactionGives w old.options.retry_options old.start old.contents new.commits) hear from to turn
  goes_on w call call' old mid new d was known hear from to inner turn hears e f k b m t =
      let lifted = lifts w call call' old mid d was known hear from to inner hears e f k b m in
      Moves-after lifted t.still (subst (λ (x : Standing P). IfEnds turn (λ v. (h : List Event) → KnowsCall w call' mid to inner h → TransactionGives w x.options.retry_options x.start x.contents new.commits h v)) f t.done)

  -- A commit or a rollback begins.

  pub begin_fits : (w : Ways P) (old : Standing P) (call : CommitterCall P) (parts : CommitParts) (o : Posted) (h : List Event)
      → HasVersion old.start → parts_of old.contents ≡ Some parts → IsNewCall old.options.retry_options old.start parts call → MayBegin old parts h → CallFits w old call o h
  begin_fits w old call parts o h v e n m = record {
    given = m.given;
    settled = m.settled;
    undone = λ a. absurd (m.unrolled a);
    under_way = record {
      own = n.own;
      retries = n.retries;
      started = m.started;
      back = λ a. ap may_commit n.stage;
      whole = rw n.whole e;
      ready = rw (n.own, n.whole) m.knows.ready;
      fits = record {
        start = rw n.own v;
        formed = rw n.whole m.knows.formed;
        knows = rw (n.own, n.whole) m.knows.knows;
        at = rw n.stage tt;
      };
    };
  }

  -- no key is locked, so there is nothing to roll back
  pub rolls_nothing : (w : Ways P) (old new : Standing P) (parts : CommitParts) (known : List Event → Type 0) (o : Posted) (turn : Turn (Result (TxnAnswer P) Error))
      → turn ≡ Ends (Ok answer.Unit) → new ≡ record old { status = moved old.status Rolledback; work = Idle }
      → parts_of old.contents ≡ Some parts → parts.locks ≡ false
      → BeginMoves w (λ h. MayBegin old parts h × known h) old new o o turn
  rolls_nothing w old new parts known o turn t e f l = rw (t, e) (Moves-quiet refl
      (λ h u. record {
        given = u.0.given;
        unsent = λ a. absurd (let g = sym (stays_started old.status Rolledback u.0.started refl) ∙ a in cc);
        settled = λ a. u.0.settled (turned_rolled old.status a);
        undone = λ a more g. subst (λ (x : CommitParts). AreUndone (version_of old.start) x h) (some_same f g) (inl l);
        at = record {
          of_parts = λ more g. subst (λ (x : CommitParts). KnowsParts (version_of old.start) old.commits h x) (some_same f g) u.0.knows;
          empty = λ g. absurd (let x = sym g ∙ f in cc);
        };
      })
      (λ h u. inl (parts, f, inl l)))

  -- a rollback of what the buffer holds
  pub goes_back : (w : Ways P) (old mid new : Standing P) (parts : CommitParts) (from to : Posted) (turn : Turn (Result (TxnAnswer P) Error))
      → mid ≡ record old { status = StartedRollback; work = GaveUp } → parts_of mid.contents ≡ Some parts
      → BeginMoves w (λ h. MayBegin mid parts h × (undetermined mid.commits ≡ None)) mid new from to turn
      → BeginMoves w (MayGoBack old) old new from to turn
  goes_back w old mid new parts from to turn e f m =
      let f' = subst (λ (x : Standing P). parts_of x.contents ≡ Some parts) e f in
      let m' = subst (λ (x : Standing P). BeginMoves w (λ h. MayBegin x parts h × (undetermined x.commits ≡ None)) x new from to turn) e m in
      Moves-before (λ h u. (record { given = u.given; started = refl; settled = λ a. u.settled; unrolled = λ a. cc; knows = u.knows.of_parts parts f' }, u.settled)) m'

  pub back_nothing : (w : Ways P) (old mid new : Standing P) (o : Posted) (turn : Turn (Result (TxnAnswer P) Error))
      → mid ≡ record old { status = StartedRollback; work = GaveUp } → new ≡ record mid { status = moved mid.status Rolledback; work = Idle }
      → parts_of mid.contents ≡ None → turn ≡ Ends (Ok answer.Unit)
      → BeginMoves w (MayGoBack old) old new o o turn
  back_nothing w old mid new o turn e n f t =
      let f' = subst (λ (x : Standing P). parts_of x.contents ≡ None) e f in
      rw (t, n, e) (Moves-quiet refl
      (λ h u. record {
        given = u.given;
        unsent = λ a. absurd (cc);
        settled = λ a. u.settled;
        undone = λ a parts g. absurd (let x = sym f' ∙ g in cc);
        at = u.knows;
      })
      (λ h u. inr (f', inr refl)))

  -- A commit of what the buffer holds.

  at_rest : (w : Ways P) (t : Standing P) (o : Posted) (h : List Event) → t.work ≡ Idle → TransactionFits w t o h
      → KnowsContents (version_of t.start) t.commits h t.contents
  at_rest w t o h e f = subst (λ (x : Work P). IsAtWork w t.options.retry_options t.start t.status t.contents t.commits x o h) e f.at

  pub commits_on : (w : Ways P) (old mid new : Standing P) (parts : CommitParts) (from to : Posted) (turn : Turn (Result (TxnAnswer P) Error))
      → old.work ≡ Idle → mid ≡ record old { status = StartedCommit; work = GaveUp } → parts_of mid.contents ≡ Some parts
      → BeginMoves w (MayBegin mid parts) mid new from to turn
      → TransactionMoves w (λ h. ⊤) (λ h. h) old new from to turn
  commits_on w old mid new parts from to turn i e f m =
      let f' = subst (λ (x : Standing P). parts_of x.contents ≡ Some parts) e f in
      let m' = subst (λ (x : Standing P). BeginMoves w (MayBegin x parts) x new from to turn) e m in
      Moves-before (λ h u. record { given = u.0.given; started = refl; settled = λ a. absurd (cc); unrolled = λ a. cc; knows = (at_rest w old from h i u.0).of_parts parts f' }) m'

  pub commits_nothing : (w : Ways P) (old mid new : Standing P) (o : Posted) (turn : Turn (Result (TxnAnswer P) Error))
      → old.work ≡ Idle → mid ≡ record old { status = StartedCommit; work = GaveUp } → new ≡ record mid { work = Idle }
      → parts_of mid.contents ≡ None → turn ≡ Ends (Ok (answer.Committed None None))
      → TransactionMoves w (λ h. ⊤) (λ h. h) old new o o turn
  commits_nothing w old mid new o turn i e n f t =
      let f' = subst (λ (x : Standing P). parts_of x.contents ≡ None) e f in
      rw (t, n, e) (Moves-quiet refl
      (λ h u. record {
        given = u.0.given;
        unsent = λ a. absurd (cc);
        settled = λ a. absurd (cc);
        undone = λ a. absurd (cc);
        at = at_rest w old o h i u.0;
      })
      (λ h u. inr (f', inl refl)))

  -- a rollback may begin
  pub rolls_on : (w : Ways P) (old new : Standing P) (from to : Posted) (turn : Turn (Result (TxnAnswer P) Error))
      → old.work ≡ Idle → undetermined old.commits ≡ None
      → BeginMoves w (MayGoBack old) old new from to turn
      → TransactionMoves w (λ h. ⊤) (λ h. h) old new from to turn
  rolls_on w old new from to turn i n m = Moves-before (λ h u. record { given = u.0.given; settled = n; knows = at_rest w old from h i u.0 }) m

  -- The transaction is told of something.

  pub tells_open : (w : Ways P) (known : List Event → Type 0) (hear : List Event → List Event) (call : CommitterCall P) (old mid new : Standing P) (from to : Posted) (turn : Turn (Result (TxnAnswer P) Error))
      → old.work ≡ Open call → mid ≡ record old { work = GaveUp }
      → CallMoves w known hear call mid new from to turn
      → TransactionMoves w known hear old new from to turn
  tells_open w known hear call old mid new from to turn i e m =
      let m' = subst (λ (x : Standing P). CallMoves w known hear call x new from to turn) e m in
      Moves-before (λ h u. (record { given = u.0.given; settled = u.0.settled; undone = u.0.undone; under_way = subst (λ (x : Work P). IsAtWork w old.options.retry_options old.start old.status old.contents old.commits x from h) i u.0.at }, u.1)) m'

  -- what it knows of the Commits of its primary changes as its open call says
  pub followed_open : (w : Ways P) (a : Arrival) (call : CommitterCall P) (old mid new : Standing P) (o : Posted) (turn : Turn (Result (TxnAnswer P) Error)) (h : List Event)
      → old.work ≡ Open call → mid ≡ record old { work = GaveUp }
      → (CallFits w mid call o h → IfKept turn (IsFollowed o (heard a o mid.commits) new.commits))
      → TransactionFits w old o h → IfKept turn (IsFollowed o (heard a o old.commits) new.commits)
  followed_open w a call old mid new o turn h i e k f =
      let k' = subst (λ (x : Standing P). CallFits w x call o h → IfKept turn (IsFollowed o (heard a o x.commits) new.commits)) e k in
      k' (record { given = f.given; settled = f.settled; undone = f.undone; under_way = subst (λ (x : Work P). IsAtWork w old.options.retry_options old.start old.status old.contents old.commits x o h) i f.at })

  fits_on : (w : Ways P) (t : Standing P) (o : Posted) (h : List Event) (e : Event) → IsNoSending e → t.work ≡ Idle → TransactionFits w t o h → TransactionFits w t o (e ∷ h)
  fits_on w t o h e n i f = record {
    given = given_longer (version_of t.start) h (e ∷ h) (λ x y. inr y) f.given;
    unsent = λ a. record { none = (f.unsent a).none; never = λ t r y q. elim y [ inl x ↦ n t (Commit r) x | inr x ↦ (f.unsent a).never t r x q ] };
    settled = f.settled;
    undone = λ a. undone_longer (version_of t.start) t.contents h (e ∷ h) (λ x y. inr y) (f.undone a);
    at = rw i (let k = at_rest w t o h i f in record {
      of_parts = λ parts g. parts_more (version_of t.start) t.commits parts e h n (k.of_parts parts g);
      empty = k.empty;
    });
  }

  fits_told : (w : Ways P) (t : Standing P) (o : Posted) (h : List Event) (a : Arrival) (r : Request) → t.work ≡ Idle → TransactionFits w t o h → TransactionFits w t o ((told_by a o r).hear h)
  fits_told w t o h (arrival.Reply n x) r i f = fits_on w t o h _ (λ u q e. cc) i f
  fits_told w t o h (arrival.Lost n) r i f = fits_on w t o h _ (λ u q e. cc) i f
  fits_told w t o h (arrival.Slept n) r i f = fits_on w t o h _ (λ u q e. cc) i f
  fits_told w t o h (arrival.Time n x) r i f = fits_on w t o h _ (λ u q e. cc) i f

  -- no call is open, so it is deaf
  pub tells_idle : (w : Ways P) (a : Arrival) (r : Request) (old mid new : Standing P) (o : Posted) (turn : Turn (Result (TxnAnswer P) Error))
      → old.work ≡ Idle → mid ≡ record old { work = GaveUp } → new ≡ record mid { work = Idle } → turn ≡ Waits
      → TransactionMoves w (told_by a o r).known (told_by a o r).hear old new o o turn
  tells_idle w a r old mid new o turn i e n t = rw (t, as_before old mid new i e n) (Moves-quiet refl (λ h u. fits_told w old o h a r i u.0) tt)

-- where its call did not give up, what that one says is so
pub followed_on : {V : Type 0} (turn : Turn V) (o : Posted) (c d e : Commits) → turn ≢ Stopped → e ≡ d → IfKept turn (IsFollowed o c d) → IsFollowed o c e
followed_on turn o c d e n f k = rw f (IfKept-out turn n k)

pub idle_work : {P : Type 0} (w : Work P) → is_open w ≡ false → has_given_up w ≡ false → w ≡ Idle
idle_work Idle o g = refl
idle_work (Open call) o g = absurd (cc)
idle_work GaveUp o g = absurd (cc)

pub may_again : (plan : Plan) (s : ℕ) (t : Timestamp) (c : Commits) (h : List Event) → c.timestamp ≡ Some t → MayStart plan s c h → MayCommit plan s t c h
may_again plan s t c h e m = record { ready = m.ready (version_of t) (m.knows.since t e); same = λ u f. ap version_of (some_same f e) }
