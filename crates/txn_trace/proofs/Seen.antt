-- What a report shows of a run.
use Rattle.std.proofs.Common.{◌≡◌, ℕ, inl, inr, ◌||◌, List, [], ◌∷◌, Some, refl, sym, ap, subst}
use Rattle.std.specs.Prelude.{if◌then◌else◌, is_some}
use Rattle.txn_kv.specs.declared.message.LockInfo.{LockInfo}
use Rattle.txn_kv.specs.declared.reply.Reply.{Reply}
use Rattle.txn_kv.specs.declared.request.commits.CommitRequest.{CommitRequest}
use Rattle.txn_kv.specs.declared.request.Request.{Request}
use Rattle.txn_kv.specs.declared.request.Request.TheVariants.{Get, BatchGet, Scan, Prewrite, Commit, Cleanup, BatchRollback, PessimisticRollback, PessimisticLock, ResolveLock, ScanLock, TxnHeartBeat, CheckTxnStatus, CheckSecondaryLocks, UnsafeDestroyRange, GetRegion, GetRegionById, GetStore, GetAllStores, UpdateGcSafePoint, Tso, Members}
use Rattle.txn_kv.specs.declared.ticket.Ticket.{Ticket}
use Rattle.txn_history.specs.Event.{Event, Has, is_awaited, is_lost, is_out, is_refused, is_served, kept_reply, same_ticket, sent_request, taken_reply}
use Rattle.txn_history.specs.Event.Event.{Sent, Served, Took, Refused, Lost, Began, Asked, Answered, Split, Led, Clocked}
use Rattle.txn_history.specs.Decided.{BoundWasShown, LockWasShown, WasChecked, WasDecided, WasMissed, WasShown, WasTold}
use Rattle.txn_history.specs.Licence.{AllAcknowledged, AskedAfter, IsAcknowledged, IsBounded, IsLicensed, IsPassed, IsStuck, KeyCommitLicence, PrimaryCommitLicence, PrimaryCommitted, PrimaryRolledBack, WasAskedFor, WasGiven, WasNamed, WasOnePhase, WasSettled}
use Rattle.txn_history.specs.Plan.{Key, Plan}
use Rattle.txn_model.specs.Regions.{at_clock, lead, split}
use Rattle.txn_model.specs.Table.{table}
use Rattle.txn_law.specs.Run.{IsRoomy, IsRun, IsUnserved, store_after}
use Rattle.txn_law.specs.Whole.{KeyCommitted}
use Rattle.txn_trace.specs.Seeing.{IsVisible, seen}

-- Its events

pub seen_had : (h : List Event) (e : Event) → Has (seen h) e → Has h e × IsVisible e
seen_had [] e g = absurd g
seen_had (Began t ms ∷ es) e g = let w = seen_had es e g in (inr w.0, w.1)
seen_had (Asked a ∷ es) e g = let w = seen_had es e g in (inr w.0, w.1)
seen_had (Answered a answer ∷ es) e g = let w = seen_had es e g in (inr w.0, w.1)
seen_had (x ∷ es) e (inl p) = (inl p, subst IsVisible p tt)
seen_had (x ∷ es) e (inr g) = let w = seen_had es e g in (inr w.0, w.1)

pub had_seen : (h : List Event) (e : Event) → IsVisible e → Has h e → Has (seen h) e
had_seen [] e v g = absurd g
had_seen (Began t ms ∷ es) e v (inl p) = absurd (subst IsVisible (sym p) v)
had_seen (Began t ms ∷ es) e v (inr g) = had_seen es e v g
had_seen (Asked a ∷ es) e v (inl p) = absurd (subst IsVisible (sym p) v)
had_seen (Asked a ∷ es) e v (inr g) = had_seen es e v g
had_seen (Answered a answer ∷ es) e v (inl p) = absurd (subst IsVisible (sym p) v)
had_seen (Answered a answer ∷ es) e v (inr g) = had_seen es e v g
had_seen (x ∷ es) e v (inl p) = inl p
had_seen (x ∷ es) e v (inr g) = inr (had_seen es e v g)

pub seen_store : (h : List Event) → store_after (seen h) ≡ store_after h
seen_store [] = refl
seen_store (Served t r o ∷ es) = ap (λ st. (table st r).store) (seen_store es)
seen_store (Split k ∷ es) = ap (λ st. split st k) (seen_store es)
seen_store (Led region store ∷ es) = ap (λ st. lead st region store) (seen_store es)
seen_store (Clocked ms ∷ es) = ap (λ st. at_clock st ms) (seen_store es)
seen_store (_ ∷ es) = seen_store es

-- What became of its requests

pub seen_sent : (h : List Event) (t : Ticket) → sent_request (seen h) t ≡ sent_request h t
seen_sent [] t = refl
seen_sent (Sent u r ∷ es) t = ap (λ x. if same_ticket u t then Some r else x) (seen_sent es t)
seen_sent (_ ∷ es) t = seen_sent es t

pub seen_kept : (h : List Event) (t : Ticket) → kept_reply (seen h) t ≡ kept_reply h t
seen_kept [] t = refl
seen_kept (Served u r o ∷ es) t = ap (λ x. if same_ticket u t then Some o else x) (seen_kept es t)
seen_kept (_ ∷ es) t = seen_kept es t

pub seen_taken : (h : List Event) (t : Ticket) → taken_reply (seen h) t ≡ taken_reply h t
seen_taken [] t = refl
seen_taken (Took u r o ∷ es) t = ap (λ x. if same_ticket u t then Some o else x) (seen_taken es t)
seen_taken (_ ∷ es) t = seen_taken es t

pub seen_refused : (h : List Event) (t : Ticket) → is_refused (seen h) t ≡ is_refused h t
seen_refused [] t = refl
seen_refused (Refused u r o ∷ es) t = ap (λ x. same_ticket u t || x) (seen_refused es t)
seen_refused (_ ∷ es) t = seen_refused es t

pub seen_lost : (h : List Event) (t : Ticket) → is_lost (seen h) t ≡ is_lost h t
seen_lost [] t = refl
seen_lost (Lost u r ∷ es) t = ap (λ x. same_ticket u t || x) (seen_lost es t)
seen_lost (_ ∷ es) t = seen_lost es t

pub seen_served : (h : List Event) (t : Ticket) → is_served (seen h) t ≡ is_served h t
seen_served h t = ap is_some (seen_kept h t)

pub seen_out : (h : List Event) (t : Ticket) → is_out (seen h) t ≡ is_out h t
seen_out h t = rw (seen_sent h t, seen_taken h t) refl

pub seen_awaited : (h : List Event) (t : Ticket) → is_awaited (seen h) t ≡ is_awaited h t
seen_awaited h t = rw (seen_sent h t, seen_taken h t, seen_lost h t) refl

-- Two histories in which the same requests were sent, the same replies taken, and timestamps asked for after the same.

pub record TellsAll (h k : List Event) : Type 0 where
  pub sent : (t : Ticket) (r : Request) → Has h (Sent t r) → Has k (Sent t r)
  pub back : (t : Ticket) (r : Request) → Has k (Sent t r) → Has h (Sent t r)
  pub took : (t : Ticket) (r : Request) (o : Reply) → Has h (Took t r o) → Has k (Took t r o)
  pub asked : (plan : Plan) (s : ℕ) (t : Ticket) → AskedAfter plan h s t → AskedAfter plan k s t

abbrev pub TellsTaken : List Event → List Event → Type 0
TellsTaken h k = (t : Ticket) (r : Request) (o : Reply) → Has h (Took t r o) → Has k (Took t r o)

pub given_so : (h k : List Event) (c : ℕ) → TellsTaken h k → WasGiven h c → WasGiven k c
given_so h k c took w = (w.0, w.1, w.2, w.3, took _ _ _ w.4, w.5, w.6)

acknowledged_at : (h k : List Event) (s : ℕ) (key : Key) → TellsTaken h k → IsAcknowledged h s key → IsAcknowledged k s key
acknowledged_at h k s key took g = record {
  ticket = g.ticket;
  request = g.request;
  response = g.response;
  taken = took _ _ _ g.taken;
  fine = g.fine;
  start = g.start;
  locks = g.locks;
  locking = g.locking;
}

passed_so : (h k : List Event) (s : ℕ) (key : Key) → TellsTaken h k → IsPassed h s key → IsPassed k s key
passed_so h k s key took g = record {
  ticket = g.ticket;
  request = g.request;
  response = g.response;
  taken = took _ _ _ g.taken;
  fine = g.fine;
  start = g.start;
  mutation = g.mutation;
  names = g.names;
  key = g.key;
}

pub acknowledged_so : (plan : Plan) (h k : List Event) (s : ℕ) → TellsTaken h k → AllAcknowledged plan h s → AllAcknowledged plan k s
acknowledged_so plan h k s took a = record {
  locked = λ key x e. acknowledged_at h k s key took (a.locked key x e);
  checked = λ key e. passed_so h k s key took (a.checked key e);
}

bounded_so : (h k : List Event) (s : ℕ) (key : Key) (b : ℕ) → TellsTaken h k → IsBounded h s key b → IsBounded k s key b
bounded_so h k s key b took g = record {
  ticket = g.ticket;
  request = g.request;
  response = g.response;
  taken = took _ _ _ g.taken;
  fine = g.fine;
  start = g.start;
  locks = g.locks;
  locking = g.locking;
  bound = g.bound;
}

pub settled_so : (plan : Plan) (h k : List Event) (s c : ℕ) → TellsTaken h k → WasSettled plan h s c → WasSettled plan k s c
settled_so plan h k s c took w = record {
  each = λ key x e. let g = w.each key x e in (g.0, bounded_so h k s key g.0 took g.1, g.2, g.3);
  greatest = (w.greatest.0, bounded_so h k s w.greatest.0 c took w.greatest.1);
}

pub one_phase_so : (h k : List Event) (s c : ℕ) → TellsTaken h k → WasOnePhase h s c → WasOnePhase k s c
one_phase_so h k s c took w = (w.0, w.1, w.2, took _ _ _ w.3, w.4, w.5, w.6, w.7)

pub committed_so : (plan : Plan) (h k : List Event) (s c : ℕ) → TellsTaken h k → PrimaryCommitted plan h s c → PrimaryCommitted plan k s c
committed_so plan h k s c took w = (w.0, w.1, w.2, took _ _ _ w.3, w.4, w.5, w.6, w.7)

pub key_committed_so : (h k : List Event) (s : ℕ) (key : Key) → TellsTaken h k → KeyCommitted h s key → KeyCommitted k s key
key_committed_so h k s key took (inl w) = inl (w.0, w.1, w.2, took _ _ _ w.3, w.4, w.5, w.6)
key_committed_so h k s key took (inr w) = inr (w.0, w.1, w.2, took _ _ _ w.3, w.4, w.5, w.6, w.7)

pub rolled_back_so : (plan : Plan) (h k : List Event) (s : ℕ) → TellsTaken h k → PrimaryRolledBack plan h s → PrimaryRolledBack plan k s
rolled_back_so plan h k s took w = (w.0, w.1, w.2, took _ _ _ w.3, w.4, w.5, w.6)

shown_so : (h k : List Event) (s : ℕ) (p : Key) → TellsTaken h k → WasShown h s p → WasShown k s p
shown_so h k s p took w = record {
  ticket = w.ticket;
  request = w.request;
  answer = w.answer;
  lock = w.lock;
  taken = took _ _ _ w.taken;
  shows = w.shows;
  prewrite = w.prewrite;
  start = w.start;
  primary = w.primary;
}

lock_shown_so : (h k : List Event) (s : ℕ) (l : LockInfo) → TellsTaken h k → LockWasShown h s l → LockWasShown k s l
lock_shown_so h k s l took w = record {
  ticket = w.ticket;
  request = w.request;
  answer = w.answer;
  taken = took _ _ _ w.taken;
  shows = w.shows;
  prewrite = w.prewrite;
  start = w.start;
}

bound_shown_so : (h k : List Event) (s : ℕ) (key : Key) (m : ℕ) → TellsTaken h k → BoundWasShown h s key m → BoundWasShown k s key m
bound_shown_so h k s key m took w = (w.0, lock_shown_so h k s w.0 took w.1, w.2, w.3, w.4)

told_so : (h k : List Event) (s c : ℕ) → TellsTaken h k → WasTold h s c → WasTold k s c
told_so h k s c took w = record {
  primary = w.primary;
  shown = shown_so h k s w.primary took w.shown;
  ticket = w.ticket;
  request = w.request;
  answer = w.answer;
  taken = took _ _ _ w.taken;
  decides = w.decides;
}

checked_so : (h k : List Event) (s c : ℕ) → TellsTaken h k → WasChecked h s c → WasChecked k s c
checked_so h k s c took w = record {
  lock = w.lock;
  shown = (lock_shown_so h k s w.lock took w.shown.0, w.shown.1, w.shown.2);
  own = w.own;
  each = λ key among. let g = w.each key among in (g.0, bound_shown_so h k s key g.0 took g.1, g.2);
  greatest = elim w.greatest [ inl e ↦ inl e | inr g ↦ inr (g.0, g.1, bound_shown_so h k s g.0 c took g.2) ];
}

missed_so : (h k : List Event) (s : ℕ) → TellsTaken h k → WasMissed h s → WasMissed k s
missed_so h k s took w = record {
  lock = w.lock;
  shown = (lock_shown_so h k s w.lock took w.shown.0, w.shown.1, w.shown.2);
  ticket = w.ticket;
  request = w.request;
  response = w.response;
  taken = took _ _ _ w.taken;
  start = w.start;
  secondaries = w.secondaries;
  missing = w.missing;
}

pub decided_so : (h k : List Event) (s c : ℕ) → TellsTaken h k → WasDecided h s c → WasDecided k s c
decided_so h k s c took (inl w) = inl (told_so h k s c took w)
decided_so h k s c took (inr (inl w)) = inr (inl (w.0, checked_so h k s c took w.1))
decided_so h k s c took (inr (inr (inl w))) = inr (inr (inl (w.0, w.1, w.2, took _ _ _ w.3, w.4, w.5, w.6)))
decided_so h k s c took (inr (inr (inr w))) = inr (inr (inr (w.0, missed_so h k s took w.1)))

pub named_so : (plan : Plan) (h k : List Event) (s c : ℕ) → ((t : Ticket) (r : Request) → Has h (Sent t r) → Has k (Sent t r)) → WasNamed plan h s c → WasNamed plan k s c
named_so plan h k s c sent w = (w.0, w.1, sent _ _ w.2, w.3, w.4, w.5)

pub asked_for_so : (plan : Plan) (h k : List Event) (s c : ℕ) → TellsAll h k → WasAskedFor plan h s c → WasAskedFor plan k s c
asked_for_so plan h k s c i w = (w.0, w.1, w.2, i.asked plan s w.0 w.3, i.took _ _ _ w.4, w.5)

primary_so : (plan : Plan) (h k : List Event) (s c : ℕ) → TellsAll h k → PrimaryCommitLicence plan h s c → PrimaryCommitLicence plan k s c
primary_so plan h k s c i l = record {
  ready = acknowledged_so plan h k s i.took l.ready;
  asked = asked_for_so plan h k s c i l.asked;
  same = λ d w. l.same d (named_so plan k h s d i.back w);
}

key_so : (plan : Plan) (h k : List Event) (r : CommitRequest) (key : Key) → TellsAll h k → KeyCommitLicence plan h r key → KeyCommitLicence plan k r key
key_so plan h k r key i (inl w) = inl (w.0, primary_so plan h k r.start_version r.commit_version i w.1)
key_so plan h k r key i (inr w) = inr (w.0, committed_so plan h k r.start_version r.commit_version i.took w.1)

stuck_so : (plan : Plan) (h k : List Event) (s : ℕ) → TellsAll h k → IsStuck plan h s → IsStuck plan k s
stuck_so plan h k s i w = record {
  key = w.key;
  content = w.content;
  written = w.written;
  failed = λ t r g e locks. let f = w.failed t r (i.back _ _ g) e locks in (f.0, i.took _ _ _ f.1, f.2);
}

pub licensed_so : (plans : ℕ → Plan) (h k : List Event) (r : Request) → TellsAll h k → IsLicensed plans h r → IsLicensed plans k r
licensed_so plans h k (Get r) i l = given_so h k r.version i.took l
licensed_so plans h k (BatchGet r) i l = given_so h k r.version i.took l
licensed_so plans h k (Scan r) i l = given_so h k r.version i.took l
licensed_so plans h k (Prewrite r) i l = record {
  primary = l.primary;
  planned = l.planned;
  once = l.once;
  way = l.way;
  named = l.named;
  at_once = l.at_once;
  given = (given_so h k r.start_version i.took l.given.0, given_so h k r.for_update_ts i.took l.given.1);
  above = λ flagged t q g e. l.above flagged t q (i.back _ _ g) e;
  unrolled = λ spread t q g e. l.unrolled spread t q (i.back _ _ g) e;
}
licensed_so plans h k (Commit r) i l = elim l [
  | inl w ↦ inl (elim w.0 [ inl e ↦ inl e | inr b ↦ inr (b.0, bounded_so h k r.start_version b.0 0 i.took b.1) ], λ key g. key_so (plans r.start_version) h k r key i (w.1 key g))
  | inr w ↦ inr (w.0, settled_so (plans r.start_version) h k r.start_version r.commit_version i.took w.1)
]
licensed_so plans h k (BatchRollback r) i l = record {
  answered = λ t q g e f. let w = l.answered t q (i.back _ _ g) e f in (w.0, i.took _ _ _ w.1);
  undone = elim l.undone [
    | inl u ↦ inl (u.0, λ key g. elim (u.1 key g) [ inl w ↦ inl w | inr w ↦ inr (rolled_back_so (plans r.start_version) h k r.start_version i.took w) ])
    | inr u ↦ inr (u.0, stuck_so (plans r.start_version) h k r.start_version i u.1)
  ];
}
licensed_so plans h k (PessimisticRollback r) i l = λ key g. elim (l key g) [
  | inl w ↦ inl (w.0, w.1, w.2, w.3, i.took _ _ _ w.4, w.5, w.6, w.7)
  | inr w ↦ inr (w.0, w.1, i.sent _ _ w.2, w.3, w.4)
]
licensed_so plans h k (PessimisticLock r) i l = record {
  given = given_so h k r.for_update_ts i.took l.given;
  unwritten = λ t q g e. l.unwritten t q (i.back _ _ g) e;
}
licensed_so plans h k (ResolveLock r) i l = λ info g. decided_so h k info.txn info.status i.took (l info g)
licensed_so plans h k (Cleanup r) i l = tt
licensed_so plans h k (ScanLock r) i l = tt
licensed_so plans h k (TxnHeartBeat r) i l = tt
licensed_so plans h k (CheckTxnStatus r) i l = λ forced. let w = l forced in (w.0, lock_shown_so h k r.lock_ts w.0 i.took w.1, w.2)
licensed_so plans h k (CheckSecondaryLocks r) i l = tt
licensed_so plans h k (UnsafeDestroyRange r) i l = tt
licensed_so plans h k (GetRegion r) i l = tt
licensed_so plans h k (GetRegionById r) i l = tt
licensed_so plans h k (GetStore r) i l = tt
licensed_so plans h k (GetAllStores r) i l = tt
licensed_so plans h k (UpdateGcSafePoint r) i l = tt
licensed_so plans h k (Tso r) i l = tt
licensed_so plans h k (Members r) i l = tt

-- A history and what is seen of it

pub took_seen : (h : List Event) → TellsTaken h (seen h)
took_seen h t r o g = had_seen h (Took t r o) tt g

pub seen_took : (h : List Event) → TellsTaken (seen h) h
seen_took h t r o g = (seen_had h (Took t r o) g).0

asked_seen : (plan : Plan) (h : List Event) (s : ℕ) (t : Ticket) → AskedAfter plan h s t → AskedAfter plan (seen h) s t
asked_seen plan [] s t a = absurd a
asked_seen plan (Began u ms ∷ es) s t (inl a) = absurd (let e = a.1 in cc)
asked_seen plan (Began u ms ∷ es) s t (inr a) = asked_seen plan es s t a
asked_seen plan (Asked u ∷ es) s t (inl a) = absurd (let e = a.1 in cc)
asked_seen plan (Asked u ∷ es) s t (inr a) = asked_seen plan es s t a
asked_seen plan (Answered u answer ∷ es) s t (inl a) = absurd (let e = a.1 in cc)
asked_seen plan (Answered u answer ∷ es) s t (inr a) = asked_seen plan es s t a
asked_seen plan (x ∷ es) s t (inl a) = inl (a.0, a.1, acknowledged_so plan es (seen es) s (took_seen es) a.2, given_so es (seen es) s (took_seen es) a.3)
asked_seen plan (x ∷ es) s t (inr a) = inr (asked_seen plan es s t a)

seen_asked : (plan : Plan) (h : List Event) (s : ℕ) (t : Ticket) → AskedAfter plan (seen h) s t → AskedAfter plan h s t
seen_asked plan [] s t a = absurd a
seen_asked plan (Began u ms ∷ es) s t a = inr (seen_asked plan es s t a)
seen_asked plan (Asked u ∷ es) s t a = inr (seen_asked plan es s t a)
seen_asked plan (Answered u answer ∷ es) s t a = inr (seen_asked plan es s t a)
seen_asked plan (x ∷ es) s t (inl a) = inl (a.0, a.1, acknowledged_so plan (seen es) es s (seen_took es) a.2, given_so (seen es) es s (seen_took es) a.3)
seen_asked plan (x ∷ es) s t (inr a) = inr (seen_asked plan es s t a)

pub tells_seen : (h : List Event) → TellsAll h (seen h)
tells_seen h = record {
  sent = λ t r g. had_seen h (Sent t r) tt g;
  back = λ t r g. (seen_had h (Sent t r) g).0;
  took = took_seen h;
  asked = λ plan s t a. asked_seen plan h s t a;
}

pub seen_tells : (h : List Event) → TellsAll (seen h) h
seen_tells h = record {
  sent = λ t r g. (seen_had h (Sent t r) g).0;
  back = λ t r g. had_seen h (Sent t r) tt g;
  took = seen_took h;
  asked = λ plan s t a. seen_asked plan h s t a;
}

unserved_seen : (h : List Event) (t : Ticket) → IsUnserved h t → IsUnserved (seen h) t
unserved_seen h t u r o (inl g) = u r o (inl (seen_had h (Served t r o) g).0)
unserved_seen h t u r o (inr g) = u r o (inr (seen_had h (Refused t r o) g).0)

pub seen_runs : (plans : ℕ → Plan) (h : List Event) → IsRun plans h → IsRun plans (seen h)
seen_runs plans [] run = tt
seen_runs plans (Sent t r ∷ es) run = (λ q g. run.0 q (seen_had es (Sent t q) g).0, (run.1.0, licensed_so plans es (seen es) r (tells_seen es) run.1.1), seen_runs plans es run.2)
seen_runs plans (Served t r o ∷ es) run = (
  (had_seen es (Sent t r) tt run.0.0, subst (λ st. o ≡ (table st r).reply) (sym (seen_store es)) run.0.1, unserved_seen es t run.0.2, subst IsRoomy (sym (seen_store es)) run.0.3),
  tt,
  seen_runs plans es run.2,
)
seen_runs plans (Took t r o ∷ es) run = (elim run.0 [ inl a ↦ inl (had_seen es (Served t r o) tt a) | inr a ↦ inr (had_seen es (Refused t r o) tt a) ], tt, seen_runs plans es run.2)
seen_runs plans (Refused t r o ∷ es) run = ((had_seen es (Sent t r) tt run.0.0, run.0.1, unserved_seen es t run.0.2), tt, seen_runs plans es run.2)
seen_runs plans (Lost t r ∷ es) run = (had_seen es (Sent t r) tt run.0, tt, seen_runs plans es run.2)
seen_runs plans (Began t ms ∷ es) run = seen_runs plans es run.2
seen_runs plans (Asked a ∷ es) run = seen_runs plans es run.2
seen_runs plans (Answered a answer ∷ es) run = seen_runs plans es run.2
seen_runs plans (_ ∷ es) run = (tt, tt, seen_runs plans es run.2)
