-- What holds after every run, and what follows from it.
use Rattle.std.proofs.Common.{◌≡◌, ℕ, ◌<◌, ◌≤◌, ◌⊎◌, inl, inr, true, false, List, [], ◌∷◌, Option, Some, sym, arith}
use Rattle.txn_kv.specs.declared.ticket.Ticket.{Ticket}
use Rattle.txn_kv.specs.declared.message.LockInfo.{LockInfo}
use Rattle.txn_kv.specs.declared.request.Request.{Request}
use Rattle.txn_kv.specs.declared.request.Request.TheVariants.{Get, BatchGet, Scan, Prewrite, BatchRollback, Tso, PessimisticLock}
use Rattle.txn_kv.specs.declared.request.commits.PrewriteRequest.{PrewriteRequest}
use Rattle.txn_kv.specs.declared.request.commits.BatchRollbackRequest.{BatchRollbackRequest}
use Rattle.txn_kv.specs.declared.request.locks.PessimisticLockRequest.{PessimisticLockRequest}
use Rattle.txn_kv.specs.declared.request.cluster.TsoRequest.{TsoRequest}
use Rattle.txn_kv.specs.declared.reply.Reply.{Reply}
use Rattle.txn_kv.specs.declared.reply.commits.PrewriteResponse.{PrewriteResponse}
use Rattle.txn_kv.specs.declared.reply.cluster.TsoResponse.{TsoResponse}
use Rattle.txn_history.specs.Busy.{busy_reply}
use Rattle.txn_history.specs.Event.{Event, Has}
use Rattle.txn_history.specs.Event.Event.{Sent, Served, Took, Refused}
use Rattle.txn_history.specs.Licence.{IsWithoutError, GivesTimestamp, ShowsLock, IsPrewriteOp, WasNamed, IsFlagged, IsAcknowledged, AskedAfter}
use Rattle.txn_history.specs.Plan.{Key, Content, Plan, ArePlanned, LocksKey, Way, is_spread, IsListed}
use Rattle.txn_model.specs.declared.cell.Cell.{Cell}
use Rattle.txn_model.specs.declared.cell.Lock.{Lock}
use Rattle.txn_model.specs.Cells.{cell_at, AreInOrder}
use Rattle.txn_model.specs.Locks.{owns}
use Rattle.txn_model.specs.Store.{Store}
use Rattle.txn_history.specs.Plan.Way.{TwoPhases, Spread}
use Rattle.txn_model.specs.Prewrite.{least_bound}
use Rattle.txn_model.specs.Table.{table}
use Rattle.txn_law.specs.Run.{store_after, IsCovered}
use Rattle.txn_law.proofs.Phases.{Phase, phase, Move, IsSound}
use Rattle.txn_law.proofs.Phases.Phase.{Locked, Committed}
use Rattle.txn_law.proofs.Phases.Move.{Locks, Commits, Rolls}
use Rattle.txn_law.proofs.Coherent.{IsDecidedAt, Warrant, Coherent, warrant_more}
use Rattle.txn_law.proofs.Spread.{IsSettled, IsLost, ToldBound, one_decision, settled_whole}
use Rattle.txn_law.proofs.Moves.{May}
use Rattle.txn_law.proofs.Paths.{Stays, GoesOn, LandsAll}
use Rattle.txn_law.proofs.Bounds.{bounds}
use Rattle.txn_law.proofs.Replies.{phases, DecidedIn, Means, Keeps, means_stays}
use Rattle.txn_kv.specs.declared.reply.Reply.TheVariants as reply
use Rattle.txn_law.proofs.Spread as spread

-- A Prewrite that commits all at once was served, and did.
abbrev pub LandedAt : Plan → List Event → ℕ → ℕ → Type 0
LandedAt plan [] s c = ⊥
LandedAt plan (Served t (Prewrite q) o ∷ es) s c = ((q.start_version ≡ s) × (q.try_one_pc ≡ true) × (c ≡ least_bound (store_after es) q) × LandsAll plan c (phases (store_after es) s) (phases (table (store_after es) (Prewrite q)).store s)) ⊎ LandedAt plan es s c
LandedAt plan (_ ∷ es) s c = LandedAt plan es s c

-- who names c: a Commit of the primary that was sent, or a Prewrite that committed all at once
abbrev pub NamedBy : Plan → List Event → ℕ → ℕ → Type 0
NamedBy plan es s c = (WasNamed plan es s c × (0 < c)) ⊎ LandedAt plan es s c

abbrev pub WasReplied : List Event → Ticket → Request → Reply → Type 0
WasReplied es t r o = Has es (Served t r o) ⊎ Has es (Refused t r o)

-- no Prewrite will lock the key any more
abbrev pub IsBarred : List Event → ℕ → Key → Type 0
IsBarred es s k = ((t : Ticket) × (q : BatchRollbackRequest) × Has es (Sent t (BatchRollback q)) × (q.start_version ≡ s)) × ((t : Ticket) (r : PrewriteRequest) → Has es (Sent t (Prewrite r)) → r.start_version ≡ s → LocksKey r.mutations k → (o : Reply) × WasReplied es t (Prewrite r) o × (IsWithoutError o → ⊥))

-- how the keys of a start hang together, in either way
abbrev pub HangIn : Plan → Way → (ℕ → Type 0) → (Key → Type 0) → (Key → Phase) → (Key → Option ℕ) → Type 0
HangIn plan TwoPhases Named Barred f b = Coherent plan Named f
HangIn plan (Spread ks) Named Barred f b = spread.Spread plan ks Barred f b

abbrev pub HangAt : Plan → List Event → ℕ → Type 0
HangAt plan es s = HangIn plan plan.way (NamedBy plan es s) (IsBarred es s) (phases (store_after es) s) (bounds es s)

abbrev pub SpreadWarrant : Plan → List Key → (Key → Type 0) → (Key → Phase) → (Key → Option ℕ) → Key → Phase → Move → Type 0
SpreadWarrant plan ks Barred f b k before (Locks q x) = (q ≡ plan.primary) × (plan.writes k ≡ Some x) × IsListed plan ks
SpreadWarrant plan ks Barred f b k before (Commits c) = IsSettled plan.writes b c
SpreadWarrant plan ks Barred f b k before Rolls = (p : Key) (x : Content) → before ≡ Locked p x → IsLost plan.writes Barred f b

abbrev pub WarrantIn : Plan → Way → (ℕ → Type 0) → (Key → Type 0) → (Key → Phase) → (Key → Option ℕ) → Key → Phase → Move → Type 0
WarrantIn plan TwoPhases Named Barred f b k before m = Warrant plan Named f k before m
WarrantIn plan (Spread ks) Named Barred f b k before m = SpreadWarrant plan ks Barred f b k before m

-- what is known of the cell before: its lock of the start names the primary, and is async where the start is spread
pub record CellFacts (plan : Plan) (c : Cell) (t : ℕ) : Type 0 where
  pub names : (p : Key) (x : Content) → phase c t ≡ Locked p x → p ≡ plan.primary
  pub way : (l : Lock) → c.lock ≡ Some l → owns (Some l) t ≡ true → l.use_async ≡ is_spread plan.way

abbrev pub IsWarranted : (ℕ → Plan) → List Event → Request → Type 0
IsWarranted plans es r = (k : Key) (t : ℕ) (c : Cell) (m : Move) → May r k t c m → CellFacts (plans t) c t → WarrantIn (plans t) (plans t).way (NamedBy (plans t) es t) (IsBarred es t) (phases (store_after es) t) (bounds es t) k (phase c t) m

-- each key that s writes was acknowledged
abbrev pub AllLocked : Plan → List Event → ℕ → Type 0
AllLocked plan es s = (k : Key) (x : Content) → plan.writes k ≡ Some x → IsAcknowledged es s k

abbrev pub WasPrewritten : List Event → ℕ → Type 0
WasPrewritten es s = (t : Ticket) × (q : PrewriteRequest) × Has es (Sent t (Prewrite q)) × (q.start_version ≡ s)

-- a timestamp is above the start, and above the time of each pessimistic lock of it
abbrev pub IsAbove : Plan → List Event → ℕ → ℕ → Type 0
IsAbove plan es s c = (s < c) × ((k : Key) (x : Content) → plan.writes k ≡ Some x → (t : Ticket) (q : PessimisticLockRequest) → Has es (Sent t (PessimisticLock q)) → q.start_version ≡ s → q.for_update_ts < c)

-- what is known of a Prewrite that was sent
pub record PrewriteFacts (plan : Plan) (es : List Event) (st : Store) (q : PrewriteRequest) : Type 0 where
  pub planned : ArePlanned plan q.mutations
  pub way : q.use_async_commit ≡ is_spread plan.way
  pub named : (ks : List Key) → plan.way ≡ Spread ks → IsListed plan ks × (LocksKey q.mutations plan.primary → q.secondaries ≡ ks)
  pub at_once : q.try_one_pc ≡ true → (plan.one_phase ≡ true) × ((x : Content) × (plan.writes plan.primary ≡ Some x)) × ((k : Key) (x : Content) → plan.writes k ≡ Some x → LocksKey q.mutations k)
  pub start_low : q.start_version ≤ st.last
  pub above : IsFlagged q → (t : Ticket) (p : PessimisticLockRequest) → Has es (Sent t (PessimisticLock p)) → p.start_version ≡ q.start_version → p.for_update_ts ≤ q.for_update_ts

-- what is known of a prewrite lock that stands
pub record OwnIs (plan : Plan) (k : Key) (l : Lock) (b : Option ℕ) : Type 0 where
  pub way : l.use_async ≡ is_spread plan.way
  pub bound : b ≡ Some l.min_commit
  pub named : (ks : List Key) → plan.way ≡ Spread ks → k ≡ plan.primary → l.secondaries ≡ ks

-- and of one that was shown
pub record ShownIs (plan : Plan) (b : Key → Option ℕ) (l : LockInfo) : Type 0 where
  pub primary : l.primary_lock ≡ plan.primary
  pub way : l.use_async_commit ≡ is_spread plan.way
  pub bound : is_spread plan.way ≡ true → b l.key ≡ Some l.min_commit_ts
  pub named : (ks : List Key) → plan.way ≡ Spread ks → l.key ≡ plan.primary → l.secondaries ≡ ks
  pub listed : (ks : List Key) → plan.way ≡ Spread ks → IsListed plan ks

-- the timestamp at which a request reads
abbrev pub read_time : Request → ℕ
read_time (Get r) = r.version
read_time (BatchGet r) = r.version
read_time (Scan r) = r.version
read_time (PessimisticLock r) = r.for_update_ts
read_time _ = 0

-- a Prewrite that locks the key was served without error
abbrev pub SourceOf : List Event → ℕ → Key → Type 0
SourceOf es s k = (t : Ticket) × (q : PrewriteRequest) × (o : Reply) × Has es (Served t (Prewrite q) o) × (q.start_version ≡ s) × LocksKey q.mutations k × IsWithoutError o

pub record Inv (plans : ℕ → Plan) (es : List Event) : Type 0 where
  pub source : (s : ℕ) (k : Key) (m : ℕ) → is_spread (plans s).way ≡ true → bounds es s k ≡ Some m → SourceOf es s k
  pub once : (t : Ticket) (r q : Request) (o p : Reply) → Has es (Served t r o) → WasReplied es t q p → o ≡ p
  pub in_order : AreInOrder (store_after es).cells
  pub sound : (k : Key) → IsSound (cell_at (store_after es).cells k)
  pub low : (store_after es).max_read ≤ (store_after es).last
  pub own : (s : ℕ) (k : Key) (l : Lock) → (cell_at (store_after es).cells k).lock ≡ Some l → owns (Some l) s ≡ true → OwnIs (plans s) k l (bounds es s k)
  pub hang : (s : ℕ) → HangAt (plans s) es s
  pub high : (s : ℕ) (k : Key) (m : ℕ) → bounds es s k ≡ Some m → is_spread (plans s).way ≡ true → IsAbove (plans s) es s m × WasPrewritten es s
  pub means : (t : Ticket) (r : Request) (o : Reply) → Has es (Served t r o) → Means plans (store_after es) (bounds es) r o
  pub shows : (t : Ticket) (r : Request) (o : Reply) → Has es (Served t r o) → (l : LockInfo) → ShowsLock o l → IsPrewriteOp l → ShownIs (plans l.lock_version) (bounds es l.lock_version) l
  pub warranted : (t : Ticket) (r : Request) → Has es (Sent t r) → IsCovered r × IsWarranted plans es r
  pub prewrites : (t : Ticket) (q : PrewriteRequest) → Has es (Sent t (Prewrite q)) → PrewriteFacts (plans q.start_version) es (store_after es) q
  pub reads : (t : Ticket) (r : Request) → Has es (Sent t r) → read_time r ≤ (store_after es).last
  pub taken : (t : Ticket) (r : Request) (o : Reply) → Has es (Took t r o) → WasReplied es t r o
  pub refused : (t : Ticket) (r : Request) (o : Reply) → Has es (Refused t r o) → Has es (Sent t r) × (busy_reply r ≡ Some o)
  pub sent : (t : Ticket) (r : Request) (o : Reply) → Has es (Served t r o) → Has es (Sent t r)
  pub times : (s : ℕ) (t : Ticket) → AskedAfter (plans s) es s t → (r : TsoRequest) (o : TsoResponse) (c : ℕ) → Has es (Served t (Tso r) (reply.Tso o)) → GivesTimestamp o c → IsAbove (plans s) es s c
  pub named : (s c : ℕ) → WasNamed (plans s) es s c → AllLocked (plans s) es s × IsAbove (plans s) es s c
  pub landed : (s c : ℕ) → (plans s).way ≡ TwoPhases → LandedAt (plans s) es s c → IsDecidedAt (plans s) (phases (store_after es) s) c × IsAbove (plans s) es s c × WasPrewritten es s × ((k : Key) (x : Content) → (plans s).writes k ≡ Some x → phases (store_after es) s k ≡ Committed c x)
  pub apart : (s c : ℕ) → (plans s).way ≡ TwoPhases → LandedAt (plans s) es s c → (t : Ticket) (q : PrewriteRequest) (o : PrewriteResponse) → Has es (Served t (Prewrite q) (reply.Prewrite o)) → IsWithoutError (reply.Prewrite o) → q.try_one_pc ≡ false → q.start_version ≡ s → LocksKey q.mutations (plans s).primary → ⊥
  pub one : (s c d : ℕ) → (plans s).way ≡ TwoPhases → WasNamed (plans s) es s c → WasNamed (plans s) es s d → c ≡ d

-- How a start goes on over one event, in either way.
abbrev pub AdvanceIn : Plan → Way → (ℕ → Type 0) → (Key → Type 0) → (Key → Type 0) → (Key → Phase) → (Key → Phase) → (Key → Option ℕ) → (Key → Option ℕ) → Type 0
AdvanceIn plan TwoPhases Named Barred More f g b d = Stays plan Named f g
AdvanceIn plan (Spread ks) Named Barred More f g b d = GoesOn plan ks Barred More f g b d

abbrev pub Advance : Plan → List Event → Event → ℕ → Type 0
Advance plan es e s = AdvanceIn plan plan.way (NamedBy plan (e ∷ es) s) (IsBarred es s) (IsBarred (e ∷ es) s) (phases (store_after es) s) (phases (store_after (e ∷ es)) s) (bounds es s) (bounds (e ∷ es) s)

was_named_more : (plan : Plan) (es : List Event) (e : Event) (s c : ℕ) → WasNamed plan es s c → WasNamed plan (e ∷ es) s c
was_named_more plan es e s c h = (h.0, h.1, inr h.2, h.3, h.4, h.5)

pub landed_more : (plan : Plan) (es : List Event) (e : Event) (s c : ℕ) → LandedAt plan es s c → LandedAt plan (e ∷ es) s c
landed_more plan es (Served t (Prewrite q) o) s c h = inr h
landed_more plan es _ s c h = h

pub named_more : (plan : Plan) (es : List Event) (e : Event) (s c : ℕ) → NamedBy plan es s c → NamedBy plan (e ∷ es) s c
named_more plan es e s c (inl h) = inl (was_named_more plan es e s c h.0, h.1)
named_more plan es e s c (inr h) = inr (landed_more plan es e s c h)

told_on : (writes : Key → Option Content) (b d : Key → Option ℕ) (Of : Key → Type 0) (n : ℕ) → ((k : Key) (m : ℕ) → b k ≡ Some m → d k ≡ Some m) → (IsSettled writes b n → IsSettled writes d n) → ToldBound writes b Of n → ToldBound writes d Of n
told_on writes b d Of n h g (inl t) = inl ((λ k o. let w = t.0 k o in (w.0, h k w.0 w.1, w.2)), (t.1.0, t.1.1, t.1.2, h t.1.0 n t.1.3))
told_on writes b d Of n h g (inr u) = inr (g u)

pub keeps_in : (plan : Plan) (way : Way) (Named : ℕ → Type 0) (Barred More : Key → Type 0) (f g : Key → Phase) (b d : Key → Option ℕ) → AdvanceIn plan way Named Barred More f g b d → Keeps plan way f g b d
keeps_in plan TwoPhases Named Barred More f g b d a = record { committed = a.committed; rolled = a.rolled; held = λ r n k h. a.held k h; decided = λ c h. (h.0, a.committed plan.primary c h.0 h.1) }
keeps_in plan (Spread ks) Named Barred More f g b d a = record { committed = a.committed; rolled = a.rolled; held = λ r n k h. told_on plan.writes b d (LocksKey r.mutations) n a.bound (a.settled n) h; decided = a.settled }

pub hang_in : (plan : Plan) (way : Way) (Named : ℕ → Type 0) (Barred More : Key → Type 0) (f g : Key → Phase) (b d : Key → Option ℕ) → AdvanceIn plan way Named Barred More f g b d → HangIn plan way Named More g d
hang_in plan TwoPhases Named Barred More f g b d a = a.coherent
hang_in plan (Spread ks) Named Barred More f g b d a = a.spread

pub bound_in_way : (plan : Plan) (way : Way) (Named : ℕ → Type 0) (Barred More : Key → Type 0) (f g : Key → Phase) (b d : Key → Option ℕ) → AdvanceIn plan way Named Barred More f g b d → is_spread way ≡ true → (k : Key) (m : ℕ) → b k ≡ Some m → d k ≡ Some m
bound_in_way plan TwoPhases Named Barred More f g b d a h k m e = absurd (cc)
bound_in_way plan (Spread ks) Named Barred More f g b d a h k m e = a.bound k m e

warrant_in : (plan : Plan) (way : Way) (Less Named : ℕ → Type 0) (Barred More : Key → Type 0) (f g : Key → Phase) (b d : Key → Option ℕ) → ((c : ℕ) → Less c → Named c) → AdvanceIn plan way Named Barred More f g b d → (k : Key) (before : Phase) (m : Move) → WarrantIn plan way Less Barred f b k before m → WarrantIn plan way Named More g d k before m
warrant_in plan TwoPhases Less Named Barred More f g b d n a k before m w = a.warrant k before m (warrant_more plan Less Named f n k before m w)
warrant_in plan (Spread ks) Less Named Barred More f g b d n a k before (Locks q x) w = w
warrant_in plan (Spread ks) Less Named Barred More f g b d n a k before (Commits c) w = a.settled c w
warrant_in plan (Spread ks) Less Named Barred More f g b d n a k before Rolls w = λ p x e. a.lost (w p x e)

-- what a Prewrite that was sent is known by stays
facts_more : (plan : Plan) (es : List Event) (e : Event) (st new : Store) (q : PrewriteRequest) → st.last ≤ new.last → ((t : Ticket) (p : PessimisticLockRequest) → e ≡ Sent t (PessimisticLock p) → p.start_version ≡ q.start_version → ⊥) → PrewriteFacts plan es st q → PrewriteFacts plan (e ∷ es) new q
facts_more plan es e st new q l f p = record {
  planned = p.planned;
  way = p.way;
  named = p.named;
  at_once = p.at_once;
  start_low = (let z = p.start_low in omega (arith, z, l));
  above = λ v t r h g. elim h [ inl w ↦ absurd (f t r w g) | inr u ↦ p.above v t r u g ];
}

-- What has to be shown of an event, and what then goes on holding.
pub record Extras (plans : ℕ → Plan) (es : List Event) (e : Event) : Type 0 where
  pub source : (s : ℕ) (k : Key) (m : ℕ) → is_spread (plans s).way ≡ true → bounds (e ∷ es) s k ≡ Some m → SourceOf (e ∷ es) s k
  pub once : (t : Ticket) (r q : Request) (o p : Reply) → Has (e ∷ es) (Served t r o) → WasReplied (e ∷ es) t q p → o ≡ p
  pub in_order : AreInOrder (store_after (e ∷ es)).cells
  pub sound : (k : Key) → IsSound (cell_at (store_after (e ∷ es)).cells k)
  pub later : (store_after es).last ≤ (store_after (e ∷ es)).last
  pub low : (store_after (e ∷ es)).max_read ≤ (store_after (e ∷ es)).last
  pub own : (s : ℕ) (k : Key) (l : Lock) → (cell_at (store_after (e ∷ es)).cells k).lock ≡ Some l → owns (Some l) s ≡ true → OwnIs (plans s) k l (bounds (e ∷ es) s k)
  pub advance : (s : ℕ) → Advance (plans s) es e s
  pub high : (s : ℕ) (k : Key) (m : ℕ) → bounds (e ∷ es) s k ≡ Some m → is_spread (plans s).way ≡ true → IsAbove (plans s) (e ∷ es) s m × WasPrewritten (e ∷ es) s
  pub means : (t : Ticket) (r : Request) (o : Reply) → e ≡ Served t r o → Means plans (store_after (e ∷ es)) (bounds (e ∷ es)) r o
  pub shows : (t : Ticket) (r : Request) (o : Reply) → e ≡ Served t r o → (l : LockInfo) → ShowsLock o l → IsPrewriteOp l → ShownIs (plans l.lock_version) (bounds (e ∷ es) l.lock_version) l
  pub warranted : (t : Ticket) (r : Request) → e ≡ Sent t r → IsCovered r × IsWarranted plans (e ∷ es) r
  pub prewrites : (t : Ticket) (q : PrewriteRequest) → e ≡ Sent t (Prewrite q) → PrewriteFacts (plans q.start_version) (e ∷ es) (store_after (e ∷ es)) q
  pub no_lock : (t : Ticket) (p : PessimisticLockRequest) → e ≡ Sent t (PessimisticLock p) → WasPrewritten es p.start_version → ⊥
  pub reads : (t : Ticket) (r : Request) → e ≡ Sent t r → read_time r ≤ (store_after (e ∷ es)).last
  pub taken : (t : Ticket) (r : Request) (o : Reply) → e ≡ Took t r o → WasReplied es t r o
  pub refused : (t : Ticket) (r : Request) (o : Reply) → e ≡ Refused t r o → Has es (Sent t r) × (busy_reply r ≡ Some o)
  pub sent : (t : Ticket) (r : Request) (o : Reply) → e ≡ Served t r o → Has es (Sent t r)
  pub times : (s : ℕ) (t : Ticket) → AskedAfter (plans s) (e ∷ es) s t → (r : TsoRequest) (o : TsoResponse) (c : ℕ) → Has (e ∷ es) (Served t (Tso r) (reply.Tso o)) → GivesTimestamp o c → IsAbove (plans s) (e ∷ es) s c
  pub named : (s c : ℕ) → WasNamed (plans s) (e ∷ es) s c → AllLocked (plans s) (e ∷ es) s × IsAbove (plans s) (e ∷ es) s c
  pub landed : (s c : ℕ) → (plans s).way ≡ TwoPhases → LandedAt (plans s) (e ∷ es) s c → IsDecidedAt (plans s) (phases (store_after (e ∷ es)) s) c × IsAbove (plans s) (e ∷ es) s c × WasPrewritten (e ∷ es) s × ((k : Key) (x : Content) → (plans s).writes k ≡ Some x → phases (store_after (e ∷ es)) s k ≡ Committed c x)
  pub apart : (s c : ℕ) → (plans s).way ≡ TwoPhases → LandedAt (plans s) (e ∷ es) s c → (t : Ticket) (q : PrewriteRequest) (o : PrewriteResponse) → Has (e ∷ es) (Served t (Prewrite q) (reply.Prewrite o)) → IsWithoutError (reply.Prewrite o) → q.try_one_pc ≡ false → q.start_version ≡ s → LocksKey q.mutations (plans s).primary → ⊥
  pub one : (s c d : ℕ) → (plans s).way ≡ TwoPhases → WasNamed (plans s) (e ∷ es) s c → WasNamed (plans s) (e ∷ es) s d → c ≡ d

pub replied_more : (es : List Event) (e : Event) (t : Ticket) (r : Request) (o : Reply) → WasReplied es t r o → WasReplied (e ∷ es) t r o
replied_more es e t r o (inl h) = inl (inr h)
replied_more es e t r o (inr h) = inr (inr h)

pub shown_more : (plan : Plan) (b d : Key → Option ℕ) (l : LockInfo) → (is_spread plan.way ≡ true → (k : Key) (m : ℕ) → b k ≡ Some m → d k ≡ Some m) → ShownIs plan b l → ShownIs plan d l
shown_more plan b d l h s = record { primary = s.primary; way = s.way; bound = λ w. h w l.key l.min_commit_ts (s.bound w); named = s.named; listed = s.listed }

module _ (plans : ℕ → Plan) (es : List Event) (e : Event) (i : Inv plans es) (x : Extras plans es e) where
  keeps : (s : ℕ) → Keeps (plans s) (plans s).way (phases (store_after es) s) (phases (store_after (e ∷ es)) s) (bounds es s) (bounds (e ∷ es) s)
  keeps s = keeps_in (plans s) (plans s).way (NamedBy (plans s) (e ∷ es) s) (IsBarred es s) (IsBarred (e ∷ es) s) (phases (store_after es) s) (phases (store_after (e ∷ es)) s) (bounds es s) (bounds (e ∷ es) s) (x.advance s)

  bound_kept : (s : ℕ) → is_spread (plans s).way ≡ true → (k : Key) (m : ℕ) → bounds es s k ≡ Some m → bounds (e ∷ es) s k ≡ Some m
  bound_kept s = bound_in_way (plans s) (plans s).way (NamedBy (plans s) (e ∷ es) s) (IsBarred es s) (IsBarred (e ∷ es) s) (phases (store_after es) s) (phases (store_after (e ∷ es)) s) (bounds es s) (bounds (e ∷ es) s) (x.advance s)

  pub advance_kept : Inv plans (e ∷ es)
  advance_kept = record {
    source = x.source;
    once = x.once;
    in_order = x.in_order;
    sound = x.sound;
    low = x.low;
    own = x.own;
    hang = λ s. hang_in (plans s) (plans s).way (NamedBy (plans s) (e ∷ es) s) (IsBarred es s) (IsBarred (e ∷ es) s) (phases (store_after es) s) (phases (store_after (e ∷ es)) s) (bounds es s) (bounds (e ∷ es) s) (x.advance s);
    high = x.high;
    means = λ t r o h. elim h [ inl f ↦ x.means t r o f | inr u ↦ means_stays plans (store_after es) (store_after (e ∷ es)) (bounds es) (bounds (e ∷ es)) keeps x.later r o (i.means t r o u) ];
    shows = λ t r o h l v p. elim h [ inl f ↦ x.shows t r o f l v p | inr u ↦ shown_more (plans l.lock_version) (bounds es l.lock_version) (bounds (e ∷ es) l.lock_version) l (bound_kept l.lock_version) (i.shows t r o u l v p) ];
    warranted = λ t r h. elim h [
      | inl f ↦ x.warranted t r f
      | inr u ↦ ((i.warranted t r u).0, λ k s c m a g. warrant_in (plans s) (plans s).way (NamedBy (plans s) es s) (NamedBy (plans s) (e ∷ es) s) (IsBarred es s) (IsBarred (e ∷ es) s) (phases (store_after es) s) (phases (store_after (e ∷ es)) s) (bounds es s) (bounds (e ∷ es) s) (named_more (plans s) es e s) (x.advance s) k (phase c s) m ((i.warranted t r u).1 k s c m a g))
    ];
    prewrites = λ t q h. elim h [ inl f ↦ x.prewrites t q f | inr u ↦ facts_more (plans q.start_version) es e (store_after es) (store_after (e ∷ es)) q x.later (λ n p f g. x.no_lock n p f (t, q, u, sym g)) (i.prewrites t q u) ];
    reads = λ t r h. elim h [ inl f ↦ x.reads t r f | inr u ↦ (let z = i.reads t r u in let l = x.later in omega (arith, z, l)) ];
    taken = λ t r o h. elim h [ inl f ↦ replied_more es e t r o (x.taken t r o f) | inr u ↦ replied_more es e t r o (i.taken t r o u) ];
    refused = λ t r o h. elim h [ inl f ↦ (let z = x.refused t r o f in (inr z.0, z.1)) | inr u ↦ (let z = i.refused t r o u in (inr z.0, z.1)) ];
    sent = λ t r o h. elim h [ inl f ↦ inr (x.sent t r o f) | inr u ↦ inr (i.sent t r o u) ];
    times = x.times;
    named = x.named;
    landed = x.landed;
    apart = x.apart;
    one = x.one;
  }

-- What holds of one start, in either way.
pub record Hang (plan : Plan) (way : Way) (f : Key → Phase) (b : Key → Option ℕ) : Type 0 where
  pub locked : (k p : Key) (x : Content) → f k ≡ Locked p x → (p ≡ plan.primary) × (plan.writes k ≡ Some x)
  pub committed : (k : Key) (c : ℕ) (x : Content) → f k ≡ Committed c x → (plan.writes k ≡ Some x) × DecidedIn plan way f b c
  pub whole : (c : ℕ) → DecidedIn plan way f b c → (k : Key) (x : Content) → plan.writes k ≡ Some x → (f k ≡ Locked plan.primary x) ⊎ (f k ≡ Committed c x)
  pub one : (c d : ℕ) → DecidedIn plan way f b c → DecidedIn plan way f b d → c ≡ d

pub hang_facts : (plan : Plan) (way : Way) (Named : ℕ → Type 0) (Barred : Key → Type 0) (f : Key → Phase) (b : Key → Option ℕ) → HangIn plan way Named Barred f b → Hang plan way f b
hang_facts plan TwoPhases Named Barred f b h = record { locked = h.locked; committed = h.committed; whole = h.whole; one = λ c d u v. let x = u.1 in let y = v.1 in cc }
hang_facts plan (Spread ks) Named Barred f b h = record {
  locked = λ k p x e. let w = h.locked k p x e in (w.0, w.1);
  committed = h.committed;
  whole = λ c u k x w. settled_whole plan ks Barred f b h c u k x w;
  one = λ c d u v. one_decision plan.writes b c d u v;
}
