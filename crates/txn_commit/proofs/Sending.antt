-- What the plans of a transaction send may be sent.
use Rattle.std.proofs.Common.{◌≡◌, ◌⊎◌, inl, inr, ℕ, Bool, true, List, [], ◌∷◌, Option, Some, None, refl, sym, ap, subst, ◌∙◌, arith}
use Rattle.txn_kv.specs.declared.outbox.Errand.TheVariants.{Send, Sleep, Ask}
use Rattle.txn_kv.specs.declared.request.commits.CommitRequest.{CommitRequest}
use Rattle.txn_kv.specs.declared.request.commits.PrewriteRequest.{PrewriteRequest}
use Rattle.txn_kv.specs.declared.request.Request.{Request}
use Rattle.txn_kv.specs.declared.request.Request.TheVariants.{Get, BatchGet, Scan, Prewrite, Commit, Cleanup, BatchRollback, PessimisticRollback, PessimisticLock, ResolveLock, ScanLock, TxnHeartBeat, CheckTxnStatus, CheckSecondaryLocks, UnsafeDestroyRange, GetRegion, GetRegionById, GetStore, GetAllStores, UpdateGcSafePoint, Tso, Members}
use Rattle.txn_kv.specs.declared.ticket.Ticket.{Ticket}
use Rattle.txn_history.specs.Among.{IsAmong}
use Rattle.txn_history.specs.Event.{Event, Has}
use Rattle.txn_history.specs.Event.Event.{Sent, Began, Asked}
use Rattle.txn_history.specs.Licence.{AllAcknowledged, CommitsAnswered, PrimaryRolledBack, WasGiven, WasNamed}
use Rattle.txn_history.specs.Plan.{Key, has_key, Plan}
use Rattle.txn_history.specs.Plan.Way.{TwoPhases}
use Rattle.txn_history.specs.Posted.{Errand, Licensed, Within, after, posting}
use Rattle.txn_commit.specs.Committing.{IsReady}
use Rattle.txn_commit.specs.Following.{Commits, CommitsPrimary, KnowsCommits, WasRefused, undetermined}
use Rattle.txn_history.specs.Foreign.{IsForeign}
use Rattle.txn_commit.specs.Plans.{IsOfCommit, IsOfPrewrite, IsOfRollback}
use Rattle.txn_commit.specs.Sending.{MaySend, PrimaryMayGo}
use Rattle.txn_commit.proofs.Following.{IsNoSending, sent_more}
use Rattle.txn_commit.proofs.Keys.{has_only, only}

-- what is sent to settle the locks of others rests on no plan
pub foreign_may : (plan : Plan) (s : ℕ) (h : List Event) (r : Request) → IsForeign h r → MaySend plan s h r
foreign_may plan s h (Prewrite r) f = absurd f
foreign_may plan s h (Commit r) f = absurd f
foreign_may plan s h (BatchRollback r) f = absurd f
foreign_may plan s h (Get r) f = f
foreign_may plan s h (BatchGet r) f = f
foreign_may plan s h (Scan r) f = f
foreign_may plan s h (Cleanup r) f = f
foreign_may plan s h (PessimisticRollback r) f = f
foreign_may plan s h (PessimisticLock r) f = absurd f
foreign_may plan s h (ResolveLock r) f = f
foreign_may plan s h (ScanLock r) f = f
foreign_may plan s h (TxnHeartBeat r) f = f
foreign_may plan s h (CheckTxnStatus r) f = f
foreign_may plan s h (CheckSecondaryLocks r) f = f
foreign_may plan s h (UnsafeDestroyRange r) f = absurd f
foreign_may plan s h (GetRegion r) f = f
foreign_may plan s h (GetRegionById r) f = f
foreign_may plan s h (GetStore r) f = f
foreign_may plan s h (GetAllStores r) f = f
foreign_may plan s h (UpdateGcSafePoint r) f = absurd f
foreign_may plan s h (Tso r) f = f
foreign_may plan s h (Members r) f = f

-- what may be asked may be sent, where something holds throughout
pub licensed_lift : (asks may : List Event → Request → Type 0) (inv : List Event → Type 0)
    → ((k : List Event) (r : Request) → inv k → asks k r → may k r)
    → ((k : List Event) (t : Ticket) (r : Request) → inv k → asks k r → inv (Sent t r ∷ k))
    → ((k : List Event) (e : Event) → IsNoSending e → inv k → inv (e ∷ k))
    → (line : ℕ) (beat : Bool) (h : List Event) (rs : List Errand) → inv h → Licensed asks line beat h rs
    → Licensed may line beat h rs × inv (after line beat h rs)
licensed_lift asks may inv m p q line beat h [] i l = (tt, i)
licensed_lift asks may inv m p q line beat h (Send n to r ∷ rs) i l =
    let w = licensed_lift asks may inv m p q line beat (posting line beat (Send n to r) ∷ h) rs (p h (record { line = line; beat = beat; number = n }) r i l.0) l.1 in
    ((m h r i l.0, w.0), w.1)
licensed_lift asks may inv m p q line beat h (Sleep n ms ∷ rs) i l =
    let w = licensed_lift asks may inv m p q line beat (posting line beat (Sleep n ms) ∷ h) rs (q h (Began (record { line = line; beat = beat; number = n }) ms) (λ t r e. cc) i) l.1 in
    ((tt, w.0), w.1)
licensed_lift asks may inv m p q line beat h (Ask n ∷ rs) i l =
    let w = licensed_lift asks may inv m p q line beat (posting line beat (Ask n) ∷ h) rs (q h (Asked (record { line = line; beat = beat; number = n })) (λ t r e. cc) i) l.1 in
    ((tt, w.0), w.1)

-- a request that is no Commit changes nothing of what is known of Commits

abbrev pub IsNoCommit : Request → Type 0
IsNoCommit r = (q : CommitRequest) → r ≡ Commit q → ⊥

pub prewrite_no_commit : (whole : PrewriteRequest) (h : List Event) (r : Request) → IsOfPrewrite whole r ⊎ IsForeign h r → IsNoCommit r
prewrite_no_commit whole h r a q e = elim (subst (λ x. IsOfPrewrite whole x ⊎ IsForeign h x) e a) [ inl f ↦ f | inr f ↦ f ]

pub rollback_no_commit : (s : ℕ) (ks : List Key) (h : List Event) (r : Request) → IsOfRollback s ks r ⊎ IsForeign h r → IsNoCommit r
rollback_no_commit s ks h r a q e = elim (subst (λ x. IsOfRollback s ks x ⊎ IsForeign h x) e a) [ inl f ↦ f | inr f ↦ f ]

commit_before : (t u : Ticket) (r : Request) (q : CommitRequest) (h : List Event) → IsNoCommit r → Has (Sent t r ∷ h) (Sent u (Commit q)) → Has h (Sent u (Commit q))
commit_before t u r q h n (inl e) = absurd (n q (cc))
commit_before t u r q h n (inr g) = g

pub knows_quiet : (plan : Plan) (s : ℕ) (c : Commits) (t : Ticket) (r : Request) (h : List Event) → IsNoCommit r → KnowsCommits plan s c h → KnowsCommits plan s c (Sent t r ∷ h)
knows_quiet plan s c t r h n k = record {
  named = λ d w. k.named d (w.0, w.1, commit_before t w.0 r w.1 h n w.2, w.3, w.4, w.5);
  since = λ u f. let w = k.since u f in (w.0, w.1, inr w.2, w.3, w.4, w.5);
  waiting = λ u a. sent_more plan s (Sent t r) h u (k.waiting u a);
  losing = λ u l. sent_more plan s (Sent t r) h u (k.losing u l);
  all = λ u q g p. elim (k.all u q (commit_before t u r q h n g) p) [
    | inl w ↦ inl (w.0, inr w.1, w.2)
    | inr w ↦ inr w
  ];
}

-- where nothing is undetermined, each Commit of the primary was answered

none_out : (lost : Option Ticket) (out : List Ticket) → undetermined (record { timestamp = None; out = out; lost = lost }) ≡ None → (lost ≡ None) × (out ≡ [])
none_out None [] e = (refl, refl)
none_out None (t ∷ ts) e = absurd (cc)
none_out (Some t) out e = absurd (cc)

pub settled_out : (c : Commits) → undetermined c ≡ None → c.out ≡ []
settled_out c u = (none_out c.lost c.out u).1

-- and where none was sent, none is out
pub unsent_out : (plan : Plan) (s : ℕ) (c : Commits) (h : List Event) → c.timestamp ≡ None → KnowsCommits plan s c h → c.out ≡ []
unsent_out plan s c h e k = by c.out refl
  where
    by : (ts : List Ticket) → c.out ≡ ts → c.out ≡ []
    by [] f = f
    by (t ∷ ts) f =
        let w = k.waiting t (subst (λ us. IsAmong us t) (sym f) (inl refl)) in
        let n = k.named w.0.commit_version (t, w.0, w.1, w.2.start, refl, w.2.primary) in
        absurd (let g = sym e ∙ n.1 in cc)

pub settled_refused : (plan : Plan) (s : ℕ) (c : Commits) (h : List Event) → undetermined c ≡ None → KnowsCommits plan s c h → (t : Ticket) (r : CommitRequest) → Has h (Sent t (Commit r)) → CommitsPrimary plan s r → WasRefused h t r
settled_refused plan s c h u k t r g p = let n = none_out c.lost c.out u in
    elim (k.all t r g p) [
      | inl w ↦ w
      | inr w ↦ elim w [
        | inl l ↦ absurd (l n.0)
        | inr a ↦ absurd (subst (λ ts. IsAmong ts t) n.1 a)
      ]
    ]

pub settled_answered : (plan : Plan) (s : ℕ) (c : Commits) (h : List Event) → undetermined c ≡ None → KnowsCommits plan s c h → CommitsAnswered plan h s
settled_answered plan s c h u k t r g e f = let w = settled_refused plan s c h u k t r g (record { start = e; primary = f }) in (w.0, w.1)

-- facts of the history stay true as it grows

pub acknowledged_longer : (plan : Plan) (s : ℕ) (h k : List Event) → Within h k → AllAcknowledged plan h s → AllAcknowledged plan k s
acknowledged_longer plan s h k w a = record {
  locked = λ key x e. let g = a.locked key x e in record {
    ticket = g.ticket;
    request = g.request;
    response = g.response;
    taken = w _ g.taken;
    fine = g.fine;
    start = g.start;
    locks = g.locks;
    locking = g.locking;
  };
  checked = λ key e. let g = a.checked key e in record {
    ticket = g.ticket;
    request = g.request;
    response = g.response;
    taken = w _ g.taken;
    fine = g.fine;
    start = g.start;
    mutation = g.mutation;
    names = g.names;
    key = g.key;
  };
}

pub given_longer : (s : ℕ) (h k : List Event) → Within h k → WasGiven h s → WasGiven k s
given_longer s h k w g = (g.0, g.1, g.2, g.3, w _ g.4, g.5, g.6)

-- where something was given, so was 0
pub given_zero : (s : ℕ) (h : List Event) → WasGiven h s → WasGiven h 0
given_zero s h g = (g.0, g.1, g.2, g.3, g.4, g.5, omega arith)

pub rolled_longer : (plan : Plan) (s : ℕ) (h k : List Event) → Within h k → PrimaryRolledBack plan h s → PrimaryRolledBack plan k s
rolled_longer plan s h k w g = (g.0, g.1, g.2, w _ g.3, g.4, g.5, g.6)

pub ready_more : (plan : Plan) (s c : ℕ) (e : Event) (h : List Event) → IsReady plan s c h → IsReady plan s c (e ∷ h)
ready_more plan s c e h r = record {
  keys = acknowledged_longer plan s h (e ∷ h) (λ x i. inr i) r.keys;
  ask = r.ask;
  given = r.given;
  wanted = inr r.wanted;
  answered = inr r.answered;
  at = r.at;
}

-- Commits of the primary

-- each that was sent names the timestamp
abbrev pub IsNamed : Plan → ℕ → ℕ → List Event → Type 0
IsNamed plan s c h = (d : ℕ) → WasNamed plan h s d → d ≡ c

commit_is : (t u : Ticket) (q r : CommitRequest) → Sent t (Commit q) ≡ Sent u (Commit r) → (t ≡ u) × (q ≡ r)
commit_is t u q r e = (cc, cc)

pub named_sent : (plan : Plan) (s c : ℕ) (t : Ticket) (q : CommitRequest) (h : List Event) → q.commit_version ≡ c → IsNamed plan s c h → IsNamed plan s c (Sent t (Commit q) ∷ h)
named_sent plan s c t q h e n d w = elim w.2 [
  | inl f ↦ let g = (commit_is t w.0 q w.1 f).1 in sym w.4 ∙ ap (λ (r : CommitRequest). r.commit_version) (sym g) ∙ e
  | inr g ↦ n d (w.0, w.1, g, w.3, w.4, w.5)
]

pub named_quiet : (plan : Plan) (s c : ℕ) (t : Ticket) (r : Request) (h : List Event) → IsNoCommit r → IsNamed plan s c h → IsNamed plan s c (Sent t r ∷ h)
named_quiet plan s c t r h n m d w = m d (w.0, w.1, commit_before t w.0 r w.1 h n w.2, w.3, w.4, w.5)

pub named_more : (plan : Plan) (s c : ℕ) (e : Event) (h : List Event) → IsNoSending e → IsNamed plan s c h → IsNamed plan s c (e ∷ h)
named_more plan s c e h n m d w = elim w.2 [
  | inl f ↦ absurd (n w.0 (Commit w.1) f)
  | inr g ↦ m d (w.0, w.1, g, w.3, w.4, w.5)
]

-- it names the primary alone
pub commits_primary : (plan : Plan) (s c : ℕ) (q : CommitRequest) → IsOfCommit s c (plan.primary ∷ []) (Commit q) → CommitsPrimary plan s q
commits_primary plan s c q w = let some = w.3 plan.primary (has_only plan.primary) in record {
  start = w.0;
  primary = subst (λ k. has_key q.keys k ≡ true) (only plan.primary some.0 (w.2 some.0 some.1)) some.1;
}

pub commit_may : (plan : Plan) (s c : ℕ) (h : List Event) (q : CommitRequest) → plan.way ≡ TwoPhases → IsReady plan s c h → IsNamed plan s c h → IsOfCommit s c (plan.primary ∷ []) (Commit q) → MaySend plan s h (Commit q)
commit_may plan s c h q way r n w = (w.0, way, λ k g. inl (only plan.primary k (w.2 k g), may))
  where
    go : PrimaryMayGo plan h s c
    go = record { ready = r.keys; ask = r.ask; time = r.given; wanted = r.wanted; answered = r.answered; at = r.at; same = n }

    may : PrimaryMayGo plan h q.start_version q.commit_version
    may = subst (λ x. PrimaryMayGo plan h x q.commit_version) (sym w.0) (subst (λ y. PrimaryMayGo plan h s y) (sym w.1) go)
