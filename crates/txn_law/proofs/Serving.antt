-- The Commit by which a transaction was committed was served.
use Rattle.std.proofs.Common.{◌≡◌, ℕ, inl, inr, true, false, List, [], ◌∷◌, Option, Some, None, refl, sym, ap, ◌∙◌, subst, subst₂}
use Rattle.txn_kv.specs.declared.ticket.Ticket.{Ticket}
use Rattle.txn_kv.specs.declared.message.KeyError.{KeyError}
use Rattle.txn_kv.specs.declared.message.LockInfo.{LockInfo}
use Rattle.txn_kv.specs.declared.message.RegionErr.{RegionErr}
use Rattle.txn_kv.specs.declared.request.Request.{Request}
use Rattle.txn_kv.specs.declared.request.Request.TheVariants.{Prewrite, Commit, ResolveLock}
use Rattle.txn_kv.specs.declared.request.commits.CommitRequest.{CommitRequest}
use Rattle.txn_kv.specs.declared.request.commits.PrewriteRequest.{PrewriteRequest}
use Rattle.txn_kv.specs.declared.request.locks.ResolveLockRequest.{ResolveLockRequest}
use Rattle.txn_kv.specs.declared.reply.Reply.{Reply}
use Rattle.txn_kv.specs.declared.reply.Reply.TheVariants as reply
use Rattle.txn_kv.specs.declared.reply.commits.CommitResponse.{CommitResponse}
use Rattle.txn_history.specs.Among.{IsAmong}
use Rattle.txn_history.specs.Event.{Event, Has}
use Rattle.txn_history.specs.Event.Event.{Sent, Served}
use Rattle.txn_history.specs.Licence.{IsLicensed, IsWithoutError, ResolveLockLicence, WasDecided, WasShown, LockWasShown, BoundWasShown}
use Rattle.txn_history.specs.Plan.{Key, Content, Plan}
use Rattle.txn_history.specs.Plan.Way.{TwoPhases}
use Rattle.txn_model.specs.Cells.{cell_at}
use Rattle.txn_model.specs.Commit.{commit_by, first_commit_error}
use Rattle.txn_model.specs.Placement.{region_check}
use Rattle.txn_model.specs.Store.{Store}
use Rattle.txn_model.specs.Table.{table}
use Rattle.txn_law.specs.Run.{store_after, IsRun}
use Rattle.txn_law.specs.Whole.{PrimaryServed}
use Rattle.txn_law.proofs.Phases.{Phase, phase, Move, Goes}
use Rattle.txn_law.proofs.Phases.Phase.{Free, Locked, Committed, RolledBack}
use Rattle.txn_law.proofs.Phases.Move.{Locks, Commits, Rolls}
use Rattle.txn_law.proofs.Coherent.{IsDecidedAt}
use Rattle.txn_law.proofs.Moves.{May, may_lock}
use Rattle.txn_law.proofs.Bounds.{bounds}
use Rattle.txn_law.proofs.Replies.{phases, DecidedIn}
use Rattle.txn_law.proofs.Invariant.{Inv}
use Rattle.txn_law.proofs.Taken.{settled_infos, told}
use Rattle.txn_law.proofs.Kept.{kept, served_outcome, passes}

served_more : (plan : Plan) (es : List Event) (e : Event) (s c : ℕ) → PrimaryServed plan es s c → PrimaryServed plan (e ∷ es) s c
served_more plan es e s c h = record {
  ticket = h.ticket;
  request = h.request;
  response = h.response;
  served = inr h.served;
  fine = h.fine;
  start = h.start;
  commit = h.commit;
  primary = h.primary;
  says = h.says;
}

-- What a ResolveLock rests on

shown_more : (es : List Event) (e : Event) (s : ℕ) (p : Key) → WasShown es s p → WasShown (e ∷ es) s p
shown_more es e s p h = record { ticket = h.ticket; request = h.request; answer = h.answer; lock = h.lock; taken = inr h.taken; shows = h.shows; prewrite = h.prewrite; start = h.start; primary = h.primary }

lock_shown_more : (es : List Event) (e : Event) (s : ℕ) (l : LockInfo) → LockWasShown es s l → LockWasShown (e ∷ es) s l
lock_shown_more es e s l h = record { ticket = h.ticket; request = h.request; answer = h.answer; taken = inr h.taken; shows = h.shows; prewrite = h.prewrite; start = h.start }

bound_more : (es : List Event) (e : Event) (s : ℕ) (k : Key) (m : ℕ) → BoundWasShown es s k m → BoundWasShown (e ∷ es) s k m
bound_more es e s k m h = (h.0, lock_shown_more es e s h.0 h.1, h.2, h.3, h.4)

decided_more : (es : List Event) (e : Event) (s c : ℕ) → WasDecided es s c → WasDecided (e ∷ es) s c
decided_more es e s c (inl h) = inl (record { primary = h.primary; shown = shown_more es e s h.primary h.shown; ticket = h.ticket; request = h.request; answer = h.answer; taken = inr h.taken; decides = h.decides })
decided_more es e s c (inr (inl h)) = let g = h.1 in inr (inl (
  h.0,
  record {
    lock = g.lock;
    shown = (lock_shown_more es e s g.lock g.shown.0, g.shown.1, g.shown.2);
    own = g.own;
    each = λ k a. let b = g.each k a in (b.0, bound_more es e s k b.0 b.1, b.2);
    greatest = elim g.greatest [ inl m ↦ inl m | inr b ↦ inr (b.0, b.1, bound_more es e s b.0 c b.2) ];
  },
))
decided_more es e s c (inr (inr (inl h))) = inr (inr (inl (h.0, h.1, h.2, inr h.3, h.4, h.5, h.6)))
decided_more es e s c (inr (inr (inr h))) = let g = h.1 in inr (inr (inr (
  h.0,
  record {
    lock = g.lock;
    shown = (lock_shown_more es e s g.lock g.shown.0, g.shown.1, g.shown.2);
    ticket = g.ticket;
    request = g.request;
    response = g.response;
    taken = inr g.taken;
    start = g.start;
    secondaries = g.secondaries;
    missing = g.missing;
  },
)))

-- one that was sent in a run has its licence, then and ever after
resolve_licence : (plans : ℕ → Plan) (es : List Event) → IsRun plans es → (n : Ticket) (r : ResolveLockRequest) → Has es (Sent n (ResolveLock r)) → ResolveLockLicence es r
resolve_licence plans [] run n r h = absurd h
resolve_licence plans (Sent m q ∷ es) run n r h = elim h [
  | inl e ↦ (let same : q ≡ ResolveLock r = cc in λ i a. decided_more es (Sent m q) i.txn i.status (subst (IsLicensed plans es) same run.1.1 i a))
  | inr g ↦ (let before = resolve_licence plans es run.2 n r g in λ i a. decided_more es (Sent m q) i.txn i.status (before i a))
]
resolve_licence plans (e ∷ es) run n r h = elim h [
  | inl f ↦ absurd (cc)
  | inr g ↦ (let before = resolve_licence plans es run.2 n r g in λ i a. decided_more es e i.txn i.status (before i a))
]

-- A Commit that moves a phase is answered without error, and says at what timestamp.

pub record SaysCommitted (r : CommitRequest) (o : Reply) : Type 0 where
  pub response : CommitResponse
  pub is : o ≡ reply.Commit response
  pub fine : IsWithoutError (reply.Commit response)
  pub says : response.commit_version ≡ r.commit_version

says_committed : (st : Store) (r : CommitRequest) (s : ℕ) (k p : Key) (x : Content) (c : ℕ) (y : Content) → phases st s k ≡ Locked p x → (e : Option RegionErr) (error : Option KeyError) → phases (commit_by e error st r).store s k ≡ Committed c y → SaysCommitted r (commit_by e error st r).reply
says_committed st r s k p x c y locked (Some e) error done = absurd (cc)
says_committed st r s k p x c y locked None (Some e) done = absurd (cc)
says_committed st r s k p x c y locked None None done = record {
  response = record { region_error = None; error = None; commit_version = r.commit_version };
  is = refl;
  fine = (refl, refl);
  says = refl;
}

-- The primary is locked, in two phases, and what is served now commits it: it is a Commit of the primary, since a ResolveLock comes
-- after one.
module _ (plans : ℕ → Plan) (es : List Event) (run : IsRun plans es) (n : Ticket) (s c : ℕ) (y : Content) (two : (plans s).way ≡ TwoPhases) where
  abbrev st : Store
  st = store_after es

  abbrev primary : Key
  primary = (plans s).primary

  by_request : (r : Request) (o : Reply) → Has es (Sent n r) → o ≡ (table st r).reply → phases (table st r).store s primary ≡ Committed c y → (q : Key) (x : Content) → phases st s primary ≡ Locked q x → May r primary s (cell_at st.cells primary) (Commits c) → PrimaryServed (plans s) (Served n r o ∷ es) s c
  by_request (Commit r) o h g done q x locked may =
      let w = says_committed st r s primary q x c y locked (region_check st.regions r.context) (first_commit_error st.cells r r.keys) done in
      record {
        ticket = n;
        request = r;
        response = w.response;
        served = inl (let same : o ≡ reply.Commit w.response = g ∙ w.is in λ i. Served n (Commit r) (same i));
        fine = w.fine;
        start = sym may.0;
        commit = sym may.1;
        primary = may.2;
        says = w.says;
      }
  by_request (ResolveLock r) o h g done q x locked may =
      let i = kept plans es run in
      let among = subst (λ js. IsAmong js may.0) (sym (settled_infos r r.txn_infos)) may.1 in
      elim (told plans es i s c (subst₂ (WasDecided es) may.2 may.3 (resolve_licence plans es run n r h may.0 among))) [
        | inl a ↦ absurd (may.4 a.0)
        | inr a ↦ absurd (let d = (subst (λ v. DecidedIn (plans s) v (phases st s) (bounds es s) c) two a.1).1 in cc)
      ]
  by_request _ o h g done q x locked may = absurd may

  by_move : (r : Request) (o : Reply) → Has es (Sent n r) → o ≡ (table st r).reply → phases (table st r).store s primary ≡ Committed c y → (before : Phase) (m : Move) → phases st s primary ≡ before → May r primary s (cell_at st.cells primary) m → Goes before m (phases (table st r).store s primary) → PrimaryServed (plans s) (Served n r o ∷ es) s c
  by_move r o h g done Free (Locks q x) is may goes = absurd (cc)
  by_move r o h g done Free (Commits d) is may goes = absurd goes
  by_move r o h g done Free Rolls is may goes = absurd (cc)
  by_move r o h g done (Locked q x) (Locks a z) is may goes = absurd goes
  by_move r o h g done (Locked q x) (Commits d) is may goes = let same : d ≡ c = cc in by_request r o h g done q x is (subst (λ u. May r primary s (cell_at st.cells primary) (Commits u)) same may)
  by_move r o h g done (Locked q x) Rolls is may goes = absurd (cc)
  by_move r o h g done (Committed d x) m is may goes = absurd goes
  by_move r o h g done RolledBack m is may goes = absurd goes

-- A primary that is committed, and not all at once, was committed by a Commit that was served.
pub primary_served : (plans : ℕ → Plan) (es : List Event) → IsRun plans es → (s c : ℕ) → (plans s).way ≡ TwoPhases → (plans s).one_phase ≡ false → IsDecidedAt (plans s) (phases (store_after es) s) c → PrimaryServed (plans s) es s c
primary_served plans [] run s c two once d = absurd (cc d.1)
primary_served plans (Sent n r ∷ es) run s c two once d = served_more (plans s) es (Sent n r) s c (primary_served plans es run.2 s c two once d)
primary_served plans (Served n r o ∷ es) run s c two once d =
    let i = kept plans es run.2 in
    let st = store_after es in
    let k = (plans s).primary in
    let before = primary_served plans es run.2 s c two once in
    elim (served_outcome plans es n r o run s k) [
      | inl same ↦ served_more (plans s) es (Served n r o) s c (before (d.0, sym same ∙ d.1))
      | inr w ↦ elim w [
        | inl v ↦ by_move plans es run.2 n s c d.0 two r o run.0.0 run.0.1 d.1 (phases st s k) v.0 refl v.1 v.2
        | inr v ↦ absurd (let q = v.5 in at_once i r q.0 q.1 q.2 run.0.0 (let m = may_lock r k s (cell_at st.cells k) v.0 v.1 v.2 in (m.0, m.1, m.2)))
      ]
    ]
  where
    at_once : (i : Inv plans es) (r : Request) (q : PrewriteRequest) → r ≡ Prewrite q → q.try_one_pc ≡ true → Has es (Sent n r) → ((p : PrewriteRequest) × (r ≡ Prewrite p) × (s ≡ p.start_version)) → ⊥
    at_once i r q is one sent may =
        let same : q ≡ may.0 = (let a = may.1 in cc) in
        let start : s ≡ q.start_version = may.2 ∙ ap (λ (p : PrewriteRequest). p.start_version) (sym same) in
        let planned = subst (λ u. (plans u).one_phase ≡ true) (sym start) ((i.prewrites n q (subst (λ z. Has es (Sent n z)) is sent)).at_once one).0 in
        cc
primary_served plans (e ∷ es) run s c two once d =
    let same = (passes es e tt).cells in
    served_more (plans s) es e s c (primary_served plans es run.2 s c two once (d.0, subst (λ cells. phase (cell_at cells (plans s).primary) s ≡ Committed c d.0) same d.1))
