-- A request that is sent: from its licence to what its moves have to rest on, and what it keeps.
use Rattle.std.proofs.Common.{◌≡◌, ◌≢◌, ℕ, ◌<◌, ◌≤◌, ◌⊎◌, inl, inr, true, List, [], ◌∷◌, Option, Some, None, refl, sym, ap, ◌∙◌, subst, subst₂, arith}
use Rattle.txn_kv.specs.declared.ticket.Ticket.{Ticket}
use Rattle.txn_kv.specs.declared.message.TxnInfo.{TxnInfo}
use Rattle.txn_kv.specs.declared.request.Request.{Request}
use Rattle.txn_kv.specs.declared.request.Request.TheVariants.{Get, BatchGet, Scan, Prewrite, Commit, Cleanup, BatchRollback, ResolveLock, CheckTxnStatus, CheckSecondaryLocks, Tso, PessimisticLock}
use Rattle.txn_kv.specs.declared.request.commits.PrewriteRequest.{PrewriteRequest}
use Rattle.txn_kv.specs.declared.request.commits.CommitRequest.{CommitRequest}
use Rattle.txn_kv.specs.declared.request.commits.BatchRollbackRequest.{BatchRollbackRequest}
use Rattle.txn_kv.specs.declared.request.locks.PessimisticLockRequest.{PessimisticLockRequest}
use Rattle.txn_kv.specs.declared.request.locks.ResolveLockRequest.{ResolveLockRequest}
use Rattle.txn_kv.specs.declared.request.cluster.TsoRequest.{TsoRequest}
use Rattle.txn_kv.specs.declared.reply.Reply.{Reply}
use Rattle.txn_kv.specs.declared.reply.cluster.TsoResponse.{TsoResponse}
use Rattle.txn_history.specs.Among.{IsAmong}
use Rattle.txn_history.specs.Event.{Event, Has}
use Rattle.txn_history.specs.Event.Event.{Sent, Served}
use Rattle.txn_history.specs.Licence.{IsWithoutError, GivesTimestamp, WasGiven, WasNamed, PessimisticLockLicence, AllAcknowledged, AskedAfter, PrewriteLicence, PrimaryCommitLicence, CommitLicence, BatchRollbackLicence, IsStuck, FellBack, IsLicensed}
use Rattle.txn_history.specs.Plan.{Key, Content, Plan, has_key, LocksKey, Way, is_spread}
use Rattle.txn_model.specs.declared.cell.Cell.{Cell}
use Rattle.txn_model.specs.Locks.{owns}
use Rattle.txn_model.specs.Resolve.{infos}
use Rattle.txn_history.specs.Plan.Way.{TwoPhases, Spread}
use Rattle.txn_law.specs.Run.{store_after, IsCovered, IsUnused}
use Rattle.txn_law.proofs.Phases.{Phase, phase, Move}
use Rattle.txn_law.proofs.Phases.Phase.{Locked, RolledBack}
use Rattle.txn_law.proofs.Phases.Move.{Locks, Commits, Rolls}
use Rattle.txn_law.proofs.Coherent.{AllHeld, coherent_more}
use Rattle.txn_law.proofs.Spread.{IsLost, Walk}
use Rattle.txn_law.proofs.Spread.Walk.{Rests}
use Rattle.txn_law.proofs.Moves.{May, IsPlainOf}
use Rattle.txn_law.proofs.Paths.{stays_step, goes_step}
use Rattle.txn_law.proofs.Bounds.{bounds, own_lock, owned}
use Rattle.txn_law.proofs.Replies.{phases, DecidedIn, DecidedBy}
use Rattle.txn_law.proofs.Invariant.{AllLocked, NamedBy, named_more, WasReplied, replied_more, IsBarred, HangIn, WarrantIn, CellFacts, IsWarranted, WasPrewritten, IsAbove, PrewriteFacts, AdvanceIn, SourceOf, read_time, Inv, advance_kept}
use Rattle.txn_law.proofs.Taken.{means_taken, sent_taken, served_time, given_last, was_shown, held, settled, settled_above, never_back, committed, told, settled_infos, LostIn}
use Rattle.txn_kv.specs.declared.reply.Reply.TheVariants as reply

-- where no phase and no bound changes
pub quiet_in : (plan : Plan) (way : Way) (Less Named : ℕ → Type 0) (Barred More : Key → Type 0) (f g : Key → Phase) (b d : Key → Option ℕ) → ((c : ℕ) → Less c → Named c) → (is_spread way ≡ true → (k : Key) → Barred k → More k) → ((k : Key) → g k ≡ f k) → (is_spread way ≡ true → (k : Key) → d k ≡ b k) → HangIn plan way Less Barred f b → AdvanceIn plan way Named Barred More f g b d
quiet_in plan TwoPhases Less Named Barred More f g b d n m e u h = stays_step plan Named f g (coherent_more plan Less Named f n h) (λ k. inl (e k))
quiet_in plan (Spread ks) Less Named Barred More f g b d n m e u h = goes_step plan ks Barred More f g b d (m refl) h (λ k. subst₂ (Walk plan ks Barred f b k) (sym (e k)) (sym (u refl k)) Rests)

pub spread_of : (way : Way) → is_spread way ≡ true → (ks : List Key) × (way ≡ Spread ks)
spread_of TwoPhases h = absurd (cc)
spread_of (Spread ks) h = (ks, refl)

pub locked_more : (plan : Plan) (es : List Event) (e : Event) (s : ℕ) → AllLocked plan es s → AllLocked plan (e ∷ es) s
locked_more plan es e s a k x w = let h = a k x w in record { ticket = h.ticket; request = h.request; response = h.response; taken = inr h.taken; fine = h.fine; start = h.start; locks = h.locks; locking = h.locking }

pub acknowledged_more : (plan : Plan) (es : List Event) (e : Event) (s : ℕ) → AllAcknowledged plan es s → AllAcknowledged plan (e ∷ es) s
acknowledged_more plan es e s a = record {
  locked = locked_more plan es e s a.locked;
  checked = λ k w. let h = a.checked k w in record { ticket = h.ticket; request = h.request; response = h.response; taken = inr h.taken; fine = h.fine; start = h.start; mutation = h.mutation; names = h.names; key = h.key };
}

pub given_more : (es : List Event) (e : Event) (u : ℕ) → WasGiven es u → WasGiven (e ∷ es) u
given_more es e u w = (w.0, w.1, w.2, w.3, inr w.4, w.5, w.6)

pub asked_ready : (plan : Plan) (es : List Event) (s : ℕ) (t : Ticket) → AskedAfter plan es s t → AllAcknowledged plan es s × WasGiven es s
asked_ready plan [] s t a = absurd a
asked_ready plan (e ∷ es) s t (inl a) = (acknowledged_more plan es e s a.2, given_more es e s a.3)
asked_ready plan (e ∷ es) s t (inr a) = let w = asked_ready plan es s t a in (acknowledged_more plan es e s w.0, given_more es e s w.1)

pub above_next : (plan : Plan) (es : List Event) (e : Event) (s c : ℕ) → ((n : Ticket) (r : Request) → e ≢ Sent n r) → IsAbove plan es s c → IsAbove plan (e ∷ es) s c
above_next plan es e s c f a = (a.0, λ k x w t q h d. elim h [ inl g ↦ absurd (f t (PessimisticLock q) g) | inr u ↦ a.1 k x w t q u d ])

pub prewritten_more : (es : List Event) (e : Event) (s : ℕ) → WasPrewritten es s → WasPrewritten (e ∷ es) s
prewritten_more es e s h = (h.0, h.1, inr h.2, h.3)

pub source_more : (es : List Event) (e : Event) (s : ℕ) (k : Key) → SourceOf es s k → SourceOf (e ∷ es) s k
source_more es e s k h = (h.0, h.1, h.2, inr h.3, h.4, h.5, h.6)

module _ (plans : ℕ → Plan) (es : List Event) (i : Inv plans es) (n : Ticket) (r : Request) (covered : IsCovered r) (unused : IsUnused es n) (l : IsLicensed plans es r) where
  abbrev f : ℕ → Key → Phase
  f s = phases (store_after es) s

  abbrev e : Event
  e = Sent n r

  lock_licence : (q : PessimisticLockRequest) → r ≡ PessimisticLock q → PessimisticLockLicence es q
  lock_licence q d = subst (IsLicensed plans es) d l

  prewrite_licence : (q : PrewriteRequest) → r ≡ Prewrite q → PrewriteLicence (plans q.start_version) es q
  prewrite_licence q d = subst (IsLicensed plans es) d l

  rollback_licence : (q : BatchRollbackRequest) → r ≡ BatchRollback q → BatchRollbackLicence (plans q.start_version) es q
  rollback_licence q d = subst (IsLicensed plans es) d l

  commit_licence : (q : CommitRequest) → r ≡ Commit q → CommitLicence (plans q.start_version) es q
  commit_licence q d = subst (IsLicensed plans es) d l

  no_lock : (t : Ticket) (p : PessimisticLockRequest) → e ≡ Sent t (PessimisticLock p) → WasPrewritten es p.start_version → ⊥
  no_lock t p d h = let k = lock_licence p (cc) in k.unwritten h.0 h.1 h.2 h.3

  above_sent : (s c : ℕ) → ((k : Key) (x : Content) → (plans s).writes k ≡ Some x → WasPrewritten es s) → IsAbove (plans s) es s c → IsAbove (plans s) (e ∷ es) s c
  above_sent s c pre a = (a.0, λ k x w t q h d. elim h [ inl g ↦ absurd (no_lock t q g (subst (WasPrewritten es) (sym d) (pre k x w))) | inr u ↦ a.1 k x w t q u d ])

  acked_prewritten : (s : ℕ) → AllLocked (plans s) es s → (k : Key) (x : Content) → (plans s).writes k ≡ Some x → WasPrewritten es s
  acked_prewritten s a k x w = let h = a k x w in (h.ticket, h.request, sent_taken plans es i h.ticket (Prewrite h.request) (reply.Prewrite h.response) h.taken, h.start)

  barred_more : (s : ℕ) → is_spread (plans s).way ≡ true → (k : Key) → IsBarred es s k → IsBarred (e ∷ es) s k
  barred_more s w k b = (
    (b.0.0, b.0.1, inr b.0.2, b.0.3),
    λ t q h d g. elim h [
      | inl u ↦ (absurd ((prewrite_licence q (cc)).unrolled (subst (λ v. is_spread (plans v).way ≡ true) (sym d) w) b.0.0 b.0.1 b.0.2 (b.0.3 ∙ sym d)))
      | inr u ↦ (let v = b.1 t q u d g in (v.0, replied_more es e t (Prewrite q) v.0 v.1, v.2))
    ],
  )

  -- a key that was stuck has no bound and gets none
  stuck_lost : (s : ℕ) → is_spread (plans s).way ≡ true → (q : BatchRollbackRequest) → r ≡ BatchRollback q → q.start_version ≡ s → IsStuck (plans s) es s → IsLost (plans s).writes (IsBarred (e ∷ es) s) (f s) (bounds es s)
  stuck_lost s way q d g h = (h.key, h.content, h.written, by (bounds es s h.key) refl, inr ((n, q, inl (ap (Sent n) d), g), barred))
    where
      by : (o : Option ℕ) → bounds es s h.key ≡ o → o ≡ None
      by None b = refl
      by (Some m) b =
          let v = i.source s h.key m way b in
          let w = h.failed v.0 v.1 (i.sent v.0 (Prewrite v.1) v.2 v.3) v.4 v.5 in
          absurd (w.2 (subst IsWithoutError (i.once v.0 (Prewrite v.1) (Prewrite v.1) v.2 w.0 v.3 (i.taken v.0 (Prewrite v.1) w.0 w.1)) v.6))

      barred : (t : Ticket) (p : PrewriteRequest) → Has (e ∷ es) (Sent t (Prewrite p)) → p.start_version ≡ s → LocksKey p.mutations h.key → (o : Reply) × WasReplied (e ∷ es) t (Prewrite p) o × (IsWithoutError o → ⊥)
      barred t p v w z = elim v [ inl u ↦ absurd (cc) | inr u ↦ (let a = h.failed t p u w z in (a.0, replied_more es e t (Prewrite p) a.0 (i.taken t (Prewrite p) a.0 a.1), a.2)) ]

  two_or_spread : (s : ℕ) → ((plans s).way ≡ TwoPhases) ⊎ FellBack es s → (ks : List Key) → (plans s).way ≡ Spread ks → ⊥
  two_or_spread s (inl a) ks w = cc
  two_or_spread s (inr a) ks w = never_back plans es i s ks w a

  all_held : (s : ℕ) → (plans s).way ≡ TwoPhases → AllAcknowledged (plans s) es s → AllHeld (plans s) (f s)
  all_held s w a k x d = held plans es i s k w (a.locked k x d)

  asked_above : (s c : ℕ) → PrimaryCommitLicence (plans s) es s c → IsAbove (plans s) es s c
  asked_above s c h = let a = h.asked in i.times s a.0 a.3 a.1 a.2 c (served_time plans es i a.0 a.1 a.2 a.4) a.5

  plain_not : (s : ℕ) (ks : List Key) (c : Cell) (p : Key) (x : Content) → (plans s).way ≡ Spread ks → CellFacts (plans s) c s → phase c s ≡ Locked p x → IsPlainOf c s → ⊥
  plain_not s ks c p x w g h pl =
      let o = own_lock c s p x h in
      let own : owns (Some o.lock) s ≡ true = (let a = o.start in let b = o.prewrite in owned o.lock s a b) in
      let u = g.way o.lock o.here own in
      let v = pl o.lock o.here own in
      let z = ap is_spread w in
      cc

  told_so : (q : ResolveLockRequest) → r ≡ ResolveLock q → (j : TxnInfo) → IsAmong (infos q) j → ((j.status ≡ 0) × LostIn (plans j.txn) (plans j.txn).way (IsBarred es j.txn) (f j.txn) (bounds es j.txn)) ⊎ ((0 < j.status) × DecidedBy (plans j.txn) (f j.txn) (bounds es j.txn) j.status)
  told_so q d j a = told plans es i j.txn j.status ((subst (IsLicensed plans es) d l) j (subst (λ js. IsAmong js j) (sym (settled_infos q q.txn_infos)) a))

  abbrev New : ℕ → Way → Key → Phase → Move → Type 0
  New s way k before m = WarrantIn (plans s) way (NamedBy (plans s) (e ∷ es) s) (IsBarred (e ∷ es) s) (f s) (bounds es s) k before m

  lost_more : (s : ℕ) (ks : List Key) → (plans s).way ≡ Spread ks → IsLost (plans s).writes (IsBarred es s) (f s) (bounds es s) → IsLost (plans s).writes (IsBarred (e ∷ es) s) (f s) (bounds es s)
  lost_more s ks w h = (h.0, h.1, h.2, h.3, elim h.4 [ inl a ↦ inl a | inr a ↦ inr (barred_more s (ap is_spread w) h.0 a) ])

  warrant_prewrite : (q : PrewriteRequest) → r ≡ Prewrite q → (k : Key) (c : Cell) (p : Key) (x : Content) → May (Prewrite q) k q.start_version c (Locks p x) → (way : Way) → (plans q.start_version).way ≡ way → New q.start_version way k (phase c q.start_version) (Locks p x)
  warrant_prewrite q d k c p x h TwoPhases w = let g = prewrite_licence q d in (h.1 ∙ g.primary, subst (λ z. (plans q.start_version).writes z ≡ Some x) h.4 ((g.planned h.2 h.3).1 x h.5))
  warrant_prewrite q d k c p x h (Spread ks) w = let g = prewrite_licence q d in (h.1 ∙ g.primary, subst (λ z. (plans q.start_version).writes z ≡ Some x) h.4 ((g.planned h.2 h.3).1 x h.5), (g.named ks w).0)

  warrant_commit : (q : CommitRequest) → r ≡ Commit q → (k : Key) (c : Cell) → has_key q.keys k ≡ true → (way : Way) → (plans q.start_version).way ≡ way → New q.start_version way k (phase c q.start_version) (Commits q.commit_version)
  warrant_commit q d k c h TwoPhases w = elim (commit_licence q d) [
    | inl a ↦ elim (a.1 k h) [
      | inl b ↦ inl (b.0, all_held q.start_version w b.1.ready, inl ((n, q, inl (ap (Sent n) d), refl, refl, subst (λ z. has_key q.keys z ≡ true) b.0 h), (let z = (asked_above q.start_version q.commit_version b.1).0 in omega (arith, z))))
      | inr b ↦ inr (subst (λ v. DecidedIn (plans q.start_version) v (f q.start_version) (bounds es q.start_version) q.commit_version) w (committed plans es i q.start_version q.commit_version b.1))
    ]
    | inr a ↦ absurd (let z = a.0 in let y = ap is_spread w in cc)
  ]
  warrant_commit q d k c h (Spread ks) w = elim (commit_licence q d) [
    | inl a ↦ absurd (two_or_spread q.start_version a.0 ks w)
    | inr a ↦ settled plans es i q.start_version ks q.commit_version w a.1
  ]

  warrant_rollback : (q : BatchRollbackRequest) → r ≡ BatchRollback q → (k : Key) (c : Cell) → has_key q.keys k ≡ true → (way : Way) → (plans q.start_version).way ≡ way → New q.start_version way k (phase c q.start_version) Rolls
  warrant_rollback q d k c h TwoPhases w = λ p x g. elim (rollback_licence q d).undone [
    | inl a ↦ elim (a.1 k h) [
      | inl b ↦ inl b
      | inr b ↦ inr (subst (λ u. f u (plans q.start_version).primary ≡ RolledBack) b.5 (means_taken plans es i b.0 (BatchRollback b.1) (reply.BatchRollback b.2) b.3 b.4 (plans q.start_version).primary b.6))
    ]
    | inr a ↦ absurd (let z = a.0 in let y = ap is_spread w in cc)
  ]
  warrant_rollback q d k c h (Spread ks) w = λ p x g. elim (rollback_licence q d).undone [
    | inl a ↦ absurd (let z = a.0 in cc)
    | inr a ↦ stuck_lost q.start_version (ap is_spread w) q d refl a.1
  ]

  warrant_status : (s : ℕ) (k p : Key) (c : Cell) → k ≡ p → ((q : Key) (x : Content) → phase c s ≡ Locked q x → q ≡ p) → CellFacts (plans s) c s → (((ks : List Key) → (plans s).way ≡ Spread ks → ⊥) ⊎ IsPlainOf c s) → (way : Way) → (plans s).way ≡ way → New s way k (phase c s) Rolls
  warrant_status s k p c d g facts pl TwoPhases w = λ q x h. inl (d ∙ (sym (g q x h) ∙ facts.names q x h))
  warrant_status s k p c d g facts pl (Spread ks) w = λ q x h. absurd (elim pl [ inl a ↦ a ks w | inr a ↦ plain_not s ks c q x w facts h a ])

  warrant_missing : (s : ℕ) (k : Key) (c : Cell) → ((q : Key) (x : Content) → phase c s ≡ Locked q x → ⊥) → (way : Way) → (plans s).way ≡ way → New s way k (phase c s) Rolls
  warrant_missing s k c h TwoPhases w = λ p x d. absurd (h p x d)
  warrant_missing s k c h (Spread ks) w = λ p x d. absurd (h p x d)

  warrant_resolve : (q : ResolveLockRequest) → r ≡ ResolveLock q → (j : TxnInfo) → IsAmong (infos q) j → (k : Key) (c : Cell) (m : Move) → ((a : ℕ) → m ≡ Commits a → (j.status ≡ a) × (a ≢ 0)) → ((p : Key) (x : Content) → m ≢ Locks p x) → (m ≡ Rolls → j.status ≡ 0) → (way : Way) → (plans j.txn).way ≡ way → New j.txn way k (phase c j.txn) m
  warrant_resolve q d j a k c (Locks p x) g nl h way w = absurd (nl p x refl)
  warrant_resolve q d j a k c (Commits b) g nl h TwoPhases w = elim (told_so q d j a) [
    | inl t ↦ absurd (let z = g b refl in z.1 (sym z.0 ∙ t.0))
    | inr t ↦ inr (subst₂ (λ v u. DecidedIn (plans j.txn) v (f j.txn) (bounds es j.txn) u) w (g b refl).0 t.1)
  ]
  warrant_resolve q d j a k c (Commits b) g nl h (Spread ks) w = elim (told_so q d j a) [
    | inl t ↦ absurd (let z = g b refl in z.1 (sym z.0 ∙ t.0))
    | inr t ↦ subst₂ (λ v u. DecidedIn (plans j.txn) v (f j.txn) (bounds es j.txn) u) w (g b refl).0 t.1
  ]
  warrant_resolve q d j a k c Rolls g nl h TwoPhases w = λ p x o. elim (told_so q d j a) [
    | inl t ↦ inr (subst (λ v. LostIn (plans j.txn) v (IsBarred es j.txn) (f j.txn) (bounds es j.txn)) w t.1)
    | inr t ↦ absurd (let z = h refl in let y = t.0 in omega (arith, z, y))
  ]
  warrant_resolve q d j a k c Rolls g nl h (Spread ks) w = λ p x o. elim (told_so q d j a) [
    | inl t ↦ lost_more j.txn ks w (subst (λ v. LostIn (plans j.txn) v (IsBarred es j.txn) (f j.txn) (bounds es j.txn)) w t.1)
    | inr t ↦ absurd (let z = h refl in let y = t.0 in omega (arith, z, y))
  ]

  -- the warrants of the request itself
  may_of : (q : Request) → r ≡ q → (k : Key) (t : ℕ) (c : Cell) (m : Move) → May q k t c m → CellFacts (plans t) c t → New t (plans t).way k (phase c t) m
  may_of (Prewrite q) d k t c (Locks p x) h g = subst (λ u. New u (plans u).way k (phase c u) (Locks p x)) (sym h.0) (warrant_prewrite q d k c p x (refl, h.1, h.2, h.3, h.4, h.5) (plans q.start_version).way refl)
  may_of (Commit q) d k t c (Commits a) h g = subst₂ (λ u v. New u (plans u).way k (phase c u) (Commits v)) (sym h.0) (sym h.1) (warrant_commit q d k c h.2 (plans q.start_version).way refl)
  may_of (BatchRollback q) d k t c Rolls h g = subst (λ u. New u (plans u).way k (phase c u) Rolls) (sym h.0) (warrant_rollback q d k c h.1 (plans q.start_version).way refl)
  may_of (Cleanup q) d k t c Rolls h g = warrant_status t k q.key c h.1 h.2 g (inr h.3) (plans t).way refl
  may_of (CheckTxnStatus q) d k t c Rolls h g = warrant_status t k q.primary_key c h.1 h.2 g (elim h.3 [ inl forced ↦ inl (plain t forced h.0) | inr p ↦ inr p ]) (plans t).way refl
    where
      plain : (t : ℕ) → q.force_sync_commit ≡ true → t ≡ q.lock_ts → (ks : List Key) → (plans t).way ≡ Spread ks → ⊥
      plain t forced at ks w =
          let s = (subst (IsLicensed plans es) d l) forced in
          let a = (was_shown plans es i q.lock_ts s.0 s.1).way in
          let b = s.2 in
          let z = ap is_spread (subst (λ u. (plans u).way ≡ Spread ks) at w) in
          cc
  may_of (CheckSecondaryLocks q) d k t c Rolls h g = warrant_missing t k c h.1 (plans t).way refl
  may_of (ResolveLock q) d k t c (Commits a) h g = subst (λ u. New u (plans u).way k (phase c u) (Commits a)) h.2 (warrant_resolve q d h.0 h.1 k c (Commits a) (λ b e. (h.3 ∙ commits_same a b e, λ z. h.4 (commits_same a b e ∙ z))) (λ p x e. cc) (λ e. absurd (cc)) (plans h.0.txn).way refl)
    where
      commits_same : (a b : ℕ) → Commits a ≡ Commits b → a ≡ b
      commits_same a b e = cc
  may_of (ResolveLock q) d k t c Rolls h g = subst (λ u. New u (plans u).way k (phase c u) Rolls) h.2 (warrant_resolve q d h.0 h.1 k c Rolls (λ b e. absurd (cc)) (λ p x e. cc) (λ e. h.3) (plans h.0.txn).way refl)
  may_of _ d k t c _ h g = absurd h

  warrant_new : IsWarranted plans (e ∷ es) r
  warrant_new = may_of r refl

  facts_new : (t : Ticket) (q : PrewriteRequest) → e ≡ Sent t (Prewrite q) → PrewriteFacts (plans q.start_version) (e ∷ es) (store_after (e ∷ es)) q
  facts_new t q d =
      let g = prewrite_licence q (cc) in
      record {
        planned = g.planned;
        way = g.way;
        named = g.named;
        at_once = g.at_once;
        start_low = given_last plans es i q.start_version g.given.0;
        above = λ v m p h s. elim h [ inl u ↦ absurd (cc) | inr u ↦ g.above v m p u s ];
      }

  read_given : (q : Request) → r ≡ q → read_time q ≤ (store_after es).last
  read_given (Get q) d = given_last plans es i q.version (subst (IsLicensed plans es) d l)
  read_given (BatchGet q) d = given_last plans es i q.version (subst (IsLicensed plans es) d l)
  read_given (Scan q) d = given_last plans es i q.version (subst (IsLicensed plans es) d l)
  read_given (PessimisticLock q) d = given_last plans es i q.for_update_ts (lock_licence q d).given
  read_given _ d = omega arith

  times_sent : (s : ℕ) (t : Ticket) → AskedAfter (plans s) (e ∷ es) s t → (q : TsoRequest) (o : TsoResponse) (c : ℕ) → Has (e ∷ es) (Served t (Tso q) (reply.Tso o)) → GivesTimestamp o c → IsAbove (plans s) (e ∷ es) s c
  times_sent s t a q o c h v = elim h [
    | inl w ↦ absurd (cc)
    | inr u ↦ elim a [
      | inl b ↦ (let w = b.1 in absurd (unused (Tso q) (subst (λ z. Has es (Sent z (Tso q))) (cc) (i.sent t (Tso q) (reply.Tso o) u))))
      | inr b ↦ above_sent s c (acked_prewritten s (asked_ready (plans s) es s t b).0.locked) (i.times s t b q o c u v)
    ]
  ]

  -- a commit of the primary that goes out now
  named_now : (q : CommitRequest) → r ≡ Commit q → has_key q.keys (plans q.start_version).primary ≡ true → (way : Way) → (plans q.start_version).way ≡ way → AllLocked (plans q.start_version) es q.start_version × IsAbove (plans q.start_version) es q.start_version q.commit_version
  named_now q d h way w = elim (commit_licence q d) [
    | inl a ↦ (let b : PrimaryCommitLicence (plans q.start_version) es q.start_version q.commit_version = elim (a.1 (plans q.start_version).primary h) [ inl b ↦ b.1 | inr b ↦ absurd (b.0 refl) ] in (b.ready.locked, asked_above q.start_version q.commit_version b))
    | inr a ↦ (
      (λ k x v. let b = (a.1.each k x v).1 in record { ticket = b.ticket; request = b.request; response = b.response; taken = b.taken; fine = b.fine; start = b.start; locks = b.locks; locking = b.locking }),
      (let ks = spread_of (plans q.start_version).way a.0 in settled_above plans es i q.start_version ks.0 q.commit_version ks.1 (settled plans es i q.start_version ks.0 q.commit_version ks.1 a.1)),
    )
  ]

  named_sent : (s c : ℕ) → WasNamed (plans s) (e ∷ es) s c → AllLocked (plans s) (e ∷ es) s × IsAbove (plans s) (e ∷ es) s c
  named_sent s c h = elim h.2 [
    | inl u ↦ (let w = subst₂ (λ v m. AllLocked (plans v) es v × IsAbove (plans v) es v m) h.3 h.4 (named_now h.1 (cc) (subst (λ v. has_key h.1.keys (plans v).primary ≡ true) (sym h.3) h.5) (plans h.1.start_version).way refl) in (locked_more (plans s) es e s w.0, above_sent s c (acked_prewritten s w.0) w.1))
    | inr v ↦ (let w = i.named s c (h.0, h.1, v, h.3, h.4, h.5) in (locked_more (plans s) es e s w.0, above_sent s c (acked_prewritten s w.0) w.1))
  ]

  same_now : (s c : ℕ) → (plans s).way ≡ TwoPhases → (q : CommitRequest) → r ≡ Commit q → q.start_version ≡ s → q.commit_version ≡ c → has_key q.keys (plans s).primary ≡ true → (d : ℕ) → WasNamed (plans s) es s d → d ≡ c
  same_now s c w q g a b h = subst₂ (λ u v. (d : ℕ) → WasNamed (plans u) es u d → d ≡ v) a b (elim (commit_licence q g) [
    | inl m ↦ (elim (m.1 (plans q.start_version).primary (subst (λ v. has_key q.keys (plans v).primary ≡ true) (sym a) h)) [ inl z ↦ z.1.same | inr z ↦ absurd (z.0 refl) ])
    | inr m ↦ absurd (let z = m.0 in let y = subst (λ u. (plans u).way ≡ TwoPhases) (sym a) w in let x = ap is_spread y in cc)
  ])

  one_sent : (s c d : ℕ) → (plans s).way ≡ TwoPhases → WasNamed (plans s) (e ∷ es) s c → WasNamed (plans s) (e ∷ es) s d → c ≡ d
  one_sent s c d w h g = elim h.2 [
    | inl u ↦ elim g.2 [
      | inl v ↦ (let same : h.1 ≡ g.1 = cc in sym h.4 ∙ (ap (λ (q : CommitRequest). q.commit_version) same ∙ g.4))
      | inr o ↦ sym (same_now s c w h.1 (cc) h.3 h.4 h.5 d (g.0, g.1, o, g.3, g.4, g.5))
    ]
    | inr o ↦ elim g.2 [
      | inl v ↦ same_now s d w g.1 (cc) g.3 g.4 g.5 c (h.0, h.1, o, h.3, h.4, h.5)
      | inr v ↦ i.one s c d w (h.0, h.1, o, h.3, h.4, h.5) (g.0, g.1, v, g.3, g.4, g.5)
    ]
  ]

  replied_before : (t : Ticket) (q : Request) (o : Reply) → WasReplied (e ∷ es) t q o → WasReplied es t q o
  replied_before t q o (inl h) = elim h [ inl u ↦ absurd (cc) | inr u ↦ inl u ]
  replied_before t q o (inr h) = elim h [ inl u ↦ absurd (cc) | inr u ↦ inr u ]

  pub Sent_kept : Inv plans (e ∷ es)
  Sent_kept = advance_kept plans es e i (record {
    source = λ s k m w h. source_more es e s k (i.source s k m w h);
    once = λ t q p o a h g. elim h [ inl u ↦ absurd (cc) | inr u ↦ i.once t q p o a u (replied_before t p a g) ];
    in_order = i.in_order;
    sound = i.sound;
    later = omega arith;
    low = i.low;
    own = i.own;
    advance = λ s. quiet_in (plans s) (plans s).way (NamedBy (plans s) es s) (NamedBy (plans s) (e ∷ es) s) (IsBarred es s) (IsBarred (e ∷ es) s) (f s) (f s) (bounds es s) (bounds es s) (named_more (plans s) es e s) (barred_more s) (λ k. refl) (λ w k. refl) (i.hang s);
    high = λ s k m h w. let a = i.high s k m h w in (above_sent s m (λ q x v. a.1) a.0, prewritten_more es e s a.1);
    means = λ t q o h. absurd (cc);
    shows = λ t q o h. absurd (cc);
    warranted = λ t q h. subst (λ z. IsCovered z × IsWarranted plans (e ∷ es) z) (cc) (covered, warrant_new);
    prewrites = facts_new;
    no_lock = no_lock;
    reads = λ t q h. read_given q (cc);
    taken = λ t q o h. absurd (cc);
    refused = λ t q o h. absurd (cc);
    sent = λ t q o h. absurd (cc);
    times = times_sent;
    named = named_sent;
    landed = λ s c w h. let a = i.landed s c w h in (a.0, above_sent s c (λ q x v. a.2) a.1, prewritten_more es e s a.2, a.3);
    apart = λ s c w h t q o g. elim g [ inl u ↦ absurd (cc) | inr u ↦ i.apart s c w h t q o u ];
    one = one_sent;
  })
