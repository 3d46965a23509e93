-- A Prewrite that is served: what its start goes on by, and what its reply says.
use Rattle.std.proofs.Common.{◌≡◌, ℕ, ◌≤◌, ◌⊎◌, inl, inr, Bool, true, false, ◌&&◌, ◌||◌, List, [], ◌∷◌, Option, Some, None, nat_eq, refl, sym, ap, ◌∙◌, subst, arith}
use Rattle.std.specs.Prelude.{if◌then◌else◌, is_some}
use Rattle.std.proofs.lemmas.Bool.Decides.{nat_tests}
use Rattle.txn_kv.specs.declared.ticket.Ticket.{Ticket}
use Rattle.txn_kv.specs.declared.request.Request.TheVariants.{Prewrite}
use Rattle.txn_kv.specs.declared.request.commits.PrewriteRequest.{PrewriteRequest}
use Rattle.txn_kv.specs.declared.reply.Reply.{Reply}
use Rattle.txn_kv.specs.declared.reply.commits.PrewriteResponse.{PrewriteResponse}
use Rattle.txn_kv.specs.declared.message.KeyError.{KeyError}
use Rattle.txn_kv.specs.declared.message.RegionErr.{RegionErr}
use Rattle.txn_history.specs.Event.{Event, Has}
use Rattle.txn_history.specs.Event.Event.{Sent, Served}
use Rattle.txn_history.specs.Licence.{IsWithoutError}
use Rattle.txn_history.specs.Plan.{Key, Content, Plan, LocksKey, Way, is_spread}
use Rattle.txn_model.specs.declared.cell.Cell.{Cell}
use Rattle.txn_model.specs.declared.cell.Lock.{Lock}
use Rattle.txn_model.specs.declared.cell.Write.{Write}
use Rattle.txn_model.specs.Cells.{cell_at}
use Rattle.txn_model.specs.Locks.{is_prewrite, owns, commit_of, or_earlier}
use Rattle.txn_model.specs.Placement.{region_check}
use Rattle.txn_model.specs.Store.{Store}
use Rattle.txn_history.specs.Plan.Way.{TwoPhases, Spread}
use Rattle.txn_model.specs.Prewrite.{least_bound, is_plain_lock, bound_at, prewrite_by, prewrite_errors, passed_commit, one_phase_by, locking_by}
use Rattle.txn_model.specs.Table.{table}
use Rattle.txn_law.specs.Run.{store_after, IsUnserved, IsRoomy}
use Rattle.txn_law.specs.Whole.{content}
use Rattle.txn_law.proofs.Phases.{Phase, phase, IsSound}
use Rattle.txn_law.proofs.Phases.Phase.{Free, Locked, Committed, RolledBack}
use Rattle.txn_law.proofs.Coherent.{IsLockedOrCommitted, coherent_more}
use Rattle.txn_law.proofs.Replies.{IsCommitted, committed_phase, phases, DecidedIn, DecidedBy, HeldIn, PrewriteMeans}
use Rattle.txn_law.proofs.Spread.{IsSettled}
use Rattle.txn_law.proofs.Moves.{LandsAt}
use Rattle.txn_law.proofs.Prewriting.{stands}
use Rattle.txn_law.proofs.Paths.{Lands, LandsAll, lands_stays, lands_goes}
use Rattle.txn_law.proofs.Bounds.{bounds, bound_now, own_lock, now_locked, now_committed, no_commit}
use Rattle.txn_law.proofs.Prewritten.{once_outcome, OnceDid, once_did, LockingDid, locking_did, told_greatest, key_bound}
use Rattle.txn_law.proofs.Invariant.{NamedBy, named_more, IsBarred, HangIn, AdvanceIn, OwnIs, PrewriteFacts, Inv, Hang, hang_facts, hang_in}
use Rattle.txn_law.proofs.Taken.{hang}
use Rattle.txn_law.proofs.Stepping.{step, sound_now, step_advance, still_advance, own_now, unbarred, rests, barred_more}
use Rattle.txn_kv.specs.declared.reply.Reply.TheVariants as reply

-- the reply to a Prewrite
pub prewrite_reply : (st : Store) (q : PrewriteRequest) → (o : PrewriteResponse) × ((table st (Prewrite q)).reply ≡ reply.Prewrite o)
prewrite_reply st q = by (region_check st.regions q.context) (prewrite_errors st.cells q q.mutations q.is_pessimistic_lock) (passed_commit st.cells q.start_version q.mutations)
  where
    by_once : (b : Bool) (w : Option Write) → (o : PrewriteResponse) × ((if b then one_phase_by w st q else locking_by st q).reply ≡ reply.Prewrite o)
    by_once true (Some w) = (record { region_error = None; errors = []; min_commit_ts = 0; one_pc_commit_ts = w.commit }, refl)
    by_once true None = (record { region_error = None; errors = []; min_commit_ts = 0; one_pc_commit_ts = least_bound st q }, refl)
    by_once false w = (_, refl)

    by : (e : Option RegionErr) (es : List KeyError) (w : Option Write) → (o : PrewriteResponse) × ((prewrite_by e es w st q).reply ≡ reply.Prewrite o)
    by (Some e) es w = (_, refl)
    by None (x ∷ xs) w = (_, refl)
    by None [] w = by_once q.try_one_pc w

-- without an error, or with no change
pub prewrite_either : (st : Store) (q : PrewriteRequest) → IsWithoutError (table st (Prewrite q)).reply ⊎ ((table st (Prewrite q)).store.cells ≡ st.cells)
prewrite_either st q = by (region_check st.regions q.context) (prewrite_errors st.cells q q.mutations q.is_pessimistic_lock) (passed_commit st.cells q.start_version q.mutations)
  where
    by_once : (b : Bool) (w : Option Write) → IsWithoutError (if b then one_phase_by w st q else locking_by st q).reply ⊎ ((if b then one_phase_by w st q else locking_by st q).store.cells ≡ st.cells)
    by_once true (Some w) = inr refl
    by_once true None = inl (refl, refl)
    by_once false w = inl (refl, refl)

    by : (e : Option RegionErr) (es : List KeyError) (w : Option Write) → IsWithoutError (prewrite_by e es w st q).reply ⊎ ((prewrite_by e es w st q).store.cells ≡ st.cells)
    by (Some e) es w = inr refl
    by None (x ∷ xs) w = inr refl
    by None [] w = by_once q.try_one_pc w

has_phase : (c : Cell) (s : ℕ) → IsSound c → is_some (commit_of c.commits s) ≡ true → (n : ℕ) × (x : Content) × (phase c s ≡ Committed n x)
has_phase c s i h = by (commit_of c.commits s) refl h
  where
    by : (o : Option Write) → commit_of c.commits s ≡ o → is_some o ≡ true → (n : ℕ) × (x : Content) × (phase c s ≡ Committed n x)
    by None e g = absurd (cc)
    by (Some w) e g = (w.commit, content w.kind w.value, committed_phase c s w i e)

stands_phase : (c : Cell) (s : ℕ) → IsSound c → stands c s ≡ true → IsLockedOrCommitted (phase c s)
stands_phase c s i h = by (owns c.lock s) refl h
  where
    by : (a : Bool) → owns c.lock s ≡ a → (a || is_some (commit_of c.commits s)) ≡ true → IsLockedOrCommitted (phase c s)
    by true e g = grind (arith, nat_tests, i.lock s)
    by false e g = let w = has_phase c s i g in let z = w.2 in rw z tt

committed_bound : (c : Cell) (s n : ℕ) (x : Content) → IsSound c → phase c s ≡ Committed n x → bound_at s c.lock (commit_of c.commits s) ≡ n
committed_bound c s n x i h = by_commit (commit_of c.commits s) refl
  where
    by_commit : (o : Option Write) → commit_of c.commits s ≡ o → bound_at s c.lock (commit_of c.commits s) ≡ n
    by_commit None e = absurd (no_commit c s n x e h)
    by_commit (Some w) e = by_lock c.lock refl
      where
        by_lock : (o : Option Lock) → c.lock ≡ o → bound_at s c.lock (commit_of c.commits s) ≡ n
        by_lock None d = grind (arith, nat_tests)
        by_lock (Some l) d = grind (arith, nat_tests, i.lock s)

locked_bound : (c : Cell) (s : ℕ) (l : Lock) → c.lock ≡ Some l → l.start ≡ s → is_prewrite l.kind ≡ true → bound_at s c.lock (commit_of c.commits s) ≡ l.min_commit
locked_bound c s l e a b = grind (arith, nat_tests)

module _ (plans : ℕ → Plan) (es : List Event) (i : Inv plans es) (n : Ticket) (q : PrewriteRequest) (o : Reply) (sent : Has es (Sent n (Prewrite q))) (unserved : IsUnserved es n) where
  abbrev s : ℕ
  s = q.start_version

  abbrev st : Store
  st = store_after es

  abbrev new : Store
  new = (table st (Prewrite q)).store

  abbrev e : Event
  e = Served n (Prewrite q) o

  abbrev f : ℕ → Key → Phase
  f t = phases st t

  abbrev g : ℕ → Key → Phase
  g t = phases new t

  abbrev b : ℕ → Key → Option ℕ
  b t = bounds es t

  abbrev d : ℕ → Key → Option ℕ
  d t k = bound_now (cell_at new.cells k) t (b t k)

  facts : PrewriteFacts (plans s) es st q
  facts = i.prewrites n q sent

  once_key : q.try_one_pc ≡ true → (t : ℕ) (k : Key) → (g t k ≡ f t k) ⊎ LandsAt (least_bound st q) (Prewrite q) k t (cell_at st.cells k) (g t k)
  once_key once t k = once_outcome (least_bound st q) (Prewrite q) k t (cell_at st.cells k) (cell_at new.cells k) once (i.sound k) (step plans es i n (Prewrite q) o sent unserved k)

  lands : (k : Key) → LandsAt (least_bound st q) (Prewrite q) k s (cell_at st.cells k) (g s k) → Lands (plans s) (least_bound st q) (f s) (g s) k
  lands k l = let m = l.2 in (l.1, subst (λ z. (plans s).writes z ≡ Some l.1) m.4 ((facts.planned m.2 m.3).1 l.1 m.5), l.3, l.4)

  abbrev AllLanded : Type 0
  AllLanded = (k : Key) → LocksKey q.mutations k → (commit_of (cell_at st.cells k).commits s ≡ None) × (is_some (commit_of (cell_at new.cells k).commits s) ≡ true)

  pub landing : q.try_one_pc ≡ true → AllLanded → LandsAll (plans s) (least_bound st q) (f s) (g s)
  landing once all = record {
    written = (facts.at_once once).1;
    all = λ k x w. elim (once_key once s k) [
      | inl u ↦ absurd (let a = all k ((facts.at_once once).2 k x w) in let v = has_phase (cell_at new.cells k) s (sound_now plans es i n (Prewrite q) o sent unserved k) a.1 in no_commit (cell_at st.cells k) s v.0 v.1 a.0 (sym u ∙ v.2))
      | inr u ↦ lands k u
    ];
    each = λ k. elim (once_key once s k) [ inl u ↦ inl u | inr u ↦ inr (lands k u) ];
  }

  abbrev To : ℕ → Type 0
  To t = AdvanceIn (plans t) (plans t).way (NamedBy (plans t) (e ∷ es) t) (IsBarred es t) (IsBarred (e ∷ es) t) (f t) (g t) (b t) (d t)

  landed_now : q.try_one_pc ≡ true → LandsAll (plans s) (least_bound st q) (f s) (g s) → NamedBy (plans s) (e ∷ es) s (least_bound st q)
  landed_now once l = inr (inl (refl, once, refl, l))

  landing_advance : q.try_one_pc ≡ true → LandsAll (plans s) (least_bound st q) (f s) (g s) → To s
  landing_advance once l = by (plans s).way refl (i.hang s)
    where
      by : (way : Way) → (plans s).way ≡ way → HangIn (plans s) way (NamedBy (plans s) es s) (IsBarred es s) (f s) (b s) → AdvanceIn (plans s) way (NamedBy (plans s) (e ∷ es) s) (IsBarred es s) (IsBarred (e ∷ es) s) (f s) (g s) (b s) (d s)
      by TwoPhases w h = lands_stays (plans s) (least_bound st q) (f s) (g s) l (NamedBy (plans s) (e ∷ es) s) (coherent_more (plans s) (NamedBy (plans s) es s) (NamedBy (plans s) (e ∷ es) s) (f s) (named_more (plans s) es e s) h) (landed_now once l)
      by (Spread ks) w h = lands_goes (plans s) ks (IsBarred es s) (IsBarred (e ∷ es) s) (f s) (g s) (b s) (d s) (least_bound st q) (barred_more plans es i n (Prewrite q) o sent unserved s) h (facts.named ks w).0 l
          (λ k u. rests plans es i n (Prewrite q) o sent unserved s ks w k u)
          (λ k u. now_committed (cell_at new.cells k) s (least_bound st q) u.0 (b s k) (sound_now plans es i n (Prewrite q) o sent unserved k) u.3 ∙ (let z = h.free k u.2 in ap (λ y. or_earlier y (Some (least_bound st q))) z))
          (λ k u r. elim (once_key once s k) [ inl v ↦ absurd (let x = u.2 in let y = u.3 in cc) | inr v ↦ unbarred plans es i n (Prewrite q) o sent unserved s k v.0 v.1 v.2 r ])

  same_cells : new.cells ≡ st.cells → (t : ℕ) (k : Key) → g t k ≡ f t k
  same_cells h t k = ap (λ cs. phase (cell_at cs k) t) h

  once_advance : q.try_one_pc ≡ true → (t : ℕ) → To t
  once_advance once t = by (nat_eq t s) refl
    where
      reply_is : (p : PrewriteResponse) × ((table st (Prewrite q)).reply ≡ reply.Prewrite p)
      reply_is = prewrite_reply st q

      own : (u : ℕ) → u ≡ s → OnceDid st q new reply_is.0 → To u
      own u a (OnceDid.Refused bad same) = still_advance plans es i n (Prewrite q) o sent unserved u (same_cells same u)
      own u a (OnceDid.Passed k w v free same told) = still_advance plans es i n (Prewrite q) o sent unserved u (same_cells same u)
      own u a (OnceDid.AllLanded all told) = subst To (sym a) (landing_advance once (landing once all))

      by : (c : Bool) → nat_eq t s ≡ c → To t
      by true h = own t (grind (arith, nat_tests)) (once_did st q i.in_order once reply_is.0 reply_is.1)
      by false h = still_advance plans es i n (Prewrite q) o sent unserved t (λ k. elim (once_key once t k) [ inl u ↦ u | inr u ↦ absurd (let m = u.2.0 in grind (arith, nat_tests)) ])

  pub prewrite_advance : (t : ℕ) → To t
  prewrite_advance t = by q.try_one_pc refl
    where
      by : (c : Bool) → q.try_one_pc ≡ c → To t
      by true h = once_advance h t
      by false h = step_advance plans es i n (Prewrite q) o sent unserved h t

  -- how the start hangs together then
  pub hang_now : (t : ℕ) → Hang (plans t) (plans t).way (g t) (d t)
  hang_now t = hang_facts (plans t) (plans t).way (NamedBy (plans t) (e ∷ es) t) (IsBarred (e ∷ es) t) (g t) (d t) (hang_in (plans t) (plans t).way (NamedBy (plans t) (e ∷ es) t) (IsBarred es t) (IsBarred (e ∷ es) t) (f t) (g t) (b t) (d t) (prewrite_advance t))

  -- no prewrite lock of the start stands, and it is decided: the key is committed
  passed_committed : (k : Key) → LocksKey q.mutations k → owns (cell_at st.cells k).lock s ≡ false → (c : ℕ) → DecidedBy (plans s) (f s) (b s) c → IsCommitted (f s k)
  passed_committed k l free c u = elim ((hang plans es i s).whole c u k l.1 (subst (λ z. (plans s).writes z ≡ Some l.1) l.3 ((facts.planned l.0 l.2).1 l.1 l.4))) [
    | inl h ↦ absurd (let o = own_lock (cell_at st.cells k) s (plans s).primary l.1 h in let a = o.here in let c = o.start in let d = o.prewrite in grind (arith, nat_tests))
    | inr h ↦ rw h tt
  ]

  once_means : q.try_one_pc ≡ true → (p : PrewriteResponse) → (table st (Prewrite q)).reply ≡ reply.Prewrite p → IsWithoutError (reply.Prewrite p) → DecidedBy (plans s) (g s) (d s) p.one_pc_commit_ts × ((k : Key) → LocksKey q.mutations k → IsCommitted (g s k))
  once_means once p h fine = by (once_did st q i.in_order once p h)
    where
      by : OnceDid st q new p → DecidedBy (plans s) (g s) (d s) p.one_pc_commit_ts × ((k : Key) → LocksKey q.mutations k → IsCommitted (g s k))
      by (OnceDid.Refused bad same) = absurd (bad fine)
      by (OnceDid.Passed k w v free same told) =
          let was = committed_phase (cell_at st.cells k) s w (i.sound k) v in (
            subst (DecidedBy (plans s) (g s) (d s)) (sym told) ((hang_now s).committed k w.commit (content w.kind w.value) (same_cells same s k ∙ was)).1,
            λ j l. subst IsCommitted (sym (same_cells same s j)) (passed_committed j l (free j l) w.commit ((hang plans es i s).committed k w.commit (content w.kind w.value) was).1),
          )
      by (OnceDid.AllLanded all told) =
          let l = landing once all in
          let a = l.all (plans s).primary l.written.0 l.written.1 in (
            subst (DecidedBy (plans s) (g s) (d s)) (sym told) ((hang_now s).committed (plans s).primary (least_bound st q) a.0 a.3).1,
            λ j v. let w = has_phase (cell_at new.cells j) s (sound_now plans es i n (Prewrite q) o sent unserved j) (all j v).1 in let z = w.2 in rw z tt,
          )

  module _ (room : IsRoomy st) where
    own : (t : ℕ) (k : Key) (l : Lock) → (cell_at new.cells k).lock ≡ Some l → owns (Some l) t ≡ true → OwnIs (plans t) k l (d t k)
    own = own_now plans es i n (Prewrite q) o sent unserved room

    not_plain : (ks : List Key) → (plans s).way ≡ Spread ks → (k : Key) → is_plain_lock s (cell_at new.cells k).lock ≡ false
    not_plain ks w k = by (cell_at new.cells k).lock refl
      where
        by_own : (l : Lock) → (cell_at new.cells k).lock ≡ Some l → (a c : Bool) → (nat_eq l.start s && is_prewrite l.kind) ≡ a → l.use_async ≡ c → is_plain_lock s (Some l) ≡ false
        by_own l h false c u v = rw u refl
        by_own l h true true u v = rw (u, v) refl
        by_own l h true false u v = absurd (let z = (own s k l h u).way in let y = ap is_spread w in cc)

        by : (m : Option Lock) → (cell_at new.cells k).lock ≡ m → is_plain_lock s m ≡ false
        by None h = refl
        by (Some l) h = by_own l h (nat_eq l.start s && is_prewrite l.kind) l.use_async refl refl

    locking_means : q.try_one_pc ≡ false → (p : PrewriteResponse) → (table st (Prewrite q)).reply ≡ reply.Prewrite p → IsWithoutError (reply.Prewrite p) → (k : Key) → LocksKey q.mutations k → HeldIn (plans s) (plans s).way (g s) (d s) q p.min_commit_ts k
    locking_means later p h fine k l = by (plans s).way refl
      where
        did : LockingDid st q new p
        did = locking_did st q i.in_order later p h fine

        key_says : (ks : List Key) → (plans s).way ≡ Spread ks → (j : Key) → LocksKey q.mutations j → (a : Phase) → g s j ≡ a → IsLockedOrCommitted a → (((x : Content) × ((plans s).writes j ≡ Some x) × (d s j ≡ Some (key_bound new.cells s j))) ⊎ IsSettled (plans s).writes (d s) (key_bound new.cells s j)) × ((m : ℕ) × (d s j ≡ Some m) × (m ≤ key_bound new.cells s j))
        key_says ks w j v (Locked y x) u c =
            let a = own_lock (cell_at new.cells j) s y x u in
            let z = now_locked (cell_at new.cells j) s a.lock (b s j) a.here a.start a.prewrite in
            let t = locked_bound (cell_at new.cells j) s a.lock a.here a.start a.prewrite in
            let at : d s j ≡ Some (key_bound new.cells s j) = z ∙ ap Some (sym t) in
            (inl (x, ((hang_now s).locked j y x u).1, at), (key_bound new.cells s j, at, omega arith))
        key_says ks w j v (Committed m x) u c =
            let a = (hang_now s).committed j m x u in
            let t = committed_bound (cell_at new.cells j) s m x (sound_now plans es i n (Prewrite q) o sent unserved j) u in
            let z : IsSettled (plans s).writes (d s) m = subst (λ y. DecidedIn (plans s) y (g s) (d s) m) w a.1 in
            let y = z.below j x a.0 in
            (inr (subst (IsSettled (plans s).writes (d s)) (sym t) z), (y.0, y.1, (let r = y.2 in omega (arith, r, t))))
        key_says ks w j v Free u c = absurd c
        key_says ks w j v RolledBack u c = absurd c

        says : (ks : List Key) → (plans s).way ≡ Spread ks → (j : Key) → LocksKey q.mutations j → (((x : Content) × ((plans s).writes j ≡ Some x) × (d s j ≡ Some (key_bound new.cells s j))) ⊎ IsSettled (plans s).writes (d s) (key_bound new.cells s j)) × ((m : ℕ) × (d s j ≡ Some m) × (m ≤ key_bound new.cells s j))
        says ks w j v = key_says ks w j v (g s j) refl (stands_phase (cell_at new.cells j) s (sound_now plans es i n (Prewrite q) o sent unserved j) (did.stand j v))

        by : (way : Way) → (plans s).way ≡ way → HeldIn (plans s) way (g s) (d s) q p.min_commit_ts k
        by TwoPhases w = inl (stands_phase (cell_at new.cells k) s (sound_now plans es i n (Prewrite q) o sent unserved k) (did.stand k l))
        by (Spread ks) w =
            let t = told_greatest new.cells q (facts.way ∙ ap is_spread w) (not_plain ks w) k l in
            let top = t.attained in
            let same : key_bound new.cells s top.0 ≡ p.min_commit_ts = top.2 ∙ sym did.bound in
            elim (says ks w top.0 top.1).0 [
              | inl a ↦ inl ((λ j v. let z = (says ks w j v).1 in let y = t.below j v in let x = did.bound in (z.0, z.1, (let r = z.2 in omega (arith, r, y, x)))), (top.0, a.0, a.1, a.2 ∙ ap Some same))
              | inr a ↦ inr (subst (IsSettled (plans s).writes (d s)) same a)
            ]

    pub prewrite_means : (p : PrewriteResponse) → (table st (Prewrite q)).reply ≡ reply.Prewrite p → IsWithoutError (reply.Prewrite p) → PrewriteMeans (plans s) (g s) (d s) q p
    prewrite_means p h fine = ((λ once. once_means once p h fine), λ later k l. locking_means later p h fine k l)
