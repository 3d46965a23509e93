-- From what is kept to the law's own words.
use Rattle.std.proofs.Common.{◌≡◌, ℕ, ◌<◌, ◌≤◌, ◌⊎◌, inl, inr, Bool, true, false, ◌&&◌, List, [], ◌∷◌, Option, Some, None, refl, sym, ap, ◌∙◌, subst, arith}
use Rattle.std.proofs.lemmas.Bool.Decides.{nat_tests}
use Rattle.txn_history.specs.Among.{IsAmong}
use Rattle.txn_history.specs.Event.{Event}
use Rattle.txn_history.specs.Event.Event.{Served}
use Rattle.txn_kv.specs.declared.request.Request.TheVariants.{Prewrite, BatchRollback}
use Rattle.txn_history.specs.Licence.{WasNamed, PrimaryCommitted, PrimaryRolledBack, WasSettled, WasOnePhase, WasDecided}
use Rattle.txn_history.specs.Plan.{Key, Content, Plan, Way, is_spread}
use Rattle.txn_model.specs.declared.cell.Cell.{Cell}
use Rattle.txn_model.specs.declared.cell.Lock.{Lock}
use Rattle.txn_model.specs.declared.cell.Write.{Write}
use Rattle.txn_model.specs.Cells.{cell_at}
use Rattle.txn_model.specs.Locks.{has_start, commit_of, is_prewrite}
use Rattle.txn_history.specs.Plan.Way.{TwoPhases, Spread}
use Rattle.txn_law.specs.Run.{store_after, IsRun}
use Rattle.txn_law.specs.Whole.{content, HasCommit, HasLock, HasBound, IsSpreadAt, IsWholeAt, IsAbsent, IsWholeOrAbsent, PrimaryServed, WasAnswered, FitsAnswers}
use Rattle.txn_law.proofs.Phases.{Phase, phase, IsSound}
use Rattle.txn_law.proofs.Phases.Phase.{Free, Locked, Committed, RolledBack}
use Rattle.txn_law.proofs.Spread.{IsSettled, one_decision, not_both, settled_or_not}
use Rattle.txn_law.proofs.Bounds.{bounds, own_lock, owned, same_lock, same_number, no_commit}
use Rattle.txn_law.proofs.Replies.{phases, DecidedIn, DecidedBy}
use Rattle.txn_law.proofs.Invariant.{LandedAt, NamedBy, IsBarred, HangIn, Inv}
use Rattle.txn_law.proofs.Taken.{hang, means_taken, settled, spread_decided, committed, told, one_phase, named_settled, LostIn}
use Rattle.txn_law.proofs.Sent.{spread_of}
use Rattle.txn_law.proofs.Kept.{kept}
use Rattle.txn_law.proofs.Serving.{primary_served}
use Rattle.txn_law.proofs.Coherent.{IsDecidedAt}
use Rattle.txn_kv.specs.declared.reply.Reply.TheVariants as reply

found_commit : (ws : List Write) (s : ℕ) (w : Write) → commit_of ws s ≡ Some w → IsAmong ws w × (w.start ≡ s)
found_commit [] s w h = absurd (cc)
found_commit (v ∷ ws) s w h = grind (arith, nat_tests, found_commit ws s w)

some_commit : (c : Cell) (s n : ℕ) (x : Content) (w : Write) → commit_of c.commits s ≡ Some w → phase c s ≡ Committed n x → (w.commit ≡ n) × (content w.kind w.value ≡ x)
some_commit c s n x w e h = grind (arith, nat_tests)

committed_stands : (c : Cell) (s n : ℕ) (x : Content) → phase c s ≡ Committed n x → HasCommit c s n x
committed_stands c s n x h = by_commit (commit_of c.commits s) refl
  where
    by_commit : (o : Option Write) → commit_of c.commits s ≡ o → HasCommit c s n x
    by_commit None e = absurd (no_commit c s n x e h)
    by_commit (Some w) e = let f = found_commit c.commits s w e in let g = some_commit c s n x w e h in record { write = w; among = f.0; start = f.1; commit = g.0; writes = g.1 }

locked_stands : (c : Cell) (s : ℕ) (p : Key) (x : Content) → phase c s ≡ Locked p x → HasLock c s p x
locked_stands c s p x h = let a = own_lock c s p x h in record { lock = a.lock; here = a.here; start = a.start; under = a.primary; writes = a.writes }

write_phase : (c : Cell) (w : Write) → IsSound c → IsAmong c.commits w → phase c w.start ≡ Committed w.commit (content w.kind w.value)
write_phase c w i h = grind (arith, nat_tests, i.once w h, i.rolled w.start)

module _ (plans : ℕ → Plan) (es : List Event) (i : Inv plans es) (s : ℕ) where
  abbrev plan : Plan
  plan = plans s

  abbrev f : Key → Phase
  f = phases (store_after es) s

  abbrev b : Key → Option ℕ
  b = bounds es s

  abbrev cells : Key → Cell
  cells k = cell_at (store_after es).cells k

  write_stands : (k : Key) (w : Write) → IsAmong (cells k).commits w → w.start ≡ s → f k ≡ Committed w.commit (content w.kind w.value)
  write_stands k w h e = subst (λ t. phase (cells k) t ≡ Committed w.commit (content w.kind w.value)) e (write_phase (cells k) w (i.sound k) h)

  -- a lock of a spread transaction has its bound
  bound_stands : (ks : List Key) → (plans s).way ≡ Spread ks → (k : Key) (x : Content) (m : ℕ) → f k ≡ Locked plan.primary x → b k ≡ Some m → HasBound (cells k) s plan.primary x m
  bound_stands ks w k x m h e =
      let a = own_lock (cells k) s plan.primary x h in
      let o = i.own s k a.lock a.here (owned a.lock s a.start a.prewrite) in
      record { lock = a.lock; here = a.here; start = a.start; under = a.primary; writes = a.writes; async = (let way = o.way ∙ ap is_spread w in let kind = a.prewrite in rw (way, kind) refl); bound = same_number a.lock.min_commit m (sym o.bound ∙ e) }

  spread_at : (ks : List Key) → (plans s).way ≡ Spread ks → (c : ℕ) → IsSettled plan.writes b c → IsSpreadAt plan (store_after es).cells s c
  spread_at ks w c u = record {
    each = λ k x v. elim (whole k x v) [
      | inl l ↦ (let m = u.below k x v in inr (m.0, bound_stands ks w k x m.0 l m.1, m.2))
      | inr e ↦ inl (committed_stands (cells k) s c x e)
    ];
    greatest = (let a = u.attained in (a.0, a.1, a.2, elim (whole a.0 a.1 a.2) [ inl l ↦ inr (bound_stands ks w a.0 a.1 c l a.3) | inr e ↦ inl (committed_stands (cells a.0) s c a.1 e) ]));
  }
    where
      whole : (k : Key) (x : Content) → plan.writes k ≡ Some x → (f k ≡ Locked plan.primary x) ⊎ (f k ≡ Committed c x)
      whole = (hang plans es i s).whole c (spread_decided plans es i s ks c w u)

  pub whole_at : (c : ℕ) → DecidedBy (plans s) f b c → IsWholeAt plan (store_after es).cells s c
  whole_at c u = record {
    decided = by (plans s).way refl u;
    each = λ k x w. elim ((hang plans es i s).whole c u k x w) [ inl l ↦ inr (locked_stands (cells k) s plan.primary x l) | inr e ↦ inl (committed_stands (cells k) s c x e) ];
    others = λ k w h e. let m = (hang plans es i s).committed k w.commit (content w.kind w.value) (write_stands k w h e) in ((hang plans es i s).one w.commit c m.1 u, m.0);
  }
    where
      by : (way : Way) → (plans s).way ≡ way → DecidedIn plan way f b c → ((x : Content) × HasCommit (cells plan.primary) s c x) ⊎ IsSpreadAt plan (store_after es).cells s c
      by TwoPhases w v = inl (v.0, committed_stands (cells plan.primary) s c v.0 v.1)
      by (Spread ks) w v = inr (spread_at ks w c v)

  pub absent : ((c : ℕ) → DecidedBy (plans s) f b c → ⊥) → IsAbsent (store_after es).cells s
  absent n k w h e = n w.commit ((hang plans es i s).committed k w.commit (content w.kind w.value) (write_stands k w h e)).1

  -- whether it is decided can be told
  pub decided_or_not : ((c : ℕ) × DecidedBy plan f b c) ⊎ ((c : ℕ) → DecidedBy plan f b c → ⊥)
  decided_or_not = by_way plan.way refl (i.hang s)
    where
      two : plan.way ≡ TwoPhases → (o : Phase) → f plan.primary ≡ o → ((c : ℕ) × DecidedBy plan f b c) ⊎ ((c : ℕ) → DecidedBy plan f b c → ⊥)
      two w (Committed c x) e = inl (c, subst (λ v. DecidedIn plan v f b c) (sym w) (x, e))
      two w Free e = inr (λ c u. let y = (subst (λ v. DecidedIn plan v f b c) w u).1 in cc)
      two w (Locked p x) e = inr (λ c u. let y = (subst (λ v. DecidedIn plan v f b c) w u).1 in cc)
      two w RolledBack e = inr (λ c u. let y = (subst (λ v. DecidedIn plan v f b c) w u).1 in cc)

      by_way : (way : Way) → plan.way ≡ way → HangIn plan way (NamedBy plan es s) (IsBarred es s) f b → ((c : ℕ) × DecidedBy plan f b c) ⊎ ((c : ℕ) → DecidedBy plan f b c → ⊥)
      by_way TwoPhases w h = two w (f plan.primary) refl
      by_way (Spread ks) w h = elim (settled_or_not plan ks (IsBarred es s) f b h) [
        | inl c ↦ inl (c.0, spread_decided plans es i s ks c.0 w c.1)
        | inr n ↦ inr (λ c u. n c (subst (λ v. DecidedIn plan v f b c) w u))
      ]

  pub whole_or_absent : IsWholeOrAbsent plan (store_after es).cells s
  whole_or_absent = elim decided_or_not [ inl c ↦ inl (c.0, whole_at c.0 c.1) | inr n ↦ inr (absent n) ]

  -- what was answered was decided
  answered : (d : ℕ) → WasAnswered plan es s d → DecidedBy plan f b d
  answered d (inl h) = committed plans es i s d h
  answered d (inr (inl h)) = let ks = spread_of plan.way h.0 in spread_decided plans es i s ks.0 d ks.1 (settled plans es i s ks.0 d ks.1 h.1)
  answered d (inr (inr h)) = one_phase plans es i s d h

  pub answers_fit : FitsAnswers plan es (store_after es).cells s
  answers_fit = elim decided_or_not [
    | inl c ↦ inr (c.0, whole_at c.0 c.1, λ d h. (hang plans es i s).one d c.0 (answered d h) c.1)
    | inr n ↦ inl (absent n, λ d h. n d (answered d h))
  ]

  -- in two phases, who is whole at c has its primary committed at c: no lock is async
  pub primary_decided : plan.way ≡ TwoPhases → (c : ℕ) → IsWholeAt plan (store_after es).cells s c → IsDecidedAt plan f c
  primary_decided w c h = elim h.decided [
    | inl p ↦ at plan.primary p.0 p.1
    | inr p ↦ elim p.greatest.3 [ inl q ↦ at p.greatest.0 p.greatest.1 q | inr q ↦ absurd (no_bound p.greatest.0 p.greatest.1 q) ]
  ]
    where
      at : (k : Key) (x : Content) → HasCommit (cells k) s c x → IsDecidedAt plan f c
      at k x q =
          let o = write_stands k q.write q.among q.start in
          subst (IsDecidedAt plan f) q.commit (subst (λ v. DecidedIn plan v f b q.write.commit) w ((hang plans es i s).committed k q.write.commit (content q.write.kind q.write.value) o).1)

      both : (x y : Bool) → (x && y) ≡ true → (x ≡ true) × (y ≡ true)
      both true true e = (refl, refl)
      both true false e = absurd (cc)
      both false y e = absurd (cc)

      no_bound : (k : Key) (x : Content) → HasBound (cells k) s plan.primary x c → ⊥
      no_bound k x q =
          let a = both q.lock.use_async (is_prewrite q.lock.kind) q.async in
          let way = (i.own s k q.lock q.here (owned q.lock s q.start a.1)).way in
          let z = ap is_spread w in
          let y = a.0 in
          cc

  -- what is lost is absent
  pub lost_absent : LostIn plan (plans s).way (IsBarred es s) f b → IsAbsent (store_after es).cells s
  lost_absent l = absent (λ c u. by (plans s).way c l u)
    where
      by : (way : Way) (c : ℕ) → LostIn plan way (IsBarred es s) f b → DecidedIn plan way f b c → ⊥
      by TwoPhases c l u = let y = u.1 in cc
      by (Spread ks) c l u = not_both plan.writes (IsBarred es s) f b c u l

  -- a primary that is rolled back is the loss of all
  pub rolled_lost : f plan.primary ≡ RolledBack → LostIn plan (plans s).way (IsBarred es s) f b ⊎ ((c : ℕ) → DecidedBy (plans s) f b c → ⊥)
  rolled_lost e = inr (λ c u. elim (by c u) [ inl z ↦ (let y = z in cc) | inr z ↦ cc ])
    where
      by : (c : ℕ) → DecidedBy (plans s) f b c → ((x : Content) × (f plan.primary ≡ Locked plan.primary x)) ⊎ ((x : Content) × (f plan.primary ≡ Committed c x))
      by c u = by_way (plans s).way refl u
        where
          by_way : (way : Way) → (plans s).way ≡ way → DecidedIn plan way f b c → ((x : Content) × (f plan.primary ≡ Locked plan.primary x)) ⊎ ((x : Content) × (f plan.primary ≡ Committed c x))
          by_way TwoPhases w v = inr v
          by_way (Spread ks) w v =
              let h = subst (λ y. HangIn plan y (NamedBy plan es s) (IsBarred es s) f b) w (i.hang s) in
              let a = v.attained in
              let l = (h.listed a.0 c a.3).1 in
              elim ((hang plans es i s).whole c u plan.primary l.0 l.1) [ inl y ↦ inl (l.0, y) | inr y ↦ inr (l.0, y) ]

  pub rolled_absent : f plan.primary ≡ RolledBack → IsAbsent (store_after es).cells s
  rolled_absent e = elim (rolled_lost e) [ inl l ↦ lost_absent l | inr n ↦ absent n ]

pub law_whole : (plans : ℕ → Plan) (es : List Event) → IsRun plans es → (s : ℕ) → IsWholeOrAbsent (plans s) (store_after es).cells s
law_whole plans es run s = whole_or_absent plans es (kept plans es run) s

-- who was told that the primary is committed at c finds s whole at c
pub law_committed : (plans : ℕ → Plan) (es : List Event) → IsRun plans es → (s c : ℕ) → PrimaryCommitted (plans s) es s c → IsWholeAt (plans s) (store_after es).cells s c
law_committed plans es run s c h = let i = kept plans es run in whole_at plans es i s c (committed plans es i s c h)

-- the committer of an async transaction: who was told bounds for all keys finds s whole at the greatest
pub law_settled : (plans : ℕ → Plan) (es : List Event) → IsRun plans es → (s c : ℕ) → is_spread (plans s).way ≡ true → WasSettled (plans s) es s c → IsWholeAt (plans s) (store_after es).cells s c
law_settled plans es run s c w h = let i = kept plans es run in let ks = spread_of (plans s).way w in whole_at plans es i s c (spread_decided plans es i s ks.0 c ks.1 (settled plans es i s ks.0 c ks.1 h))

-- who was answered a one-phase timestamp finds s whole at it
pub law_one_phase : (plans : ℕ → Plan) (es : List Event) → IsRun plans es → (s c : ℕ) → WasOnePhase es s c → IsWholeAt (plans s) (store_after es).cells s c
law_one_phase plans es run s c h = let i = kept plans es run in whole_at plans es i s c (one_phase plans es i s c h)

-- what a resolver was told is so, and stays
pub law_decided : (plans : ℕ → Plan) (es : List Event) → IsRun plans es → (s c : ℕ) → WasDecided es s c → ((c ≡ 0) × IsAbsent (store_after es).cells s) ⊎ IsWholeAt (plans s) (store_after es).cells s c
law_decided plans es run s c h = let i = kept plans es run in elim (told plans es i s c h) [ inl a ↦ inl (a.0, lost_absent plans es i s a.1) | inr a ↦ inr (whole_at plans es i s c a.1) ]

-- who was told that the primary is rolled back finds nothing of s
pub law_rolled_back : (plans : ℕ → Plan) (es : List Event) → IsRun plans es → (s : ℕ) → PrimaryRolledBack (plans s) es s → IsAbsent (store_after es).cells s
law_rolled_back plans es run s h =
    let i = kept plans es run in
    rolled_absent plans es i s (subst (λ u. phases (store_after es) u (plans s).primary ≡ RolledBack) h.5 (means_taken plans es i h.0 (BatchRollback h.1) (reply.BatchRollback h.2) h.3 h.4 (plans s).primary h.6))

-- whole at one timestamp alone
pub one_whole : (plan : Plan) (cs : List Cell) (s c d : ℕ) → IsWholeAt plan cs s c → IsWholeAt plan cs s d → c ≡ d
one_whole plan cs s c d u v = by u.decided v.decided
  where
    commit_one : (a e : ℕ) (k : Key) (x : Content) → IsWholeAt plan cs s a → HasCommit (cell_at cs k) s e x → e ≡ a
    commit_one a e k x w h = sym h.commit ∙ (w.others k h.write h.among h.start).0

    half : (a e : ℕ) → IsWholeAt plan cs s a → IsWholeAt plan cs s e → IsSpreadAt plan cs s a → IsSpreadAt plan cs s e → a ≤ e
    half a e w y p q = elim p.greatest.3 [
      | inl h ↦ (let z = commit_one e a p.greatest.0 p.greatest.1 y h in omega (arith, z))
      | inr h ↦ elim (q.each p.greatest.0 p.greatest.1 p.greatest.2) [
        | inl g ↦ (let z = commit_one a e p.greatest.0 p.greatest.1 w g in omega (arith, z))
        | inr g ↦ (let same = same_lock h.lock g.1.lock (sym h.here ∙ g.1.here) in let z : a ≡ g.0 = sym h.bound ∙ (ap (λ (l : Lock). l.min_commit) same ∙ g.1.bound) in let o = g.2 in omega (arith, z, o))
      ]
    ]

    by : ((x : Content) × HasCommit (cell_at cs plan.primary) s c x) ⊎ IsSpreadAt plan cs s c → ((x : Content) × HasCommit (cell_at cs plan.primary) s d x) ⊎ IsSpreadAt plan cs s d → c ≡ d
    by (inl p) q = commit_one d c plan.primary p.0 v p.1
    by (inr p) (inl q) = sym (commit_one c d plan.primary q.0 u q.1)
    by (inr p) (inr q) = (let x = half c d u v p q in let y = half d c v u q p in omega (arith, x, y))

-- a commit timestamp is above its start
pub law_above : (plans : ℕ → Plan) (es : List Event) → IsRun plans es → (s c : ℕ) → WasNamed (plans s) es s c → s < c
law_above plans es run s c h = ((kept plans es run).named s c h).1.0

-- what was answered fits what is there
pub law_fits : (plans : ℕ → Plan) (es : List Event) → IsRun plans es → (s : ℕ) → FitsAnswers (plans s) es (store_after es).cells s
law_fits plans es run s = answers_fit plans es (kept plans es run) s

-- once the primary is recorded as rolled back, no key has a commit of s
pub law_rolled_stays : (plans : ℕ → Plan) (es : List Event) → IsRun plans es → (s : ℕ) → has_start (cell_at (store_after es).cells (plans s).primary).rolled s ≡ true → IsAbsent (store_after es).cells s
law_rolled_stays plans es run s h = rolled_absent plans es (kept plans es run) s (rw h refl)

-- all Commits of the primary name one timestamp: in two phases by their licence, else since it is settled at each
pub law_one : (plans : ℕ → Plan) (es : List Event) → IsRun plans es → (s c d : ℕ) → WasNamed (plans s) es s c → WasNamed (plans s) es s d → c ≡ d
law_one plans es run s c d h g = by (plans s).way refl
  where
    i : Inv plans es
    i = kept plans es run

    by : (way : Way) → (plans s).way ≡ way → c ≡ d
    by TwoPhases w = i.one s c d w h g
    by (Spread ks) w = one_decision (plans s).writes (bounds es s) c d (named_settled plans es i s ks w c h) (named_settled plans es i s ks w d g)

-- a Prewrite commits all at once where the plan says so
landed_planned : (plans : ℕ → Plan) (es : List Event) → IsRun plans es → (s c : ℕ) → LandedAt (plans s) es s c → (plans s).one_phase ≡ true
landed_planned plans [] run s c h = absurd h
landed_planned plans (Served t (Prewrite q) o ∷ es) run s c (inl h) = subst (λ u. (plans u).one_phase ≡ true) h.0 (((kept plans es run.2).prewrites t q run.0.0).at_once h.1).0
landed_planned plans (Served t (Prewrite q) o ∷ es) run s c (inr h) = landed_planned plans es run.2 s c h
landed_planned plans (_ ∷ es) run s c h = landed_planned plans es run.2 s c h

-- what is whole in two phases was named by a Commit of the primary that was sent
pub law_named : (plans : ℕ → Plan) (es : List Event) → IsRun plans es → (s c : ℕ) → (plans s).way ≡ TwoPhases → (plans s).one_phase ≡ false → IsWholeAt (plans s) (store_after es).cells s c → WasNamed (plans s) es s c
law_named plans es run s c w two h =
    let i = kept plans es run in
    let hang = subst (λ v. HangIn (plans s) v (NamedBy (plans s) es s) (IsBarred es s) (phases (store_after es) s) (bounds es s)) w (i.hang s) in
    elim (hang.named c (primary_decided plans es i s w c h)) [ inl n ↦ n.0 | inr l ↦ absurd (let z = landed_planned plans es run s c l in cc) ]

-- its primary holds the commit
pub law_by_primary : (plans : ℕ → Plan) (es : List Event) → IsRun plans es → (s c : ℕ) → (plans s).way ≡ TwoPhases → IsWholeAt (plans s) (store_after es).cells s c → (x : Content) × HasCommit (cell_at (store_after es).cells (plans s).primary) s c x
law_by_primary plans es run s c w h =
    let d = primary_decided plans es (kept plans es run) s w c h in
    (d.0, committed_stands (cell_at (store_after es).cells (plans s).primary) s c d.0 d.1)

-- and a Commit of the primary at this timestamp was served
pub law_served : (plans : ℕ → Plan) (es : List Event) → IsRun plans es → (s c : ℕ) → (plans s).way ≡ TwoPhases → (plans s).one_phase ≡ false → IsWholeAt (plans s) (store_after es).cells s c → PrimaryServed (plans s) es s c
law_served plans es run s c w two h = primary_served plans es run s c w two (primary_decided plans es (kept plans es run) s w c h)
