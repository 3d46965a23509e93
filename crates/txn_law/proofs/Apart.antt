-- No other commit comes between the start of an optimistic commit and its timestamp.
use Rattle.std.proofs.Common.{◌≡◌, ◌≢◌, ℕ, ◌<◌, ◌≤◌, ◌⊎◌, inl, inr, Bool, true, false, ◌&&◌, List, [], ◌∷◌, Option, Some, None, nat_eq, refl, sym, ap, ◌∙◌, subst, subst₂, arith}
use Rattle.std.specs.Prelude.{if◌then◌else◌}
use Rattle.std.proofs.lemmas.Bool.Decides.{nat_tests}
use Rattle.txn_kv.specs.declared.ticket.Ticket.{Ticket}
use Rattle.txn_kv.specs.declared.request.Request.{Request}
use Rattle.txn_kv.specs.declared.request.Request.TheVariants.{PessimisticLock}
use Rattle.txn_kv.specs.declared.request.locks.PessimisticLockRequest.{PessimisticLockRequest}
use Rattle.txn_history.specs.Among.{IsAmong}
use Rattle.txn_history.specs.Event.{Event, Has}
use Rattle.txn_history.specs.Event.Event.{Sent, Served}
use Rattle.txn_model.specs.declared.cell.Cell.{Cell}
use Rattle.txn_model.specs.declared.cell.Lock.{Lock}
use Rattle.txn_model.specs.declared.cell.Write.{Write}
use Rattle.txn_model.specs.Cells.{cell_at}
use Rattle.txn_model.specs.Commit.{committed, commit_lock}
use Rattle.txn_model.specs.Locks.{is_prewrite, owns, holds, newest_commit, with_commit}
use Rattle.txn_model.specs.Settle.{rolled_back, unlocked}
use Rattle.txn_model.specs.Status.{longer_lived, with_lock}
use Rattle.txn_law.specs.Sound.{IsSound}
use Rattle.txn_law.proofs.Phases.{placed, held, has_with, sound_placed}
use Rattle.txn_law.proofs.Phases.Phase.{Locked}
use Rattle.txn_law.proofs.Phases.Move.{Commits}
use Rattle.txn_history.specs.Plan.{Key, Content, Plan, Way}
use Rattle.txn_history.specs.Plan.Way.{TwoPhases, Spread}
use Rattle.txn_model.specs.Prewrite.{least_bound}
use Rattle.txn_model.specs.Table.{table}
use Rattle.txn_law.specs.Run.{store_after, IsRun, IsUnserved, IsRoomy, IsOptimistic}
use Rattle.txn_law.specs.Whole.{content, HasCommit, HasLock, IsWholeAt}
use Rattle.txn_law.proofs.Moves.{May, CellStep, SetBy, bound_in}
use Rattle.txn_law.proofs.Moves.CellStep.{Same, Places, Landed, Recorded, Made, Released, Held, Renewed}
use Rattle.txn_law.proofs.Replies.{phases, lock_is_phase}
use Rattle.txn_law.proofs.Invariant.{NamedBy, IsBarred, HangIn, IsAbove, Inv}
use Rattle.txn_law.proofs.Taken.{hang, settled_above}
use Rattle.txn_law.proofs.Stepping.{step, warrant}
use Rattle.txn_law.proofs.Kept.{kept, passes}
use Rattle.txn_law.proofs.Bounds.{bounds, owner, same_lock, above_start, above_update}
use Rattle.txn_kv.specs.declared.reply.Reply.{Reply}

-- a time up to which a lock of s looked for commits: its start, or the time of a pessimistic lock of it
abbrev pub Bound : List Event → ℕ → ℕ → Type 0
Bound es s b = (b ≡ s) ⊎ ((t : Ticket) × (q : PessimisticLockRequest) × Has es (Sent t (PessimisticLock q)) × (q.start_version ≡ s) × (b ≡ q.for_update_ts))

-- no commit is above the time up to which the lock looked
abbrev pub LooksPast : List Event → Lock → ℕ → Type 0
LooksPast es l newest = (b : ℕ) × Bound es l.start b × (newest ≤ b)

-- the lock looked past each commit, and no commit comes between an optimistic commit and its start
pub record IsApart (es : List Event) (c : Cell) : Type 0 where
  pub below : (l : Lock) → c.lock ≡ Some l → LooksPast es l (newest_commit c.commits)
  pub apart : (v w : Write) → IsAmong c.commits v → IsAmong c.commits w → v.start ≢ w.start → IsOptimistic es v.start → (w.commit ≤ v.start) ⊎ (v.commit < w.commit)

optimistic_less : (es : List Event) (e : Event) (s : ℕ) → IsOptimistic (e ∷ es) s → IsOptimistic es s
optimistic_less es e s h t q g d = h t q (inr g) d

bound_more : (es : List Event) (e : Event) (s b : ℕ) → Bound es s b → Bound (e ∷ es) s b
bound_more es e s b (inl h) = inl h
bound_more es e s b (inr h) = inr (h.0, h.1, inr h.2, h.3, h.4)

apart_more : (es : List Event) (e : Event) (c : Cell) → IsApart es c → IsApart (e ∷ es) c
apart_more es e c a = record {
  below = λ l h. let w = a.below l h in (w.0, bound_more es e l.start w.0 w.1, w.2);
  apart = λ v w g h o k. a.apart v w g h o (optimistic_less es e v.start k);
}

-- what only takes a lock away
less_lock : (es : List Event) (c : Cell) (o : Option Lock) (rolled : List ℕ) → ((l : Lock) → o ≡ Some l → c.lock ≡ Some l) → IsApart es c → IsApart es (record { key = c.key; lock = o; commits = c.commits; rolled = rolled })
less_lock es c o rolled f a = record { below = λ l h. a.below l (f l h); apart = a.apart }

kept_lock : (s : ℕ) (c : Cell) (l : Lock) → (if holds c.lock s then None else c.lock) ≡ Some l → c.lock ≡ Some l
kept_lock s c l h = by (holds c.lock s) h
  where
    by : (b : Bool) → (if b then None else c.lock) ≡ Some l → c.lock ≡ Some l
    by true e = absurd (cc)
    by false e = e

with_lock_apart : (es : List Event) (c : Cell) (l : Lock) → LooksPast es l (newest_commit c.commits) → IsApart es c → IsApart es (with_lock l c)
with_lock_apart es c l b a = record { below = λ n h. subst (λ (q : Lock). LooksPast es q (newest_commit c.commits)) (same_lock l n h) b; apart = a.apart }

placed_apart : (es : List Event) (c : Cell) (l : Lock) → (owns c.lock l.start ≡ false → (newest_commit c.commits ≤ l.start) ⊎ (holds c.lock l.start ≡ true)) → IsApart es c → IsApart es (placed l c)
placed_apart es c l h a = by (owns c.lock l.start) refl
  where
    by_lock : (o : Option Lock) → c.lock ≡ o → holds o l.start ≡ true → LooksPast es l (newest_commit c.commits)
    by_lock None e g = absurd (cc)
    by_lock (Some n) e g =
        let w = a.below n e in
        let same : n.start ≡ l.start = grind (arith, nat_tests) in
        (w.0, subst (λ s. Bound es s w.0) same w.1, w.2)

    by : (b : Bool) → owns c.lock l.start ≡ b → IsApart es (if b then c else held l c)
    by true e = a
    by false e = with_lock_apart es c l (elim (h e) [ inl g ↦ (l.start, inl refl, g) | inr g ↦ by_lock c.lock refl g ]) a

made_apart : (es : List Event) (c : Cell) (s n : ℕ) (l : Lock) (w : Write) → w.start ≡ s → w.commit ≡ n → c.lock ≡ Some l → l.start ≡ s → IsSound c → ((b : ℕ) → Bound es s b → b < n) → IsApart es c → IsApart es (record { key = c.key; lock = None; commits = with_commit w c.commits; rolled = c.rolled })
made_apart es c s n l w ws wn e d i f a = record {
  below = λ m h. absurd (cc);
  apart = λ u v g h o k. by u v o k (has_with w c.commits u g) (has_with w c.commits v h);
}
  where
    looked : LooksPast es l (newest_commit c.commits)
    looked = a.below l e

    past : looked.0 < n
    past = f looked.0 (subst (λ z. Bound es z looked.0) d looked.1)

    start_bound : IsOptimistic es s → looked.0 ≡ s
    start_bound k = elim looked.1 [ inl h ↦ h ∙ d | inr h ↦ absurd (k h.0 h.1 h.2 (h.3 ∙ d)) ]

    by : (u v : Write) → u.start ≢ v.start → IsOptimistic es u.start → (w ≡ u) ⊎ IsAmong c.commits u → (w ≡ v) ⊎ IsAmong c.commits v → (v.commit ≤ u.start) ⊎ (u.commit < v.commit)
    by u v o k (inl x) (inl y) = absurd (o (ap (λ (z : Write). z.start) (sym x ∙ y)))
    by u v o k (inl x) (inr y) =
        let start : u.start ≡ s = ap (λ (z : Write). z.start) (sym x) ∙ ws in
        let low = i.newest v y in
        let at = start_bound (subst (IsOptimistic es) start k) in
        let newest = looked.2 in
        inl (omega (arith, start, low, at, newest))
    by u v o k (inr x) (inl y) =
        let time : v.commit ≡ n = ap (λ (z : Write). z.commit) (sym y) ∙ wn in
        let low = i.newest u x in
        let newest = looked.2 in
        inr (omega (arith, time, low, newest, past))
    by u v o k (inr x) (inr y) = a.apart u v x y o k

committed_apart : (es : List Event) (c : Cell) (s n : ℕ) → IsSound c → ((l : Lock) → c.lock ≡ Some l → (nat_eq l.start s && is_prewrite l.kind) ≡ true → (b : ℕ) → Bound es s b → b < n) → IsApart es c → IsApart es (committed s n c)
committed_apart es c s n i f a = by_lock c.lock refl
  where
    first : (x y : Bool) → (x && y) ≡ true → x ≡ true
    first true y h = refl
    first false y h = absurd (cc)

    by_own : (l : Lock) → c.lock ≡ Some l → (x : Bool) → (nat_eq l.start s && is_prewrite l.kind) ≡ x → IsApart es (if x then record { key = c.key; lock = None; commits = with_commit (record { start = s; commit = n; kind = l.kind; value = l.value }) c.commits; rolled = c.rolled } else c)
    by_own l e true d = made_apart es c s n l (record { start = s; commit = n; kind = l.kind; value = l.value }) refl refl e (let own = first (nat_eq l.start s) (is_prewrite l.kind) d in grind (arith, nat_tests)) i (f l e d) a
    by_own l e false d = a

    by_lock : (o : Option Lock) → c.lock ≡ o → IsApart es (commit_lock s n o c)
    by_lock None e = a
    by_lock (Some l) e = by_own l e (nat_eq l.start s && is_prewrite l.kind) refl

-- each change of a cell by a request that was sent, whose commits are above what their locks looked at
apart_after : (es : List Event) (t : Ticket) (b : ℕ) (r : Request) → Has es (Sent t r) → (k : Key) (c d : Cell) → IsSound c → ((s n : ℕ) (l : Lock) → May r k s c (Commits n) → c.lock ≡ Some l → (nat_eq l.start s && is_prewrite l.kind) ≡ true → (y : ℕ) → Bound es s y → y < n) → ((l : Lock) → SetBy r b true l → (y : ℕ) → Bound es l.start y → y < b) → CellStep b r k c d → IsApart es c → IsApart es d
apart_after es t b r sent k c d i f g Same a = a
apart_after es t b r sent k c d i f g (Places l e o m v w) a = placed_apart es c l o.newest a
apart_after es t b r sent k c d i f g (Landed l e o m v w) a = committed_apart es (placed l c) l.start b (sound_placed l c o i) (λ n h own y. g l v y) (placed_apart es c l o.newest a)
apart_after es t b r sent k c d i f g (Recorded s o m) a = less_lock es c (rolled_back s c).lock (rolled_back s c).rolled (kept_lock s c) a
apart_after es t b r sent k c d i f g (Made s n m) a = committed_apart es c s n i (λ l e own. f s n l m e own) a
apart_after es t b r sent k c d i f g (Released s) a = by (owns c.lock s)
  where
    by : (x : Bool) → IsApart es (if x then c else unlocked s c)
    by true = a
    by false = less_lock es c (unlocked s c).lock c.rolled (kept_lock s c) a
apart_after es t b r sent k c d i f g (Held l e o m) a = with_lock_apart es c l (m.0.for_update_ts, inr (t, m.0, subst (λ z. Has es (Sent t z)) m.1 sent, m.2, refl), m.3) a
apart_after es t b r sent k c d i f g (Renewed l n e) a = with_lock_apart es c (longer_lived n l) (a.below l e) a

module _ (plans : ℕ → Plan) (es : List Event) (i : Inv plans es) (t : Ticket) (r : Request) (o : Reply) (sent : Has es (Sent t r)) (unserved : IsUnserved es t) (room : IsRoomy (store_after es)) where
  above_of : (s n : ℕ) (k : Key) → May r k s (cell_at (store_after es).cells k) (Commits n) → (way : Way) → (plans s).way ≡ way → IsAbove (plans s) es s n
  above_of s n k m TwoPhases w = elim named [ inl g ↦ (i.named s n g.0).1 | inr g ↦ (i.landed s n w g).1 ]
    where
      named : NamedBy (plans s) es s n
      named = elim (warrant plans es i t r o sent unserved s k (Commits n) m TwoPhases w) [
        | inl g ↦ g.2
        | inr g ↦ (subst (λ v. HangIn (plans s) v (NamedBy (plans s) es s) (IsBarred es s) (phases (store_after es) s) (bounds es s)) w (i.hang s)).named n g
      ]
  above_of s n k m (Spread ks) w = settled_above plans es i s ks n w (warrant plans es i t r o sent unserved s k (Commits n) m (Spread ks) w)

  -- the commits of a request that was sent are above what their locks looked at
  above_bound : (k : Key) (s n : ℕ) (l : Lock) → May r k s (cell_at (store_after es).cells k) (Commits n) → (cell_at (store_after es).cells k).lock ≡ Some l → (nat_eq l.start s && is_prewrite l.kind) ≡ true → (y : ℕ) → Bound es s y → y < n
  above_bound k s n l m e own y bound = elim bound [
    | inl d ↦ (let a = above.0 in omega (arith, a, d))
    | inr d ↦ (let a = above.1 k (content l.kind l.value) ((hang plans es i s).locked k l.primary (content l.kind l.value) here).1 d.0 d.1 d.2 d.3 in let z = d.4 in omega (arith, a, z))
  ]
    where
      here : phases (store_after es) s k ≡ Locked l.primary (content l.kind l.value)
      here = let w = owner l s own in subst (λ u. phases (store_after es) u k ≡ Locked l.primary (content l.kind l.value)) w.0 (lock_is_phase (cell_at (store_after es).cells k) l (i.sound k) e w.1)

      above : IsAbove (plans s) es s n
      above = above_of s n k m (plans s).way refl

  landed_bound : (l : Lock) → SetBy r (bound_in (store_after es) r) true l → (y : ℕ) → Bound es l.start y → y < bound_in (store_after es) r
  landed_bound l v y bound =
      let q = v.0 in
      let f = i.prewrites t q (subst (λ z. Has es (Sent t z)) v.1 sent) in
      let same : bound_in (store_after es) r ≡ least_bound (store_after es) q = ap (bound_in (store_after es)) v.1 in
      let start = v.6 in
      elim bound [
        | inl d ↦ (let a = above_start (store_after es) q room f.start_low in omega (arith, a, d, same, start))
        | inr d ↦ (let a = above_update (store_after es) q d.1.for_update_ts room (i.reads d.0 (PessimisticLock d.1) d.2) (f.above (inr v.2) d.0 d.1 d.2 (d.3 ∙ start)) in let x = d.4 in omega (arith, a, x, same))
      ]

apart_kept : (plans : ℕ → Plan) (es : List Event) → IsRun plans es → (k : Key) → IsApart es (cell_at (store_after es).cells k)
apart_kept plans [] run k = record { below = λ l h. absurd (cc); apart = λ v w h. absurd h }
apart_kept plans (Sent n r ∷ es) run k = apart_more es (Sent n r) (cell_at (store_after es).cells k) (apart_kept plans es run.2 k)
apart_kept plans (Served n r o ∷ es) run k =
    let i = kept plans es run.2 in
    let st = store_after es in
    apart_more es (Served n r o) (cell_at (table st r).store.cells k) (apart_after es n (bound_in st r) r run.0.0 k (cell_at st.cells k) (cell_at (table st r).store.cells k) (i.sound k) (λ s c l m e own. above_bound plans es i n r o run.0.0 run.0.2 run.0.3 k s c l m e own) (λ l v. landed_bound plans es i n r o run.0.0 run.0.2 run.0.3 l v) (step plans es i n r o run.0.0 run.0.2 k) (apart_kept plans es run.2 k))
apart_kept plans (e ∷ es) run k = apart_more es e (cell_at (store_after (e ∷ es)).cells k) (subst (λ cs. IsApart es (cell_at cs k)) (sym (passes es e tt).cells) (apart_kept plans es run.2 k))

-- no key of a whole optimistic start has a commit of another start between
pub law_between : (plans : ℕ → Plan) (es : List Event) → IsRun plans es → (s c : ℕ) → IsOptimistic es s → IsWholeAt (plans s) (store_after es).cells s c → (k : Key) (x : Content) → (plans s).writes k ≡ Some x → (w : Write) → IsAmong (cell_at (store_after es).cells k).commits w → w.start ≢ s → (w.commit ≤ s) ⊎ (c < w.commit)
law_between plans es run s c free h k x e w g o = elim (h.each k x e) [ inl v ↦ by_commit v | inr l ↦ inl (by_lock l) ]
  where
    by_commit : HasCommit (cell_at (store_after es).cells k) s c x → (w.commit ≤ s) ⊎ (c < w.commit)
    by_commit v = subst₂ (λ y z. (w.commit ≤ y) ⊎ (z < w.commit)) v.start v.commit ((apart_kept plans es run k).apart v.write w v.among g (λ d. o (sym d ∙ v.start)) (subst (IsOptimistic es) (sym v.start) free))

    by_lock : HasLock (cell_at (store_after es).cells k) s (plans s).primary x → w.commit ≤ s
    by_lock l =
        let b = (apart_kept plans es run k).below l.lock l.here in
        let low = ((kept plans es run).sound k).newest w g in
        let newest = b.2 in
        let start = l.start in
        elim b.1 [ inl d ↦ omega (arith, low, newest, d, start) | inr d ↦ absurd (free d.0 d.1 d.2 (d.3 ∙ start)) ]
