-- What a read was answered is what the store shows at its timestamp from then on.
use Rattle.std.proofs.Common.{◌≡◌, ℕ, ◌<◌, ◌≤◌, ◌⊎◌, inl, inr, Bool, true, false, ◌&&◌, List, [], ◌∷◌, Option, Some, None, nat_eq, nat_le, nat_lt, refl, sym, ap, ◌∙◌, subst, subst₂, arith}
use Rattle.std.specs.Prelude.{if◌then◌else◌}
use Rattle.std.proofs.lemmas.Bool.Decides.{nat_tests}
use Rattle.txn_kv.specs.declared.ticket.Ticket.{Ticket}
use Rattle.txn_kv.specs.declared.message.KeyError.{KeyError}
use Rattle.txn_kv.specs.declared.message.Op.{Op}
use Rattle.txn_kv.specs.declared.message.RegionErr.{RegionErr}
use Rattle.txn_kv.specs.declared.request.Request.{Request}
use Rattle.txn_kv.specs.declared.request.Request.TheVariants.{Get, BatchGet, Scan, Prewrite, Commit, PessimisticLock, Tso}
use Rattle.txn_kv.specs.declared.request.commits.PrewriteRequest.{PrewriteRequest}
use Rattle.txn_kv.specs.declared.request.cluster.TsoRequest.{TsoRequest}
use Rattle.txn_kv.specs.declared.reply.Reply.{Reply}
use Rattle.txn_kv.specs.declared.reply.cluster.TsoResponse.{TsoResponse}
use Rattle.txn_history.specs.Busy.{busy, busy_reply}
use Rattle.txn_history.specs.Event.{Event, Has}
use Rattle.txn_history.specs.Event.Event.{Sent, Served, Took}
use Rattle.txn_history.specs.Licence.{GivesTimestamp, WasNamed, AskedAfter, PrimaryCommitLicence, IsLicensed}
use Rattle.txn_history.specs.Plan.{Key, Content, Plan, has_key, Way, is_spread}
use Rattle.txn_kv.specs.declared.request.commits.CommitRequest.{CommitRequest}
use Rattle.txn_model.specs.declared.cell.Cell.{Cell}
use Rattle.txn_model.specs.declared.cell.Kind.{Kind}
use Rattle.txn_model.specs.declared.cell.Lock.{Lock}
use Rattle.txn_model.specs.declared.cell.Write.{Write}
use Rattle.txn_model.specs.Cells.{cell_at}
use Rattle.txn_model.specs.Commit.{committed, commit_lock}
use Rattle.txn_model.specs.Locks.{is_prewrite, is_written, owns, value_at, value_of, last_written, with_commit, all_above, or_earlier, op_of}
use Rattle.txn_model.specs.PessimisticLock.{pessimistic_lock_by, pessimistic_errors}
use Rattle.txn_model.specs.Placement.{region_check}
use Rattle.txn_model.specs.Read.{get_by, batch_get_by, scan_by}
use Rattle.txn_model.specs.Settle.{unlocked}
use Rattle.txn_model.specs.Store.{Store}
use Rattle.txn_history.specs.Plan.Way.{TwoPhases, Spread}
use Rattle.txn_model.specs.Prewrite.{least_bound}
use Rattle.txn_model.specs.Table.{table}
use Rattle.txn_law.specs.Run.{store_after, IsRun, IsUnused, IsUnserved, IsRoomy}
use Rattle.txn_law.specs.Reads.{Reads, Says}
use Rattle.txn_law.specs.Whole.{content}
use Rattle.txn_law.proofs.Phases.{Phase, phase, IsSound, placed, held}
use Rattle.txn_law.proofs.Phases.Phase.{Free, Locked, Committed, RolledBack}
use Rattle.txn_law.proofs.Phases.Move.{Commits}
use Rattle.txn_law.proofs.Coherent.{held_begun}
use Rattle.txn_law.proofs.Reading.{Given, read_given}
use Rattle.txn_law.proofs.Moves.{May, CellStep, bound_in}
use Rattle.txn_law.proofs.Moves.CellStep.{Same, Places, Landed, Recorded, Made, Released, Held, Renewed}
use Rattle.txn_law.proofs.Bounds.{bounds, own_lock, above_reads}
use Rattle.txn_law.proofs.Replies.{phases, timestamps_rise}
use Rattle.txn_law.proofs.Invariant.{NamedBy, IsBarred, HangIn, AdvanceIn, Inv}
use Rattle.txn_law.proofs.Taken.{hang, held as acked, served_time, settled_above}
use Rattle.txn_law.proofs.Sent.{asked_ready}
use Rattle.txn_law.proofs.Clocks.{reads_rise}
use Rattle.txn_law.proofs.Stepping.{step, warrant, now_own}
use Rattle.txn_law.proofs.Kept.{advance, origin, kept, Passes, passes}
use Rattle.txn_kv.specs.declared.message.Op.TheVariants as op
use Rattle.txn_kv.specs.declared.reply.Reply.TheVariants as reply
use Rattle.txn_model.specs.declared.cell.Kind.TheVariants as kinds

-- a content that says what the value of its key is
abbrev pub is_written_op : Op → Bool
is_written_op op.Put = true
is_written_op op.Del = true
is_written_op _ = false

written_op : (kind : Kind) → is_written_op (op_of kind) ≡ is_written kind
written_op kinds.Put = refl
written_op kinds.Del = refl
written_op kinds.Lock = refl
written_op kinds.Pessimistic = refl

-- A commit above t, or one that only locked, changes nothing that is seen at t.

unseen_test : (w : Write) (t : ℕ) → (t < w.commit) ⊎ (is_written w.kind ≡ false) → (nat_le w.commit t && is_written w.kind) ≡ false
unseen_test w t (inl h) = grind (arith, nat_tests)
unseen_test w t (inr h) = grind (arith, nat_tests)

or_none : {X : Type 0} (o : Option X) → or_earlier o None ≡ o
or_none None = refl
or_none (Some x) = refl

last_with : (w : Write) (vs : List Write) (t : ℕ) → (t < w.commit) ⊎ (is_written w.kind ≡ false) → last_written (with_commit w vs) t ≡ last_written vs t
last_with w [] t h = rw (unseen_test w t h) refl
last_with w (v ∷ vs) t h = by (last_with w vs t h) (all_above w.commit (v ∷ vs))
  where
    by : last_written (with_commit w vs) t ≡ last_written vs t → (b : Bool) → last_written (if b then w ∷ v ∷ vs else v ∷ with_commit w vs) t ≡ last_written (v ∷ vs) t
    by rest true = rw (unseen_test w t h) (or_none (last_written (v ∷ vs) t))
    by rest false = ap (λ o. or_earlier o (if nat_le v.commit t && is_written v.kind then Some v else None)) rest

-- what is seen at t stays, unless a lock that says a value becomes a commit of at most t, or a key is committed at once at most at t
abbrev pub Seen : ℕ → Request → Key → ℕ → Cell → Cell → Type 0
Seen b r k t c d = (value_at d.commits t ≡ value_at c.commits t) ⊎ (((s n : ℕ) × (p : Key) × (x : Content) × May r k s c (Commits n) × (phase c s ≡ Locked p x) × (is_written_op x.op ≡ true) × (n ≤ t)) ⊎ ((b ≤ t) × ((q : PrewriteRequest) × (r ≡ Prewrite q))))

own_phase : (s : ℕ) (c : Cell) (l : Lock) → IsSound c → c.lock ≡ Some l → nat_eq l.start s ≡ true → is_prewrite l.kind ≡ true → phase c s ≡ Locked l.primary (content l.kind l.value)
own_phase s c l i e h k = grind (arith, nat_tests, i.lock s)

written_prewrites : (kind : Kind) → is_written kind ≡ true → is_prewrite kind ≡ true
written_prewrites kinds.Put h = refl
written_prewrites kinds.Del h = refl
written_prewrites kinds.Lock h = refl
written_prewrites kinds.Pessimistic h = absurd (cc)

unseen : (s n t : ℕ) (c : Cell) (l : Lock) → c.lock ≡ Some l → (t < n) ⊎ (is_written l.kind ≡ false) → value_at (committed s n c).commits t ≡ value_at c.commits t
unseen s n t c l e h = ap value_of (subst (λ o. last_written (commit_lock s n o c).commits t ≡ last_written c.commits t) (sym e) (by (nat_eq l.start s && is_prewrite l.kind)))
  where
    by : (b : Bool) → last_written (if b then record { key = c.key; lock = None; commits = with_commit (record { start = s; commit = n; kind = l.kind; value = l.value }) c.commits; rolled = c.rolled } else c).commits t ≡ last_written c.commits t
    by true = last_with (record { start = s; commit = n; kind = l.kind; value = l.value }) c.commits t h
    by false = refl

committed_seen : (b : ℕ) (r : Request) (k : Key) (s n t : ℕ) (c : Cell) → IsSound c → May r k s c (Commits n) → Seen b r k t c (committed s n c)
committed_seen b r k s n t c i m = by_lock c.lock refl
  where
    by_tests : (l : Lock) → c.lock ≡ Some l → (x y z : Bool) → nat_eq l.start s ≡ x → is_written l.kind ≡ y → nat_le n t ≡ z → Seen b r k t c (committed s n c)
    by_tests l e true true true a v d = inr (inl (s, n, l.primary, content l.kind l.value, m, own_phase s c l i e a (written_prewrites l.kind v), written_op l.kind ∙ v, grind (arith, nat_tests)))
    by_tests l e x y false a b d = inl (unseen s n t c l e (inl (grind (arith, nat_tests))))
    by_tests l e x false true a b d = inl (unseen s n t c l e (inr b))
    by_tests l e false true true a b d = inl (subst (λ o. value_at (commit_lock s n o c).commits t ≡ value_at c.commits t) (sym e) (rw a refl))

    by_lock : (o : Option Lock) → c.lock ≡ o → Seen b r k t c (committed s n c)
    by_lock None e = inl (subst (λ o. value_at (commit_lock s n o c).commits t ≡ value_at c.commits t) (sym e) refl)
    by_lock (Some l) e = by_tests l e (nat_eq l.start s) (is_written l.kind) (nat_le n t) refl refl refl

land_seen : (b : ℕ) (r : Request) (k : Key) (t : ℕ) (c : Cell) (l : Lock) → owns c.lock l.start ≡ false → ((q : PrewriteRequest) × (r ≡ Prewrite q)) → Seen b r k t c (committed l.start b (placed l c))
land_seen b r k t c l f q = by (nat_lt t b) refl
  where
    now : placed l c ≡ held l c
    now = rw f refl

    by : (x : Bool) → nat_lt t b ≡ x → Seen b r k t c (committed l.start b (placed l c))
    by true h = inl (unseen l.start b t (placed l c) l (ap (λ (z : Cell). z.lock) now) (inl (grind (arith, nat_tests))) ∙ ap (λ (z : Cell). value_at z.commits t) now)
    by false h = inr (inr (grind (arith, nat_tests), q))

seen_after : (b : ℕ) (r : Request) (k : Key) (t : ℕ) (c d : Cell) → IsSound c → CellStep b r k c d → Seen b r k t c d
seen_after b r k t c d i (Made s n m) = committed_seen b r k s n t c i m
seen_after b r k t c d i Same = inl refl
seen_after b r k t c d i (Places l e a w v f) = inl (by (owns c.lock l.start))
  where
    by : (b : Bool) → value_at (if b then c else held l c).commits t ≡ value_at c.commits t
    by true = refl
    by false = refl
seen_after b r k t c d i (Landed l e a w v f) = land_seen b r k t c l f (v.0, v.1)
seen_after b r k t c d i (Recorded s a w) = inl refl
seen_after b r k t c d i (Released s) = inl (by (owns c.lock s))
  where
    by : (b : Bool) → value_at (if b then c else unlocked s c).commits t ≡ value_at c.commits t
    by true = refl
    by false = refl
seen_after b r k t c d i (Held l e a m) = inl refl
seen_after b r k t c d i (Renewed l n e) = inl refl

-- each commit that s may have is above t
abbrev pub Later : Plan → List Event → ℕ → ℕ → Type 0
Later plan es s t = ((c : ℕ) → WasNamed plan es s c → t < c) × ((u : Ticket) (r : TsoRequest) (o : TsoResponse) (c : ℕ) → AskedAfter plan es s u → Has es (Served u (Tso r) (reply.Tso o)) → GivesTimestamp o c → t < c)

abbrev pub LaterIn : Plan → Way → List Event → ℕ → ℕ → Key → Type 0
LaterIn plan TwoPhases es s t k = Later plan es s t
LaterIn plan (Spread ks) es s t k = (m : ℕ) × (bounds es s k ≡ Some m) × (t < m)

pub record Reading (plans : ℕ → Plan) (es : List Event) : Type 0 where
  pub seen : (n : Ticket) (r : Request) (o : Reply) → Has es (Served n r o) → (k : Key) (t : ℕ) → Reads r o k t → t ≤ (store_after es).max_read
  pub says : (n : Ticket) (r : Request) (o : Reply) → Has es (Served n r o) → (k : Key) (t : ℕ) → Reads r o k t → Says r o k (value_at (cell_at (store_after es).cells k).commits t)
  pub later : (n : Ticket) (r : Request) (o : Reply) → Has es (Served n r o) → (k : Key) (t : ℕ) → Reads r o k t → (s : ℕ) (p : Key) (x : Content) → phases (store_after es) s k ≡ Locked p x → is_written_op x.op ≡ true → (t < s) ⊎ LaterIn (plans s) (plans s).way es s t k

-- a read that is served now is at most at the greatest
now_seen : (st : Store) (r : Request) (k : Key) (t : ℕ) → Reads r (table st r).reply k t → t ≤ (table st r).store.max_read
now_seen st (Get r) k t h = by (region_check st.regions r.context) h
  where
    by : (e : Option RegionErr) → Reads (Get r) (get_by e st r).reply k t → t ≤ (get_by e st r).store.max_read
    by (Some e) g = absurd (cc g.2.0)
    by None g = let a = g.1 in omega (arith, a)
now_seen st (BatchGet r) k t h = by (region_check st.regions r.context) h
  where
    by : (e : Option RegionErr) → Reads (BatchGet r) (batch_get_by e st r).reply k t → t ≤ (batch_get_by e st r).store.max_read
    by (Some e) g = absurd (cc g.1)
    by None g = let a = g.0 in omega (arith, a)
now_seen st (Scan r) k t h = by (region_check st.regions r.context) h
  where
    by : (e : Option RegionErr) → Reads (Scan r) (scan_by e st r).reply k t → t ≤ (scan_by e st r).store.max_read
    by (Some e) g = absurd (cc g.1)
    by None g = let a = g.0 in omega (arith, a)
now_seen st (PessimisticLock r) k t h = by (region_check st.regions r.context) (pessimistic_errors st.cells r) h
  where
    by : (e : Option RegionErr) (es : List KeyError) → Reads (PessimisticLock r) (pessimistic_lock_by e es st r).reply k t → t ≤ (pessimistic_lock_by e es st r).store.max_read
    by (Some e) es g = absurd (cc g.1.0)
    by None (x ∷ xs) g = let a = g.0 in omega (arith, a)
    by None [] g = let a = g.0 in omega (arith, a)
now_seen st _ k t h = absurd h

spread_hang : (plans : ℕ → Plan) (es : List Event) → Inv plans es → (s : ℕ) (ks : List Key) → (plans s).way ≡ Spread ks → HangIn (plans s) (Spread ks) (NamedBy (plans s) es s) (IsBarred es s) (phases (store_after es) s) (bounds es s)
spread_hang plans es i s ks w = subst (λ v. HangIn (plans s) v (NamedBy (plans s) es s) (IsBarred es s) (phases (store_after es) s) (bounds es s)) w (i.hang s)

module _ (plans : ℕ → Plan) (es : List Event) (i : Inv plans es) (j : Reading plans es) (n : Ticket) (r : Request) (a : Reply) (sent : Has es (Sent n r)) (unserved : IsUnserved es n) (room : IsRoomy (store_after es)) (told : a ≡ (table (store_after es) r).reply) where
  abbrev st : Store
  st = store_after es

  abbrev new : Store
  new = (table st r).store

  abbrev e : Event
  e = Served n r a

  -- a key that is committed at once is so above all that was read
  high_now : (t : ℕ) → t ≤ st.max_read → bound_in st r ≤ t → (q : PrewriteRequest) → r ≡ Prewrite q → ⊥
  high_now t low b q w =
      let h = above_reads st q room i.low in
      let same : bound_in st r ≡ least_bound st q = ap (bound_in st) w in
      omega (arith, low, b, h, same)

  value_stays : (m : Ticket) (q : Request) (o : Reply) → Has es (Served m q o) → (k : Key) (t : ℕ) → Reads q o k t → value_at (cell_at new.cells k).commits t ≡ value_at (cell_at st.cells k).commits t
  value_stays m q o u k t d = elim (seen_after (bound_in st r) r k t (cell_at st.cells k) (cell_at new.cells k) (i.sound k) (step plans es i n r a sent unserved k)) [
    | inl h ↦ h
    | inr h ↦ elim h [
      | inl w ↦ absurd (by w.0 w.1 w.2 w.3 w.4 w.5 w.6 w.7 (plans w.0).way refl (j.later m q o u k t d w.0 w.2 w.3 w.5 w.6))
      | inr w ↦ absurd (high_now t (j.seen m q o u k t d) w.0 w.1.0 w.1.1)
    ]
  ]
    where
      by : (s c : ℕ) (p : Key) (x : Content) → May r k s (cell_at st.cells k) (Commits c) → phase (cell_at st.cells k) s ≡ Locked p x → is_written_op x.op ≡ true → c ≤ t → (way : Way) → (plans s).way ≡ way → (t < s) ⊎ LaterIn (plans s) (plans s).way es s t k → ⊥
      by s c p x may here wr low TwoPhases w later = elim named [
        | inl g ↦ elim later [ inl y ↦ (let b = (i.named s c g.0).1.0 in omega (arith, b, y, low)) | inr z ↦ (let b = (subst (λ v. LaterIn (plans s) v es s t k) w z).0 c g.0 in omega (arith, b, low)) ]
        | inr g ↦ (let b = (i.landed s c w g).3 k x ((hang plans es i s).locked k p x here).1 in cc)
      ]
        where
          named : NamedBy (plans s) es s c
          named = elim (warrant plans es i n r a sent unserved s k (Commits c) may TwoPhases w) [
            | inl g ↦ g.2
            | inr g ↦ (subst (λ v. HangIn (plans s) v (NamedBy (plans s) es s) (IsBarred es s) (phases st s) (bounds es s)) w (i.hang s)).named c g
          ]
      by s c p x may here wr low (Spread ks) w later =
          let u = warrant plans es i n r a sent unserved s k (Commits c) may (Spread ks) w in
          let v = u.below k x ((hang plans es i s).locked k p x here).1 in
          elim later [
            | inl y ↦ (let b = (settled_above plans es i s ks c w u).0 in omega (arith, b, y, low))
            | inr z ↦ (let y = subst (λ g. LaterIn (plans s) g es s t k) w z in let same : v.0 ≡ y.0 = (let f = v.1 in let g = y.1 in cc) in let f = v.2 in let g = y.2 in omega (arith, same, f, g, low))
          ]

  rises : (u : Ticket) (q : TsoRequest) (p : TsoResponse) (c : ℕ) → e ≡ Served u (Tso q) (reply.Tso p) → GivesTimestamp p c → st.last < c
  rises u q p c h v =
      let same : r ≡ Tso q = cc in
      (timestamps_rise st q p c (subst (λ z. (table st z).reply ≡ reply.Tso p) same (sym told ∙ cc)) v).0

  later_two : (s t : ℕ) → t ≤ st.last → Later (plans s) es s t → Later (plans s) (e ∷ es) s t
  later_two s t b o = (
    (λ c d. elim d.2 [ inl w ↦ absurd (cc) | inr u ↦ o.0 c (d.0, d.1, u, d.3, d.4, d.5) ]),
    (λ m q p c f h v. elim f [ inl w ↦ absurd (let z = w.1 in cc) | inr u ↦ elim h [ inl w ↦ (let z = rises m q p c w v in omega (arith, b, z)) | inr y ↦ o.1 m q p c u y v ] ]),
  )

  read_low : (m : Ticket) (q : Request) (o : Reply) → Has es (Served m q o) → (k : Key) (t : ℕ) → Reads q o k t → t ≤ st.last
  read_low m q o u k t d = let z = j.seen m q o u k t d in let l = i.low in omega (arith, z, l)

  -- a lock that stands now can only be committed above what was read
  later_kept : (m : Ticket) (q : Request) (o : Reply) → Has es (Served m q o) → (k : Key) (t : ℕ) → Reads q o k t → (s : ℕ) (p : Key) (x : Content) → phases new s k ≡ Locked p x → is_written_op x.op ≡ true → (t < s) ⊎ LaterIn (plans s) (plans s).way (e ∷ es) s t k
  later_kept m q o u k t d s p x h y = by_way (plans s).way refl (advance plans es i n a unserved room r sent s)
    where
      two : (plans s).way ≡ TwoPhases → ((c : ℕ) (z : Content) → phases st s k ≡ Committed c z → phases new s k ≡ Committed c z) → (phases st s k ≡ RolledBack → phases new s k ≡ RolledBack) → (plans s).writes k ≡ Some x → (f : Phase) → phases st s k ≡ f → (t < s) ⊎ Later (plans s) (e ∷ es) s t
      two w coms rol wr Free g = inr (later_two s t (read_low m q o u k t d) (
        (λ c z. absurd (held_begun (plans s) (phases st s) k (acked plans es i s k w ((i.named s c z).0 k x wr)) g)),
        (λ v b z c f1 f2 f3. absurd (held_begun (plans s) (phases st s) k (acked plans es i s k w ((asked_ready (plans s) es s v f1).0.locked k x wr)) g)),
      ))
      two w coms rol wr (Locked b z) g =
          let here = ((hang plans es i s).locked k b z g).1 in
          let same : z ≡ x = cc in
          elim (j.later m q o u k t d s b z g (subst (λ (v : Content). is_written_op v.op ≡ true) (sym same) y)) [
            | inl v ↦ inl v
            | inr v ↦ inr (later_two s t (read_low m q o u k t d) (subst (λ f. LaterIn (plans s) f es s t k) w v))
          ]
      two w coms rol wr (Committed c z) g = absurd (let v = coms c z g in cc)
      two w coms rol wr RolledBack g = absurd (let v = rol g in cc)

      spread_case : (ks : List Key) → (plans s).way ≡ Spread ks → ((c : ℕ) (z : Content) → phases st s k ≡ Committed c z → phases new s k ≡ Committed c z) → (phases st s k ≡ RolledBack → phases new s k ≡ RolledBack) → (plans s).writes k ≡ Some x → (t < s) ⊎ ((m : ℕ) × (bounds (e ∷ es) s k ≡ Some m) × (t < m))
      spread_case ks w coms rol wr =
          let z = now_own plans es i n r a sent unserved s k p x h in
          elim (origin plans es i n a unserved room r sent s ks w k z.0.min_commit z.4) [
            | inl old ↦ by_old z.0.min_commit z.4 old (phases st s k) refl
            | inr v ↦ inr (
              z.0.min_commit,
              z.4,
              (
                  let hi = above_reads st v.0 room i.low in
                  let seen = j.seen m q o u k t d in
                  let is = v.4 in
                  omega (arith, hi, seen, is)),
            )
          ]
        where
          by_old : (c : ℕ) → bounds (e ∷ es) s k ≡ Some c → bounds es s k ≡ Some c → (f : Phase) → phases st s k ≡ f → (t < s) ⊎ ((m : ℕ) × (bounds (e ∷ es) s k ≡ Some m) × (t < m))
          by_old c now old Free g = absurd (let v = (spread_hang plans es i s ks w).free k g in cc)
          by_old c now old (Locked b z) g =
              let here = ((hang plans es i s).locked k b z g).1 in
              let same : z ≡ x = cc in
              elim (j.later m q o u k t d s b z g (subst (λ (v : Content). is_written_op v.op ≡ true) (sym same) y)) [
                | inl v ↦ inl v
                | inr v ↦ (let l = subst (λ f. LaterIn (plans s) f es s t k) w v in let eq : l.0 ≡ c = (let f = l.1 in cc) in inr (c, now, (let f = l.2 in omega (arith, f, eq))))
              ]
          by_old c now old (Committed b z) g = absurd (let v = coms b z g in cc)
          by_old c now old RolledBack g = absurd (let v = rol g in cc)

      by_way : (way : Way) → (plans s).way ≡ way → AdvanceIn (plans s) (plans s).way (NamedBy (plans s) (e ∷ es) s) (IsBarred es s) (IsBarred (e ∷ es) s) (phases st s) (phases new s) (bounds es s) (bounds (e ∷ es) s) → (t < s) ⊎ LaterIn (plans s) (plans s).way (e ∷ es) s t k
      by_way TwoPhases w g =
          let v = subst (λ f. AdvanceIn (plans s) f (NamedBy (plans s) (e ∷ es) s) (IsBarred es s) (IsBarred (e ∷ es) s) (phases st s) (phases new s) (bounds es s) (bounds (e ∷ es) s)) w g in
          subst (λ f. (t < s) ⊎ LaterIn (plans s) f (e ∷ es) s t k) (sym w) (two w (v.committed k) (v.rolled k) (v.coherent.locked k p x h).1 (phases st s k) refl)
      by_way (Spread ks) w g =
          let v = subst (λ f. AdvanceIn (plans s) f (NamedBy (plans s) (e ∷ es) s) (IsBarred es s) (IsBarred (e ∷ es) s) (phases st s) (phases new s) (bounds es s) (bounds (e ∷ es) s)) w g in
          subst (λ f. (t < s) ⊎ LaterIn (plans s) f (e ∷ es) s t k) (sym w) (spread_case ks w (v.committed k) (v.rolled k) (v.spread.locked k p x h).1)

  given_now : (k : Key) (t : ℕ) → Reads r a k t → Given new r a k t
  given_now k t d = subst (λ z. Given new r z k t) (sym told) (read_now r (subst (λ z. Reads r z k t) told d))
    where
      read_now : (q : Request) → Reads q (table st q).reply k t → Given (table st q).store q (table st q).reply k t
      read_now (Get q) h = read_given st (Get q) k t i.in_order h
      read_now (BatchGet q) h = read_given st (BatchGet q) k t i.in_order h
      read_now (Scan q) h = read_given st (Scan q) k t i.in_order h
      read_now (PessimisticLock q) h = read_given st (PessimisticLock q) k t i.in_order h
      read_now _ h = absurd h

  later_now : (k : Key) (t : ℕ) → Reads r a k t → (s : ℕ) (p : Key) (x : Content) → phases new s k ≡ Locked p x → is_written_op x.op ≡ true → t < s
  later_now k t d s p x w y =
      let l = own_lock (cell_at new.cells k) s p x w in
      let counts : is_written l.lock.kind ≡ true = sym (written_op l.lock.kind) ∙ (ap (λ (z : Content). is_written_op z.op) l.writes ∙ y) in
      subst (λ z. t < z) l.start ((given_now k t d).1 l.lock l.here counts)

  pub Served_reading : Reading plans (e ∷ es)
  Served_reading = record {
    seen = λ m q o w k t d. elim w [
      | inl f ↦ now_seen st r k t (subst₂ (λ b c. Reads b c k t) (cc) ((let z : o ≡ a = cc in z ∙ told)) d)
      | inr u ↦ (let b = j.seen m q o u k t d in let c = reads_rise st r in omega (arith, b, c))
    ];
    says = λ m q o w k t d. elim w [
      | inl f ↦ subst₂ (λ b c. Says b c k (value_at (cell_at new.cells k).commits t)) (cc) (cc) (given_now k t (subst₂ (λ b c. Reads b c k t) (cc) (cc) d)).0
      | inr u ↦ subst (Says q o k) (sym (value_stays m q o u k t d)) (j.says m q o u k t d)
    ];
    later = λ m q o w k t d s p x b y. elim w [
      | inl f ↦ inl (later_now k t (subst₂ (λ c z. Reads c z k t) (cc) (cc) d) s p x b y)
      | inr u ↦ later_kept m q o u k t d s p x b y
    ];
  }

module _ (plans : ℕ → Plan) (es : List Event) (i : Inv plans es) (j : Reading plans es) (n : Ticket) (r : Request) (unused : IsUnused es n) (l : IsLicensed plans es r) where
  asked_now : (s c : ℕ) → (plans s).way ≡ TwoPhases → (q : CommitRequest) → r ≡ Commit q → q.start_version ≡ s → q.commit_version ≡ c → has_key q.keys (plans s).primary ≡ true → PrimaryCommitLicence (plans s) es s c
  asked_now s c w q g a b h = subst₂ (λ u v. PrimaryCommitLicence (plans u) es u v) a b (elim (subst (IsLicensed plans es) g l) [
    | inl m ↦ (elim (m.1 (plans q.start_version).primary (subst (λ v. has_key q.keys (plans v).primary ≡ true) (sym a) h)) [ inl z ↦ z.1 | inr z ↦ absurd (z.0 refl) ])
    | inr m ↦ absurd (let z = m.0 in let y = subst (λ u. (plans u).way ≡ TwoPhases) (sym a) w in let x = ap is_spread y in cc)
  ])

  later_sent : (s t : ℕ) → (plans s).way ≡ TwoPhases → Later (plans s) es s t → Later (plans s) (Sent n r ∷ es) s t
  later_sent s t w o = (
    (λ c d. elim d.2 [
      | inl e ↦ (let z = (asked_now s c w d.1 (cc) d.3 d.4 d.5).asked in o.1 z.0 z.1 z.2 c z.3 (served_time plans es i z.0 z.1 z.2 z.4) z.5)
      | inr u ↦ o.0 c (d.0, d.1, u, d.3, d.4, d.5)
    ]),
    (λ m q p c a g v. elim g [
      | inl e ↦ absurd (cc)
      | inr u ↦ elim a [
        | inl b ↦ (let z = b.1 in absurd (unused (Tso q) (subst (λ y. Has es (Sent y (Tso q))) (cc) (i.sent m (Tso q) (reply.Tso p) u))))
        | inr b ↦ o.1 m q p c b u v
      ]
    ]),
  )

  later_in : (s t : ℕ) (k : Key) (way : Way) → (plans s).way ≡ way → LaterIn (plans s) way es s t k → LaterIn (plans s) way (Sent n r ∷ es) s t k
  later_in s t k TwoPhases w o = later_sent s t w o
  later_in s t k (Spread ks) w o = o

  pub Sent_reading : Reading plans (Sent n r ∷ es)
  Sent_reading = record {
    seen = λ m q o h. elim h [ inl e ↦ absurd (cc) | inr u ↦ j.seen m q o u ];
    says = λ m q o h. elim h [ inl e ↦ absurd (cc) | inr u ↦ j.says m q o u ];
    later = λ m q o h k t d s p x e g. elim h [ inl w ↦ absurd (cc) | inr u ↦ elim (j.later m q o u k t d s p x e g) [ inl y ↦ inl y | inr z ↦ inr (later_in s t k (plans s).way refl z) ] ];
  }

module _ (plans : ℕ → Plan) (es : List Event) (i : Inv plans es) (j : Reading plans es) (e : Event) (p : Passes es e) where
  later_passed : (s t : ℕ) → Later (plans s) es s t → Later (plans s) (e ∷ es) s t
  later_passed s t o = (
    (λ c d. elim d.2 [ inl w ↦ absurd (p.unsent d.0 (Commit d.1) w) | inr u ↦ o.0 c (d.0, d.1, u, d.3, d.4, d.5) ]),
    (λ m q a c f h v. elim f [ inl w ↦ absurd (p.unsent m (Tso w.0) w.1) | inr u ↦ elim h [ inl w ↦ absurd (p.unserved m (Tso q) (reply.Tso a) w) | inr y ↦ o.1 m q a c u y v ] ]),
  )

  passed_in : (s t : ℕ) (k : Key) (way : Way) → LaterIn (plans s) way es s t k → LaterIn (plans s) way (e ∷ es) s t k
  passed_in s t k TwoPhases o = later_passed s t o
  passed_in s t k (Spread ks) o = (o.0, p.bounds s k ∙ o.1, o.2)

  pub Passed_reading : Reading plans (e ∷ es)
  Passed_reading = record {
    seen = λ m q o w k t d. elim w [ inl f ↦ absurd (p.unserved m q o f) | inr u ↦ (let b = j.seen m q o u k t d in let c = p.max_read in omega (arith, b, c)) ];
    says = λ m q o w k t d. elim w [ inl f ↦ absurd (p.unserved m q o f) | inr u ↦ subst (λ cs. Says q o k (value_at (cell_at cs k).commits t)) (sym p.cells) (j.says m q o u k t d) ];
    later = λ m q o w k t d s y x b v. elim w [
      | inl f ↦ absurd (p.unserved m q o f)
      | inr u ↦ elim (j.later m q o u k t d s y x (subst (λ cs. phase (cell_at cs k) s ≡ Locked y x) p.cells b) v) [ inl z ↦ inl z | inr z ↦ inr (passed_in s t k (plans s).way z) ]
    ];
  }

reading : (plans : ℕ → Plan) (es : List Event) → IsRun plans es → Reading plans es
reading plans [] run = record { seen = λ m q o g. absurd g; says = λ m q o g. absurd g; later = λ m q o g. absurd g }
reading plans (Sent n r ∷ es) run = Sent_reading plans es (kept plans es run.2) (reading plans es run.2) n r run.0 run.1.1
reading plans (Served n r a ∷ es) run = Served_reading plans es (kept plans es run.2) (reading plans es run.2) n r a run.0.0 run.0.2 run.0.3 run.0.1
reading plans (e ∷ es) run = Passed_reading plans es (kept plans es run.2) (reading plans es run.2) e (passes es e tt)

-- a reply of a store that was too busy reads nothing
busy_reads : (r : Request) (o : Reply) (k : Key) (t : ℕ) → busy_reply r ≡ Some o → Reads r o k t → ⊥
busy_reads r o k t e d = by r e d
  where
    by : (q : Request) → busy_reply q ≡ Some o → Reads q o k t → ⊥
    by (Get q) f w = let same : reply.Get (record { region_error = busy; error = None; value = []; not_found = false }) ≡ o = cc in (subst (λ z. Reads (Get q) z k t → ⊥) same (λ x. let a = x.2.0 in absurd (cc))) w
    by (BatchGet q) f w = let same : reply.BatchGet (record { region_error = busy; error = None; pairs = [] }) ≡ o = cc in (subst (λ z. Reads (BatchGet q) z k t → ⊥) same (λ x. let a = x.1 in absurd (cc))) w
    by (Scan q) f w = let same : reply.Scan (record { region_error = busy; error = None; pairs = [] }) ≡ o = cc in (subst (λ z. Reads (Scan q) z k t → ⊥) same (λ x. let a = x.1 in absurd (cc))) w
    by (PessimisticLock q) f w = let same : reply.PessimisticLock (record { region_error = busy; errors = []; values = []; not_founds = [] }) ≡ o = cc in (subst (λ z. Reads (PessimisticLock q) z k t → ⊥) same (λ x. let a = x.1.0 in absurd (cc))) w
    by _ f w = w

-- a read that was answered is the final store's at its timestamp
pub law_read : (plans : ℕ → Plan) (es : List Event) → IsRun plans es → (n : Ticket) (r : Request) (o : Reply) → Has es (Took n r o) → (k : Key) (t : ℕ) → Reads r o k t → Says r o k (value_at (cell_at (store_after es).cells k).commits t)
law_read plans es run n r o h k t d = elim ((kept plans es run).taken n r o h) [
  | inl u ↦ (reading plans es run).says n r o u k t d
  | inr u ↦ absurd (busy_reads r o k t ((kept plans es run).refused n r o u).1 d)
]
