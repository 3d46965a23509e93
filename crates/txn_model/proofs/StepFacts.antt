-- What each change leaves of commits, rolled starts and locks, and what it brings.
use Rattle.std.proofs.Common.{◌≡◌, ℕ, ◌⊎◌, inl, inr, Bool, true, false, ◌&&◌, ◌||◌, cond, Option, Some, None, nat_eq, refl, sym, ap, ◌∙◌, subst, arith}
use Rattle.std.specs.Prelude.{if◌then◌else◌}
use Rattle.std.proofs.lemmas.Bool.Decides.{nat_tests}
use Rattle.txn_kv.specs.declared.request.Request.{Request}
use Rattle.txn_model.specs.declared.cell.Cell.{Cell}
use Rattle.txn_model.specs.declared.cell.Lock.{Lock}
use Rattle.txn_model.specs.declared.cell.Write.{Write}
use Rattle.txn_model.specs.Cells.{Key}
use Rattle.txn_model.specs.Commit.{committed, commit_lock}
use Rattle.txn_model.specs.Locks.{has_start, is_prewrite, owns, holds, commit_of, with_commit}
use Rattle.txn_model.specs.Orderly.{IsOrderly}
use Rattle.txn_model.specs.Settle.{rolled_back, released}
use Rattle.txn_model.specs.Status.{longer_lived}
use Rattle.txn_model.specs.Steps.{PrewritesAt, LandsAt, CommitsAt, RollsBackAt, ReleasesAt, DestroysAt, StandsOn, commit_from, PrewriteLockBecomes, PessimisticLockBecomes}
use Rattle.txn_model.specs.Store.{Store}
use Rattle.txn_model.proofs.Orders.{has_with_start, commit_of_with}
use Rattle.txn_model.proofs.Steps.{CellStep, held, placed_lock}
use Rattle.txn_model.proofs.Steps.CellStep.{Same, Places, Lands, Recorded, Made, Released, Held, Renewed, Destroyed}

-- What stays.

-- the lock becomes a commit, or nothing happens
abbrev made_from : (s n : ℕ) → Lock → Cell → Cell
made_from s n l c = record { key = c.key; lock = None; commits = with_commit (record { start = s; commit = n; kind = l.kind; value = l.value }) c.commits; rolled = c.rolled }

-- what holds of the cell where nothing happens, and where its own lock becomes a commit, holds after a commit
pub by_commit : (P : Cell → Type 0) (s n : ℕ) (c : Cell) → P c → ((l : Lock) → c.lock ≡ Some l → l.start ≡ s → is_prewrite l.kind ≡ true → P (made_from s n l c)) → P (committed s n c)
by_commit P s n c same made_so = by_lock c.lock refl
  where
    by_own : (l : Lock) → c.lock ≡ Some l → (a b : Bool) → nat_eq l.start s ≡ a → is_prewrite l.kind ≡ b → P (if a && b then made_from s n l c else c)
    by_own l e true true f g = made_so l e (grind (arith, nat_tests)) g
    by_own l e true false f g = same
    by_own l e false b f g = same

    by_lock : (o : Option Lock) → c.lock ≡ o → P (commit_lock s n o c)
    by_lock None e = same
    by_lock (Some l) e = by_own l e (nat_eq l.start s) (is_prewrite l.kind) refl refl

-- what holds of the cell, and of it without the lock, holds after a release
pub by_release : (P : Cell → Type 0) (s : ℕ) (c : Cell) → P c → ((l : Lock) → c.lock ≡ Some l → l.start ≡ s → is_prewrite l.kind ≡ false → P (record { key = c.key; lock = None; commits = c.commits; rolled = c.rolled })) → P (released s c)
by_release P s c same gone = by_lock c.lock refl
  where
    by_own : (l : Lock) → c.lock ≡ Some l → (a b : Bool) → nat_eq l.start s ≡ a → is_prewrite l.kind ≡ b → P (if a && b then c else record { key = c.key; lock = if a then None else Some l; commits = c.commits; rolled = c.rolled })
    by_own l e true true f g = same
    by_own l e true false f g = gone l e (grind (arith, nat_tests)) g
    by_own l e false b f g = subst (λ o. P (record { key = c.key; lock = o; commits = c.commits; rolled = c.rolled })) e same

    by_lock : (o : Option Lock) → c.lock ≡ o → P (if owns o s then c else record { key = c.key; lock = if holds o s then None else o; commits = c.commits; rolled = c.rolled })
    by_lock None e = subst (λ o. P (record { key = c.key; lock = o; commits = c.commits; rolled = c.rolled })) e same
    by_lock (Some l) e = by_own l e (nat_eq l.start s) (is_prewrite l.kind) refl refl

module _ (st : Store) (r : Request) (k : Key) (c d : Cell) (i : IsOrderly c) (step : CellStep st r k c d) where
  -- a commit that is there stays
  pub commit_stays : (s : ℕ) (w : Write) → commit_of c.commits s ≡ Some w → (commit_of d.commits s ≡ Some w) ⊎ DestroysAt r k
  commit_stays s w h = by d step
    where
      by : (x : Cell) → CellStep st r k c x → (commit_of x.commits s ≡ Some w) ⊎ DestroysAt r k
      by x Same = inl h
      by x (Places l p a v) = inl (on (owns c.lock l.start))
        where
          on : (b : Bool) → commit_of (if b then c else held l c).commits s ≡ Some w
          on true = h
          on false = h
      by x (Lands l n a e v) = inl (let none = a.uncommitted e in let more = commit_of_with (record { start = l.start; commit = n; kind = l.kind; value = l.value }) c.commits s none in grind (arith, nat_tests))
      by x (Recorded t v) = inl h
      by x (Made t n v) = inl (by_commit (λ y. commit_of y.commits s ≡ Some w) t n c h (λ l e f p.
          let u : owns c.lock t ≡ true = grind (arith, nat_tests) in
          let none = (i.free t u).1 in
          let more = commit_of_with (record { start = t; commit = n; kind = l.kind; value = l.value }) c.commits s none in
          grind (arith, nat_tests)))
      by x (Released t v) = inl (by_release (λ y. commit_of y.commits s ≡ Some w) t c h (λ l e f p. h))
      by x (Held l p a v) = inl h
      by x (Renewed l n e) = inl h
      by x (Destroyed v) = inr v

  -- a start that is recorded as rolled back stays so
  pub rollback_stays : (s : ℕ) → has_start c.rolled s ≡ true → (has_start d.rolled s ≡ true) ⊎ DestroysAt r k
  rollback_stays s h = by d step
    where
      by : (x : Cell) → CellStep st r k c x → (has_start x.rolled s ≡ true) ⊎ DestroysAt r k
      by x Same = inl h
      by x (Places l p a v) = inl (on (owns c.lock l.start))
        where
          on : (b : Bool) → has_start (if b then c else held l c).rolled s ≡ true
          on true = h
          on false = h
      by x (Lands l n a e v) = inl h
      by x (Recorded t v) = inl (has_with_start t c.rolled s ∙ on (nat_eq t s))
        where
          on : (b : Bool) → (b || has_start c.rolled s) ≡ true
          on true = refl
          on false = h
      by x (Made t n v) = inl (by_commit (λ y. has_start y.rolled s ≡ true) t n c h (λ l e f p. h))
      by x (Released t v) = inl (by_release (λ y. has_start y.rolled s ≡ true) t c h (λ l e f p. h))
      by x (Held l p a v) = inl h
      by x (Renewed l n e) = inl h
      by x (Destroyed v) = inr v

  -- What comes.

  -- a commit that is there was there; or comes of an own prewrite lock, by a request that commits it; or is made at once,
  -- where its start was neither rolled back nor locked nor committed
  abbrev CommitComes : ℕ → Write → Type 0
  CommitComes s w =
      (commit_of c.commits s ≡ Some w)
      ⊎ ((l : Lock) × (c.lock ≡ Some l) × (is_prewrite l.kind ≡ true) × (w ≡ commit_from l w.commit) × (l.start ≡ s) × CommitsAt st r k s w.commit)
      ⊎ (LandsAt st r k s w.commit × (has_start c.rolled s ≡ false) × (owns c.lock s ≡ false) × (commit_of c.commits s ≡ None))

  pub commit_comes : (s : ℕ) (w : Write) → commit_of d.commits s ≡ Some w → CommitComes s w
  commit_comes s w h = by d step h
    where
      by : (x : Cell) → CellStep st r k c x → commit_of x.commits s ≡ Some w → CommitComes s w
      by x Same g = inl g
      by x (Places l p a v) g = inl (on (owns c.lock l.start) g)
        where
          on : (b : Bool) → commit_of (if b then c else held l c).commits s ≡ Some w → commit_of c.commits s ≡ Some w
          on true q = q
          on false q = q
      by x (Lands l n a e v) g = on (nat_eq l.start s) refl (sym (commit_of_with (record { start = l.start; commit = n; kind = l.kind; value = l.value }) c.commits s (a.uncommitted e)) ∙ g)
        where
          on : (b : Bool) → nat_eq l.start s ≡ b → cond b (Some (record { start = l.start; commit = n; kind = l.kind; value = l.value })) (commit_of c.commits s) ≡ Some w → CommitComes s w
          on true z q =
              let same : l.start ≡ s = grind (arith, nat_tests) in
              let is : (let x : Write = record { start = l.start; commit = n; kind = l.kind; value = l.value } in x) ≡ w = cc in
              let at : n ≡ w.commit = ap (λ (x : Write). x.commit) is in
              let was = subst (λ t. (has_start c.rolled t ≡ false) × (owns c.lock t ≡ false) × (commit_of c.commits t ≡ None)) same (a.unrolled, e, a.uncommitted e) in
              inr (inr (subst (λ t. LandsAt st r k s t) at (subst (λ t. LandsAt st r k t n) same v), was.0, was.1, was.2))
          on false z q = inl q
      by x (Recorded t v) g = inl g
      by x (Made t n v) g = by_commit (λ y. commit_of y.commits s ≡ Some w → CommitComes s w) t n c (λ q. inl q) (λ l e f p q. on l e f p q) g
        where
          on : (l : Lock) → c.lock ≡ Some l → l.start ≡ t → is_prewrite l.kind ≡ true → commit_of (with_commit (record { start = t; commit = n; kind = l.kind; value = l.value }) c.commits) s ≡ Some w → CommitComes s w
          on l e f p q =
              let new : Write = record { start = t; commit = n; kind = l.kind; value = l.value } in
              let u : owns c.lock t ≡ true = grind (arith, nat_tests) in
              let none = (i.free t u).1 in
              let more : cond (nat_eq t s) (Some new) (commit_of c.commits s) ≡ Some w = sym (commit_of_with new c.commits s none) ∙ q in
              which (nat_eq t s) refl more
            where
              which : (b : Bool) → nat_eq t s ≡ b → cond b (Some (record { start = t; commit = n; kind = l.kind; value = l.value })) (commit_of c.commits s) ≡ Some w → CommitComes s w
              which true z o =
                  let same : t ≡ s = grind (arith, nat_tests) in
                  let is : (let x : Write = record { start = t; commit = n; kind = l.kind; value = l.value } in x) ≡ w = cc in
                  let at : n ≡ w.commit = ap (λ (x : Write). x.commit) is in
                  let writes : commit_from l n ≡ w = ap (λ z. let x : Write = record { start = z; commit = n; kind = l.kind; value = l.value } in x) f ∙ is in
                  inr (inl (l, e, p, sym writes ∙ ap (commit_from l) at, f ∙ same, subst (λ m. CommitsAt st r k s m) at (subst (λ z. CommitsAt st r k z n) same v)))
              which false z o = inl o
      by x (Released t v) g = by_release (λ y. commit_of y.commits s ≡ Some w → CommitComes s w) t c (λ q. inl q) (λ l e f p q. inl q) g
      by x (Held l p a v) g = inl g
      by x (Renewed l n e) g = inl g
      by x (Destroyed v) g = absurd (cc)

  -- a start is recorded by a request that rolls it back
  pub rollback_comes : (s : ℕ) → has_start d.rolled s ≡ true → (has_start c.rolled s ≡ true) ⊎ RollsBackAt st r k s
  rollback_comes s h = by d step h
    where
      by : (x : Cell) → CellStep st r k c x → has_start x.rolled s ≡ true → (has_start c.rolled s ≡ true) ⊎ RollsBackAt st r k s
      by x Same g = inl g
      by x (Places l p a v) g = inl (on (owns c.lock l.start) g)
        where
          on : (b : Bool) → has_start (if b then c else held l c).rolled s ≡ true → has_start c.rolled s ≡ true
          on true q = q
          on false q = q
      by x (Lands l n a e v) g = inl g
      by x (Recorded t v) g = on (nat_eq t s) refl (sym (has_with_start t c.rolled s) ∙ g)
        where
          on : (b : Bool) → nat_eq t s ≡ b → (b || has_start c.rolled s) ≡ true → (has_start c.rolled s ≡ true) ⊎ RollsBackAt st r k s
          on true e q = let same : t ≡ s = grind (arith, nat_tests) in inr (subst (λ z. RollsBackAt st r k z) same v)
          on false e q = inl q
      by x (Made t n v) g = by_commit (λ y. has_start y.rolled s ≡ true → (has_start c.rolled s ≡ true) ⊎ RollsBackAt st r k s) t n c (λ q. inl q) (λ l e f p q. inl q) g
      by x (Released t v) g = by_release (λ y. has_start y.rolled s ≡ true → (has_start c.rolled s ≡ true) ⊎ RollsBackAt st r k s) t c (λ q. inl q) (λ l e f p q. inl q) g
      by x (Held l p a v) g = inl g
      by x (Renewed l n e) g = inl g
      by x (Destroyed v) g = absurd (cc)

  -- a prewrite lock comes by a prewrite of its start, where the start is neither rolled back nor committed
  pub prewrite_comes : (s : ℕ) → owns d.lock s ≡ true → (owns c.lock s ≡ true) ⊎ (PrewritesAt r k s × (has_start c.rolled s ≡ false) × (commit_of c.commits s ≡ None))
  prewrite_comes s h = by d step h
    where
      by : (x : Cell) → CellStep st r k c x → owns x.lock s ≡ true → (owns c.lock s ≡ true) ⊎ (PrewritesAt r k s × (has_start c.rolled s ≡ false) × (commit_of c.commits s ≡ None))
      by x Same g = inl g
      by x (Places l p a v) g = on (owns c.lock l.start) refl g
        where
          on : (b : Bool) → owns c.lock l.start ≡ b → owns (if b then c else held l c).lock s ≡ true → (owns c.lock s ≡ true) ⊎ (PrewritesAt r k s × (has_start c.rolled s ≡ false) × (commit_of c.commits s ≡ None))
          on true e q = inl q
          on false e q =
              let same : l.start ≡ s = grind (arith, nat_tests) in
              inr (subst (λ z. PrewritesAt r k z × (has_start c.rolled z ≡ false) × (commit_of c.commits z ≡ None)) same (v, a.unrolled, a.uncommitted e))
      by x (Lands l n a e v) g = absurd (cc)
      by x (Recorded t v) g = inl (on c.lock refl g)
        where
          on : (o : Option Lock) → c.lock ≡ o → owns (if holds o t then None else o) s ≡ true → owns c.lock s ≡ true
          on None e q = absurd (cc)
          on (Some l) e q = grind (arith, nat_tests)
      by x (Made t n v) g = by_commit (λ y. owns y.lock s ≡ true → (owns c.lock s ≡ true) ⊎ (PrewritesAt r k s × (has_start c.rolled s ≡ false) × (commit_of c.commits s ≡ None))) t n c (λ q. inl q) (λ l e f p q. absurd (cc)) g
      by x (Released t v) g = by_release (λ y. owns y.lock s ≡ true → (owns c.lock s ≡ true) ⊎ (PrewritesAt r k s × (has_start c.rolled s ≡ false) × (commit_of c.commits s ≡ None))) t c (λ q. inl q) (λ l e f p q. absurd (cc)) g
      by x (Held l p a v) g = absurd (on (nat_eq l.start s) g)
        where
          on : (b : Bool) → (b && is_prewrite l.kind) ≡ true → ⊥
          on true q = cc
          on false q = cc
      by x (Renewed l n e) g = inl (subst (λ o. owns o s ≡ true) (sym e) g)
      by x (Destroyed v) g = absurd (cc)

  -- What becomes of locks.

  stands_same : (l : Lock) (x : Cell) → x.lock ≡ Some l → StandsOn l x
  stands_same l x e = record { lock = l; here = e; start = refl; primary = refl; kind = refl; value = refl; min_commit = refl; use_async = refl; secondaries = refl }

  pub prewrite_becomes : (l : Lock) → c.lock ≡ Some l → is_prewrite l.kind ≡ true → PrewriteLockBecomes st r k l d
  prewrite_becomes l e p = by d step
    where
      by : (x : Cell) → CellStep st r k c x → PrewriteLockBecomes st r k l x
      by x Same = inl (stands_same l c e)
      by x (Places n q a v) =
          let start = a.unlocked l e in
          let own : owns c.lock n.start ≡ true = rw e (grind (arith, nat_tests)) in
          let is : placed_lock n c ≡ c = rw own refl in
          subst (PrewriteLockBecomes st r k l) (sym is) (inl (stands_same l c e))
      by x (Lands n t a f v) = absurd (let start = a.unlocked l e in let own : owns c.lock n.start ≡ true = rw e (grind (arith, nat_tests)) in cc)
      by x (Recorded s v) = on (nat_eq l.start s) refl
        where
          on : (b : Bool) → nat_eq l.start s ≡ b → PrewriteLockBecomes st r k l (rolled_back s c)
          on true f =
              let same : s ≡ l.start = grind (arith, nat_tests) in
              inr (inr (inl (subst (λ z. RollsBackAt st r k z) same v, has_with_start s c.rolled l.start ∙ grind (arith, nat_tests))))
          on false f = inl (stands_same l (rolled_back s c) (rw (e, f) refl))
      by x (Made s n v) = subst (λ o. PrewriteLockBecomes st r k l (commit_lock s n o c)) (sym e) (on (nat_eq l.start s) refl)
        where
          on : (b : Bool) → nat_eq l.start s ≡ b → PrewriteLockBecomes st r k l (if b && is_prewrite l.kind then made_from s n l c else c)
          on true f =
              let same : s ≡ l.start = grind (arith, nat_tests) in
              let u : owns c.lock s ≡ true = rw e (rw (f, p) refl) in
              let none = (i.free s u).1 in
              let new : Write = record { start = s; commit = n; kind = l.kind; value = l.value } in
              let there : commit_of (with_commit new c.commits) l.start ≡ Some new = commit_of_with new c.commits l.start none ∙ grind (arith, nat_tests) in
              let is : new ≡ commit_from l n = ap (λ z. let x : Write = record { start = z; commit = n; kind = l.kind; value = l.value } in x) same in
              rw p (inr (inl (n, subst (λ z. CommitsAt st r k z n) same v, there ∙ ap Some is)))
          on false f = inl (stands_same l c e)
      by x (Released s v) = by_release (PrewriteLockBecomes st r k l) s c (inl (stands_same l c e)) (λ m f g q. absurd (let same : l ≡ m = cc in let z : is_prewrite m.kind ≡ true = subst (λ (y : Lock). is_prewrite y.kind ≡ true) same p in cc))
      by x (Held m q a v) = absurd (let z = (a l e).1 in cc)
      by x (Renewed m n f) =
          let same : m ≡ l = cc in
          inl (record { lock = longer_lived n m; here = refl; start = ap (λ (y : Lock). y.start) same; primary = ap (λ (y : Lock). y.primary) same; kind = ap (λ (y : Lock). y.kind) same; value = ap (λ (y : Lock). y.value) same; min_commit = ap (λ (y : Lock). y.min_commit) same; use_async = ap (λ (y : Lock). y.use_async) same; secondaries = ap (λ (y : Lock). y.secondaries) same })
      by x (Destroyed v) = inr (inr (inr v))

  pub pessimistic_becomes : (l : Lock) → c.lock ≡ Some l → is_prewrite l.kind ≡ false → PessimisticLockBecomes st r k l d
  pessimistic_becomes l e p = by d step
    where
      stays : (x : Cell) → x.lock ≡ Some l → PessimisticLockBecomes st r k l x
      stays x f = inl (rw f (grind (arith, nat_tests)), λ g. absurd (on (sym (ap (λ o. owns o l.start) f) ∙ g)))
        where
          on : (nat_eq l.start l.start && is_prewrite l.kind) ≡ true → ⊥
          on g = grind (arith, nat_tests)

      by : (x : Cell) → CellStep st r k c x → PessimisticLockBecomes st r k l x
      by x Same = stays c e
      by x (Places n q a v) =
          let start = a.unlocked l e in
          let own : owns c.lock n.start ≡ false = rw e (grind (arith, nat_tests)) in
          let here : PessimisticLockBecomes st r k l (held n c) = inl (grind (arith, nat_tests), λ g. subst (λ z. PrewritesAt r k z) (sym start) v) in
          let is : placed_lock n c ≡ held n c = rw own refl in
          subst (PessimisticLockBecomes st r k l) (sym is) here
      by x (Lands n t a f v) =
          let start = a.unlocked l e in
          let w : Write = record { start = n.start; commit = t; kind = n.kind; value = n.value } in
          let there : commit_of (with_commit w c.commits) l.start ≡ Some w = commit_of_with w c.commits l.start (a.uncommitted f) ∙ grind (arith, nat_tests) in
          inr (inl (w, subst (λ z. LandsAt st r k z t) (sym start) v, there))
      by x (Recorded s v) = on (nat_eq l.start s) refl
        where
          on : (b : Bool) → nat_eq l.start s ≡ b → PessimisticLockBecomes st r k l (rolled_back s c)
          on true f =
              let same : s ≡ l.start = grind (arith, nat_tests) in
              inr (inr (inl (subst (λ z. RollsBackAt st r k z) same v, has_with_start s c.rolled l.start ∙ grind (arith, nat_tests))))
          on false f = stays (rolled_back s c) (rw (e, f) refl)
      by x (Made s n v) = by_commit (PessimisticLockBecomes st r k l) s n c (stays c e) (λ m f g q. absurd (let same : l ≡ m = cc in let z : is_prewrite m.kind ≡ false = subst (λ (y : Lock). is_prewrite y.kind ≡ false) same p in cc))
      by x (Released s v) = by_release (PessimisticLockBecomes st r k l) s c (stays c e) (λ m f g q.
          let same : m ≡ l = cc in
          let start : s ≡ l.start = sym g ∙ ap (λ (y : Lock). y.start) same in
          inr (inr (inr (inl (subst (λ z. ReleasesAt st r k z) start v, refl)))))
      by x (Held m q a v) =
          let start = (a l e).0 in
          inl (grind (arith, nat_tests), λ g. absurd (on (nat_eq m.start l.start) g))
        where
          on : (b : Bool) → (b && is_prewrite m.kind) ≡ true → ⊥
          on true g = cc
          on false g = cc
      by x (Renewed m n f) =
          let same : m ≡ l = cc in
          let start : m.start ≡ l.start = ap (λ (y : Lock). y.start) same in
          let kind : is_prewrite m.kind ≡ false = subst (λ (y : Lock). is_prewrite y.kind ≡ false) (sym same) p in
          inl (grind (arith, nat_tests), λ g. absurd (on (nat_eq m.start l.start) kind g))
        where
          on : (b : Bool) → is_prewrite m.kind ≡ false → (b && is_prewrite m.kind) ≡ true → ⊥
          on true a g = cc
          on false a g = cc
      by x (Destroyed v) = inr (inr (inr (inr v)))

  -- a start that is rolled back gets neither a prewrite lock nor a commit
  pub rolled_gets_nothing : (s : ℕ) → has_start c.rolled s ≡ true → (owns d.lock s ≡ false) × (commit_of c.commits s ≡ None → commit_of d.commits s ≡ None)
  rolled_gets_nothing s h = (lock (owns d.lock s) refl, λ n. commit (commit_of d.commits s) refl n)
    where
      unowned : owns c.lock s ≡ true → ⊥
      unowned e = let f = (i.free s e).0 in cc

      lock : (b : Bool) → owns d.lock s ≡ b → b ≡ false
      lock false e = refl
      lock true e = absurd (elim (prewrite_comes s e) [ inl g ↦ unowned g | inr g ↦ (let f = g.1 in cc) ])

      commit : (o : Option Write) → commit_of d.commits s ≡ o → commit_of c.commits s ≡ None → o ≡ None
      commit None e n = refl
      commit (Some w) e n = absurd (elim (commit_comes s w e) [
        | inl g ↦ cc
        | inr (inl g) ↦ unowned (let a = g.1 in let b = g.2 in let f = g.4 in grind (arith, nat_tests))
        | inr (inr g) ↦ (let f = g.1 in cc)
      ])
