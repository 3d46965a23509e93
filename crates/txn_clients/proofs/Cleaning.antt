-- What a transaction keeps of its history when a call of another line begins: what explains no error. The reply to a Commit is taken as
-- one without error, since only that there was one counts then.
use Rattle.std.proofs.Common.{◌≡◌, ◌≢◌, ◌⊎◌, inl, inr, suc, ℕ, Bool, true, false, List, [], ◌∷◌, Option, Some, None, refl, sym, ap, ◌∙◌, subst, arith}
use Rattle.std.specs.Prelude.{◌&&◌, is_none, Ok, Err}
use Rattle.txn_kv.specs.Timestamp.{version_of}
use Rattle.txn_kv.specs.declared.reply.commits.BatchRollbackResponse.{BatchRollbackResponse}
use Rattle.txn_kv.specs.declared.reply.commits.PrewriteResponse.{PrewriteResponse}
use Rattle.txn_kv.specs.declared.reply.Reply.{Reply}
use Rattle.txn_kv.specs.declared.reply.Reply.TheVariants as replies
use Rattle.txn_kv.specs.declared.request.commits.BatchRollbackRequest.{BatchRollbackRequest}
use Rattle.txn_kv.specs.declared.request.commits.CommitRequest.{CommitRequest}
use Rattle.txn_kv.specs.declared.request.commits.PrewriteRequest.{PrewriteRequest}
use Rattle.txn_kv.specs.declared.request.Request.{Request}
use Rattle.txn_kv.specs.declared.request.Request.TheVariants.{BatchRollback, Commit, Prewrite, Tso}
use Rattle.txn_kv.specs.declared.ticket.Ticket.{Ticket}
use Rattle.txn_history.specs.Among.{IsAmong}
use Rattle.txn_history.specs.Event.{Event, Has}
use Rattle.txn_history.specs.Event.Event.{Answered, Asked, Began, Clocked, Crashed, Led, Lost, Refused, Sent, Served, Slept, Split, Took}
use Rattle.txn_history.specs.Licence.{AllAcknowledged, IsAcknowledged, IsPassed, IsWithoutError, PrimaryRolledBack, WantedAfter, WasGiven, WasNamed}
use Rattle.txn_history.specs.Plan.{Key, Plan}
use Rattle.txn_buffer.specs.Contents.{Contents}
use Rattle.txn_commit.specs.Committing.{IsReady}
use Rattle.txn_commit.specs.Following.{Commits, KnowsCommits, WasRefused, is_commit}
use Rattle.txn_commit.specs.Plans.{only_key}
use Rattle.txn_commit.specs.Sending.{plan_of}
use Rattle.txn_commit.specs.declared.commit_parts.CommitParts.{CommitParts}
use Rattle.txn_core.specs.Going.{IsUndone, IsUnsent, KnowsParts, NamesReady}
use Rattle.txn_side.specs.Trace.{AreOwn, IsHarmless, IsOwn, IsShown, Trace, refused_asks}
use Rattle.txn_clients.specs.Failing.{ShownIn}
use Rattle.txn_clients.specs.Waiting.{IsKept}

abbrev no_errors : {X : Type 0} → List X → Bool
no_errors [] = true
no_errors (x ∷ xs) = false

-- the reply says without error what was to be done, or has timestamps
abbrev is_fine : Request → Reply → Bool
is_fine (Tso r) (replies.Tso o) = true
is_fine (Prewrite r) (replies.Prewrite o) = is_none o.region_error && no_errors o.errors
is_fine (BatchRollback r) (replies.BatchRollback o) = is_none o.region_error && is_none o.error
is_fine r o = false

-- one that says without error that something was committed, and does not say that it was this
abbrev elsewhere : Request → ℕ
elsewhere (Commit r) = suc r.commit_version
elsewhere r = 0

abbrev fine : Request → Reply
fine r = replies.Commit (record { region_error = None; error = None; commit_version = elsewhere r })

abbrev kept_took : Ticket → Request → Reply → Bool → Bool → Option Event
kept_took u r o true b = Some (Took u r (fine r))
kept_took u r o false true = Some (Took u r o)
kept_took u r o false false = None

-- what is kept of an event
abbrev keep : Event → Option Event
keep (Took u r o) = kept_took u r o (is_commit r) (is_fine r o)
keep (Lost u r) = None
keep (Answered ask (Err e)) = None
keep e = Some e

abbrev push : Option Event → List Event → List Event
push None h = h
push (Some e) h = e ∷ h

pub cleaned : List Event → List Event
cleaned [] = []
cleaned (e ∷ h) = push (keep e) (cleaned h)

-- What is kept is there, and nothing else.

some_same : {X : Type 0} (x y : X) → Some x ≡ Some y → x ≡ y
some_same x y e = cc

none_some : {X G : Type 0} (x : X) → None ≡ Some x → G
none_some x e = absurd (cc)

pushed_first : (k : Option Event) (x : Event) (h : List Event) → k ≡ Some x → Has (push k h) x
pushed_first None x h e = none_some x e
pushed_first (Some y) x h e = inl (some_same y x e)

pushed_on : (k : Option Event) (x : Event) (h : List Event) → Has h x → Has (push k h) x
pushed_on None x h i = i
pushed_on (Some y) x h i = inr i

forth : (h : List Event) (e x : Event) → keep e ≡ Some x → Has h e → Has (cleaned h) x
unfolding cleaned
forth [] e x k i = absurd i
forth (y ∷ h) e x k (inl same) = pushed_first (keep y) x (cleaned h) (ap keep same ∙ k)
forth (y ∷ h) e x k (inr i) = pushed_on (keep y) x (cleaned h) (forth h e x k i)

back : (h : List Event) (x : Event) → Has (cleaned h) x → (e : Event) × Has h e × (keep e ≡ Some x)
unfolding cleaned
back [] x i = absurd i
back (y ∷ h) x i = by (keep y) refl i (back h x)
  where
    by : (k : Option Event) → keep y ≡ k → Has (push k (cleaned h)) x → (Has (cleaned h) x → (e : Event) × Has h e × (keep e ≡ Some x)) → (e : Event) × Has (y ∷ h) e × (keep e ≡ Some x)
    by None k j more = let f = more j in (f.0, inr f.1, f.2)
    by (Some z) k (inl same) more = (y, inl refl, k ∙ ap Some same)
    by (Some z) k (inr j) more = let f = more j in (f.0, inr f.1, f.2)

-- each that is kept is the event itself, or a reply that explains nothing
abbrev IsKeptAs : Event → Event → Type 0
IsKeptAs e x = (e ≡ x) ⊎ ((u : Ticket) × (r : Request) × (o : Reply) × (x ≡ Took u r o) × IsHarmless r o)

next_other : (n : ℕ) → suc n ≡ n → ⊥
next_other n e = omega (arith, e)

commit_harmless : (r : Request) → is_commit r ≡ true → IsHarmless r (fine r)
commit_harmless (Commit r) e = (refl, refl)
commit_harmless _ e = absurd (cc)

both_true : (a b : Bool) → (a && b) ≡ true → (a ≡ true) × (b ≡ true)
both_true true b e = (refl, e)
both_true false b e = absurd (cc)

none_is : {X : Type 0} (x : Option X) → is_none x ≡ true → x ≡ None
none_is None e = refl
none_is (Some x) e = absurd (cc)

nil_is : {X : Type 0} (xs : List X) → no_errors xs ≡ true → xs ≡ []
nil_is [] e = refl
nil_is (x ∷ xs) e = absurd (cc)

fine_harmless : (r : Request) (o : Reply) → is_fine r o ≡ true → IsHarmless r o
fine_harmless (Tso r) (replies.Tso o) e = tt
fine_harmless (Prewrite r) (replies.Prewrite o) e = let b = both_true (is_none o.region_error) (no_errors o.errors) e in (none_is o.region_error b.0, nil_is o.errors b.1)
fine_harmless (BatchRollback r) (replies.BatchRollback o) e = let b = both_true (is_none o.region_error) (is_none o.error) e in (none_is o.region_error b.0, none_is o.error b.1)
fine_harmless _ _ e = absurd (cc)

took_kept : (u : Ticket) (r : Request) (o : Reply) (x : Event) → keep (Took u r o) ≡ Some x → (q : Reply) × (x ≡ Took u r q) × IsHarmless r q
took_kept u r o x k = by (is_commit r) refl (is_fine r o) refl k
  where
    by : (b : Bool) → is_commit r ≡ b → (f : Bool) → is_fine r o ≡ f → kept_took u r o b f ≡ Some x → (q : Reply) × (x ≡ Took u r q) × IsHarmless r q
    by true b f g e = (fine r, sym (some_same (Took u r (fine r)) x e), commit_harmless r b)
    by false b true g e = (o, sym (some_same (Took u r o) x e), fine_harmless r o g)
    by false b false g e = none_some x e

kept_as : (e x : Event) → keep e ≡ Some x → IsKeptAs e x
kept_as (Took u r o) x k = let t = took_kept u r o x k in inr (u, r, t.0, t.1, t.2)
kept_as (Lost u r) x k = none_some x k
kept_as (Answered ask (Err e)) x k = none_some x k
kept_as (Answered ask (Ok t)) x k = inl (some_same (Answered ask (Ok t)) x k)
kept_as (Sent u r) x k = inl (some_same (Sent u r) x k)
kept_as (Served u r o) x k = inl (some_same (Served u r o) x k)
kept_as (Refused u r o) x k = inl (some_same (Refused u r o) x k)
kept_as (Began u ms) x k = inl (some_same (Began u ms) x k)
kept_as (Slept u) x k = inl (some_same (Slept u) x k)
kept_as (Asked u) x k = inl (some_same (Asked u) x k)
kept_as (Crashed c) x k = inl (some_same (Crashed c) x k)
kept_as (Split key) x k = inl (some_same (Split key) x k)
kept_as (Led region store) x k = inl (some_same (Led region store) x k)
kept_as (Clocked ms) x k = inl (some_same (Clocked ms) x k)

-- so what was sent there was sent
sent_back : (h : List Event) (u : Ticket) (r : Request) → Has (cleaned h) (Sent u r) → Has h (Sent u r)
sent_back h u r i = let f = back h (Sent u r) i in by f.0 f.1 (kept_as f.0 (Sent u r) f.2)
  where
    by : (e : Event) → Has h e → IsKeptAs e (Sent u r) → Has h (Sent u r)
    by e j (inl same) = subst (Has h) same j
    by e j (inr t) = absurd (no t.3)
      where
        no : Sent u r ≡ Took t.0 t.1 t.2 → ⊥
        no q = cc

sent_forth : (h : List Event) (u : Ticket) (r : Request) → Has h (Sent u r) → Has (cleaned h) (Sent u r)
sent_forth h u r i = forth h (Sent u r) (Sent u r) refl i

pub kept_cleaned : (nexts : List ℕ) (h : List Event) → IsKept nexts h → IsKept nexts (cleaned h)
kept_cleaned nexts h k = record {
  alone = λ t r q a b. k.alone t r q (sent_back h t r a) (sent_back h t q b);
  below = λ t r a. k.below t r (sent_back h t r a);
}

-- it explains an error of no line
own_kept : (line : ℕ) (e x : Event) → keep e ≡ Some x → IsOwn line x
own_kept line (Took u r o) x k = let t = took_kept u r o x k in subst (IsOwn line) (sym t.1) (inr t.2)
own_kept line (Lost u r) x k = none_some x k
own_kept line (Answered ask (Err e)) x k = none_some x k
own_kept line (Answered ask (Ok t)) x k = subst (IsOwn line) (some_same (Answered ask (Ok t)) x k) tt
own_kept line (Sent u r) x k = subst (IsOwn line) (some_same (Sent u r) x k) tt
own_kept line (Served u r o) x k = subst (IsOwn line) (some_same (Served u r o) x k) tt
own_kept line (Refused u r o) x k = subst (IsOwn line) (some_same (Refused u r o) x k) tt
own_kept line (Began u ms) x k = subst (IsOwn line) (some_same (Began u ms) x k) tt
own_kept line (Slept u) x k = subst (IsOwn line) (some_same (Slept u) x k) tt
own_kept line (Asked u) x k = subst (IsOwn line) (some_same (Asked u) x k) tt
own_kept line (Crashed c) x k = subst (IsOwn line) (some_same (Crashed c) x k) tt
own_kept line (Split key) x k = subst (IsOwn line) (some_same (Split key) x k) tt
own_kept line (Led region store) x k = subst (IsOwn line) (some_same (Led region store) x k) tt
own_kept line (Clocked ms) x k = subst (IsOwn line) (some_same (Clocked ms) x k) tt

pub own_cleaned : (line : ℕ) (h : List Event) → AreOwn line (cleaned h)
own_cleaned line h x i = let f = back h x i in own_kept line f.0 x f.2

-- No refused ask is kept.

refused_pushed : (k : Option Event) (h : List Event) → refused_asks h ≡ 0 → ((x : Event) → k ≡ Some x → refused_asks (x ∷ h) ≡ refused_asks h) → refused_asks (push k h) ≡ 0
refused_pushed None h none counts = none
refused_pushed (Some x) h none counts = counts x refl ∙ none

refused_kept : (e x : Event) (h : List Event) → keep e ≡ Some x → refused_asks (x ∷ h) ≡ refused_asks h
refused_kept (Took u r o) x h k = let t = took_kept u r o x k in ap (λ y. refused_asks (y ∷ h)) t.1
refused_kept (Lost u r) x h k = none_some x k
refused_kept (Answered ask (Err e)) x h k = none_some x k
refused_kept (Answered ask (Ok t)) x h k = ap (λ y. refused_asks (y ∷ h)) (sym (some_same (Answered ask (Ok t)) x k))
refused_kept (Sent u r) x h k = ap (λ y. refused_asks (y ∷ h)) (sym (some_same (Sent u r) x k))
refused_kept (Served u r o) x h k = ap (λ y. refused_asks (y ∷ h)) (sym (some_same (Served u r o) x k))
refused_kept (Refused u r o) x h k = ap (λ y. refused_asks (y ∷ h)) (sym (some_same (Refused u r o) x k))
refused_kept (Began u ms) x h k = ap (λ y. refused_asks (y ∷ h)) (sym (some_same (Began u ms) x k))
refused_kept (Slept u) x h k = ap (λ y. refused_asks (y ∷ h)) (sym (some_same (Slept u) x k))
refused_kept (Asked ask) x h k = ap (λ y. refused_asks (y ∷ h)) (sym (some_same (Asked ask) x k))
refused_kept (Crashed c) x h k = ap (λ y. refused_asks (y ∷ h)) (sym (some_same (Crashed c) x k))
refused_kept (Split key) x h k = ap (λ y. refused_asks (y ∷ h)) (sym (some_same (Split key) x k))
refused_kept (Led region store) x h k = ap (λ y. refused_asks (y ∷ h)) (sym (some_same (Led region store) x k))
refused_kept (Clocked ms) x h k = ap (λ y. refused_asks (y ∷ h)) (sym (some_same (Clocked ms) x k))

pub refused_cleaned : (h : List Event) → refused_asks (cleaned h) ≡ 0
unfolding cleaned
refused_cleaned [] = refl
refused_cleaned (e ∷ h) = refused_pushed (keep e) (cleaned h) (refused_cleaned h) (λ x k. refused_kept e x (cleaned h) k)

-- and is shown where the history was
pub shown_cleaned : (trace : Option Trace) (at : ℕ) (h : List Event) → ShownIn trace at h → ShownIn trace at (cleaned h)
shown_cleaned None at h s = tt
shown_cleaned (Some t) at h s = λ x i. let f = back h x i in by x f.0 f.1 (kept_as f.0 x f.2)
  where
    by : (x e : Event) → Has h e → IsKeptAs e x → IsShown t at x
    by x e j (inl same) = subst (IsShown t at) same (s e j)
    by x e j (inr k) = subst (IsShown t at) (sym k.3) (inr k.4)

-- What is known of a transaction stays so.

pub given_cleaned : (h : List Event) (s : ℕ) → WasGiven h s → WasGiven (cleaned h) s
given_cleaned h s (t, r, o, d, taken, gives, above) = (t, r, o, d, forth h (Took t (Tso r) (replies.Tso o)) (Took t (Tso r) (replies.Tso o)) refl taken, gives, above)

prewrite_kept : (u : Ticket) (r : PrewriteRequest) (o : PrewriteResponse) → IsWithoutError (replies.Prewrite o) → keep (Took u (Prewrite r) (replies.Prewrite o)) ≡ Some (Took u (Prewrite r) (replies.Prewrite o))
prewrite_kept u r o (region, errors) = by (is_none o.region_error) (no_errors o.errors) (ap is_none region) (ap no_errors errors)
  where
    by : (a b : Bool) → a ≡ true → b ≡ true → kept_took u (Prewrite r) (replies.Prewrite o) false (a && b) ≡ Some (Took u (Prewrite r) (replies.Prewrite o))
    by true true e f = refl
    by true false e f = absurd (cc)
    by false b e f = absurd (cc)

rollback_kept : (u : Ticket) (r : BatchRollbackRequest) (o : BatchRollbackResponse) → IsWithoutError (replies.BatchRollback o) → keep (Took u (BatchRollback r) (replies.BatchRollback o)) ≡ Some (Took u (BatchRollback r) (replies.BatchRollback o))
rollback_kept u r o (region, error) = by (is_none o.region_error) (is_none o.error) (ap is_none region) (ap is_none error)
  where
    by : (a b : Bool) → a ≡ true → b ≡ true → kept_took u (BatchRollback r) (replies.BatchRollback o) false (a && b) ≡ Some (Took u (BatchRollback r) (replies.BatchRollback o))
    by true true e f = refl
    by true false e f = absurd (cc)
    by false b e f = absurd (cc)

rolled_cleaned : (plan : Plan) (s : ℕ) (h : List Event) → PrimaryRolledBack plan h s → PrimaryRolledBack plan (cleaned h) s
rolled_cleaned plan s h (t, r, o, taken, without, same, named) = (t, r, o, forth h (Took t (BatchRollback r) (replies.BatchRollback o)) (Took t (BatchRollback r) (replies.BatchRollback o)) (rollback_kept t r o without) taken, without, same, named)

-- what was undone stays so
pub undone_cleaned : (s : ℕ) (contents : Contents) (h : List Event) → IsUndone s contents h → IsUndone s contents (cleaned h)
undone_cleaned s contents h u parts is = elim (u parts is) [
  | inl none ↦ inl none
  | inr (primary, others) ↦ inr (λ key named. rolled_cleaned (only_key key) s h (primary key named), λ key named. rolled_cleaned (only_key key) s h (others key named))
]

module _ (plan : Plan) (s : ℕ) where
  -- each of its Prewrites that was answered without error
  prewrite_cleaned : (h : List Event) (t : Ticket) (r : PrewriteRequest) (o : PrewriteResponse) → IsWithoutError (replies.Prewrite o) → Has h (Took t (Prewrite r) (replies.Prewrite o)) → Has (cleaned h) (Took t (Prewrite r) (replies.Prewrite o))
  prewrite_cleaned h t r o without taken = forth h (Took t (Prewrite r) (replies.Prewrite o)) (Took t (Prewrite r) (replies.Prewrite o)) (prewrite_kept t r o without) taken

  locked_cleaned : (h : List Event) (k : Key) → IsAcknowledged h s k → IsAcknowledged (cleaned h) s k
  locked_cleaned h k a = record {
    ticket = a.ticket;
    request = a.request;
    response = a.response;
    taken = prewrite_cleaned h a.ticket a.request a.response a.fine a.taken;
    fine = a.fine;
    start = a.start;
    locks = a.locks;
    locking = a.locking;
  }

  passed_cleaned : (h : List Event) (k : Key) → IsPassed h s k → IsPassed (cleaned h) s k
  passed_cleaned h k a = record {
    ticket = a.ticket;
    request = a.request;
    response = a.response;
    taken = prewrite_cleaned h a.ticket a.request a.response a.fine a.taken;
    fine = a.fine;
    start = a.start;
    mutation = a.mutation;
    names = a.names;
    key = a.key;
  }

  acknowledged_cleaned : (h : List Event) → AllAcknowledged plan h s → AllAcknowledged plan (cleaned h) s
  acknowledged_cleaned h all = record { locked = λ k x e. locked_cleaned h k (all.locked k x e); checked = λ k e. passed_cleaned h k (all.checked k e) }

  wanted_pushed : (k : Option Event) (h : List Event) (ask : Ticket) → WantedAfter plan h s ask → WantedAfter plan (push k h) s ask
  wanted_pushed None h ask w = w
  wanted_pushed (Some e) h ask w = inr w

  wanted_cleaned : (h : List Event) (ask : Ticket) → WantedAfter plan h s ask → WantedAfter plan (cleaned h) s ask
  unfolding cleaned
  wanted_cleaned [] ask w = absurd w
  wanted_cleaned (e ∷ h) ask (inl (is, all, given)) = subst (λ x. WantedAfter plan (push (keep x) (cleaned h)) s ask) (sym is) (inl (refl, acknowledged_cleaned h all, given_cleaned h s given))
  wanted_cleaned (e ∷ h) ask (inr w) = wanted_pushed (keep e) (cleaned h) ask (wanted_cleaned h ask w)

  ready_cleaned : (h : List Event) (d : ℕ) → IsReady plan s d h → IsReady plan s d (cleaned h)
  ready_cleaned h d r = record {
    keys = acknowledged_cleaned h r.keys;
    ask = r.ask;
    given = r.given;
    wanted = wanted_cleaned h r.ask r.wanted;
    answered = forth h (Answered r.ask (Ok r.given)) (Answered r.ask (Ok r.given)) refl r.answered;
    at = r.at;
  }

  named_back : (h : List Event) (d : ℕ) → WasNamed plan (cleaned h) s d → WasNamed plan h s d
  named_back h d (t, r, sent, start, commit, primary) = (t, r, sent_back h t (Commit r) sent, start, commit, primary)

  named_forth : (h : List Event) (d : ℕ) → WasNamed plan h s d → WasNamed plan (cleaned h) s d
  named_forth h d (t, r, sent, start, commit, primary) = (t, r, sent_forth h t (Commit r) sent, start, commit, primary)

  names_cleaned : (h : List Event) → NamesReady plan s h → NamesReady plan s (cleaned h)
  names_cleaned h ready d named = ready_cleaned h d (ready d (named_back h d named))

  commits_cleaned : (c : Commits) (h : List Event) → KnowsCommits plan s c h → KnowsCommits plan s c (cleaned h)
  commits_cleaned c h k = record {
    named = λ d n. k.named d (named_back h d n);
    since = λ t e. named_forth h (version_of t) (k.since t e);
    waiting = λ t i. let p = k.waiting t i in (p.0, sent_forth h t (Commit p.0) p.1, p.2);
    losing = λ t e. let p = k.losing t e in (p.0, sent_forth h t (Commit p.0) p.1, p.2);
    all = λ t r sent primary. answered t r (k.all t r (sent_back h t (Commit r) sent) primary);
  }
    where
      answered : (t : Ticket) (r : CommitRequest) → WasRefused h t r ⊎ ((c.lost ≢ None) ⊎ IsAmong c.out t) → WasRefused (cleaned h) t r ⊎ ((c.lost ≢ None) ⊎ IsAmong c.out t)
      answered t r (inl (o, taken, refusal)) = inl (fine (Commit r), forth h (Took t (Commit r) o) (Took t (Commit r) (fine (Commit r))) refl taken, λ regional keyed same. next_other r.commit_version same)
      answered t r (inr rest) = inr rest

pub unsent_cleaned : (s : ℕ) (c : Commits) (h : List Event) → IsUnsent s c h → IsUnsent s c (cleaned h)
unsent_cleaned s c h u = record { none = u.none; never = λ t r sent same. u.never t r (sent_back h t (Commit r) sent) same }

pub parts_cleaned : (s : ℕ) (c : Commits) (h : List Event) (parts : CommitParts) → KnowsParts s c h parts → KnowsParts s c (cleaned h) parts
parts_cleaned s c h parts k = record {
  formed = k.formed;
  knows = commits_cleaned (plan_of parts) s c h k.knows;
  ready = names_cleaned (plan_of parts) s h k.ready;
}
