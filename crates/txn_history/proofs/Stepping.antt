-- The ways in which an event call does what it is to do.
use Rattle.std.proofs.Common.{◌≡◌, ℕ, ◌+◌, ◌≤◌, Bool, true, [], ◌∷◌, ◌++◌, refl, ap, arith}
use Rattle.std.proofs.Math.Nat.{le_refl}
use Rattle.std.proofs.lemmas.Bool.{false≢true}
use Rattle.txn_kv.specs.declared.outbox.Errand.TheVariants.{Send}
use Rattle.txn_kv.specs.declared.request.Request.{Request}
use Rattle.txn_kv.specs.declared.ticket.Target.TheVariants.{Store}
use Rattle.txn_history.specs.Around.{around, IsRead}
use Rattle.txn_history.specs.Meaning.{Counts, Goes, IsLawful, Meaning, Told}
use Rattle.txn_history.specs.Phase.{Awaited, Phase, phase_after, unheard}
use Rattle.txn_history.specs.Phase.Phase.{Fresh, Running, Over, GivenUp}
use Rattle.txn_history.specs.Posted.{HasNumbers, Posted}
use Rattle.txn_history.specs.Spends.{calls, sleeps}
use Rattle.txn_history.specs.Turn.{failing, Turn}
use Rattle.txn_history.specs.Turn.Turn.{Waits}
use Rattle.txn_history.proofs.Around.{Counts-around, Goes-around, Tells-around}
use Rattle.txn_history.proofs.Counting.{calls-more, sleeps-more}
use Rattle.txn_history.proofs.Telling.{Tells-idle}
use Rattle.txn_history.specs.Steps.{News, Steps}

-- nothing is posted
pub Counts-quiet : {S A : Type 0} {m : Meaning S A} {bad fails : Bool} {weight locked : ℕ} {old new : S} {o : Posted} {turn : Turn A}
    → m.width new ≡ m.width old
    → ((w : ℕ) → m.bears old w → m.bears new (w + weight))
    → ((n : ℕ) → m.left new n ≤ m.left old n)
    → ((n : ℕ) → m.round new n ≤ m.round old n)
    → (failing m.fails turn ≡ true → fails ≡ true)
    → Counts m bad fails weight locked old new o o turn
Counts-quiet {m = m} {old = old} e b l r f = record {
  spends = record {
    wider = rw e (le_refl _);
    bears = λ k w x. b w x;
    allowed = λ k x. f x;
    spends = λ k n w u v x. let p = l n in omega arith;
    stopped = λ n w u v x. omega arith;
    rests = λ k. omega arith;
    stopped_rests = omega arith;
  };
  fewer = r;
}

-- one request is sent, which was left until now
pub Counts-sent : {S A : Type 0} {m : Meaning S A} {bad fails : Bool} {weight locked : ℕ} {old new : S} {from to : Posted} (store : ℕ) (r : Request)
    → to ≡ record from { next = from.next + 1; sends = from.sends ++ Send from.next (Store store) r ∷ [] }
    → m.width new ≡ m.width old
    → ((w : ℕ) → m.bears old w → m.bears new (w + weight))
    → ((n : ℕ) → m.left new n + 1 ≤ m.left old n)
    → ((n : ℕ) → m.round new n ≤ m.round old n)
    → Counts m bad fails weight locked old new from to Waits
Counts-sent {from = from} {to = to} store r p e b l f =
    let c : calls to ≡ calls from + 1 = calls-more from to (Send from.next (Store store) r) (ap (λ (o : Posted). o.sends) p) in
    let s : sleeps to ≡ sleeps from + 0 = sleeps-more from to (Send from.next (Store store) r) (ap (λ (o : Posted). o.sends) p) in
    record {
      spends = record {
        wider = rw e (le_refl _);
        bears = λ k w x. b w x;
        allowed = λ k x. absurd (false≢true x);
        spends = λ k n w u v x. let q = l n in omega arith;
        stopped = λ n w u v x. let q = l n in omega arith;
        rests = λ k. omega arith;
        stopped_rests = omega arith;
      };
      fewer = f;
    }

-- the call was for the state
pub Goes-meant : {S A C : Type 0} {phase : S → Phase} {meant : Type 0} {old new : S} {from to : Posted} {pd pd' : C} {turn : Turn A}
    → meant → phase new ≡ phase_after turn → Goes phase meant old new from to pd pd' turn
Goes-meant this next = record {
  deaf = λ other. absurd (other this);
  state = λ other. absurd (other this);
  outbox = λ other. absurd (other this);
  client = λ other. absurd (other this);
  next = λ x. next;
}

never_fails : {A : Type 0} (fails : A → Bool) (p : Phase) (b : Bool) → failing fails (unheard p) ≡ true → b ≡ true
never_fails fails Fresh b e = absurd (false≢true e)
never_fails fails Running b e = absurd (false≢true e)
never_fails fails Over b e = absurd (false≢true e)
never_fails fails GivenUp b e = absurd (false≢true e)

-- The call is not for the state, which stays as it is.
pub Steps-idle : {S A C : Type 0} {m : Meaning S A} {touches : Told → Posted → S → S → C → C → Type 0} {news : News} {s : S} {o : Posted} {pd : C} {turn : Turn A}
    → IsLawful m
    → (news.meant (m.phase s) (m.waits s) → ⊥)
    → ((r : Request) (a : Awaited) → (news.told r).heard a → m.waits s a → ⊥)
    → turn ≡ unheard (m.phase s)
    → ((r : Request) → touches (news.told r) o s s pd pd)
    → m.ready s → HasNumbers o
    → Steps m touches news s s o o pd pd turn
Steps-idle {m = m} {news = news} {s = s} law other deaf e client ready numbers = record {
  tells = λ r. Tells-idle law (deaf r) e;
  goes = record {
    deaf = λ x. e;
    state = λ x. refl;
    outbox = λ x. refl;
    client = λ x. refl;
    next = λ this. absurd (other this);
  };
  counts = Counts-quiet refl (λ w b. law.bears_more s w _ (omega arith) b) (λ n. le_refl _) (λ n. le_refl _) (rw e (never_fails m.fails (m.phase s) news.fails));
  client = client;
  ready = ready;
  numbers = numbers;
}

-- What a wrapper has to say of a call of the state inside: it reads by the same, it is changed only with the state inside, it
-- may still be called, and its answer is tried again only where the inner one is.
pub record IsWrapped {S T A B : Type 0} (m : Meaning S A) (inner : T → S) (reads : T → A → B → Type 0) (more : T → Type 0) (fails : B → Bool) (old new : T) : Type 0 where
  pub given : (a : A) (b : B) → reads new a b → reads old a b
  pub gave : (a : A) (b : B) → reads old a b → reads new a b
  pub same : inner new ≡ inner old → new ≡ old
  pub passes : (a : A) (b : B) → reads old a b → fails b ≡ true → m.fails a ≡ true
  pub called : more new

-- The call is one of the state inside.
pub Steps-around : {S T A B C : Type 0} (m : Meaning S A) (inner : T → S) (reads : T → A → B → Type 0) (more : T → Type 0) (fails : B → Bool)
    (touches : Told → Posted → S → S → C → C → Type 0)
    {news : News} {old new : T} {from to : Posted} {pd pd' : C} {turn : Turn A} {turn' : Turn B}
    → IsWrapped m inner reads more fails old new
    → IsRead (reads old) turn turn'
    → Steps m touches news (inner old) (inner new) from to pd pd' turn
    → Steps (around m inner reads more fails) (λ told o s t x y. touches told o (inner s) (inner t) x y) news old new from to pd pd' turn'
Steps-around m inner reads more fails touches {old = old} {turn = turn} w i s = record {
  tells = λ r. Tells-around m inner reads more fails w.given w.gave i (s.tells r);
  goes = Goes-around m.phase inner (reads old) w.same i s.goes;
  counts = Counts-around m inner reads more fails turn w.passes i s.counts;
  client = s.client;
  ready = (s.ready, w.called);
  numbers = s.numbers;
}
