-- Calls of states, and of states around them.
use Rattle.std.proofs.Common.{◌≡◌, ◌≢◌, ◌⊎◌, inl, inr, ℕ, ◌+◌, ◌≤◌, Bool, true, List, [], ◌∷◌, ◌++◌, refl, sym, ap, ◌∙◌, append-nil, append_assoc}
use Rattle.std.proofs.Math.Nat.{le_trans}
use Rattle.std.proofs.lemmas.Bool.{false≢true}
use Rattle.std.specs.Prelude.{IsErr, Result, Ok, Err}
use Rattle.txn_kv.specs.declared.memory.NoMemory.{NoMemory}
use Rattle.txn_kv.specs.declared.progress.Progress.{Progress}
use Rattle.txn_kv.specs.declared.progress.Progress.TheVariants.{Waiting, Done}
use Rattle.txn_kv.specs.declared.outbox.Errand.TheVariants.{Send, Sleep, Ask}
use Rattle.txn_kv.specs.declared.request.Request.{Request}
use Rattle.txn_kv.specs.declared.ticket.Target.{Target}
use Rattle.txn_history.specs.Among.{IsAmong}
use Rattle.txn_kv.specs.declared.reply.Reply.{Reply}
use Rattle.txn_history.specs.Event.{Event}
use Rattle.txn_history.specs.Faults.{has_error, has_region_error}
use Rattle.txn_history.specs.Event.Event.{Sent, Began, Asked}
use Rattle.txn_history.specs.Meaning.{further, Counts, Expects, Goes, GoesOn, IsLawful, Meaning, Tells, Told}
use Rattle.txn_history.specs.Later.{IsLater-refl}
use Rattle.txn_history.specs.Moves.{Moves, Moves-before, Moves-map, Moves-asked, Moves-quiet, Moves-sent, Moves-slept, Moves-then, SameJob, SameJob-trans}
use Rattle.txn_history.specs.Spends.{Spends}
use Rattle.txn_history.proofs.Counting.{Spends-then}
use Rattle.txn_history.specs.Phase.{Awaited, IsPosted, Phase, phase_after, unheard}
use Rattle.txn_history.specs.Phase.Phase.{Fresh, Running, Over, GivenUp}
use Rattle.txn_history.specs.Posted.{Posted, ticket_of, Within-refl}
use Rattle.txn_history.specs.Turn.{HasEnded, Turn, turn_of, IfEnds, IfKept, IfKept-all, IfKept-out}
use Rattle.txn_history.specs.Turn.Turn.{Stopped, Waits, Ends}

pub SameJob-refl : {S A : Type 0} {asks : S → List Event → Request → Type 0} {gives : S → List Event → A → Type 0} {s : S} → SameJob asks gives s s
SameJob-refl = record { asked = λ h r x. x; given = λ h v x. x; gave = λ h v x. x }

-- a call that answers that memory is wanting
pub turn_stopped : {A : Type 0} (r : Result (Progress A) NoMemory) → IsErr r → turn_of r ≡ Stopped
turn_stopped (Ok p) e = absurd (false≢true e)
turn_stopped (Err e) i = refl

-- a call that is not for the state has no answer
IfEnds-unheard : {A : Type 0} (p : Phase) (P : A → Type 0) → IfEnds (unheard p) P
IfEnds-unheard Fresh P = tt
IfEnds-unheard Running P = tt
IfEnds-unheard Over P = tt
IfEnds-unheard GivenUp P = tt

never_ends : {A : Type 0} (p : Phase) (v : A) → Ends v ≡ unheard p → ⊥
never_ends Fresh v e = cc
never_ends Running v e = cc
never_ends Over v e = cc
never_ends GivenUp v e = cc

waits_only : {A B : Type 0} (p : Phase) (t : Turn A) → t ≡ Waits → t ≡ unheard p → unheard {A = B} p ≡ Waits
waits_only Fresh t w e = refl
waits_only Running t w e = refl
waits_only Over t w e = refl
waits_only GivenUp t w e = cc

-- nothing is posted, and nothing more is waited for
pub Expects-quiet : {was is heard : Awaited → Type 0} {o : Posted} → ((a : Awaited) → is a → was a × (heard a → ⊥)) → Expects was is heard o o
Expects-quiet {o} f = record { sends = []; pushed = sym (append-nil o.sends); only = λ a w. inl (f a w) }

-- the call is not for the state, which stays as it is
pub Tells-idle : {S A : Type 0} {m : Meaning S A} {told : Told} {s : S} {o : Posted} {turn : Turn A}
    → IsLawful m
    → ((a : Awaited) → told.heard a → m.waits s a → ⊥)
    → turn ≡ unheard (m.phase s)
    → Tells m told s s o o turn
Tells-idle {m} {told} {s} {o} {turn} law deaf e = record {
  moves = Moves-quiet refl (IfKept-all turn (λ h f. law.fits_longer s o o h (told.hear h) (IsLater-refl o) (told.within h) f.0)) (rw e (IfEnds-unheard (m.phase s) _));
  job = SameJob-refl;
  expects = Expects-quiet (λ a w. (w, λ heard. deaf a heard w));
}

-- nothing is posted
pub Tells-quiet : {S A : Type 0} {m : Meaning S A} {told : Told} {old new : S} {o : Posted} {turn : Turn A}
    → IfKept turn ((h : List Event) → m.fits old o h × told.known h → m.fits new o (told.hear h))
    → IfEnds turn (λ v. (h : List Event) → m.fits old o h × told.known h → m.gives old (told.hear h) v)
    → SameJob m.asks m.gives new old
    → ((a : Awaited) → m.waits new a → m.waits old a × (told.heard a → ⊥))
    → Tells m told old new o o turn
Tells-quiet still done job waits = record { moves = Moves-quiet refl still done; job = job; expects = Expects-quiet waits }

-- it gives up, and nothing is posted
pub Tells-stopped : {S A : Type 0} {m : Meaning S A} {told : Told} {old new : S} {from to : Posted} {turn : Turn A}
    → turn ≡ Stopped → to ≡ from
    → SameJob m.asks m.gives new old
    → ((a : Awaited) → m.waits new a → m.waits old a × (told.heard a → ⊥))
    → Tells m told old new from to turn
Tells-stopped {from} e same job waits = rw (e, same) (Tells-quiet {turn = Stopped} tt tt job waits)

-- one request is sent
pub Tells-sent : {S A : Type 0} {m : Meaning S A} {told : Told} {old new : S} {from to : Posted} (to_whom : Target) (r : Request)
    → to ≡ record from { next = from.next + 1; sends = from.sends ++ Send from.next to_whom r ∷ [] }
    → ((h : List Event) → m.fits old from h × told.known h → m.asks old (told.hear h) r)
    → ((h : List Event) → m.fits old from h × told.known h → m.fits new to (Sent (ticket_of from from.next) r ∷ told.hear h))
    → SameJob m.asks m.gives new old
    → ((a : Awaited) → m.waits new a → (m.waits old a × (told.heard a → ⊥)) ⊎ IsPosted (Send from.next to_whom r ∷ []) a)
    → Tells m told old new from to Waits
Tells-sent {from} to_whom r e may is job waits = record {
  moves = Moves-sent to_whom r e may is;
  job = job;
  expects = record { sends = Send from.next to_whom r ∷ []; pushed = ap (λ (o : Posted). o.sends) e; only = waits };
}

-- one sleep is begun
pub Tells-slept : {S A : Type 0} {m : Meaning S A} {told : Told} {old new : S} {from to : Posted} (ms : ℕ)
    → to ≡ record from { next = from.next + 1; sends = from.sends ++ Sleep from.next ms ∷ [] }
    → ((h : List Event) → m.fits old from h × told.known h → m.fits new to (Began (ticket_of from from.next) ms ∷ told.hear h))
    → SameJob m.asks m.gives new old
    → ((a : Awaited) → m.waits new a → (m.waits old a × (told.heard a → ⊥)) ⊎ IsPosted (Sleep from.next ms ∷ []) a)
    → Tells m told old new from to Waits
Tells-slept {from = from} ms e is job waits = record {
  moves = Moves-slept ms e is;
  job = job;
  expects = record { sends = Sleep from.next ms ∷ []; pushed = ap (λ (o : Posted). o.sends) e; only = waits };
}

-- a timestamp is asked for
pub Tells-asked : {S A : Type 0} {m : Meaning S A} {told : Told} {old new : S} {from to : Posted}
    → to ≡ record from { next_ask = from.next_ask + 1; sends = from.sends ++ Ask from.next_ask ∷ [] }
    → ((h : List Event) → m.fits old from h × told.known h → m.fits new to (Asked (ticket_of from from.next_ask) ∷ told.hear h))
    → SameJob m.asks m.gives new old
    → ((a : Awaited) → m.waits new a → (m.waits old a × (told.heard a → ⊥)) ⊎ IsPosted (Ask from.next_ask ∷ []) a)
    → Tells m told old new from to Waits
Tells-asked {from = from} e is job waits = record {
  moves = Moves-asked e is;
  job = job;
  expects = record { sends = Ask from.next_ask ∷ []; pushed = ap (λ (o : Posted). o.sends) e; only = waits };
}

-- One call after another.

among_first : {X : Type 0} (xs ys : List X) (x : X) → IsAmong xs x → IsAmong (xs ++ ys) x
among_first [] ys x a = absurd a
among_first (z ∷ xs) ys x (inl a) = inl a
among_first (z ∷ xs) ys x (inr a) = inr (among_first xs ys x a)

among_second : {X : Type 0} (xs ys : List X) (x : X) → IsAmong ys x → IsAmong (xs ++ ys) x
among_second [] ys x a = a
among_second (z ∷ xs) ys x a = inr (among_second xs ys x a)

pub Expects-then : {was mid is heard : Awaited → Type 0} {from via to : Posted}
    → Expects was mid heard from via → Expects mid is (λ a. ⊥) via to → Expects was is heard from to
Expects-then {was} {mid} {is} {heard} {from} s t = record {
  sends = s.sends ++ t.sends;
  pushed = t.pushed ∙ ap (λ x. x ++ t.sends) s.pushed ∙ append_assoc from.sends s.sends t.sends;
  only = λ a w. elim (t.only a w) as (λ x. (was a × (heard a → ⊥)) ⊎ IsPosted (s.sends ++ t.sends) a) [
    | inl m ↦ elim (s.only a m.0) as (λ x. (was a × (heard a → ⊥)) ⊎ IsPosted (s.sends ++ t.sends) a) [
      | inl o ↦ inl o
      | inr p ↦ inr (p.0, among_first s.sends t.sends p.0 p.1, p.2)
    ]
    | inr p ↦ inr (p.0, among_second s.sends t.sends p.0 p.1, p.2)
  ];
}

-- the progress of a call that did not give up
pub is_kept_ok : {A : Type 0} (p : Progress A) → turn_of (Ok p) ≢ Stopped
is_kept_ok Waiting e = cc
is_kept_ok (Done v) e = cc

-- A call, and then another of the same state, which may rest on the answer of the first.
pub Tells-then : {S A B : Type 0} {m : Meaning S B} {told : Told} {old mid new : S} {from via to : Posted}
    {gives : List Event → A → Type 0} {p : Turn A} {turn : Turn B}
    → p ≢ Stopped
    → Moves (m.asks old) (λ h. m.fits old from h × told.known h) (m.fits mid via) gives told.hear from via p
    → SameJob m.asks m.gives mid old
    → Expects (m.waits old) (m.waits mid) told.heard from via
    → Tells m (further (λ h. IfEnds p (λ v. gives h v))) mid new via to turn
    → Tells m told old new from to turn
Tells-then {m = m} {told = told} {old = old} {mid = mid} {new = new} {from = from} {via = via} {to = to} {gives = gives} {p = p} {turn = turn} kept s job e t = record {
  moves = Moves-then s (Moves-before (λ h k. (IfKept-out p kept k.0, k.1)) (Moves-map {hear = λ h. h} Within-refl (λ h k. k) (λ h k l r a. t_asks l r a) (λ h k l w f. f) (λ h k l v g. job.given l v g) t.moves));
  job = SameJob-trans t.job job;
  expects = Expects-then e t.expects;
}
  where
    t_asks : (l : List Event) (r : Request) → m.asks mid l r → m.asks old l r
    t_asks l r a = job.asked l r a

-- the second clause of both
pub Goes-then : {S A B C : Type 0} {phase : S → Phase} {meant : Type 0} {old mid new : S} {from via to : Posted} {pd pd' pd'' : C} {turn : Turn B}
    → (p : Turn A) → p ≢ Stopped
    → Goes phase meant old mid from via pd pd' p
    → GoesOn phase p mid new via to pd' pd'' turn
    → Goes phase meant old new from to pd pd'' turn
Goes-then Stopped kept s t = absurd (kept refl)
Goes-then {phase = phase} {old = old} Waits kept s t = record {
  deaf = λ other. t.deaf refl ∙ sym (waits_only (phase old) Waits refl (s.deaf other));
  state = λ other. t.state refl ∙ s.state other;
  outbox = λ other. t.outbox refl ∙ s.outbox other;
  client = λ other. t.client refl ∙ s.client other;
  next = λ this. ap phase (t.state refl) ∙ (s.next this ∙ sym (ap phase_after (t.deaf refl)));
}
Goes-then {phase = phase} {old = old} (Ends a) kept s t = record {
  deaf = λ other. absurd (never_ends (phase old) a (s.deaf other));
  state = λ other. absurd (never_ends (phase old) a (s.deaf other));
  outbox = λ other. absurd (never_ends (phase old) a (s.deaf other));
  client = λ other. absurd (never_ends (phase old) a (s.deaf other));
  next = λ this. t.next tt;
}

-- what the second call may cost is what the first one's answer allows
pub Counts-then : {S B : Type 0} {m : Meaning S B} {bad fails first : Bool} {weight locked : ℕ} {old mid new : S} {from via to : Posted} {turn : Turn B}
    → (fails ≡ true → bad ≡ true)
    → Spends (m.bears old) (m.bears mid) (m.left old) (m.left mid) (m.round old) bad fails weight locked (m.width old) (m.width mid) from via true first
    → ((n : ℕ) → m.round mid n ≤ m.round old n)
    → Counts m first first 0 0 mid new via to turn
    → Counts m bad fails weight locked old new from to turn
Counts-then worse s fewer t = record {
  spends = Spends-then worse (λ e. e) (λ e. e) (λ n w u o. fewer n) s t.spends;
  fewer = λ n. le_trans (t.fewer n) (fewer n);
}

-- a state that answered is over
pub Goes-ended : {S A C : Type 0} {phase : S → Phase} {meant : Type 0} {old new : S} {from to : Posted} {pd pd' : C} (turn : Turn A)
    → Goes phase meant old new from to pd pd' turn → HasEnded turn → phase new ≡ Over
Goes-ended Stopped t e = absurd e
Goes-ended Waits t e = absurd e
Goes-ended {phase = phase} {old = old} {new = new} (Ends a) t e = over (phase new) (λ other. never_ends (phase old) a (t.deaf (λ this. other (t.next this))))
  where
    over : (p : Phase) → ((p ≡ Over → ⊥) → ⊥) → p ≡ Over
    over Fresh n = absurd (n (λ (q : Fresh ≡ Over). cc))
    over Running n = absurd (n (λ (q : Running ≡ Over). cc))
    over Over n = refl
    over GivenUp n = absurd (n (λ (q : GivenUp ≡ Over). cc))

-- an error of the region is an error
pub region_error_is_error : (o : Reply) → has_region_error o ≡ true → has_error o ≡ true
region_error_is_error o e = rw e refl
